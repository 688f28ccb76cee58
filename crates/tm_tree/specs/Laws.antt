-- What the trees of types are, as laws of the definitions.
use Rattle.std.specs.Prelude.{◌≡◌, ◌≤◌, ◌*◌, ◌↔◌, ℕ, Bool, false, true, Some, List, slice_get}
use Rattle.std.specs.List.{list_all}
use Rattle.tm_base.specs.declared.definition.Def.{Def}
use Rattle.tm_base.specs.declared.ground.Ground.{Ground}
use Rattle.tm_base.specs.declared.profile.Profile.{Profile}
use Rattle.tm_base.specs.Cells.{Word}
use Rattle.tm_base.specs.Expanded.{Expanded}
use Rattle.tm_base.specs.Faults.{has_no_layout}
use Rattle.tm_base.specs.Parts.{HasNoAlternatives}
use Rattle.tm_base.specs.Profiles.{pointer_size}
use Rattle.tm_base.specs.Shapes.{leaves_of, HasNoChoice}
use Rattle.tm_base.specs.Tables.{Tables, expanded_in}
use Rattle.tm_base.specs.Transmutes.{holds}
use Rattle.tm_base.specs.Trees.{TreeWord}
use Rattle.tm_base.specs.Valid.{Valid}
use Rattle.tm_base.specs.Weight.{weight_of}
use Rattle.tm_base.specs.Whole.{is_value_in_form}
use Rattle.tm_tree.specs.Parts.{tree_for}

-- each definition's discriminants are in form
abbrev pub HasValues : Profile → List Def → Type 0
HasValues profile defs = (k : ℕ) (def : Def) → slice_get defs k ≡ Some def → list_all (λ v. is_value_in_form profile def.repr.tag v.value) def.variants ≡ true

abbrev pub WordsAreValid : Type 0
WordsAreValid =
    (tables : Tables) (g : Ground) → HasValues tables.profile tables.defs → has_no_layout (expanded_in tables g) ≡ false
    → (A : ℕ → ℕ → Bool) (keep : Bool) (w : Word) → TreeWord (pointer_size tables.profile) (holds A) keep (tree_for (expanded_in tables g)) w ↔ Valid (holds A) keep (expanded_in tables g) w

abbrev pub LeavesAreFew : Type 0
LeavesAreFew =
    (tables : Tables) (g : Ground) → HasValues tables.profile tables.defs → has_no_layout (expanded_in tables g) ≡ false
    → leaves_of (pointer_size tables.profile) (tree_for (expanded_in tables g)) ≤ weight_of (expanded_in tables g) * 80

abbrev pub AlternativesAreKept : Type 0
AlternativesAreKept = (t : Expanded) → HasNoAlternatives t → HasNoChoice (tree_for t)
