-- In a type over a world each number that is written names a row of the world; so it is in its parts, and
-- in what its references point to.
use Rattle.std.proofs.Common.{◌≡◌, ℕ, ◌<◌, refl, sym, ◌∙◌, ap, subst, Bool, true, ◌&&◌, List, [], ◌∷◌, ◌++◌, map, length, Some, slice_get, nat_lt}
use Rattle.std.specs.List.{All, list_all, flat_map, range_with_len}
use Rattle.std.proofs.lemmas.Bool.{and_parts}
use Rattle.std.proofs.lemmas.Bool.Decides.{Decides-ltb}
use Rattle.std.proofs.lemmas.List.Elements.{All-nil, All-cons}
use Rattle.std.proofs.lemmas.List.Folds.{list_all-append, list_all-map}
use Rattle.tm_base.specs.declared.definition.NamedRow.{NamedRow}
use Rattle.tm_base.specs.declared.definition.RefRow.{RefRow}
use Rattle.tm_base.specs.declared.ground.Ground.{Ground, out-Ground, roll-Ground, roll-out-Ground, Named, Tuple, Array, Wrap}
use Rattle.tm_base.specs.declared.ground.Ground.TheOpen.{Ground-F}
use Rattle.tm_base.specs.declared.world.World.{World}
use Rattle.tm_base.specs.Parts.{is_whole}
use Rattle.tm_base.specs.Expanded.{expanded}
use Rattle.tm_base.specs.Spelled.{ends, spelled}
use Rattle.tm_base.specs.Whole.{written_types, is_head_in_form, is_type_over, is_type_in_form, are_types_in_form}
use Rattle.tm_base.specs.Worlds.{tables_of, IsTypeOver}
use Rattle.tm_base.proofs.GroundLemmas.{written_types-Tuple, written_types-Array, written_types-Wrap}
use Rattle.tm_base.proofs.WorldLemmas.{list_all-at, list_all-flat_map}

list_all-weaker : {X : Type 0} (p q : X → Bool) → ((x : X) → p x ≡ true → q x ≡ true) → (xs : List X) → list_all p xs ≡ true → list_all q xs ≡ true
list_all-weaker p q each [] h = refl
list_all-weaker p q each (x ∷ xs) h =
    let both = and_parts (p x) (list_all p xs) h in
    let first = each x both.0 in
    let others = list_all-weaker p q each xs both.1 in
    cc

-- what passes in a list holds in it
pub All-from_list_all : {X : Type 0} (p : X → Bool) (P : X → Type 0) → ((x : X) → p x ≡ true → P x) → (xs : List X) → list_all p xs ≡ true → All P xs
All-from_list_all p P each [] h = All-nil P
All-from_list_all p P each (x ∷ xs) h =
    let both = and_parts (p x) (list_all p xs) h in
    All-cons P x xs (each x both.0) (All-from_list_all p P each xs both.1)

module _ (named refs : ℕ) where
  -- the head of each type that is written in this one is in form
  abbrev pub formed : Ground → Bool
  formed g = list_all (λ h. is_head_in_form named refs (out-Ground h)) (written_types g)

  -- and what that says of the type's parts and numbers
  abbrev pub PartsFormed : Ground-F Ground → Type 0
  PartsFormed (Ground-F.Tuple gs) = list_all formed gs ≡ true
  PartsFormed (Ground-F.Array g n) = formed g ≡ true
  PartsFormed (Ground-F.Named id) = id.0 < named
  PartsFormed (Ground-F.Wrap w g) = formed g ≡ true
  PartsFormed (Ground-F.Ref r) = r.0 < refs
  PartsFormed _ = Unit {0}

  abbrev passes_head : Ground → Bool
  passes_head h = is_head_in_form named refs (out-Ground h)

  rolled-formed : (x : Ground-F Ground) → formed (roll-Ground x) ≡ true → PartsFormed x
  unfolding roll-Ground written_types out-Ground denote.Hole.Carrier.out denote.Hole.Carrier.roll
  rolled-formed (Ground-F.Tuple gs) h =
      let all = ap (list_all passes_head) (sym (written_types-Tuple gs)) ∙ h in
      sym (list_all-flat_map passes_head written_types gs) ∙ (and_parts (passes_head (Tuple gs)) (list_all passes_head (flat_map written_types gs)) all).1
  rolled-formed (Ground-F.Array g n) h =
      let all = ap (list_all passes_head) (sym (written_types-Array g n)) ∙ h in
      (and_parts (passes_head (Array g n)) (formed g) all).1
  rolled-formed (Ground-F.Wrap w g) h =
      let all = ap (list_all passes_head) (sym (written_types-Wrap w g)) ∙ h in
      (and_parts (passes_head (Wrap w g)) (formed g) all).1
  rolled-formed (Ground-F.Named id) h = (Decides-ltb id.0 named).0 (and_parts (nat_lt id.0 named) true h).0
  rolled-formed (Ground-F.Ref r) h = (Decides-ltb r.0 refs).0 (and_parts (nat_lt r.0 refs) true h).0
  rolled-formed (Ground-F.Prim p) h = tt
  rolled-formed Ground-F.Never h = tt
  rolled-formed Ground-F.Unit h = tt
  rolled-formed (Ground-F.NonZero p) h = tt

  -- what is written in a type is in form in its parts
  pub formed-level : (g : Ground) → formed g ≡ true → PartsFormed (out-Ground g)
  formed-level g h = rolled-formed (out-Ground g) (subst (λ (k : Ground). formed k ≡ true) (sym (roll-out-Ground g)) h)

module _ (world : World) where
  -- the numbers in a type are the world's
  abbrev pub IsFormed : Ground → Type 0
  IsFormed g = formed (length world.named) (length world.refs) g ≡ true

  abbrev is_formed : Ground → Bool
  is_formed = formed (length world.named) (length world.refs)

  abbrev passes : Ground → Bool
  passes = is_type_in_form world.profile world.defs world.named world.refs

  passes_formed : (g : Ground) → passes g ≡ true → is_head_in_form (length world.named) (length world.refs) (out-Ground g) ≡ true
  passes_formed g h =
      (and_parts (is_head_in_form (length world.named) (length world.refs) (out-Ground g)) (is_whole (expanded world.profile world.defs world.named g))
      (and_parts (is_head_in_form (length world.named) (length world.refs) (out-Ground g) && is_whole (expanded world.profile world.defs world.named g)) (ends (spelled world.named world.refs g)) h).0).0

  written_formed : (gs : List Ground) → list_all passes (flat_map written_types gs) ≡ true → list_all is_formed gs ≡ true
  written_formed gs h =
      list_all-weaker (λ g. list_all passes (written_types g)) is_formed
      (λ g. list_all-weaker passes (λ k. is_head_in_form (length world.named) (length world.refs) (out-Ground k)) passes_formed (written_types g)) gs
      (sym (list_all-flat_map passes written_types gs) ∙ h)

  abbrev arguments : List Ground
  arguments = flat_map (λ row. row.args) world.named

  abbrev fields : List Ground
  fields = flat_map (λ row. flat_map (λ types. types) row.types) world.named

  abbrev pointees : List Ground
  pointees = map (λ row. row.pointee) world.refs

  abbrev asked : List Ground
  asked = flat_map (λ ask. ask.src ∷ ask.dst ∷ []) world.questions

  abbrev names : List Ground
  names = map (λ k. Named (record { 0 = k })) (range_with_len 0 (length world.named))

  all_written : list_all passes (names ++ flat_map written_types (arguments ++ fields ++ pointees ++ asked)) ≡ true
  unfolding are_types_in_form
  all_written = world.types_in_form

  all_formed : list_all is_formed (arguments ++ fields ++ pointees ++ asked) ≡ true
  all_formed =
      written_formed (arguments ++ fields ++ pointees ++ asked)
      (and_parts (list_all passes names) _ (sym (list_all-append passes names _) ∙ all_written)).1

  both_formed : (xs ys : List Ground) → list_all is_formed (xs ++ ys) ≡ true → (list_all is_formed xs ≡ true) × (list_all is_formed ys ≡ true)
  both_formed xs ys h = and_parts (list_all is_formed xs) (list_all is_formed ys) (sym (list_all-append is_formed xs ys) ∙ h)

  without_asked : list_all is_formed (arguments ++ fields ++ pointees) ≡ true
  without_asked = (both_formed (arguments ++ fields ++ pointees) asked all_formed).0

  fields_and_pointees : (list_all is_formed fields ≡ true) × (list_all is_formed pointees ≡ true)
  fields_and_pointees =
      let (in_names, in_refs) = both_formed (arguments ++ fields) pointees without_asked in
      ((both_formed arguments fields in_names).1, in_refs)

  -- the types of a named type's fields are the world's
  pub row-formed : (k : ℕ) (row : NamedRow) → slice_get world.named k ≡ Some row → list_all (list_all is_formed) row.types ≡ true
  row-formed k row e =
      sym (list_all-flat_map is_formed (λ (types : List Ground). types) row.types)
      ∙ list_all-at (λ one. list_all is_formed (flat_map (λ types. types) one.types)) world.named k row
      (sym (list_all-flat_map is_formed (λ one. flat_map (λ types. types) one.types) world.named) ∙ fields_and_pointees.0) e

  -- and what a reference points to is
  pub pointee-formed : (k : ℕ) (row : RefRow) → slice_get world.refs k ≡ Some row → IsFormed row.pointee
  pointee-formed k row e =
      list_all-at (λ one. is_formed one.pointee) world.refs k row
      (sym (list_all-map is_formed (λ one. one.pointee) world.refs) ∙ fields_and_pointees.1) e

  -- a type over the world is
  pub over-formed : (g : Ground) → IsTypeOver (tables_of world) g → IsFormed g
  unfolding is_type_over
  over-formed g h = (and_parts (is_formed g) (is_whole (expanded world.profile world.defs world.named g)) h).0
