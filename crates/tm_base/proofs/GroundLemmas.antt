-- What the functions on types give at each kind of type that holds others.
use Rattle.std.proofs.Common.{◌≡◌, ℕ, refl, ap, ◌∙◌, List, ◌∷◌, ◌++◌, append-nil}
use Rattle.std.specs.List.{flat_map}
use Rattle.tm_base.specs.declared.cell.RefId.{RefId}
use Rattle.tm_base.specs.declared.ground.Ground.{Ground, Row_of-Ground, end_of-Ground, more_of-Ground, items-the_row-Ground, items_hidden-the_row-Ground-0, Tuple, Array, Wrap}
use Rattle.tm_base.specs.declared.ground.Ground.TheBlock.{hidden-the_row-Ground-0, shape-the_row-Ground-1, hidden-the_row-Ground-1}
use Rattle.tm_base.specs.declared.ground.NamedId.{NamedId}
use Rattle.tm_base.specs.declared.ground.Wrapper.{Wrapper}
use Rattle.tm_base.specs.Spelled.{Spelled, element, tuple, array, wrap, spell, spell_all, spelled_all}
use Rattle.tm_base.specs.Whole.{written_types, row_types}

row_types-row : {n : _} (row : Row_of-Ground n) → row_types row ≡ flat_map written_types (items-the_row-Ground n row)
unfolding written_types
row_types-row end_of-Ground = refl
row_types-row (more_of-Ground g gs) = ap (λ others. written_types g ++ others) (row_types-row gs)

pub written_types-Tuple : (gs : List Ground) → written_types (Tuple gs) ≡ Tuple gs ∷ flat_map written_types gs
unfolding written_types
written_types-Tuple gs =
    ap (λ others. Tuple gs ∷ others) (row_types-row (hidden-the_row-Ground-0 gs) ∙ ap (flat_map written_types) (items_hidden-the_row-Ground-0 gs))

pub written_types-Array : (g : Ground) (n : ℕ) → written_types (Array g n) ≡ Array g n ∷ written_types g
unfolding written_types shape-the_row-Ground-1 hidden-the_row-Ground-1 denote.Hole.Carrier.hidden
written_types-Array g n = ap (λ others. Array g n ∷ others) (append-nil (written_types g))

pub written_types-Wrap : (w : Wrapper) (g : Ground) → written_types (Wrap w g) ≡ Wrap w g ∷ written_types g
unfolding written_types shape-the_row-Ground-1 hidden-the_row-Ground-1 denote.Hole.Carrier.hidden
written_types-Wrap w g = ap (λ others. Wrap w g ∷ others) (append-nil (written_types g))

module _ (name : NamedId → Spelled) (reference : RefId → Spelled) where
  spell_all-row : {n : _} (row : Row_of-Ground n) → spell_all name reference row ≡ spelled_all (spell name reference) (items-the_row-Ground n row)
  unfolding spell
  spell_all-row end_of-Ground = refl
  spell_all-row (more_of-Ground g gs) = ap (λ others. element (spell name reference g) others) (spell_all-row gs)

  pub spell-Tuple : (gs : List Ground) → spell name reference (Tuple gs) ≡ tuple (spelled_all (spell name reference) gs)
  unfolding spell
  spell-Tuple gs =
      ap tuple (spell_all-row (hidden-the_row-Ground-0 gs) ∙ ap (spelled_all (spell name reference)) (items_hidden-the_row-Ground-0 gs))

  pub spell-Array : (g : Ground) (n : ℕ) → spell name reference (Array g n) ≡ array (spell name reference g) n
  unfolding spell shape-the_row-Ground-1 hidden-the_row-Ground-1 denote.Hole.Carrier.hidden
  spell-Array g n = refl

  pub spell-Wrap : (w : Wrapper) (g : Ground) → spell name reference (Wrap w g) ≡ wrap w (spell name reference g)
  unfolding spell shape-the_row-Ground-1 hidden-the_row-Ground-1 denote.Hole.Carrier.hidden
  spell-Wrap w g = refl
