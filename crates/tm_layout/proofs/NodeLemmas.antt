-- How many parts a type has by value, at any depth: it falls from each type to its parts.
use Rattle.std.proofs.Common.{◌≡◌, ℕ, zero, suc, ◌+◌, ◌<◌, ◌≤◌, refl, ap, true, List, [], ◌∷◌, length, get_or, arith}
use Rattle.tm_base.specs.declared.definition.Field.{Field}
use Rattle.tm_base.specs.declared.definition.Variant.{Variant}
use Rattle.tm_base.specs.declared.ground.Ground.{Ground}
use Rattle.tm_base.specs.Expanded.{Expanded, Fields, Variants, tuple, array, wrap, named, no_fields, field, no_variants, variant, elements, fields_of, variants_of}
use Rattle.tm_base.specs.Tables.{Tables, expanded_in}
use Rattle.tm_base.specs.Whole.{has_its_types}
use Rattle.tm_layout.proofs.RowLemmas.{first_true, second_true}
use Rattle.std.proofs.lemmas.Bool.{eqb-true}

-- some more for each type around others, so that it falls from each step of the making to the next
unfoldable mutual
  pub nodes_of : Expanded → ℕ
  nodes_of (tuple members) = 3 + field_nodes members
  nodes_of (array t n) = 3 + nodes_of t
  nodes_of (wrap w t) = 3 + nodes_of t
  nodes_of (named profile id kind repr variants) = 5 + variant_nodes variants
  nodes_of _ = 1

  pub field_nodes : Fields → ℕ
  field_nodes no_fields = 0
  field_nodes (field public t rest) = nodes_of t + field_nodes rest

  pub variant_nodes : Variants → ℕ
  variant_nodes no_variants = 0
  variant_nodes (variant value members rest) = field_nodes members + variant_nodes rest

module _ (tables : Tables) where
  abbrev pub nodes_in : Ground → ℕ
  nodes_in g = nodes_of (expanded_in tables g)

  -- those of some types together
  abbrev pub all_nodes : List Ground → ℕ
  all_nodes [] = 0
  all_nodes (g ∷ gs) = nodes_in g + all_nodes gs

  -- those of the fields of some variants together
  abbrev pub row_nodes : List (List Ground) → ℕ
  row_nodes [] = 0
  row_nodes (gs ∷ types) = all_nodes gs + row_nodes types

  pub nodes_at : (gs : List Ground) (i : ℕ) (other : Ground) → i < length gs → nodes_in (get_or gs i other) ≤ all_nodes gs
  nodes_at [] i other h = absurd (omega arith)
  nodes_at (g ∷ gs) zero other h = omega arith
  nodes_at (g ∷ gs) (suc i) other h = let rest = nodes_at gs i other (omega arith) in omega arith

  pub row_nodes_at : (types : List (List Ground)) (i : ℕ) (other : List Ground) → i < length types → all_nodes (get_or types i other) ≤ row_nodes types
  row_nodes_at [] i other h = absurd (omega arith)
  row_nodes_at (gs ∷ types) zero other h = omega arith
  row_nodes_at (gs ∷ types) (suc i) other h = let rest = row_nodes_at types i other (omega arith) in omega arith

  pub element-nodes : (gs : List Ground) → field_nodes (elements (expanded_in tables) gs) ≡ all_nodes gs
  unfolding nodes_of
  element-nodes [] = refl
  element-nodes (g ∷ gs) = ap (λ n. nodes_in g + n) (element-nodes gs)

  fields-nodes : (fs : List Field) (gs : List Ground) → length fs ≡ length gs → field_nodes (fields_of (expanded_in tables) fs gs) ≡ all_nodes gs
  unfolding nodes_of
  fields-nodes [] [] e = refl
  fields-nodes [] (g ∷ gs) e = absurd (omega arith)
  fields-nodes (f ∷ fs) [] e = absurd (omega arith)
  fields-nodes (f ∷ fs) (g ∷ gs) e = ap (λ n. nodes_in g + n) (fields-nodes fs gs (omega arith))

  pub variants-nodes : (vs : List Variant) (types : List (List Ground)) → has_its_types vs types ≡ true → variant_nodes (variants_of (expanded_in tables) vs types) ≡ row_nodes types
  unfolding nodes_of
  variants-nodes [] [] h = refl
  variants-nodes [] (gs ∷ types) h = cc
  variants-nodes (v ∷ vs) [] h = cc
  variants-nodes (v ∷ vs) (gs ∷ types) h =
      let here = fields-nodes v.fields gs (eqb-true (length v.fields) (length gs) (first_true _ (has_its_types vs types) h)) in
      let rest = variants-nodes vs types (second_true _ (has_its_types vs types) h) in
      cc
