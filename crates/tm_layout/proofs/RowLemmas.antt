-- A named type and its fields, and what is known of them.
use Rattle.std.proofs.Common.{◌≡◌, ℕ, ◌+◌, ◌<◌, ◌≤◌, refl, sym, ◌∙◌, ap, subst, Bool, true, false, ◌&&◌, ◌==◌, List, [], ◌∷◌, ◌++◌, length, get_or, take, Some, slice_get, arith}
use Rattle.std.proofs.lemmas.Bool.{eqb-true}
use Rattle.std.proofs.lemmas.List.{take_more, take_all}
use Rattle.tm_base.specs.declared.definition.Def.{Def}
use Rattle.tm_base.specs.declared.definition.Field.{Field}
use Rattle.tm_base.specs.declared.definition.NamedRow.{NamedRow}
use Rattle.tm_base.specs.declared.definition.Variant.{Variant}
use Rattle.tm_base.specs.declared.ground.Ground.{Ground, Named}
use Rattle.tm_base.specs.declared.ground.Ground.TheVariants as ground_is
use Rattle.tm_base.specs.declared.ground.NamedId.{NamedId}
use Rattle.tm_base.specs.Expanded.{Expanded, named, fields_of, variants_of, defined, row_of, level}
use Rattle.tm_base.specs.Parts.{field_count}
use Rattle.tm_base.specs.Tables.{Tables, expanded_in}
use Rattle.tm_base.specs.Whole.{has_its_types}
use Rattle.tm_base.proofs.ExpandedLemmas.{expanded-level}
use Rattle.tm_layout.specs.declared.facts.Facts.{Facts}
use Rattle.tm_layout.specs.Known.{AreFactsOf, AreVariantFacts, AreVariantsFor}
use Rattle.tm_layout.specs.Making.{AreFactsFor, EachMatches, IsWrittenOut}

-- one item more on each side
matches-append : {X Y : Type 0} (Fact : X → Y → Type 0) (xs : List X) (ys : List Y) (x : X) (y : Y) → EachMatches Fact xs ys → Fact x y → EachMatches Fact (xs ++ x ∷ []) (ys ++ y ∷ [])
matches-append Fact [] [] x y all h = (h, tt)
matches-append Fact [] (b ∷ ys) x y all h = absurd all
matches-append Fact (a ∷ xs) [] x y all h = absurd all
matches-append Fact (a ∷ xs) (b ∷ ys) x y (here, rest) h = (here, matches-append Fact xs ys x y rest h)

pub matches-more : {X Y : Type 0} (Fact : X → Y → Type 0) (xs : List X) (ys : List Y) (i : ℕ) (x : X) (y : Y) → i < length xs → x ≡ get_or xs i x
    → EachMatches Fact (take i xs) ys → Fact x y → EachMatches Fact (take (i + 1) xs) (ys ++ y ∷ [])
matches-more Fact xs ys i x y below e all h =
    let next : take (i + 1) xs ≡ take i xs ++ x ∷ [] = take_more xs i x below ∙ ap (λ z. take i xs ++ z ∷ []) (sym e) in
    subst (λ zs. EachMatches Fact zs (ys ++ y ∷ [])) (sym next) (matches-append Fact (take i xs) ys x y all h)

pub matches-end : {X Y : Type 0} (Fact : X → Y → Type 0) (xs : List X) (ys : List Y) (i : ℕ) → length xs ≤ i → EachMatches Fact (take i xs) ys → EachMatches Fact xs ys
matches-end Fact xs ys i past all = subst (λ zs. EachMatches Fact zs ys) (take_all i xs past) all

pub first_true : (a b : Bool) → (a && b) ≡ true → a ≡ true
first_true true b h = refl
first_true false b h = cc

pub second_true : (a b : Bool) → (a && b) ≡ true → b ≡ true
second_true true b h = h
second_true false b h = cc

module _ (tables : Tables) where
  abbrev part : Ground → Expanded
  part = expanded_in tables

  fields-count : (fs : List Field) (gs : List Ground) → length fs ≡ length gs → length fs ≡ field_count (fields_of part fs gs)
  fields-count [] gs e = refl
  fields-count (f ∷ fs) [] e = absurd (omega arith)
  fields-count (f ∷ fs) (g ∷ gs) e = let rest = fields-count fs gs (omega arith) in omega arith

  -- the variants of a row are those of its definition
  pub variants-for : (vs : List Variant) (types : List (List Ground)) → has_its_types vs types ≡ true → AreVariantsFor vs (variants_of part vs types)
  variants-for [] types h = tt
  variants-for (v ∷ vs) [] h = cc
  variants-for (v ∷ vs) (gs ∷ types) h =
      let same = eqb-true (length v.fields) (length gs) (first_true (length v.fields == length gs) (has_its_types vs types) h) in
      (refl, fields-count v.fields gs same, variants-for vs types (second_true (length v.fields == length gs) (has_its_types vs types) h))

  fields-facts : (fs : List Field) (gs : List Ground) (facts : List Facts) → length fs ≡ length gs → AreFactsFor tables gs facts → AreFactsOf (fields_of part fs gs) facts
  fields-facts [] [] [] e all = tt
  fields-facts [] [] (f ∷ facts) e all = absurd all
  fields-facts [] (g ∷ gs) facts e all = absurd (omega arith)
  fields-facts (x ∷ fs) [] facts e all = absurd (omega arith)
  fields-facts (x ∷ fs) (g ∷ gs) [] e all = absurd all
  fields-facts (x ∷ fs) (g ∷ gs) (f ∷ facts) e (here, rest) = (here, fields-facts fs gs facts (omega arith) rest)

  -- the facts of its types are those of the fields
  pub variants-facts : (vs : List Variant) (types : List (List Ground)) (facts : List (List Facts)) → has_its_types vs types ≡ true
      → EachMatches (AreFactsFor tables) types facts → AreVariantFacts (variants_of part vs types) facts
  variants-facts [] [] [] h all = tt
  variants-facts [] [] (f ∷ facts) h all = absurd all
  variants-facts [] (gs ∷ types) facts h all = cc
  variants-facts (v ∷ vs) [] facts h all = cc
  variants-facts (v ∷ vs) (gs ∷ types) [] h all = absurd all
  variants-facts (v ∷ vs) (gs ∷ types) (f ∷ facts) h (here, rest) =
      let same = eqb-true (length v.fields) (length gs) (first_true (length v.fields == length gs) (has_its_types vs types) h) in
      (fields-facts v.fields gs f same here, variants-facts vs types facts (second_true (length v.fields == length gs) (has_its_types vs types) h) rest)

  -- a whole named type, written out one level
  pub named-level : (id : NamedId) (row : NamedRow) (def : Def) → IsWrittenOut tables (Named id) → slice_get tables.named id.0 ≡ Some row → slice_get tables.defs row.def.0 ≡ Some def
      → expanded_in tables (Named id) ≡ named tables.profile id def.kind def.repr (variants_of part def.variants row.types)
  named-level id row def whole at of_def =
      expanded-level tables.profile tables.defs tables.named (Named id) whole.whole
      ∙ ap (level part tables.profile tables.defs tables.named) (ground_is.outs-Named id)
      ∙ ap (row_of part tables.profile tables.defs id) at
      ∙ ap (defined part tables.profile id row.types) of_def
