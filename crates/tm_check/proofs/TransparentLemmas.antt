-- Where the fields of a struct and of an enum's variants are matched, they stand in its words, and end inside it.
use Rattle.std.proofs.Common.{◌≡◌, ℕ, ◌+◌, ◌≤◌, refl, sym, ◌∙◌, ap, Bool, true, false, ◌&&◌, if◌then◌else◌, nat_le, List, [], ◌∷◌, map, Option, None, Some, ℤ, arith}
use Rattle.std.specs.Option.{is_some}
use Rattle.std.proofs.lemmas.Bool.Decides.{nat_tests}
use Rattle.tm_base.specs.declared.answer.Why.{Why}
use Rattle.tm_base.specs.declared.definition.Kind.TheVariants.{Struct}
use Rattle.tm_base.specs.declared.definition.Repr.{Repr}
use Rattle.tm_base.specs.declared.ground.NamedId.{NamedId}
use Rattle.tm_base.specs.declared.profile.Profile.{Profile}
use Rattle.tm_base.specs.Cells.{Word}
use Rattle.tm_base.specs.Expanded.{Expanded, Fields, Variants, named, variant}
use Rattle.tm_base.specs.Faults.{has_cause, has_no_layout, has_two_sized, layout_fault, or_else, own_fault, sized_count, when}
use Rattle.tm_base.specs.Layout.{Layout, end_of, field_layouts, layout_of, places, size_of, tag_layout}
use Rattle.tm_base.specs.Parts.{some_part}
use Rattle.tm_base.specs.Places.{at_front, fields_place, first_place, variant_places}
use Rattle.tm_layout.proofs.TableLemmas.{first_false, second_false}
use Rattle.tm_check.specs.Begins.{fields_begin, struct_places}
use Rattle.tm_check.proofs.FieldLemmas.{fields-bare}
use Rattle.tm_layout.proofs.EndLemmas.{bare-end, bare-gapless, bare-size, struct-end}

no-either : (a b : Option Why) → is_some (or_else a b) ≡ false → (is_some a ≡ false) × (is_some b ≡ false)
no-either None b e = (refl, e)
no-either (Some why) b e = cc

no-when : (b : Bool) (why : Why) → is_some (when b why) ≡ false → b ≡ false
no-when true why e = cc
no-when false why e = refl

few-sized : (b : Bool) (n : ℕ) → (b && nat_le 2 n) ≡ false → b ≡ true → n ≤ 1
few-sized true n e h = grind (arith, nat_tests)
few-sized false n e h = cc

unshifted : (ps : List ℕ) → ps ≡ map (λ p. 0 + p) ps
unshifted [] = refl
unshifted (p ∷ ps) = let same : p ≡ 0 + p = omega arith in ap (λ (q : ℕ). q ∷ ps) same ∙ ap (λ qs. (0 + p) ∷ qs) (unshifted ps)

-- the fields of a variant stand so much further than in a struct of their own
pub stands : (profile : Profile) (repr : Repr) (vs : Variants)
    → (shift : ℕ) × ((ls : List Layout) → variant_places profile repr (fields_place profile repr vs) ls ≡ map (λ p. shift + p) (places None (first_place profile repr) ls)) × (fields_place profile repr vs ≡ shift + first_place profile repr)
stands profile repr vs = go repr.c refl where
  go : (c : Bool) → repr.c ≡ c
      → (shift : ℕ) × ((ls : List Layout) → variant_places profile repr (fields_place profile repr vs) ls ≡ map (λ p. shift + p) (places None (first_place profile repr) ls)) × (fields_place profile repr vs ≡ shift + first_place profile repr)
  go true e = (fields_place profile repr vs, (λ ls. rw e refl), (rw e (omega arith)))
  go false e = (0, (λ ls. rw e (unshifted (places None (tag_layout profile repr.tag).size ls))), (rw e (omega arith)))

module _ (A : ℕ → ℕ → Bool) (keep : Bool) (profile : Profile) (id : NamedId) (repr : Repr) (value : ℤ) (members : Fields) (others : Variants) where
  abbrev whole : Expanded
  whole = named profile id Struct repr (variant value members others)

  abbrev layouts : List Layout
  layouts = field_layouts members

  module _ (ok : has_no_layout whole ≡ false) where
    few : repr.transparent ≡ true → sized_count layouts ≤ 1
    unfolding layout_of
    few e =
        let layout = second_false (is_some (own_fault whole)) (is_some (layout_fault whole)) (first_false (has_cause whole) (some_part has_cause whole) ok) in
        let two = (no-either (when (has_two_sized whole) _) _ layout).0 in
        few-sized repr.transparent (sized_count layouts) (no-when (has_two_sized whole) _ two) e

    by_repr : (t : Bool) → repr.transparent ≡ t → (w : Word)
        → (fields_begin A keep 0 (places repr.packed 0 layouts) members w ≡ fields_begin A keep 0 (struct_places repr layouts) members w) × (end_of repr.packed 0 layouts ≤ 0 + size_of whole)
    unfolding layout_of
    by_repr true e w =
        let same : struct_places repr layouts ≡ at_front layouts = ap (λ b. (if b then at_front else places repr.packed 0) layouts) e in
        let end = bare-end repr.packed layouts (few e) in
        let size = bare-size profile id repr (variant value members others) e in (
          sym (fields-bare A keep repr.packed 0 0 members w (bare-gapless repr.packed layouts (few e))) ∙ ap (λ ps. fields_begin A keep 0 ps members w) (sym same),
          omega (arith, end, size),
        )
    by_repr false e w =
        let same : struct_places repr layouts ≡ places repr.packed 0 layouts = ap (λ b. (if b then at_front else places repr.packed 0) layouts) e in
        let end = struct-end profile id repr (variant value members others) e in
        (ap (λ ps. fields_begin A keep 0 ps members w) (sym same), omega (arith, end))

    -- a struct's fields are matched where they stand, and end inside it
    pub struct_placed : (w : Word)
        → (fields_begin A keep 0 (places repr.packed 0 layouts) members w ≡ fields_begin A keep 0 (struct_places repr layouts) members w) × (end_of repr.packed 0 layouts ≤ 0 + size_of whole)
    struct_placed w = by_repr repr.transparent refl w
