-- Fields end inside the type that they are in.
use Rattle.std.proofs.Common.{◌≡◌, ℕ, zero, suc, ◌+◌, ◌-◌, ◌≤◌, refl, sym, ap, subst, ◌∙◌, Bool, true, false, if◌then◌else◌, Option, None, Some, List, [], ◌∷◌, arith}
use Rattle.std.proofs.lemmas.Bool.Decides.{nat_tests}
use Rattle.tm_base.specs.declared.definition.Kind.TheVariants.{Struct, Union, Enum}
use Rattle.tm_base.specs.declared.definition.Repr.{Repr}
use Rattle.tm_base.specs.declared.ground.NamedId.{NamedId}
use Rattle.tm_base.specs.declared.profile.Profile.{Profile}
use Rattle.tm_base.specs.Expanded.{Variants, named}
use Rattle.tm_base.specs.Faults.{sized_count}
use Rattle.tm_base.specs.Layout.{Layout, end_of, greatest_align, greatest_size, is_trivial, layout_of, lowered, only, place_at, round_up, size_of, struct_layout, structs, tag_layout, transparent_layout, union_layout, variant_layouts}
use Rattle.tm_base.specs.Places.{fields_place, first_place}
use Rattle.tm_base.proofs.LayoutLemmas.{first-front, round_up-exact, round_up-zero, tagged-end}

pub round_up-above : (n a : ℕ) → n ≤ round_up n a
round_up-above n a = omega arith

pub place-above : (packed : Option ℕ) (at : ℕ) (l : Layout) → at ≤ place_at packed at l
place-above packed at l = round_up-above at (lowered packed l.align)

pub end-above : (packed : Option ℕ) (at : ℕ) (ls : List Layout) → at ≤ end_of packed at ls
end-above packed at [] = omega arith
end-above packed at (l ∷ ls) =
    let place = place-above packed at l in
    let behind = end-above packed (place_at packed at l + l.size) ls in
    omega arith

-- ---- structs

-- fields of a struct that isn't transparent end inside it
pub struct-end : (profile : Profile) (id : NamedId) (repr : Repr) (variants : Variants) → repr.transparent ≡ false
    → end_of repr.packed 0 (only (variant_layouts variants)) ≤ size_of (named profile id Struct repr variants)
unfolding layout_of
struct-end profile id repr variants e =
    rw e (round_up-above (end_of repr.packed 0 (only (variant_layouts variants))) (struct_layout repr.packed repr.align (only (variant_layouts variants))).align)

pub bare-size : (profile : Profile) (id : NamedId) (repr : Repr) (variants : Variants) → repr.transparent ≡ true
    → size_of (named profile id Struct repr variants) ≡ (transparent_layout (only (variant_layouts variants))).size
unfolding layout_of
bare-size profile id repr variants e = rw e refl

-- each field stands where the one before it ends
unfoldable pub NoGap : Option ℕ → ℕ → List Layout → Type 0
NoGap packed at [] = Unit {0}
NoGap packed at (l ∷ ls) = (place_at packed at l ≡ at) × NoGap packed (at + l.size) ls

lowered-one : (packed : Option ℕ) → lowered packed 1 ≤ 1
lowered-one None = omega arith
lowered-one (Some n) = omega arith

round-small : (at a : ℕ) → a ≤ 1 → round_up at a ≡ at
round-small at zero h = omega arith
round-small at (suc zero) h = round_up-exact at 1 (omega arith)
round-small at (suc (suc a)) h = absurd (omega arith)

trivial-is : (l : Layout) → is_trivial l ≡ true → (l.size ≡ 0) × (l.align ≡ 1)
trivial-is l e = (grind (arith, nat_tests), grind (arith, nat_tests))

trivial-place : (packed : Option ℕ) (at : ℕ) (l : Layout) → is_trivial l ≡ true → place_at packed at l ≡ at
trivial-place packed at l e =
    let (none, one) = trivial-is l e in
    ap (λ (a : ℕ). round_up at (lowered packed a)) one ∙ round-small at (lowered packed 1) (lowered-one packed)

-- where no field takes room, none leaves a gap, and the last ends where the first stands
record AreBare (packed : Option ℕ) (at size : ℕ) (ls : List Layout) : Type 0 where
  gapless : NoGap packed at ls
  sizes : end_of packed at ls ≡ at + size

trivial-step : (packed : Option ℕ) (at : ℕ) (l : Layout) (ls : List Layout) (b : Bool) → is_trivial l ≡ b → (sized_count ls ≡ 0 → AreBare packed at 0 ls)
    → (if b then 0 else 1) + sized_count ls ≡ 0 → AreBare packed at 0 (l ∷ ls)
unfolding NoGap
trivial-step packed at l ls true e rest h =
    let (none, one) = trivial-is l e in
    let place = trivial-place packed at l e in
    let behind = rest (omega arith) in
    let next : at + l.size ≡ at = omega arith in
    let moved : place_at packed at l + l.size ≡ at = omega arith in
    record {
      gapless = (place, subst (λ (n : ℕ). NoGap packed n ls) (sym next) behind.gapless);
      sizes = ap (λ (n : ℕ). end_of packed n ls) moved ∙ behind.sizes;
    }
trivial-step packed at l ls false e rest h = absurd (omega arith)

all-trivial : (packed : Option ℕ) (at : ℕ) (ls : List Layout) → sized_count ls ≡ 0 → AreBare packed at 0 ls
unfolding NoGap
all-trivial packed at [] h = record { gapless = tt; sizes = omega arith }
all-trivial packed at (l ∷ ls) h = trivial-step packed at l ls (is_trivial l) refl (all-trivial packed at ls) h

bare-step : (packed : Option ℕ) (l : Layout) (ls : List Layout) (b : Bool) → is_trivial l ≡ b → (sized_count ls ≤ 1 → AreBare packed 0 (transparent_layout ls).size ls)
    → (if b then 0 else 1) + sized_count ls ≤ 1 → AreBare packed 0 (if b then transparent_layout ls else l).size (l ∷ ls)
unfolding NoGap
bare-step packed l ls true e rest h =
    let (none, one) = trivial-is l e in
    let place = trivial-place packed 0 l e in
    let behind = rest (omega arith) in
    let next : 0 + l.size ≡ 0 = omega arith in
    let moved : place_at packed 0 l + l.size ≡ 0 = omega arith in
    record {
      gapless = (place, subst (λ (n : ℕ). NoGap packed n ls) (sym next) behind.gapless);
      sizes = ap (λ (n : ℕ). end_of packed n ls) moved ∙ behind.sizes;
    }
bare-step packed l ls false e rest h =
    let place : place_at packed 0 l ≡ 0 = round_up-zero (lowered packed l.align) in
    let behind = all-trivial packed (0 + l.size) ls (omega arith) in
    let moved : place_at packed 0 l + l.size ≡ 0 + l.size = omega arith in
    record {
      gapless = (place, behind.gapless);
      sizes = ap (λ (n : ℕ). end_of packed n ls) moved ∙ behind.sizes ∙ omega arith;
    }

bare : (packed : Option ℕ) (ls : List Layout) → sized_count ls ≤ 1 → AreBare packed 0 (transparent_layout ls).size ls
unfolding NoGap
bare packed [] h = record { gapless = tt; sizes = refl }
bare packed (l ∷ ls) h = bare-step packed l ls (is_trivial l) refl (bare packed ls) h

pub bare-gapless : (packed : Option ℕ) (ls : List Layout) → sized_count ls ≤ 1 → NoGap packed 0 ls
bare-gapless packed ls h = (bare packed ls h).gapless

pub bare-end : (packed : Option ℕ) (ls : List Layout) → sized_count ls ≤ 1 → end_of packed 0 ls ≡ (transparent_layout ls).size
bare-end packed ls h = (bare packed ls h).sizes ∙ omega arith

-- ---- unions

pub union-size : (profile : Profile) (id : NamedId) (repr : Repr) (variants : Variants)
    → greatest_size (only (variant_layouts variants)) ≤ size_of (named profile id Union repr variants)
unfolding layout_of
union-size profile id repr variants =
    round_up-above (greatest_size (only (variant_layouts variants))) (union_layout repr.packed repr.align (only (variant_layouts variants))).align

-- ---- enums

-- the fields of each variant, which are counted from their own first place, end where the enum does
abbrev pub VariantsEnd : ℕ → ℕ → ℕ → List (List Layout) → Type 0
VariantsEnd begin first size [] = Unit {0}
VariantsEnd begin first size (ls ∷ others) = (begin ≤ size) × (end_of None first ls ≤ first + (size - begin)) × VariantsEnd begin first size others

union-variants : (begin size : ℕ) (variants : List (List Layout)) → begin + greatest_size (structs [] variants) ≤ size → VariantsEnd begin 0 size variants
union-variants begin size [] h = tt
union-variants begin size (ls ∷ others) h =
    let inside = round_up-above (end_of None 0 ls) (greatest_align None ls) in
    (omega arith, omega arith, union-variants begin size others (omega arith))

tagged-variants : (tag : Layout) (size : ℕ) (variants : List (List Layout)) → greatest_size (structs (tag ∷ []) variants) ≤ size → VariantsEnd tag.size tag.size size variants
tagged-variants tag size [] h = tt
tagged-variants tag size (ls ∷ others) h =
    let inside = round_up-above (end_of None 0 (tag ∷ ls)) (greatest_align None (tag ∷ ls)) in
    let same = tagged-end tag ls in
    let above = end-above None tag.size ls in
    (omega arith, omega arith, tagged-variants tag size others (omega arith))

module _ (profile : Profile) (id : NamedId) (repr : Repr) (variants : Variants) where
  abbrev tag : Layout
  tag = tag_layout profile repr.tag

  abbrev inner : Layout
  inner = union_layout None None (structs [] (variant_layouts variants))

  by_repr : (c : Bool) → repr.c ≡ c → VariantsEnd (fields_place profile repr variants) (first_place profile repr) (size_of (named profile id Enum repr variants)) (variant_layouts variants)
  unfolding layout_of
  by_repr true e =
      let front : place_at None 0 tag ≡ 0 = first-front tag in
      let begin : place_at None (place_at None 0 tag + tag.size) inner ≡ round_up tag.size (greatest_align None (structs [] (variant_layouts variants))) =
      ap (λ (n : ℕ). round_up n (greatest_align None (structs [] (variant_layouts variants)))) (ap (λ (n : ℕ). n + tag.size) front ∙ omega arith) in
      let outer = round_up-above (place_at None (place_at None 0 tag + tag.size) inner + inner.size) (greatest_align None (tag ∷ inner ∷ [])) in
      let within = round_up-above (greatest_size (structs [] (variant_layouts variants))) inner.align in
      rw e (union-variants (round_up tag.size (greatest_align None (structs [] (variant_layouts variants)))) (struct_layout None None (tag ∷ inner ∷ [])).size (variant_layouts variants) (omega arith))
  by_repr false e =
      let within = round_up-above (greatest_size (structs (tag ∷ []) (variant_layouts variants))) (union_layout None None (structs (tag ∷ []) (variant_layouts variants))).align in
      rw e (tagged-variants tag (union_layout None None (structs (tag ∷ []) (variant_layouts variants))).size (variant_layouts variants) (omega arith))

  pub variants-end : VariantsEnd (fields_place profile repr variants) (first_place profile repr) (size_of (named profile id Enum repr variants)) (variant_layouts variants)
  variants-end = by_repr repr.c refl

  by_place : (c : Bool) → repr.c ≡ c → tag.size ≤ fields_place profile repr variants
  by_place true e = rw e (round_up-above tag.size (greatest_align None (structs [] (variant_layouts variants))))
  by_place false e = rw e (omega arith)

  -- fields begin behind the tag
  pub tag-below : tag.size ≤ fields_place profile repr variants
  tag-below = by_place repr.c refl
