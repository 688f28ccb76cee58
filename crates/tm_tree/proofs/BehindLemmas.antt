-- Fields behind a tag: where they stand, and their trees, which are the same whether they are counted from the
-- type's first byte or from where they begin.
use Rattle.std.proofs.Common.{◌≡◌, ℕ, zero, suc, ◌+◌, ◌-◌, ◌≤◌, refl, sym, ap, ◌∙◌, Bool, true, false, None, List, [], ◌∷◌, ◌++◌, map, arith}
use Rattle.std.proofs.lemmas.List.Elements.{All-cons, All-head, All-nil, All-tail}
use Rattle.std.specs.List.{AllByRecursion}
use Rattle.tm_base.specs.declared.definition.Kind.TheVariants.{Enum}
use Rattle.tm_base.specs.declared.definition.Repr.{Repr}
use Rattle.tm_base.specs.declared.ground.NamedId.{NamedId}
use Rattle.tm_base.specs.declared.profile.Profile.{Profile}
use Rattle.tm_base.specs.Cells.{Word, IsFree}
use Rattle.tm_base.specs.Expanded.{Expanded, Fields, Variants, named, no_fields, field}
use Rattle.tm_base.specs.Laws.{Apart}
use Rattle.tm_base.specs.Layout.{Layout, field_layouts, greatest_align, greatest_size, layout_of, place_at, places, round_up, size_of, struct_layout, structs, tag_layout, union_layout, variant_layouts}
use Rattle.tm_base.specs.Places.{fields_place, variant_places}
use Rattle.tm_base.specs.Valid.{AreFree}
use Rattle.tm_base.proofs.LayoutLemmas.{first-front, tagged_variants-apart, union_variants-apart}
use Rattle.tm_tree.specs.Parts.{field_parts, pads, parts_of}
use Rattle.tm_layout.proofs.EndLemmas.{round_up-above}

-- ---- places

-- fields that stand apart end where their type does, at the latest
pub apart-within : (at : ℕ) (ps : List ℕ) (ls : List Layout) (end : ℕ) → Apart at ps ls end → at ≤ end
unfolding Apart
apart-within at [] ls end h = h
apart-within at (place ∷ ps) [] end h = absurd h
apart-within at (place ∷ ps) (l ∷ ls) end (below, apart) = let within = apart-within (place + l.size) ps ls end apart in omega arith

pub apart-first : (at place : ℕ) (l : Layout) (ps : List ℕ) (ls : List Layout) (end : ℕ) → Apart at (place ∷ ps) (l ∷ ls) end → (at ≤ place) × Apart (place + l.size) ps ls end
unfolding Apart
apart-first at place l ps ls end h = h

apart-earlier : (at begin : ℕ) (ps : List ℕ) (ls : List Layout) (end : ℕ) → at ≤ begin → Apart begin ps ls end → Apart at ps ls end
unfolding Apart
apart-earlier at begin [] ls end h apart = omega arith
apart-earlier at begin (place ∷ ps) [] end h apart = apart
apart-earlier at begin (place ∷ ps) (l ∷ ls) end h (below, apart) = (omega arith, apart)

all-earlier : (at begin size : ℕ) (vs : List (List Layout)) → at ≤ begin → AllByRecursion (λ ls. Apart begin (map (λ place. begin + place) (places None 0 ls)) ls size) vs
    → AllByRecursion (λ ls. Apart at (map (λ place. begin + place) (places None 0 ls)) ls size) vs
all-earlier at begin size [] h all = tt
all-earlier at begin size (ls ∷ vs) h (here, all) = (apart-earlier at begin (map (λ place. begin + place) (places None 0 ls)) ls size h here, all-earlier at begin size vs h all)

module _ (profile : Profile) (id : NamedId) (repr : Repr) (variants : Variants) where
  abbrev tag : Layout
  tag = tag_layout profile repr.tag

  abbrev inner : Layout
  inner = union_layout None None (structs [] (variant_layouts variants))

  by_repr : (c : Bool) → repr.c ≡ c → AllByRecursion (λ ls. Apart tag.size (variant_places profile repr (fields_place profile repr variants) ls) ls (size_of (named profile id Enum repr variants))) (variant_layouts variants)
  unfolding layout_of
  by_repr true e =
      let front : place_at None 0 tag ≡ 0 = first-front tag in
      let begin : place_at None (place_at None 0 tag + tag.size) inner ≡ round_up tag.size (greatest_align None (structs [] (variant_layouts variants))) =
      ap (λ (n : ℕ). round_up n (greatest_align None (structs [] (variant_layouts variants)))) (ap (λ (n : ℕ). n + tag.size) front ∙ omega arith) in
      let outer = round_up-above (place_at None (place_at None 0 tag + tag.size) inner + inner.size) (greatest_align None (tag ∷ inner ∷ [])) in
      let within = round_up-above (greatest_size (structs [] (variant_layouts variants))) inner.align in
      rw e (all-earlier tag.size (round_up tag.size (greatest_align None (structs [] (variant_layouts variants)))) (struct_layout None None (tag ∷ inner ∷ [])).size (variant_layouts variants)
      (round_up-above tag.size (greatest_align None (structs [] (variant_layouts variants))))
      (union_variants-apart (round_up tag.size (greatest_align None (structs [] (variant_layouts variants)))) (variant_layouts variants) (struct_layout None None (tag ∷ inner ∷ [])).size (omega arith)))
  by_repr false e =
      let within = round_up-above (greatest_size (structs (tag ∷ []) (variant_layouts variants))) (union_layout None None (structs (tag ∷ []) (variant_layouts variants))).align in
      rw e (tagged_variants-apart tag (variant_layouts variants) (union_layout None None (structs (tag ∷ []) (variant_layouts variants))).size (omega arith))

  -- the fields of each variant stand apart behind the tag, and inside the enum
  pub variants-apart : AllByRecursion (λ ls. Apart tag.size (variant_places profile repr (fields_place profile repr variants) ls) ls (size_of (named profile id Enum repr variants))) (variant_layouts variants)
  variants-apart = by_repr repr.c refl

-- behind a tag with an integer alone fields begin right there
pub begin-tag : (profile : Profile) (repr : Repr) (variants : Variants) → repr.c ≡ false → fields_place profile repr variants ≡ (tag_layout profile repr.tag).size
begin-tag profile repr variants e = rw e refl

-- ---- trees

shifted : (begin end at : ℕ) (ps : List ℕ) (members : Fields) → field_parts (begin + end) (begin + at) (map (λ place. begin + place) ps) members ≡ field_parts end at ps members
unfolding parts_of
shifted begin end at ps no_fields = let same : (begin + end) - (begin + at) ≡ end - at = omega arith in ap pads same
shifted begin end at [] (field public t rest) = refl
shifted begin end at (place ∷ ps) (field public t rest) =
    let gap : (begin + place) - (begin + at) ≡ place - at = omega arith in
    let next : (begin + place) + size_of t ≡ begin + (place + size_of t) = omega arith in
    ap (λ (n : ℕ). pads n ++ (parts_of t ++ field_parts (begin + end) ((begin + place) + size_of t) (map (λ place. begin + place) ps) rest)) gap
    ∙ ap (λ (n : ℕ). pads (place - at) ++ (parts_of t ++ field_parts (begin + end) n (map (λ place. begin + place) ps) rest)) next
    ∙ ap (λ ts. pads (place - at) ++ (parts_of t ++ ts)) (shifted begin end (place + size_of t) ps rest)

-- from before where fields begin on, the padding up to there stands before them
pub shifted-first : (begin end at : ℕ) (public : Bool) (t : Expanded) (rest : Fields) → at ≤ begin
    → field_parts (begin + end) at (map (λ place. begin + place) (places None 0 (layout_of t ∷ field_layouts rest))) (field public t rest)
    ≡ pads (begin - at) ++ field_parts end 0 (places None 0 (layout_of t ∷ field_layouts rest)) (field public t rest)
unfolding parts_of
shifted-first begin end at public t rest below =
    let place : ℕ = place_at None 0 (layout_of t) in
    let ps : List ℕ = places None (place_at None 0 (layout_of t) + size_of t) (field_layouts rest) in
    let front : place ≡ 0 = first-front (layout_of t) in
    let gap : (begin + place) - at ≡ begin - at = omega arith in
    let none : place - 0 ≡ 0 = omega arith in
    let next : (begin + place) + size_of t ≡ begin + (place + size_of t) = omega arith in
    ap (λ (n : ℕ). pads n ++ (parts_of t ++ field_parts (begin + end) ((begin + place) + size_of t) (map (λ place. begin + place) ps) rest)) gap
    ∙ ap (λ (n : ℕ). pads (begin - at) ++ (parts_of t ++ field_parts (begin + end) n (map (λ place. begin + place) ps) rest)) next
    ∙ ap (λ ts. pads (begin - at) ++ (parts_of t ++ ts)) (shifted begin end (place + size_of t) ps rest)
    ∙ ap (λ (n : ℕ). pads (begin - at) ++ (pads n ++ (parts_of t ++ field_parts end (place + size_of t) ps rest))) (sym none)

-- ---- free bytes

-- free bytes may be told apart anywhere
pub free-split : (n m : ℕ) (w : Word) → AreFree (n + m) w → (u : Word) × (v : Word) × (w ≡ u ++ v) × AreFree n u × AreFree m v
free-split zero m w (long, all) = ([], w, refl, (refl, All-nil IsFree), (long ∙ omega arith, all))
free-split (suc n) m [] (long, all) = absurd (omega arith)
free-split (suc n) m (c ∷ w) (long, all) =
    let (u, v, e, (long_u, all_u), behind) = free-split n m w (omega arith, All-tail IsFree c w all) in
    (c ∷ u, v, ap (λ z. c ∷ z) e, (ap (λ (k : ℕ). suc k) long_u, All-cons IsFree c u (All-head IsFree c w all) all_u), behind)
