-- The words of a type's tree are its valid words.
use Rattle.std.proofs.Common.{◌≡◌, ℕ, ◌+◌, ◌-◌, ◌<◌, ◌≤◌, ◌^◌, refl, sym, ap, subst, ◌∙◌, Bool, true, false, ◌||◌, if◌then◌else◌, IsTrue, Option, None, List, [], ◌∷◌, ◌++◌, map, length, inl, inr, ⊎_elim, ◌↔◌, arith, All, length-append}
use Rattle.std.proofs.lemmas.List.Elements.{All-append, All-nil}
use Rattle.tm_base.specs.declared.definition.Kind.TheVariants.{Struct, Union, Enum}
use Rattle.tm_base.specs.declared.definition.Repr.{Repr}
use Rattle.tm_base.specs.declared.ground.Primitive.{Primitive}
use Rattle.tm_base.specs.declared.profile.Profile.{Profile}
use Rattle.tm_base.specs.declared.tree.Tree.{Tree, Ref}
use Rattle.tm_base.specs.Cells.{Word, IsFree, pointer_of}
use Rattle.tm_base.specs.Expanded.{Expanded, Fields, Variants, too_deep, prim, never, unit, tuple, array, nonzero, phantom, wrap, ref, named, no_fields, field, no_variants, variant}
use Rattle.tm_base.specs.Faults.{sized_count}
use Rattle.tm_base.specs.Layout.{end_of, field_layouts, greatest_size, layout_of, only, place_at, places, prim_size, size_of, tag_layout, transparent_layout, variant_layouts}
use Rattle.tm_base.specs.Places.{fields_place, first_place, variant_places}
use Rattle.tm_base.specs.Profiles.{pointer_size}
use Rattle.tm_base.specs.Trees.{TreeWord, InTurn, OneOf}
use Rattle.tm_base.specs.Valid.{Valid, StructValid, UnionValid, FieldsValid, SomeFieldValid, SomeVariantValid, IsTag, all_public}
use Rattle.tm_base.proofs.ValidLemmas.{Valid-length}
use Rattle.tm_niche.specs.Forms.{joined, magnitude, one_of, tag_form}
use Rattle.tm_niche.proofs.NonzeroLemmas.{nonzero-words}
use Rattle.tm_niche.proofs.TagLemmas.{tag-words}
use Rattle.tm_niche.proofs.WordLemmas.{joined-words, one_of-words, pads-words, InTurn-append, InTurn-one}
use Rattle.tm_tree.specs.Fit.{HoldsValues, IsFit, AreFit, AreVariantsFit}
use Rattle.tm_tree.specs.Parts.{bare_parts, field_parts, guarded, pads, parts_of, struct_parts, tree_for, union_parts, union_ways, variant_ways}
use Rattle.tm_tree.proofs.BehindLemmas.{begin-tag, free-split, shifted-first}
use Rattle.tm_tree.proofs.PlainLemmas.{guarded-words, never-words, prim-words, turns-words, wrap-words}
use Rattle.tm_layout.proofs.EndLemmas.{bare-end, bare-gapless, bare-size, place-above, struct-end, tag-below, union-size, variants-end, NoGap, VariantsEnd}

no-length : (u : Word) → length u ≡ 0 → u ≡ []
no-length [] e = refl
no-length (c ∷ u) e = absurd (omega arith)

module _ (profile : Profile) (A : ℕ → ℕ → Type 0) (keep : Bool) where
  abbrev pointer : ℕ
  pointer = pointer_size profile

  -- what stands in a row has the words of the type
  abbrev Says : Expanded → List Tree → Type 0
  Says t ts = (w : Word) → InTurn pointer A keep ts w ↔ Valid A keep t w

  -- valid fields, one right behind the other
  abbrev BareValid : Fields → Word → Type 0
  BareValid no_fields w = w ≡ []
  BareValid (field public t rest) w = (u : Word) × (v : Word) × (w ≡ u ++ v) × Valid A keep t u × BareValid rest v

  -- ---- the steps

  ref-words : (other : Profile) (r : _) → other ≡ profile → Says (ref other r) (Ref r ∷ [])
  unfolding Valid TreeWord
  ref-words other r e w =
      let one = InTurn-one pointer A keep (Ref r) w in (
        λ h. let (x, a, is) = one.1 h in (x, a, is ∙ ap (λ p. pointer_of (pointer_size p) x) (sym e)),
        λ (x, a, is). one.0 (x, a, is ∙ ap (λ p. pointer_of (pointer_size p) x) e),
      )

  bare-more : (t : Expanded) (ts ss : List Tree) (rest : Word → Type 0) → Says t ts → ((w : Word) → InTurn pointer A keep ss w ↔ rest w)
      → (w : Word) → InTurn pointer A keep (ts ++ ss) w ↔ ((u : Word) × (v : Word) × (w ≡ u ++ v) × Valid A keep t u × rest v)
  bare-more t ts ss rest first others w =
      let both = InTurn-append pointer A keep ts ss w in (
        λ h. let (u, v, e, p, q) = both.0 h in (u, v, e, (first u).0 p, (others v).0 q),
        λ (u, v, e, p, q). both.1 (u, v, e, (first u).1 p, (others v).1 q),
      )

  field-none : (packed : Option ℕ) (at end : ℕ) → at ≤ end → (w : Word) → InTurn pointer A keep (pads (end - at)) w ↔ ((at + length w ≡ end) × FieldsValid A keep packed at no_fields w)
  unfolding Valid
  field-none packed at end below w =
      let free = pads-words pointer A keep (end - at) w in
      (λ h. let (long, all) = free.0 h in (omega arith, all), λ (long, all). free.1 (omega arith, all))

  -- what is left of a struct from a place on is said by some trees
  abbrev SaysFields : Option ℕ → ℕ → ℕ → Fields → List Tree → Type 0
  SaysFields packed end at members ts = (w : Word) → InTurn pointer A keep ts w ↔ ((at + length w ≡ end) × FieldsValid A keep packed at members w)

  field-more : (packed : Option ℕ) (end at : ℕ) (public : Bool) (t : Expanded) (rest : Fields) (ts ss : List Tree) → Says t ts
      → SaysFields packed end (place_at packed at (layout_of t) + size_of t) rest ss
      → SaysFields packed end at (field public t rest) (pads (place_at packed at (layout_of t) - at) ++ (ts ++ ss))
  unfolding Valid
  field-more packed end at public t rest ts ss first others w = (forth, back) where
    place : ℕ
    place = place_at packed at (layout_of t)

    outer : InTurn pointer A keep (pads (place_at packed at (layout_of t) - at) ++ (ts ++ ss)) w ↔ ((u : Word) × (v : Word) × (w ≡ u ++ v) × InTurn pointer A keep (pads (place_at packed at (layout_of t) - at)) u × InTurn pointer A keep (ts ++ ss) v)
    outer = InTurn-append pointer A keep (pads (place_at packed at (layout_of t) - at)) (ts ++ ss) w

    forth : InTurn pointer A keep (pads (place_at packed at (layout_of t) - at) ++ (ts ++ ss)) w → (at + length w ≡ end) × FieldsValid A keep packed at (field public t rest) w
    forth h =
        let (gap, v, e, p, q) = outer.0 h in
        let (here, left, e2, p2, q2) = (InTurn-append pointer A keep ts ss v).0 q in
        let (long, free) = (pads-words pointer A keep (place_at packed at (layout_of t) - at) gap).0 p in
        let valid = (first here).0 p2 in
        let (ends, behind) = (others left).0 q2 in
        let size = Valid-length A keep t here valid in
        let above = place-above packed at (layout_of t) in
        let whole : w ≡ gap ++ (here ++ left) = e ∙ ap (λ z. gap ++ z) e2 in
        let total : length w ≡ length gap + (length here + length left) = ap length whole ∙ length-append gap (here ++ left) ∙ ap (λ (n : ℕ). length gap + n) (length-append here left) in
        (omega arith, (gap, here, left, whole, omega arith, free, valid, behind))

    back : (at + length w ≡ end) × FieldsValid A keep packed at (field public t rest) w → InTurn pointer A keep (pads (place_at packed at (layout_of t) - at) ++ (ts ++ ss)) w
    back (ends, (gap, here, left, whole, at_place, free, valid, behind)) =
        let size = Valid-length A keep t here valid in
        let total : length w ≡ length gap + (length here + length left) = ap length whole ∙ length-append gap (here ++ left) ∙ ap (λ (n : ℕ). length gap + n) (length-append here left) in
        outer.1 (
          gap,
          here ++ left,
          whole,
          (pads-words pointer A keep (place_at packed at (layout_of t) - at) gap).1 (omega arith, free),
          (InTurn-append pointer A keep ts ss (here ++ left)).1 (here, left, refl, (first here).1 valid, (others left).1 (omega arith, behind)),
        )

  -- where no field leaves a gap, fields in their places are fields one behind the other
  bare-fields : (packed : Option ℕ) (at end : ℕ) (members : Fields) → NoGap packed at (field_layouts members) → end_of packed at (field_layouts members) ≡ end
      → (w : Word) → BareValid members w ↔ ((at + length w ≡ end) × FieldsValid A keep packed at members w)
  unfolding Valid NoGap layout_of
  bare-fields packed at end no_fields gapless e w = (
    λ h. (ap (λ (u : Word). at + length u) h ∙ omega arith, subst (All IsFree) (sym h) (All-nil IsFree)),
    λ (long, free). no-length w (omega arith),
  )
  bare-fields packed at end (field public t rest) (place, gapless) e w =
      let next : place_at packed at (layout_of t) + size_of t ≡ at + size_of t = ap (λ (n : ℕ). n + size_of t) place in
      let inside = λ (v : Word). bare-fields packed (at + size_of t) end rest gapless (ap (λ (n : ℕ). end_of packed n (field_layouts rest)) (sym next) ∙ e) v in (
        λ (u, v, is, valid, behind).
            let (long, others) = (inside v).0 behind in
            let size = Valid-length A keep t u valid in
            let total = ap length is ∙ length-append u v in
            (omega arith, ([], u, v, is, omega arith, All-nil IsFree, valid, subst (λ (n : ℕ). FieldsValid A keep packed n rest v) (sym next) others)),
        λ (long, (gap, here, left, whole, at_place, free, valid, behind)).
            let size = Valid-length A keep t here valid in
            let none : gap ≡ [] = no-length gap (omega arith) in
            let is : w ≡ here ++ left = whole ∙ ap (λ (z : Word). z ++ (here ++ left)) none in
            let total = ap length is ∙ length-append here left in
            (here, left, is, valid, (inside left).1 (omega arith, subst (λ (n : ℕ). FieldsValid A keep packed n rest left) next behind)),
      )

  union-more : (size : ℕ) (t : Expanded) (ts : List Tree) → Says t ts → size_of t ≤ size → (w : Word)
      → TreeWord pointer A keep (joined (ts ++ pads (size - size_of t))) w ↔ ((length w ≡ size) × ((here : Word) × (left : Word) × (w ≡ here ++ left) × Valid A keep t here × All IsFree left))
  union-more size t ts first inside w =
      let all = joined-words pointer A keep (ts ++ pads (size - size_of t)) w in
      let both = InTurn-append pointer A keep ts (pads (size - size_of t)) w in (
        λ h.
            let (here, left, e, p, q) = both.0 (all.0 h) in
            let valid = (first here).0 p in
            let (long, free) = (pads-words pointer A keep (size - size_of t) left).0 q in
            let own = Valid-length A keep t here valid in
            let total = ap length e ∙ length-append here left in
            (omega arith, (here, left, e, valid, free)),
        λ (long, (here, left, e, valid, free)).
            let own = Valid-length A keep t here valid in
            let total = ap length e ∙ length-append here left in
            all.1 (both.1 (here, left, e, (first here).1 valid, (pads-words pointer A keep (size - size_of t) left).1 (omega arith, free))),
      )

  -- behind a tag of so many bytes, free bytes up to where fields begin, and the fields, are said by some trees
  abbrev SaysBehind : ℕ → ℕ → ℕ → ℕ → Fields → List Tree → Type 0
  SaysBehind tag begin first size members ts =
      (v : Word) → InTurn pointer A keep ts v
      ↔ ((gap : Word) × (others : Word) × (v ≡ gap ++ others) × (tag + length gap ≡ begin) × All IsFree gap × (begin + length others ≡ size) × FieldsValid A keep None first members others)

  -- fields in their places are said by the trees of the fields
  abbrev FieldsSaid : Fields → Type 0
  FieldsSaid members =
      (packed : Option ℕ) (end at : ℕ) → end_of packed at (field_layouts members) ≤ end → SaysFields packed end at members (field_parts end at (places packed at (field_layouts members)) members)

  behind-integer : (tag begin size : ℕ) (members : Fields) → begin ≡ tag → end_of None tag (field_layouts members) ≤ tag + (size - begin) → begin ≤ size → FieldsSaid members
      → SaysBehind tag begin tag size members (field_parts size tag (places None tag (field_layouts members)) members)
  behind-integer tag begin size members same end inside said v =
      let all = said None size tag (omega arith) v in (
        λ h. let (ends, valid) = all.0 h in ([], v, refl, omega arith, All-nil IsFree, omega arith, valid),
        λ (gap, others, e, at, free, ends, valid).
            let none : gap ≡ [] = no-length gap (omega arith) in
            let is : v ≡ others = e ∙ ap (λ (z : Word). z ++ others) none in
            all.1 (ap (λ (z : Word). tag + length z) is ∙ omega arith, subst (FieldsValid A keep None tag members) (sym is) valid),
      )

  behind-c : (tag begin size : ℕ) (members : Fields) → tag ≤ begin → begin ≤ size → end_of None 0 (field_layouts members) ≤ 0 + (size - begin) → FieldsSaid members
      → SaysBehind tag begin 0 size members (field_parts size tag (map (λ place. begin + place) (places None 0 (field_layouts members))) members)
  unfolding Valid parts_of layout_of
  behind-c tag begin size no_fields below inside end said v =
      let free = pads-words pointer A keep (size - tag) v in (
        λ h.
            let (long, all) = free.0 h in
            let (gap, others, e, (wide, clear), (left, rest)) = free-split (begin - tag) (size - begin) v (omega arith, all) in
            (gap, others, e, omega arith, clear, omega arith, rest),
        λ (gap, others, e, at, clear, ends, rest).
            let long : length v ≡ length gap + length others = ap length e ∙ length-append gap others in
            free.1 (omega arith, subst (All IsFree) (sym e) (All-append IsFree gap others clear rest)),
      )
  behind-c tag begin size (field public t rest) below inside end said v =
      let fields : List Tree = field_parts (size - begin) 0 (places None 0 (field_layouts (field public t rest))) (field public t rest) in
      let whole : begin + (size - begin) ≡ size = omega arith in
      let same : field_parts size tag (map (λ place. begin + place) (places None 0 (field_layouts (field public t rest)))) (field public t rest) ≡ pads (begin - tag) ++ fields =
      subst (λ (n : ℕ). field_parts n tag (map (λ place. begin + place) (places None 0 (field_layouts (field public t rest)))) (field public t rest) ≡ pads (begin - tag) ++ fields) whole
      (shifted-first begin (size - begin) tag public t rest below) in
      let both = InTurn-append pointer A keep (pads (begin - tag)) fields v in (
        λ h.
            let (gap, others, e, p, q) = both.0 (subst (λ ts. InTurn pointer A keep ts v) same h) in
            let (wide, clear) = (pads-words pointer A keep (begin - tag) gap).0 p in
            let (ends, valid) = (said None (size - begin) 0 (omega arith) others).0 q in
            (gap, others, e, omega arith, clear, omega arith, valid),
        λ (gap, others, e, at, clear, ends, valid).
            subst (λ ts. InTurn pointer A keep ts v) (sym same)
            (both.1 (gap, others, e, (pads-words pointer A keep (begin - tag) gap).1 (omega arith, clear), (said None (size - begin) 0 (omega arith) others).1 (omega arith, valid))),
      )

  behind : (c : Bool) (tag begin size : ℕ) (members : Fields) → tag ≤ begin → begin ≤ size → (c ≡ false → begin ≡ tag)
      → end_of None (if c then 0 else tag) (field_layouts members) ≤ (if c then 0 else tag) + (size - begin) → FieldsSaid members
      → SaysBehind tag begin (if c then 0 else tag) size members
      (field_parts size tag (if c then map (λ place. begin + place) (places None 0 (field_layouts members)) else places None (if c then 0 else tag) (field_layouts members)) members)
  behind true tag begin size members below inside alone end said = behind-c tag begin size members below inside end said
  behind false tag begin size members below inside alone end said = behind-integer tag begin size members (alone refl) end inside said

  -- one of an enum's variants, whose fields are said by some trees
  variant-one : (own : Profile) (tag : Option Primitive) (begin first size : ℕ) (value : _) (members : Fields) (ts : List Tree)
      → magnitude value < 256 ^ (tag_layout own tag).size → SaysBehind (tag_layout own tag).size begin first size members ts → (w : Word)
      → TreeWord pointer A keep (joined (tag_form own (tag_layout own tag).size value ∷ ts)) w
      ↔ ((length w ≡ size) × ((front : Word) × (gap : Word) × (others : Word) × (w ≡ front ++ (gap ++ others)) × IsTag own (tag_layout own tag).size value front
      × (length front + length gap ≡ begin) × All IsFree gap × FieldsValid A keep None first members others))
  variant-one own tag begin first size value members ts small says w =
      let all = joined-words pointer A keep (tag_form own (tag_layout own tag).size value ∷ ts) w in (
        λ h.
            let (front, v, e, p, q) = all.0 h in
            let (gap, others, e2, at, free, ends, valid) = (says v).0 q in
            let is_tag = (tag-words pointer A keep own (tag_layout own tag).size value front small).0 p in
            let long = is_tag.0.0 in
            let whole : w ≡ front ++ (gap ++ others) = e ∙ ap (λ z. front ++ z) e2 in
            let total : length w ≡ length front + (length gap + length others) = ap length whole ∙ length-append front (gap ++ others) ∙ ap (λ (n : ℕ). length front + n) (length-append gap others) in
            (omega arith, (front, gap, others, whole, is_tag, omega arith, free, valid)),
        λ (sized, (front, gap, others, whole, is_tag, at, free, valid)).
            let long = is_tag.0.0 in
            let total : length w ≡ length front + (length gap + length others) = ap length whole ∙ length-append front (gap ++ others) ∙ ap (λ (n : ℕ). length front + n) (length-append gap others) in
            all.1 (
              front,
              gap ++ others,
              whole,
              (tag-words pointer A keep own (tag_layout own tag).size value front small).1 is_tag,
              (says (gap ++ others)).1 (gap, others, refl, omega arith, free, omega arith, valid),
            ),
      )

  struct-one : (size : ℕ) (repr : Repr) (members : Fields) (ts : List Tree) → ((w : Word) → InTurn pointer A keep ts w ↔ ((0 + length w ≡ size) × FieldsValid A keep repr.packed 0 members w))
      → (w : Word) → InTurn pointer A keep (guarded (all_public members) ts) w ↔ ((length w ≡ size) × (IsTrue (keep || all_public members) × FieldsValid A keep repr.packed 0 members w))
  struct-one size repr members ts says w =
      let outer = guarded-words pointer A keep (all_public members) ts w in
      let inner = says w in (
        λ h. let (o, q) = outer.0 h in let (long, valid) = inner.0 q in (omega arith, (o, valid)),
        λ (long, (o, valid)). outer.1 (o, inner.1 (omega arith, valid)),
      )

  struct-either : (size : ℕ) (repr : Repr) (members : Fields) (b : Bool) → repr.transparent ≡ b → (repr.transparent ≡ true → size ≡ (transparent_layout (field_layouts members)).size)
      → (repr.transparent ≡ true → sized_count (field_layouts members) ≤ 1) → ((v : Word) → InTurn pointer A keep (bare_parts members) v ↔ BareValid members v)
      → (repr.transparent ≡ false → SaysFields repr.packed size 0 members (field_parts size 0 (places repr.packed 0 (field_layouts members)) members))
      → SaysFields repr.packed size 0 members (if b then bare_parts members else field_parts size 0 (places repr.packed 0 (field_layouts members)) members)
  struct-either size repr members true e sizes few bares placed v =
      let all = bares v in
      let fields = bare-fields repr.packed 0 size members (bare-gapless repr.packed (field_layouts members) (few e)) (bare-end repr.packed (field_layouts members) (few e) ∙ sym (sizes e)) v in
      (λ h. fields.0 (all.0 h), λ h. all.1 (fields.1 h))
  struct-either size repr members false e sizes few bares placed v = placed e v

  -- ---- the whole

  mutual
    unfolding Valid IsFit parts_of layout_of

    pub parts-words : (t : Expanded) → IsFit profile t → (w : Word) → InTurn pointer A keep (parts_of t) w ↔ Valid A keep t w
    parts-words too_deep fit w = never-words pointer A keep w
    parts-words (prim own p) fit w = prim-words pointer A keep own p w
    parts-words never fit w = never-words pointer A keep w
    parts-words unit fit w = (λ h. h, λ h. h)
    parts-words (tuple members) fit w = never-words pointer A keep w
    parts-words (array t n) fit w = turns-words pointer A keep n (parts_of t) (Valid A keep t) (λ u. parts-words t fit u) w
    parts-words (nonzero own p) fit w =
        let one = InTurn-one pointer A keep _ w in
        let both = nonzero-words pointer A keep own (prim_size own p) w in
        (λ h. both.0 (one.1 h), λ h. one.0 (both.1 h))
    parts-words phantom fit w = (λ h. h, λ h. h)
    parts-words (wrap k t) fit w = wrap-words pointer A keep k (size_of t) (parts_of t) (Valid A keep t) (λ u. parts-words t fit u) w
    parts-words (ref own r) fit w = ref-words own r fit w
    parts-words (named own id Struct repr variants) (kind, fit) w =
        struct-words repr variants (size_of (named own id Struct repr variants)) (struct-end own id repr variants) (bare-size own id repr variants) kind fit w
    parts-words (named own id Union repr variants) (kind, fit) w =
        union-words variants (size_of (named own id Union repr variants)) (union-size own id repr variants) fit w
    parts-words (named own id Enum repr variants) (kind, fit) w =
        let one = InTurn-one pointer A keep _ w in
        let size = size_of (named own id Enum repr variants) in
        let any = one_of-words pointer A keep (variant_ways own repr (fields_place own repr variants) size variants) w in
        let each = ways-words own repr (fields_place own repr variants) size variants (tag-below own id repr variants) (begin-tag own repr variants) (variants-end own id repr variants) kind fit w in
        (λ h. each.0 (any.0 (one.1 h)), λ h. one.0 (any.1 (each.1 h)))

    struct-words : (repr : Repr) (variants : Variants) (size : ℕ) → (repr.transparent ≡ false → end_of repr.packed 0 (only (variant_layouts variants)) ≤ size)
        → (repr.transparent ≡ true → size ≡ (transparent_layout (only (variant_layouts variants))).size) → (repr.transparent ≡ true → sized_count (only (variant_layouts variants)) ≤ 1)
        → AreVariantsFit profile variants → (w : Word)
        → InTurn pointer A keep (struct_parts repr size variants) w ↔ ((length w ≡ size) × StructValid A keep repr.packed variants w)
    struct-words repr no_variants size ends sizes few fit w = (λ h. absurd ((never-words pointer A keep w).0 h), λ (long, h). absurd h)
    struct-words repr (variant value members others) size ends sizes few (fit, more) w =
        struct-one size repr members (if repr.transparent then bare_parts members else field_parts size 0 (places repr.packed 0 (field_layouts members)) members)
        (struct-either size repr members repr.transparent refl sizes few (λ v. bare-words members fit v) (λ e v. fields-words repr.packed size 0 members (ends e) fit v)) w

    bare-words : (members : Fields) → AreFit profile members → (w : Word) → InTurn pointer A keep (bare_parts members) w ↔ BareValid members w
    bare-words no_fields fit w = (λ h. h, λ h. h)
    bare-words (field public t rest) (fit, more) w = bare-more t (parts_of t) (bare_parts rest) (BareValid rest) (λ u. parts-words t fit u) (λ u. bare-words rest more u) w

    fields-words : (packed : Option ℕ) (end at : ℕ) (members : Fields) → end_of packed at (field_layouts members) ≤ end → AreFit profile members
        → (w : Word) → InTurn pointer A keep (field_parts end at (places packed at (field_layouts members)) members) w ↔ ((at + length w ≡ end) × FieldsValid A keep packed at members w)
    fields-words packed end at no_fields ends fit w = field-none packed at end ends w
    fields-words packed end at (field public t rest) ends (fit, more) w =
        field-more packed end at public t rest (parts_of t) (field_parts end (place_at packed at (layout_of t) + size_of t) (places packed (place_at packed at (layout_of t) + size_of t) (field_layouts rest)) rest)
        (λ u. parts-words t fit u) (λ u. fields-words packed end (place_at packed at (layout_of t) + size_of t) rest ends more u) w

    union-words : (variants : Variants) (size : ℕ) → greatest_size (only (variant_layouts variants)) ≤ size → AreVariantsFit profile variants → (w : Word)
        → InTurn pointer A keep (union_parts size variants) w ↔ ((length w ≡ size) × UnionValid A keep variants w)
    union-words no_variants size inside fit w = (λ h. absurd ((never-words pointer A keep w).0 h), λ (long, h). absurd h)
    union-words (variant value members others) size inside (fit, more) w =
        let outer = guarded-words pointer A keep (all_public members) (one_of (union_ways size members) ∷ []) w in
        let one = InTurn-one pointer A keep (one_of (union_ways size members)) w in
        let any = one_of-words pointer A keep (union_ways size members) w in
        let each = union-each size members inside fit w in (
          λ h. let (o, q) = outer.0 h in let (long, valid) = each.0 (any.0 (one.1 q)) in (long, (o, valid)),
          λ (long, (o, valid)). outer.1 (o, one.0 (any.1 (each.1 (long, valid)))),
        )

    union-each : (size : ℕ) (members : Fields) → greatest_size (field_layouts members) ≤ size → AreFit profile members → (w : Word)
        → OneOf pointer A keep (union_ways size members) w ↔ ((length w ≡ size) × SomeFieldValid A keep members w)
    union-each size no_fields inside fit w = (λ h. absurd h, λ (long, h). absurd h)
    union-each size (field public t rest) inside (fit, more) w =
        let here = union-more size t (parts_of t) (λ u. parts-words t fit u) (omega arith) w in
        let others = union-each size rest (omega arith) more w in (
          ⊎_elim (λ p. let (long, valid) = here.0 p in (long, inl valid)) (λ q. let (long, valid) = others.0 q in (long, inr valid)),
          λ (long, h). ⊎_elim (λ valid. inl (here.1 (long, valid))) (λ valid. inr (others.1 (long, valid))) h,
        )

    ways-words : (own : Profile) (repr : Repr) (begin size : ℕ) (variants : Variants) → (tag_layout own repr.tag).size ≤ begin → (repr.c ≡ false → begin ≡ (tag_layout own repr.tag).size)
        → VariantsEnd begin (first_place own repr) size (variant_layouts variants) → HoldsValues (tag_layout own repr.tag).size variants → AreVariantsFit profile variants → (w : Word)
        → OneOf pointer A keep (variant_ways own repr begin size variants) w ↔ ((length w ≡ size) × SomeVariantValid A keep own repr.tag begin (first_place own repr) variants w)
    ways-words own repr begin size no_variants below alone ends holds fit w = (λ h. absurd h, λ (long, h). absurd h)
    ways-words own repr begin size (variant value members rest) below alone (inside, end, ends) (small, holds) (fit, more) w =
        let ts = field_parts size (tag_layout own repr.tag).size (variant_places own repr begin (field_layouts members)) members in
        let here = variant-one own repr.tag begin (first_place own repr) size value members ts small
        (behind repr.c (tag_layout own repr.tag).size begin size members below inside alone end (λ packed end at ends u. fields-words packed end at members ends fit u)) w in
        let others = ways-words own repr begin size rest below alone ends holds more w in (
          ⊎_elim (λ p. let (long, valid) = here.0 p in (long, inl valid)) (λ q. let (long, valid) = others.0 q in (long, inr valid)),
          λ (long, h). ⊎_elim (λ valid. inl (here.1 (long, valid))) (λ valid. inr (others.1 (long, valid))) h,
        )

  -- the words of a type's tree are its valid words
  pub tree-words : (t : Expanded) → IsFit profile t → (w : Word) → TreeWord pointer A keep (tree_for t) w ↔ Valid A keep t w
  unfolding tree_for
  tree-words t fit w =
      let all = joined-words pointer A keep (parts_of t) w in
      let parts = parts-words t fit w in
      (λ h. parts.0 (all.0 h), λ h. all.1 (parts.1 h))
