-- The tree of a type has no more leaves than some times its weight.
use Rattle.std.proofs.Common.{◌≡◌, ℕ, zero, suc, ◌+◌, ◌-◌, ◌*◌, ◌==◌, ◌≤◌, refl, ap, ◌∙◌, max, Bool, true, false, if◌then◌else◌, List, [], ◌∷◌, ◌++◌, arith}
use Rattle.std.proofs.Math.Nat.{mul-le-mul_right, add-mul}
use Rattle.std.specs.List.{AllByRecursion}
use Rattle.tm_base.specs.declared.definition.Kind.TheVariants.{Struct, Union, Enum}
use Rattle.tm_base.specs.declared.definition.Repr.{Repr}
use Rattle.tm_base.specs.declared.ground.Primitive.{Primitive}
use Rattle.tm_base.specs.declared.ground.Primitive.TheVariants as primitive
use Rattle.tm_base.specs.declared.ground.Wrapper.{Wrapper}
use Rattle.tm_base.specs.declared.ground.Wrapper.TheVariants as wrapper
use Rattle.tm_base.specs.declared.profile.Profile.{Profile}
use Rattle.tm_base.specs.declared.profile.Profile.TheVariants.{Le64, Be64, Le32}
use Rattle.tm_base.specs.declared.tree.Tree.{Tree, Never, Range, Pad, Ref, Private}
use Rattle.tm_base.specs.declared.tree.Tree.TheBlock.{shape-the_row-Tree-1, hidden-the_row-Tree-1}
use Rattle.tm_base.specs.Expanded.{Expanded, Fields, Variants, too_deep, prim, never, unit, tuple, array, nonzero, phantom, wrap, ref, named, no_fields, field, no_variants, variant}
use Rattle.tm_base.specs.Laws.{Apart}
use Rattle.tm_base.specs.Layout.{end_of, field_layouts, layout_of, only, places, prim_size, size_of, tag_layout, variant_layouts}
use Rattle.tm_base.specs.Places.{fields_place, variant_places}
use Rattle.tm_base.specs.Profiles.{pointer_size}
use Rattle.tm_base.specs.Shapes.{leaves_of, all_leaves}
use Rattle.tm_base.specs.Valid.{all_public}
use Rattle.tm_base.specs.Weight.{field_weights, sum_from, variant_weights, variants_sum_from, weight_of, wrapper_weight}
use Rattle.tm_base.proofs.LayoutLemmas.{Apart-widens, places-apart}
use Rattle.tm_niche.specs.Forms.{is_never, joined, nonzero_form, null_form, one_of, repeated, tag_form}
use Rattle.tm_niche.proofs.CharLemmas.{char-leaves}
use Rattle.tm_niche.proofs.FormLemmas.{all_leaves-append, joined-leaves, one_of-leaves, one-Pad, one-Range, repeated-leaves}
use Rattle.tm_niche.proofs.NonzeroLemmas.{nonzero-leaves-all, null-leaves}
use Rattle.tm_niche.proofs.TagLemmas.{tag-leaves}
use Rattle.tm_niche.proofs.WordLemmas.{one-is}
use Rattle.tm_tree.specs.Fit.{IsFit, AreFit, AreVariantsFit}
use Rattle.tm_tree.specs.Parts.{bare_parts, field_parts, guarded, hidden, pads, parts_of, prim_parts, struct_parts, tree_for, union_parts, union_ways, variant_ways, wrap_parts}
use Rattle.tm_tree.proofs.BehindLemmas.{apart-first, apart-within, variants-apart}
use Rattle.tm_layout.proofs.EndLemmas.{struct-end}

-- how deep a type holds others by value
unfoldable mutual
  pub height_of : Expanded → ℕ
  height_of (array t n) = suc (height_of t)
  height_of (wrap w t) = suc (height_of t)
  height_of (named profile id kind repr variants) = suc (variants_height variants)
  height_of t = 0

  pub fields_height : Fields → ℕ
  fields_height no_fields = 0
  fields_height (field public t rest) = max (height_of t) (fields_height rest)

  pub variants_height : Variants → ℕ
  variants_height no_variants = 0
  variants_height (variant value members rest) = max (fields_height members) (variants_height rest)

times-more : (w m : ℕ) → w * suc m ≡ w * m + w
times-more w m = grind arith

-- what is some times a lesser weight, and a lesser size, is once more times a weight
once-more : (leaves a size w m : ℕ) → leaves ≤ a * m + size → a ≤ w → size ≤ w → leaves ≤ w * suc m
once-more leaves a size w m h below small = let e = times-more w m in let most : a * m ≤ w * m = mul-le-mul_right m below in omega arith

module _ (profile : Profile) where
  abbrev pointer : ℕ
  pointer = pointer_size profile

  pads-leaves : (n : ℕ) → all_leaves pointer (pads n) ≡ n
  pads-leaves n = repeated-leaves pointer n Pad ∙ ap (λ (k : ℕ). n * k) (one-Pad pointer) ∙ omega arith

  bytes-leaves : (n : ℕ) → all_leaves pointer (repeated n (Range 0 255)) ≡ n
  bytes-leaves n = repeated-leaves pointer n (Range 0 255) ∙ ap (λ (k : ℕ). n * k) (one-Range pointer 0 255) ∙ omega arith

  private-leaves : (t : Tree) → leaves_of pointer (Private t) ≡ leaves_of pointer t
  unfolding leaves_of shape-the_row-Tree-1 hidden-the_row-Tree-1 denote.Hole.Carrier.hidden
  private-leaves t = omega arith

  hidden-leaves : (t : Tree) → leaves_of pointer (hidden t) ≡ leaves_of pointer t
  hidden-leaves t = elim (is_never t) as (λ b. leaves_of pointer (if b then t else Private t) ≡ leaves_of pointer t) [ true ↦ refl | false ↦ private-leaves t ]

  guarded-leaves : (public : Bool) (ts : List Tree) → all_leaves pointer (guarded public ts) ≤ all_leaves pointer ts
  guarded-leaves true ts = omega arith
  guarded-leaves false ts = let inside = joined-leaves pointer ts in let same = hidden-leaves (joined ts) in omega arith

  sixteen : (size m : ℕ) → 16 ≤ m → size ≤ 16 → size * size ≤ size * m
  sixteen size m h small =
      let a : size * size ≤ 16 * size = mul-le-mul_right size small in
      let b : 16 * size ≤ m * size = mul-le-mul_right size h in
      let c : size * m ≡ m * size = grind arith in
      omega arith

  prim-small : (own : Profile) (p : Primitive) → prim_size own p ≤ 16
  prim-small own primitive.Bool = omega arith
  prim-small own primitive.Char = omega arith
  prim-small own primitive.U8 = omega arith
  prim-small own primitive.U16 = omega arith
  prim-small own primitive.U32 = omega arith
  prim-small own primitive.U64 = omega arith
  prim-small own primitive.U128 = omega arith
  prim-small Le64 primitive.Usize = omega arith
  prim-small Be64 primitive.Usize = omega arith
  prim-small Le32 primitive.Usize = omega arith
  prim-small own primitive.I8 = omega arith
  prim-small own primitive.I16 = omega arith
  prim-small own primitive.I32 = omega arith
  prim-small own primitive.I64 = omega arith
  prim-small own primitive.I128 = omega arith
  prim-small Le64 primitive.Isize = omega arith
  prim-small Be64 primitive.Isize = omega arith
  prim-small Le32 primitive.Isize = omega arith
  prim-small own primitive.F32 = omega arith
  prim-small own primitive.F64 = omega arith

  enough : (n m : ℕ) → 16 ≤ m → n ≤ n * m
  enough n m h = let a : 1 * n ≤ m * n = mul-le-mul_right n (omega arith) in let b : n * m ≡ m * n = grind arith in omega arith

  bytes-enough : (n m : ℕ) → 16 ≤ m → all_leaves pointer (repeated n (Range 0 255)) ≤ n * m
  bytes-enough n m h = let e = bytes-leaves n in let more = enough n m h in omega arith

  prim-leaves : (own : Profile) (p : Primitive) (m : ℕ) → 16 ≤ m → all_leaves pointer (prim_parts own p) ≤ prim_size own p * m
  prim-leaves own primitive.Bool m h = let e = one-Range pointer 0 1 in omega arith
  prim-leaves own primitive.Char m h = let e = char-leaves pointer own in omega arith
  prim-leaves own primitive.U8 m h = bytes-enough 1 m h
  prim-leaves own primitive.U16 m h = bytes-enough 2 m h
  prim-leaves own primitive.U32 m h = bytes-enough 4 m h
  prim-leaves own primitive.U64 m h = bytes-enough 8 m h
  prim-leaves own primitive.U128 m h = bytes-enough 16 m h
  prim-leaves own primitive.Usize m h = bytes-enough (pointer_size own) m h
  prim-leaves own primitive.I8 m h = bytes-enough 1 m h
  prim-leaves own primitive.I16 m h = bytes-enough 2 m h
  prim-leaves own primitive.I32 m h = bytes-enough 4 m h
  prim-leaves own primitive.I64 m h = bytes-enough 8 m h
  prim-leaves own primitive.I128 m h = bytes-enough 16 m h
  prim-leaves own primitive.Isize m h = bytes-enough (pointer_size own) m h
  prim-leaves own primitive.F32 m h = bytes-enough 4 m h
  prim-leaves own primitive.F64 m h = bytes-enough 8 m h

  nonzero-few : (own : Profile) (p : Primitive) (m : ℕ) → 16 ≤ m → leaves_of pointer (nonzero_form (prim_size own p)) + 0 ≤ prim_size own p * m
  nonzero-few own p m h = let all = nonzero-leaves-all pointer (prim_size own p) in let square = sixteen (prim_size own p) m h (prim-small own p) in omega arith

  ref-few : (other : Profile) (r : _) (m : ℕ) → 16 ≤ m → other ≡ profile → leaves_of pointer (Ref r) + 0 ≤ pointer_size other * m
  unfolding leaves_of
  ref-few other r m h e =
      let more = enough pointer m h in
      let same : pointer_size other ≡ pointer = ap pointer_size e in
      rw same (omega arith)

  turns-case : (n w m : ℕ) (ts : List Tree) (b : Bool) → (n == 1) ≡ b → all_leaves pointer ts ≤ w * m → all_leaves pointer (if b then ts else repeated n (joined ts)) ≤ max 1 (n * w) * suc m
  turns-case n w m ts true e h =
      let one : n ≡ 1 = one-is n e in
      let same : n * w ≡ w = ap (λ (k : ℕ). k * w) one ∙ omega arith in
      once-more (all_leaves pointer ts) w 0 (max 1 (n * w)) m (omega arith) (omega arith) (omega arith)
  turns-case n w m ts false e h =
      let all = repeated-leaves pointer n (joined ts) in
      let inside = joined-leaves pointer ts in
      let each : n * leaves_of pointer (joined ts) ≤ n * (w * m) = times-below n (leaves_of pointer (joined ts)) (w * m) (omega arith) in
      let same : n * (w * m) ≡ (n * w) * m = grind arith in
      once-more (all_leaves pointer (repeated n (joined ts))) (n * w) 0 (max 1 (n * w)) m (omega arith) (omega arith) (omega arith) where
        times-below : (n a b : ℕ) → a ≤ b → n * a ≤ n * b
        times-below n a b h = let x : n * a ≡ a * n = grind arith in let y : n * b ≡ b * n = grind arith in let z : a * n ≤ b * n = mul-le-mul_right n h in omega arith

  wrap-leaves : (k : Wrapper) (size w m : ℕ) (ts : List Tree) → all_leaves pointer ts ≤ w * m → all_leaves pointer (wrap_parts k size ts) ≤ (w + wrapper_weight k size) * suc m
  wrap-leaves wrapper.Option size w m ts h =
      let all = null-leaves pointer size (joined ts) in
      let inside = joined-leaves pointer ts in
      once-more (leaves_of pointer (null_form size (joined ts)) + 0) w size (w + size) m (omega arith) (omega arith) (omega arith)
  wrap-leaves wrapper.MaybeUninit size w m ts h =
      let all = one_of-leaves pointer (joined (pads size) ∷ joined ts ∷ []) in
      let inside = joined-leaves pointer ts in
      let free = joined-leaves pointer (pads size) in
      let count = pads-leaves size in
      once-more (leaves_of pointer (one_of (joined (pads size) ∷ joined ts ∷ [])) + 0) w size (w + size) m (omega arith) (omega arith) (omega arith)
  wrap-leaves wrapper.ManuallyDrop size w m ts h = once-more (all_leaves pointer ts) w 0 (w + 0) m (omega arith) (omega arith) (omega arith)
  wrap-leaves wrapper.Wrapping size w m ts h = once-more (all_leaves pointer ts) w 0 (w + 0) m (omega arith) (omega arith) (omega arith)
  wrap-leaves wrapper.Cell size w m ts h = once-more (all_leaves pointer ts) w 0 (w + 0) m (omega arith) (omega arith) (omega arith)
  wrap-leaves wrapper.UnsafeCell size w m ts h = once-more (all_leaves pointer ts) w 0 (w + 0) m (omega arith) (omega arith) (omega arith)
  wrap-leaves wrapper.PhantomData size w m ts h = once-more (all_leaves pointer ts) w 0 (w + 0) m (omega arith) (omega arith) (omega arith)

  both-leaves : (ts ss : List Tree) (a w b s m : ℕ) → all_leaves pointer ts ≤ a * m → all_leaves pointer ss ≤ b + w * m → s ≡ max 0 a + w → all_leaves pointer (ts ++ ss) ≤ b + s * m
  both-leaves ts ss a w b s m h k e =
      let all = all_leaves-append pointer ts ss in
      let sum : (a + w) * m ≡ a * m + w * m = add-mul a w m in
      let same : s ≡ a + w = omega arith in
      let times : s * m ≡ (a + w) * m = ap (λ (n : ℕ). n * m) same in
      omega arith

  no_leaves : (m : ℕ) → all_leaves pointer (Never ∷ []) ≤ 1 * m
  unfolding leaves_of
  no_leaves m = omega arith

  none-leaves : all_leaves pointer (Never ∷ []) ≡ 0
  unfolding leaves_of
  none-leaves = refl

  no_leaves_over : (w m : ℕ) → all_leaves pointer (Never ∷ []) ≤ w * suc m
  unfolding leaves_of
  no_leaves_over w m = omega arith

  struct-case : (m : ℕ) (repr : Repr) (members : Fields) (size : ℕ) (b : Bool) → repr.transparent ≡ b
      → all_leaves pointer (bare_parts members) ≤ 0 + sum_from 0 (field_weights members) * m
      → (repr.transparent ≡ false → all_leaves pointer (field_parts size 0 (places repr.packed 0 (field_layouts members)) members) ≤ (size - 0) + sum_from 0 (field_weights members) * m)
      → all_leaves pointer (guarded (all_public members) (if b then bare_parts members else field_parts size 0 (places repr.packed 0 (field_layouts members)) members)) ≤ max (max 1 size) (sum_from 0 (field_weights members)) * suc m
  struct-case m repr members size true e bares placed =
      let outer = guarded-leaves (all_public members) (bare_parts members) in
      once-more (all_leaves pointer (guarded (all_public members) (bare_parts members))) (sum_from 0 (field_weights members)) 0 (max (max 1 size) (sum_from 0 (field_weights members))) m (omega arith) (omega arith) (omega arith)
  struct-case m repr members size false e bares placed =
      let ts = field_parts size 0 (places repr.packed 0 (field_layouts members)) members in
      let outer = guarded-leaves (all_public members) ts in
      let inside = placed e in
      once-more (all_leaves pointer (guarded (all_public members) ts)) (sum_from 0 (field_weights members)) size (max (max 1 size) (sum_from 0 (field_weights members))) m (omega arith) (omega arith) (omega arith)

  way-more : (m size own w others : ℕ) (ts ways : List Tree) → all_leaves pointer ts ≤ w * m → all_leaves pointer ways ≤ others * suc m
      → all_leaves pointer (joined (ts ++ pads (size - own)) ∷ ways) ≤ (max (max 1 size) w + others) * suc m
  way-more m size own w others ts ways h k =
      let inside = joined-leaves pointer (ts ++ pads (size - own)) in
      let all = all_leaves-append pointer ts (pads (size - own)) in
      let free = pads-leaves (size - own) in
      let first = once-more (leaves_of pointer (joined (ts ++ pads (size - own)))) w size (max (max 1 size) w) m (omega arith) (omega arith) (omega arith) in
      let sum : (max (max 1 size) w + others) * suc m ≡ max (max 1 size) w * suc m + others * suc m = add-mul (max (max 1 size) w) others (suc m) in
      omega arith

  variant-more : (m : ℕ) (own : Profile) (tag size : ℕ) (value : _) (fields others : ℕ) (ts ways : List Tree) → tag ≤ size
      → all_leaves pointer ts ≤ (size - tag) + fields * m → all_leaves pointer ways ≤ others * suc m
      → all_leaves pointer (joined (tag_form own tag value ∷ ts) ∷ ways) ≤ (max (max 1 size) (tag + fields) + others) * suc m
  variant-more m own tag size value fields others ts ways inside h k =
      let whole = joined-leaves pointer (tag_form own tag value ∷ ts) in
      let front = tag-leaves pointer own tag value in
      let one = once-more (leaves_of pointer (joined (tag_form own tag value ∷ ts))) fields size (max (max 1 size) (tag + fields)) m (omega arith) (omega arith) (omega arith) in
      let sum : (max (max 1 size) (tag + fields) + others) * suc m ≡ max (max 1 size) (tag + fields) * suc m + others * suc m = add-mul (max (max 1 size) (tag + fields)) others (suc m) in
      omega arith

  mutual
    unfolding parts_of weight_of height_of IsFit layout_of

    pub parts-leaves : (m : ℕ) (t : Expanded) → 16 + height_of t ≤ m → IsFit profile t → all_leaves pointer (parts_of t) ≤ weight_of t * m
    parts-leaves m too_deep h fit = no_leaves m
    parts-leaves m (prim own p) h fit = prim-leaves own p m (omega arith)
    parts-leaves m never h fit = no_leaves m
    parts-leaves m unit h fit = omega arith
    parts-leaves m (tuple members) h fit = no_leaves m
    parts-leaves zero (array t n) h fit = absurd (omega arith)
    parts-leaves (suc m) (array t n) h fit = turns-case n (weight_of t) m (parts_of t) (n == 1) refl (parts-leaves m t (omega arith) fit)
    parts-leaves m (nonzero own p) h fit = nonzero-few own p m (omega arith)
    parts-leaves m phantom h fit = omega arith
    parts-leaves zero (wrap k t) h fit = absurd (omega arith)
    parts-leaves (suc m) (wrap k t) h fit = wrap-leaves k (size_of t) (weight_of t) m (parts_of t) (parts-leaves m t (omega arith) fit)
    parts-leaves m (ref own r) h fit = ref-few own r m (omega arith) fit
    parts-leaves zero (named own id kind repr variants) h fit = absurd (omega arith)
    parts-leaves (suc m) (named own id Struct repr variants) h (kind, fit) =
        struct-leaves m repr variants (size_of (named own id Struct repr variants)) (omega arith) (struct-end own id repr variants) fit
    parts-leaves (suc m) (named own id Union repr variants) h (kind, fit) = union-leaves m variants (size_of (named own id Union repr variants)) (omega arith) fit
    parts-leaves (suc m) (named own id Enum repr variants) h (kind, fit) =
        let size = size_of (named own id Enum repr variants) in
        let all = one_of-leaves pointer (variant_ways own repr (fields_place own repr variants) size variants) in
        let each = ways-leaves m own repr (fields_place own repr variants) size variants (omega arith) (variants-apart own id repr variants) fit in
        omega arith

    struct-leaves : (m : ℕ) (repr : Repr) (variants : Variants) (size : ℕ) → 16 + variants_height variants ≤ m → (repr.transparent ≡ false → end_of repr.packed 0 (only (variant_layouts variants)) ≤ size) → AreVariantsFit profile variants
        → all_leaves pointer (struct_parts repr size variants) ≤ max (max 1 size) (sum_from 0 (only (variant_weights variants))) * suc m
    struct-leaves m repr no_variants size h ends fit = no_leaves_over (max (max 1 size) 0) m
    struct-leaves m repr (variant value members others) size h ends (fit, more) =
        struct-case m repr members size repr.transparent refl (bare-leaves m members (omega arith) fit)
        (λ e. fields-leaves m size 0 (places repr.packed 0 (field_layouts members)) members (omega arith)
        (Apart-widens 0 (places repr.packed 0 (field_layouts members)) (field_layouts members) (end_of repr.packed 0 (field_layouts members)) size (ends e) (places-apart repr.packed 0 (field_layouts members))) fit)

    bare-leaves : (m : ℕ) (members : Fields) → 16 + fields_height members ≤ m → AreFit profile members → all_leaves pointer (bare_parts members) ≤ 0 + sum_from 0 (field_weights members) * m
    bare-leaves m no_fields h fit = omega arith
    bare-leaves m (field public t rest) h (fit, more) =
        both-leaves (parts_of t) (bare_parts rest) (weight_of t) (sum_from 0 (field_weights rest)) 0 (sum_from 0 (field_weights (field public t rest))) m (parts-leaves m t (omega arith) fit) (bare-leaves m rest (omega arith) more) refl

    fields-leaves : (m end at : ℕ) (ps : List ℕ) (members : Fields) → 16 + fields_height members ≤ m → Apart at ps (field_layouts members) end → AreFit profile members
        → all_leaves pointer (field_parts end at ps members) ≤ (end - at) + sum_from 0 (field_weights members) * m
    fields-leaves m end at ps no_fields h apart fit = let e = pads-leaves (end - at) in omega arith
    fields-leaves m end at [] (field public t rest) h apart fit = let e = none-leaves in omega arith
    fields-leaves m end at (place ∷ ps) (field public t rest) h apart (fit, more) =
        let (above, behind_it) = apart-first at place (layout_of t) ps (field_layouts rest) end apart in
        let gap = pads-leaves (place - at) in
        let within = apart-within (place + size_of t) ps (field_layouts rest) end behind_it in
        let all = all_leaves-append pointer (pads (place - at)) (parts_of t ++ field_parts end (place + size_of t) ps rest) in
        let behind = both-leaves (parts_of t) (field_parts end (place + size_of t) ps rest) (weight_of t) (sum_from 0 (field_weights rest)) (end - (place + size_of t))
        (sum_from 0 (field_weights (field public t rest))) m (parts-leaves m t (omega arith) fit) (fields-leaves m end (place + size_of t) ps rest (omega arith) behind_it more) refl in
        omega arith

    union-leaves : (m : ℕ) (variants : Variants) (size : ℕ) → 16 + variants_height variants ≤ m → AreVariantsFit profile variants → all_leaves pointer (union_parts size variants) ≤ sum_from (max 1 size) (only (variant_weights variants)) * suc m
    union-leaves m no_variants size h fit = no_leaves_over 0 m
    union-leaves m (variant value members others) size h (fit, more) =
        let outer = guarded-leaves (all_public members) (one_of (union_ways size members) ∷ []) in
        let all = one_of-leaves pointer (union_ways size members) in
        let each = union-each m size members (omega arith) fit in
        omega arith

    union-each : (m size : ℕ) (members : Fields) → 16 + fields_height members ≤ m → AreFit profile members → all_leaves pointer (union_ways size members) ≤ sum_from (max 1 size) (field_weights members) * suc m
    union-each m size no_fields h fit = omega arith
    union-each m size (field public t rest) h (fit, more) =
        way-more m size (size_of t) (weight_of t) (sum_from (max 1 size) (field_weights rest)) (parts_of t) (union_ways size rest) (parts-leaves m t (omega arith) fit) (union-each m size rest (omega arith) more)

    ways-leaves : (m : ℕ) (own : Profile) (repr : Repr) (begin size : ℕ) (variants : Variants) → 16 + variants_height variants ≤ m
        → AllByRecursion (λ ls. Apart (tag_layout own repr.tag).size (variant_places own repr begin ls) ls size) (variant_layouts variants) → AreVariantsFit profile variants
        → all_leaves pointer (variant_ways own repr begin size variants) ≤ variants_sum_from (max 1 size) (tag_layout own repr.tag).size (variant_weights variants) * suc m
    ways-leaves m own repr begin size no_variants h apart fit = omega arith
    ways-leaves m own repr begin size (variant value members rest) h (apart, others) (fit, more) =
        let ps = variant_places own repr begin (field_layouts members) in
        variant-more m own (tag_layout own repr.tag).size size value (sum_from 0 (field_weights members)) (variants_sum_from (max 1 size) (tag_layout own repr.tag).size (variant_weights rest))
        (field_parts size (tag_layout own repr.tag).size ps members) (variant_ways own repr begin size rest) (apart-within (tag_layout own repr.tag).size ps (field_layouts members) size apart)
        (fields-leaves m size (tag_layout own repr.tag).size ps members (omega arith) apart fit) (ways-leaves m own repr begin size rest (omega arith) others more)

  -- the tree of a type has no more leaves than its weight, 16 times and once more for each type around others
  pub tree-leaves : (m : ℕ) (t : Expanded) → 16 + height_of t ≤ m → IsFit profile t → leaves_of pointer (tree_for t) ≤ weight_of t * m
  unfolding tree_for
  tree-leaves m t h fit = let inside = joined-leaves pointer (parts_of t) in let all = parts-leaves m t h fit in omega arith
