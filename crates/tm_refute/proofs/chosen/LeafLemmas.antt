-- The references in a judged type, and so those in its words, point to judged types.
use Rattle.std.proofs.Common.{◌≡◌, ◌<◌, ℕ, zero, suc, ◌+◌, ◌-◌, ◌==◌, inl, inr, refl, sym, subst, true, false, List, [], ◌++◌, length, take, Some, slice_get, arith}
use Rattle.std.specs.Prelude.{replicate}
use Rattle.std.specs.List.{All, Contains, flat_map}
use Rattle.std.proofs.lemmas.Bool.{eqb-true, or_cases}
use Rattle.std.proofs.lemmas.List.Elements.{All-append, All-cons, All-contains, All-contains_itself, All-nil, All-replicate, All-take, All-weaker, Contains-append_left, Contains-append_right}
use Rattle.tm_base.specs.declared.cell.Cell.TheVariants.{Ptr, Uninit}
use Rattle.tm_base.specs.declared.definition.RefRow.{RefRow}
use Rattle.tm_base.specs.declared.ground.Ground.{Ground, out-Ground}
use Rattle.tm_base.specs.declared.ground.Ground.TheOpen.{Ground-F}
use Rattle.tm_base.specs.declared.ground.Wrapper.{Wrapper}
use Rattle.tm_base.specs.declared.ground.Wrapper.TheVariants as wrapper
use Rattle.tm_base.specs.Expanded.{Expanded, Fields, Variants, too_deep, prim, never, unit, tuple, array, nonzero, phantom, wrap, ref, named, no_fields, field, no_variants, variant, depth_limit, expanded_within, level, wrapped}
use Rattle.tm_base.specs.Layout.{size_of}
use Rattle.tm_base.specs.Parts.{some_part, some_field, some_variant}
use Rattle.tm_base.specs.Reaches.{ChainIn, IsJudged, parts_within, pointees_within, row_parts, row_pointee}
use Rattle.tm_base.specs.Tables.{Tables, expanded_in}
use Rattle.tm_base.specs.Transmutes.{IsSourceWord}
use Rattle.tm_laws.proofs.known.ListedLemmas.{Contains-from_IsIn, IsIn-flat_map, IsIn-from_Contains}
use Rattle.tm_base.specs.declared.world.World.{World}
use Rattle.tm_laws.proofs.refusals.Worlds.{HasKnownLeaves}
use Rattle.tm_laws.proofs.whole.Leaves.{Leaf, leaves, field_leaves, variant_leaves}
use Rattle.tm_laws.proofs.whole.Types.{level-leaves}
use Rattle.tm_refs.specs.Looks.{has_leaf, is_reference}
use Rattle.tm_refs.proofs.LeafLemmas.{IsCellOf, Valid-of}
use Rattle.tm_refute.specs.Chosen.{shown}
use Rattle.tm_refute.specs.declared.refutation.Piece.{Piece}

-- one of some references has the number
abbrev IsNumberOf : List Leaf → ℕ → Type 0
IsNumberOf refs x = (leaf : Leaf) × Contains refs leaf × (leaf.number ≡ x)

on-left : (xs ys : List Leaf) (x : ℕ) → IsNumberOf xs x → IsNumberOf (xs ++ ys) x
on-left xs ys x (leaf, at, e) = (leaf, Contains-append_left xs ys leaf at, e)

on-right : (xs ys : List Leaf) (x : ℕ) → IsNumberOf ys x → IsNumberOf (xs ++ ys) x
on-right xs ys x (leaf, at, e) = (leaf, Contains-append_right xs ys leaf at, e)

-- a leaf of a type is one of the references in it
mutual
  unfolding some_part leaves

  leaf-listed : (t : Expanded) (x : ℕ) → has_leaf t x ≡ true → IsNumberOf (leaves t) x
  leaf-listed too_deep x h = cc
  leaf-listed (prim profile p) x h = cc
  leaf-listed never x h = cc
  leaf-listed unit x h = cc
  leaf-listed (tuple members) x h = field-listed members x h
  leaf-listed (array t n) x h = leaf-listed t x h
  leaf-listed (nonzero profile p) x h = cc
  leaf-listed phantom x h = cc
  leaf-listed (wrap w t) x h = leaf-listed t x h
  leaf-listed (ref profile r) x h = elim (or_cases (r.0 == x) false h) [
    | inl e ↦ (record { profile = profile; number = r.0 }, (zero, omega arith, refl), eqb-true r.0 x e)
    | inr e ↦ cc
  ]
  leaf-listed (named profile id kind repr variants) x h = variant-listed variants x h

  field-listed : (members : Fields) (x : ℕ) → some_field (is_reference x) members ≡ true → IsNumberOf (field_leaves members) x
  field-listed no_fields x h = cc
  field-listed (field public t rest) x h = elim (or_cases (has_leaf t x) (some_field (is_reference x) rest) h) [
    | inl e ↦ on-left (leaves t) (field_leaves rest) x (leaf-listed t x e)
    | inr e ↦ on-right (leaves t) (field_leaves rest) x (field-listed rest x e)
  ]

  variant-listed : (vs : Variants) (x : ℕ) → some_variant (is_reference x) vs ≡ true → IsNumberOf (variant_leaves vs) x
  variant-listed no_variants x h = cc
  variant-listed (variant value members rest) x h = elim (or_cases (some_field (is_reference x) members) (some_variant (is_reference x) rest) h) [
    | inl e ↦ on-left (field_leaves members) (variant_leaves rest) x (field-listed members x e)
    | inr e ↦ on-right (field_leaves members) (variant_leaves rest) x (variant-listed rest x e)
  ]

module _ (tables : Tables) where
  -- the reference points to a judged type, where it is one of the tables
  abbrev PointsToJudged : Leaf → Type 0
  PointsToJudged leaf = (row : RefRow) → slice_get tables.refs leaf.number ≡ Some row → IsJudged tables row.pointee

  -- what a judged type enters is judged
  entered : (g h : Ground) (x : Ground-F Ground) → out-Ground g ≡ x → IsJudged tables g → Contains (parts_within tables.named x ++ pointees_within tables.refs x) h → IsJudged tables h
  unfolding ChainIn
  entered g h x e judged at k (n, way) =
      judged k (suc n, (h, subst (λ y. Contains (parts_within tables.named y ++ pointees_within tables.refs y) h) (sym e) at, way))

  -- and so is each of its parts
  parts-judged : (g : Ground) (x : Ground-F Ground) → out-Ground g ≡ x → IsJudged tables g → (gs : List Ground) → ((h : Ground) → Contains gs h → Contains (parts_within tables.named x) h) → All (IsJudged tables) gs
  parts-judged g x e judged gs parts =
      All-weaker (Contains gs) (IsJudged tables)
      (λ h at. entered g h x e judged (Contains-append_left (parts_within tables.named x) (pointees_within tables.refs x) h (parts h at))) gs (All-contains_itself gs)

  flat : (types : List (List Ground)) (gs : List Ground) (h : Ground) → Contains types gs → Contains gs h → Contains (flat_map (λ ts. ts) types) h
  flat types gs h inside at =
      Contains-from_IsIn (flat_map (λ ts. ts) types) h (IsIn-flat_map (λ ts. ts) types gs h (IsIn-from_Contains types gs inside) (IsIn-from_Contains gs h at))

  module _ (part : Ground → Expanded) (each : (g : Ground) → IsJudged tables g → All PointsToJudged (leaves (part g))) where
    wrapped-points : (g k : Ground) (w : Wrapper) → out-Ground g ≡ Ground-F.Wrap w k → IsJudged tables g → All PointsToJudged (leaves (wrapped part w k))
    unfolding leaves
    wrapped-points g k wrapper.PhantomData e judged = All-nil PointsToJudged
    wrapped-points g k w e judged = each k (entered g k (Ground-F.Wrap w k) e judged (zero, omega arith, refl))

    level-points : (g : Ground) (x : Ground-F Ground) → out-Ground g ≡ x → IsJudged tables g → All PointsToJudged (leaves (level part tables.profile tables.defs tables.named x))
    unfolding leaves
    level-points g (Ground-F.Prim p) e judged = All-nil PointsToJudged
    level-points g Ground-F.Never e judged = All-nil PointsToJudged
    level-points g Ground-F.Unit e judged = All-nil PointsToJudged
    level-points g (Ground-F.Tuple gs) e judged =
        level-leaves PointsToJudged (IsJudged tables) tables.profile part each tables.defs tables.named (Ground-F.Tuple gs) (parts-judged g (Ground-F.Tuple gs) e judged gs (λ h at. at))
    level-points g (Ground-F.Array k n) e judged = each k (entered g k (Ground-F.Array k n) e judged (zero, omega arith, refl))
    level-points g (Ground-F.Named id) e judged =
        level-leaves PointsToJudged (IsJudged tables) tables.profile part each tables.defs tables.named (Ground-F.Named id)
        (λ row at. All-weaker (Contains row.types) (All (IsJudged tables))
        (λ gs inside. parts-judged g (Ground-F.Named id) e judged gs (λ h there. subst (λ o. Contains (row_parts o) h) (sym at) (flat row.types gs h inside there)))
        row.types (All-contains_itself row.types))
    level-points g (Ground-F.NonZero p) e judged = All-nil PointsToJudged
    level-points g (Ground-F.Wrap w k) e judged = wrapped-points g k w e judged
    level-points g (Ground-F.Ref r) e judged =
        All-cons PointsToJudged (record { profile = tables.profile; number = r.0 }) []
        (λ row at. entered g row.pointee (Ground-F.Ref r) e judged (subst (λ o. Contains ([] ++ row_pointee o) row.pointee) (sym at) (zero, omega arith, refl))) (All-nil PointsToJudged)

  within-points : (n : ℕ) (g : Ground) → IsJudged tables g → All PointsToJudged (leaves (expanded_within tables.profile n tables.defs tables.named g))
  unfolding expanded_within leaves
  within-points zero g judged = All-nil PointsToJudged
  within-points (suc n) g judged = level-points (expanded_within tables.profile n tables.defs tables.named) (λ k. within-points n k) g (out-Ground g) refl judged

  -- a leaf of a judged type points to a judged one
  pub leaf-judged : (g : Ground) → IsJudged tables g → (x : ℕ) → has_leaf (expanded_in tables g) x ≡ true → (row : RefRow) → slice_get tables.refs x ≡ Some row → IsJudged tables row.pointee
  leaf-judged g judged x h row at =
      let (leaf, inside, e) = leaf-listed (expanded_in tables g) x h in
      All-contains PointsToJudged (leaves (expanded_in tables g)) leaf (within-points depth_limit g judged) inside row (subst (λ (y : ℕ). slice_get tables.refs y ≡ Some row) (sym e) at)

-- a reference in the cells that are shown of a source's word is a leaf of the source
pub shown-leaf : (s t : Expanded) (piece : Piece) → IsSourceWord s piece.word → (x place : ℕ) → Contains (shown t piece) (Ptr (record { 0 = x }) place) → has_leaf s x ≡ true
shown-leaf s t piece value x place at =
    let n = size_of t in
    let P = IsCellOf (λ y. has_leaf s y ≡ true) in
    let filled = All-append P (take n piece.word) (replicate (n - length piece.word) Uninit) (All-take P n piece.word (Valid-of (λ y. has_leaf s y ≡ true) true s (λ y leaf. leaf) piece.word value)) (All-replicate P (n - length piece.word) Uninit tt) in
    All-contains P (shown t piece) (Ptr (record { 0 = x }) place) (All-take P (piece.offset + 1) (take n piece.word ++ replicate (n - length piece.word) Uninit) filled) at

-- a leaf of a type over a world is one of the world's references
pub known : (world : World) (t : Expanded) → HasKnownLeaves world t → (x : ℕ) → has_leaf t x ≡ true → x < length world.refs
known world t leaves_are x h =
    let (leaf, at, e) = leaf-listed t x h in
    subst (λ (n : ℕ). n < length world.refs) e (All-contains (λ (l : Leaf). l.number < length world.refs) (leaves t) leaf leaves_are at)
