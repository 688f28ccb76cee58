-- The references that the words of a type hold are of its leaves.
use Rattle.std.proofs.Common.{◌≡◌, ℕ, zero, suc, sym, subst, Bool, true, false, List, [], ◌∷◌, ◌++◌, inl, inr, arith, Option, None}
use Rattle.std.specs.Prelude.{◌==◌}
use Rattle.std.specs.List.{All, range_with_len}
use Rattle.std.proofs.lemmas.Bool.{or_left, or_right}
use Rattle.std.proofs.lemmas.Bool.Decides.{nat_tests}
use Rattle.std.proofs.lemmas.List.Elements.{All-append, All-cons, All-head, All-map, All-nil, All-replicate, All-same, All-tail, All-weaker}
use Rattle.tm_base.specs.declared.cell.Cell.{Cell}
use Rattle.tm_base.specs.declared.cell.Cell.TheVariants.{Byte, Uninit, Ptr}
use Rattle.tm_base.specs.declared.cell.RefId.{RefId}
use Rattle.tm_base.specs.declared.definition.Kind.TheVariants.{Struct, Union, Enum}
use Rattle.tm_base.specs.declared.ground.Primitive.{Primitive}
use Rattle.tm_base.specs.declared.ground.Primitive.TheVariants as primitive
use Rattle.tm_base.specs.declared.ground.Wrapper.{Wrapper}
use Rattle.tm_base.specs.declared.ground.Wrapper.TheVariants as wrapper
use Rattle.tm_base.specs.declared.profile.Profile.{Profile}
use Rattle.tm_base.specs.Cells.{Word, IsByte, IsFree, Times, pointer_of}
use Rattle.tm_base.specs.Expanded.{Expanded, Fields, Variants, too_deep, prim, never, unit, tuple, array, nonzero, phantom, wrap, ref, named, no_fields, field, no_variants, variant}
use Rattle.tm_base.specs.Layout.{size_of}
use Rattle.tm_base.specs.Parts.{some_part, some_field, some_variant}
use Rattle.tm_base.specs.Profiles.{pointer_size}
use Rattle.tm_base.specs.Transmutes.{Same}
use Rattle.tm_base.specs.Valid.{Valid, StructValid, UnionValid, FieldsValid, SomeFieldValid, SomeVariantValid, PrimValid, WrapValid}
use Rattle.tm_refs.specs.Looks.{has_leaf, is_reference}

pub All-front : {X : Type 0} (P : X → Type 0) (xs ys : List X) → All P (xs ++ ys) → All P xs
All-front P [] ys h = All-nil P
All-front P (x ∷ xs) ys h = All-cons P x xs (All-head P x (xs ++ ys) h) (All-front P xs ys (All-tail P x (xs ++ ys) h))

pub All-back : {X : Type 0} (P : X → Type 0) (xs ys : List X) → All P (xs ++ ys) → All P ys
All-back P [] ys h = h
All-back P (x ∷ xs) ys h = All-back P xs ys (All-tail P x (xs ++ ys) h)

-- the leaves of a type, of fields and of variants are among some references
module _ (L : ℕ → Type 0) where
  abbrev pub AreLeaves : Expanded → Type 0
  AreLeaves t = (x : ℕ) → has_leaf t x ≡ true → L x

  abbrev pub AreFieldLeaves : Fields → Type 0
  AreFieldLeaves members = (x : ℕ) → some_field (is_reference x) members ≡ true → L x

  abbrev pub AreVariantLeaves : Variants → Type 0
  AreVariantLeaves vs = (x : ℕ) → some_variant (is_reference x) vs ≡ true → L x

  pub first_leaves : (public : Bool) (t : Expanded) (rest : Fields) → AreFieldLeaves (field public t rest) → AreLeaves t
  unfolding some_part
  first_leaves public t rest among x h = among x (or_left (has_leaf t x) (some_field (is_reference x) rest) h)

  pub other_leaves : (public : Bool) (t : Expanded) (rest : Fields) → AreFieldLeaves (field public t rest) → AreFieldLeaves rest
  unfolding some_part
  other_leaves public t rest among x h = among x (or_right (has_leaf t x) (some_field (is_reference x) rest) h)

-- a reference is its own leaf
pub itself : (profile : Profile) (r : RefId) → has_leaf (ref profile r) r.0 ≡ true
unfolding some_part
itself profile r = or_left _ false (same r.0) where
  same : (n : ℕ) → (n == n) ≡ true
  same n = grind (arith, nat_tests)

-- a cell of a reference is of one of these
abbrev pub IsCellOf : (ℕ → Type 0) → Cell → Type 0
IsCellOf W (Byte b) = Unit {0}
IsCellOf W Uninit = Unit {0}
IsCellOf W (Ptr x k) = W x.0

-- the references of a word are among these
abbrev pub AreOf : (ℕ → Type 0) → Word → Type 0
AreOf W w = All (IsCellOf W) w

free_cell : (W : ℕ → Type 0) (c : Cell) → IsFree c → IsCellOf W c
free_cell W (Byte b) h = tt
free_cell W Uninit h = tt
free_cell W (Ptr x k) h = absurd h

byte_cell : (W : ℕ → Type 0) (c : Cell) → IsByte c → IsCellOf W c
byte_cell W (Byte b) h = tt
byte_cell W Uninit h = absurd h
byte_cell W (Ptr x k) h = absurd h

free-of : (W : ℕ → Type 0) (w : Word) → All IsFree w → AreOf W w
free-of W w h = All-weaker IsFree (IsCellOf W) (free_cell W) w h

bytes-of : (W : ℕ → Type 0) (w : Word) → All IsByte w → AreOf W w
bytes-of W w h = All-weaker IsByte (IsCellOf W) (byte_cell W) w h

none-of : (W : ℕ → Type 0) (w : Word) → w ≡ [] → AreOf W w
none-of W w e = All-same (IsCellOf W) w [] e (All-nil (IsCellOf W))

pointer-of : (W : ℕ → Type 0) (profile : Profile) (x : ℕ) → W x → AreOf W (pointer_of (pointer_size profile) x)
pointer-of W profile x h = All-map (IsCellOf W) (λ k. Ptr (record { 0 = x }) k) (range_with_len 0 (pointer_size profile)) (λ k d below. h)

PrimValid-of : (W : ℕ → Type 0) (profile : Profile) (p : Primitive) (w : Word) → PrimValid profile p w → AreOf W w
PrimValid-of W profile primitive.Bool w h = bytes-of W w h.0.1
PrimValid-of W profile primitive.Char w h = bytes-of W w h.0.1
PrimValid-of W profile _ w h = bytes-of W w h.1

-- a value of a type whose leaves are among these holds references that are
module _ (W : ℕ → Type 0) (keep : Bool) where
  Times-of : (n : ℕ) (Q : Word → Type 0) → ((u : Word) → Q u → AreOf W u) → (w : Word) → Times n Q w → AreOf W w
  Times-of zero Q each w h = none-of W w h
  Times-of (suc n) Q each w (u, v, e, first, others) = All-same (IsCellOf W) w (u ++ v) e (All-append (IsCellOf W) u v (each u first) (Times-of n Q each v others))

  WrapValid-of : (k : Wrapper) (n : ℕ) (Q : Word → Type 0) → ((u : Word) → Q u → AreOf W u) → (w : Word) → WrapValid k n Q w → AreOf W w
  WrapValid-of wrapper.Option n Q each w (inl e) = All-same (IsCellOf W) w _ e (All-replicate (IsCellOf W) n (Byte 0) tt)
  WrapValid-of wrapper.Option n Q each w (inr h) = each w h
  WrapValid-of wrapper.MaybeUninit n Q each w (inl h) = free-of W w h.1
  WrapValid-of wrapper.MaybeUninit n Q each w (inr h) = each w h
  WrapValid-of _ n Q each w h = each w h

  mutual
    unfolding Valid some_part

    pub Valid-of : (t : Expanded) → AreLeaves W t → (w : Word) → Valid Same keep t w → AreOf W w
    Valid-of too_deep among w h = absurd h
    Valid-of (prim profile p) among w h = PrimValid-of W profile p w h
    Valid-of never among w h = absurd h
    Valid-of unit among w h = none-of W w h
    Valid-of (tuple members) among w h = absurd h
    Valid-of (array t n) among w h = Times-of n (Valid Same keep t) (λ u. Valid-of t among u) w h
    Valid-of (nonzero profile p) among w h = bytes-of W w h.0.1
    Valid-of phantom among w h = none-of W w h
    Valid-of (wrap k t) among w h = WrapValid-of k (size_of t) (Valid Same keep t) (λ u. Valid-of t among u) w h
    Valid-of (ref profile r) among w (x, a, e) = All-same (IsCellOf W) w _ e (pointer-of W profile x (subst W (sym a) (among r.0 (itself profile r))))
    Valid-of (named profile id Struct repr variants) among w (l, h) = StructValid-of repr.packed variants among w h
    Valid-of (named profile id Union repr variants) among w (l, h) = UnionValid-of variants among w h
    Valid-of (named profile id Enum repr variants) among w (l, h) = SomeVariantValid-of profile repr.tag _ _ variants among w h

    StructValid-of : (packed : Option ℕ) (vs : Variants) → AreVariantLeaves W vs → (w : Word) → StructValid Same keep packed vs w → AreOf W w
    StructValid-of packed no_variants among w h = absurd h
    StructValid-of packed (variant value members others) among w (o, h) =
        FieldsValid-of packed 0 members (λ x at. among x (or_left _ (some_variant (is_reference x) others) at)) w h

    UnionValid-of : (vs : Variants) → AreVariantLeaves W vs → (w : Word) → UnionValid Same keep vs w → AreOf W w
    UnionValid-of no_variants among w h = absurd h
    UnionValid-of (variant value members others) among w (o, h) =
        SomeFieldValid-of members (λ x at. among x (or_left _ (some_variant (is_reference x) others) at)) w h

    FieldsValid-of : (packed : Option ℕ) (at : ℕ) (members : Fields) → AreFieldLeaves W members → (w : Word) → FieldsValid Same keep packed at members w → AreOf W w
    FieldsValid-of packed at no_fields among w h = free-of W w h
    FieldsValid-of packed at (field public t rest) among w (gap, here, others, e, place, gap_free, valid, behind) =
        All-same (IsCellOf W) w _ e
        (All-append (IsCellOf W) gap (here ++ others) (free-of W gap gap_free)
        (All-append (IsCellOf W) here others (Valid-of t (first_leaves W public t rest among) here valid) (FieldsValid-of packed _ rest (other_leaves W public t rest among) others behind)))

    SomeFieldValid-of : (members : Fields) → AreFieldLeaves W members → (w : Word) → SomeFieldValid Same keep members w → AreOf W w
    SomeFieldValid-of no_fields among w h = absurd h
    SomeFieldValid-of (field public t rest) among w (inl (here, others, e, valid, behind)) =
        All-same (IsCellOf W) w _ e (All-append (IsCellOf W) here others (Valid-of t (first_leaves W public t rest among) here valid) (free-of W others behind))
    SomeFieldValid-of (field public t rest) among w (inr h) = SomeFieldValid-of rest (other_leaves W public t rest among) w h

    SomeVariantValid-of : (profile : Profile) (tag : Option Primitive) (begin first : ℕ) (vs : Variants) → AreVariantLeaves W vs → (w : Word) → SomeVariantValid Same keep profile tag begin first vs w → AreOf W w
    SomeVariantValid-of profile tag begin first no_variants among w h = absurd h
    SomeVariantValid-of profile tag begin first (variant value members rest) among w (inl (front, gap, others, e, is_tag, place, gap_free, behind)) =
        All-same (IsCellOf W) w _ e
        (All-append (IsCellOf W) front (gap ++ others) (bytes-of W front is_tag.0.1)
        (All-append (IsCellOf W) gap others (free-of W gap gap_free)
        (FieldsValid-of None first members (λ x at. among x (or_left _ (some_variant (is_reference x) rest) at)) others behind)))
    SomeVariantValid-of profile tag begin first (variant value members rest) among w (inr h) =
        SomeVariantValid-of profile tag begin first rest (λ x at. among x (or_right (some_field (is_reference x) members) _ at)) w h
