-- Whether a value of one type may be taken as one of another rests on the leaves of the two types alone: on
-- which leaf of the source may be taken as which leaf of the target.
use Rattle.std.proofs.Common.{◌≡◌, ℕ, zero, suc, ◌-◌, subst, Bool, true, ◌++◌, length, take, get_or, inl, inr, arith, Option, None}
use Rattle.std.specs.Prelude.{replicate}
use Rattle.std.proofs.lemmas.Bool.{or_left, or_right}
use Rattle.std.proofs.lemmas.List.Elements.{All-append, All-replicate, All-take}
use Rattle.tm_base.specs.declared.assume.Assume.{Assume}
use Rattle.tm_base.specs.declared.cell.Cell.{Cell}
use Rattle.tm_base.specs.declared.cell.Cell.TheVariants.{Byte, Uninit, Ptr}
use Rattle.tm_base.specs.declared.definition.Kind.TheVariants.{Struct, Union, Enum}
use Rattle.tm_base.specs.declared.ground.Primitive.{Primitive}
use Rattle.tm_base.specs.declared.ground.Wrapper.{Wrapper}
use Rattle.tm_base.specs.declared.ground.Wrapper.TheVariants as wrapper
use Rattle.tm_base.specs.declared.profile.Profile.{Profile}
use Rattle.tm_base.specs.declared.profile.Profile.TheVariants.{Le64, Be64, Le32}
use Rattle.tm_base.specs.Cells.{Word, Times, fit, pointer_of}
use Rattle.tm_base.specs.Expanded.{Expanded, Fields, Variants, too_deep, prim, never, unit, tuple, array, nonzero, phantom, wrap, ref, named, no_fields, field, no_variants, variant}
use Rattle.tm_base.specs.Layout.{size_of}
use Rattle.tm_base.specs.Parts.{some_part, some_field, some_variant}
use Rattle.tm_base.specs.Profiles.{pointer_size}
use Rattle.tm_base.specs.Transmutes.{Same, Transmutes}
use Rattle.tm_base.specs.Valid.{Valid, StructValid, UnionValid, FieldsValid, SomeFieldValid, SomeVariantValid, WrapValid}
use Rattle.tm_refs.specs.Looks.{has_leaf, is_reference}
use Rattle.tm_refs.proofs.LeafLemmas.{All-front, All-back, AreLeaves, AreFieldLeaves, AreVariantLeaves, first_leaves, other_leaves, itself, IsCellOf, Valid-of, AreOf}

-- A value of a type whose references are among some stays one where what those may be, taken as the type's leaves, is more.
module _ (A B : ℕ → ℕ → Type 0) (W L : ℕ → Type 0) (keep : Bool) (over : (x t : ℕ) → W x → L t → A x t → B x t) where
  Times-moves : (n : ℕ) (P Q : Word → Type 0) → ((u : Word) → AreOf W u → P u → Q u) → (w : Word) → AreOf W w → Times n P w → Times n Q w
  Times-moves zero P Q moves w of h = h
  Times-moves (suc n) P Q moves w of (u, v, e, first, others) =
      let whole : AreOf W (u ++ v) = subst (AreOf W) e of in
      (u, v, e, moves u (All-front (IsCellOf W) u v whole) first, Times-moves n P Q moves v (All-back (IsCellOf W) u v whole) others)

  WrapValid-moves : (k : Wrapper) (n : ℕ) (P Q : Word → Type 0) → ((u : Word) → AreOf W u → P u → Q u) → (w : Word) → AreOf W w → WrapValid k n P w → WrapValid k n Q w
  WrapValid-moves wrapper.Option n P Q moves w of (inl h) = inl h
  WrapValid-moves wrapper.Option n P Q moves w of (inr h) = inr (moves w of h)
  WrapValid-moves wrapper.MaybeUninit n P Q moves w of (inl h) = inl h
  WrapValid-moves wrapper.MaybeUninit n P Q moves w of (inr h) = inr (moves w of h)
  WrapValid-moves _ n P Q moves w of h = moves w of h

  pointer-source : (profile : Profile) (x : ℕ) → AreOf W (pointer_of (pointer_size profile) x) → W x
  pointer-source Le64 x h = h 0 Uninit (omega arith)
  pointer-source Be64 x h = h 0 Uninit (omega arith)
  pointer-source Le32 x h = h 0 Uninit (omega arith)

  mutual
    unfolding Valid some_part

    Valid-moves : (t : Expanded) → AreLeaves L t → (w : Word) → AreOf W w → Valid A keep t w → Valid B keep t w
    Valid-moves too_deep among w of h = h
    Valid-moves (prim profile p) among w of h = h
    Valid-moves never among w of h = h
    Valid-moves unit among w of h = h
    Valid-moves (tuple members) among w of h = h
    Valid-moves (array t n) among w of h = Times-moves n (Valid A keep t) (Valid B keep t) (λ u. Valid-moves t among u) w of h
    Valid-moves (nonzero profile p) among w of h = h
    Valid-moves phantom among w of h = h
    Valid-moves (wrap k t) among w of h = WrapValid-moves k (size_of t) (Valid A keep t) (Valid B keep t) (λ u. Valid-moves t among u) w of h
    Valid-moves (ref profile r) among w of (x, a, e) = (x, over x r.0 (pointer-source profile x (subst (AreOf W) e of)) (among r.0 (itself profile r)) a, e)
    Valid-moves (named profile id Struct repr variants) among w of (l, h) = (l, StructValid-moves repr.packed variants among w of h)
    Valid-moves (named profile id Union repr variants) among w of (l, h) = (l, UnionValid-moves variants among w of h)
    Valid-moves (named profile id Enum repr variants) among w of (l, h) = (l, SomeVariantValid-moves profile repr.tag _ _ variants among w of h)

    StructValid-moves : (packed : Option ℕ) (vs : Variants) → AreVariantLeaves L vs → (w : Word) → AreOf W w → StructValid A keep packed vs w → StructValid B keep packed vs w
    StructValid-moves packed no_variants among w of h = h
    StructValid-moves packed (variant value members others) among w of (o, h) =
        (o, FieldsValid-moves packed 0 members (λ x at. among x (or_left _ (some_variant (is_reference x) others) at)) w of h)

    UnionValid-moves : (vs : Variants) → AreVariantLeaves L vs → (w : Word) → AreOf W w → UnionValid A keep vs w → UnionValid B keep vs w
    UnionValid-moves no_variants among w of h = h
    UnionValid-moves (variant value members others) among w of (o, h) =
        (o, SomeFieldValid-moves members (λ x at. among x (or_left _ (some_variant (is_reference x) others) at)) w of h)

    FieldsValid-moves : (packed : Option ℕ) (at : ℕ) (members : Fields) → AreFieldLeaves L members → (w : Word) → AreOf W w → FieldsValid A keep packed at members w → FieldsValid B keep packed at members w
    FieldsValid-moves packed at no_fields among w of h = h
    FieldsValid-moves packed at (field public t rest) among w of (gap, here, others, e, place, free, valid, behind) =
        let whole : AreOf W (gap ++ (here ++ others)) = subst (AreOf W) e of in
        let inside : AreOf W (here ++ others) = All-back (IsCellOf W) gap (here ++ others) whole in (
          gap,
          here,
          others,
          e,
          place,
          free,
          Valid-moves t (first_leaves L public t rest among) here (All-front (IsCellOf W) here others inside) valid,
          FieldsValid-moves packed _ rest (other_leaves L public t rest among) others (All-back (IsCellOf W) here others inside) behind,
        )

    SomeFieldValid-moves : (members : Fields) → AreFieldLeaves L members → (w : Word) → AreOf W w → SomeFieldValid A keep members w → SomeFieldValid B keep members w
    SomeFieldValid-moves no_fields among w of h = h
    SomeFieldValid-moves (field public t rest) among w of (inl (here, others, e, valid, free)) =
        inl (here, others, e, Valid-moves t (first_leaves L public t rest among) here (All-front (IsCellOf W) here others (subst (AreOf W) e of)) valid, free)
    SomeFieldValid-moves (field public t rest) among w of (inr h) = inr (SomeFieldValid-moves rest (other_leaves L public t rest among) w of h)

    SomeVariantValid-moves : (profile : Profile) (tag : Option Primitive) (begin first : ℕ) (vs : Variants) → AreVariantLeaves L vs → (w : Word) → AreOf W w → SomeVariantValid A keep profile tag begin first vs w → SomeVariantValid B keep profile tag begin first vs w
    SomeVariantValid-moves profile tag begin first no_variants among w of h = h
    SomeVariantValid-moves profile tag begin first (variant value members rest) among w of (inl (front, gap, others, e, is_tag, place, free, behind)) =
        let whole : AreOf W (front ++ (gap ++ others)) = subst (AreOf W) e of in
        let inside : AreOf W others = All-back (IsCellOf W) gap others (All-back (IsCellOf W) front (gap ++ others) whole) in
        inl (front, gap, others, e, is_tag, place, free, FieldsValid-moves None first members (λ x at. among x (or_left _ (some_variant (is_reference x) rest) at)) others inside behind)
    SomeVariantValid-moves profile tag begin first (variant value members rest) among w of (inr h) =
        inr (SomeVariantValid-moves profile tag begin first rest (λ x at. among x (or_right (some_field (is_reference x) members) _ at)) w of h)

any_cell : (c : Cell) → IsCellOf (λ x. Unit {0}) c
any_cell (Byte b) = tt
any_cell Uninit = tt
any_cell (Ptr x k) = tt

-- Whether a word is a value rests on what the references that the type is or holds by value may hold.
pub Valid-leaves : (A B : ℕ → ℕ → Type 0) (keep : Bool) (t : Expanded) → ((x u : ℕ) → has_leaf t u ≡ true → A x u → B x u) → (w : Word) → Valid A keep t w → Valid B keep t w
Valid-leaves A B keep t over w h = Valid-moves A B (λ x. Unit {0}) (λ u. has_leaf t u ≡ true) keep (λ x u any leaf a. over x u leaf a) t (λ u at. at) w (λ k d below. any_cell (get_or w k d)) h

-- a value that is cut or filled up holds none but its references
fit-of : (W : ℕ → Type 0) (w : Word) (m : ℕ) → AreOf W w → AreOf W (fit w m)
fit-of W w m of =
    All-append (IsCellOf W) (take m w) (replicate (m - length w) Uninit) (All-take (IsCellOf W) m w of) (All-replicate (IsCellOf W) (m - length w) Uninit tt)

-- What may be taken over A may be over B, where B has what A has of the leaves of the two types.
module _ (A B : ℕ → ℕ → Type 0) (assume : Assume) (s t : Expanded) (over : (x y : ℕ) → has_leaf s x ≡ true → has_leaf t y ≡ true → A x y → B x y) where
  fits : (w : Word) → Valid Same true s w → Valid A assume.safety t (fit w (size_of t)) → Valid B assume.safety t (fit w (size_of t))
  fits w value h =
      let W : ℕ → Type 0 = λ x. has_leaf s x ≡ true in
      let L : ℕ → Type 0 = λ y. has_leaf t y ≡ true in
      Valid-moves A B W L assume.safety over t (λ y at. at) (fit w (size_of t)) (fit-of W w (size_of t) (Valid-of W true s (λ x at. at) w value)) h

  pub Transmutes-moves : Transmutes A assume s t → Transmutes B assume s t
  Transmutes-moves (inl none) = inl none
  Transmutes-moves (inr (inl (e, every))) = inr (inl (e, λ w value. fits w value (every w value)))
  Transmutes-moves (inr (inr (e, (w, value, h)))) = inr (inr (e, (w, value, fits w value h)))
