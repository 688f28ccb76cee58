-- A value of a type by one relation of references is taken to one by another: references that are kept stay in their places,
-- and the leaves of the others hold others.
use Rattle.std.proofs.Common.{◌≡◌, ℕ, zero, suc, ◌∙◌, ap, refl, sym, subst, Bool, List, [], ◌∷◌, ◌++◌, length, map, inl, inr, Option, None}
use Rattle.std.specs.List.{range_with_len}
use Rattle.std.proofs.lemmas.Bool.{or_left, or_right}
use Rattle.std.proofs.lemmas.List.Elements.{All-head, All-tail}
use Rattle.tm_base.specs.declared.cell.Cell.TheVariants.{Ptr}
use Rattle.tm_base.specs.declared.definition.Kind.TheVariants.{Struct, Union, Enum}
use Rattle.tm_base.specs.declared.ground.Primitive.{Primitive}
use Rattle.tm_base.specs.declared.ground.Wrapper.{Wrapper}
use Rattle.tm_base.specs.declared.ground.Wrapper.TheVariants as wrapper
use Rattle.tm_base.specs.declared.profile.Profile.{Profile}
use Rattle.tm_base.specs.Cells.{Word, Times, pointer_of}
use Rattle.tm_base.specs.Expanded.{Expanded, Fields, Variants, too_deep, prim, never, unit, tuple, array, nonzero, phantom, wrap, ref, named, no_fields, field, no_variants, variant}
use Rattle.tm_base.specs.Layout.{size_of}
use Rattle.tm_base.specs.Parts.{some_part, some_field, some_variant}
use Rattle.tm_base.specs.Profiles.{pointer_size}
use Rattle.tm_base.specs.Valid.{Valid, StructValid, UnionValid, FieldsValid, SomeFieldValid, SomeVariantValid, WrapValid}
use Rattle.tm_refs.specs.Looks.{is_reference}
use Rattle.tm_refs.proofs.LeafLemmas.{AreLeaves, AreFieldLeaves, AreVariantLeaves, AreOf, IsCellOf, first_leaves, other_leaves, itself}

-- words that differ in no cell but those of references that aren't kept
module _ (W : ℕ → Type 0) where
  abbrev pub IsLike : Word → Word → Type 0
  IsLike [] [] = Unit {0}
  IsLike [] (d ∷ v) = ⊥
  IsLike (c ∷ u) [] = ⊥
  IsLike (c ∷ u) (d ∷ v) = (IsCellOf W c → c ≡ d) × IsLike u v

  like-itself : (w : Word) → IsLike w w
  like-itself [] = tt
  like-itself (c ∷ w) = (λ kept. refl, like-itself w)

  like-append : (u u' v v' : Word) → IsLike u u' → IsLike v v' → IsLike (u ++ v) (u' ++ v')
  like-append [] [] v v' a b = b
  like-append [] (d ∷ u') v v' a b = absurd a
  like-append (c ∷ u) [] v v' a b = absurd a
  like-append (c ∷ u) (d ∷ u') v v' (same, a) b = (same, like-append u u' v v' a b)

  like-length : (u v : Word) → IsLike u v → length v ≡ length u
  like-length [] [] a = refl
  like-length [] (d ∷ v) a = absurd a
  like-length (c ∷ u) [] a = absurd a
  like-length (c ∷ u) (d ∷ v) (same, a) = ap suc (like-length u v a)

  like-places : (x y : ℕ) → (W x → x ≡ y) → (ks : List ℕ) → IsLike (map (λ k. Ptr (record { 0 = x }) k) ks) (map (λ k. Ptr (record { 0 = y }) k) ks)
  like-places x y same [] = tt
  like-places x y same (k ∷ ks) = (λ kept. ap (λ (z : ℕ). Ptr (record { 0 = z }) k) (same kept), like-places x y same ks)

  -- what is kept at the beginning stands at the other's
  pub like-front : (u v w : Word) → AreOf W u → IsLike (u ++ v) w → (rest : Word) × (w ≡ u ++ rest)
  like-front [] v w kept a = (w, refl)
  like-front (c ∷ u) v [] kept a = absurd a
  like-front (c ∷ u) v (d ∷ w) kept (same, a) =
      let (rest, e) = like-front u v w (All-tail (IsCellOf W) c u kept) a in
      (rest, ap (λ (z : Word). d ∷ z) e ∙ ap (λ z. z ∷ u ++ rest) (sym (same (All-head (IsCellOf W) c u kept))))

-- A leaf that holds a reference by the one relation holds one by the other, and the same where that is kept.
module _ (A B : ℕ → ℕ → Type 0) (W L : ℕ → Type 0) (keep : Bool) (change : (x t : ℕ) → L t → A x t → (y : ℕ) × B y t × (W x → x ≡ y)) where
  -- a word like this one of which a fact holds
  abbrev Mended : (Word → Type 0) → Word → Type 0
  Mended Q w = (v : Word) × IsLike W w v × Q v

  itself-mended : (Q : Word → Type 0) (w : Word) → Q w → Mended Q w
  itself-mended Q w h = (w, like-itself W w, h)

  moved : (Q : Word → Type 0) (w u : Word) → w ≡ u → Mended Q u → Mended Q w
  moved Q w u e h = subst (Mended Q) (sym e) h

  Times-mends : (n : ℕ) (P Q : Word → Type 0) → ((u : Word) → P u → Mended Q u) → (w : Word) → Times n P w → Mended (Times n Q) w
  Times-mends zero P Q each w h = itself-mended (Times zero Q) w h
  Times-mends (suc n) P Q each w (u, v, e, first, others) =
      let (u', like, a) = each u first in
      let (v', alike, b) = Times-mends n P Q each v others in
      moved (Times (suc n) Q) w (u ++ v) e (u' ++ v', like-append W u u' v v' like alike, (u', v', refl, a, b))

  WrapValid-mends : (k : Wrapper) (n : ℕ) (P Q : Word → Type 0) → ((u : Word) → P u → Mended Q u) → (w : Word) → WrapValid k n P w → Mended (WrapValid k n Q) w
  WrapValid-mends wrapper.Option n P Q each w (inl h) = itself-mended (WrapValid wrapper.Option n Q) w (inl h)
  WrapValid-mends wrapper.Option n P Q each w (inr h) = let (v, like, a) = each w h in (v, like, inr a)
  WrapValid-mends wrapper.MaybeUninit n P Q each w (inl h) = itself-mended (WrapValid wrapper.MaybeUninit n Q) w (inl h)
  WrapValid-mends wrapper.MaybeUninit n P Q each w (inr h) = let (v, like, a) = each w h in (v, like, inr a)
  WrapValid-mends _ n P Q each w h = each w h

  mutual
    unfolding Valid some_part

    pub Valid-mends : (t : Expanded) → AreLeaves L t → (w : Word) → Valid A keep t w → Mended (Valid B keep t) w
    Valid-mends too_deep among w h = absurd h
    Valid-mends (prim profile p) among w h = itself-mended (Valid B keep (prim profile p)) w h
    Valid-mends never among w h = absurd h
    Valid-mends unit among w h = itself-mended (Valid B keep unit) w h
    Valid-mends (tuple members) among w h = absurd h
    Valid-mends (array t n) among w h = Times-mends n (Valid A keep t) (Valid B keep t) (λ u. Valid-mends t among u) w h
    Valid-mends (nonzero profile p) among w h = itself-mended (Valid B keep (nonzero profile p)) w h
    Valid-mends phantom among w h = itself-mended (Valid B keep phantom) w h
    Valid-mends (wrap k t) among w h = WrapValid-mends k (size_of t) (Valid A keep t) (Valid B keep t) (λ u. Valid-mends t among u) w h
    Valid-mends (ref profile r) among w (x, a, e) =
        let (y, b, same) = change x r.0 (among r.0 (itself profile r)) a in
        moved (Valid B keep (ref profile r)) w (pointer_of (pointer_size profile) x) e
        (pointer_of (pointer_size profile) y, like-places W x y same (range_with_len 0 (pointer_size profile)), (y, b, refl))
    Valid-mends (named profile id Struct repr variants) among w (l, h) =
        let (v, like, a) = StructValid-mends repr.packed variants among w h in (v, like, (like-length W w v like ∙ l, a))
    Valid-mends (named profile id Union repr variants) among w (l, h) =
        let (v, like, a) = UnionValid-mends variants among w h in (v, like, (like-length W w v like ∙ l, a))
    Valid-mends (named profile id Enum repr variants) among w (l, h) =
        let (v, like, a) = SomeVariantValid-mends profile repr.tag _ _ variants among w h in (v, like, (like-length W w v like ∙ l, a))

    StructValid-mends : (packed : Option ℕ) (vs : Variants) → AreVariantLeaves L vs → (w : Word) → StructValid A keep packed vs w → Mended (StructValid B keep packed vs) w
    StructValid-mends packed no_variants among w h = absurd h
    StructValid-mends packed (variant value members others) among w (o, h) =
        let (v, like, a) = FieldsValid-mends packed 0 members (λ x at. among x (or_left _ (some_variant (is_reference x) others) at)) w h in
        (v, like, (o, a))

    UnionValid-mends : (vs : Variants) → AreVariantLeaves L vs → (w : Word) → UnionValid A keep vs w → Mended (UnionValid B keep vs) w
    UnionValid-mends no_variants among w h = absurd h
    UnionValid-mends (variant value members others) among w (o, h) =
        let (v, like, a) = SomeFieldValid-mends members (λ x at. among x (or_left _ (some_variant (is_reference x) others) at)) w h in
        (v, like, (o, a))

    FieldsValid-mends : (packed : Option ℕ) (at : ℕ) (members : Fields) → AreFieldLeaves L members → (w : Word) → FieldsValid A keep packed at members w → Mended (FieldsValid B keep packed at members) w
    FieldsValid-mends packed at no_fields among w h = itself-mended (FieldsValid B keep packed at no_fields) w h
    FieldsValid-mends packed at (field public t rest) among w (gap, here, others, e, place, free, valid, behind) =
        let (here', like, a) = Valid-mends t (first_leaves L public t rest among) here valid in
        let (others', alike, b) = FieldsValid-mends packed _ rest (other_leaves L public t rest among) others behind in
        moved (FieldsValid B keep packed at (field public t rest)) w (gap ++ (here ++ others)) e (
          gap ++ (here' ++ others'),
          like-append W gap gap (here ++ others) (here' ++ others') (like-itself W gap) (like-append W here here' others others' like alike),
          (gap, here', others', refl, place, free, a, b),
        )

    SomeFieldValid-mends : (members : Fields) → AreFieldLeaves L members → (w : Word) → SomeFieldValid A keep members w → Mended (SomeFieldValid B keep members) w
    SomeFieldValid-mends no_fields among w h = absurd h
    SomeFieldValid-mends (field public t rest) among w (inl (here, others, e, valid, free)) =
        let (here', like, a) = Valid-mends t (first_leaves L public t rest among) here valid in
        moved (SomeFieldValid B keep (field public t rest)) w (here ++ others) e
        (here' ++ others, like-append W here here' others others like (like-itself W others), inl (here', others, refl, a, free))
    SomeFieldValid-mends (field public t rest) among w (inr h) =
        let (v, like, a) = SomeFieldValid-mends rest (other_leaves L public t rest among) w h in (v, like, inr a)

    SomeVariantValid-mends : (profile : Profile) (tag : Option Primitive) (begin first : ℕ) (vs : Variants) → AreVariantLeaves L vs → (w : Word) → SomeVariantValid A keep profile tag begin first vs w
        → Mended (SomeVariantValid B keep profile tag begin first vs) w
    SomeVariantValid-mends profile tag begin first no_variants among w h = absurd h
    SomeVariantValid-mends profile tag begin first (variant value members rest) among w (inl (front, gap, others, e, is_tag, place, free, behind)) =
        let (others', like, a) = FieldsValid-mends None first members (λ x at. among x (or_left _ (some_variant (is_reference x) rest) at)) others behind in
        moved (SomeVariantValid B keep profile tag begin first (variant value members rest)) w (front ++ (gap ++ others)) e (
          front ++ (gap ++ others'),
          like-append W front front (gap ++ others) (gap ++ others') (like-itself W front) (like-append W gap gap others others' (like-itself W gap) like),
          inl (front, gap, others', refl, is_tag, place, free, a),
        )
    SomeVariantValid-mends profile tag begin first (variant value members rest) among w (inr h) =
        let (v, like, a) = SomeVariantValid-mends profile tag begin first rest (λ x at. among x (or_right (some_field (is_reference x) members) _ at)) w h in
        (v, like, inr a)
