-- Where each reference in a word is replaced by one that may stand in its place, a word of a type stays
-- one.
use Rattle.std.proofs.Common.{◌≡◌, ℕ, zero, suc, refl, sym, ◌∙◌, ap, subst, Bool, List, [], ◌∷◌, ◌++◌, map, inl, inr, arith, Option, None}
use Rattle.std.proofs.lemmas.List.{length-map, map-append}
use Rattle.std.specs.List.{All}
use Rattle.std.proofs.lemmas.List.Elements.{All-nil, All-cons, All-head, All-tail, All-replicate, All-contains, Contains-append_left, Contains-push}
use Rattle.tm_base.specs.declared.cell.Cell.{Cell}
use Rattle.tm_base.specs.declared.cell.Cell.TheVariants.{Byte, Uninit, Ptr}
use Rattle.tm_base.specs.declared.definition.Kind.TheVariants.{Struct, Union, Enum}
use Rattle.tm_base.specs.declared.ground.Primitive.{Primitive}
use Rattle.tm_base.specs.declared.ground.Wrapper.{Wrapper}
use Rattle.tm_base.specs.declared.ground.Wrapper.TheVariants as wrapper
use Rattle.tm_base.specs.declared.profile.Profile.{Profile}
use Rattle.tm_base.specs.declared.profile.Profile.TheVariants.{Le64, Be64, Le32}
use Rattle.tm_base.specs.Cells.{Word, IsFree, Times, pointer_of}
use Rattle.tm_base.specs.Expanded.{Expanded, Fields, Variants, too_deep, prim, never, unit, tuple, array, nonzero, phantom, wrap, ref, named, no_fields, field, no_variants, variant}
use Rattle.tm_base.specs.Layout.{size_of}
use Rattle.tm_base.specs.Profiles.{pointer_size}
use Rattle.tm_base.specs.Valid.{Valid, StructValid, UnionValid, FieldsValid, SomeFieldValid, SomeVariantValid, PrimValid, WrapValid}
use Rattle.tm_laws.proofs.whole.Leaves.{bytes-free, PrimValid-free}

-- what holds of all cells of a word holds of all cells of its parts
pub All-first : {X : Type 0} (Q : X → Type 0) (u v w : List X) → w ≡ u ++ v → All Q w → All Q u
All-first Q [] v w e h = All-nil Q
All-first Q (c ∷ u) v w e h =
    let whole : All Q (c ∷ (u ++ v)) = subst (All Q) e h in
    All-cons Q c u (All-head Q c (u ++ v) whole) (All-first Q u v (u ++ v) refl (All-tail Q c (u ++ v) whole))

pub All-second : {X : Type 0} (Q : X → Type 0) (u v w : List X) → w ≡ u ++ v → All Q w → All Q v
All-second Q [] v w e h = subst (All Q) e h
All-second Q (c ∷ u) v w e h =
    let whole : All Q (c ∷ (u ++ v)) = subst (All Q) e h in
    All-second Q u v (u ++ v) refl (All-tail Q c (u ++ v) whole)

pub All-middle : {X : Type 0} (Q : X → Type 0) (u : List X) (c : X) (v : List X) → All Q ((u ++ c ∷ []) ++ v) → Q c
All-middle Q u c v h = All-contains Q ((u ++ c ∷ []) ++ v) c h (Contains-append_left (u ++ c ∷ []) v c (Contains-push u c))

-- what holds of all bytes of a reference holds of its first
All-first_byte : (Q : Cell → Type 0) (profile : Profile) (x : ℕ) → All Q (pointer_of (pointer_size profile) x) → Q (Ptr (record { 0 = x }) 0)
All-first_byte Q Le64 x h = h 0 Uninit (omega arith)
All-first_byte Q Be64 x h = h 0 Uninit (omega arith)
All-first_byte Q Le32 x h = h 0 Uninit (omega arith)

-- f moves cells: none that is free, and those of the reference x to those of one that may stand in its
-- place, where Q holds of the word's cells.
module _ (A B : ℕ → ℕ → Type 0) (keep : Bool) (f : Cell → Cell) (Q : Cell → Type 0)
    (stays : (c : Cell) → IsFree c → f c ≡ c)
    (moves : (size x t : ℕ) → Q (Ptr (record { 0 = x }) 0) → A x t → (y : ℕ) × B y t × (map f (pointer_of size x) ≡ pointer_of size y)) where
  all_stay : (w : Word) → All IsFree w → map f w ≡ w
  all_stay [] h = refl
  all_stay (c ∷ w) h =
      let first = stays c (All-head IsFree c w h) in
      let others = all_stay w (All-tail IsFree c w h) in
      cc

  Times-moved : (n : ℕ) (P R : Word → Type 0) → ((u : Word) → All Q u → P u → R (map f u)) → (w : Word) → All Q w → Times n P w → Times n R (map f w)
  Times-moved zero P R each w q h = rw h refl
  Times-moved (suc n) P R each w q (u, v, e, first, others) = (
    map f u,
    map f v,
    ap (λ (x : Word). map f x) e ∙ map-append f u v,
    each u (All-first Q u v w e q) first,
    Times-moved n P R each v (All-second Q u v w e q) others,
  )

  WrapValid-moved : (k : Wrapper) (n : ℕ) (P R : Word → Type 0) → ((u : Word) → All Q u → P u → R (map f u)) → (w : Word) → All Q w → WrapValid k n P w → WrapValid k n R (map f w)
  WrapValid-moved wrapper.Option n P R each w q (inl e) =
      inl (all_stay w (subst (All IsFree) (sym e) (All-replicate IsFree n (Byte 0) (omega arith))) ∙ e)
  WrapValid-moved wrapper.Option n P R each w q (inr h) = inr (each w q h)
  WrapValid-moved wrapper.MaybeUninit n P R each w q (inl h) = inl (length-map w f ∙ h.0, subst (All IsFree) (sym (all_stay w h.1)) h.1)
  WrapValid-moved wrapper.MaybeUninit n P R each w q (inr h) = inr (each w q h)
  WrapValid-moved _ n P R each w q h = each w q h

  mutual
    unfolding Valid

    pub Valid-moved : (t : Expanded) (w : Word) → All Q w → Valid A keep t w → Valid B keep t (map f w)
    Valid-moved too_deep w q h = h
    Valid-moved (prim profile p) w q h = subst (PrimValid profile p) (sym (all_stay w (PrimValid-free profile p w h))) h
    Valid-moved never w q h = h
    Valid-moved unit w q h = rw h refl
    Valid-moved (tuple members) w q h = h
    Valid-moved (array t n) w q h = Times-moved n (Valid A keep t) (Valid B keep t) (λ u. Valid-moved t u) w q h
    Valid-moved (nonzero profile p) w q h = subst (Valid A keep (nonzero profile p)) (sym (all_stay w (bytes-free w h.0.1))) h
    Valid-moved phantom w q h = rw h refl
    Valid-moved (wrap k t) w q h = WrapValid-moved k (size_of t) (Valid A keep t) (Valid B keep t) (λ u. Valid-moved t u) w q h
    Valid-moved (ref profile r) w q (x, a, e) =
        let first = subst (All Q) e q in
        let moved = moves (pointer_size profile) x r.0 (All-first_byte Q profile x first) a in
        (moved.0, moved.1, ap (λ (u : Word). map f u) e ∙ moved.2)
    Valid-moved (named profile id Struct repr variants) w q (l, h) = (length-map w f ∙ l, StructValid-moved repr.packed variants w q h)
    Valid-moved (named profile id Union repr variants) w q (l, h) = (length-map w f ∙ l, UnionValid-moved variants w q h)
    Valid-moved (named profile id Enum repr variants) w q (l, h) = (length-map w f ∙ l, SomeVariantValid-moved profile repr.tag _ _ variants w q h)

    StructValid-moved : (packed : Option ℕ) (vs : Variants) (w : Word) → All Q w → StructValid A keep packed vs w → StructValid B keep packed vs (map f w)
    StructValid-moved packed no_variants w q h = h
    StructValid-moved packed (variant value members others) w q (o, h) = (o, FieldsValid-moved packed 0 members w q h)

    UnionValid-moved : (vs : Variants) (w : Word) → All Q w → UnionValid A keep vs w → UnionValid B keep vs (map f w)
    UnionValid-moved no_variants w q h = h
    UnionValid-moved (variant value members others) w q (o, h) = (o, SomeFieldValid-moved members w q h)

    FieldsValid-moved : (packed : Option ℕ) (at : ℕ) (members : Fields) (w : Word) → All Q w → FieldsValid A keep packed at members w → FieldsValid B keep packed at members (map f w)
    FieldsValid-moved packed at no_fields w q h = subst (All IsFree) (sym (all_stay w h)) h
    FieldsValid-moved packed at (field public t rest) w q (gap, here, others, e, place, free, valid, behind) =
        let left = All-second Q gap (here ++ others) w e q in
        let same : map f w ≡ gap ++ (map f here ++ map f others) =
        ap (λ (x : Word). map f x) e ∙ map-append f gap (here ++ others) ∙ ap (λ (x : Word). x ++ map f (here ++ others)) (all_stay gap free)
        ∙ ap (λ (x : Word). gap ++ x) (map-append f here others) in (
          gap,
          map f here,
          map f others,
          same,
          place,
          free,
          Valid-moved t here (All-first Q here others (here ++ others) refl left) valid,
          FieldsValid-moved packed _ rest others (All-second Q here others (here ++ others) refl left) behind,
        )

    SomeFieldValid-moved : (members : Fields) (w : Word) → All Q w → SomeFieldValid A keep members w → SomeFieldValid B keep members (map f w)
    SomeFieldValid-moved no_fields w q h = h
    SomeFieldValid-moved (field public t rest) w q (inl (here, others, e, valid, free)) =
        let same : map f w ≡ map f here ++ others =
        ap (λ (x : Word). map f x) e ∙ map-append f here others ∙ ap (λ (x : Word). map f here ++ x) (all_stay others free) in
        inl (map f here, others, same, Valid-moved t here (All-first Q here others w e q) valid, free)
    SomeFieldValid-moved (field public t rest) w q (inr h) = inr (SomeFieldValid-moved rest w q h)

    SomeVariantValid-moved : (profile : Profile) (tag : Option Primitive) (begin first : ℕ) (vs : Variants) (w : Word) → All Q w → SomeVariantValid A keep profile tag begin first vs w → SomeVariantValid B keep profile tag begin first vs (map f w)
    SomeVariantValid-moved profile tag begin first no_variants w q h = h
    SomeVariantValid-moved profile tag begin first (variant value members rest) w q (inl (front, gap, others, e, is_tag, place, free, behind)) =
        let left = All-second Q front (gap ++ others) w e q in
        let same : map f w ≡ front ++ (gap ++ map f others) =
        ap (λ (x : Word). map f x) e ∙ map-append f front (gap ++ others) ∙ ap (λ (x : Word). x ++ map f (gap ++ others)) (all_stay front (bytes-free front is_tag.0.1))
        ∙ ap (λ (x : Word). front ++ x) (map-append f gap others ∙ ap (λ (x : Word). x ++ map f others) (all_stay gap free)) in
        inl (
          front,
          gap,
          map f others,
          same,
          is_tag,
          place,
          free,
          FieldsValid-moved None first members others (All-second Q gap others (gap ++ others) refl left) behind,
        )
    SomeVariantValid-moved profile tag begin first (variant value members rest) w q (inr h) = inr (SomeVariantValid-moved profile tag begin first rest w q h)
