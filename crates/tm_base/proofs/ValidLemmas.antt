-- Valid words have their type's size; and more words are valid where references may hold more, or more
-- private types keep their words.
use Rattle.std.proofs.Common.{◌≡◌, ℕ, zero, suc, ◌*◌, ◌∙◌, ap, refl, Bool, true, false, ◌||◌, IsTrue, length, inl, inr, arith, length-append, Option, None}
use Rattle.std.proofs.lemmas.List.{length-replicate}
use Rattle.tm_base.specs.declared.cell.Cell.TheVariants.{Byte}
use Rattle.tm_base.specs.declared.ground.Primitive.{Primitive}
use Rattle.tm_base.specs.declared.ground.Primitive.TheVariants as primitive
use Rattle.tm_base.specs.declared.ground.Wrapper.{Wrapper}
use Rattle.tm_base.specs.declared.ground.Wrapper.TheVariants as wrapper
use Rattle.tm_base.specs.declared.definition.Kind.TheVariants.{Struct, Union, Enum}
use Rattle.tm_base.specs.declared.profile.Profile.{Profile}
use Rattle.tm_base.specs.Cells.{Word, Times}
use Rattle.tm_base.specs.Expanded.{Expanded, Fields, Variants, too_deep, prim, never, unit, tuple, array, nonzero, phantom, wrap, ref, named, no_fields, field, no_variants, variant}
use Rattle.tm_base.specs.Layout.{layout_of, size_of, prim_size}
use Rattle.tm_base.specs.Profiles.{pointer_size}
use Rattle.tm_base.specs.Valid.{Valid, StructValid, UnionValid, FieldsValid, SomeFieldValid, SomeVariantValid, PrimValid, WrapValid, all_public}
use Rattle.tm_base.proofs.CellLemmas.{length-pointer_of}

-- n words of s cells each have n * s cells together
pub Times-length : (n s : ℕ) (P : Word → Type 0) → ((u : Word) → P u → length u ≡ s) → (w : Word) → Times n P w → length w ≡ n * s
Times-length zero s P each w h = rw h (omega arith)
Times-length (suc n) s P each w (u, v, e, first, others) =
    rw e (omega (arith, length-append u v, each u first, Times-length n s P each v others))

PrimValid-length : (profile : Profile) (p : Primitive) (w : Word) → PrimValid profile p w → length w ≡ prim_size profile p
PrimValid-length profile primitive.Bool w h = h.0.0
PrimValid-length profile primitive.Char w h = h.0.0
PrimValid-length profile _ w h = h.0

WrapValid-length : (k : Wrapper) (n : ℕ) (P : Word → Type 0) → ((u : Word) → P u → length u ≡ n) → (w : Word) → WrapValid k n P w → length w ≡ n
WrapValid-length wrapper.Option n P each w (inl e) = rw e (length-replicate n (Byte 0))
WrapValid-length wrapper.Option n P each w (inr h) = each w h
WrapValid-length wrapper.MaybeUninit n P each w (inl h) = h.0
WrapValid-length wrapper.MaybeUninit n P each w (inr h) = each w h
WrapValid-length _ n P each w h = each w h

-- a word of a type has the type's size
pub Valid-length : (A : ℕ → ℕ → Type 0) (keep : Bool) (t : Expanded) (w : Word) → Valid A keep t w → length w ≡ size_of t
unfolding Valid layout_of
Valid-length A keep too_deep w h = elim h [ ]
Valid-length A keep (prim profile p) w h = PrimValid-length profile p w h
Valid-length A keep never w h = elim h [ ]
Valid-length A keep unit w h = rw h refl
Valid-length A keep (tuple members) w h = elim h [ ]
Valid-length A keep (array t n) w h = Times-length n (size_of t) (Valid A keep t) (λ u. Valid-length A keep t u) w h
Valid-length A keep (nonzero profile p) w h = h.0.0
Valid-length A keep phantom w h = rw h refl
Valid-length A keep (wrap k t) w h = WrapValid-length k (size_of t) (Valid A keep t) (λ u. Valid-length A keep t u) w h
Valid-length A keep (ref profile r) w h = ap length h.2 ∙ length-pointer_of (pointer_size profile) h.0
Valid-length A keep (named profile id Struct repr _) w h = h.0
Valid-length A keep (named profile id Union repr _) w h = h.0
Valid-length A keep (named profile id Enum repr _) w h = h.0

pub Times-grows : (n : ℕ) (P Q : Word → Type 0) → ((u : Word) → P u → Q u) → (w : Word) → Times n P w → Times n Q w
Times-grows zero P Q grows w h = h
Times-grows (suc n) P Q grows w (u, v, e, first, others) = (u, v, e, grows u first, Times-grows n P Q grows v others)

WrapValid-grows : (k : Wrapper) (n : ℕ) (P Q : Word → Type 0) → ((u : Word) → P u → Q u) → (w : Word) → WrapValid k n P w → WrapValid k n Q w
WrapValid-grows wrapper.Option n P Q grows w (inl h) = inl h
WrapValid-grows wrapper.Option n P Q grows w (inr h) = inr (grows w h)
WrapValid-grows wrapper.MaybeUninit n P Q grows w (inl h) = inl h
WrapValid-grows wrapper.MaybeUninit n P Q grows w (inr h) = inr (grows w h)
WrapValid-grows _ n P Q grows w h = grows w h

or_grows : (keep more b : Bool) → (IsTrue keep → IsTrue more) → IsTrue (keep || b) → IsTrue (more || b)
or_grows true true b grows h = h
or_grows true false b grows h = cc (grows refl)
or_grows false true b grows h = refl
or_grows false false b grows h = h

module _ (A B : ℕ → ℕ → Type 0) (keep more : Bool) (over : (x t : ℕ) → A x t → B x t) (opened : IsTrue keep → IsTrue more) where
  mutual
    unfolding Valid

    pub Valid-grows : (t : Expanded) (w : Word) → Valid A keep t w → Valid B more t w
    Valid-grows too_deep w h = h
    Valid-grows (prim profile p) w h = h
    Valid-grows never w h = h
    Valid-grows unit w h = h
    Valid-grows (tuple members) w h = h
    Valid-grows (array t n) w h = Times-grows n (Valid A keep t) (Valid B more t) (λ u. Valid-grows t u) w h
    Valid-grows (nonzero profile p) w h = h
    Valid-grows phantom w h = h
    Valid-grows (wrap k t) w h = WrapValid-grows k (size_of t) (Valid A keep t) (Valid B more t) (λ u. Valid-grows t u) w h
    Valid-grows (ref profile r) w (x, a, e) = (x, over x r.0 a, e)
    Valid-grows (named profile id Struct repr variants) w (l, h) = (l, StructValid-grows repr.packed variants w h)
    Valid-grows (named profile id Union repr variants) w (l, h) = (l, UnionValid-grows variants w h)
    Valid-grows (named profile id Enum repr variants) w (l, h) = (l, SomeVariantValid-grows profile repr.tag _ _ variants w h)

    StructValid-grows : (packed : Option ℕ) (vs : Variants) (w : Word) → StructValid A keep packed vs w → StructValid B more packed vs w
    StructValid-grows packed no_variants w h = h
    StructValid-grows packed (variant value members others) w (o, h) =
        (or_grows keep more (all_public members) opened o, FieldsValid-grows packed 0 members w h)

    UnionValid-grows : (vs : Variants) (w : Word) → UnionValid A keep vs w → UnionValid B more vs w
    UnionValid-grows no_variants w h = h
    UnionValid-grows (variant value members others) w (o, h) =
        (or_grows keep more (all_public members) opened o, SomeFieldValid-grows members w h)

    FieldsValid-grows : (packed : Option ℕ) (at : ℕ) (members : Fields) (w : Word) → FieldsValid A keep packed at members w → FieldsValid B more packed at members w
    FieldsValid-grows packed at no_fields w h = h
    FieldsValid-grows packed at (field public t rest) w (gap, here, others, e, place, free, valid, behind) =
        (gap, here, others, e, place, free, Valid-grows t here valid, FieldsValid-grows packed _ rest others behind)

    SomeFieldValid-grows : (members : Fields) (w : Word) → SomeFieldValid A keep members w → SomeFieldValid B more members w
    SomeFieldValid-grows no_fields w h = h
    SomeFieldValid-grows (field public t rest) w (inl (here, others, e, valid, free)) = inl (here, others, e, Valid-grows t here valid, free)
    SomeFieldValid-grows (field public t rest) w (inr h) = inr (SomeFieldValid-grows rest w h)

    SomeVariantValid-grows : (profile : Profile) (tag : Option Primitive) (begin first : ℕ) (vs : Variants) (w : Word) → SomeVariantValid A keep profile tag begin first vs w → SomeVariantValid B more profile tag begin first vs w
    SomeVariantValid-grows profile tag begin first no_variants w h = h
    SomeVariantValid-grows profile tag begin first (variant value members rest) w (inl (front, gap, others, e, is_tag, place, free, behind)) =
        inl (front, gap, others, e, is_tag, place, free, FieldsValid-grows None first members others behind)
    SomeVariantValid-grows profile tag begin first (variant value members rest) w (inr h) = inr (SomeVariantValid-grows profile tag begin first rest w h)
