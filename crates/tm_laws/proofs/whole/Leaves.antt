-- What holds of free cells, of the values of a type's references, and of words that are joined of such,
-- holds of each word of the type.
use Rattle.std.proofs.Common.{◌≡◌, ℕ, zero, suc, refl, sym, subst, Bool, List, [], ◌∷◌, ◌++◌, inl, inr, arith, Option, None}
use Rattle.std.specs.List.{All, Contains}
use Rattle.std.proofs.lemmas.List.Elements.{All-nil, All-weaker, All-replicate, Contains-append_left, Contains-append_right}
use Rattle.tm_base.specs.declared.cell.Cell.{Cell}
use Rattle.tm_base.specs.declared.cell.Cell.TheVariants.{Byte, Uninit, Ptr}
use Rattle.tm_base.specs.declared.definition.Kind.TheVariants.{Struct, Union, Enum}
use Rattle.tm_base.specs.declared.ground.Primitive.{Primitive}
use Rattle.tm_base.specs.declared.ground.Primitive.TheVariants as primitive
use Rattle.tm_base.specs.declared.ground.Wrapper.{Wrapper}
use Rattle.tm_base.specs.declared.ground.Wrapper.TheVariants as wrapper
use Rattle.tm_base.specs.declared.profile.Profile.{Profile}
use Rattle.tm_base.specs.Cells.{Word, IsByte, IsFree, Times, pointer_of}
use Rattle.tm_base.specs.Expanded.{Expanded, Fields, Variants, too_deep, prim, never, unit, tuple, array, nonzero, phantom, wrap, ref, named, no_fields, field, no_variants, variant}
use Rattle.tm_base.specs.Layout.{size_of}
use Rattle.tm_base.specs.Profiles.{pointer_size}
use Rattle.tm_base.specs.Valid.{Valid, StructValid, UnionValid, FieldsValid, SomeFieldValid, SomeVariantValid, PrimValid, WrapValid}

-- a reference in a type: the profile that it is written out for, and its number
pub record Leaf : Type 0 where
  pub profile : Profile
  pub number : ℕ

-- the references that a type is or holds by value
unfoldable mutual
  pub leaves : Expanded → List Leaf
  leaves (tuple members) = field_leaves members
  leaves (array t n) = leaves t
  leaves (wrap w t) = leaves t
  leaves (ref profile r) = record { profile = profile; number = r.0 } ∷ []
  leaves (named profile id kind repr variants) = variant_leaves variants
  leaves t = []

  pub field_leaves : Fields → List Leaf
  field_leaves no_fields = []
  field_leaves (field public t rest) = leaves t ++ field_leaves rest

  pub variant_leaves : Variants → List Leaf
  variant_leaves no_variants = []
  variant_leaves (variant value members rest) = field_leaves members ++ variant_leaves rest

byte_free : (c : Cell) → IsByte c → IsFree c
byte_free (Byte b) h = h
byte_free Uninit h = elim h [ ]
byte_free (Ptr r k) h = elim h [ ]

-- bytes are free cells
pub bytes-free : (w : Word) → All IsByte w → All IsFree w
bytes-free w h = All-weaker IsByte IsFree byte_free w h

-- a word of a primitive is of bytes
pub PrimValid-free : (profile : Profile) (p : Primitive) (w : Word) → PrimValid profile p w → All IsFree w
PrimValid-free profile primitive.Bool w h = bytes-free w h.0.1
PrimValid-free profile primitive.Char w h = bytes-free w h.0.1
PrimValid-free profile _ w h = bytes-free w h.1

module _ (A : ℕ → ℕ → Type 0) (keep : Bool) (P : Word → Type 0)
    (joins : (u v : Word) → P u → P v → P (u ++ v)) (free : (w : Word) → All IsFree w → P w) where
  none_has : (w : Word) → w ≡ [] → P w
  none_has w e = subst P (sym e) (free [] (All-nil IsFree))

  Times-has : (n : ℕ) (Q : Word → Type 0) → ((u : Word) → Q u → P u) → (w : Word) → Times n Q w → P w
  Times-has zero Q each w h = none_has w h
  Times-has (suc n) Q each w (u, v, e, first, others) = subst P (sym e) (joins u v (each u first) (Times-has n Q each v others))

  WrapValid-has : (k : Wrapper) (n : ℕ) (Q : Word → Type 0) → ((u : Word) → Q u → P u) → (w : Word) → WrapValid k n Q w → P w
  WrapValid-has wrapper.Option n Q each w (inl e) = subst P (sym e) (free _ (All-replicate IsFree n (Byte 0) (omega arith)))
  WrapValid-has wrapper.Option n Q each w (inr h) = each w h
  WrapValid-has wrapper.MaybeUninit n Q each w (inl h) = free w h.1
  WrapValid-has wrapper.MaybeUninit n Q each w (inr h) = each w h
  WrapValid-has _ n Q each w h = each w h

  -- it holds of the values of these references
  abbrev pub Holds : List Leaf → Type 0
  Holds refs = (x : ℕ) (leaf : Leaf) → Contains refs leaf → A x leaf.number → P (pointer_of (pointer_size leaf.profile) x)

  first_holds : (xs ys : List Leaf) → Holds (xs ++ ys) → Holds xs
  first_holds xs ys h x leaf inside a = h x leaf (Contains-append_left xs ys leaf inside) a

  second_holds : (xs ys : List Leaf) → Holds (xs ++ ys) → Holds ys
  second_holds xs ys h x leaf inside a = h x leaf (Contains-append_right xs ys leaf inside) a

  mutual
    unfolding Valid leaves

    pub Valid-has : (t : Expanded) → Holds (leaves t) → (w : Word) → Valid A keep t w → P w
    Valid-has too_deep refs w h = elim h [ ]
    Valid-has (prim profile p) refs w h = free w (PrimValid-free profile p w h)
    Valid-has never refs w h = elim h [ ]
    Valid-has unit refs w h = none_has w h
    Valid-has (tuple members) refs w h = elim h [ ]
    Valid-has (array t n) refs w h = Times-has n (Valid A keep t) (λ u. Valid-has t refs u) w h
    Valid-has (nonzero profile p) refs w h = free w (bytes-free w h.0.1)
    Valid-has phantom refs w h = none_has w h
    Valid-has (wrap k t) refs w h = WrapValid-has k (size_of t) (Valid A keep t) (λ u. Valid-has t refs u) w h
    Valid-has (ref profile r) refs w (x, a, e) = subst P (sym e) (refs x (record { profile = profile; number = r.0 }) (0, omega arith, refl) a)
    Valid-has (named profile id Struct repr variants) refs w (l, h) = StructValid-has repr.packed variants refs w h
    Valid-has (named profile id Union repr variants) refs w (l, h) = UnionValid-has variants refs w h
    Valid-has (named profile id Enum repr variants) refs w (l, h) = SomeVariantValid-has profile repr.tag _ _ variants refs w h

    StructValid-has : (packed : Option ℕ) (vs : Variants) → Holds (variant_leaves vs) → (w : Word) → StructValid A keep packed vs w → P w
    StructValid-has packed no_variants refs w h = elim h [ ]
    StructValid-has packed (variant value members others) refs w (o, h) =
        FieldsValid-has packed 0 members (first_holds (field_leaves members) (variant_leaves others) refs) w h

    UnionValid-has : (vs : Variants) → Holds (variant_leaves vs) → (w : Word) → UnionValid A keep vs w → P w
    UnionValid-has no_variants refs w h = elim h [ ]
    UnionValid-has (variant value members others) refs w (o, h) =
        SomeFieldValid-has members (first_holds (field_leaves members) (variant_leaves others) refs) w h

    FieldsValid-has : (packed : Option ℕ) (at : ℕ) (members : Fields) → Holds (field_leaves members) → (w : Word) → FieldsValid A keep packed at members w → P w
    FieldsValid-has packed at no_fields refs w h = free w h
    FieldsValid-has packed at (field public t rest) refs w (gap, here, others, e, place, gap_free, valid, behind) =
        let this = Valid-has t (first_holds (leaves t) (field_leaves rest) refs) here valid in
        let those = FieldsValid-has packed _ rest (second_holds (leaves t) (field_leaves rest) refs) others behind in
        subst P (sym e) (joins gap (here ++ others) (free gap gap_free) (joins here others this those))

    SomeFieldValid-has : (members : Fields) → Holds (field_leaves members) → (w : Word) → SomeFieldValid A keep members w → P w
    SomeFieldValid-has no_fields refs w h = elim h [ ]
    SomeFieldValid-has (field public t rest) refs w (inl (here, others, e, valid, behind)) =
        subst P (sym e) (joins here others (Valid-has t (first_holds (leaves t) (field_leaves rest) refs) here valid) (free others behind))
    SomeFieldValid-has (field public t rest) refs w (inr h) = SomeFieldValid-has rest (second_holds (leaves t) (field_leaves rest) refs) w h

    SomeVariantValid-has : (profile : Profile) (tag : Option Primitive) (begin first : ℕ) (vs : Variants) → Holds (variant_leaves vs) → (w : Word) → SomeVariantValid A keep profile tag begin first vs w → P w
    SomeVariantValid-has profile tag begin first no_variants refs w h = elim h [ ]
    SomeVariantValid-has profile tag begin first (variant value members rest) refs w (inl (front, gap, others, e, is_tag, place, gap_free, behind)) =
        let those = FieldsValid-has None first members (first_holds (field_leaves members) (variant_leaves rest) refs) others behind in
        subst P (sym e) (joins front (gap ++ others) (free front (bytes-free front is_tag.0.1)) (joins gap others (free gap gap_free) those))
    SomeVariantValid-has profile tag begin first (variant value members rest) refs w (inr h) =
        SomeVariantValid-has profile tag begin first rest (second_holds (field_leaves members) (variant_leaves rest) refs) w h
