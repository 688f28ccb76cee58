-- The test whether cells begin a word of a type, cut by cut from the front. It takes cells as far as the type goes.
use Rattle.std.specs.Prelude.{ℕ, zero, suc, ◌+◌, ◌-◌, nat_le, ◌==◌, Bool, true, false, ◌&&◌, ◌||◌, if◌then◌else◌, List, [], ◌∷◌, length, take, drop}
use Rattle.std.specs.List.{list_all}
use Rattle.tm_base.specs.declared.cell.Cell.{Cell}
use Rattle.tm_base.specs.declared.cell.Cell.TheVariants.{Byte, Uninit, Ptr}
use Rattle.tm_base.specs.declared.definition.Kind.TheVariants.{Struct, Union, Enum}
use Rattle.tm_base.specs.declared.definition.Repr.{Repr}
use Rattle.tm_base.specs.declared.ground.Wrapper.{Wrapper}
use Rattle.tm_base.specs.declared.ground.Wrapper.TheVariants.{Option as option, MaybeUninit}
use Rattle.tm_base.specs.declared.profile.Profile.{Profile}
use Rattle.tm_base.specs.Cells.{Word}
use Rattle.tm_base.specs.Expanded.{Expanded, Fields, Variants, too_deep, prim, never, unit, tuple, array, nonzero, phantom, wrap, ref, named, no_fields, field, no_variants, variant}
use Rattle.tm_base.specs.Layout.{Layout, field_layouts, places, prim_size, size_of, tag_layout}
use Rattle.tm_base.specs.Places.{at_front, fields_place, variant_places}
use Rattle.tm_base.specs.Profiles.{pointer_size}
use Rattle.tm_base.specs.Valid.{all_public}
use Rattle.tm_base.specs.ValidTest.{is_free, first_ref}
use Rattle.tm_check.specs.Numbers.{may_be_free, nonzero_begins, prim_begins, tag_begins}

abbrev pub is_zero : Cell → Bool
is_zero (Byte b) = b == 0
is_zero Uninit = false
is_zero (Ptr r k) = false

-- what a wrapper round a type of n bytes takes besides the words of that type
abbrev pub takes_besides : Wrapper → ℕ → Word → Bool
takes_besides option n w = nat_le (length w) n && list_all is_zero w
takes_besides MaybeUninit n w = may_be_free n w
takes_besides other n w = false

-- the bytes of the reference x from the k-th on
abbrev pub are_of : ℕ → ℕ → Word → Bool
are_of x k [] = true
are_of x k (Byte b ∷ w) = false
are_of x k (Uninit ∷ w) = false
are_of x k (Ptr r j ∷ w) = (r.0 == x) && ((j == k) && are_of x (k + 1) w)

-- the first bytes of one reference that the reference type t takes, of so many bytes; before the first byte there
-- is no telling which
abbrev pub ref_begins : (ℕ → ℕ → Bool) → ℕ → ℕ → Word → Bool
ref_begins A size t [] = true
ref_begins A size t (c ∷ w) = nat_le (length (c ∷ w)) size && (A (first_ref (c ∷ w)) t && are_of (first_ref (c ∷ w)) 0 (c ∷ w))

-- n words of s cells each, one after another
abbrev pub times_begin : ℕ → ℕ → (Word → Bool) → Word → Bool
times_begin zero s test w = true
times_begin (suc n) s test w = test (take s w) && times_begin n s test (drop s w)

-- where the fields of a struct stand
abbrev pub struct_places : Repr → List Layout → List ℕ
struct_places repr = if repr.transparent then at_front else places repr.packed 0

module _ (A : ℕ → ℕ → Bool) (keep : Bool) where
  unfoldable mutual
    pub begins : Expanded → Word → Bool
    begins too_deep w = false
    begins (prim profile p) w = prim_begins profile p w
    begins never w = false
    begins unit w = true
    begins (tuple members) w = false
    begins (array t n) w = times_begin n (size_of t) (begins t) w
    begins (nonzero profile p) w = nonzero_begins profile (prim_size profile p) w
    begins phantom w = true
    begins (wrap k t) w = takes_besides k (size_of t) w || begins t w
    begins (ref profile t) w = ref_begins A (pointer_size profile) t.0 w
    begins (named profile id Struct repr variants) w = struct_begins repr variants w
    begins (named profile id Union repr variants) w = union_begins variants w
    begins (named profile id Enum repr variants) w = some_variant_begins profile repr (fields_place profile repr variants) variants w

    pub struct_begins : Repr → Variants → Word → Bool
    struct_begins repr no_variants w = false
    struct_begins repr (variant value members others) w = (keep || all_public members) && fields_begin 0 (struct_places repr (field_layouts members)) members w

    pub union_begins : Variants → Word → Bool
    union_begins no_variants w = false
    union_begins (variant value members others) w = (keep || all_public members) && some_field_begins members w

    -- fields at these places, from a place on
    pub fields_begin : ℕ → List ℕ → Fields → Word → Bool
    fields_begin at ps no_fields w = list_all is_free w
    fields_begin at [] (field public t rest) w = false
    fields_begin at (place ∷ ps) (field public t rest) w =
        list_all is_free (take (place - at) w)
        && (begins t (take (size_of t) (drop (place - at) w)) && fields_begin (place + size_of t) ps rest (drop (size_of t) (drop (place - at) w)))

    pub some_field_begins : Fields → Word → Bool
    some_field_begins no_fields w = false
    some_field_begins (field public t rest) w = (begins t (take (size_of t) w) && list_all is_free (drop (size_of t) w)) || some_field_begins rest w

    pub some_variant_begins : Profile → Repr → ℕ → Variants → Word → Bool
    some_variant_begins profile repr begin no_variants w = false
    some_variant_begins profile repr begin (variant value members rest) w =
        (tag_begins profile (tag_layout profile repr.tag).size value (take (tag_layout profile repr.tag).size w)
        && fields_begin (tag_layout profile repr.tag).size (variant_places profile repr begin (field_layouts members)) members (drop (tag_layout profile repr.tag).size w))
        || some_variant_begins profile repr begin rest w
