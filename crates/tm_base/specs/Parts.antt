-- What a type holds by value: the elements of an array and of a tuple, the argument of every wrapper
-- but `PhantomData`, and the fields of all variants. A reference holds nothing by value.
use Rattle.std.specs.Prelude.{◌≡◌, ℕ, ◌+◌, nat_le, Bool, true, false, ◌||◌, not}
use Rattle.tm_base.specs.declared.definition.Kind.{Kind}
use Rattle.tm_base.specs.declared.definition.Kind.TheVariants.{Struct, Union, Enum}
use Rattle.tm_base.specs.declared.ground.Primitive.{Primitive}
use Rattle.tm_base.specs.declared.ground.Primitive.TheVariants.{Char}
use Rattle.tm_base.specs.declared.ground.Wrapper.{Wrapper}
use Rattle.tm_base.specs.declared.ground.Wrapper.TheVariants.{Option as option, MaybeUninit, Cell as cell, UnsafeCell}
use Rattle.tm_base.specs.Expanded.{Expanded, Fields, Variants, too_deep, prim, tuple, array, nonzero, wrap, named, no_fields, field, no_variants, variant}

module _ (test : Expanded → Bool) where
  -- some type that this one holds by value, at any depth, passes the test
  unfoldable mutual
    pub some_part : Expanded → Bool
    some_part (tuple members) = some_field members
    some_part (array t n) = test t || some_part t
    some_part (wrap w t) = test t || some_part t
    some_part (named profile id kind repr variants) = some_variant variants
    some_part t = false

    pub some_field : Fields → Bool
    some_field no_fields = false
    some_field (field public t rest) = (test t || some_part t) || some_field rest

    pub some_variant : Variants → Bool
    some_variant no_variants = false
    some_variant (variant value members rest) = some_field members || some_variant rest

  -- the type itself passes, or one that it holds by value
  abbrev pub some_within : Expanded → Bool
  some_within t = test t || some_part t

-- past the greatest depth, or a number that names nothing
abbrev pub is_too_deep : Expanded → Bool
is_too_deep too_deep = true
is_too_deep t = false

-- no part is past the greatest depth, and each number names something
abbrev pub is_whole : Expanded → Bool
is_whole t = not (some_within is_too_deep t)

-- the wrappers whose value may change behind a shared reference
abbrev pub is_cell_wrapper : Wrapper → Bool
is_cell_wrapper cell = true
is_cell_wrapper UnsafeCell = true
is_cell_wrapper w = false

-- a `Cell` or an `UnsafeCell`, whose value may change behind a shared reference
abbrev pub is_cell : Expanded → Bool
is_cell (wrap w t) = is_cell_wrapper w
is_cell t = false

-- the type is, or holds by value, one whose value may change behind a shared reference
abbrev pub has_interior : Expanded → Bool
has_interior = some_within is_cell

-- how many fields there are
abbrev pub field_count : Fields → ℕ
field_count no_fields = 0
field_count (field public t rest) = 1 + field_count rest

-- how many variants there are
abbrev pub variant_count : Variants → ℕ
variant_count no_variants = 0
variant_count (variant value members rest) = 1 + variant_count rest

-- how many fields all variants have together
abbrev pub total_fields : Variants → ℕ
total_fields no_variants = 0
total_fields (variant value members rest) = field_count members + total_fields rest

-- the one primitive whose bytes depend on one another
abbrev pub is_char : Primitive → Bool
is_char Char = true
is_char p = false

-- the wrapper that adds a word of bytes 00
abbrev pub is_option : Wrapper → Bool
is_option option = true
is_option w = false

-- the wrapper that takes free bytes
abbrev pub is_maybe_uninit : Wrapper → Bool
is_maybe_uninit MaybeUninit = true
is_maybe_uninit w = false

-- a union has two fields or more, or an enum two variants or more
abbrev pub has_several : Kind → Variants → Bool
has_several Struct _ = false
has_several Union variants = nat_le 2 (total_fields variants)
has_several Enum variants = nat_le 2 (variant_count variants)

-- a type whose words are of several kinds by its own form
abbrev pub has_alternatives : Expanded → Bool
has_alternatives (prim profile p) = is_char p
has_alternatives (nonzero profile p) = true
has_alternatives (wrap w t) = is_option w || is_maybe_uninit w
has_alternatives (named profile id kind repr variants) = has_several kind variants
has_alternatives t = false

-- neither is nor holds by value a `char`, a `NonZero`, an `Option`, a `MaybeUninit`, a union of two
-- fields or more, or an enum of two variants or more
abbrev pub HasNoAlternatives : Expanded → Type 0
HasNoAlternatives t = some_within has_alternatives t ≡ false
