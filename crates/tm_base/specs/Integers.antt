-- Integer types and the whole numbers that they hold.
use Rattle.std.specs.Prelude.{ℕ, ◌-◌, ◌*◌, ◌^◌, nat_lt, Bool, true, false, if◌then◌else◌, ℤ, pos, negsuc}
use Rattle.tm_base.specs.declared.ground.Primitive.{Primitive}
use Rattle.tm_base.specs.declared.ground.Primitive.TheVariants.{Bool as bool', Char, U128, I8, I16, I32, I64, I128, Isize, F32, F64}
use Rattle.tm_base.specs.declared.profile.Profile.{Profile}
use Rattle.tm_base.specs.Layout.{prim_size}

-- the integer types that hold negative numbers
abbrev pub is_signed : Primitive → Bool
is_signed I8 = true
is_signed I16 = true
is_signed I32 = true
is_signed I64 = true
is_signed I128 = true
is_signed Isize = true
is_signed p = false

-- all primitives but `bool`, `char` and the floats
abbrev pub is_integer : Primitive → Bool
is_integer bool' = false
is_integer Char = false
is_integer F32 = false
is_integer F64 = false
is_integer p = true

-- a signed integer of n bytes, 1 at least, holds the number
abbrev pub fits_signed : ℕ → ℤ → Bool
fits_signed n (pos k) = nat_lt k (2 ^ (8 * n - 1))
fits_signed n (negsuc k) = nat_lt k (2 ^ (8 * n - 1))

-- an unsigned integer of n bytes holds the number
abbrev pub fits_unsigned : ℕ → ℤ → Bool
fits_unsigned n (pos k) = nat_lt k (256 ^ n)
fits_unsigned n (negsuc k) = false

-- the integer type holds the number
abbrev pub fits_integer : Profile → Primitive → ℤ → Bool
fits_integer profile p value =
    if is_signed p then fits_signed (prim_size profile p) value else fits_unsigned (prim_size profile p) value

-- An integer type that an enum may have as its representation: one of at most 64 bits, under each profile.
abbrev pub is_tag_type : Primitive → Bool
is_tag_type U128 = false
is_tag_type I128 = false
is_tag_type p = is_integer p
