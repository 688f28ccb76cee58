-- When initialised bytes begin a number of some kind, in a profile's byte order: some bytes behind them make it one.
use Rattle.std.specs.Prelude.{ℕ, ◌+◌, ◌-◌, ◌*◌, ◌/◌, ◌%◌, ◌^◌, nat_le, nat_lt, ◌==◌, Bool, ◌&&◌, ◌||◌, if◌then◌else◌, Option, Some, None, ℤ, length}
use Rattle.std.specs.List.{list_all}
use Rattle.tm_base.specs.declared.ground.Primitive.{Primitive}
use Rattle.tm_base.specs.declared.ground.Primitive.TheVariants.{Bool as bool', Char}
use Rattle.tm_base.specs.declared.profile.Profile.{Profile}
use Rattle.tm_base.specs.declared.profile.Profile.TheVariants.{Le64, Be64, Le32}
use Rattle.tm_base.specs.Cells.{Word}
use Rattle.tm_base.specs.Layout.{prim_size}
use Rattle.tm_base.specs.Profiles.{number_of}
use Rattle.tm_base.specs.Valid.{twos_complement}
use Rattle.tm_base.specs.ValidTest.{is_byte, is_free, is_scalar}

-- initialised bytes, no more than so many
abbrev pub may_be_bytes : ℕ → Word → Bool
may_be_bytes n w = nat_le (length w) n && list_all is_byte w

-- bytes that nothing is asked of, no more than so many
abbrev pub may_be_free : ℕ → Word → Bool
may_be_free n w = nat_le (length w) n && list_all is_free w

-- the number of initialised bytes, where there are no more than so many
abbrev pub number_within : Profile → ℕ → Word → Option ℕ
number_within profile n w = if may_be_bytes n w then Some (number_of profile w) else None

-- the number of k bytes that have a number and of a byte behind them
abbrev pub grown : Profile → ℕ → ℕ → ℕ → ℕ
grown Le64 k number b = number + b * 256 ^ k
grown Be64 k number b = number * 256 + b
grown Le32 k number b = number + b * 256 ^ k

-- Bytes 00 make it a scalar value, if any do; but where the least byte comes first, two may stand for a
-- surrogate, and a byte 01 behind them makes it one.
abbrev pub begins_scalar : Profile → ℕ → ℕ → Bool
begins_scalar Le64 k number = nat_le k 2 || is_scalar number
begins_scalar Be64 k number = is_scalar (number * 256 ^ (4 - k))
begins_scalar Le32 k number = nat_le k 2 || is_scalar number

-- as `PrimValid`
abbrev pub prim_begins : Profile → Primitive → Word → Bool
prim_begins profile bool' w = may_be_bytes 1 w && nat_le (number_of profile w) 1
prim_begins profile Char w = may_be_bytes 4 w && begins_scalar profile (length w) (number_of profile w)
prim_begins profile p w = may_be_bytes (prim_size profile p) w

-- a number of n bytes that isn't 0
abbrev pub nonzero_begins : Profile → ℕ → Word → Bool
nonzero_begins profile n w = may_be_bytes n w && (nat_lt (length w) n || nat_lt 0 (number_of profile w))

-- the number that the first k of the n bytes of a number hold
abbrev pub first_bytes : Profile → ℕ → ℕ → ℕ → ℕ
first_bytes Le64 n k number = number % 256 ^ k
first_bytes Be64 n k number = number / 256 ^ (n - k)
first_bytes Le32 n k number = number % 256 ^ k

-- as `IsTag`
abbrev pub tag_begins : Profile → ℕ → ℤ → Word → Bool
tag_begins profile n value w =
    may_be_bytes n w && nat_lt (twos_complement n value) (256 ^ n)
    && (number_of profile w == first_bytes profile n (length w) (twos_complement n value))
