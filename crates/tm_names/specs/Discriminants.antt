-- The discriminants of an enum's variants: the one that is written; else 0 for the first variant, and for
-- a later one the discriminant before it plus one, whether or not that is in its range.
use Rattle.std.specs.Prelude.{ℕ, Bool, true, false, ℤ, pos, neg_ℤ, ◌+ℤ◌, Option, Some, None, List, [], ◌∷◌}
use Rattle.tm_base.specs.declared.ground.Primitive.{Primitive}
use Rattle.tm_base.specs.declared.ground.Primitive.TheVariants.{I64}
use Rattle.tm_base.specs.declared.profile.Profile.{Profile}
use Rattle.tm_base.specs.Integers.{fits_integer}
use Rattle.tm_parse.specs.declared.parsed.DeclVariant.{DeclVariant}

-- a number with its sign
abbrev pub signed : Bool → ℕ → ℤ
signed false n = pos n
signed true n = neg_ℤ (pos n)

-- the number that is written, or the implied one
abbrev pub written_or : ℤ → Bool → Option ℕ → ℤ
written_or implied negative None = implied
written_or implied negative (Some n) = signed negative n

abbrev pub value_of : ℤ → DeclVariant → ℤ
value_of implied v = written_or implied v.negative v.value

-- a variant with its discriminant
pub record Valued : Type 0 where
  pub variant : DeclVariant
  pub value : ℤ

-- the variants, where the first one's discriminant is implied to be so much
abbrev pub valued_from : ℤ → List DeclVariant → List Valued
valued_from implied [] = []
valued_from implied (v ∷ vs) = record { variant = v; value = value_of implied v } ∷ valued_from (value_of implied v +ℤ pos 1) vs

abbrev pub valued : List DeclVariant → List Valued
valued = valued_from (pos 0)

-- the range of a discriminant: that of the integer representation, which for `usize` and `isize` differs
-- between profiles, or of `i64` without one
abbrev pub is_in_range : Profile → Option Primitive → ℤ → Bool
is_in_range profile None value = fits_integer profile I64 value
is_in_range profile (Some p) value = fits_integer profile p value
