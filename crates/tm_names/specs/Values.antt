-- Discriminants as they are counted: in 128 bits behind a sign, where the greatest is followed by itself.
use Rattle.std.specs.Prelude.{ℕ, zero, suc, ◌+◌, ◌-◌, ◌^◌, nat_lt, if◌then◌else◌, Bool, true, false, ℤ, pos, negsuc, Option, Some, None, List, [], ◌∷◌}
use Rattle.tm_names.specs.declared.value.Value.{Value}
use Rattle.tm_names.specs.declared.value.Value.TheVariants.{AtLeastZero, BelowZero}
use Rattle.tm_parse.specs.declared.parsed.DeclVariant.{DeclVariant}

-- the number that it is
abbrev pub int_of : Value → ℤ
int_of (AtLeastZero n) = pos n
int_of (BelowZero n) = negsuc n

-- the greatest that is counted
abbrev pub greatest : ℕ
greatest = 2 ^ 128 - 1

-- plus one
abbrev pub next_of : Value → Value
next_of (AtLeastZero n) = if nat_lt n greatest then AtLeastZero (n + 1) else AtLeastZero n
next_of (BelowZero zero) = AtLeastZero 0
next_of (BelowZero (suc n)) = BelowZero n

-- a number with its sign
abbrev pub signed_value : Bool → ℕ → Value
signed_value false n = AtLeastZero n
signed_value true zero = AtLeastZero 0
signed_value true (suc n) = BelowZero n

abbrev pub written_value : Value → Bool → Option ℕ → Value
written_value implied negative None = implied
written_value implied negative (Some n) = signed_value negative n

-- the discriminant of a variant, where so much is implied
abbrev pub value_in : Value → DeclVariant → Value
value_in implied v = written_value implied v.negative v.value

abbrev pub values_from : Value → List DeclVariant → List Value
values_from implied [] = []
values_from implied (v ∷ vs) = value_in implied v ∷ values_from (next_of (value_in implied v)) vs

-- the number, or what stands for it below zero, is below a bound; it is so and at least zero
abbrev pub is_below : ℕ → Value → Bool
is_below bound (AtLeastZero n) = nat_lt n bound
is_below bound (BelowZero n) = nat_lt n bound

abbrev pub is_small : ℕ → Value → Bool
is_small bound (AtLeastZero n) = nat_lt n bound
is_small bound (BelowZero n) = false
