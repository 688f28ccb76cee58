-- What the text of an option's value stands for: a number, a profile or bytes.
use Rattle.std.specs.Prelude.{ℕ, ◌^◌, ◌&&◌, nat_lt, nat_le, Bool, if◌then◌else◌, Option, Some, None, List, length, codes, bytes_eq}
use Rattle.std.specs.List.{list_all}
use Rattle.std.specs.Char.{is_ascii_digit}
use Rattle.std.specs.Result.{result_ok}
use Rattle.std.specs.Str.Parse.{digits_value}
use Rattle.hex.specs.Hex.{decode_of}
use Rattle.tm_base.specs.declared.profile.Profile.{Profile}
use Rattle.tm_base.specs.declared.profile.Profile.TheVariants.{Le64, Be64, Le32}
use Rattle.tm_validate.specs.Digits.{are_digits}

-- ASCII digits, one and no more than so many, whose number has so many bits
abbrev pub is_number : ℕ → ℕ → List ℕ → Bool
is_number most bits text = nat_lt 0 (length text) && (nat_le (length text) most && (list_all is_ascii_digit text && nat_lt (digits_value 10 text) (2 ^ bits)))

abbrev pub number_in : ℕ → ℕ → List ℕ → Option ℕ
number_in most bits text = if is_number most bits text then Some (digits_value 10 text) else None

-- the number of a file, below 2^64
abbrev pub number_of : List ℕ → Option ℕ
number_of = number_in 20 64

-- the number of a question, below 2^32
abbrev pub question_number : List ℕ → Option ℕ
question_number = number_in 10 32

-- the profile of a name
abbrev pub profile_of : List ℕ → Option Profile
profile_of text =
    if bytes_eq text (codes "le64") then Some Le64
    else (if bytes_eq text (codes "be64") then Some Be64
    else (if bytes_eq text (codes "le32") then Some Le32 else None))

-- the bytes that hexadecimal digits write, two each; none where a text isn't such digits
abbrev pub bytes_read : List ℕ → Option (List ℕ)
bytes_read text = if are_digits text then result_ok (decode_of text) else None
