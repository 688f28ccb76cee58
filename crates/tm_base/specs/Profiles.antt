-- What differs between the targets that are answered for: how many bytes `usize` and references have, and
-- which byte of a number comes first. The Rust Reference, "Type layout", leaves both to the target; which
-- targets there are is this project's.
use Rattle.std.specs.Prelude.{ℕ, reverse}
use Rattle.tm_base.specs.declared.profile.Profile.{Profile}
use Rattle.tm_base.specs.declared.profile.Profile.TheVariants.{Le64, Be64, Le32}
use Rattle.tm_base.specs.Cells.{Word, little_endian}

-- how many bytes `usize`, `isize` and each reference have
abbrev pub pointer_size : Profile → ℕ
pointer_size Le64 = 8
pointer_size Be64 = 8
pointer_size Le32 = 4

-- the number that some bytes hold, in the profile's byte order
abbrev pub number_of : Profile → Word → ℕ
number_of Le64 w = little_endian w
number_of Be64 w = little_endian (reverse w)
number_of Le32 w = little_endian w
