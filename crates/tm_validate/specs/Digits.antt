-- Bytes as they are written: two hexadecimal digits each, the greater first, in either case.
use Rattle.std.specs.Prelude.{ℕ, ◌%◌, ◌==◌, ◌&&◌, nat_le, Bool, List, length}
use Rattle.std.specs.Char.{is_ascii_hexdigit}
use Rattle.std.specs.List.{list_all}

-- from 2 to 131,072 hexadecimal digits, an even number of them
abbrev pub are_digits : List ℕ → Bool
are_digits text = nat_le 2 (length text) && (nat_le (length text) 131072 && ((length text % 2 == 0) && list_all is_ascii_hexdigit text))
