-- What stands between tokens: white space and comments. The Rust Reference, "Whitespace" and
-- "Comments"; that doc comments say nothing is this project's.
use Rattle.std.specs.Prelude.{◌≡◌, ◌==◌, ℕ, Bool, true, not, List, [], ◌∷◌}
use Rattle.tm_lex.specs.Characters.{is_among, IsRun}
use Rattle.tm_lex.specs.Comments.{IsBody}

abbrev pub white_spaces : List ℕ
white_spaces = 0x9 ∷ 0xA ∷ 0xB ∷ 0xC ∷ 0xD ∷ 0x20 ∷ 0x85 ∷ 0x200E ∷ 0x200F ∷ 0x2028 ∷ 0x2029 ∷ []

abbrev pub is_white_space : ℕ → Bool
is_white_space c = is_among white_spaces c

-- the character doesn't end a line
abbrev pub is_in_line : ℕ → Bool
is_in_line c = not (c == 10)

-- one character of white space, or one comment, before a rest. A comment that begins with `//` runs
-- up to the next U+000A or the end of the text.
pub data IsGap (gap rest : List ℕ) : Type 0 where
  white_space : (c : ℕ) → gap ≡ c ∷ [] → is_white_space c ≡ true → IsGap gap rest
  line_comment : (line : List ℕ) → gap ≡ 47 ∷ 47 ∷ line → IsRun is_in_line line rest → IsGap gap rest
  block_comment : (body : List ℕ) → gap ≡ 47 ∷ 42 ∷ body → IsBody body → IsGap gap rest
