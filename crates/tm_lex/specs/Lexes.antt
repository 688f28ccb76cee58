-- What a text tokenizes to, and where and why it doesn't. That each fault stands at the first place
-- where nothing begins, and how it is named, is this project's.
use Rattle.std.specs.Prelude.{◌≡◌, ◌==◌, ◌≢◌, ℕ, ◌+◌, ◌<◌, ◌≤◌, if◌then◌else◌, List, [], ◌∷◌, ◌++◌, length, ⊤}
use Rattle.std.specs.Char.{is_ascii_digit}
use Rattle.std.specs.Str.{chars, encode_utf8_all}
use Rattle.tm_lex.specs.declared.token.Token.{Token}
use Rattle.tm_lex.specs.declared.token.TokenKind.{TokenKind}
use Rattle.tm_lex.specs.declared.fault.LexWhy.{LexWhy}
use Rattle.tm_lex.specs.declared.fault.LexWhy.TheVariants.{NoToken, BadNumber, OpenComment}
use Rattle.tm_lex.specs.declared.fault.LexErr.{LexErr}
use Rattle.tm_lex.specs.declared.fault.LexErr.TheVariants.{At, Memory}
use Rattle.tm_lex.specs.Characters.{bytes_of}
use Rattle.tm_lex.specs.Comments.{begins_block}
use Rattle.tm_lex.specs.Gaps.{IsGap}
use Rattle.tm_lex.specs.Tokens.{IsToken}

-- the token of a kind that takes so many bytes from a place on
abbrev pub token_at : TokenKind → ℕ → ℕ → Token
token_at kind place bytes = record { kind = kind; start = place; end = place + bytes }

-- From the byte `place` on, the characters are white space, comments and these tokens in turn, and
-- then a rest. Each token has the place of its first byte, and that of the byte behind its last.
pub data Lexes : ℕ → List ℕ → List Token → List ℕ → Type 0 where
  nothing : (place : ℕ) (text rest : List ℕ) → text ≡ rest → Lexes place text [] rest
  gap : (place : ℕ) (text piece after rest : List ℕ) (tokens : List Token)
      → text ≡ piece ++ after → IsGap piece after
      → Lexes (place + bytes_of piece) after tokens rest
      → Lexes place text tokens rest
  token : (place : ℕ) (text piece after rest : List ℕ) (kind : TokenKind) (tokens : List Token)
      → text ≡ piece ++ after → IsToken kind piece after
      → Lexes (place + bytes_of piece) after tokens rest
      → Lexes place text (token_at kind place (bytes_of piece) ∷ tokens) rest

-- the characters without a byte order mark at their front, and how many bytes that mark takes
abbrev pub unmarked : List ℕ → List ℕ
unmarked [] = []
unmarked (c ∷ cs) = if c == 0xFEFF then cs else c ∷ cs

abbrev pub mark_bytes : List ℕ → ℕ
mark_bytes [] = 0
mark_bytes (c ∷ cs) = if c == 0xFEFF then 3 else 0

-- the text is white space, comments and these tokens in turn, from its byte order mark on
pub record Tokenizes (text : List ℕ) (tokens : List Token) : Type 0 where
  pub lexes : Lexes (mark_bytes (chars text)) (unmarked (chars text)) tokens []

-- neither white space nor a comment nor a token begins at the front
pub record NothingBegins (text : List ℕ) : Type 0 where
  pub no_gap : (piece after : List ℕ) → text ≡ piece ++ after → IsGap piece after → ⊥
  pub no_token : (kind : TokenKind) (piece after : List ℕ) → text ≡ piece ++ after → IsToken kind piece after → ⊥

-- what is wrong where nothing begins: a digit is a number gone wrong, and a `/*` a comment that isn't closed
abbrev pub why_nothing : List ℕ → LexWhy
why_nothing [] = NoToken
why_nothing (c ∷ more) =
    if is_ascii_digit c then BadNumber else if begins_block c more then OpenComment else NoToken

-- the text is white space, comments and tokens in turn up to this byte, at which nothing begins though
-- the text goes on
pub record IsFault (text : List ℕ) (place : ℕ) (why : LexWhy) : Type 0 where
  pub before : List Token
  pub rest : List ℕ
  pub lexes : Lexes (mark_bytes (chars text)) (unmarked (chars text)) before rest
  pub goes_on : rest ≢ []
  pub nothing : NothingBegins rest
  pub at_place : place + bytes_of rest ≡ length text
  pub cause : why ≡ why_nothing rest

-- the error has its cause in the text; a want of memory may come for any
abbrev pub HasCause : List ℕ → LexErr → Type 0
HasCause text (At place why) = IsFault text place why
HasCause text Memory = ⊤

-- the token is a piece of the text, of its kind, between the bytes that it names
pub record IsPieceOf (text : List ℕ) (token : Token) : Type 0 where
  pub before : List ℕ
  pub piece : List ℕ
  pub after : List ℕ
  pub whole : text ≡ encode_utf8_all before ++ (encode_utf8_all piece ++ encode_utf8_all after)
  pub start : token.start ≡ bytes_of before
  pub end : token.end ≡ token.start + bytes_of piece
  pub kind : IsToken token.kind piece after

-- each token begins at or behind a place and ends behind its start, the next begins at or behind its
-- end, and none ends behind the last place
abbrev pub InOrder : ℕ → List Token → ℕ → Type 0
InOrder place [] last = place ≤ last
InOrder place (t ∷ ts) last = (place ≤ t.start) × (t.start < t.end) × InOrder t.end ts last
