-- What the parts of the lexer answer about the front of a text.
use Rattle.std.specs.Prelude.{◌≡◌, ◌==◌, ◌≢◌, ℕ, true, false, List, [], ◌∷◌, ◌++◌}
use Rattle.std.specs.Char.{is_ascii_digit}
use Rattle.std.specs.Str.{chars}
use Rattle.tm_lex.specs.declared.opening.Opening.{Opening}
use Rattle.tm_lex.specs.declared.opening.Opening.TheVariants as o
use Rattle.tm_lex.specs.declared.piece.Piece.{Piece}
use Rattle.tm_lex.specs.declared.piece.Piece.TheVariants as p
use Rattle.tm_lex.specs.Characters.{Stops}
use Rattle.tm_lex.specs.Gaps.{is_white_space, IsGap}
use Rattle.tm_lex.specs.Words.{begins_word}
use Rattle.tm_lex.specs.Tokens.{is_punct, IsToken}
use Rattle.tm_lex.specs.Lexes.{NothingBegins, why_nothing}

-- a piece that a relation holds of stands at the front, before the rest
pub record Fronts (P : List ℕ → List ℕ → Type 0) (text rest : List ℕ) : Type 0 where
  pub piece : List ℕ
  pub splits : text ≡ piece ++ rest
  pub holds : P piece rest

-- a digit of ASCII stands at the front
abbrev pub BeginsWithDigit : List ℕ → Type 0
BeginsWithDigit [] = ⊥
BeginsWithDigit (c ∷ more) = is_ascii_digit c ≡ true

-- a character that nothing begins with
pub record BeginsNothing (c : ℕ) (more : List ℕ) : Type 0 where
  pub no_space : is_white_space c ≡ false
  pub no_word : begins_word c ≡ false
  pub no_digit : is_ascii_digit c ≡ false
  pub no_quote : c ≡ 39 → ⊥
  pub no_punct : is_punct c ≡ false
  pub no_line : c ≡ 47 → Stops (λ d. d == 47) more
  pub no_block : c ≡ 47 → Stops (λ d. d == 42) more

-- how the characters begin, and what stands behind that
abbrev pub IsOpening : Opening → List ℕ → Type 0
IsOpening o.End text = text ≡ []
IsOpening (o.Space rest) text = (c : ℕ) × (text ≡ c ∷ chars rest.now) × (is_white_space c ≡ true)
IsOpening (o.Line rest) text = text ≡ 47 ∷ 47 ∷ chars rest.now
IsOpening (o.Block rest) text = text ≡ 47 ∷ 42 ∷ chars rest.now
IsOpening (o.Word rest) text = (c : ℕ) × (text ≡ c ∷ chars rest.now) × (begins_word c ≡ true)
IsOpening (o.Quote rest) text = text ≡ 39 ∷ chars rest.now
IsOpening o.Digit text = BeginsWithDigit text
IsOpening (o.Arrow rest) text = text ≡ 61 ∷ 62 ∷ chars rest.now
IsOpening (o.Punct c rest) text =
    (text ≡ c ∷ chars rest.now) × (is_punct c ≡ true) × (c ≡ 61 → Stops (λ d. d == 62) (chars rest.now))
IsOpening o.Nothing text = (c : ℕ) × (more : List ℕ) × (text ≡ c ∷ more) × BeginsNothing c more

-- the piece at the front, or the fault
abbrev pub IsPiece : Piece → List ℕ → Type 0
IsPiece p.End text = text ≡ []
IsPiece (p.Gap rest) text = Fronts IsGap text (chars rest.now)
IsPiece (p.Token kind rest) text = Fronts (IsToken kind) text (chars rest.now)
IsPiece (p.Fault why) text = (text ≢ []) × NothingBegins text × (why ≡ why_nothing text)
