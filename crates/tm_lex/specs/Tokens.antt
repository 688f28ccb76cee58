-- How tokens are spelled. Which characters are tokens of their own is this project's.
use Rattle.std.specs.Prelude.{◌≡◌, ◌==◌, ℕ, Bool, true, Some, List, [], ◌∷◌}
use Rattle.tm_lex.specs.declared.token.TokenKind.{TokenKind}
use Rattle.tm_lex.specs.declared.token.TokenKind.TheVariants.{Word, Lifetime, Number, Punct, Arrow}
use Rattle.tm_lex.specs.Characters.{is_among, Stops}
use Rattle.tm_lex.specs.Numbers.{number_of, IsDigitRun}
use Rattle.tm_lex.specs.Words.{IsWord}

-- `{ } ( ) [ ] < > , ; : = & ! # -`
abbrev pub puncts : List ℕ
puncts = 123 ∷ 125 ∷ 40 ∷ 41 ∷ 91 ∷ 93 ∷ 60 ∷ 62 ∷ 44 ∷ 59 ∷ 58 ∷ 61 ∷ 38 ∷ 33 ∷ 35 ∷ 45 ∷ []

abbrev pub is_punct : ℕ → Bool
is_punct c = is_among puncts c

-- The text is a token of the kind, and before this rest it is the longest that begins where it does:
-- a word or a number ends where its characters do, and `=` doesn't stand before `>`. 39 is `'`.
abbrev pub IsToken : TokenKind → List ℕ → List ℕ → Type 0
IsToken Word text rest = IsWord text rest
IsToken Lifetime text rest = (word : List ℕ) × (text ≡ 39 ∷ word) × IsWord word rest
IsToken (Number value) text rest = IsDigitRun text rest × (number_of text ≡ Some value)
IsToken (Punct c) text rest = (text ≡ c ∷ []) × (is_punct c ≡ true) × (c ≡ 61 → Stops (λ d. d == 62) rest)
IsToken Arrow text rest = text ≡ 61 ∷ 62 ∷ []
