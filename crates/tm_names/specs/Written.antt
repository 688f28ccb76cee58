-- The names of a text's tokens. Places count tokens, from 0.
use Rattle.std.specs.Prelude.{ℕ, Bool, ◌||◌, List, [], Option, Some, None, slice_get, codes}
use Rattle.std.specs.List.{list_any, position_from, slice_range}
use Rattle.std.specs.Str.{bytes_eq}
use Rattle.tm_lex.specs.declared.token.Token.{Token}

-- the bytes of a token; where there is none, nothing
abbrev pub bytes_of : List ℕ → Option Token → List ℕ
bytes_of text None = []
bytes_of text (Some token) = slice_range text token.start token.end

-- the bytes of the token at a place
abbrev pub name_at : List ℕ → List Token → ℕ → List ℕ
name_at text tokens place = bytes_of text (slice_get tokens place)

module _ (name : ℕ → List ℕ) where
  -- the tokens at two places have one name
  abbrev pub is_same : ℕ → ℕ → Bool
  is_same p q = bytes_eq (name p) (name q)

  -- one of these has the name of the token at the place
  abbrev pub is_among : List ℕ → ℕ → Bool
  is_among places place = list_any (λ p. is_same p place) places

  -- the first of these that has the name of the token at the place, by its number from 0
  abbrev pub first_among : List ℕ → ℕ → Option ℕ
  first_among places place = position_from (λ p. is_same p place) 0 places

  -- the token is `'static`
  abbrev pub is_static : ℕ → Bool
  is_static place = bytes_eq (name place) (codes "'static")

  -- the token is a lifetime that can't be declared: `'static` or `'_`
  abbrev pub is_reserved : ℕ → Bool
  is_reserved place = is_static place || bytes_eq (name place) (codes "'_")
