-- The names of a text with its tokens.
use Rattle.std.specs.Prelude.{ℕ, List}
use Rattle.tm_lex.specs.Lexes.{Tokenizes}
use Rattle.tm_names.specs.declared.source.Source.{Source}
use Rattle.tm_names.specs.Written.{name_at}

abbrev pub names_in : Source → ℕ → List ℕ
names_in source = name_at source.text.now source.tokens.now

-- the tokens are those of the text
abbrev pub IsTokenized : Source → Type 0
IsTokenized source = Tokenizes source.text.now source.tokens.now
