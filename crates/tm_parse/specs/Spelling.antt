-- What the grammar sees of a text's tokens.
use Rattle.std.specs.Prelude.{ℕ, ◌-◌, if◌then◌else◌, List, [], ◌∷◌, map}
use Rattle.std.specs.Str.{bytes_eq}
use Rattle.std.specs.List.{enumerate_from, slice_range}
use Rattle.tm_lex.specs.declared.token.Token.{Token}
use Rattle.tm_lex.specs.declared.token.TokenKind.{TokenKind}
use Rattle.tm_lex.specs.declared.token.TokenKind.TheVariants as kind
use Rattle.tm_parse.specs.Words.{Spelling, words, marks}
use Rattle.tm_parse.specs.declared.class.Class.{Class}
use Rattle.tm_parse.specs.declared.class.Class.TheVariants as c
use Rattle.tm_parse.specs.declared.terminal.Terminal.{Terminal}

-- the first class of the table that is spelled so, or the other one where none is
abbrev pub class_in : List Spelling → Class → List ℕ → Class
class_in [] other bytes = other
class_in (x ∷ xs) other bytes = if bytes_eq x.0 bytes then x.1 else class_in xs other bytes

-- the class of a word, and of a mark of one character; a byte that is no mark has a class that stands in
-- no rule of the grammar
unfoldable pub word_class : List ℕ → Class
word_class bytes = class_in words c.Name bytes

unfoldable pub mark_class : ℕ → Class
mark_class byte = class_in marks c.Keyword (byte ∷ [])

-- the class of a token of a kind with these bytes
abbrev pub class_as : TokenKind → List ℕ → Class
class_as kind.Word bytes = word_class bytes
class_as kind.Lifetime bytes = c.Lifetime
class_as (kind.Number value) bytes = c.Number value
class_as (kind.Punct byte) bytes = mark_class byte
class_as kind.Arrow bytes = c.Arrow

abbrev pub class_of : List ℕ → Token → Class
class_of text token = class_as token.kind (slice_range text token.start token.end)

-- the terminals of a text's tokens: each has its token's class, its place from 0 and its size in bytes
abbrev pub terminal_of : List ℕ → ℕ × Token → Terminal
terminal_of text (place, token) = record { class = class_of text token; place = place; size = token.end - token.start }

abbrev pub terminals_of : List ℕ → List Token → List Terminal
terminals_of text tokens = map (terminal_of text) (enumerate_from 0 tokens)
