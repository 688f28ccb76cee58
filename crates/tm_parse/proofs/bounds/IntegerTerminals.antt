-- A text's terminals for integer types carry integer types.
use Rattle.std.proofs.Common.{◌≡◌, ℕ, refl, Bool, true, false, not, ◌||◌, List, [], ◌∷◌, All}
use Rattle.std.proofs.lemmas.List.Elements.{All-map}
use Rattle.std.specs.List.{enumerate_from, slice_index_or, slice_range}
use Rattle.tm_base.specs.Integers.{is_integer}
use Rattle.tm_lex.specs.declared.token.Token.{Token}
use Rattle.tm_lex.specs.declared.token.TokenKind.{TokenKind}
use Rattle.tm_lex.specs.declared.token.TokenKind.TheVariants as kind
use Rattle.tm_parse.proofs.grammar.LookedUp.{looked_up}
use Rattle.tm_parse.specs.Bounds.{CarriesInteger}
use Rattle.tm_parse.specs.Classes.{among}
use Rattle.tm_parse.specs.Spelling.{word_class, mark_class, class_as, terminal_of, terminals_of}
use Rattle.tm_parse.specs.Types.{integer, alias, primitive_of}
use Rattle.tm_parse.specs.Words.{words, marks}
use Rattle.tm_parse.specs.declared.class.Class.{Class}
use Rattle.tm_parse.specs.declared.class.Class.TheVariants as c
use Rattle.tm_parse.specs.declared.terminal.Terminal.{Terminal}

abbrev carries : Class → Bool
carries k = not (among (integer ∷ alias ∷ []) k) || is_integer (primitive_of (record { class = k; place = 0; size = 0 }))

word-carries : (bytes : List ℕ) → carries (word_class bytes) ≡ true
unfolding word_class
word-carries bytes = looked_up carries words c.Name bytes refl refl

mark-carries : (byte : ℕ) → carries (mark_class byte) ≡ true
unfolding mark_class
mark-carries byte = looked_up carries marks c.Keyword (byte ∷ []) refl refl

class-carries : (what : TokenKind) (bytes : List ℕ) → carries (class_as what bytes) ≡ true
class-carries kind.Word bytes = word-carries bytes
class-carries kind.Lifetime bytes = refl
class-carries (kind.Number value) bytes = refl
class-carries (kind.Punct byte) bytes = mark-carries byte
class-carries kind.Arrow bytes = refl

carries-so : (t : Terminal) → carries t.class ≡ true → CarriesInteger t
carries-so t h k = go (among (integer ∷ alias ∷ []) t.class) k h
  where
    go : (b : Bool) → b ≡ true → (not b || is_integer (primitive_of t)) ≡ true → is_integer (primitive_of t) ≡ true
    go true e h = h
    go false e h = absurd cc

terminal-carries : (text : List ℕ) (x : ℕ × Token) → CarriesInteger (terminal_of text x)
terminal-carries text (place, token) = carries-so (terminal_of text (place, token)) (class-carries token.kind (slice_range text token.start token.end))

pub terminals_carry : (text : List ℕ) (tokens : List Token) → All CarriesInteger (terminals_of text tokens)
terminals_carry text tokens = All-map CarriesInteger (terminal_of text) (enumerate_from 0 tokens) (λ k d l. terminal-carries text (slice_index_or (enumerate_from 0 tokens) k d))
