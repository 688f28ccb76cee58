-- The bytes of the tokens at which a file declares names.
use Rattle.std.proofs.Common.{◌≡◌, ℕ, ◌==◌, ◌<◌, ◌≤◌, refl, sym, ap, ◌∙◌, subst, Bool, true, false, not, ◌&&◌, ◌||◌, Ok, Some, List, [], ◌∷◌, length, map, All, inl, inr, arith}
use Rattle.std.specs.Prelude.{nat_le, slice_get}
use Rattle.std.specs.List.{list_all, enumerate_from, slice_range}
use Rattle.std.specs.Str.{bytes_eq, encode_utf8_all, IsUtf8}
use Rattle.std.proofs.lemmas.Bool.{and_from, and_parts, eqb-true, false≢true, le-leb, or_right}
use Rattle.std.proofs.lemmas.List.Elements.{All-nil, All-cons}
use Rattle.std.proofs.lemmas.Slice.Eq.{bytes_eq-Decides}
use Rattle.std.proofs.lemmas.Str.{length-le-encodes}
use Rattle.tm_lex.proofs.ClassLemmas.{token_first}
use Rattle.tm_lex.proofs.PlaceLemmas.{answers_pieces}
use Rattle.tm_lex.proofs.SliceLemmas.{slice_of-piece}
use Rattle.tm_lex.proofs.WordLemmas.{is_ascii_word, lifetime_bytes, word_bytes}
use Rattle.tm_lex.specs.Lexes.{IsPieceOf, Tokenizes}
use Rattle.tm_lex.specs.Tokens.{IsToken}
use Rattle.tm_lex.specs.declared.token.Token.{Token}
use Rattle.tm_lex.specs.declared.token.TokenKind.{TokenKind}
use Rattle.tm_lex.specs.declared.token.TokenKind.TheVariants as kind
use Rattle.tm_names.proofs.Members.{Member, from_numbered, member_from_get}
use Rattle.tm_names.proofs.form_laws.TypeFormLemmas.{of_member}
use Rattle.tm_names.specs.ApartNames.{is_own_name, is_quoted, is_region_name, is_word, is_word_byte, taken_words}
use Rattle.tm_names.specs.Written.{bytes_of, name_at}
use Rattle.tm_parse.proofs.grammar.LookedUp.{mark_no_lifetime, mark_no_name, word_no_lifetime}
use Rattle.tm_parse.specs.Classes.{among}
use Rattle.tm_parse.proofs.bounds.DeclaredClasses.{Suits}
use Rattle.tm_parse.specs.Spelling.{class_as, terminal_of, terminals_of, word_class}
use Rattle.tm_parse.specs.Types.{definition_names}
use Rattle.tm_parse.specs.declared.class.Class.TheVariants as c

-- a byte of a word may stand in a name, and so may each byte of a character that isn't ASCII
ascii_passes : (b : ℕ) → is_ascii_word b ≡ true → is_word_byte b ≡ true
unfolding is_word_byte
ascii_passes b h = go (b == 39) (b == 95) (nat_le 48 b && nat_le b 57) (nat_le 65 b && nat_le b 90) (nat_le 97 b && nat_le b 122) (nat_le 128 b) h
  where
    go : (q u d l s n : Bool) → (u || d || l || s) ≡ true → (q || u || d || l || s || n) ≡ true
    go true u d l s n h = refl
    go false u d l s n h = ap (λ b. b || n) h

high_passes : (b : ℕ) → 128 ≤ b → is_word_byte b ≡ true
unfolding is_word_byte
high_passes b l = or_right _ (nat_le 128 b) (le-leb 128 b l)

quote_passes : is_word_byte 39 ≡ true
unfolding is_word_byte
quote_passes = refl

some_bytes : (bs : List ℕ) → 0 < length bs → list_all is_word_byte bs ≡ true → is_word bs ≡ true
some_bytes [] l h = absurd (omega (arith, l))
some_bytes (b ∷ bs) l h = h

not_empty : (what : TokenKind) (piece rest : List ℕ) → IsToken what piece rest → 0 < length (encode_utf8_all piece)
not_empty what piece rest h =
    let first = token_first what piece rest h in let whole = ap length first.2 in let most = length-le-encodes piece in omega (arith, whole, most)

word_is_word : (piece rest : List ℕ) → IsToken kind.Word piece rest → is_word (encode_utf8_all piece) ≡ true
word_is_word piece rest h = some_bytes (encode_utf8_all piece) (not_empty kind.Word piece rest h) (word_bytes is_word_byte ascii_passes high_passes piece rest h)

lifetime_is_word : (piece rest : List ℕ) → IsToken kind.Lifetime piece rest → is_word (encode_utf8_all piece) ≡ true
lifetime_is_word piece rest h =
    some_bytes (encode_utf8_all piece) (not_empty kind.Lifetime piece rest h) (lifetime_bytes is_word_byte ascii_passes high_passes piece rest quote_passes h)

-- no byte of a word is a quote, which begins a lifetime
abbrev is_plain : ℕ → Bool
is_plain b = not (b == 39)

ascii_plain : (b : ℕ) → is_ascii_word b ≡ true → is_plain b ≡ true
ascii_plain b h = go (b == 39) refl
  where
    go : (q : Bool) → (b == 39) ≡ q → not q ≡ true
    go false e = refl
    go true e = absurd (false≢true (subst (λ n. is_ascii_word n ≡ true) (eqb-true b 39 e) h))

high_plain : (b : ℕ) → 128 ≤ b → is_plain b ≡ true
high_plain b l = go (b == 39) refl
  where
    go : (q : Bool) → (b == 39) ≡ q → not q ≡ true
    go false e = refl
    go true e = let is = eqb-true b 39 e in absurd (omega (arith, is, l))

unquoted : (bs : List ℕ) → list_all is_plain bs ≡ true → not (is_quoted bs) ≡ true
unquoted [] h = refl
unquoted (b ∷ bs) h = (and_parts (is_plain b) _ h).0

word_unquoted : (piece rest : List ℕ) → IsToken kind.Word piece rest → not (is_quoted (encode_utf8_all piece)) ≡ true
word_unquoted piece rest h = unquoted (encode_utf8_all piece) (word_bytes is_plain ascii_plain high_plain piece rest h)

lifetime_quoted : (piece rest : List ℕ) → IsToken kind.Lifetime piece rest → is_quoted (encode_utf8_all piece) ≡ true
unfolding lib.Utf8.encode
lifetime_quoted piece rest (word, e, h) = ap (λ text. is_quoted (encode_utf8_all text)) e

-- a word that may name a definition is none of those that may not
none_of : (bytes : List ℕ) (words : List (List ℕ)) → list_all (λ word. not (among definition_names (word_class word))) words ≡ true
    → among definition_names (word_class bytes) ≡ true → list_all (λ word. not (bytes_eq bytes word)) words ≡ true
none_of bytes [] all h = refl
none_of bytes (word ∷ words) all h =
    let parts = and_parts (not (among definition_names (word_class word))) _ all in
    and_from _ _ (go (bytes_eq bytes word) refl parts.0) (none_of bytes words parts.1 h)
  where
    go : (b : Bool) → bytes_eq bytes word ≡ b → not (among definition_names (word_class word)) ≡ true → not b ≡ true
    go false e other = refl
    go true e other =
        let same : bytes ≡ word = (bytes_eq-Decides bytes word).0 e in
        ap not (sym h) ∙ ap (λ bs. not (among definition_names (word_class bs))) same ∙ other

apart_words : list_all (λ word. not (among definition_names (word_class word))) taken_words ≡ true
unfolding word_class
apart_words = refl

own_from : (bytes : List ℕ) → is_word bytes ≡ true → not (is_quoted bytes) ≡ true → among definition_names (word_class bytes) ≡ true → is_own_name bytes ≡ true
unfolding is_own_name
own_from bytes a plain h = and_from (is_word bytes && not (is_quoted bytes)) _ (and_from (is_word bytes) _ a plain) (none_of bytes taken_words apart_words h)

-- so a token whose class may name a definition is such a name, and a lifetime names a region
named_so : (what : TokenKind) (piece rest bytes : List ℕ) → IsToken what piece rest → bytes ≡ encode_utf8_all piece
    → among definition_names (class_as what bytes) ≡ true → is_own_name bytes ≡ true
named_so kind.Word piece rest bytes t e h =
    own_from bytes (ap is_word e ∙ word_is_word piece rest t) (ap (λ bs. not (is_quoted bs)) e ∙ word_unquoted piece rest t) h
named_so kind.Lifetime piece rest bytes t e h = absurd (false≢true h)
named_so (kind.Number value) piece rest bytes t e h = absurd (false≢true h)
named_so (kind.Punct byte) piece rest bytes t e h = absurd (false≢true (sym (mark_no_name byte) ∙ h))
named_so kind.Arrow piece rest bytes t e h = absurd (false≢true h)

lives_so : (what : TokenKind) (piece rest bytes : List ℕ) → IsToken what piece rest → bytes ≡ encode_utf8_all piece
    → among (c.Lifetime ∷ []) (class_as what bytes) ≡ true → is_region_name bytes ≡ true
lives_so kind.Word piece rest bytes t e h = absurd (false≢true (sym (word_no_lifetime bytes) ∙ h))
lives_so kind.Lifetime piece rest bytes t e h =
    ap is_region_name e ∙ and_from (is_word (encode_utf8_all piece)) _ (lifetime_is_word piece rest t) (lifetime_quoted piece rest t)
lives_so (kind.Number value) piece rest bytes t e h = absurd (false≢true h)
lives_so (kind.Punct byte) piece rest bytes t e h = absurd (false≢true (sym (mark_no_lifetime byte) ∙ h))
lives_so kind.Arrow piece rest bytes t e h = absurd (false≢true h)

-- what holds of each member holds of all
pub all_mapped : {X Y : Type 0} (P : Y → Type 0) (f : X → Y) (xs : List X) → ((x : X) → Member x xs → P (f x)) → All P (map f xs)
all_mapped P f [] each = All-nil P
all_mapped P f (x ∷ xs) each = All-cons P (f x) (map f xs) (each x (inl refl)) (all_mapped P f xs (λ y m. each y (inr m)))

module _ (text : List ℕ) (tokens : List Token) (utf8 : IsUtf8 text) (tokenized : Tokenizes text tokens) where
  abbrev IsOwn : ℕ → Type 0
  IsOwn place = is_own_name (name_at text tokens place) ≡ true

  abbrev IsLife : ℕ → Type 0
  IsLife place = is_region_name (name_at text tokens place) ≡ true

  piece_at : (place : ℕ) (token : Token) → slice_get tokens place ≡ Some token → IsPieceOf text token
  piece_at place token at =
      of_member (IsPieceOf text) tokens token (answers_pieces text (λ v. v) {E = Unit {0}} (Ok tokens) utf8 tokenized) (member_from_get token tokens place at)

  token_suits : (place : ℕ) (token : Token) → slice_get tokens place ≡ Some token → Suits IsOwn IsLife (terminal_of text (place, token))
  token_suits place token at =
      let p = piece_at place token at in
      let spelled : slice_range text token.start token.end ≡ encode_utf8_all p.piece = slice_of-piece text token p in
      record {
        name = λ h. ap (λ o. is_own_name (bytes_of text o)) at ∙ named_so token.kind p.piece p.after (slice_range text token.start token.end) p.kind spelled h;
        lifetime = λ h. ap (λ o. is_region_name (bytes_of text o)) at ∙ lives_so token.kind p.piece p.after (slice_range text token.start token.end) p.kind spelled h;
      }

  pub terminals_suit : All (Suits IsOwn IsLife) (terminals_of text tokens)
  terminals_suit = all_mapped (Suits IsOwn IsLife) (terminal_of text) (enumerate_from 0 tokens) each
    where
      each : (x : ℕ × Token) → Member x (enumerate_from 0 tokens) → Suits IsOwn IsLife (terminal_of text x)
      each (place, token) m =
          let (k, at, same) = from_numbered place token tokens 0 m in
          let here : k ≡ place = omega (arith, same) in
          token_suits place token (subst (λ j. slice_get tokens j ≡ Some token) here at)
