-- Where the tokens of a text stand in it.
use Rattle.std.proofs.Common.{◌≡◌, ℕ, ◌+◌, ◌==◌, ◌<◌, ◌≤◌, zero, suc, inl, inr, if◌then◌else◌, refl, sym, ap, ◌∙◌, List, [], ◌∷◌, ◌++◌, length, append_assoc, arith}
use Rattle.std.specs.Prelude.{All, IfOk, Result, Ok, Err, slice_index_or}
use Rattle.std.specs.Str.{chars, encode_utf8_all, IsUtf8}
use Rattle.std.proofs.lemmas.Bool.{cases_Bool}
use Rattle.std.proofs.lemmas.Str.{encodes-append, encodes-chars, length-le-encodes}
use Rattle.tm_lex.specs.declared.token.Token.{Token}
use Rattle.tm_lex.specs.declared.token.TokenKind.{TokenKind}
use Rattle.tm_lex.specs.Characters.{bytes_of}
use Rattle.tm_lex.specs.Tokens.{IsToken}
use Rattle.tm_lex.specs.Lexes.{Lexes, nothing, gap, token, unmarked, mark_bytes, Tokenizes, IsPieceOf, InOrder}
use Rattle.tm_lex.proofs.ClassLemmas.{token_first}
use Rattle.tm_lex.proofs.LexLemmas.{bytes_of-append, bytes_of-chars, marked}

-- the text, cut behind one more piece
cut : (text before t piece after : List ℕ) → text ≡ encode_utf8_all before ++ encode_utf8_all t → t ≡ piece ++ after
    → text ≡ encode_utf8_all before ++ (encode_utf8_all piece ++ encode_utf8_all after)
cut text before t piece after e f = e ∙ ap (λ x. encode_utf8_all before ++ x) (ap encode_utf8_all f ∙ encodes-append piece after)

cut_behind : (text before t piece after : List ℕ) → text ≡ encode_utf8_all before ++ encode_utf8_all t → t ≡ piece ++ after
    → text ≡ encode_utf8_all (before ++ piece) ++ encode_utf8_all after
cut_behind text before t piece after e f =
    cut text before t piece after e f ∙ sym (append_assoc (encode_utf8_all before) (encode_utf8_all piece) (encode_utf8_all after))
    ∙ ap (λ x. x ++ encode_utf8_all after) (sym (encodes-append before piece))

place_behind : (place : ℕ) (before piece : List ℕ) → place ≡ bytes_of before → place + bytes_of piece ≡ bytes_of (before ++ piece)
place_behind place before piece e = ap (λ n. n + bytes_of piece) e ∙ sym (bytes_of-append before piece)

pieces_of : (text before t : List ℕ) (place : ℕ) (tokens : List Token) (rest : List ℕ)
    → text ≡ encode_utf8_all before ++ encode_utf8_all t → place ≡ bytes_of before → Lexes place t tokens rest
    → (k : ℕ) (d : Token) → k < length tokens → IsPieceOf text (slice_index_or tokens k d)
pieces_of text before t place _ rest e p (nothing _ _ _ f) k d h = absurd (omega arith)
pieces_of text before t place tokens rest e p (gap _ _ piece after _ _ f g l) k d h =
    pieces_of text (before ++ piece) after (place + bytes_of piece) tokens rest (cut_behind text before t piece after e f)
    (place_behind place before piece p) l k d h
pieces_of text before t place _ rest e p (token _ _ piece after _ kind tokens f g l) zero d h = record {
  before = before;
  piece = piece;
  after = after;
  whole = cut text before t piece after e f;
  start = p;
  end = refl;
  kind = g;
}
pieces_of text before t place _ rest e p (token _ _ piece after _ kind tokens f g l) (suc k) d h =
    pieces_of text (before ++ piece) after (place + bytes_of piece) tokens rest (cut_behind text before t piece after e f)
    (place_behind place before piece p) l k d (omega arith)

lower : (p q : ℕ) (tokens : List Token) (last : ℕ) → p ≤ q → InOrder q tokens last → InOrder p tokens last
lower p q [] last h order = omega (arith, order)
lower p q (t ∷ tokens) last h order = let first : q ≤ t.start = order.0 in (omega arith, order.1, order.2)

not_empty : (kind : TokenKind) (piece after : List ℕ) → IsToken kind piece after → 1 ≤ bytes_of piece
not_empty kind piece after h =
    let first = token_first kind piece after h in let whole = ap length first.2 in let most = length-le-encodes piece in omega arith

order_of : (t : List ℕ) (place : ℕ) (tokens : List Token) (rest : List ℕ) (last : ℕ) → place + bytes_of t ≤ last
    → Lexes place t tokens rest → InOrder place tokens last
order_of t place _ rest last h (nothing _ _ _ f) = omega arith
order_of t place tokens rest last h (gap _ _ piece after _ _ f g l) =
    let size = ap bytes_of f ∙ bytes_of-append piece after in
    lower place (place + bytes_of piece) tokens last (omega arith) (order_of after (place + bytes_of piece) tokens rest last (omega arith) l)
order_of t place _ rest last h (token _ _ piece after _ kind tokens f g l) =
    let size = ap bytes_of f ∙ bytes_of-append piece after in let some = not_empty kind piece after g in
    (omega arith, omega arith, order_of after (place + bytes_of piece) tokens rest last (omega arith) l)

-- the mark of a text, and that what it spells stands behind that
mark : (cs : List ℕ) → (m : List ℕ) × (cs ≡ m ++ unmarked cs)
mark [] = ([], refl)
mark (c ∷ cs) = elim (cases_Bool (c == 0xFEFF)) [
  | inl t ↦ (c ∷ [], ap (λ x. c ∷ x) (sym (ap (λ b. if b then cs else c ∷ cs) t)))
  | inr t ↦ ([], sym (ap (λ b. if b then cs else c ∷ cs) t))
]

tokens_are_pieces : (text : List ℕ) (tokens : List Token) → IsUtf8 text → Tokenizes text tokens → All (IsPieceOf text) tokens
tokens_are_pieces text tokens utf8 h k d l =
    let m = mark (chars text) in
    let whole = ap bytes_of m.1 ∙ bytes_of-append m.0 (unmarked (chars text)) in
    let bytes = marked (chars text) in
    pieces_of text m.0 (unmarked (chars text)) (mark_bytes (chars text)) tokens []
    (sym (encodes-chars text utf8) ∙ ap encode_utf8_all m.1 ∙ encodes-append m.0 (unmarked (chars text))) (omega arith) h.lexes k d l

tokens_are_ordered : (text : List ℕ) (tokens : List Token) → IsUtf8 text → Tokenizes text tokens → InOrder 0 tokens (length text)
tokens_are_ordered text tokens utf8 h =
    let bytes = marked (chars text) in let size = bytes_of-chars text utf8 in
    lower 0 (mark_bytes (chars text)) tokens (length text) (omega arith)
    (order_of (unmarked (chars text)) (mark_bytes (chars text)) tokens [] (length text) (omega arith) h.lexes)

pub answers_pieces : {X : Type 0} (text : List ℕ) (view : X → List Token) {E : Type 0} (r : Result X E) → IsUtf8 text
    → IfOk r (λ v. Tokenizes text (view v)) → IfOk r (λ v. All (IsPieceOf text) (view v))
answers_pieces text view (Ok v) utf8 h = tokens_are_pieces text (view v) utf8 h
answers_pieces text view (Err e) utf8 h = tt

pub answers_in_order : {X : Type 0} (text : List ℕ) (view : X → List Token) {E : Type 0} (r : Result X E) → IsUtf8 text
    → IfOk r (λ v. Tokenizes text (view v)) → IfOk r (λ v. InOrder 0 (view v) (length text))
answers_in_order text view (Ok v) utf8 h = tokens_are_ordered text (view v) utf8 h
answers_in_order text view (Err e) utf8 h = tt
