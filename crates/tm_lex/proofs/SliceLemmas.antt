-- The slice of the text between a token's bytes: it is the token's piece, and may be cut out.
use Rattle.std.proofs.Common.{◌≡◌, ℕ, ◌+◌, ◌-◌, sym, ap, ◌∙◌, subst, true, refl, List, [], ◌∷◌, ◌++◌, take, drop, append_assoc, arith}
use Rattle.std.specs.Str.{chars, encode_utf8_all, all_scalars, IsUtf8, IsCharBoundary}
use Rattle.std.proofs.lemmas.Bool.{and_parts}
use Rattle.std.proofs.lemmas.List.{drop_at, take_at}
use Rattle.std.proofs.lemmas.Str.{encodes-append, encodes-chars, encodes_same, scalars-chars, IsCharBoundary-at_seam}
use Rattle.tm_lex.specs.declared.token.Token.{Token}
use Rattle.tm_lex.specs.Characters.{bytes_of}
use Rattle.tm_lex.specs.Lexes.{IsPieceOf}
use Rattle.tm_lex.proofs.LexLemmas.{bytes_of-append}

-- the token's bytes spell its piece
pub slice_of-piece : (text : List ℕ) (token : Token) (p : IsPieceOf text token)
    → take (token.end - token.start) (drop token.start text) ≡ encode_utf8_all p.piece
slice_of-piece text token p =
    let place = p.start in let behind = p.end in
    let size : bytes_of p.piece ≡ token.end - token.start = omega arith in
    ap (λ t. take (token.end - token.start) (drop token.start t)) p.whole
    ∙ ap (take (token.end - token.start)) (drop_at (encode_utf8_all p.before) (encode_utf8_all p.piece ++ encode_utf8_all p.after) token.start (sym place))
    ∙ take_at (encode_utf8_all p.piece) (encode_utf8_all p.after) (token.end - token.start) size

scalars_behind : (cs ds : List ℕ) → all_scalars (cs ++ ds) ≡ true → all_scalars ds ≡ true
scalars_behind [] ds h = h
scalars_behind (c ∷ cs) ds h = scalars_behind cs ds (and_parts _ (all_scalars (cs ++ ds)) h).1

-- a text may be cut between its characters
boundary : (text cs ds : List ℕ) → IsUtf8 text → text ≡ encode_utf8_all (cs ++ ds) → IsCharBoundary text (bytes_of cs)
boundary text cs ds utf8 e =
    let same : chars text ≡ cs ++ ds = encodes_same (chars text) (cs ++ ds) (encodes-chars text utf8 ∙ e) in
    let scalars : all_scalars ds ≡ true = scalars_behind cs ds (ap all_scalars (sym same) ∙ scalars-chars text utf8) in
    IsCharBoundary-at_seam text (encode_utf8_all cs) (encode_utf8_all ds) (e ∙ encodes-append cs ds) (ds, (scalars, refl))

spelled : (text : List ℕ) (token : Token) (p : IsPieceOf text token) → text ≡ encode_utf8_all (p.before ++ (p.piece ++ p.after))
spelled text token p =
    p.whole ∙ sym (encodes-append p.before (p.piece ++ p.after) ∙ ap (λ t. encode_utf8_all p.before ++ t) (encodes-append p.piece p.after))

pub start_is_boundary : (text : List ℕ) (token : Token) → IsUtf8 text → IsPieceOf text token → IsCharBoundary text token.start
start_is_boundary text token utf8 p =
    subst (IsCharBoundary text) (sym p.start) (boundary text p.before (p.piece ++ p.after) utf8 (spelled text token p))

pub end_is_boundary : (text : List ℕ) (token : Token) → IsUtf8 text → IsPieceOf text token → IsCharBoundary text token.end
end_is_boundary text token utf8 p =
    subst (IsCharBoundary text) (sum ∙ sym p.end)
    (boundary text (p.before ++ p.piece) p.after utf8
    (spelled text token p ∙ ap encode_utf8_all (sym (append_assoc p.before p.piece p.after))))
  where
    sum : bytes_of (p.before ++ p.piece) ≡ token.start + bytes_of p.piece
    sum = bytes_of-append p.before p.piece ∙ ap (λ n. n + bytes_of p.piece) (sym p.start)
