-- A text tokenizes in one way, and where it stops is one place.
use Rattle.std.proofs.Common.{◌≡◌, ◌==◌, ℕ, ◌+◌, ◌<◌, refl, sym, ap, ◌∙◌, subst, true, Some, List, [], ◌∷◌, ◌++◌, eq-eqb, arith}
use Rattle.std.proofs.lemmas.Bool.{both_ways}
use Rattle.std.proofs.lemmas.List.{append_cancel_left, append_cancel_right}
use Rattle.tm_lex.specs.declared.token.Token.{Token}
use Rattle.tm_lex.specs.declared.token.TokenKind.{TokenKind}
use Rattle.tm_lex.specs.declared.token.TokenKind.TheVariants.{Word, Lifetime, Number, Punct, Arrow}
use Rattle.tm_lex.specs.Characters.{Stops, bytes_of}
use Rattle.tm_lex.specs.Comments.{IsBody}
use Rattle.tm_lex.specs.Marks.{behind_bodies}
use Rattle.tm_lex.specs.Gaps.{is_white_space, IsGap, white_space, line_comment, block_comment, is_in_line}
use Rattle.tm_lex.specs.Words.{continues_word, IsWord}
use Rattle.tm_lex.specs.Numbers.{number_of, IsDigitRun}
use Rattle.tm_lex.specs.Tokens.{IsToken}
use Rattle.tm_lex.specs.Lexes.{token_at, Lexes, nothing, gap, token}
use Rattle.tm_lex.proofs.CommentLemmas.{body_is_read}
use Rattle.tm_lex.proofs.RunLemmas.{one_run}
use Rattle.tm_lex.proofs.ClassLemmas.{class_of, kind_class, kind_class_least, gap_first, token_first}

-- a character of white space doesn't begin a comment
space_no_slash : (c : ℕ) → is_white_space c ≡ true → c ≡ 47 → ⊥
space_no_slash c h e = both_ways (is_white_space 47) refl (subst (λ x. is_white_space x ≡ true) e h)

first_same : (c d : ℕ) (x y : List ℕ) → c ∷ x ≡ d ∷ y → c ≡ d
first_same c d x y h = cc

second_same : (c d e f : ℕ) (x y : List ℕ) → c ∷ d ∷ x ≡ e ∷ f ∷ y → d ≡ f
second_same c d e f x y h = cc

behind_same : (c d e f : ℕ) (x y : List ℕ) → c ∷ d ∷ x ≡ e ∷ f ∷ y → x ≡ y
behind_same c d e f x y h = cc

one_body : (u v x y : List ℕ) → IsBody u → IsBody v → u ++ x ≡ v ++ y → u ≡ v
one_body u v x y h k e =
    let read : Some x ≡ Some y = sym (body_is_read u 0 x h) ∙ ap (behind_bodies 0) e ∙ body_is_read v 0 y k in
    let same : x ≡ y = cc in append_cancel_right u v y (subst (λ z. u ++ z ≡ v ++ y) same e)

-- one gap begins at a place
pub one_gap : (p q x y : List ℕ) → IsGap p x → IsGap q y → p ++ x ≡ q ++ y → p ≡ q
one_gap p q x y (white_space c e h) (white_space d f k) s =
    let same = first_same c d x y (sym (ap (λ t. t ++ x) e) ∙ s ∙ ap (λ t. t ++ y) f) in e ∙ ap (λ z. z ∷ []) same ∙ sym f
one_gap p q x y (white_space c e h) (line_comment v f k) s =
    absurd (space_no_slash c h (first_same c 47 x (47 ∷ (v ++ y)) (sym (ap (λ t. t ++ x) e) ∙ s ∙ ap (λ t. t ++ y) f)))
one_gap p q x y (white_space c e h) (block_comment v f k) s =
    absurd (space_no_slash c h (first_same c 47 x (42 ∷ (v ++ y)) (sym (ap (λ t. t ++ x) e) ∙ s ∙ ap (λ t. t ++ y) f)))
one_gap p q x y (line_comment u e h) (white_space d f k) s =
    absurd (space_no_slash d k (sym (first_same 47 d (47 ∷ (u ++ x)) y (sym (ap (λ t. t ++ x) e) ∙ s ∙ ap (λ t. t ++ y) f))))
one_gap p q x y (line_comment u e h) (line_comment v f k) s =
    let same = behind_same 47 47 47 47 (u ++ x) (v ++ y) (sym (ap (λ t. t ++ x) e) ∙ s ∙ ap (λ t. t ++ y) f) in
    e ∙ ap (λ t. 47 ∷ 47 ∷ t) (one_run is_in_line u v x y h k same) ∙ sym f
one_gap p q x y (line_comment u e h) (block_comment v f k) s =
    absurd (omega (arith, second_same 47 47 47 42 (u ++ x) (v ++ y) (sym (ap (λ t. t ++ x) e) ∙ s ∙ ap (λ t. t ++ y) f)))
one_gap p q x y (block_comment u e h) (white_space d f k) s =
    absurd (space_no_slash d k (sym (first_same 47 d (42 ∷ (u ++ x)) y (sym (ap (λ t. t ++ x) e) ∙ s ∙ ap (λ t. t ++ y) f))))
one_gap p q x y (block_comment u e h) (line_comment v f k) s =
    absurd (omega (arith, second_same 47 42 47 47 (u ++ x) (v ++ y) (sym (ap (λ t. t ++ x) e) ∙ s ∙ ap (λ t. t ++ y) f)))
one_gap p q x y (block_comment u e h) (block_comment v f k) s =
    let same = behind_same 47 42 47 42 (u ++ x) (v ++ y) (sym (ap (λ t. t ++ x) e) ∙ s ∙ ap (λ t. t ++ y) f) in
    e ∙ ap (λ t. 47 ∷ 42 ∷ t) (one_body u v x y h k same) ∙ sym f

-- two pieces at a place begin with one character
same_class : (p q x y : List ℕ) (c d : ℕ) (u v : List ℕ) → p ≡ c ∷ u → q ≡ d ∷ v → p ++ x ≡ q ++ y → class_of c ≡ class_of d
same_class p q x y c d u v e f s =
    ap class_of (first_same c d (u ++ x) (v ++ y) (sym (ap (λ t. t ++ x) e) ∙ s ∙ ap (λ t. t ++ y) f))

-- not a gap and a token
pub gap_no_token : (kind : TokenKind) (p q x y : List ℕ) → IsGap p x → IsToken kind q y → p ++ x ≡ q ++ y → ⊥
gap_no_token kind p q x y h k s =
    let a = gap_first p x h in let b = token_first kind q y k in
    let same = same_class p q x y a.0 b.0 a.1 b.1 a.2 b.2 s in
    let small : class_of a.0 < 2 = a.3 in let class : class_of b.0 ≡ kind_class kind = b.3 in
    let least = kind_class_least kind in omega arith

one_word : (p q x y : List ℕ) → IsWord p x → IsWord q y → p ++ x ≡ q ++ y → p ≡ q
one_word [] q x y h k s = absurd h
one_word (c ∷ p) [] x y h k s = absurd k
one_word (c ∷ p) (d ∷ q) x y h k s =
    let first = first_same c d (p ++ x) (q ++ y) s in let more : p ++ x ≡ q ++ y = cc in
    let same = one_run continues_word p q x y h.1 k.1 more in ap (λ z. z ∷ p) first ∙ ap (λ t. d ∷ t) same

one_digit_run : (p q x y : List ℕ) → IsDigitRun p x → IsDigitRun q y → p ++ x ≡ q ++ y → p ≡ q
one_digit_run [] q x y h k s = absurd h
one_digit_run (c ∷ p) [] x y h k s = absurd k
one_digit_run (c ∷ p) (d ∷ q) x y h k s = one_run continues_word (c ∷ p) (d ∷ q) x y h.1 k.1 s

stops_at : (c e : ℕ) (x : List ℕ) → Stops (λ d. d == e) (c ∷ x) → c ≡ e → ⊥
stops_at c e x h k = both_ways (c == e) h (eq-eqb c e k)

-- `=` before `>` is no token of its own
equals_no_arrow : (c : ℕ) (x y : List ℕ) → (c ≡ 61 → Stops (λ d. d == 62) x) → c ∷ x ≡ 61 ∷ 62 ∷ y → ⊥
equals_no_arrow c [] y h s = cc
equals_no_arrow c (d ∷ x) y h s = stops_at d 62 x (h (first_same c 61 (d ∷ x) (62 ∷ y) s)) (second_same c d 61 62 x y s)

tokens_same : (j k : TokenKind) (p q x y : List ℕ) → IsToken j p x → IsToken k q y → p ++ x ≡ q ++ y → kind_class j ≡ kind_class k
    → (j ≡ k) × (p ≡ q)
tokens_same Word Word p q x y h k s e = (refl, one_word p q x y h k s)
tokens_same Lifetime Lifetime p q x y h k s e =
    let g : 39 ∷ (h.0 ++ x) ≡ 39 ∷ (k.0 ++ y) = sym (ap (λ t. t ++ x) h.1) ∙ s ∙ ap (λ t. t ++ y) k.1 in
    let more : h.0 ++ x ≡ k.0 ++ y = cc in
    (refl, h.1 ∙ ap (λ t. 39 ∷ t) (one_word h.0 k.0 x y h.2 k.2 more) ∙ sym k.1)
tokens_same (Number m) (Number n) p q x y h k s e =
    let same = one_digit_run p q x y h.0 k.0 s in
    let both : Some m ≡ Some n = sym h.1 ∙ ap number_of same ∙ k.1 in
    let value : m ≡ n = cc in (ap Number value, same)
tokens_same (Punct c) (Punct d) p q x y h k s e =
    let same = first_same c d x y (sym (ap (λ t. t ++ x) h.0) ∙ s ∙ ap (λ t. t ++ y) k.0) in
    (ap Punct same, h.0 ∙ ap (λ z. z ∷ []) same ∙ sym k.0)
tokens_same (Punct c) Arrow p q x y h k s e =
    absurd (equals_no_arrow c x y h.2 (sym (ap (λ t. t ++ x) h.0) ∙ s ∙ ap (λ t. t ++ y) k))
tokens_same Arrow (Punct d) p q x y h k s e =
    absurd (equals_no_arrow d y x k.2 (sym (ap (λ t. t ++ y) k.0) ∙ sym s ∙ ap (λ t. t ++ x) h))
tokens_same Arrow Arrow p q x y h k s e = (refl, h ∙ sym k)
tokens_same _ _ p q x y h k s e = absurd (omega (arith, e))

-- one token begins at a place
pub one_token : (j k : TokenKind) (p q x y : List ℕ) → IsToken j p x → IsToken k q y → p ++ x ≡ q ++ y → (j ≡ k) × (p ≡ q)
one_token j k p q x y h i s =
    let a = token_first j p x h in let b = token_first k q y i in
    tokens_same j k p q x y h i s (sym a.3 ∙ same_class p q x y a.0 b.0 a.1 b.1 a.2 b.2 s ∙ b.3)

-- neither a gap nor a token begins
abbrev pub Halts : List ℕ → Type 0
Halts text =
    ((piece after : List ℕ) → text ≡ piece ++ after → IsGap piece after → ⊥)
    × ((kind : TokenKind) (piece after : List ℕ) → text ≡ piece ++ after → IsToken kind piece after → ⊥)

-- two readings of a text up to where nothing begins are one
pub one_reading : (place : ℕ) (text : List ℕ) (s t : List Token) (x y : List ℕ)
    → Lexes place text s x → Lexes place text t y → Halts x → Halts y → (s ≡ t) × (x ≡ y)
one_reading place text _ _ x y (nothing _ _ _ e) (nothing _ _ _ f) h k = (refl, sym e ∙ f)
one_reading place text _ t x y (nothing _ _ _ e) (gap _ _ p z _ _ f g l) h k = absurd (h.0 p z (sym e ∙ f) g)
one_reading place text _ _ x y (nothing _ _ _ e) (token _ _ p z _ kind t f g l) h k = absurd (h.1 kind p z (sym e ∙ f) g)
one_reading place text s _ x y (gap _ _ p z _ _ f g l) (nothing _ _ _ e) h k = absurd (k.0 p z (sym e ∙ f) g)
one_reading place text _ _ x y (token _ _ p z _ kind s f g l) (nothing _ _ _ e) h k = absurd (k.1 kind p z (sym e ∙ f) g)
one_reading place text s t x y (gap _ _ p z _ _ f g l) (gap _ _ q w _ _ i j m) h k =
    let piece = one_gap p q z w g j (sym f ∙ i) in
    let after : z ≡ w = append_cancel_left q z w (sym (ap (λ u. u ++ z) piece) ∙ sym f ∙ i) in
    one_reading (place + bytes_of p) z s t x y l
    (subst (λ u. Lexes (place + bytes_of u) z t y) (sym piece) (subst (λ u. Lexes (place + bytes_of q) u t y) (sym after) m)) h k
one_reading place text s _ x y (gap _ _ p z _ _ f g l) (token _ _ q w _ kind t i j m) h k =
    absurd (gap_no_token kind p q z w g j (sym f ∙ i))
one_reading place text _ t x y (token _ _ p z _ kind s f g l) (gap _ _ q w _ _ i j m) h k =
    absurd (gap_no_token kind q p w z j g (sym i ∙ f))
one_reading place text _ _ x y (token _ _ p z _ kind s f g l) (token _ _ q w _ other t i j m) h k =
    let both = one_token kind other p q z w g j (sym f ∙ i) in let piece = both.1 in
    let after : z ≡ w = append_cancel_left q z w (sym (ap (λ u. u ++ z) piece) ∙ sym f ∙ i) in
    let more = one_reading (place + bytes_of p) z s t x y l
    (subst (λ u. Lexes (place + bytes_of u) z t y) (sym piece) (subst (λ u. Lexes (place + bytes_of q) u t y) (sym after) m)) h k in (
      ap (λ u. token_at u place (bytes_of p) ∷ s) both.0 ∙ ap (λ u. token_at other place (bytes_of u) ∷ s) piece
          ∙ ap (λ u. token_at other place (bytes_of q) ∷ u) more.0,
      more.1,
    )
