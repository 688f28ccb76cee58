-- Where nothing begins: a comment that isn't closed, a `'` without a word, a run that spells no number,
-- and a character that begins nothing.
use Rattle.std.proofs.Common.{◌≡◌, ◌==◌, ◌≢◌, ◌&&◌, ℕ, ◌<◌, ◌≤◌, refl, sym, ap, ◌∙◌, subst, true, false, Some, None, List, [], ◌∷◌, ◌++◌, if◌then◌else◌, inl, inr, eq-eqb, eqb-true, arith}
use Rattle.std.specs.Char.{is_ascii_digit}
use Rattle.std.proofs.lemmas.Bool.{both_ways, ne_eqb, cases_Bool, and_right}
use Rattle.unicode_ident.proofs.Computing.{unicode_ident}
use Rattle.tm_lex.specs.declared.fault.LexWhy.{LexWhy}
use Rattle.tm_lex.specs.declared.fault.LexWhy.TheVariants.{NoToken, BadNumber, OpenComment}
use Rattle.tm_lex.specs.declared.token.TokenKind.{TokenKind}
use Rattle.tm_lex.specs.declared.token.TokenKind.TheVariants.{Word, Lifetime, Number, Punct, Arrow}
use Rattle.tm_lex.specs.Characters.{IsRun, Stops, run_of}
use Rattle.tm_lex.specs.Comments.{begins_block}
use Rattle.tm_lex.specs.Marks.{behind_bodies}
use Rattle.tm_lex.specs.Gaps.{is_white_space, IsGap, white_space, line_comment, block_comment}
use Rattle.tm_lex.specs.Words.{begins_word, continues_word, IsWord}
use Rattle.tm_lex.specs.Numbers.{number_of}
use Rattle.tm_lex.specs.Tokens.{is_punct, IsToken}
use Rattle.tm_lex.specs.Lexes.{NothingBegins, why_nothing}
use Rattle.tm_lex.specs.Pieces.{BeginsWithDigit, BeginsNothing}
use Rattle.tm_lex.proofs.CommentLemmas.{body_is_read}
use Rattle.tm_lex.proofs.RunLemmas.{run_of-run}
use Rattle.tm_lex.proofs.ClassLemmas.{class_of, kind_class, kind_class_least, gap_first, token_first, slash_class, quote_class, digit_class}

-- a fault of this kind stands here
abbrev pub FaultHere : LexWhy → List ℕ → Type 0
FaultHere why text = (text ≢ []) × NothingBegins text × (why ≡ why_nothing text)

same_first : (c d : ℕ) (text piece after more rest : List ℕ) → text ≡ c ∷ rest → text ≡ piece ++ after → piece ≡ d ∷ more → c ≡ d
same_first c d text piece after more rest e f g = let h : c ∷ rest ≡ d ∷ (more ++ after) = sym e ∙ f ∙ ap (λ p. p ++ after) g in cc

second_same : (c d e f : ℕ) (x y : List ℕ) → c ∷ d ∷ x ≡ e ∷ f ∷ y → d ≡ f
second_same c d e f x y h = cc

-- no gap begins with a character of a later class, and no token but those of its class
no_gap_at : (c : ℕ) (text rest : List ℕ) → text ≡ c ∷ rest → 2 ≤ class_of c
    → (piece after : List ℕ) → text ≡ piece ++ after → IsGap piece after → ⊥
no_gap_at c text rest e least piece after f gap =
    let first = gap_first piece after gap in
    let same : class_of c ≡ class_of first.0 = ap class_of (same_first c first.0 text piece after first.1 rest e f first.2) in
    let small : class_of first.0 < 2 = first.3 in omega arith

kind_at : (c : ℕ) (text rest : List ℕ) → text ≡ c ∷ rest
    → (kind : TokenKind) (piece after : List ℕ) → text ≡ piece ++ after → IsToken kind piece after → class_of c ≡ kind_class kind
kind_at c text rest e kind piece after f token =
    let first = token_first kind piece after token in
    ap class_of (same_first c first.0 text piece after first.1 rest e f first.2) ∙ first.3

pub open_comment : (rest : List ℕ) → behind_bodies 0 rest ≡ None → FaultHere OpenComment (47 ∷ 42 ∷ rest)
open_comment rest h = (λ e. cc, record { no_gap = no_gap; no_token = no_token }, refl)
  where
    no_gap : (piece after : List ℕ) → 47 ∷ 42 ∷ rest ≡ piece ++ after → IsGap piece after → ⊥
    no_gap piece after f (white_space c e k) =
        let g : 47 ∷ 42 ∷ rest ≡ c ∷ after = f ∙ ap (λ p. p ++ after) e in
        let same : 47 ≡ c = cc in both_ways (is_white_space 47) refl (subst (λ x. is_white_space x ≡ true) (sym same) k)
    no_gap piece after f (line_comment line e k) =
        let g : 47 ∷ 42 ∷ rest ≡ 47 ∷ 47 ∷ (line ++ after) = f ∙ ap (λ p. p ++ after) e in
        omega (arith, second_same 47 42 47 47 rest (line ++ after) g)
    no_gap piece after f (block_comment body e k) =
        let g : 47 ∷ 42 ∷ rest ≡ 47 ∷ 42 ∷ (body ++ after) = f ∙ ap (λ p. p ++ after) e in
        let same : rest ≡ body ++ after = cc in
        let read : None ≡ Some after = sym h ∙ ap (behind_bodies 0) same ∙ body_is_read body 0 after k in cc

    no_token : (kind : TokenKind) (piece after : List ℕ) → 47 ∷ 42 ∷ rest ≡ piece ++ after → IsToken kind piece after → ⊥
    no_token kind piece after f token =
        let class = kind_at 47 (47 ∷ 42 ∷ rest) (42 ∷ rest) refl kind piece after f token in
        let least = kind_class_least kind in let one = slash_class in omega arith

-- why nothing begins with a character that is neither a digit nor a `/` before a `*`
no_token_why : (c : ℕ) (more : List ℕ) → is_ascii_digit c ≡ false → begins_block c more ≡ false → NoToken ≡ why_nothing (c ∷ more)
no_token_why c more x y = sym (ap (λ b. if b then BadNumber else if begins_block c more then OpenComment else NoToken) x
    ∙ ap (λ b. if b then OpenComment else NoToken) y)

block_needs_slash : (c : ℕ) (more : List ℕ) → (c ≡ 47 → ⊥) → begins_block c more ≡ false
block_needs_slash c [] h = refl
block_needs_slash c (d ∷ more) h = ap (λ b. b && (d == 42)) (ne_eqb c 47 h)

-- a `'` with no word behind it
lone_quote : (rest : List ℕ) → Stops begins_word rest → FaultHere NoToken (39 ∷ rest)
lone_quote rest h = (λ e. cc, record { no_gap = no_gap; no_token = no_token }, no_token_why 39 rest refl (block_needs_slash 39 rest (λ e. omega (arith, e))))
  where
    no_gap : (piece after : List ℕ) → 39 ∷ rest ≡ piece ++ after → IsGap piece after → ⊥
    no_gap = let three = quote_class in let least : 2 ≤ class_of 39 = omega arith in no_gap_at 39 (39 ∷ rest) rest refl least

    no_word : (word after rest : List ℕ) → rest ≡ word ++ after → IsWord word after → Stops begins_word rest → ⊥
    no_word [] after rest e w s = w
    no_word (c ∷ word) after [] e w s = cc
    no_word (c ∷ word) after (d ∷ rest) e w s = let same : d ≡ c = cc in both_ways (begins_word c) (subst (λ x. begins_word x ≡ false) same s) w.0

    by_kind : (kind : TokenKind) (piece after : List ℕ) → 39 ∷ rest ≡ piece ++ after → IsToken kind piece after → 3 ≡ kind_class kind → ⊥
    by_kind Lifetime piece after f token class =
        let g : 39 ∷ rest ≡ 39 ∷ (token.0 ++ after) = f ∙ ap (λ p. p ++ after) token.1 in
        no_word token.0 after rest (let t : rest ≡ token.0 ++ after = cc in t) token.2 h
    by_kind Word piece after f token class = omega arith
    by_kind (Number value) piece after f token class = omega arith
    by_kind (Punct c) piece after f token class = omega arith
    by_kind Arrow piece after f token class = omega arith

    no_token : (kind : TokenKind) (piece after : List ℕ) → 39 ∷ rest ≡ piece ++ after → IsToken kind piece after → ⊥
    no_token kind piece after f token =
        by_kind kind piece after f token (sym quote_class ∙ kind_at 39 (39 ∷ rest) rest refl kind piece after f token)

pub quote_at_end : (rest : List ℕ) → rest ≡ [] → FaultHere NoToken (39 ∷ rest)
quote_at_end rest e = lone_quote rest (subst (Stops begins_word) (sym e) tt)

pub quote_before : (rest more : List ℕ) (c : ℕ) → rest ≡ c ∷ more → begins_word c ≡ false → FaultHere NoToken (39 ∷ rest)
quote_before rest more c e h = lone_quote rest (subst (Stops begins_word) (sym e) h)

-- a run at a digit that spells no number
pub bad_number : (text : List ℕ) → BeginsWithDigit text → number_of (run_of continues_word text) ≡ None → FaultHere BadNumber text
bad_number [] digit none = absurd digit
bad_number (c ∷ more) digit none =
    (λ e. cc, record { no_gap = no_gap; no_token = no_token }, sym (ap (λ b. if b then BadNumber else if begins_block c more then OpenComment else NoToken) digit))
  where
    four : class_of c ≡ 4
    four = digit_class c digit

    no_gap : (piece after : List ℕ) → c ∷ more ≡ piece ++ after → IsGap piece after → ⊥
    no_gap = let class = four in let least : 2 ≤ class_of c = omega arith in no_gap_at c (c ∷ more) more refl least

    no_run : (piece after : List ℕ) (value : ℕ) → c ∷ more ≡ piece ++ after → IsRun continues_word piece after → number_of piece ≡ Some value → ⊥
    no_run piece after value f run n =
        let same = ap (run_of continues_word) f ∙ run_of-run continues_word piece after run in
        let both : None ≡ Some value = sym none ∙ ap number_of same ∙ n in cc

    by_kind : (kind : TokenKind) (piece after : List ℕ) → c ∷ more ≡ piece ++ after → IsToken kind piece after → 4 ≡ kind_class kind → ⊥
    by_kind (Number value) [] after f token class = token.0
    by_kind (Number value) (d ∷ piece) after f token class = no_run (d ∷ piece) after value f token.0.1 token.1
    by_kind Lifetime piece after f token class = omega arith
    by_kind Word piece after f token class = omega arith
    by_kind (Punct c) piece after f token class = omega arith
    by_kind Arrow piece after f token class = omega arith

    no_token : (kind : TokenKind) (piece after : List ℕ) → c ∷ more ≡ piece ++ after → IsToken kind piece after → ⊥
    no_token kind piece after f token =
        by_kind kind piece after f token (sym four ∙ kind_at c (c ∷ more) more refl kind piece after f token)

-- a character that begins nothing
pub nothing_here : (text : List ℕ) (c : ℕ) (more : List ℕ) → text ≡ c ∷ more → BeginsNothing c more → FaultHere NoToken text
nothing_here text c more same h = (
  λ e. let f : c ∷ more ≡ [] = sym same ∙ e in cc,
  record { no_gap = no_gap; no_token = no_token },
  no_token_why c more h.no_digit (no_block more h.no_block) ∙ ap why_nothing (sym same),
)
  where
    no_block : (more : List ℕ) → (c ≡ 47 → Stops (λ d. d == 42) more) → begins_block c more ≡ false
    no_block [] k = refl
    no_block (d ∷ more) k = elim (cases_Bool (c == 47)) [
      | inl t ↦ ap (λ b. (c == 47) && b) (k (eqb-true c 47 t)) ∙ and_right (c == 47) false refl
      | inr t ↦ ap (λ b. b && (d == 42)) t
    ]

    stops : (e : ℕ) (x y : List ℕ) → Stops (λ d. d == e) x → x ≡ e ∷ y → ⊥
    stops e [] y k f = cc
    stops e (d ∷ x) y k f = both_ways (d == e) k (eq-eqb d e (let same : d ≡ e = cc in same))

    here : (piece after : List ℕ) → text ≡ piece ++ after → c ∷ more ≡ piece ++ after
    here piece after f = sym same ∙ f

    no_gap : (piece after : List ℕ) → text ≡ piece ++ after → IsGap piece after → ⊥
    no_gap piece after f (white_space d e k) =
        let g : c ∷ more ≡ d ∷ after = here piece after f ∙ ap (λ p. p ++ after) e in
        let same : c ≡ d = cc in both_ways (is_white_space d) (subst (λ x. is_white_space x ≡ false) same h.no_space) k
    no_gap piece after f (line_comment line e k) =
        let g : c ∷ more ≡ 47 ∷ 47 ∷ (line ++ after) = here piece after f ∙ ap (λ p. p ++ after) e in
        let first : c ≡ 47 = cc in let behind : more ≡ 47 ∷ (line ++ after) = cc in
        stops 47 more (line ++ after) (h.no_line first) behind
    no_gap piece after f (block_comment body e k) =
        let g : c ∷ more ≡ 47 ∷ 42 ∷ (body ++ after) = here piece after f ∙ ap (λ p. p ++ after) e in
        let first : c ≡ 47 = cc in let behind : more ≡ 42 ∷ (body ++ after) = cc in
        stops 42 more (body ++ after) (h.no_block first) behind

    no_token : (kind : TokenKind) (piece after : List ℕ) → text ≡ piece ++ after → IsToken kind piece after → ⊥
    no_token Word [] after f token = token
    no_token Word (d ∷ piece) after f token =
        let g = here (d ∷ piece) after f in let same : c ≡ d = cc in
        both_ways (begins_word d) (subst (λ x. begins_word x ≡ false) same h.no_word) token.0
    no_token Lifetime piece after f token =
        let g : c ∷ more ≡ 39 ∷ (token.0 ++ after) = here piece after f ∙ ap (λ p. p ++ after) token.1 in
        h.no_quote (let first : c ≡ 39 = cc in first)
    no_token (Number value) [] after f token = token.0
    no_token (Number value) (d ∷ piece) after f token =
        let g = here (d ∷ piece) after f in let same : c ≡ d = cc in
        both_ways (is_ascii_digit d) (subst (λ x. is_ascii_digit x ≡ false) same h.no_digit) token.0.0
    no_token (Punct d) piece after f token =
        let g : c ∷ more ≡ d ∷ after = here piece after f ∙ ap (λ p. p ++ after) token.0 in
        let same : c ≡ d = cc in both_ways (is_punct d) (subst (λ x. is_punct x ≡ false) same h.no_punct) token.1
    no_token Arrow piece after f token =
        let g : c ∷ more ≡ 61 ∷ 62 ∷ after = here piece after f ∙ ap (λ p. p ++ after) token in
        let same : c ≡ 61 = cc in both_ways (is_punct 61) (subst (λ x. is_punct x ≡ false) same h.no_punct) refl

-- a `/` before neither `/` nor `*`
abbrev pub SomeNothing : List ℕ → Type 0
SomeNothing text = (c : ℕ) × (more : List ℕ) × (text ≡ c ∷ more) × BeginsNothing c more

lone_slash : (more : List ℕ) → Stops (λ d. d == 47) more → Stops (λ d. d == 42) more → SomeNothing (47 ∷ more)
unfolding unicode_ident
lone_slash more line block = (
  47,
  more,
  refl,
  record {
    no_space = refl;
    no_word = refl;
    no_digit = refl;
    no_quote = λ e. omega (arith, e);
    no_punct = refl;
    no_line = λ _. line;
    no_block = λ _. block;
  },
)

pub slash_at_end : (more : List ℕ) → more ≡ [] → SomeNothing (47 ∷ more)
slash_at_end more e = lone_slash more (subst (Stops (λ d. d == 47)) (sym e) tt) (subst (Stops (λ d. d == 42)) (sym e) tt)

pub slash_before : (more rest : List ℕ) (d : ℕ) → more ≡ d ∷ rest → (d ≡ 47 → ⊥) → (d ≡ 42 → ⊥) → SomeNothing (47 ∷ more)
slash_before more rest d e line block = lone_slash more
    (subst (Stops (λ d. d == 47)) (sym e) (ne_eqb d 47 line)) (subst (Stops (λ d. d == 42)) (sym e) (ne_eqb d 42 block))
