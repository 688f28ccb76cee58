-- What begins with a character: the first characters of gaps and of the kinds of token are apart.
use Rattle.std.proofs.Common.{◌≡◌, ◌==◌, ℕ, ◌<◌, ◌≤◌, refl, ap, ◌∙◌, subst, Bool, true, false, ◌&&◌, not, if◌then◌else◌, List, [], ◌∷◌, eqb-true, inl, inr, lit≤, arith}
use Rattle.std.specs.Char.{is_ascii_digit}
use Rattle.std.specs.Prelude.{nat_le}
use Rattle.tm_lex.specs.declared.token.TokenKind.{TokenKind}
use Rattle.tm_lex.specs.declared.token.TokenKind.TheVariants.{Word, Lifetime, Number, Punct, Arrow}
use Rattle.std.specs.List.{list_all}
use Rattle.std.proofs.lemmas.Bool.{and_parts, or_cases, agree_below_at, false_from_ne_true, both_ways, leb-true, not-false, not-true}
use Rattle.unicode_ident.proofs.Computing.{unicode_ident}
use Rattle.tm_lex.specs.Characters.{is_among}
use Rattle.tm_lex.specs.Gaps.{white_spaces, is_white_space, IsGap, white_space, line_comment, block_comment}
use Rattle.tm_lex.specs.Words.{begins_word, continues_word}
use Rattle.tm_lex.specs.Tokens.{puncts, is_punct, IsToken}

-- what passes for each of some characters passes for one among them
pub among_passes : (p : ℕ → Bool) (those : List ℕ) (c : ℕ) → list_all p those ≡ true → is_among those c ≡ true → p c ≡ true
among_passes p [] c all h = cc
among_passes p (d ∷ those) c all h =
    let parts = and_parts (p d) (list_all p those) all in
    elim (or_cases (c == d) (is_among those c) h) [
      | inl e ↦ ap p (eqb-true c d e) ∙ parts.0
      | inr t ↦ among_passes p those c parts.1 t
    ]

-- the class of a first character: 0 white space, 1 a comment, 2 a word, 3 a lifetime, 4 a number, 5 a mark, 6 nothing
unfoldable pub class_of : ℕ → ℕ
class_of c =
    if is_white_space c then 0
    else if begins_word c then 2
    else if is_ascii_digit c then 4
    else if c == 47 then 1
    else if c == 39 then 3
    else if is_punct c then 5
    else 6

space_no_word : (c : ℕ) → is_white_space c ≡ true → begins_word c ≡ false
unfolding unicode_ident
space_no_word c h = not-true (begins_word c) (among_passes (λ d. not (begins_word d)) white_spaces c refl h)

space_no_digit : (c : ℕ) → is_white_space c ≡ true → is_ascii_digit c ≡ false
space_no_digit c h = not-true (is_ascii_digit c) (among_passes (λ d. not (is_ascii_digit d)) white_spaces c refl h)

digit_bound : (c : ℕ) → is_ascii_digit c ≡ true → c < 58
digit_bound c h =
    let parts = and_parts (nat_le 48 c) (nat_le c 57) h in let most : c ≤ 57 = leb-true c 57 parts.1 in omega arith

digit_no_word : (c : ℕ) → is_ascii_digit c ≡ true → begins_word c ≡ false
unfolding unicode_ident
digit_no_word c h =
    let agree = agree_below_at (λ d. is_ascii_digit d && begins_word d) (λ d. false) 58 c refl (digit_bound c h) in
    subst (λ b. (b && begins_word c) ≡ false) h agree

pub digit_continues : (c : ℕ) → is_ascii_digit c ≡ true → continues_word c ≡ true
unfolding unicode_ident
digit_continues c h =
    let agree = agree_below_at (λ d. is_ascii_digit d && not (continues_word d)) (λ d. false) 58 c refl (digit_bound c h) in
    not-false (continues_word c) (subst (λ b. (b && not (continues_word c)) ≡ false) h agree)

-- a class where an earlier one doesn't hold
if_not : (b : Bool) (x y : ℕ) → b ≡ false → (if b then x else y) ≡ y
if_not b x y e = ap (λ t. if t then x else y) e

if_so : (b : Bool) (x y : ℕ) → b ≡ true → (if b then x else y) ≡ x
if_so b x y e = ap (λ t. if t then x else y) e

-- a test that is false where another holds doesn't hold where the other is true
apart : (a b : Bool) → (a ≡ true → b ≡ false) → b ≡ true → a ≡ false
apart a b h e = false_from_ne_true a (λ t. both_ways b (h t) e)

pub space_class : (c : ℕ) → is_white_space c ≡ true → class_of c ≡ 0
unfolding class_of
space_class c h = if_so (is_white_space c) _ _ h

pub word_class : (c : ℕ) → begins_word c ≡ true → class_of c ≡ 2
unfolding class_of
word_class c h =
    if_not (is_white_space c) _ _ (apart (is_white_space c) (begins_word c) (space_no_word c) h) ∙ if_so (begins_word c) _ _ h

pub digit_class : (c : ℕ) → is_ascii_digit c ≡ true → class_of c ≡ 4
unfolding class_of
digit_class c h =
    if_not (is_white_space c) _ _ (apart (is_white_space c) (is_ascii_digit c) (space_no_digit c) h)
    ∙ if_not (begins_word c) _ _ (digit_no_word c h) ∙ if_so (is_ascii_digit c) _ _ h

pub slash_class : class_of 47 ≡ 1
unfolding class_of unicode_ident
slash_class = refl

pub quote_class : class_of 39 ≡ 3
unfolding class_of unicode_ident
quote_class = refl

pub punct_class : (c : ℕ) → is_punct c ≡ true → class_of c ≡ 5
unfolding class_of unicode_ident
punct_class c h = eqb-true (class_of c) 5 (among_passes (λ d. class_of d == 5) puncts c refl h)

-- the first character of a gap, and of each kind of token
pub gap_first : (gap rest : List ℕ) → IsGap gap rest → (c : ℕ) × (more : List ℕ) × (gap ≡ c ∷ more) × (class_of c < 2)
gap_first gap rest (white_space c e h) = (c, [], e, let k = space_class c h in omega (arith, k))
gap_first gap rest (line_comment line e h) = (47, 47 ∷ line, e, let k = slash_class in omega (arith, k))
gap_first gap rest (block_comment body e h) = (47, 42 ∷ body, e, let k = slash_class in omega (arith, k))

abbrev pub kind_class : TokenKind → ℕ
kind_class Word = 2
kind_class Lifetime = 3
kind_class (Number value) = 4
kind_class (Punct c) = 5
kind_class Arrow = 5

pub token_first : (kind : TokenKind) (text rest : List ℕ) → IsToken kind text rest
    → (c : ℕ) × (more : List ℕ) × (text ≡ c ∷ more) × (class_of c ≡ kind_class kind)
token_first Word [] rest h = absurd h
token_first Word (c ∷ more) rest h = (c, more, refl, word_class c h.0)
token_first Lifetime text rest h = (39, h.0, h.1, quote_class)
token_first (Number value) [] rest h = absurd h.0
token_first (Number value) (c ∷ more) rest h = (c, more, refl, digit_class c h.0.0)
token_first (Punct c) text rest h = (c, [], h.0, punct_class c h.1)
token_first Arrow text rest h = (61, 62 ∷ [], h, punct_class 61 refl)

pub kind_class_least : (kind : TokenKind) → 2 ≤ kind_class kind
kind_class_least Word = lit≤ tt
kind_class_least Lifetime = lit≤ tt
kind_class_least (Number value) = lit≤ tt
kind_class_least (Punct c) = lit≤ tt
kind_class_least Arrow = lit≤ tt
