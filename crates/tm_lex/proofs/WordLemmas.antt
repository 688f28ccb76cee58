-- The bytes of words and lifetimes: those that are ASCII are letters, digits and `_`.
use Rattle.std.proofs.Common.{◌≡◌, ◌==◌, ℕ, ◌<◌, ◌≤◌, refl, sym, ap, ◌∙◌, subst, Bool, true, false, ◌&&◌, ◌||◌, not, List, [], ◌∷◌, ◌++◌, length, append-nil, zero, suc, ◌⊎◌, inl, inr, arith, lit<}
use Rattle.std.specs.Prelude.{nat_le, encode_utf8, slice_index_or}
use Rattle.std.specs.List.{list_all}
use Rattle.std.specs.Str.{encode_utf8_all}
use Rattle.std.proofs.lemmas.Bool.{and_from, and_parts, agree_below_at, not-false, or_right, cases_lt}
use Rattle.std.proofs.lemmas.List.Folds.{list_all-append}
use Rattle.std.proofs.lemmas.List.Sums.{list_all-from_AllPass}
use Rattle.std.proofs.lemmas.Str.{encode_ascii, inside_one}
use Rattle.unicode_ident.proofs.Computing.{unicode_ident}
use Rattle.tm_lex.specs.Tokens.{IsToken}
use Rattle.tm_lex.specs.Words.{begins_word, continues_word, IsWord}
use Rattle.tm_lex.specs.declared.token.TokenKind.TheVariants.{Lifetime}

-- `_`, a digit or a letter of ASCII
abbrev pub is_ascii_word : ℕ → Bool
is_ascii_word c = c == 95 || (nat_le 48 c && nat_le c 57) || (nat_le 65 c && nat_le c 90) || (nat_le 97 c && nat_le c 122)

abbrev is_in_words : ℕ → Bool
is_in_words c = begins_word c || continues_word c

in_ascii : (c : ℕ) → is_in_words c ≡ true → c < 128 → is_ascii_word c ≡ true
unfolding unicode_ident
in_ascii c h l =
    let agree = agree_below_at (λ d. is_in_words d && not (is_ascii_word d)) (λ d. false) 128 c refl l in
    not-false (is_ascii_word c) (subst (λ b. (b && not (is_ascii_word c)) ≡ false) h agree)

begins : (c : ℕ) → begins_word c ≡ true → is_in_words c ≡ true
begins c h = ap (λ b. b || continues_word c) h

continues : (c : ℕ) → continues_word c ≡ true → is_in_words c ≡ true
continues c h = or_right (begins_word c) (continues_word c) h

-- a test that such bytes pass, and all bytes of characters that aren't ASCII
module _ (p : ℕ → Bool) (ascii : (b : ℕ) → is_ascii_word b ≡ true → p b ≡ true) (high : (b : ℕ) → 128 ≤ b → p b ≡ true) where
  byte : (c : ℕ) → is_in_words c ≡ true → (k : ℕ) → (d : ℕ) → k < length (encode_utf8 c) → p (slice_index_or (encode_utf8 c) k d) ≡ true
  byte c h k d l = go (cases_lt (slice_index_or (encode_utf8 c) k 0) 128)
    where
      same : (xs : List ℕ) (k : ℕ) → k < length xs → slice_index_or xs k d ≡ slice_index_or xs k 0
      same [] k l = absurd (omega (arith, l))
      same (x ∷ xs) zero l = refl
      same (x ∷ xs) (suc k) l = same xs k (omega (arith, l))

      go : (slice_index_or (encode_utf8 c) k 0 < 128) ⊎ (128 ≤ slice_index_or (encode_utf8 c) k 0) → p (slice_index_or (encode_utf8 c) k d) ≡ true
      go (inl low) =
          let it : c ≡ slice_index_or (encode_utf8 c) k 0 = inside_one c [] (encode_utf8 c) k (sym (append-nil (encode_utf8 c))) l low in
          subst (λ b. p b ≡ true) (it ∙ sym (same (encode_utf8 c) k l)) (ascii c (in_ascii c h (subst (λ b. b < 128) (sym it) low)))
      go (inr up) = subst (λ b. p b ≡ true) (sym (same (encode_utf8 c) k l)) (high (slice_index_or (encode_utf8 c) k 0) up)

  char : (c : ℕ) → is_in_words c ≡ true → list_all p (encode_utf8 c) ≡ true
  char c h = list_all-from_AllPass p (encode_utf8 c) (λ k d l. byte c h k d l)

  both : (xs ys : List ℕ) → list_all p xs ≡ true → list_all p ys ≡ true → list_all p (xs ++ ys) ≡ true
  both xs ys a b = list_all-append p xs ys ∙ and_from (list_all p xs) (list_all p ys) a b

  run : (cs : List ℕ) → list_all continues_word cs ≡ true → list_all p (encode_utf8_all cs) ≡ true
  run [] h = refl
  run (c ∷ cs) h =
      let parts = and_parts (continues_word c) (list_all continues_word cs) h in
      both (encode_utf8 c) (encode_utf8_all cs) (char c (continues c parts.0)) (run cs parts.1)

  -- so it is with a word, and with a lifetime where its quote passes
  pub word_bytes : (piece rest : List ℕ) → IsWord piece rest → list_all p (encode_utf8_all piece) ≡ true
  word_bytes [] rest h = absurd h
  word_bytes (c ∷ more) rest h = both (encode_utf8 c) (encode_utf8_all more) (char c (begins c h.0)) (run more h.1.0)

  pub lifetime_bytes : (piece rest : List ℕ) → p 39 ≡ true → IsToken Lifetime piece rest → list_all p (encode_utf8_all piece) ≡ true
  lifetime_bytes piece rest quote h =
      ap (λ t. list_all p (encode_utf8_all t)) h.1
      ∙ both (encode_utf8 39) (encode_utf8_all h.0) (ap (list_all p) (encode_ascii 39 (lit< tt)) ∙ and_from (p 39) true quote refl) (word_bytes h.0 rest h.2)
