-- Which of its own parameters each definition holds is found in turns.
use Rattle.std.proofs.Common.{◌≡◌, ℕ, zero, suc, ◌+◌, ◌<◌, refl, sym, ap, ◌∙◌, subst, arith, inl, inr, ⊎_elim, Bool, true, false, ◌||◌, List, [], ◌∷◌, length, map}
use Rattle.std.specs.Prelude.{slice_get, Some, ◌==◌}
use Rattle.std.specs.List.{filter_map, range_with_len}
use Rattle.std.proofs.lemmas.Bool.{cases_Bool, false≢true, or_cases}
use Rattle.std.proofs.lemmas.Bool.Decides.{nat_tests}
use Rattle.std.proofs.lemmas.Option.{none-some, same_Some, slice_get_within}
use Rattle.tm_names.proofs.holding_laws.HoldingLemmas.{decl_stands, held_within, kept}
use Rattle.tm_names.proofs.Members.{Member, from_filter_map, into_filter_map}
use Rattle.tm_names.proofs.holding_laws.NewsLemmas.{length_joined, row_at_joined, settled}
use Rattle.tm_names.proofs.holding_laws.RowLemmas.{bit_within, length_map, next_bit, next_length, row_of_map, row_within, some_at}
use Rattle.tm_names.specs.declared.meaning.Meaning.{Meaning}
use Rattle.tm_names.specs.declared.meaning.Meaning.TheVariants.{Definition, Parameter}
use Rattle.tm_names.specs.Closures.{TellsOwn, joined_rows, next_row}
use Rattle.tm_names.specs.Held.{bit_at, decl_held, flags_of, have_news, is_number_among, no_flags, parameter_flags, parameter_number, row_at}
use Rattle.tm_names.specs.Holding.{Holds}
use Rattle.tm_parse.specs.declared.parsed.Decl.{Decl}

same_number : (a b : ℕ) → (a == b) ≡ true → a ≡ b
same_number a b h = grind (arith, nat_tests)

itself : (a : ℕ) → (a == a) ≡ true
itself a = grind (arith, nat_tests)

pub from_among : (numbers : List ℕ) (n : ℕ) → is_number_among numbers n ≡ true → Member n numbers
from_among [] n h = absurd (false≢true h)
from_among (x ∷ xs) n h =
    ⊎_elim (λ t. inl (same_number x n t)) (λ t. inr (from_among xs n (sym (ap (λ b. b || is_number_among xs n) t) ∙ h))) (cases_Bool (x == n))

pub into_among : (numbers : List ℕ) (n : ℕ) → Member n numbers → is_number_among numbers n ≡ true
into_among [] n m = absurd m
into_among (x ∷ xs) n m =
    ⊎_elim (λ e. ap (λ b. b || is_number_among xs n) (ap (λ k. k == n) e ∙ itself n))
    (λ r. ⊎_elim (λ t. ap (λ b. b || is_number_among xs n) t) (λ t. ap (λ b. b || is_number_among xs n) t ∙ into_among xs n r) (cases_Bool (x == n))) m

range_length : (f : ℕ → Bool) (from n : ℕ) → length (map f (range_with_len from n)) ≡ n
range_length f from zero = refl
range_length f from (suc n) = ap (λ k. suc k) (range_length f (from + 1) n)

range_bit : (f : ℕ → Bool) (from n j k : ℕ) → j < n → k ≡ from + j → bit_at (map f (range_with_len from n)) j ≡ f k
range_bit f from zero j k h e = absurd (omega (arith, h))
range_bit f from (suc n) zero k h e = let same : from ≡ k = omega (arith, e) in ap f same
range_bit f from (suc n) (suc j) k h e = range_bit f (from + 1) n j k (omega (arith, h)) (omega (arith, e))

-- flags tell which numbers are among these
pub flags_length : (numbers : List ℕ) (size : ℕ) → length (flags_of numbers size) ≡ size
flags_length numbers size = range_length (is_number_among numbers) 0 size

pub flags_within : (numbers : List ℕ) (size j : ℕ) → bit_at (flags_of numbers size) j ≡ true → j < size
flags_within numbers size j t = let h = bit_within (flags_of numbers size) j t in let l = flags_length numbers size in omega (arith, h, l)

pub from_flags : (numbers : List ℕ) (size j : ℕ) → bit_at (flags_of numbers size) j ≡ true → Member j numbers
from_flags numbers size j t =
    from_among numbers j (sym (range_bit (is_number_among numbers) 0 size j j (flags_within numbers size j t) (omega arith)) ∙ t)

pub into_flags : (numbers : List ℕ) (size j : ℕ) → j < size → Member j numbers → bit_at (flags_of numbers size) j ≡ true
into_flags numbers size j l m = range_bit (is_number_among numbers) 0 size j j l (omega arith) ∙ into_among numbers j m

parameter_is : (x : Meaning) (k : ℕ) → parameter_number x ≡ Some k → x ≡ Parameter k
parameter_is (Definition n) k e = absurd (none-some k e)
parameter_is (Parameter n) k e = ap Parameter (same_Some n k e)

module _ (name : ℕ → List ℕ) (decls : List Decl) where
  abbrev found_in : List (List Bool) → List (List Bool)
  found_in own = map (parameter_flags name decls own) decls

  -- each definition has a row, with a flag for each of its parameters, and what the flags say is so
  pub record IsPartOfOwn (own : List (List Bool)) : Type 0 where
    pub high : length own ≡ length decls
    pub wide : (i : ℕ) (d : Decl) → slice_get decls i ≡ Some d → length (row_at own i) ≡ length d.type_params
    pub sound : (i k : ℕ) → bit_at (row_at own i) k ≡ true → Holds name decls i (Parameter k)

  pub starts : IsPartOfOwn (map no_flags decls)
  starts = record {
    high = length_map no_flags decls;
    wide = λ i d at. ap length (row_of_map no_flags decls i d at) ∙ flags_length [] (length d.type_params);
    sound = λ i k t. let l = row_within (map no_flags decls) i k t in let n = length_map no_flags decls in
        let (d, at) = some_at decls i (omega (arith, l, n)) in
        absurd (from_flags [] (length d.type_params) k (subst (λ row. bit_at row k ≡ true) (row_of_map no_flags decls i d at) t));
  }

  module _ (own : List (List Bool)) (part : IsPartOfOwn own) where
    found_at : (i : ℕ) (d : Decl) → slice_get decls i ≡ Some d → row_at (found_in own) i ≡ parameter_flags name decls own d
    found_at i d at = row_of_map (parameter_flags name decls own) decls i d at

    found_holds : (i k : ℕ) (d : Decl) → slice_get decls i ≡ Some d → bit_at (row_at (found_in own) i) k ≡ true → Holds name decls i (Parameter k)
    found_holds i k d at t =
        let m = from_flags (filter_map parameter_number (decl_held name decls own d)) (length d.type_params) k (subst (λ row. bit_at row k ≡ true) (found_at i d at) t) in
        let (x, among, number) = from_filter_map parameter_number k (decl_held name decls own d) m in
        decl_stands name decls own part.sound i d (Parameter k) at (subst (λ y. Member y (decl_held name decls own d)) (parameter_is x k number) among)

    joined_at : (i : ℕ) → i < length decls → row_at (joined_rows own (found_in own)) i ≡ next_row true (row_at own i) (row_at (found_in own) i)
    joined_at i l = row_at_joined (found_in own) 0 own i i (let h = part.high in omega (arith, l, h)) (omega arith)

    pub goes_on : IsPartOfOwn (joined_rows own (found_in own))
    goes_on = record {
      high = length_joined (found_in own) 0 own ∙ part.high;
      wide = λ i d at. ap length (joined_at i (slice_get_within decls i d at)) ∙ (next_length true (row_at (found_in own) i) 0 (row_at own i) ∙ part.wide i d at);
      sound = λ i k t.
          let l = row_within (joined_rows own (found_in own)) i k t in let n = length_joined (found_in own) 0 own in let h = part.high in
          let (d, at) = some_at decls i (omega (arith, l, n, h)) in
          let here = subst (λ row. bit_at row k ≡ true) (joined_at i (slice_get_within decls i d at)) t in
          let w = bit_within _ k here in let g = next_length true (row_at (found_in own) i) 0 (row_at own i) in
          ⊎_elim (part.sound i k) (found_holds i k d at)
          (or_cases (bit_at (row_at own i) k) (bit_at (row_at (found_in own) i) k)
          (sym (next_bit true (row_at (found_in own) i) 0 (row_at own i) k k (omega (arith, w, g)) (omega arith)) ∙ here));
    }

    -- where nothing new is found, they tell all
    module _ (nothing : have_news own (found_in own) ≡ false) where
      closed : (i k : ℕ) (d : Decl) → slice_get decls i ≡ Some d → Member (Parameter k) (decl_held name decls own d) → bit_at (row_at own i) k ≡ true
      closed i k d at m =
          let l = slice_get_within decls i d at in let h = part.high in let w = part.wide i d at in
          let inside = held_within name decls own part.sound d (Parameter k) m in
          settled (found_in own) own nothing i k (omega (arith, l, h)) (omega (arith, inside, w))
          (ap (λ row. bit_at row k) (found_at i d at)
          ∙ into_flags (filter_map parameter_number (decl_held name decls own d)) (length d.type_params) k inside
          (into_filter_map parameter_number k (Parameter k) (decl_held name decls own d) m refl))

      pub tells_own : TellsOwn name decls own
      tells_own = record { sound = part.sound; whole = λ i k h. kept name decls own closed i (Parameter k) h }
