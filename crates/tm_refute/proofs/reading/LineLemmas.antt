-- Lines, and texts that are compared.
use Rattle.std.proofs.Common.{◌≡◌, ℕ, refl, sym, ◌∙◌, ap, subst, Bool, true, false, nat_eq, List, [], ◌∷◌, ◌++◌, arith, append-nil}
use Rattle.std.specs.Prelude.{codes}
use Rattle.std.specs.Cmp.Lexicographic.{pointwise}
use Rattle.std.specs.List.{list_all}
use Rattle.std.proofs.lemmas.Bool.{and_parts}
use Rattle.std.proofs.lemmas.Bool.Decides.{Decides-eqb, nat_tests}
use Rattle.std.proofs.lemmas.List.Folds.{list_all-append}
use Rattle.std.proofs.lemmas.Slice.Eq.{slice_eq-Decides}
use Rattle.tm_refute.specs.Taken.{Stops, but}

-- where all bytes up to the end are no ends of lines, no line is ended
pub no-line : (before line after : List ℕ) → before ≡ line ++ after → list_all (but 10) line ≡ true → Stops (but 10) after → ((rest : List ℕ) → after ≡ codes "\n" ++ rest → ⊥) → (text others : List ℕ) → before ≡ text ++ (10 ∷ others) → ⊥
no-line before line after e all stops none text others f = go after refl where
  go : (xs : List ℕ) → after ≡ xs → ⊥
  go [] g =
      let whole : list_all (but 10) (text ++ (10 ∷ others)) ≡ true = ap (list_all (but 10)) (sym f ∙ e ∙ ap (λ (ys : List ℕ). line ++ ys) g ∙ append-nil line) ∙ all in
      let parts : (list_all (but 10) text ≡ true) × (list_all (but 10) (10 ∷ others) ≡ true) = and_parts (list_all (but 10) text) (list_all (but 10) (10 ∷ others)) (sym (list_all-append (but 10) text (10 ∷ others)) ∙ whole) in
      let never = parts.1 in cc
  go (x ∷ xs) g =
      let stop : but 10 x ≡ false = subst (Stops (but 10)) g stops in
      let end : x ≡ 10 = grind (arith, nat_tests, stop) in
      none xs (g ∙ ap (λ (c : ℕ). c ∷ xs) end)

pub same-text : (text other : List ℕ) (same : Bool) → same ≡ true → same ≡ pointwise nat_eq text other → text ≡ other
same-text text other same so is = (slice_eq-Decides Decides-eqb text other same is).0 so

pub not-text : (text other : List ℕ) (same : Bool) → same ≡ false → same ≡ pointwise nat_eq text other → text ≡ other → ⊥
not-text text other same never_so is e =
    let never : false ≡ true = sym never_so ∙ (slice_eq-Decides Decides-eqb text other same is).1 e in cc
