-- Words as so many bytes hold them, how far a target goes along with them, and the first local rule that is broken.
use Rattle.std.proofs.Common.{◌≡◌, ℕ, ◌-◌, ◌<◌, ◌≤◌, ◌⊎◌, ◌↔◌, inl, inr, refl, sym, ◌∙◌, ap, subst, min, Bool, true, false, IsTrue, List, ◌++◌, length, take, replicate, arith, rules}
use Rattle.std.proofs.lemmas.Bool.{both_ways, cases_lt}
use Rattle.std.proofs.lemmas.List.{length-take, take-take, take_all}
use Rattle.tm_base.specs.contracts.answer.LocalRule.{the_type}
use Rattle.tm_base.specs.declared.answer.LocalRule.{LocalRule}
use Rattle.tm_base.specs.declared.answer.LocalRule.TheVariants.{MoreUnique, TooBig, Alignment, Interior, Lifetime}
use Rattle.tm_base.specs.declared.ask.Ask.{Ask}
use Rattle.tm_base.specs.declared.assume.Assume.{Assume}
use Rattle.tm_base.specs.declared.cell.Cell.TheVariants.{Uninit}
use Rattle.tm_base.specs.declared.definition.RefRow.{RefRow}
use Rattle.tm_base.specs.Cells.{Word, OrOwn, fit}
use Rattle.tm_base.specs.Compatible.{IsLocalFault, KeepsAll}
use Rattle.tm_base.specs.Expanded.{Expanded}
use Rattle.tm_base.specs.Tables.{Tables}
use Rattle.tm_base.specs.Viable.{Viable}
use Rattle.tm_base.proofs.AnswerLemmas.{IsLocalFault-unique}
use Rattle.tm_base.proofs.ValidLemmas.{Valid-grows}
use Rattle.tm_check.proofs.RunLemmas.{take-told}
use Rattle.tm_refute.proofs.checking.LawLemmas.{keeps-each}
use denote.Enum.Bare.{sameb, same_true}

take-twice : {X : Type 0} (n m : ℕ) (xs : List X) → take n (take m xs) ≡ take (min m n) xs
take-twice n m xs = go (cases_lt m n) where
  go : (m < n) ⊎ (n ≤ m) → take n (take m xs) ≡ take (min m n) xs
  go (inl less) = take_all n (take m xs) (let l = length-take m xs in omega arith) ∙ ap (λ (k : ℕ). take k xs) (omega arith)
  go (inr more) = take-take n m xs more ∙ ap (λ (k : ℕ). take k xs) (omega arith)

-- the first cells of a word, fitted, are the word fitted to fewer bytes
pub fit-front : (n m count : ℕ) (w : Word) → count ≡ min m n → fit w count ≡ take n (fit w m)
fit-front n m count w is =
    let long = length-take m w in
    sym (
    take-told n (m - length w) (take m w)
    ∙ ap (λ u. u ++ replicate (min (m - length w) (n - length (take m w))) Uninit) (take-twice n m w)
    ∙ ap (λ (k : ℕ). take k w ++ replicate (min (m - length w) (n - length (take m w))) Uninit) (sym is)
    ∙ ap (λ (k : ℕ). take count w ++ replicate k Uninit) (let e : min (m - length w) (n - length (take m w)) ≡ count - length w = omega (arith, long) in e))

-- where two relations hold of the same references, a target goes along with the same cells
pub viable-same : (A B : ℕ → ℕ → Type 0) (keep : Bool) (t : Expanded) (prefix : Word) → ((x y : ℕ) → A x y ↔ B x y) → Viable A keep t prefix ↔ Viable B keep t prefix
viable-same A B keep t prefix same = (over A B (λ x y. (same x y).0), over B A (λ x y. (same x y).1)) where
  over : (A B : ℕ → ℕ → Type 0) → ((x y : ℕ) → A x y → B x y) → Viable A keep t prefix → Viable B keep t prefix
  over A B grows (rest, valid) = (rest, Valid-grows (OrOwn A) (OrOwn B) keep keep (λ x y. either x y) (λ h. h) t (prefix ++ rest) valid) where
    either : (x y : ℕ) → OrOwn A x y → OrOwn B x y
    either x y (inl h) = inl (grows x y h)
    either x y (inr own) = inr own

-- ---- local rules

same-itself : (rule : LocalRule) → sameb the_type rule rule ≡ true
same-itself MoreUnique = refl
same-itself TooBig = refl
same-itself Alignment = refl
same-itself Interior = refl
same-itself Lifetime = refl

same-rule : (first rule : LocalRule) → first ≡ rule → sameb the_type first rule ≡ true
same-rule first rule e = subst (λ (other : LocalRule). sameb the_type first other ≡ true) e (same-itself first)

module _ (tables : Tables) (assume : Assume) (rule : LocalRule) where
  -- where all rules are kept, it isn't broken
  pub kept : (r t : RefRow) → KeepsAll tables assume r t → IsTrue false ↔ IsLocalFault tables assume r t rule
  kept r t all = (λ never. absurd (both_ways false refl never), λ fault. absurd (fault.broken (keeps-each tables assume r t all rule)))

  -- where another is broken first, it isn't the first
  pub broken : (first : LocalRule) (same : Bool) → same ≡ sameb the_type first rule → (r t : RefRow) → IsLocalFault tables assume r t first → IsTrue same ↔ IsLocalFault tables assume r t rule
  broken first same is r t fault =
      let ask : Ask = record { src = r.pointee; dst = t.pointee; assume = assume } in (
        λ h. subst (IsLocalFault tables assume r t) (same_true the_type (search rules) first rule (sym is ∙ h)) fault,
        λ other. is ∙ same-rule first rule (IsLocalFault-unique tables ask r t first rule fault other),
      )
