-- The local rules in their order, and what is answered where the first so many are kept.
use Rattle.std.proofs.Common.{◌≡◌, ℕ, zero, suc, ◌+◌, ◌<◌, ◌≤◌, refl, sym, ◌∙◌, ap, inl, inr, Bool, true, false, IsTrue, ◌↔◌, not, List, [], ◌∷◌, take, get_or, Some, slice_get, arith}
use Rattle.std.specs.List.{All}
use Rattle.std.proofs.lemmas.Bool.{both_ways, not-true}
use Rattle.std.proofs.lemmas.List.Elements.{All-append, All-cons, All-nil, All-same}
use Rattle.std.proofs.lemmas.List.{take_all, take_more}
use Rattle.std.proofs.lemmas.Option.{slice_get-get_or}
use Rattle.tm_base.specs.declared.answer.LocalRule.{LocalRule}
use Rattle.tm_base.specs.declared.answer.LocalRule.TheVariants.{MoreUnique, TooBig, Alignment, Interior, Lifetime}
use Rattle.tm_base.specs.declared.assume.Assume.{Assume}
use Rattle.tm_base.specs.declared.definition.RefRow.{RefRow}
use Rattle.tm_base.specs.Compatible.{earlier, IsLocalFault, Keeps, KeepsAll}
use Rattle.tm_base.specs.Parts.{has_interior}
use Rattle.tm_base.specs.Tables.{Tables, pointee_in}

-- all rules, in the order in which they are asked
abbrev pub rules_in_order : List LocalRule
rules_in_order = MoreUnique ∷ TooBig ∷ Alignment ∷ Interior ∷ Lifetime ∷ []

-- before a rule stand those that are asked before it
earlier-take : (i : ℕ) (rule : LocalRule) → slice_get rules_in_order i ≡ Some rule → take i rules_in_order ≡ earlier rule
earlier-take zero rule e = let same : rule ≡ MoreUnique = cc in rw same refl
earlier-take (suc zero) rule e = let same : rule ≡ TooBig = cc in rw same refl
earlier-take (suc (suc zero)) rule e = let same : rule ≡ Alignment = cc in rw same refl
earlier-take (suc (suc (suc zero))) rule e = let same : rule ≡ Interior = cc in rw same refl
earlier-take (suc (suc (suc (suc zero)))) rule e = let same : rule ≡ Lifetime = cc in rw same refl
earlier-take (suc (suc (suc (suc (suc i))))) rule e = cc

module _ (tables : Tables) (assume : Assume) (r t : RefRow) where
  abbrev Kept : LocalRule → Type 0
  Kept = Keeps tables assume r t

  -- the first that isn't kept, where those before it are
  pub fault-at : (i : ℕ) (d : LocalRule) → i < 5 → All Kept (take i rules_in_order) → ¬ Kept (get_or rules_in_order i d) → IsLocalFault tables assume r t (get_or rules_in_order i d)
  fault-at i d below kept broken = record {
    kept = All-same Kept _ _ (sym (earlier-take i (get_or rules_in_order i d) (slice_get-get_or rules_in_order i d below))) kept;
    broken = broken;
  }

  -- one more is kept
  pub kept-more : (i : ℕ) (d : LocalRule) → i < 5 → All Kept (take i rules_in_order) → Kept (get_or rules_in_order i d) → All Kept (take (i + 1) rules_in_order)
  kept-more i d below kept more =
      All-same Kept _ _ (take_more rules_in_order i d below)
      (All-append Kept (take i rules_in_order) (get_or rules_in_order i d ∷ []) kept (All-cons Kept (get_or rules_in_order i d) [] more (All-nil Kept)))

  -- all are kept
  pub kept-all : (i : ℕ) → 5 ≤ i → All Kept (take i rules_in_order) → KeepsAll tables assume r t
  kept-all i past some =
      let kept : All Kept rules_in_order = All-same Kept _ _ (sym (take_all i rules_in_order past)) some in
      record {
        more_unique = kept 0 MoreUnique (omega arith);
        too_big = kept 1 MoreUnique (omega arith);
        alignment = kept 2 MoreUnique (omega arith);
        interior = kept 3 MoreUnique (omega arith);
        lifetime = kept 4 MoreUnique (omega arith);
      }

  -- a shared target, where the source's pointee has no cell
  pub interior-open : (found : Bool) → t.mutable ≡ false → has_interior (pointee_in tables r) ≡ false → found ≡ has_interior (pointee_in tables t) → IsTrue (not found) ↔ Kept Interior
  interior-open found shared none same =
      (λ open'. inr (none, sym same ∙ not-true found open'), λ kept. elim kept [ inl h ↦ absurd (both_ways _ shared h) | inr h ↦ ap not (same ∙ h.1) ])

  -- a shared target, where it has one
  pub interior-shut : (found : Bool) → t.mutable ≡ false → found ≡ true → found ≡ has_interior (pointee_in tables r) → IsTrue (not found) ↔ Kept Interior
  interior-shut found shared some same = (
    λ open'. absurd (both_ways _ (not-true found open') some),
    λ kept. elim kept [ inl h ↦ absurd (both_ways _ shared h) | inr h ↦ absurd (both_ways _ (same ∙ h.0) some) ],
  )
