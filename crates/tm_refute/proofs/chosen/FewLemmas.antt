-- The refutation of a question has no more entries than there are pairs of references, since no pair has two.
use Rattle.std.proofs.Common.{◌≡◌, ◌+◌, ◌≤◌, inl, inr, sym, ◌∙◌, ap, subst, true, IsTrue, List, [], ◌∷◌, length, arith}
use Rattle.std.specs.List.{All, Contains}
use Rattle.std.proofs.lemmas.List.Elements.{All-contains, All-head, All-tail}
use Rattle.tm_base.specs.declared.ask.Ask.{Ask}
use Rattle.tm_base.specs.declared.world.World.{World}
use Rattle.tm_base.specs.Tables.{Tables}
use Rattle.tm_base.specs.Worlds.{tables_of}
use Rattle.tm_laws.proofs.known.ListedLemmas.{IsIn, IsIn-from_Contains}
use Rattle.tm_refs.specs.declared.pair.Pair.{Pair}
use Rattle.tm_refs.specs.Looks.{all_pairs, pair_of}
use Rattle.tm_refs.proofs.CostLemmas.{pairs-few}
use Rattle.tm_refs.proofs.PairLemmas.{pairs_below-has}
use Rattle.tm_refs.proofs.PointeeLemmas.{rows-below}
use Rattle.tm_refute.specs.Chosen.{AreInOrder, IsChosenEntry, IsChosenProof, IsRefutationOf, comes_before}
use Rattle.tm_refute.specs.TextForms.{most_entries}
use Rattle.tm_refute.specs.declared.refutation.Entry.{Entry}
use Rattle.tm_refute.specs.declared.refutation.Refutation.{Refutation}
use Rattle.tm_refute.proofs.chosen.OneLemmas.{entry-one}
use Rattle.tm_refute.proofs.chosen.OrderLemmas.{asym, first, other}

-- the list without one of its items
without : {X : Type 0} (ys : List X) (x : X) → IsIn x ys → List X
without [] x at = []
without (y ∷ ys) x (inl e) = ys
without (y ∷ ys) x (inr at) = y ∷ without ys x at

length-without : {X : Type 0} (ys : List X) (x : X) (at : IsIn x ys) → length ys ≡ length (without ys x at) + 1
unfolding without
length-without [] x at = absurd at
length-without (y ∷ ys) x (inl e) = omega arith
length-without (y ∷ ys) x (inr at) = omega (arith, length-without ys x at)

-- other items are still there
still-there : {X : Type 0} (ys : List X) (x z : X) (at : IsIn x ys) → IsIn z ys → (x ≡ z → ⊥) → IsIn z (without ys x at)
unfolding without
still-there [] x z at there apart = absurd at
still-there (y ∷ ys) x z (inl e) (inl f) apart = absurd (apart (sym e ∙ f))
still-there (y ∷ ys) x z (inl e) (inr there) apart = there
still-there (y ∷ ys) x z (inr at) (inl f) apart = inl f
still-there (y ∷ ys) x z (inr at) (inr there) apart = inr (still-there ys x z at there apart)

-- the references of an entry
abbrev pair_for : Entry → Pair
pair_for e = pair_of e.source.0 e.target.0

module _ (tables : Tables) (ask : Ask) where
  -- entries behind one are of other pairs
  other-pair : (e f : Entry) → IsChosenEntry tables ask.assume e → IsChosenEntry tables ask.assume f → comes_before e f ≡ true → pair_for e ≡ pair_for f → ⊥
  other-pair e f a b before same =
      let one = entry-one tables ask e f a b (record { source = ap (λ (p : Pair). p.source.0) (sym same); target = ap (λ (p : Pair). p.target.0) (sym same) }) in
      let itself : comes_before e e ≡ true = subst (λ (z : Entry). comes_before e z ≡ true) (sym one) before in
      asym e e itself itself

  few : (es : List Entry) (pairs : List Pair) → AreInOrder es → All (IsChosenEntry tables ask.assume) es → ((e : Entry) → Contains es e → IsIn (pair_for e) pairs) → length es ≤ length pairs
  few [] pairs order chosen among = omega arith
  few (e ∷ es) pairs (before, order) chosen among =
      let Is = IsChosenEntry tables ask.assume in
      let at = among e (first e es) in
      let rest =
      few es (without pairs (pair_for e) at) order (All-tail Is e es chosen)
      (λ f there. still-there pairs (pair_for e) (pair_for f) at (among f (other e f es there))
      (other-pair e f (All-head Is e es chosen) (All-contains Is es f (All-tail Is e es chosen) there) (All-contains (λ g. IsTrue (comes_before e g)) es f before there))) in
      omega (arith, rest, length-without pairs (pair_for e) at)

-- a world has few references, and so it has few entries
pub chosen-few : (world : World) (ask : Ask) (x : Refutation) → IsRefutationOf (tables_of world) ask x → length x.entries ≤ most_entries
chosen-few world ask x a =
    let listed = few (tables_of world) ask x.entries (all_pairs (tables_of world)) a.in_order a.chosen among in
    omega (arith, listed, pairs-few (tables_of world) ask.assume world.few_refs)
  where
    among : (e : Entry) → Contains x.entries e → IsIn (pair_for e) (all_pairs (tables_of world))
    among e at =
        let chosen = All-contains (IsChosenEntry (tables_of world) ask.assume) x.entries e a.chosen at in
        let (r, t) = rows-below world.refs e.source.0 e.target.0 (IsChosenProof (tables_of world) ask.assume e.depth e.proof) chosen.proof in
        IsIn-from_Contains (all_pairs (tables_of world)) (pair_for e) (pairs_below-has e.source.0 e.target.0 (length world.refs) r t)
