-- What a layer of obligations becomes when some are added.
use Rattle.std.proofs.Common.{◌≡◌, ℕ, ◌+◌, ◌<◌, ◌≤◌, ◌⊎◌, inl, inr, Bool, true, not, filter, List, [], ◌∷◌, ◌++◌, length, drop, get_or, sym, ap, subst, arith, Contains}
use Rattle.std.specs.List.{list_any}
use Rattle.std.proofs.lemmas.List.{drop_more, drop_all}
use Rattle.std.proofs.lemmas.List.Elements.{Contains-append_left, Contains-append_right, Contains-append_cases, Contains-push}
use Rattle.tm_base.proofs.JudgedLemmas.{Contains-none, Contains-one}
use Rattle.tm_auto.proofs.ContainsLemmas.{here, there, first_or_later}
use Rattle.tm_auto.proofs.SetLemmas.{bool_cases}
use Rattle.tm_walk.specs.declared.obligation.Obligation.{Obligation}
use Rattle.tm_walk.specs.Obligations.{implies, implied_by, IsImplied, AreAdded}
use Rattle.tm_walk.proofs.ImpliesLemmas.{any_to, from_filter, to_filter, implies-refl, implies-trans}

implied_more : (os : List Obligation) (p q : Obligation) → IsImplied os p → implies p q ≡ true → IsImplied os q
implied_more os p q (o, m, e) f = (o, m, implies-trans o p q e f)

pub added_none : (P : Obligation → Type 0) (os : List Obligation) → ((o : Obligation) → P o → ⊥) → AreAdded P os os
added_none P os none = record { from = λ o m. inl m; kept = λ o m. (o, m, implies-refl o); added = λ o h. absurd (none o h) }

pub added_same : (P Q : Obligation → Type 0) (before after : List Obligation) → ((o : Obligation) → P o → Q o) → ((o : Obligation) → Q o → P o) → AreAdded P before after → AreAdded Q before after
added_same P Q before after f g a = record {
  from = λ o m. elim (a.from o m) [ inl b ↦ inl b | inr p ↦ inr (f o p) ];
  kept = a.kept;
  added = λ o q. a.added o (g o q);
}

pub added_both : (P Q R : Obligation → Type 0) (before between after : List Obligation) → ((o : Obligation) → P o → R o) → ((o : Obligation) → Q o → R o) → ((o : Obligation) → R o → P o ⊎ Q o)
    → AreAdded P before between → AreAdded Q between after → AreAdded R before after
added_both P Q R before between after f g h a b = record {
  from = λ o m. elim (b.from o m) [
    | inl n ↦ elim (a.from o n) [ inl k ↦ inl k | inr p ↦ inr (f o p) ]
    | inr q ↦ inr (g o q)
  ];
  kept = λ o m. on o (a.kept o m);
  added = λ o r. elim (h o r) [ inl p ↦ on o (a.added o p) | inr q ↦ b.added o q ];
}
  where
    on : (o : Obligation) → IsImplied between o → IsImplied after o
    on o (p, m, e) = implied_more after p o (b.kept p m) e

-- ---- a loop that adds what each of a list gives

module _ {X : Type 0} (P : X → Obligation → Type 0) where
  abbrev pub OfSome : List X → Obligation → Type 0
  OfSome xs o = (x : X) × Contains xs x × P x o

  pub added_turn : (xs : List X) (i : ℕ) (d : X) → i < length xs → (before between after : List Obligation)
      → AreAdded (P (get_or xs i d)) before between → AreAdded (OfSome (drop (i + 1) xs)) between after → AreAdded (OfSome (drop i xs)) before after
  added_turn xs i d l before between after a b =
      subst (λ (z : List X). AreAdded (OfSome z) before after) (sym (drop_more xs i d l))
      (added_both (P (get_or xs i d)) (OfSome (drop (i + 1) xs)) (OfSome (get_or xs i d ∷ drop (i + 1) xs)) before between after
      (λ o p. (get_or xs i d, here _, p)) (λ o (x, m, p). (x, there _ _ m, p)) (λ o (x, m, p). elim (first_or_later _ _ m) [ inl e ↦ inl (subst (λ y. P y o) e p) | inr n ↦ inr (x, n, p) ]) a b)

  -- those of a list in two parts
  pub added_parts : (xs ys : List X) (before between after : List Obligation) → AreAdded (OfSome xs) before between → AreAdded (OfSome ys) between after → AreAdded (OfSome (xs ++ ys)) before after
  added_parts xs ys before between after a b = added_both (OfSome xs) (OfSome ys) (OfSome (xs ++ ys)) before between after
      (λ o (x, m, p). (x, Contains-append_left _ ys _ m, p)) (λ o (x, m, p). (x, Contains-append_right xs _ _ m, p))
      (λ o (x, m, p). elim (Contains-append_cases xs ys _ m) [ inl n ↦ inl (x, n, p) | inr n ↦ inr (x, n, p) ])
      a b

  pub added_end : (xs : List X) (i : ℕ) → length xs ≤ i → (os : List Obligation) → AreAdded (OfSome (drop i xs)) os os
  added_end xs i l os = subst (λ (z : List X). AreAdded (OfSome z) os os) (sym (drop_all i xs l)) (added_none (OfSome []) os (λ o (x, m, p). Contains-none _ m))

  -- those of a list of one
  pub added_one : (x : X) (before after : List Obligation) → AreAdded (P x) before after → AreAdded (OfSome (x ∷ [])) before after
  added_one x before after a = added_turn (x ∷ []) 0 x (omega arith) before after after a (added_end (x ∷ []) 1 (omega arith) after)

-- ---- one obligation

module _ (os : List Obligation) (o : Obligation) where
  pub added_there : list_any (implied_by o) os ≡ true → AreAdded (λ p. p ≡ o) os os
  added_there e = record {
    from = λ p m. inl m;
    kept = λ p m. (p, m, implies-refl p);
    added = λ p q. subst (IsImplied os) (sym q) (any_to (implied_by o) os e);
  }

  abbrev pub apart : Obligation → Bool
  apart p = not (implies o p)

  pub added_last : AreAdded (λ p. p ≡ o) os (filter apart os ++ o ∷ [])
  added_last = record {
    from = λ p m. elim (Contains-append_cases (filter apart os) (o ∷ []) _ m) [
      | inl n ↦ inl (from_filter apart os p n).0
      | inr n ↦ inr (sym (Contains-one o p n))
    ];
    kept = λ p m. elim (bool_cases (implies o p)) [
      | inl a ↦ (o, last, a)
      | inr a ↦ (p, Contains-append_left _ (o ∷ []) _ (to_filter apart os p m (ap not a)), implies-refl p)
    ];
    added = λ p q. (o, last, subst (λ (z : Obligation). implies o z ≡ true) (sym q) (implies-refl o));
  }
    where
      last : Contains (filter apart os ++ o ∷ []) o
      last = Contains-push (filter apart os) o
