-- Obligations that imply one another, and antichains of them.
use Rattle.std.proofs.Common.{◌≡◌, inl, inr, Bool, true, false, not, filter, List, [], ◌∷◌, ◌++◌, refl, ◌∙◌, eq-eqb, Contains, ap, subst}
use Rattle.std.specs.Prelude.{◌==◌}
use Rattle.std.specs.List.{list_any}
use Rattle.std.proofs.lemmas.Bool.{and_from}
use Rattle.std.proofs.lemmas.List.Elements.{Contains-append_cases}
use Rattle.tm_base.proofs.JudgedLemmas.{Contains-none, Contains-one}
use Rattle.tm_auto.proofs.ContainsLemmas.{here, there, first_or_later, each_of}
use Rattle.tm_auto.proofs.SetLemmas.{bool_cases, same_at}
use Rattle.tm_auto.proofs.StepLemmas.{both_true}
use Rattle.tm_walk.specs.declared.obligation.Obligation.{Obligation}
use Rattle.tm_walk.specs.Obligations.{is_within, implies, implied_by, IsAntichain}
use Rattle.tm_walk.proofs.WithinLemmas.{AreOf, within_to, to_within}

-- ---- lists and tests

pub any_to : {X : Type 0} (test : X → Bool) (xs : List X) → list_any test xs ≡ true → (x : X) × Contains xs x × (test x ≡ true)
any_to test [] e = cc
any_to test (x ∷ xs) e = elim (bool_cases (test x)) [
  | inl a ↦ (x, here _, a)
  | inr a ↦ (let (y, m, h) = any_to test xs (rw a at e) in (y, there _ _ m, h))
]

pub none_of : {X : Type 0} (test : X → Bool) (xs : List X) → list_any test xs ≡ false → (x : X) → Contains xs x → test x ≡ false
none_of test [] e x m = absurd (Contains-none _ m)
none_of test (y ∷ xs) e x m = elim (bool_cases (test y)) [
  | inl a ↦ (let z = rw a at e in cc)
  | inr a ↦ each_of (λ z. test z ≡ false) y xs m a (λ n. none_of test xs (rw a at e) x n)
]

own : {X : Type 0} (test : X → Bool) (y : X) (ys xs : List X) (x : X) → test y ≡ true → Contains (y ∷ ys) x → (Contains ys x → Contains xs x × (test x ≡ true)) → Contains (y ∷ xs) x × (test x ≡ true)
own test y ys xs x a m f = elim (first_or_later _ _ m) [ inl e ↦ rw e (here _, a) | inr n ↦ (let (k, h) = f n in (there _ _ k, h)) ]

pub from_filter : {X : Type 0} (test : X → Bool) (xs : List X) (x : X) → Contains (filter test xs) x → Contains xs x × (test x ≡ true)
from_filter test [] x m = absurd (Contains-none _ m)
from_filter test (y ∷ xs) x m = elim (bool_cases (test y)) [
  | inl a ↦ own test y (filter test xs) xs x a (rw a at m) (λ n. from_filter test xs x n)
  | inr a ↦ (let (n, h) = from_filter test xs x (rw a at m) in (there _ _ n, h))
]

pub to_filter : {X : Type 0} (test : X → Bool) (xs : List X) (x : X) → Contains xs x → test x ≡ true → Contains (filter test xs) x
to_filter test [] x m h = absurd (Contains-none _ m)
to_filter test (y ∷ xs) x m h = elim (bool_cases (test y)) [
  | inl a ↦ rw a (elim (first_or_later _ _ m) [ inl e ↦ rw e (here _) | inr n ↦ there _ _ (to_filter test xs x n h) ])
  | inr a ↦ rw a (elim (first_or_later _ _ m) [ inl e ↦ (let z = ap test e in cc) | inr n ↦ to_filter test xs x n h ])
]

-- ---- what implies what

pub implies_to : (o p : Obligation) → implies o p ≡ true → (o.state ≡ p.state) × AreOf o.target p.target
implies_to o p e = let (a, b) = both_true (o.state == p.state) (is_within o.target p.target) e in (same_at o.state p.state a, within_to o.target p.target b)

pub to_implies : (o p : Obligation) → o.state ≡ p.state → AreOf o.target p.target → implies o p ≡ true
to_implies o p e f = and_from _ _ (eq-eqb o.state p.state e) (to_within o.target p.target f)

pub implies-refl : (o : Obligation) → implies o o ≡ true
implies-refl o = to_implies o o refl (λ s m. m)

pub implies-trans : (o p q : Obligation) → implies o p ≡ true → implies p q ≡ true → implies o q ≡ true
implies-trans o p q e f =
    let (a, b) = implies_to o p e in
    let (c, d) = implies_to p q f in
    to_implies o q (a ∙ c) (λ s m. d s (b s m))

-- ---- antichains

pub antichain_filter : (test : Obligation → Bool) (os : List Obligation) → IsAntichain os → IsAntichain (filter test os)
antichain_filter test [] h = tt
antichain_filter test (o ∷ os) h = elim (bool_cases (test o)) [
  | inl a ↦ rw a (λ p m. h.0 p (from_filter test os p m).0, antichain_filter test os h.1)
  | inr a ↦ rw a (antichain_filter test os h.1)
]

antichain_more : (os : List Obligation) (o : Obligation) → IsAntichain os → ((p : Obligation) → Contains os p → (implies p o ≡ false) × (implies o p ≡ false)) → IsAntichain (os ++ o ∷ [])
antichain_more [] o h f = (λ p m. absurd (Contains-none _ m), tt)
antichain_more (x ∷ os) o h f = (
  λ p m. elim (Contains-append_cases os (o ∷ []) _ m) [ inl n ↦ h.0 p n | inr n ↦ subst (λ (q : Obligation). (implies x q ≡ false) × (implies q x ≡ false)) (Contains-one o p n) (f x (here _)) ],
  antichain_more os o h.1 (λ p m. f p (there _ _ m)),
)

pub antichain_last : (os : List Obligation) (o : Obligation) → IsAntichain os → list_any (implied_by o) os ≡ false → IsAntichain (filter (λ p. not (implies o p)) os ++ o ∷ [])
antichain_last os o h e = antichain_more (filter (λ p. not (implies o p)) os) o (antichain_filter (λ p. not (implies o p)) os h) (λ p m.
    let (n, t) = from_filter (λ q. not (implies o q)) os p m in
    (none_of (implied_by o) os e p n, from_not (implies o p) t))
  where
    from_not : (b : Bool) → not b ≡ true → b ≡ false
    from_not true e = cc
    from_not false e = refl
