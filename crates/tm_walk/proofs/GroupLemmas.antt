-- Obligations of one target set, and the set of their states.
use Rattle.std.proofs.Common.{◌≡◌, ℕ, zero, suc, ◌+◌, ◌<◌, ◌≤◌, ◌⊎◌, inl, inr, List, [], ◌∷◌, length, take, drop, get_or, refl, sym, ap, ◌∙◌, subst, arith, Contains}
use Rattle.std.proofs.lemmas.List.{drop_more, drop_all}
use Rattle.tm_base.proofs.JudgedLemmas.{Contains-none, Contains-one}
use Rattle.tm_auto.specs.Sets.{with_state}
use Rattle.tm_auto.proofs.ContainsLemmas.{here, there, first_or_later}
use Rattle.tm_auto.proofs.SetLemmas.{with_state_to, with_state_has, with_state_keeps}
use Rattle.tm_walk.specs.declared.obligation.Obligation.{Obligation}
use Rattle.tm_walk.specs.Obligations.{HaveOneTarget, with_states}

-- ---- the states

states_keep : (os : List Obligation) (set : List ℕ) (s : ℕ) → Contains set s → Contains (with_states os set) s
states_keep [] set s m = m
states_keep (o ∷ os) set s m = states_keep os (with_state o.state set) s (with_state_keeps o.state set s m)

pub states_have : (os : List Obligation) (set : List ℕ) (o : Obligation) → Contains os o → Contains (with_states os set) o.state
states_have [] set o m = absurd (Contains-none _ m)
states_have (p ∷ os) set o m = elim (first_or_later _ _ m) [
  | inl e ↦ rw e (states_keep os (with_state p.state set) p.state (with_state_has p.state set))
  | inr n ↦ states_have os (with_state p.state set) o n
]

pub states_are : (P : ℕ → Type 0) (os : List Obligation) (set : List ℕ) → ((s : ℕ) → Contains set s → P s) → ((o : Obligation) → Contains os o → P o.state) → (s : ℕ) → Contains (with_states os set) s → P s
states_are P [] set f g s m = f s m
states_are P (o ∷ os) set f g s m = states_are P os (with_state o.state set) (λ t n. own t (with_state_to o.state set t n)) (λ p n. g p (there _ _ n)) s m
  where
    own : (t : ℕ) → (t ≡ o.state) ⊎ Contains set t → P t
    own t (inl e) = subst P (sym e) (g o (here _))
    own t (inr n) = f t n

-- one turn of a loop that puts them into a set
pub states_turn : (os : List Obligation) (i : ℕ) (d : Obligation) (set : List ℕ) → i < length os → with_states (drop (i + 1) os) (with_state (get_or os i d).state set) ≡ with_states (drop i os) set
states_turn os i d set l = rw (drop_more os i d l) refl

pub states_end : (os : List Obligation) (i : ℕ) (set : List ℕ) → length os ≤ i → with_states (drop i os) set ≡ set
states_end os i set l = rw (drop_all i os l) refl

-- ---- one target

pub one_target : (os : List Obligation) (target : List ℕ) → ((o : Obligation) → Contains os o → o.target ≡ target) → HaveOneTarget os
one_target os target f o p m n = f o m ∙ sym (f p n)

take_turn : {X : Type 0} (xs : List X) (n : ℕ) (d x : X) → n < length xs → Contains (take (suc n) xs) x → (x ≡ get_or xs n d) ⊎ Contains (take n xs) x
take_turn [] n d x l m = absurd (omega arith)
take_turn (y ∷ ys) zero d x l m = inl (sym (Contains-one y x m))
take_turn (y ∷ ys) (suc n) d x l m = elim (first_or_later y (take (suc n) ys) m) [
  | inl e ↦ inr (rw e (here _))
  | inr k ↦ elim (take_turn ys n d x (omega arith) k) [ inl e ↦ inl e | inr j ↦ inr (there _ _ j) ]
]

pub target_more : (os : List Obligation) (target : List ℕ) (n : ℕ) (d : Obligation) → n < length os → (get_or os n d).target ≡ target
    → ((o : Obligation) → Contains (take n os) o → o.target ≡ target) → (o : Obligation) → Contains (take (n + 1) os) o → o.target ≡ target
target_more os target n d l e f o m = elim (take_turn os n d o l (let more : n + 1 ≡ suc n = omega arith in subst (λ (k : ℕ). Contains (take k os) o) more m)) [
  | inl q ↦ ap (λ (z : Obligation). z.target) q ∙ e
  | inr k ↦ f o k
]

pub target_first : (os : List Obligation) (d : Obligation) → 0 < length os → (o : Obligation) → Contains (take 1 os) o → o.target ≡ (get_or os 0 d).target
target_first [] d l o m = absurd (omega arith)
target_first (p ∷ os) d l o m = ap (λ (z : Obligation). z.target) (sym (Contains-one p o m))
