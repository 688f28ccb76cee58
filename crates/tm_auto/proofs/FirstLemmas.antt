-- The edges of a state lie side by side, between the places at which its own and the next state's begin.
use Rattle.std.proofs.Common.{◌≡◌, ℕ, zero, suc, ◌+◌, ◌-◌, ◌<◌, ◌≤◌, List, [], ◌∷◌, length, take, drop, inl, inr, refl, ap, arith, eq-eqb}
use Rattle.std.specs.List.{slice_index_or, AllWithin}
use Rattle.std.proofs.lemmas.Bool.{ne_eqb, cases_lt}
use Rattle.std.proofs.lemmas.List.Elements.{Contains-get_or}
use Rattle.tm_auto.specs.declared.edge.Edge.{Edge}
use Rattle.tm_auto.specs.Automata.{IsOrdered, edges_from}
use Rattle.tm_auto.specs.Firsts.{IsFirst}

pub ordered_at : (es : List Edge) → IsOrdered es → (i j : ℕ) (d : Edge) → i ≤ j → j < length es → (slice_index_or es i d).from ≤ (slice_index_or es j d).from
ordered_at [] h i j d le l = absurd (omega arith)
ordered_at (e ∷ es) h zero zero d le l = omega arith
ordered_at (e ∷ es) h zero (suc j) d le l = h.0 (slice_index_or es j d) (Contains-get_or es j d (omega arith))
ordered_at (e ∷ es) h (suc i) zero d le l = absurd (omega arith)
ordered_at (e ∷ es) h (suc i) (suc j) d le l = ordered_at es h.1 i j d (omega arith) (omega arith)

tail_first : (s : ℕ) (e : Edge) (es : List Edge) (i : ℕ) → IsFirst (e ∷ es) s (suc i) → IsFirst es s i
tail_first s e es i f = record {
  within = let x = f.within in omega arith;
  before = λ k d l u. f.before (suc k) d (omega arith) (omega arith);
  behind = λ k d l u. f.behind (suc k) d (omega arith) (omega arith);
}

pub first_le : (s : ℕ) (es : List Edge) (i j : ℕ) → IsFirst es s i → IsFirst es (s + 1) j → i ≤ j
first_le s [] i j f g = let x = f.within in omega arith
first_le s (e ∷ es) zero j f g = omega arith
first_le s (e ∷ es) (suc i) zero f g = let x = f.before 0 e (omega arith) (omega arith) in let y = g.behind 0 e (omega arith) (omega arith) in absurd (omega arith)
first_le s (e ∷ es) (suc i) (suc j) f g = let x = first_le s es i j (tail_first s e es i f) (tail_first (s + 1) e es j g) in omega arith

-- where no edge leaves an earlier state, its own stand first
fore : (s : ℕ) (es : List Edge) (j : ℕ) → IsFirst es s 0 → IsFirst es (s + 1) j → take j es ≡ edges_from s es
fore s [] zero f g = refl
fore s [] (suc j) f g = let x = g.within in absurd (omega arith)
fore s (e ∷ es) zero f g =
    let y = g.behind 0 e (omega arith) (omega arith) in
    let rest = fore s es zero (record {
      within = omega arith;
      before = λ k d l u. absurd (omega arith);
      behind = λ k d l u. f.behind (suc k) d (omega arith) (omega arith);
    }) (record {
      within = omega arith;
      before = λ k d l u. absurd (omega arith);
      behind = λ k d l u. g.behind (suc k) d (omega arith) (omega arith);
    }) in
    rw (ne_eqb e.from s (λ q. omega arith)) rest
fore s (e ∷ es) (suc j) f g =
    let x = g.before 0 e (omega arith) (omega arith) in
    let y = f.behind 0 e (omega arith) (omega arith) in
    let rest = fore s es j (record {
      within = omega arith;
      before = λ k d l u. absurd (omega arith);
      behind = λ k d l u. f.behind (suc k) d (omega arith) (omega arith);
    }) (tail_first (s + 1) e es j g) in
    rw (eq-eqb e.from s (omega arith)) (ap (λ (z : List Edge). e ∷ z) rest)

pub between : (s : ℕ) (es : List Edge) (i j : ℕ) → IsFirst es s i → IsFirst es (s + 1) j → take (j - i) (drop i es) ≡ edges_from s es
between s [] zero j f g = let none : j - 0 ≡ 0 = let x = g.within in omega arith in rw none refl
between s [] (suc i) j f g = let x = f.within in absurd (omega arith)
between s (e ∷ es) zero j f g = let less : j - 0 ≡ j = omega arith in rw less (fore s (e ∷ es) j f g)
between s (e ∷ es) (suc i) zero f g = let x = first_le s (e ∷ es) (suc i) zero f g in absurd (omega arith)
between s (e ∷ es) (suc i) (suc j) f g =
    let x = f.before 0 e (omega arith) (omega arith) in
    let less : suc j - suc i ≡ j - i = omega arith in
    rw (ne_eqb e.from s (λ q. omega arith), less) (between s es i j (tail_first s e es i f) (tail_first (s + 1) e es j g))

same_at : (es : List Edge) (k : ℕ) (d c : Edge) → k < length es → slice_index_or es k d ≡ slice_index_or es k c
same_at [] k d c l = absurd (omega arith)
same_at (e ∷ es) zero d c l = refl
same_at (e ∷ es) (suc k) d c l = same_at es k d c (omega arith)

-- The places up to that of the last state that one of the first edges leaves.
pub record Indexed (es : List Edge) (firsts : List ℕ) (place : ℕ) : Type 0 where
  pub each : (s : ℕ) → s < length firsts → IsFirst es s (slice_index_or firsts s 0)
  pub past : (s : ℕ) → length firsts ≤ s → AllWithin (λ (e : Edge). e.from < s) es 0 place
  pub last : (k : ℕ) (d : Edge) → place ≤ k → k < length es → length firsts ≤ suc (slice_index_or es k d).from

-- each state up to that of one more edge that has no place yet begins at this edge's
module _ (es : List Edge) (p : ℕ) (e : Edge) where
  -- the state that the edge there leaves
  abbrev pub left : ℕ
  left = (slice_index_or es p e).from

  pub indexed_more : IsOrdered es → (firsts more : List ℕ) → p < length es → length more ≡ left + 1
      → ((k d : ℕ) → k < left + 1 → k < length firsts → slice_index_or more k d ≡ slice_index_or firsts k d)
      → ((k d : ℕ) → length firsts ≤ k → k < left + 1 → slice_index_or more k d ≡ p)
      → Indexed es firsts p → Indexed es more (p + 1)
  indexed_more h firsts more l size old new i = record {
    each = λ s m. elim (cases_lt s (length firsts)) [
      | inl b ↦ rw (old s 0 (omega arith) b) (i.each s b)
      | inr b ↦ rw (new s 0 b (omega arith)) (record {
        within = omega arith;
        before = i.past s b;
        behind = λ k d x y. let z = ordered_at es h p k e x y in let v = same_at es k d e y in rw v (omega arith);
      })
    ];
    past = λ s m k d x y. elim (cases_lt k p) [
      | inl b ↦ (let z = i.last p e (omega arith) l in i.past s (omega arith) k d x b)
      | inr b ↦ (let at : k ≡ p = omega arith in let v = same_at es p d e l in rw (at, v) (omega arith))
    ];
    last = λ k d x y. let z = ordered_at es h p k e (omega arith) y in let v = same_at es k d e y in rw v (omega arith);
  }
