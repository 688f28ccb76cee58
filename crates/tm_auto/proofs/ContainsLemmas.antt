-- What is in a list, and what is among the edges that ways become.
use Rattle.std.proofs.Common.{◌≡◌, ◌≢◌, ℕ, zero, suc, ◌≤◌, ◌⊎◌, inl, inr, List, [], ◌∷◌, ◌++◌, length, refl, sym, subst, arith, Contains}
use Rattle.std.proofs.lemmas.List.Elements.{Contains-append_cases}
use Rattle.tm_base.proofs.JudgedLemmas.{Contains-none}
use Rattle.tm_auto.specs.declared.edge.Edge.{Edge}
use Rattle.tm_auto.specs.declared.build.Way.{Way}
use Rattle.tm_auto.specs.Automata.{IsOrdered}
use Rattle.tm_auto.specs.Builds.{edges_by}

pub here : {X : Type 0} {x : X} (xs : List X) → Contains (x ∷ xs) x
here xs = (0, omega arith, refl)

pub there : {X : Type 0} {x : X} (y : X) (xs : List X) → Contains xs x → Contains (y ∷ xs) x
there y xs (k, below, e) = (suc k, omega arith, e)

pub first_or_later : {X : Type 0} {x : X} (y : X) (xs : List X) → Contains (y ∷ xs) x → (x ≡ y) ⊎ Contains xs x
first_or_later y xs (zero, below, e) = inl (sym e)
first_or_later y xs (suc k, below, e) = inr (k, omega arith, e)

-- what holds of the first, and of each later one, holds of each
pub each_of : {X : Type 0} (P : X → Type 0) {x : X} (y : X) (xs : List X) → Contains (y ∷ xs) x → P y → (Contains xs x → P x) → P x
each_of P y xs m first later = elim (first_or_later y xs m) [ inl e ↦ subst P (sym e) first | inr n ↦ later n ]

pub some_among : {X : Type 0} (xs : List X) → xs ≢ [] → (x : X) × Contains xs x
some_among [] h = absurd (h refl)
some_among (x ∷ xs) h = (x, here _)

pub none_or_some : (xs : List ℕ) → (xs ≡ []) ⊎ (xs ≢ [])
none_or_some [] = inl refl
none_or_some (x ∷ xs) = inr (λ e. cc)

pub among_edges : (n : ℕ) (ways : List Way) (e : Edge) → Contains (edges_by n ways) e → Contains ways (record { label = e.label; to = e.to }) × (e.from ≡ n)
among_edges n [] e h = absurd (Contains-none _ h)
among_edges n (way ∷ ways) e h = elim (first_or_later _ _ h) [
  | inl q ↦ rw q (here _, refl)
  | inr k ↦ (let (a, b) = among_edges n ways e k in (there _ _ a, b))
]

pub edges_among : (n : ℕ) (way : Way) (ways : List Way) → Contains ways way → Contains (edges_by n ways) (record { from = n; to = way.to; label = way.label })
edges_among n way [] h = absurd (Contains-none _ h)
edges_among n way (first ∷ ways) h = elim (first_or_later _ _ h) [ inl q ↦ rw q (here _) | inr k ↦ there _ _ (edges_among n way ways k) ]

-- edges that leave later states may stand behind
pub ordered-append : (es fs : List Edge) (n : ℕ) → IsOrdered es → ((e : Edge) → Contains es e → e.from ≤ n) → IsOrdered fs → ((f : Edge) → Contains fs f → n ≤ f.from) → IsOrdered (es ++ fs)
ordered-append [] fs n o below p above = p
ordered-append (e ∷ es) fs n o below p above = (
  λ f a. elim (Contains-append_cases es fs _ a) [ inl b ↦ o.0 f b | inr b ↦ (let x = below e (here _) in let y = above f b in omega arith) ],
  ordered-append es fs n o.1 (λ d a. below d (there _ _ a)) p above,
)

pub ordered-edges_by : (n : ℕ) (ways : List Way) → IsOrdered (edges_by n ways)
ordered-edges_by n [] = tt
ordered-edges_by n (way ∷ ways) = (λ f a. let e = (among_edges n ways f a).1 in omega arith, ordered-edges_by n ways)

pub length-edges_by : (n : ℕ) (ways : List Way) → length (edges_by n ways) ≡ length ways
length-edges_by n [] = refl
length-edges_by n (way ∷ ways) = let e = length-edges_by n ways in omega arith
