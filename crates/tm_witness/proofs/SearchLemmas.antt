-- What is found among the edges that leave some states.
use Rattle.std.proofs.Common.{◌≡◌, ℕ, zero, suc, ◌+◌, ◌<◌, ◌≤◌, ◌⊎◌, ◌↔◌, ◌||◌, inl, inr, Bool, true, false, cond, nat_lt, List, [], ◌∷◌, Option, Some, None, length, drop, get_or, refl, sym, subst, arith, Contains}
use Rattle.std.specs.List.{list_any}
use Rattle.std.proofs.lemmas.Bool.{or_left, or_right}
use Rattle.std.proofs.lemmas.Bool.Decides.{nat_tests}
use Rattle.std.proofs.lemmas.List.{drop_more, drop_all}
use Rattle.tm_base.specs.declared.cell.RefId.{RefId}
use Rattle.tm_base.proofs.JudgedLemmas.{Contains-none}
use Rattle.tm_auto.specs.declared.edge.Edge.{Edge}
use Rattle.tm_auto.specs.declared.edge.Label.{Label}
use Rattle.tm_auto.specs.declared.edge.Label.TheVariants.{Bytes, Free, Leaf}
use Rattle.tm_auto.specs.Automata.{Automaton, edges_from}
use Rattle.tm_auto.proofs.ContainsLemmas.{here, there, first_or_later}
use Rattle.tm_auto.proofs.NextLemmas.{among_from, from_among}
use Rattle.tm_auto.proofs.SetLemmas.{bool_cases}
use Rattle.tm_witness.specs.Search.{takes_bytes, some_takes_bytes, lesser_open, least_among, least_from}
use Rattle.tm_witness.specs.GoingOn.{GoesOnByByte, IsLeastOpen}

-- one of a list passes
any-to : {X : Type 0} (p : X → Bool) (xs : List X) → list_any p xs ≡ true → (x : X) × Contains xs x × (p x ≡ true)
any-to p [] h = cc
any-to {X} p (x ∷ xs) h = by (bool_cases (p x)) (λ q. any-to p xs q) where
  by : (p x ≡ true) ⊎ (p x ≡ false) → (list_any p xs ≡ true → (y : X) × Contains xs y × (p y ≡ true)) → (y : X) × Contains (x ∷ xs) y × (p y ≡ true)
  by (inl e) others = (x, here _, e)
  by (inr e) others =
      let (y, a, q) = others (subst (λ (b : Bool). (b || list_any p xs) ≡ true) e h) in
      (y, there _ _ a, q)

to-any : {X : Type 0} (p : X → Bool) (xs : List X) (x : X) → Contains xs x → p x ≡ true → list_any p xs ≡ true
to-any p [] x a e = absurd (Contains-none _ a)
to-any {X} p (y ∷ xs) x a e = elim (first_or_later _ _ a) [
  | inl q ↦ or_left (p y) (list_any p xs) (subst (λ (z : X). p z ≡ true) q e)
  | inr b ↦ or_right (p y) (list_any p xs) (to-any p xs x b e)
]

abbrev takes : Edge → Bool
takes = λ e. takes_bytes e.label

-- an edge that takes an initialised byte is found exactly where there is one
pub byte-found : (auto : Automaton) (states : List ℕ) → (some_takes_bytes auto.edges states ≡ true) ↔ GoesOnByByte auto states
byte-found auto states = (
  λ h.
      let (s, a, found) = any-to (λ s. list_any takes (edges_from s auto.edges)) states h in
      let (e, b, good) = any-to takes (edges_from s auto.edges) found in
      let (m, q) = among_from s auto.edges e b in
      (e, m, subst (λ (z : ℕ). Contains states z) (sym q) a, good),
  λ (e, m, a, good).
      to-any (λ s. list_any takes (edges_from s auto.edges)) states e.from a
      (to-any takes (edges_from e.from auto.edges) e (from_among e.from auto.edges e m refl) good),
)

-- what is found at a state is found from there on
pub byte-at : (es : List Edge) (ss : List ℕ) (i : ℕ) → i < length ss → list_any takes (edges_from (get_or ss i 0) es) ≡ true → some_takes_bytes es (drop i ss) ≡ true
byte-at es ss i inside found = rw (drop_more ss i 0 inside, found) refl

pub byte-behind : (es : List Edge) (ss : List ℕ) (i : ℕ) → i < length ss → list_any takes (edges_from (get_or ss i 0) es) ≡ false → some_takes_bytes es (drop i ss) ≡ some_takes_bytes es (drop (i + 1) ss)
byte-behind es ss i inside none = rw (drop_more ss i 0 inside, none) refl

pub byte-none : (es : List Edge) (ss : List ℕ) (i : ℕ) → length ss ≤ i → some_takes_bytes es (drop i ss) ≡ false
byte-none es ss i past = rw drop_all refl

-- ---- the least reference

-- of those that P holds of the one with the least number
abbrev IsLeastOf : (RefId → Type 0) → Option RefId → Type 0
IsLeastOf P None = (t : RefId) → ¬ P t
IsLeastOf P (Some least) = P least × ((t : RefId) → P t → least.0 ≤ t.0)

least-like : (P Q : RefId → Type 0) → ((t : RefId) → P t → Q t) → ((t : RefId) → Q t → P t) → (r : Option RefId) → IsLeastOf P r → IsLeastOf Q r
least-like P Q to from None none = λ t q. none t (from t q)
least-like P Q to from (Some u) (p, least) = (to u p, λ t q. least t (from t q))

-- with the reference of one label more
abbrev With : (RefId → Type 0) → Label → RefId → Type 0
With P l t = P t ⊎ (l ≡ Leaf t 0)

least-other : (P : RefId → Type 0) (l : Label) → ((t : RefId) → ¬ (l ≡ Leaf t 0)) → (r : Option RefId) → IsLeastOf P r → IsLeastOf (With P l) r
least-other P l other r h = least-like P (With P l) (λ t p. inl p) (λ t w. elim w [ inl p ↦ p | inr e ↦ absurd (other t e) ]) r h

least-label : (P : RefId → Type 0) (r : Option RefId) (l : Label) → IsLeastOf P r → IsLeastOf (With P l) (lesser_open r l)
least-label P None (Leaf t zero) none = (inr refl, λ u w. elim w [ inl p ↦ absurd (none u p) | inr e ↦ (let same : t ≡ u = cc in subst (λ (x : RefId). t.0 ≤ x.0) same (omega arith)) ])
least-label P (Some u) (Leaf t zero) (p, least) = by (nat_lt t.0 u.0) refl where
  by : (b : Bool) → nat_lt t.0 u.0 ≡ b → IsLeastOf (With P (Leaf t zero)) (cond b (Some t) (Some u))
  by true e = (inr refl, λ v w. elim w [ inl q ↦ (let le = least v q in grind (arith, nat_tests)) | inr f ↦ (let same : t ≡ v = cc in subst (λ (x : RefId). t.0 ≤ x.0) same (omega arith)) ])
  by false e = (inl p, λ v w. elim w [ inl q ↦ least v q | inr f ↦ (let same : t ≡ v = cc in subst (λ (x : RefId). u.0 ≤ x.0) same (grind (arith, nat_tests))) ])
least-label P None (Bytes low high) h = least-other P (Bytes low high) (λ t e. cc) None h
least-label P None Free h = least-other P Free (λ t e. cc) None h
least-label P None (Leaf t (suc k)) h = least-other P (Leaf t (suc k)) (λ u e. cc) None h
least-label P (Some u) (Bytes low high) h = least-other P (Bytes low high) (λ t e. cc) (Some u) h
least-label P (Some u) Free h = least-other P Free (λ t e. cc) (Some u) h
least-label P (Some u) (Leaf t (suc k)) h = least-other P (Leaf t (suc k)) (λ v e. cc) (Some u) h

-- with those that begin on some edges
abbrev WithEdges : (RefId → Type 0) → List Edge → RefId → Type 0
WithEdges P es t = P t ⊎ ((e : Edge) × Contains es e × (e.label ≡ Leaf t 0))

least-edges : (P : RefId → Type 0) (es : List Edge) (r : Option RefId) → IsLeastOf P r → IsLeastOf (WithEdges P es) (least_among r es)
least-edges P [] r h = least-like P (WithEdges P []) (λ t p. inl p) (λ t w. elim w [ inl p ↦ p | inr (e, a, q) ↦ absurd (Contains-none _ a) ]) r h
least-edges P (e ∷ es) r h =
    least-like (WithEdges (With P e.label) es) (WithEdges P (e ∷ es))
    (λ t w. elim w [ inl (inl p) ↦ inl p | inl (inr q) ↦ inr (e, here _, q) | inr (f, a, q) ↦ inr (f, there _ _ a, q) ])
    (λ t w. elim w [
      | inl p ↦ inl (inl p)
      | inr (f, m, q) ↦ elim (first_or_later _ _ m) [ inl s ↦ inl (inr (subst (λ (d : Edge). d.label ≡ Leaf t 0) s q)) | inr a ↦ inr (f, a, q) ]
    ])
    (least_among (lesser_open r e.label) es) (least-edges (With P e.label) es (lesser_open r e.label) (least-label P r e.label h))

-- and with those that leave some states
abbrev WithStates : List Edge → (RefId → Type 0) → List ℕ → RefId → Type 0
WithStates es P ss t = P t ⊎ ((e : Edge) × Contains es e × Contains ss e.from × (e.label ≡ Leaf t 0))

least-states : (es : List Edge) (P : RefId → Type 0) (ss : List ℕ) (r : Option RefId) → IsLeastOf P r → IsLeastOf (WithStates es P ss) (least_from es r ss)
least-states es P [] r h = least-like P (WithStates es P []) (λ t p. inl p) (λ t w. elim w [ inl p ↦ p | inr (e, a, b, q) ↦ absurd (Contains-none _ b) ]) r h
least-states es P (s ∷ ss) r h =
    least-like (WithStates es (WithEdges P (edges_from s es)) ss) (WithStates es P (s ∷ ss))
    (λ t w. elim w [
      | inl (inl p) ↦ inl p
      | inl (inr (e, a, q)) ↦ (let (m, f) = among_from s es e a in inr (e, m, subst (λ (z : ℕ). Contains (s ∷ ss) z) (sym f) (here _), q))
      | inr (e, a, b, q) ↦ inr (e, a, there _ _ b, q)
    ])
    (λ t w. elim w [
      | inl p ↦ inl (inl p)
      | inr (e, a, m, q) ↦ elim (first_or_later _ _ m) [ inl f ↦ inl (inr (e, from_among s es e a f, q)) | inr b ↦ inr (e, a, b, q) ]
    ])
    (least_from es (least_among r (edges_from s es)) ss) (least-states es (WithEdges P (edges_from s es)) ss (least_among r (edges_from s es)) (least-edges P (edges_from s es) r h))

-- the reference that is found is the least open one
pub least-found : (auto : Automaton) (states : List ℕ) (r : Option RefId) → r ≡ least_from auto.edges None states → IsLeastOpen auto states r
least-found auto states r e = by r (subst (IsLeastOf (WithStates auto.edges (λ t. ⊥) states)) (sym e) (least-states auto.edges (λ t. ⊥) states None (λ t p. p))) where
  by : (r : Option RefId) → IsLeastOf (WithStates auto.edges (λ t. ⊥) states) r → IsLeastOpen auto states r
  by None none = λ t b. none t (inr b)
  by (Some t) (inl p, least) = absurd p
  by (Some t) (inr b, least) = (b, λ u c. least u (inr c))

pub least-turn : (es : List Edge) (r : Option RefId) (ss : List ℕ) (i : ℕ) → i < length ss → least_from es r (drop i ss) ≡ least_from es (least_among r (edges_from (get_or ss i 0) es)) (drop (i + 1) ss)
least-turn es r ss i inside = rw (drop_more ss i 0 inside) refl

pub least-end : (es : List Edge) (r : Option RefId) (ss : List ℕ) (i : ℕ) → length ss ≤ i → least_from es r (drop i ss) ≡ r
least-end es r ss i past = rw drop_all refl
