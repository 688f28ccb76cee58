-- The symbols that are made are the classes of two sets.
use Rattle.std.proofs.Common.{◌≡◌, ℕ, zero, suc, ◌+◌, ◌<◌, ◌⊎◌, inl, inr, Bool, true, false, nat_le, nat_lt, List, [], ◌∷◌, ◌++◌, refl, sym, ap, ◌∙◌, subst, arith, eq-eqb, cond, Contains}
use Rattle.std.proofs.lemmas.Bool.{or_left, or_right, and_from}
use Rattle.std.proofs.lemmas.List.Elements.{Contains-append_left, Contains-append_right, Contains-append_cases}
use Rattle.tm_base.specs.declared.cell.Cell.{Cell}
use Rattle.tm_base.specs.declared.cell.Cell.TheVariants as cell
use Rattle.tm_base.specs.declared.cell.RefId.{RefId}
use Rattle.tm_base.specs.Orders.{cell_less}
use Rattle.tm_base.specs.Transmutes.{holds, is_itself}
use Rattle.tm_base.proofs.JudgedLemmas.{Contains-none, Contains-one}
use Rattle.tm_auto.specs.declared.edge.Edge.{Edge}
use Rattle.tm_auto.specs.declared.edge.Label.{Label}
use Rattle.tm_auto.specs.declared.edge.Label.TheVariants as label
use Rattle.tm_auto.specs.declared.edge.Symbol.{Symbol}
use Rattle.tm_auto.specs.declared.edge.Symbol.TheVariants as symbol
use Rattle.tm_auto.specs.Automata.{Automaton, IsAutomaton, edges_from}
use Rattle.tm_auto.specs.Classes.{HasCell, AreInOrder, TakesFrom, AreClasses, IsUncut, passes_some, labels_in, labels_from, AreRanges, uninit_of, places_of, references_of, with_ids}
use Rattle.tm_auto.specs.Labels.{Takes, CanTake}
use Rattle.tm_auto.specs.Sets.{passes, symbol_of, with_state}
use Rattle.tm_auto.proofs.ContainsLemmas.{here, there, first_or_later}
use Rattle.tm_auto.proofs.ClassLemmas.{lt_holds, passes_range, some_to, to_some, passes_own, range_byte, places_is, places_has}
use Rattle.tm_auto.proofs.NextLemmas.{among_from, from_among}
use Rattle.tm_auto.proofs.SetLemmas.{bool_cases, RisesFrom, Rises, with_state_has, with_state_keeps, with_state_rises, above_all}
use Rattle.tm_auto.proofs.StepLemmas.{both_true, le_test, lt_test, passes_takes}

-- ---- labels of a set

label_in : (es : List Edge) (l : Label) → Contains (labels_in es) l → (e : Edge) × Contains es e × (e.label ≡ l)
label_in [] l a = absurd (Contains-none _ a)
label_in (e ∷ es) l a = elim (first_or_later _ _ a) [ inl q ↦ (e, here _, sym q) | inr b ↦ (let (f, c, q) = label_in es l b in (f, there _ _ c, q)) ]

in_label : (e : Edge) (es : List Edge) → Contains es e → Contains (labels_in es) e.label
in_label e [] a = absurd (Contains-none _ a)
in_label e (f ∷ es) a = elim (first_or_later _ _ a) [ inl q ↦ rw q (here _) | inr b ↦ there _ _ (in_label e es b) ]

label_from : (es : List Edge) (ss : List ℕ) (l : Label) → Contains (labels_from es ss) l → (e : Edge) × (Contains es e × Contains ss e.from) × (e.label ≡ l)
label_from es [] l a = absurd (Contains-none _ a)
label_from es (s ∷ ss) l a = elim (Contains-append_cases (labels_in (edges_from s es)) (labels_from es ss) _ a) [
  | inl b ↦ (
      let (e, m, q) = label_in (edges_from s es) l b in
      let (n, f) = among_from s es e m in
      (e, (n, subst (λ (z : ℕ). Contains (s ∷ ss) z) (sym f) (here _)), q))
  | inr b ↦ (let (e, (m, f), q) = label_from es ss l b in (e, (m, there _ _ f), q))
]

from_label : (es : List Edge) (e : Edge) (ss : List ℕ) → Contains es e → Contains ss e.from → Contains (labels_from es ss) e.label
from_label es e [] m f = absurd (Contains-none _ f)
from_label es e (s ∷ ss) m f = elim (first_or_later _ _ f) [
  | inl q ↦ Contains-append_left _ _ _ (in_label e (edges_from s es) (from_among s es e m q))
  | inr g ↦ Contains-append_right (labels_in (edges_from s es)) _ _ (from_label es e ss m g)
]

-- ---- in order

order_append : (xs ys : List Symbol) → AreInOrder xs → AreInOrder ys → ((x y : Symbol) (c d : Cell) → Contains xs x → Contains ys y → HasCell x c → HasCell y d → cell_less c d ≡ true) → AreInOrder (xs ++ ys)
order_append [] ys p q less = q
order_append (x ∷ xs) ys p q less = (
  λ y c d m hc hd. elim (Contains-append_cases xs ys _ m) [ inl b ↦ p.0 y c d b hc hd | inr b ↦ less x y c d (here _) b hc hd ],
  order_append xs ys p.1 q (λ z y c d m. less z y c d (there _ _ m)),
)

-- ---- the uninitialised byte

uninit_is : (ls : List Label) (x : Symbol) → Contains (uninit_of ls) x → (x ≡ symbol.Uninit) × (passes_some ls symbol.Uninit ≡ true)
uninit_is ls x a = elim (bool_cases (passes_some ls symbol.Uninit)) [
  | inl p ↦ (sym (Contains-one _ _ (rw p at a)), p)
  | inr p ↦ absurd (Contains-none _ (rw p at a))
]

uninit_order : (ls : List Label) → AreInOrder (uninit_of ls)
uninit_order ls = elim (bool_cases (passes_some ls symbol.Uninit)) [ inl p ↦ rw p (λ y c d m. absurd (Contains-none _ m), tt) | inr p ↦ rw p tt ]

-- ---- references

abbrev IsPlace : List Label → ℕ → Symbol → Type 0
IsPlace ls id x = (k : ℕ) × (k < 8) × (x ≡ symbol.Ptr (record { 0 = id }) k) × (passes_some ls x ≡ true)

reference_is : (ls : List Label) (ids : List ℕ) (x : Symbol) → Contains (references_of ls ids) x → (id : ℕ) × Contains ids id × IsPlace ls id x
reference_is ls [] x a = absurd (Contains-none _ a)
reference_is ls (id ∷ ids) x a = elim (Contains-append_cases (places_of ls id 8) (references_of ls ids) _ a) [
  | inl b ↦ (id, here _, places_is ls id 8 x b)
  | inr b ↦ (let (j, m, p) = reference_is ls ids x b in (j, there _ _ m, p))
]

reference_has : (ls : List Label) (id k : ℕ) (ids : List ℕ) → Contains ids id → k < 8 → passes_some ls (symbol.Ptr (record { 0 = id }) k) ≡ true → Contains (references_of ls ids) (symbol.Ptr (record { 0 = id }) k)
reference_has ls id k [] m l p = absurd (Contains-none _ m)
reference_has ls id k (first ∷ ids) m l p = elim (first_or_later _ _ m) [
  | inl q ↦ Contains-append_left _ _ _ (subst (λ (z : ℕ). Contains (places_of ls z 8) (symbol.Ptr (record { 0 = id }) k)) q (places_has ls id 8 k l p))
  | inr n ↦ Contains-append_right (places_of ls first 8) _ _ (reference_has ls id k ids n l p)
]

ids_keep : (ls : List Label) (ids : List ℕ) (id : ℕ) → Contains ids id → Contains (with_ids ls ids) id
ids_keep [] ids id m = m
ids_keep (label.Bytes low high ∷ ls) ids id m = ids_keep ls ids id m
ids_keep (label.Free ∷ ls) ids id m = ids_keep ls ids id m
ids_keep (label.Leaf t k ∷ ls) ids id m = ids_keep ls (with_state t.0 ids) id (with_state_keeps t.0 ids id m)

ids_have : (t : RefId) (k : ℕ) (ls : List Label) (ids : List ℕ) → Contains ls (label.Leaf t k) → Contains (with_ids ls ids) t.0
ids_have t k [] ids m = absurd (Contains-none _ m)
ids_have t k (l ∷ ls) ids m = elim (first_or_later _ _ m) [
  | inl q ↦ subst (λ (z : Label). Contains (with_ids (z ∷ ls) ids) t.0) q (ids_keep ls (with_state t.0 ids) t.0 (with_state_has t.0 ids))
  | inr n ↦ later l (λ js. ids_have t k ls js n)
]
  where
    later : (l : Label) → ((js : List ℕ) → Contains (with_ids ls js) t.0) → Contains (with_ids (l ∷ ls) ids) t.0
    later (label.Bytes low high) has = has ids
    later label.Free has = has ids
    later (label.Leaf u j) has = has (with_state u.0 ids)

ids_rise : (ls : List Label) (ids : List ℕ) → Rises ids → Rises (with_ids ls ids)
ids_rise [] ids h = h
ids_rise (label.Bytes low high ∷ ls) ids h = ids_rise ls ids h
ids_rise (label.Free ∷ ls) ids h = ids_rise ls ids h
ids_rise (label.Leaf t k ∷ ls) ids h = ids_rise ls (with_state t.0 ids) (with_state_rises t.0 ids h)

ptr_less : (r t : RefId) (j k : ℕ) → (r.0 < t.0) ⊎ ((r.0 ≡ t.0) × (j < k)) → cell_less (cell.Ptr r j) (cell.Ptr t k) ≡ true
ptr_less r t j k (inl l) = or_left (nat_lt r.0 t.0) _ (lt_holds r.0 t.0 l)
ptr_less r t j k (inr (e, l)) = or_right (nat_lt r.0 t.0) _ (and_from _ _ (eq-eqb r.0 t.0 e) (lt_holds j k l))

places_order : (ls : List Label) (id n : ℕ) → AreInOrder (places_of ls id n)
places_order ls id zero = tt
places_order ls id (suc k) = order_append (places_of ls id k) _ (places_order ls id k) (last (passes_some ls (symbol.Ptr (record { 0 = id }) k))) (λ x y c d m b hc hd. less x y c d m b hc hd)
  where
    last : (b : Bool) → AreInOrder (cond b (symbol.Ptr (record { 0 = id }) k ∷ []) [])
    last true = (λ y c d m. absurd (Contains-none _ m), tt)
    last false = tt

    newest : (b : Bool) (y : Symbol) → Contains (cond b (symbol.Ptr (record { 0 = id }) k ∷ []) []) y → y ≡ symbol.Ptr (record { 0 = id }) k
    newest true y m = sym (Contains-one (symbol.Ptr (record { 0 = id }) k) y m)
    newest false y m = absurd (Contains-none _ m)

    less : (x y : Symbol) (c d : Cell) → Contains (places_of ls id k) x → Contains (cond (passes_some ls (symbol.Ptr (record { 0 = id }) k)) (symbol.Ptr (record { 0 = id }) k ∷ []) []) y → HasCell x c → HasCell y d → cell_less c d ≡ true
    less x y c d m b hc hd =
        let (j, l, e, p) = places_is ls id k x m in
        let ec : c ≡ cell.Ptr (record { 0 = id }) j = subst (λ (s : Symbol). HasCell s c) e hc in
        let ed : d ≡ cell.Ptr (record { 0 = id }) k = subst (λ (s : Symbol). HasCell s d) (newest _ y b) hd in
        rw (ec, ed) (ptr_less (record { 0 = id }) (record { 0 = id }) j k (inr (refl, l)))

references_order : (ls : List Label) (ids : List ℕ) → Rises ids → AreInOrder (references_of ls ids)
references_order ls [] h = tt
references_order ls (id ∷ ids) h = order_append (places_of ls id 8) (references_of ls ids) (places_order ls id 8) (references_order ls ids (tail id ids h)) (λ x y c d m b hc hd.
    let (j, l, e, p) = places_is ls id 8 x m in
    let (other, o, (k, l2, e2, p2)) = reference_is ls ids y b in
    let ec : c ≡ cell.Ptr (record { 0 = id }) j = subst (λ (s : Symbol). HasCell s c) e hc in
    let ed : d ≡ cell.Ptr (record { 0 = other }) k = subst (λ (s : Symbol). HasCell s d) e2 hd in
    rw (ec, ed) (ptr_less (record { 0 = id }) (record { 0 = other }) j k (inl (above_all id ids h other o))))
  where
    tail : (x : ℕ) (xs : List ℕ) → RisesFrom x xs → Rises xs
    tail x [] h = tt
    tail x (y ∷ ys) h = h.1

-- ---- all of them

module _ (src : Automaton) (from : List ℕ) (dst : Automaton) (to : List ℕ) (h : IsAutomaton src) (xs : List Symbol) (ranges : AreRanges (labels_from src.edges from) (labels_from dst.edges to) 256 xs) where
  abbrev ls : List Label
  ls = labels_from src.edges from

  abbrev ds : List Label
  ds = labels_from dst.edges to

  abbrev refs : List Symbol
  refs = references_of ls (with_ids ls [])

  abbrev all : List Symbol
  all = (xs ++ uninit_of ls) ++ refs

  takes_some : (c : Cell) → TakesFrom src from c → passes_some ls (symbol_of c) ≡ true
  takes_some c (e, (m, f), t) = to_some ls (symbol_of c) e.label (from_label src.edges e from m f) ((passes_takes is_itself e.label c).1 t)

  some_takes : (c : Cell) → passes_some ls (symbol_of c) ≡ true → TakesFrom src from c
  some_takes c p =
      let (l, a, q) = some_to ls (symbol_of c) p in
      let (e, leaves, el) = label_from src.edges from l a in
      (e, leaves, subst (λ (z : Label). Takes (holds is_itself) z c) (sym el) ((passes_takes is_itself l c).0 q))

  can : (l : Label) → Contains ls l → CanTake src.pointer l
  can l a = let (e, (m, f), q) = label_from src.edges from l a in subst (λ (z : Label). CanTake src.pointer z) q (h.takes e m)

  byte_below : (l : Label) (b : ℕ) → CanTake src.pointer l → passes is_itself l (symbol.Bytes b b) ≡ true → b < 256
  byte_below (label.Bytes low high) b c p = let (lo, hi) = both_true (nat_le low b) (nat_le b high) p in let x = le_test b high hi in let y = c.1 in omega arith
  byte_below label.Free b c p = lt_test b 256 p
  byte_below (label.Leaf t k) b c p = cc

  split : (x : Symbol) → Contains all x → Contains xs x ⊎ (((x ≡ symbol.Uninit) × (passes_some ls symbol.Uninit ≡ true)) ⊎ ((id : ℕ) × Contains (with_ids ls []) id × IsPlace ls id x))
  split x a = elim (Contains-append_cases (xs ++ uninit_of ls) refs _ a) [
    | inl b ↦ elim (Contains-append_cases xs (uninit_of ls) _ b) [ inl d ↦ inl d | inr d ↦ inr (inl (uninit_is ls x d)) ]
    | inr b ↦ inr (inr (reference_is ls (with_ids ls []) x b))
  ]

  -- what has a cell is passed as that cell
  has_some : (x : Symbol) (c : Cell) → Contains all x → HasCell x c → passes_some ls (symbol_of c) ≡ true
  has_some x c a k = elim (split x a) [
    | inl b ↦ (let (n, e, lt) = range_byte ls ds 256 x c (ranges.each x b) k in rw e ((ranges.covers n lt).1 (x, b, subst (λ (z : Cell). HasCell x z) e k)))
    | inr (inl (e, p)) ↦ (let ec : c ≡ cell.Uninit = subst (λ (s : Symbol). HasCell s c) e k in rw ec p)
    | inr (inr (id, m, (j, lt, e, p))) ↦ (let ec : c ≡ cell.Ptr (record { 0 = id }) j = subst (λ (s : Symbol). HasCell s c) e k in rw ec (rw e at p))
  ]

  some_has : (c : Cell) → passes_some ls (symbol_of c) ≡ true → (x : Symbol) × Contains all x × HasCell x c
  some_has (cell.Byte b) p =
      let (l, a, q) = some_to ls (symbol.Bytes b b) p in
      let (x, m, k) = (ranges.covers b (byte_below l b (can l a) q)).0 p in
      (x, Contains-append_left _ refs _ (Contains-append_left _ (uninit_of ls) _ m), k)
  some_has cell.Uninit p = (symbol.Uninit, Contains-append_left _ refs _ (Contains-append_right xs _ _ (rw p (here []))), refl)
  some_has (cell.Ptr r k) p =
      let (l, a, q) = some_to ls (symbol.Ptr r k) p in
      let leaf : Contains ls (label.Leaf r k) = subst (λ (z : Label). Contains ls z) (passes_own l r k q) a in
      let below : k < 8 = (let x = (can (label.Leaf r k) leaf).1 in let y = h.small.1 in omega arith) in
      (symbol.Ptr r k, Contains-append_right (xs ++ uninit_of ls) _ _ (reference_has ls r.0 k (with_ids ls []) (ids_have r k ls [] leaf) below p), refl)

  pub classes_are : AreClasses src from dst to all
  classes_are = record {
    formed = λ x a. elim (split x a) [
      | inl b ↦ (let r = ranges.each x b in let lo = r.formed in let hi = r.below in rw r.is (omega arith, omega arith))
      | inr (inl (e, p)) ↦ rw e tt
      | inr (inr (id, m, (j, lt, e, p))) ↦ rw e tt
    ];
    ordered = order_append (xs ++ uninit_of ls) refs (order_append xs (uninit_of ls) ranges.ordered (uninit_order ls) byte_uninit) (references_order ls (with_ids ls []) (ids_rise ls [] tt)) before_refs;
    covers = λ c. (λ t. some_has c (takes_some c t), λ (x, a, k). some_takes c (has_some x c a k));
    alike = λ A x c e a k leaves. elim (split x a) [
      | inl b ↦ (
          let r = ranges.each x b in
          let (n, ec, lt) = range_byte ls ds 256 x c r k in
          let (lo, hi) = subst (λ (s : Symbol). HasCell s (cell.Byte n)) r.is (subst (λ (z : Cell). HasCell x z) ec k) in
          let uncut : IsUncut e.label r.first (r.last + 1) = elim leaves [ inl (m, f) ↦ r.source e.label (from_label src.edges e from m f) | inr (m, f) ↦ r.target e.label (from_label dst.edges e to m f) ] in
          rw (r.is, ec) (passes_range A e.label r.first r.last n uncut lo hi r.below))
      | inr (inl (ex, p)) ↦ (let ec : c ≡ cell.Uninit = subst (λ (s : Symbol). HasCell s c) ex k in rw (ex, ec) refl)
      | inr (inr (id, m, (j, lt, ex, p))) ↦ (let ec : c ≡ cell.Ptr (record { 0 = id }) j = subst (λ (s : Symbol). HasCell s c) ex k in rw (ex, ec) refl)
    ];
  }
    where
      byte_uninit : (x y : Symbol) (c d : Cell) → Contains xs x → Contains (uninit_of ls) y → HasCell x c → HasCell y d → cell_less c d ≡ true
      byte_uninit x y c d m b hc hd =
          let (n, ec, lt) = range_byte ls ds 256 x c (ranges.each x m) hc in
          let ed : d ≡ cell.Uninit = subst (λ (s : Symbol). HasCell s d) (uninit_is ls y b).0 hd in
          rw (ec, ed) refl

      before_refs : (x y : Symbol) (c d : Cell) → Contains (xs ++ uninit_of ls) x → Contains refs y → HasCell x c → HasCell y d → cell_less c d ≡ true
      before_refs x y c d m b hc hd =
          let (id, o, (j, lt, e, p)) = reference_is ls (with_ids ls []) y b in
          let ed : d ≡ cell.Ptr (record { 0 = id }) j = subst (λ (s : Symbol). HasCell s d) e hd in
          elim (Contains-append_cases xs (uninit_of ls) _ m) [
            | inl a ↦ (let (n, ec, lt2) = range_byte ls ds 256 x c (ranges.each x a) hc in rw (ec, ed) refl)
            | inr a ↦ (let ec : c ≡ cell.Uninit = subst (λ (s : Symbol). HasCell s c) (uninit_is ls x a).0 hc in rw (ec, ed) refl)
          ]

pub classed : (src : Automaton) (from : List ℕ) (dst : Automaton) (to : List ℕ) (h : IsAutomaton src) (s1 s2 s3 s4 : List Label) (xs ys zs : List Symbol) → s1 ≡ labels_from src.edges from → s2 ≡ labels_from dst.edges to → s3 ≡ labels_from src.edges from → s4 ≡ labels_from src.edges from
    → AreRanges s1 s2 256 xs → ys ≡ xs ++ uninit_of s3 → zs ≡ ys ++ references_of s4 (with_ids s4 []) → AreClasses src from dst to zs
classed src from dst to h s1 s2 s3 s4 xs ys zs e1 e2 e3 e4 r ey ez =
    let ls = labels_from src.edges from in
    let ranges = rw (e1, e2) at r in
    let q : zs ≡ (xs ++ uninit_of ls) ++ references_of ls (with_ids ls []) = ez ∙ ap (λ (z : List Label). ys ++ references_of z (with_ids z [])) e4 ∙ ap (λ (z : List Symbol). z ++ references_of ls (with_ids ls [])) (ey ∙ ap (λ (z : List Label). xs ++ uninit_of z) e3) in
    rw q (classes_are src from dst to h xs ranges)
