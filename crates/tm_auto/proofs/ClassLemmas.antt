-- Why the classes that are made are those of two sets.
use Rattle.std.proofs.Common.{◌≡◌, ℕ, zero, suc, ◌+◌, ◌-◌, ◌<◌, ◌≤◌, ◌⊎◌, inl, inr, Bool, true, false, ◌&&◌, nat_le, nat_lt, List, [], ◌∷◌, ◌++◌, refl, sym, ap, ◌∙◌, subst, arith, append-nil, append_assoc, length, take, drop, get_or, add-one, drop-cons, Contains}
use Rattle.std.specs.Prelude.{◌||◌, ◌==◌}
use Rattle.std.proofs.Math.Seq.{take-suc}
use Rattle.std.proofs.lemmas.Bool.{cases_lt, or_left, or_right}
use Rattle.std.proofs.lemmas.List.Elements.{Contains-append_left, Contains-append_right, Contains-append_cases}
use Rattle.tm_base.specs.declared.cell.Cell.{Cell}
use Rattle.tm_base.specs.declared.cell.Cell.TheVariants as cell
use Rattle.tm_base.specs.declared.cell.RefId.{RefId}
use Rattle.tm_base.specs.Orders.{cell_less}
use Rattle.tm_base.specs.Transmutes.{is_itself}
use Rattle.tm_base.proofs.JudgedLemmas.{Contains-none, Contains-one}
use Rattle.tm_auto.specs.declared.edge.Edge.{Edge}
use Rattle.tm_auto.specs.declared.edge.Label.{Label}
use Rattle.tm_auto.specs.declared.edge.Label.TheVariants as label
use Rattle.tm_auto.specs.declared.edge.Symbol.{Symbol}
use Rattle.tm_auto.specs.declared.edge.Symbol.TheVariants as symbol
use Rattle.tm_auto.specs.Automata.{edges_from}
use Rattle.tm_auto.specs.Classes.{HasCell, AreInOrder, IsUncut, AreUncut, passes_some, IsRange, AreRanges, labels_in, labels_from, places_of}
use Rattle.tm_auto.specs.Sets.{passes}
use Rattle.tm_auto.proofs.ContainsLemmas.{here, there, first_or_later}
use Rattle.tm_auto.proofs.SetLemmas.{bool_cases, same_at}
use Rattle.tm_auto.proofs.StepLemmas.{byte_at, both_true}

le_test : (a b : ℕ) → nat_le a b ≡ true → a ≤ b
le_test a b e = grind arith

le_holds : (a b : ℕ) → a ≤ b → nat_le a b ≡ true
le_holds a b h = grind arith

le_fails : (a b : ℕ) → b < a → nat_le a b ≡ false
le_fails a b h = grind arith

pub lt_holds : (a b : ℕ) → a < b → nat_lt a b ≡ true
lt_holds a b h = grind arith

le_same : (p q r s : ℕ) → (p ≤ q → r ≤ s) → (r ≤ s → p ≤ q) → nat_le p q ≡ nat_le r s
le_same p q r s to from = elim (cases_lt q p) [
  | inl l ↦ elim (cases_lt s r) [
    | inl k ↦ le_fails p q l ∙ sym (le_fails r s k)
    | inr k ↦ (let x = from k in absurd (omega arith))
  ]
  | inr l ↦ le_holds p q l ∙ sym (le_holds r s (to l))
]

-- ---- what labels don't cut

uncut_less : (l : Label) (a e f : ℕ) → f ≤ e → IsUncut l a e → IsUncut l a f
uncut_less (label.Bytes low high) a e f le h = (λ x. let y = h.0 x in omega arith, λ x. let y = h.1 x in omega arith)
uncut_less label.Free a e f le h = tt
uncut_less (label.Leaf t k) a e f le h = tt

pub all_less : (ls : List Label) (a e f : ℕ) → f ≤ e → AreUncut ls a e → AreUncut ls a f
all_less ls a e f le h l m = uncut_less l a e f le (h l m)

pub uncut_more : (ls : List Label) (l : Label) (a e f : ℕ) → f ≤ e → AreUncut ls a e → IsUncut l a f → AreUncut (ls ++ l ∷ []) a f
uncut_more ls l a e f le h k m am = elim (Contains-append_cases ls (l ∷ []) _ am) [ inl b ↦ uncut_less m a e f le (h m b) | inr b ↦ subst (λ (z : Label). IsUncut z a f) (Contains-one l m b) k ]

-- a range that a label doesn't cut passes it just as each of its bytes does
pub passes_range : (A : ℕ → ℕ → Bool) (l : Label) (a m b : ℕ) → IsUncut l a (m + 1) → a ≤ b → b ≤ m → m < 256 → passes A l (symbol.Bytes a m) ≡ passes A l (symbol.Bytes b b)
passes_range A (label.Bytes low high) a m b (x, y) lo hi byte =
    let p : nat_le low a ≡ nat_le low b = le_same low a low b (λ h. omega arith) (λ h. elim (cases_lt a low) [ inl l ↦ (let z = x l in omega arith) | inr l ↦ l ]) in
    let q : nat_le m high ≡ nat_le b high = le_same m high b high (λ h. omega arith) (λ h. elim (cases_lt high m) [ inl l ↦ (let z = y (omega arith) in omega arith) | inr l ↦ l ]) in
    ap (λ (z : Bool). z && nat_le m high) p ∙ ap (λ (z : Bool). nat_le low b && z) q
passes_range A label.Free a m b h lo hi byte = lt_holds m 256 byte ∙ sym (lt_holds b 256 (omega arith))
passes_range A (label.Leaf t k) a m b h lo hi byte = refl

some_same : (ls : List Label) (a b : ℕ) → AreUncut ls a (b + 1) → a ≤ b → b < 256 → passes_some ls (symbol.Bytes a a) ≡ passes_some ls (symbol.Bytes b b)
some_same [] a b h le byte = refl
some_same (l ∷ ls) a b h le byte =
    let u = h l (here _) in
    let first = passes_range is_itself l a b b u le (omega arith) byte in
    let second = passes_range is_itself l a b a u (omega arith) le byte in
    let one : passes is_itself l (symbol.Bytes a a) ≡ passes is_itself l (symbol.Bytes b b) = sym second ∙ first in
    ap (λ (z : Bool). z || passes_some ls (symbol.Bytes a a)) one ∙ ap (λ (z : Bool). passes is_itself l (symbol.Bytes b b) || z) (some_same ls a b (λ m am. h m (there _ _ am)) le byte)

-- ---- in order

pub order_more : (xs : List Symbol) (x : Symbol) → AreInOrder xs → ((y : Symbol) (c d : Cell) → Contains xs y → HasCell y c → HasCell x d → cell_less c d ≡ true) → AreInOrder (xs ++ x ∷ [])
order_more [] x h less = (λ y c d m. absurd (Contains-none _ m), tt)
order_more (z ∷ xs) x h less = (
  λ y c d m hc hd. elim (Contains-append_cases xs (x ∷ []) _ m) [ inl b ↦ h.0 y c d b hc hd | inr b ↦ less z c d (here _) hc (subst (λ (s : Symbol). HasCell s d) (sym (Contains-one x y b)) hd) ],
  order_more xs x h.1 (λ y c d m. less y c d (there _ _ m)),
)

-- ---- classes of bytes

pub ranges_none : (src dst : List Label) (xs : List Symbol) → xs ≡ [] → AreRanges src dst 0 xs
ranges_none src dst xs e = rw e (record { each = λ x m. absurd (Contains-none _ m); ordered = tt; covers = λ b l. absurd (omega arith) })

range_more : (src dst : List Label) (at end : ℕ) (x : Symbol) → at ≤ end → IsRange src dst at x → IsRange src dst end x
range_more src dst at end x le r = record { first = r.first; last = r.last; is = r.is; formed = r.formed; below = let y = r.below in omega arith; source = r.source; target = r.target }

-- the bytes of a range
pub range_byte : (src dst : List Label) (at : ℕ) (x : Symbol) (c : Cell) → IsRange src dst at x → HasCell x c → (b : ℕ) × (c ≡ cell.Byte b) × (b < at)
range_byte src dst at x (cell.Byte b) r h = let (lo, hi) = subst (λ (s : Symbol). HasCell s (cell.Byte b)) r.is h in (b, refl, (let y = r.below in omega arith))
range_byte src dst at x cell.Uninit r h = absurd (subst (λ (s : Symbol). HasCell s cell.Uninit) r.is h)
range_byte src dst at x (cell.Ptr t k) r h = absurd (subst (λ (s : Symbol). HasCell s (cell.Ptr t k)) r.is h)

module _ (src dst : List Label) (at end : ℕ) (xs : List Symbol) (h : AreRanges src dst at xs) (lt : at < end) (most : end ≤ 256) (su : AreUncut src at end) (du : AreUncut dst at end) where
  above : (b : ℕ) → at ≤ b → b < end → passes_some src (symbol.Bytes at at) ≡ passes_some src (symbol.Bytes b b)
  above b lo hi = some_same src at b (all_less src at end (b + 1) (omega arith) su) lo (omega arith)

  abbrev new : Symbol
  new = symbol.Bytes at (end - 1)

  pub ranges_skip : passes_some src (symbol.Bytes at at) ≡ false → AreRanges src dst end xs
  ranges_skip none = record {
    each = λ x m. range_more src dst at end x (omega arith) (h.each x m);
    ordered = h.ordered;
    covers = λ b l. elim (cases_lt b at) [
      | inl lo ↦ h.covers b lo
      | inr lo ↦ (
        λ e. (let q = sym e ∙ sym (above b lo l) ∙ none in cc),
        λ (x, m, c). (let (y, e, k) = range_byte src dst at x (cell.Byte b) (h.each x m) c in let q : b ≡ y = ap byte_at e in absurd (omega arith)),
      )
    ];
  }

  pub ranges_add : passes_some src (symbol.Bytes at at) ≡ true → AreRanges src dst end (xs ++ symbol.Bytes at (end - 1) ∷ [])
  ranges_add some =
      let last : (end - 1) + 1 ≡ end = omega arith in
      record {
        each = λ x m. elim (Contains-append_cases xs (new ∷ []) _ m) [
          | inl a ↦ range_more src dst at end x (omega arith) (h.each x a)
          | inr a ↦ record { first = at; last = end - 1; is = sym (Contains-one new x a); formed = omega arith; below = omega arith; source = rw last su; target = rw last du }
        ];
        ordered = order_more xs new h.ordered (λ y c d m hc hd. less y c d (h.each y m) hc hd);
        covers = λ b l. elim (cases_lt b at) [
          | inl lo ↦ (
            λ e. let (x, m, c) = (h.covers b lo).0 e in (x, Contains-append_left _ (new ∷ []) _ m, c),
            λ (x, m, c). elim (Contains-append_cases xs (new ∷ []) _ m) [
              | inl a ↦ (h.covers b lo).1 (x, a, c)
              | inr a ↦ (let (p, q) = subst (λ (s : Symbol). HasCell s (cell.Byte b)) (sym (Contains-one new x a)) c in absurd (omega arith))
            ],
          )
          | inr lo ↦ (λ e. (new, Contains-append_right xs _ _ (here []), (lo, omega arith)), λ k. sym (above b lo l) ∙ some)
        ];
      }
    where
      less : (y : Symbol) (c d : Cell) → IsRange src dst at y → HasCell y c → HasCell new d → cell_less c d ≡ true
      less y c (cell.Byte n) r hc (lo, hi) = let (b, e, k) = range_byte src dst at y c r hc in rw e (lt_holds b n (omega arith))
      less y c cell.Uninit r hc hd = absurd hd
      less y c (cell.Ptr t k) r hc hd = absurd hd

-- ---- bytes of references

both_or : (a b : Bool) → (a || b) ≡ true → (a ≡ true) ⊎ (b ≡ true)
both_or true b e = inl refl
both_or false b e = inr e

pub some_to : (ls : List Label) (x : Symbol) → passes_some ls x ≡ true → (l : Label) × Contains ls l × (passes is_itself l x ≡ true)
some_to [] x e = cc
some_to (l ∷ ls) x e = elim (both_or (passes is_itself l x) (passes_some ls x) e) [
  | inl p ↦ (l, here _, p)
  | inr p ↦ (let (m, a, q) = some_to ls x p in (m, there _ _ a, q))
]

pub to_some : (ls : List Label) (x : Symbol) (l : Label) → Contains ls l → passes is_itself l x ≡ true → passes_some ls x ≡ true
to_some [] x l a p = absurd (Contains-none _ a)
to_some (m ∷ ls) x l a p = elim (first_or_later _ _ a) [
  | inl e ↦ or_left (passes is_itself m x) (passes_some ls x) (subst (λ (z : Label). passes is_itself z x ≡ true) e p)
  | inr b ↦ or_right (passes is_itself m x) (passes_some ls x) (to_some ls x l b p)
]

-- under the test of equal references a label passes a reference's byte where it is that byte's own
pub passes_own : (l : Label) (r : RefId) (k : ℕ) → passes is_itself l (symbol.Ptr r k) ≡ true → l ≡ label.Leaf r k
passes_own (label.Bytes low high) r k e = cc
passes_own label.Free r k e = cc
passes_own (label.Leaf t j) r k e =
    let (p, q) = both_true (k == j) (r.0 == t.0) e in
    let same : t ≡ r = ap (λ (z : ℕ). record { 0 = z }) (sym (same_at r.0 t.0 q)) in
    rw (same, ← same_at k j p) refl

-- where they begin, and that they rise
pub places_is : (ls : List Label) (id n : ℕ) (x : Symbol) → Contains (places_of ls id n) x → (k : ℕ) × (k < n) × (x ≡ symbol.Ptr (record { 0 = id }) k) × (passes_some ls x ≡ true)
places_is ls id zero x a = absurd (Contains-none _ a)
places_is ls id (suc k) x a = elim (bool_cases (passes_some ls (symbol.Ptr (record { 0 = id }) k))) [
  | inl p ↦ elim (Contains-append_cases (places_of ls id k) (symbol.Ptr (record { 0 = id }) k ∷ []) _ (rw p at a)) [
    | inl b ↦ (let (j, l, e, q) = places_is ls id k x b in (j, omega arith, e, q))
    | inr b ↦ (let e = sym (Contains-one (symbol.Ptr (record { 0 = id }) k) x b) in (k, omega arith, e, rw e p))
  ]
  | inr p ↦ (let (j, l, e, q) = places_is ls id k x (subst (λ z. Contains z x) (append-nil (places_of ls id k)) (rw p at a)) in (j, omega arith, e, q))
]

pub places_has : (ls : List Label) (id n k : ℕ) → k < n → passes_some ls (symbol.Ptr (record { 0 = id }) k) ≡ true → Contains (places_of ls id n) (symbol.Ptr (record { 0 = id }) k)
places_has ls id zero k l p = absurd (omega arith)
places_has ls id (suc n) k l p = elim (cases_lt k n) [
  | inl lt ↦ Contains-append_left _ _ _ (places_has ls id n k lt p)
  | inr ge ↦ (let e : n ≡ k = omega arith in rw (e, p) (Contains-append_right (places_of ls id k) _ _ (here [])))
]

-- ---- turn by turn

pub uncut_turn : (ls : List Label) (i : ℕ) (d : Label) (a e f : ℕ) → i < length ls → f ≤ e → AreUncut (take i ls) a e → IsUncut (get_or ls i d) a f → AreUncut (take (i + 1) ls) a f
uncut_turn ls i d a e f l le h k = subst (λ (z : List Label). AreUncut z a f) (sym (take_at ls i d l)) (uncut_more (take i ls) (get_or ls i d) a e f le h k)
  where
    take_at : (ls : List Label) (i : ℕ) (d : Label) → i < length ls → take (i + 1) ls ≡ take i ls ++ get_or ls i d ∷ []
    take_at ls i d l = rw add-one (take-suc ls i d l)

pub labels_turn : (ls : List Label) (es : List Edge) (ss : List ℕ) (i : ℕ) → i < length ss → (ls ++ labels_in (edges_from (get_or ss i 0) es)) ++ labels_from es (drop (i + 1) ss) ≡ ls ++ labels_from es (drop i ss)
labels_turn ls es ss i l =
    let step : drop i ss ≡ get_or ss i 0 ∷ drop (i + 1) ss = rw add-one (drop-cons ss i 0 l) in
    append_assoc ls (labels_in (edges_from (get_or ss i 0) es)) (labels_from es (drop (i + 1) ss)) ∙ ap (λ (z : List ℕ). ls ++ labels_from es z) (sym step)

pub labels_done : (ls all : List Label) (es : List Edge) (ss : List ℕ) (i : ℕ) → length ss ≤ i → ls ++ labels_from es (drop i ss) ≡ all → ls ≡ all
labels_done ls all es ss i l h = sym (append-nil ls) ∙ ap (λ (z : List ℕ). ls ++ labels_from es z) (sym (none ss i l)) ∙ h
  where
    none : (ss : List ℕ) (i : ℕ) → length ss ≤ i → drop i ss ≡ []
    none [] zero l = refl
    none [] (suc i) l = refl
    none (s ∷ ss) zero l = absurd (omega arith)
    none (s ∷ ss) (suc i) l = none ss i (omega arith)
