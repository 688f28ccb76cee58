-- Which states a step and a list of cells reach.
use Rattle.std.proofs.Common.{◌≡◌, ℕ, ◌<◌, ◌≤◌, inl, inr, ◌↔◌, Bool, true, false, cond, ◌&&◌, nat_le, nat_lt, List, [], ◌∷◌, refl, sym, ap, subst, arith, eq-eqb, Contains}
use Rattle.std.specs.Prelude.{◌==◌}
use Rattle.std.specs.List.Sorted.{IsStrictlyIncreasing}
use Rattle.std.proofs.lemmas.Bool.{and_from}
use Rattle.tm_base.specs.declared.cell.Cell.{Cell}
use Rattle.tm_base.specs.declared.cell.Cell.TheVariants.{Byte, Uninit, Ptr}
use Rattle.tm_base.specs.Cells.{Word}
use Rattle.tm_base.specs.Transmutes.{holds}
use Rattle.tm_base.proofs.JudgedLemmas.{Contains-none}
use Rattle.tm_auto.specs.declared.edge.Edge.{Edge}
use Rattle.tm_auto.specs.declared.edge.Label.{Label}
use Rattle.tm_auto.specs.declared.edge.Label.TheVariants.{Bytes, Free, Leaf}
use Rattle.tm_auto.specs.declared.edge.Symbol.{Symbol}
use Rattle.tm_auto.specs.Labels.{Takes}
use Rattle.tm_auto.specs.Paths.{SpellsTo}
use Rattle.tm_auto.specs.Sets.{has_state, with_state, passes, next, symbol_of, reached_from}
use Rattle.tm_auto.proofs.ContainsLemmas.{here, there, first_or_later}
use Rattle.tm_auto.proofs.SetLemmas.{bool_cases, same_at, has_to, to_has, with_state_to, with_state_has, with_state_keeps, with_state-IsStrictlyIncreasing}

pub both_true : (a b : Bool) → (a && b) ≡ true → (a ≡ true) × (b ≡ true)
both_true true b e = (refl, e)
both_true false b e = cc

pub lt_test : (a b : ℕ) → nat_lt a b ≡ true → a < b
lt_test a b e = grind arith

lt_holds : (a b : ℕ) → a < b → nat_lt a b ≡ true
lt_holds a b h = grind arith

pub le_test : (a b : ℕ) → nat_le a b ≡ true → a ≤ b
le_test a b e = grind arith

le_holds : (a b : ℕ) → a ≤ b → nat_le a b ≡ true
le_holds a b h = grind arith

abbrev pub byte_at : Cell → ℕ
byte_at (Byte b) = b
byte_at Uninit = 0
byte_at (Ptr r k) = 0

abbrev pub id_at : Cell → ℕ
id_at (Byte b) = 0
id_at Uninit = 0
id_at (Ptr r k) = r.0

abbrev pub place_at : Cell → ℕ
place_at (Byte b) = 0
place_at Uninit = 0
place_at (Ptr r k) = k

-- a label passes what it takes
pub passes_takes : (A : ℕ → ℕ → Bool) (l : Label) (c : Cell) → (passes A l (symbol_of c) ≡ true) ↔ Takes (holds A) l c
passes_takes A (Bytes low high) (Byte b) = (
  λ e. let (p, q) = both_true (nat_le low b) (nat_le b high) e in (b, le_test low b p, le_test b high q, refl),
  λ (y, p, q, e). let z = ap byte_at e in and_from _ _ (le_holds low b (omega arith)) (le_holds b high (omega arith)),
)
passes_takes A (Bytes low high) Uninit = (λ e. cc, λ (y, p, q, e). cc)
passes_takes A (Bytes low high) (Ptr r k) = (λ e. cc, λ (y, p, q, e). cc)
passes_takes A Free (Byte b) = (λ e. lt_test b 256 e, λ h. lt_holds b 256 h)
passes_takes A Free Uninit = (λ e. tt, λ h. refl)
passes_takes A Free (Ptr r k) = (λ e. cc, λ h. absurd h)
passes_takes A (Leaf t j) (Byte b) = (λ e. cc, λ (y, p, e). cc)
passes_takes A (Leaf t j) Uninit = (λ e. cc, λ (y, p, e). cc)
passes_takes A (Leaf t j) (Ptr r k) = (
  λ e. let (q, p) = both_true (k == j) (A r.0 t.0) e in (r.0, p, ap (λ (z : ℕ). Ptr r z) (same_at k j q)),
  λ (y, p, e). and_from _ _ (eq-eqb k j (ap place_at e)) (subst (λ (z : ℕ). A z t.0 ≡ true) (sym (ap id_at e)) p),
)

module _ (A : ℕ → ℕ → Bool) where
  pub next_to : (es : List Edge) (from : List ℕ) (x : Symbol) (t : ℕ) → Contains (next A es from x) t → (e : Edge) × Contains es e × Contains from e.from × (passes A e.label x ≡ true) × (e.to ≡ t)
  next_to [] from x t h = absurd (Contains-none _ h)
  next_to (e ∷ es) from x t h = elim (bool_cases (has_state from e.from && passes A e.label x)) [
    | inl a ↦ (
        let h2 = subst (λ (b : Bool). Contains (cond b (with_state e.to (next A es from x)) (next A es from x)) t) a h in
        elim (with_state_to e.to (next A es from x) t h2) [
          | inl q ↦ (let (u, v) = both_true (has_state from e.from) (passes A e.label x) a in (e, here _, has_to from e.from u, v, sym q))
          | inr k ↦ (let (f, fa, ff, ft, fq) = next_to es from x t k in (f, there _ _ fa, ff, ft, fq))
        ])
    | inr a ↦ (
        let h2 = subst (λ (b : Bool). Contains (cond b (with_state e.to (next A es from x)) (next A es from x)) t) a h in
        let (f, fa, ff, ft, fq) = next_to es from x t h2 in (f, there _ _ fa, ff, ft, fq))
  ]

  pub to_next : (es : List Edge) (from : List ℕ) (x : Symbol) (e : Edge) → Contains es e → Contains from e.from → passes A e.label x ≡ true → Contains (next A es from x) e.to
  to_next [] from x f h m t = absurd (Contains-none _ h)
  to_next (e ∷ es) from x f h m t = elim (first_or_later _ _ h) [
    | inl q ↦ subst (λ (d : Edge). Contains (next A (d ∷ es) from x) f.to) q (rw (to_has from f.from m, t) (with_state_has f.to (next A es from x)))
    | inr k ↦ elim (bool_cases (has_state from e.from && passes A e.label x)) [
      | inl a ↦ rw a (with_state_keeps e.to (next A es from x) f.to (to_next es from x f k m t))
      | inr a ↦ rw a (to_next es from x f k m t)
    ]
  ]

  pub next-IsStrictlyIncreasing : (es : List Edge) (from : List ℕ) (x : Symbol) → IsStrictlyIncreasing (next A es from x)
  next-IsStrictlyIncreasing [] from x = λ k l. absurd (omega arith)
  next-IsStrictlyIncreasing (e ∷ es) from x = elim (bool_cases (has_state from e.from && passes A e.label x)) [
    | inl a ↦ rw a (with_state-IsStrictlyIncreasing e.to (next A es from x) (next-IsStrictlyIncreasing es from x))
    | inr a ↦ rw a (next-IsStrictlyIncreasing es from x)
  ]

  pub reached_to : (es : List Edge) (states : List ℕ) (w : Word) (s : ℕ) → Contains (reached_from A es states w) s → (a : ℕ) × Contains states a × SpellsTo (holds A) es w a s
  reached_to es states [] s h = (s, h, refl)
  reached_to es states (c ∷ w) s h =
      let (b, m, r) = reached_to es (next A es states (symbol_of c)) w s h in
      let (e, ea, ef, et, eq) = next_to es states (symbol_of c) b m in
      (e.from, ef, (e, ea, refl, (passes_takes A e.label c).0 et, subst (λ (z : ℕ). SpellsTo (holds A) es w z s) (sym eq) r))

  pub to_reached : (es : List Edge) (states : List ℕ) (w : Word) (a s : ℕ) → Contains states a → SpellsTo (holds A) es w a s → Contains (reached_from A es states w) s
  to_reached es states [] a s m h = subst (λ (z : ℕ). Contains states z) h m
  to_reached es states (c ∷ w) a s m (e, ea, ef, et, r) = to_reached es (next A es states (symbol_of c)) w e.to s (to_next es states (symbol_of c) e ea (subst (λ (z : ℕ). Contains states z) (sym ef) m) ((passes_takes A e.label c).1 et)) r
