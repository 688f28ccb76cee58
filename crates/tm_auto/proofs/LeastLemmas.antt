-- The least cell that leads on from a set.
use Rattle.std.proofs.Common.{◌≡◌, ℕ, ◌<◌, ◌≤◌, inl, inr, Bool, false, nat_lt, List, [], ◌∷◌, length, get_or, refl, sym, ap, ◌∙◌, subst, arith, eq-eqb}
use Rattle.std.proofs.lemmas.Bool.{eqb-true}
use Rattle.tm_base.specs.declared.cell.Cell.{Cell}
use Rattle.tm_base.specs.declared.cell.Cell.TheVariants as cell
use Rattle.tm_base.specs.Orders.{cell_less}
use Rattle.tm_base.specs.Transmutes.{holds, is_itself}
use Rattle.tm_base.proofs.OrderLemmas.{cell_less-asym}
use Rattle.tm_base.proofs.JudgedLemmas.{Contains-none}
use Rattle.tm_auto.specs.declared.edge.Edge.{Edge}
use Rattle.tm_auto.specs.declared.edge.Label.{Label}
use Rattle.tm_auto.specs.declared.edge.Label.TheVariants as label
use Rattle.tm_auto.specs.declared.edge.Symbol.{Symbol}
use Rattle.tm_auto.specs.declared.edge.Symbol.TheVariants as symbol
use Rattle.tm_auto.specs.Automata.{Automaton, IsAutomaton, AreStates, IsStep}
use Rattle.tm_auto.specs.Classes.{HasCell, IsFormed, TakesFrom, AreClasses}
use Rattle.tm_auto.specs.Labels.{Takes, CanTake}
use Rattle.tm_auto.specs.Least.{first_cell, least_of, IsLeastCell}
use Rattle.tm_auto.specs.OnlyEdges.{IsOnlyEdge}
use Rattle.tm_auto.proofs.ContainsLemmas.{here, first_or_later}
use Rattle.tm_auto.proofs.SetLemmas.{bool_cases}

pub first_in : (x : Symbol) → IsFormed x → HasCell x (first_cell x)
first_in (symbol.Bytes first last) f = (omega arith, f.0)
first_in symbol.Uninit f = refl
first_in (symbol.Ptr r k) f = refl

pub cell_less-irreflexive : (c : Cell) → cell_less c c ≡ false
cell_less-irreflexive c = elim (bool_cases (cell_less c c)) [ inl a ↦ (let b = cell_less-asym c c a in cc) | inr a ↦ a ]

not_below : (b a : ℕ) → a ≤ b → nat_lt b a ≡ false
not_below b a l = grind arith

-- no cell of a symbol is less than its first
pub first_least : (x : Symbol) (c : Cell) → HasCell x c → cell_less c (first_cell x) ≡ false
first_least (symbol.Bytes first last) (cell.Byte b) h = not_below b first h.0
first_least (symbol.Bytes first last) cell.Uninit h = absurd h
first_least (symbol.Bytes first last) (cell.Ptr r k) h = absurd h
first_least symbol.Uninit c h = subst (λ (z : Cell). cell_less z cell.Uninit ≡ false) (sym h) refl
first_least (symbol.Ptr r k) c h = subst (λ (z : Cell). cell_less z (cell.Ptr r k) ≡ false) (sym h) (cell_less-irreflexive (cell.Ptr r k))

-- ---- of several edges: the first class

pub some_class : (src dst : Automaton) (from to : List ℕ) (xs : List Symbol) → AreClasses src from dst to xs → (c : Cell) × TakesFrom src from c → 0 < length xs
some_class src dst from to [] a (c, t) = let (x, m, h) = (a.covers c).0 t in absurd (Contains-none _ m)
some_class src dst from to (x ∷ xs) a t = omega arith

pub first_class : (src dst : Automaton) (from to : List ℕ) (xs : List Symbol) (d : Symbol) → AreClasses src from dst to xs → 0 < length xs → IsLeastCell src from (first_cell (get_or xs 0 d))
first_class src dst from to [] d a l = absurd (omega arith)
first_class src dst from to (x ∷ xs) d a l = record {
  taken = (a.covers (first_cell x)).1 (x, here _, first_in x (a.formed x (here _)));
  least = λ c t. let (y, m, h) = (a.covers c).0 t in elim (first_or_later x xs m) [
    | inl e ↦ first_least x c (subst (λ (z : Symbol). HasCell z c) e h)
    | inr n ↦ cell_less-asym (first_cell x) c (a.ordered.0 y (first_cell x) c n (first_in x (a.formed x (here _))) h)
  ];
}

-- ---- of one edge

least_taken : (pointer : ℕ) (l : Label) → CanTake pointer l → Takes (holds is_itself) l (least_of l)
least_taken pointer (label.Bytes low high) k = (low, omega arith, k.0, refl)
least_taken pointer label.Free k = (omega arith)
least_taken pointer (label.Leaf t j) k = (t.0, eq-eqb t.0 t.0 refl, refl)

taken_least : (l : Label) (c : Cell) → Takes (holds is_itself) l c → cell_less c (least_of l) ≡ false
taken_least (label.Bytes low high) c (b, lo, hi, e) = subst (λ (z : Cell). cell_less z (cell.Byte low) ≡ false) (sym e) (not_below b low lo)
taken_least label.Free (cell.Byte b) k = not_below b 0 (omega arith)
taken_least label.Free cell.Uninit k = refl
taken_least label.Free (cell.Ptr r j) k = absurd k
taken_least (label.Leaf t j) c (x, same, e) =
    let is : c ≡ cell.Ptr t j = e ∙ ap (λ (z : ℕ). cell.Ptr (record { 0 = z }) j) (eqb-true x t.0 same) in
    subst (λ (z : Cell). cell_less z (cell.Ptr t j) ≡ false) (sym is) (cell_less-irreflexive (cell.Ptr t j))

pub only_least : (auto : Automaton) (from : List ℕ) (e : Edge) → IsAutomaton auto → IsOnlyEdge auto from e → IsLeastCell auto from (least_of e.label)
only_least auto from e hs one = record {
  taken = (e, (one e).1 refl, least_taken auto.pointer e.label (hs.takes e ((one e).1 refl).0));
  least = λ c (f, leaves, t). taken_least e.label c (subst (λ (z : Edge). Takes (holds is_itself) z.label c) ((one f).0 leaves) t);
}

-- a step leads to states
pub step_states : (A : ℕ → ℕ → Bool) (auto : Automaton) (from : List ℕ) (x : Symbol) (set : List ℕ) → IsAutomaton auto → IsStep A auto from x set → AreStates auto set
step_states A auto from x set hs step s m = let (e, ea, ef, ep, to) = (step.states s).0 m in let d = hs.down e ea in omega arith
