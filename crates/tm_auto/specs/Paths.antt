-- Paths through edges, and what they spell. The end of an automaton is its state 0.
use Rattle.std.specs.Prelude.{◌≡◌, ℕ, zero, suc, List, [], ◌∷◌, Contains}
use Rattle.tm_base.specs.Cells.{Word}
use Rattle.tm_auto.specs.declared.edge.Edge.{Edge}
use Rattle.tm_auto.specs.Labels.{Takes}

-- a path from one state to the other spells the word
abbrev pub SpellsTo : (ℕ → ℕ → Type 0) → List Edge → Word → ℕ → ℕ → Type 0
SpellsTo A es [] s t = s ≡ t
SpellsTo A es (c ∷ w) s t = (e : Edge) × Contains es e × (e.from ≡ s) × Takes A e.label c × SpellsTo A es w e.to t

-- a path from the state to the end does
abbrev pub Spells : (ℕ → ℕ → Type 0) → List Edge → Word → ℕ → Type 0
Spells A es w s = SpellsTo A es w s 0

-- a path from one of the states to the end does
pub record SomeSpells (A : ℕ → ℕ → Type 0) (es : List Edge) (states : List ℕ) (w : Word) : Type 0 where
  pub state : ℕ
  pub among : Contains states state
  pub spells : Spells A es w state

-- a path of so many edges leads from one state to the other
abbrev pub IsPath : List Edge → ℕ → ℕ → ℕ → Type 0
IsPath es zero s t = s ≡ t
IsPath es (suc k) s t = (e : Edge) × Contains es e × (e.from ≡ s) × IsPath es k e.to t
