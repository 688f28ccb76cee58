-- What an automaton is, and what its words are.
use Rattle.std.specs.Prelude.{◌≡◌, ◌≢◌, ℕ, suc, Bool, IsTrue, ◌^◌, ◌<◌, ◌≤◌, ◌⊎◌, ◌↔◌, ◌==◌, filter, List, [], ◌∷◌, ◌++◌, length, Contains}
use Rattle.std.specs.List.Sorted.{IsStrictlyIncreasing}
use Rattle.tm_base.specs.declared.cell.Cell.{Cell}
use Rattle.tm_base.specs.declared.cell.Cell.TheVariants.{Ptr}
use Rattle.tm_base.specs.declared.cell.RefId.{RefId}
use Rattle.tm_base.specs.Cells.{Word, own, OrOwn}
use Rattle.tm_base.specs.Transmutes.{holds, is_itself}
use Rattle.tm_auto.specs.declared.edge.Edge.{Edge}
use Rattle.tm_auto.specs.declared.edge.Label.TheVariants.{Leaf}
use Rattle.tm_auto.specs.declared.edge.Symbol.{Symbol}
use Rattle.tm_auto.specs.Joined.{IsJoined, IsUnbroken, HasNoOwn}
use Rattle.tm_auto.specs.Labels.{CanTake, Begins, Joins}
use Rattle.tm_auto.specs.Paths.{SpellsTo, Spells, SomeSpells, IsPath}
use Rattle.tm_auto.specs.Sets.{passes, reached_from, symbol_of}

-- States are the numbers below `states`, and 0 is the end. Each word has `size` cells, and a reference
-- in it `pointer` of them.
pub record Automaton : Type 0 where
  pub states : ℕ
  pub edges : List Edge
  pub starts : List ℕ
  pub size : ℕ
  pub pointer : ℕ

-- a word: a joined list of cells that the labels of a path from a start to the end spell
pub record AutoWord (A : ℕ → ℕ → Type 0) (auto : Automaton) (w : Word) : Type 0 where
  pub joined : IsJoined w
  pub reaches : SomeSpells A auto.edges auto.starts w

-- Some word begins with the list, where a reference may also hold itself.
abbrev pub IsViable : (ℕ → ℕ → Type 0) → Automaton → Word → Type 0
IsViable A auto w = (v : Word) × AutoWord (OrOwn A) auto (w ++ v)

-- the edges that leave a state, in order
abbrev pub edges_from : ℕ → List Edge → List Edge
edges_from s es = filter (λ e. e.from == s) es

-- the states that a list of cells reaches from the starts
abbrev pub reached : (ℕ → ℕ → Bool) → Automaton → Word → List ℕ
reached A auto w = reached_from A auto.edges auto.starts w

-- a path of so many edges leads from a start to the state
pub record IsInLayer (auto : Automaton) (k s : ℕ) : Type 0 where
  pub start : ℕ
  pub among : Contains auto.starts start
  pub path : IsPath auto.edges k start s

abbrev pub HasOneStateALayer : Automaton → Type 0
HasOneStateALayer auto = (k s t : ℕ) → IsInLayer auto k s → IsInLayer auto k t → s ≡ t

-- a start, or a state to which an edge leads
abbrev pub IsEntered : List Edge → List ℕ → ℕ → Type 0
IsEntered es starts s = Contains starts s ⊎ ((e : Edge) × Contains es e × (e.to ≡ s))

-- no edge stands behind one that leaves a later state
abbrev pub IsOrdered : List Edge → Type 0
IsOrdered [] = Unit {0}
IsOrdered (e ∷ es) = ((f : Edge) → Contains es f → e.from ≤ f.from) × IsOrdered es

-- What every automaton has, said of its edges, of two that meet, and of its words.
pub record IsAutomaton (auto : Automaton) : Type 0 where
  pub down : (e : Edge) → Contains auto.edges e → (e.to < e.from) × (e.from < auto.states)
  pub ordered : IsOrdered auto.edges
  pub left : (s : ℕ) → 0 < s → s < auto.states → (e : Edge) × Contains auto.edges e × (e.from ≡ s)
  pub entered : (s : ℕ) → s < auto.states → IsEntered auto.edges auto.starts s
  pub takes : (e : Edge) → Contains auto.edges e → CanTake auto.pointer e.label
  pub joins : (e f : Edge) → Contains auto.edges e → Contains auto.edges f → e.to ≡ f.from → Joins e.label f.label
  pub begins : (e : Edge) → Contains auto.edges e → Contains auto.starts e.from → Begins e.label
  pub small : (0 < auto.pointer) × (auto.pointer ≤ 8)
  pub rising : IsStrictlyIncreasing auto.starts
  pub one : (s t : ℕ) → Contains auto.starts s → Contains auto.starts t → s ≡ t
  pub below : (s : ℕ) → Contains auto.starts s → s < auto.states
  pub sized : (A : ℕ → ℕ → Bool) (w : Word) → AutoWord (holds A) auto w → length w ≡ auto.size
  pub whole : (A : ℕ → ℕ → Bool) (w : Word) → AutoWord (holds A) auto w → IsUnbroken auto.pointer w

-- a word goes through the state
pub record LiesOnWord (A : ℕ → ℕ → Type 0) (auto : Automaton) (s : ℕ) : Type 0 where
  pub before : Word
  pub behind : Word
  pub start : ℕ
  pub among : Contains auto.starts start
  pub leads : SpellsTo A auto.edges before start s
  pub spells : Spells A auto.edges behind s
  pub word : AutoWord A auto (before ++ behind)

-- Each state lies on a word where a reference may hold itself, and is in one layer: that of its place
-- in the words. The end alone is in the last one.
pub record IsLayered (auto : Automaton) : Type 0 where
  pub lies : (A : ℕ → ℕ → Bool) (s : ℕ) → s < auto.states → LiesOnWord (OrOwn (holds A)) auto s
  pub one : (s j k : ℕ) → IsInLayer auto j s → IsInLayer auto k s → j ≡ k
  pub last : (k s : ℕ) → IsInLayer auto k s → (s ≡ 0) ↔ (k ≡ auto.size)

-- states of the automaton
abbrev pub AreStates : Automaton → List ℕ → Type 0
AreStates auto states = (s : ℕ) → Contains states s → s < auto.states

-- states that so many edges lead to from a start
abbrev pub AreInLayer : Automaton → ℕ → List ℕ → Type 0
AreInLayer auto k states = (s : ℕ) → Contains states s → IsInLayer auto k s

-- an edge that leaves one of the states leads to this one and passes the symbol
abbrev pub StepsTo : (ℕ → ℕ → Bool) → Automaton → List ℕ → Symbol → ℕ → Type 0
StepsTo A auto from symbol s = (e : Edge) × Contains auto.edges e × Contains from e.from × IsTrue (passes A e.label symbol) × (e.to ≡ s)

-- just the states to which a step leads, in rising order
pub record IsStep (A : ℕ → ℕ → Bool) (auto : Automaton) (from : List ℕ) (symbol : Symbol) (set : List ℕ) : Type 0 where
  pub rising : IsStrictlyIncreasing set
  pub states : (s : ℕ) → Contains set s ↔ StepsTo A auto from symbol s

-- an edge that takes the first byte of the target reference leaves one of the states
abbrev pub BeginsReference : Automaton → List ℕ → RefId → Type 0
BeginsReference auto states t = (e : Edge) × Contains auto.edges e × Contains states e.from × (e.label ≡ Leaf t 0)

-- what is taken as a reference is one: its number is below 2 ^ 32
abbrev pub IsOfReferences : (ℕ → ℕ → Bool) → Type 0
IsOfReferences A = (x t : ℕ) → t < 2 ^ 32 → IsTrue (A x t) → x < 2 ^ 32

-- What lists of cells reach. A joined list in which no reference holds itself reaches a state exactly
-- where it is viable, in the middle of a reference too, and a state where a target reference may begin
-- exactly where that reference, holding itself, may stand behind it. Under the test of equal references,
-- as for a source, each list does that begins a word, and what reaches a state is joined. And where a
-- byte of a reference is taken, so is the next: a refused one has place 0.
pub record ReadsWords (auto : Automaton) : Type 0 where
  pub begins : (A : ℕ → ℕ → Bool) → reached A auto [] ≡ auto.starts
  pub steps : (A : ℕ → ℕ → Bool) (w : Word) (c : Cell) (set : List ℕ) → IsStep A auto (reached A auto w) (symbol_of c) set → set ≡ reached A auto (w ++ c ∷ [])
  pub states : (A : ℕ → ℕ → Bool) (w : Word) (s : ℕ) → Contains (reached A auto w) s ↔ ((a : ℕ) × Contains auto.starts a × SpellsTo (holds A) auto.edges w a s)
  pub layer : (A : ℕ → ℕ → Bool) (w : Word) → AreInLayer auto (length w) (reached A auto w)
  pub viable : (A : ℕ → ℕ → Bool) (w : Word) → IsJoined w → HasNoOwn w → (reached A auto w ≢ []) ↔ IsViable (holds A) auto w
  pub opens : (A : ℕ → ℕ → Bool) (w : Word) (t : RefId) → IsOfReferences A → IsJoined w → HasNoOwn w
      → BeginsReference auto (reached A auto w) t ↔ IsViable (holds A) auto (w ++ Ptr (record { 0 = own t.0 }) 0 ∷ [])
  pub source : (w : Word) → (reached is_itself auto w ≢ []) ↔ ((v : Word) × AutoWord (holds is_itself) auto (w ++ v))
  pub joined : (w : Word) → reached is_itself auto w ≢ [] → IsJoined w
  pub onward : (A : ℕ → ℕ → Bool) (w : Word) (r : RefId) (k : ℕ) → suc k < auto.pointer → IsJoined (w ++ Ptr r k ∷ []) → HasNoOwn (w ++ Ptr r k ∷ [])
      → reached A auto (w ++ Ptr r k ∷ []) ≢ [] → reached A auto ((w ++ Ptr r k ∷ []) ++ Ptr r (suc k) ∷ []) ≢ []
