-- What the builder makes. It goes from the end: in front of a state, the target, it puts the words of a
-- tree. The ways by which they begin wait for a state that they leave.
use Rattle.std.specs.Prelude.{◌≡◌, ◌≢◌, ℕ, zero, suc, ◌+◌, ◌^◌, ◌<◌, ◌≤◌, ◌⊎◌, Bool, true, List, [], ◌∷◌, ◌++◌, length, take, drop, Contains}
use Rattle.tm_base.specs.declared.cell.Cell.{Cell}
use Rattle.tm_base.specs.declared.cell.RefId.{RefId}
use Rattle.tm_base.specs.declared.tree.Tree.{Tree}
use Rattle.tm_base.specs.Cells.{Word}
use Rattle.tm_base.specs.Shapes.{leaves_of, HasNoPrivate, HasNoChoice}
use Rattle.tm_base.specs.Transmutes.{holds}
use Rattle.tm_auto.specs.declared.build.Building.{Building}
use Rattle.tm_auto.specs.declared.build.Way.{Way}
use Rattle.tm_auto.specs.declared.edge.Edge.{Edge}
use Rattle.tm_auto.specs.declared.edge.Label.{Label}
use Rattle.tm_auto.specs.declared.edge.Label.TheVariants.{Leaf}
use Rattle.tm_auto.specs.declared.extent.Extent.TheVariants.{Long}
use Rattle.tm_auto.specs.Automata.{IsOrdered}
use Rattle.tm_auto.specs.Labels.{Takes, CanTake, Begins, Joins}
use Rattle.tm_auto.specs.Loose.{LooseWord}
use Rattle.tm_auto.specs.Paths.{Spells}
use Rattle.tm_auto.specs.Shapes.{extent_of}

-- words, for every test of references
abbrev pub Words : Type 1
Words = (ℕ → ℕ → Bool) → Word → Type 0

-- the edges of a state that is given these ways
abbrev pub edges_by : ℕ → List Way → List Edge
edges_by s [] = []
edges_by s (way ∷ ways) = record { from = s; to = way.to; label = way.label } ∷ edges_by s ways

-- one of the ways takes the first cell, and the others lead on to the end
pub record Opens (A : ℕ → ℕ → Type 0) (es : List Edge) (ways : List Way) (w : Word) : Type 0 where
  pub way : Way
  pub among : Contains ways way
  pub cell : Cell
  pub rest : Word
  pub is : w ≡ cell ∷ rest
  pub takes : Takes A way.label cell
  pub spells : Spells A es rest way.to

-- a way or an edge leads to the state
abbrev pub IsLedTo : List Way → List Edge → ℕ → Type 0
IsLedTo ways es s = ((way : Way) × Contains ways way × (way.to ≡ s)) ⊎ ((e : Edge) × Contains es e × (e.to ≡ s))

-- no state has edges to two states
abbrev pub IsForward : List Edge → Type 0
IsForward es = (e f : Edge) → Contains es e → Contains es f → e.from ≡ f.from → e.to ≡ f.to

-- the label may stand right after the bytes of a reference before this place
abbrev pub MayFollow : RefId → ℕ → Label → Type 0
MayFollow t zero l = Begins l
MayFollow t (suc k) l = Joins (Leaf t k) l

-- the words have one size
abbrev pub AreEven : (Word → Type 0) → Type 0
AreEven P = (n : ℕ) × ((w : Word) → P w → length w ≡ n)

-- each reference may hold each other
abbrev pub any : ℕ → ℕ → Bool
any x t = true

-- A tree that may be grown: it has words with cells, all of one size, and no private part.
pub record IsGrowable (pointer : ℕ) (t : Tree) : Type 0 where
  pub public : HasNoPrivate t
  pub long : extent_of t ≡ Long
  pub even : AreEven (LooseWord pointer (holds any) t)

-- the edges between the states below n
pub record IsSound (pointer : ℕ) (es : List Edge) (n : ℕ) : Type 0 where
  pub some : 0 < n
  pub from : (e : Edge) → Contains es e → e.from < n
  pub down : (e : Edge) → Contains es e → e.to < e.from
  pub ordered : IsOrdered es
  pub left : (s : ℕ) → 0 < s → s < n → (e : Edge) × Contains es e × (e.from ≡ s)
  pub takes : (e : Edge) → Contains es e → CanTake pointer e.label
  pub joins : (e f : Edge) → Contains es e → Contains es f → e.to ≡ f.from → Joins e.label f.label

-- a state in front of which may be built
pub record IsReady (b : Building) (target : ℕ) : Type 0 where
  pub pointer : (0 < b.pointer) × (b.pointer ≤ 8)
  pub sound : IsSound b.pointer b.edges.items b.states
  pub below : target < b.states
  pub plain : (e : Edge) → Contains b.edges.items e → e.from ≡ target → Begins e.label

-- a way that a new state may be given; q holds of its label
pub record IsWay (q : Label → Type 0) (b : Building) (way : Way) : Type 0 where
  pub below : way.to < b.states
  pub takes : CanTake b.pointer way.label
  pub opens : q way.label
  pub joins : (e : Edge) → Contains b.edges.items e → way.to ≡ e.from → Joins way.label e.label

-- by the ways a word of P leads to the target, and nothing else leads on to the end
pub record Grows (A : ℕ → ℕ → Type 0) (P : Word → Type 0) (es fs : List Edge) (ways : List Way) (target : ℕ) : Type 0 where
  pub forth : (w : Word) → Opens A fs ways w → (u : Word) × (v : Word) × (w ≡ u ++ v) × P u × Spells A es v target
  pub back : (u v : Word) → P u → Spells A es v target → Opens A fs ways (u ++ v)

-- What is grown: words in front of a target. They begin with labels of which `opens` holds and take at most
-- `room` edges, and where `line` holds they lead on in one line.
pub record Piece : Type 1 where
  pub words : Words
  pub target : ℕ
  pub opens : Label → Type 0
  pub room : ℕ
  pub line : Type 0

-- the words of a tree
abbrev pub of_tree : ℕ → Tree → ℕ → Piece
of_tree pointer t target = record {
  words = λ A. LooseWord pointer (holds A) t;
  target = target;
  opens = Begins;
  room = leaves_of pointer t;
  line = HasNoChoice t;
}

-- c has the edges of b, and more, which leave new states
pub record IsExtended (b c : Building) : Type 0 where
  pub pointer : c.pointer ≡ b.pointer
  pub later : b.states ≤ c.states
  pub more : List Edge
  pub longer : c.edges.items ≡ b.edges.items ++ more
  pub fresh : (e : Edge) → Contains more e → b.states ≤ e.from
  pub sound : IsSound c.pointer c.edges.items c.states

-- The piece is put: the ways by which its words begin are added to the head.
pub record MakesBy (p : Piece) (b c : Building) : Type 0 where
  pub extended : IsExtended b c
  pub few : c.states < b.states + p.room
  pub ways : List Way
  pub head : c.head.items ≡ b.head.items ++ ways
  pub some : ways ≢ []
  pub linear : length extended.more + length ways ≤ p.room
  pub each : (way : Way) → Contains ways way → IsWay p.opens c way
  pub into : (s : ℕ) → b.states ≤ s → s < c.states → IsLedTo ways c.edges.items s
  pub covers : IsLedTo ways c.edges.items p.target
  pub forward : p.line → IsForward b.edges.items → IsForward c.edges.items × (length ways ≤ 1)
  pub grows : (A : ℕ → ℕ → Bool) → Grows (holds A) (p.words A) b.edges.items c.edges.items ways p.target

-- The piece is put, and its words begin at the state. Where nothing was put, that is the target.
pub record IsPlacedBy (p : Piece) (b c : Building) (state : ℕ) : Type 0 where
  pub extended : IsExtended b c
  pub few : c.states ≤ b.states + p.room
  pub head : c.head.items ≡ b.head.items
  pub linear : length extended.more ≤ p.room
  pub below : state < c.states
  pub opens : (e : Edge) → Contains c.edges.items e → e.from ≡ state → p.opens e.label
  pub into : (s : ℕ) → b.states ≤ s → s < c.states → (s ≡ state) ⊎ ((e : Edge) × Contains c.edges.items e × (e.to ≡ s))
  pub covers : (p.target ≡ state) ⊎ ((e : Edge) × Contains c.edges.items e × (e.to ≡ p.target))
  pub forward : p.line → IsForward b.edges.items → IsForward c.edges.items
  pub forth : (A : ℕ → ℕ → Bool) (w : Word) → Spells (holds A) c.edges.items w state
      → (u : Word) × (v : Word) × (w ≡ u ++ v) × p.words A u × Spells (holds A) b.edges.items v p.target
  pub back : (A : ℕ → ℕ → Bool) (u v : Word) → p.words A u → Spells (holds A) b.edges.items v p.target
      → Spells (holds A) c.edges.items (u ++ v) state

-- the tree is put in front of the target
abbrev pub MakesTree : Tree → ℕ → Building → Building → Type 0
MakesTree t target b c = MakesBy (of_tree b.pointer t target) b c

-- and its words begin at the state
abbrev pub IsPlacedTree : Tree → ℕ → Building → Building → ℕ → Type 0
IsPlacedTree t target b c state = IsPlacedBy (of_tree b.pointer t target) b c state

-- there is room for a tree that may be grown in front of the target
pub record CanGrow (t : Tree) (target : ℕ) (b : Building) : Type 0 where
  pub growable : IsGrowable b.pointer t
  pub ready : IsReady b target
  pub room : b.states + leaves_of b.pointer t ≤ 2 ^ 31

-- nothing is built yet, and there is room for the tree, whose words have one size
pub record CanBegin (t : Tree) (b : Building) : Type 0 where
  pub pointer : (0 < b.pointer) × (b.pointer ≤ 8)
  pub edges : b.edges.items ≡ []
  pub states : b.states ≡ 1
  pub head : b.head.items ≡ []
  pub public : HasNoPrivate t
  pub even : AreEven (LooseWord b.pointer (holds any) t)
  pub room : leaves_of b.pointer t < 2 ^ 31

abbrev pub HasNoLoose : ℕ → Tree → Type 0
HasNoLoose pointer t = (A : ℕ → ℕ → Bool) (w : Word) → LooseWord pointer (holds A) t w → ⊥

-- one more way
pub record IsAdded (label : Label) (target : ℕ) (b c : Building) : Type 0 where
  pub pointer : c.pointer ≡ b.pointer
  pub states : c.states ≡ b.states
  pub edges : c.edges.items ≡ b.edges.items
  pub head : c.head.items ≡ b.head.items ++ record { label = label; to = target } ∷ []

-- The ways behind the first `mark` were given a new state, where there were any: words go on there, and
-- else at `next`.
pub record IsSealed (mark next : ℕ) (b c : Building) (state : ℕ) : Type 0 where
  pub pointer : c.pointer ≡ b.pointer
  pub head : c.head.items ≡ take mark b.head.items
  pub none : length b.head.items ≡ mark → (c.edges.items ≡ b.edges.items) × (c.states ≡ b.states) × (state ≡ next)
  pub put : mark < length b.head.items → (c.edges.items ≡ b.edges.items ++ edges_by b.states (drop mark b.head.items)) × (c.states ≡ b.states + 1) × (state ≡ b.states)
