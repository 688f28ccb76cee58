-- Layers of pairs of sets of states: those that as many cells reach. How one layer follows from the one
-- before it is told with no word in it.
use Rattle.std.specs.Prelude.{◌≡◌, ◌≢◌, ℕ, zero, suc, ◌+◌, ◌<◌, ◌≤◌, ◌⊎◌, Bool, true, false, if◌then◌else◌, List, [], ◌∷◌, ◌++◌, map, slice_get, Some, Contains}
use Rattle.tm_base.specs.declared.cell.Cell.{Cell}
use Rattle.tm_base.specs.declared.cell.Cell.TheVariants as cell
use Rattle.tm_base.specs.Orders.{cell_less}
use Rattle.tm_base.specs.Transmutes.{is_itself}
use Rattle.tm_auto.specs.declared.edge.Symbol.{Symbol}
use Rattle.tm_auto.specs.declared.edge.Symbol.TheVariants as symbol
use Rattle.tm_auto.specs.Automata.{Automaton, AreStates}
use Rattle.tm_auto.specs.Classes.{AreClasses}
use Rattle.tm_auto.specs.Least.{first_cell}
use Rattle.tm_auto.specs.Sets.{next, symbol_of}

-- the set has a state
abbrev pub is_live : List ℕ → Bool
is_live [] = false
is_live (s ∷ ss) = true

-- a pair of sets, with the number of the pair of the layer before from which the cell first reached it
pub record Entry : Type 0 where
  pub src : List ℕ
  pub dst : List ℕ
  pub parent : ℕ
  pub cell : Cell

abbrev pub HaveSameSets : Entry → Entry → Type 0
HaveSameSets e f = (e.src ≡ f.src) × (e.dst ≡ f.dst)

-- reached from an earlier pair, or from the same one by a lesser cell
abbrev pub Precedes : Entry → Entry → Type 0
Precedes e f = (e.parent < f.parent) ⊎ ((e.parent ≡ f.parent) × (cell_less e.cell f.cell ≡ true))

abbrev pub AreRising : List Entry → Type 0
AreRising [] = Unit {0}
AreRising (e ∷ es) = ((f : Entry) → Contains es f → Precedes e f) × AreRising es

-- no two are of the same sets
abbrev pub AreApart : List Entry → Type 0
AreApart [] = Unit {0}
AreApart (e ∷ es) = ((f : Entry) → Contains es f → ¬ HaveSameSets e f) × AreApart es

-- one is of the same sets
abbrev pub IsHeld : Entry → List Entry → Type 0
IsHeld e es = (f : Entry) × Contains es f × HaveSameSets f e

-- a pair is put last, unless its sets are there
abbrev pub IsOffered : Entry → List Entry → List Entry → Type 0
IsOffered e before after = (IsHeld e before × (after ≡ before)) ⊎ ((after ≡ before ++ e ∷ []) × (¬ IsHeld e before))

-- each of these in turn
abbrev pub AreOffered : List Entry → List Entry → List Entry → Type 0
AreOffered [] before after = after ≡ before
AreOffered (e ∷ es) before after = (between : List Entry) × IsOffered e before between × AreOffered es between after

-- one for each pair that is expanded
abbrev pub weight : (Bool → Bool) → Entry → ℕ
weight skip e = if skip (is_live e.dst) then 0 else 1

abbrev pub weights : (Bool → Bool) → List Entry → ℕ
weights skip [] = 0
weights skip (e ∷ es) = weight skip e + weights skip es

-- whether the k-th is
abbrev pub weight_at : (Bool → Bool) → List Entry → ℕ → ℕ
weight_at skip [] k = 0
weight_at skip (e ∷ es) zero = weight skip e
weight_at skip (e ∷ es) (suc k) = weight_at skip es k

-- the first layer: the pair of the starts, or nothing where the source has no start
pub record IsStart (src dst : Automaton) (layer : List Entry) : Type 0 where
  pub each : (k : ℕ) (e : Entry) → slice_get layer k ≡ Some e → (k ≡ 0) × (e.src ≡ src.starts) × (e.dst ≡ dst.starts) × (src.starts ≢ [])
  pub some : src.starts ≢ [] → (e : Entry) × (slice_get layer 0 ≡ Some e)

-- the quantifier stops on no pair of the layer
abbrev pub NoneStops : (Bool → Bool → Bool) → Bool → List Entry → Type 0
NoneStops stop at_end layer = (k : ℕ) (e : Entry) → slice_get layer k ≡ Some e → stop (is_live e.dst) at_end ≡ false

-- the k-th is the first on which it does
pub record IsFirstStop (stop : Bool → Bool → Bool) (at_end : Bool) (layer : List Entry) (k : ℕ) : Type 0 where
  pub entry : Entry
  pub at : slice_get layer k ≡ Some entry
  pub stops : stop (is_live entry.dst) at_end ≡ true
  pub first : (j : ℕ) (e : Entry) → j < k → slice_get layer j ≡ Some e → stop (is_live e.dst) at_end ≡ false

module _ (A : ℕ → ℕ → Bool) (src dst : Automaton) where
  abbrev pub source_step : List ℕ → Symbol → List ℕ
  source_step from x = next is_itself src.edges from x

  abbrev pub target_step : List ℕ → Symbol → List ℕ
  target_step to x = next A dst.edges to x

  abbrev pub HasStates : Entry → Type 0
  HasStates e = AreStates src e.src × AreStates dst e.dst

  -- what the symbols make of the k-th pair
  abbrev pub offers : List ℕ → List ℕ → ℕ → List Symbol → List Entry
  offers from to k symbols = map (λ x. record { src = source_step from x; dst = target_step to x; parent = k; cell = first_cell x }) symbols

  -- the symbols by which a pair is expanded: before the source's end those of its sets, and behind it the
  -- uninitialised byte alone
  pub record AreSymbols (place : ℕ) (from to : List ℕ) (symbols : List Symbol) : Type 0 where
    pub within : place < src.size → AreClasses src from dst to symbols
    pub behind : src.size ≤ place → symbols ≡ symbol.Uninit ∷ []

  -- the cell may stand at the place, behind what reached the set
  abbrev pub Goes : ℕ → List ℕ → Cell → Type 0
  Goes place from c = (place < src.size → source_step from (symbol_of c) ≢ []) × (src.size ≤ place → c ≡ cell.Uninit)

  -- one step leads from a pair, the k-th, to this one
  pub record IsStepFrom (place : ℕ) (x : Entry) (k : ℕ) (e : Entry) : Type 0 where
    pub parent : e.parent ≡ k
    pub goes : Goes place x.src e.cell
    pub source : e.src ≡ source_step x.src (symbol_of e.cell)
    pub target : e.dst ≡ target_step x.dst (symbol_of e.cell)

  -- all steps from a pair, in order; of cells with the same steps the least stands for all
  pub record AreStepsFrom (place : ℕ) (x : Entry) (k : ℕ) (es : List Entry) : Type 0 where
    pub each : (e : Entry) → Contains es e → IsStepFrom place x k e
    pub rising : AreRising es
    pub covers : (c : Cell) → Goes place x.src c → (e : Entry) × Contains es e × (e.src ≡ source_step x.src (symbol_of c)) × (e.dst ≡ target_step x.dst (symbol_of c)) × (cell_less c e.cell ≡ false)

  module _ (skip : Bool → Bool) (place : ℕ) (layer : List Entry) where
    -- the layer's pair, unless it is skipped, is expanded into the next layer
    pub record IsExpanded (k : ℕ) (before after : List Entry) : Type 0 where
      pub pair : Entry
      pub at : slice_get layer k ≡ Some pair
      pub either : ((skip (is_live pair.dst) ≡ true) × (after ≡ before)) ⊎ ((skip (is_live pair.dst) ≡ false) × ((es : List Entry) × AreStepsFrom place pair k es × AreOffered es before after))

    pub record IsFrom (e : Entry) : Type 0 where
      pub pair : Entry
      pub at : slice_get layer e.parent ≡ Some pair
      pub goes_on : skip (is_live pair.dst) ≡ false
      pub step : IsStepFrom place pair e.parent e

    -- a pair of the sets that the cell reaches from the k-th, itself reached no later
    pub record IsReached (next : List Entry) (x : Entry) (k : ℕ) (c : Cell) : Type 0 where
      pub entry : Entry
      pub among : Contains next entry
      pub source : entry.src ≡ source_step x.src (symbol_of c)
      pub target : entry.dst ≡ target_step x.dst (symbol_of c)
      pub early : (entry.parent < k) ⊎ ((entry.parent ≡ k) × (cell_less c entry.cell ≡ false))

    -- what the layer's first n pairs make of the next layer
    pub record IsNext (n : ℕ) (next : List Entry) : Type 0 where
      pub from : (e : Entry) → Contains next e → IsFrom e
      pub before : (e : Entry) → Contains next e → e.parent < n
      pub rising : AreRising next
      pub apart : AreApart next
      pub done : (k : ℕ) (x : Entry) (c : Cell) → k < n → slice_get layer k ≡ Some x → skip (is_live x.dst) ≡ false → Goes place x.src c → IsReached next x k c
