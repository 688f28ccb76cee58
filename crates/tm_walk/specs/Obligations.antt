-- What inclusion asks for, place by place: obligations, each of one state of the source and some of the target's. Of those
-- that imply one another the least are kept, an antichain: De Wulf, Doyen, Henzinger and Raskin, 'Antichains: A New
-- Algorithm for Checking Universality of Finite Automata' (2006).
use Rattle.std.specs.Prelude.{◌≡◌, ℕ, ◌<◌, ◌≤◌, ◌⊎◌, ◌&&◌, ◌==◌, not, Bool, true, false, List, [], ◌∷◌, Contains}
use Rattle.std.specs.List.{list_all}
use Rattle.tm_base.specs.declared.cell.Cell.{Cell}
use Rattle.tm_base.specs.declared.cell.Cell.TheVariants.{Uninit}
use Rattle.tm_base.specs.Transmutes.{holds, is_itself}
use Rattle.tm_auto.specs.declared.edge.Edge.{Edge}
use Rattle.tm_auto.specs.declared.edge.Symbol.{Symbol}
use Rattle.tm_auto.specs.Automata.{Automaton, AreStates, edges_from}
use Rattle.tm_auto.specs.Labels.{Takes}
use Rattle.tm_auto.specs.Sets.{has_state, next, passes, symbol_of, with_state}
use Rattle.tm_walk.specs.declared.obligation.Obligation.{Obligation}
use Rattle.tm_walk.specs.Layers.{is_live}

-- each of the first states is one of the second
abbrev pub is_within : List ℕ → List ℕ → Bool
is_within part whole = list_all (has_state whole) part

-- where the first is met so is the second: the target has all of the first's states, and maybe more
abbrev pub implies : Obligation → Obligation → Bool
implies o p = (o.state == p.state) && is_within o.target p.target

abbrev pub implied_by : Obligation → Obligation → Bool
implied_by p o = implies o p

-- one of them implies it
abbrev pub IsImplied : List Obligation → Obligation → Type 0
IsImplied os p = (o : Obligation) × Contains os o × (implies o p ≡ true)

-- none of them implies another
abbrev pub IsAntichain : List Obligation → Type 0
IsAntichain [] = Unit {0}
IsAntichain (o ∷ os) = ((p : Obligation) → Contains os p → (implies o p ≡ false) × (implies p o ≡ false)) × IsAntichain os

-- they are of one set of the target's states
abbrev pub HaveOneTarget : List Obligation → Type 0
HaveOneTarget os = (o p : Obligation) → Contains os o → Contains os p → o.target ≡ p.target

-- of the state of one of these, and of the set
abbrev pub Stays : List ℕ → List Obligation → Obligation → Type 0
Stays target os p = (o : Obligation) × Contains os o × (p ≡ record { state = o.state; target = target })

-- the set with the state of each
abbrev pub with_states : List Obligation → List ℕ → List ℕ
with_states [] set = set
with_states (o ∷ os) set = with_states os (with_state o.state set)

-- no state of the target is left to meet it
abbrev pub is_refused : Obligation → Bool
is_refused o = not (is_live o.target)

-- those of P are added, and nothing else: each of them, and each that was there, is there or implied
pub record AreAdded (P : Obligation → Type 0) (before after : List Obligation) : Type 0 where
  pub from : (o : Obligation) → Contains after o → Contains before o ⊎ P o
  pub kept : (o : Obligation) → Contains before o → IsImplied after o
  pub added : (o : Obligation) → P o → IsImplied after o

module _ (src dst : Automaton) where
  -- before the first cell: what begins at a start begins at one of the target's
  pub record IsFirst (o : Obligation) : Type 0 where
    pub state : Contains src.starts o.state
    pub target : o.target ≡ dst.starts

  -- it is of states of the two
  pub record IsBetween (o : Obligation) : Type 0 where
    pub state : o.state < src.states
    pub target : AreStates dst o.target

-- the edge passes the symbol and leads to the state of an obligation, which is of the set
abbrev pub FollowsEdge : Symbol → List ℕ → Edge → Obligation → Type 0
FollowsEdge x target e p = (passes is_itself e.label x ≡ true) × (p ≡ record { state = e.to; target = target })

module _ (src : Automaton) where
  -- an edge out of the state does
  abbrev pub FollowsState : Symbol → List ℕ → ℕ → Obligation → Type 0
  FollowsState x target s p = (e : Edge) × Contains (edges_from s src.edges) e × FollowsEdge x target e p

  -- an edge out of the state of one of these does
  abbrev pub FollowsGroup : Symbol → List ℕ → List Obligation → Obligation → Type 0
  FollowsGroup x target os p = (o : Obligation) × Contains os o × FollowsState x target o.state p

module _ (A : ℕ → ℕ → Bool) (src dst : Automaton) where
  -- A source word may have the cell at the place and lead from the one state to the other. Behind its end only uninitialised
  -- cells follow, and the end stays.
  abbrev pub Moves : ℕ → ℕ → Cell → ℕ → Type 0
  Moves place s c t =
      ((place < src.size) × ((e : Edge) × Contains src.edges e × (e.from ≡ s) × Takes (holds is_itself) e.label c × (e.to ≡ t)))
      ⊎ ((src.size ≤ place) × (c ≡ Uninit) × (t ≡ s))

  -- the second is what becomes of the first behind some cell
  abbrev pub Follows : ℕ → Obligation → Obligation → Type 0
  Follows place o p = (c : Cell) × Moves place o.state c p.state × (p.target ≡ next A dst.edges o.target (symbol_of c))

  -- it follows from one of them
  abbrev pub FollowsSome : ℕ → List Obligation → Obligation → Type 0
  FollowsSome place os p = (o : Obligation) × Contains os o × Follows place o p
