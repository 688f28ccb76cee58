-- What holds of a part. A part is given with its bound on depth, in which its reader, its classes and
-- whether it may be empty stay the same.
use Rattle.std.proofs.Common.{◌≡◌, ℕ, zero, suc, Bool, true, false, List, [], ◌∷◌, ◌++◌}
use Rattle.tm_parse.specs.Classes.{among}
use Rattle.tm_parse.specs.Events.{Event, terminals}
use Rattle.tm_parse.specs.Counting.{Within, Beyond, count}
use Rattle.tm_parse.specs.Parts.{Outcome, Done, Stuck, Passed, Part, finish}
use Rattle.tm_parse.specs.declared.class.Class.{Class}
use Rattle.tm_parse.specs.declared.counts.Counts.{Counts}
use Rattle.tm_base.specs.declared.limit.LimitKind.{LimitKind}
use Rattle.tm_parse.specs.declared.terminal.Terminal.{Terminal}

-- none of the classes comes next
abbrev pub Clear : List Class → List Terminal → Type 0
Clear bars [] = Unit {0}
Clear bars (t ∷ ts) = among bars t.class ≡ false

-- one of the classes comes first, or nothing stands there where that may be
abbrev pub Front : List Class → Bool → List Terminal → Type 0
Front first true [] = Unit {0}
Front first false [] = ⊥
Front first empty (t ∷ ts) = among first t.class ≡ true

-- the same terminal comes next, or none in both
abbrev pub Same : List Terminal → List Terminal → Type 0
Same [] ys = ys ≡ []
Same (x ∷ xs) [] = ⊥
Same (x ∷ xs) (y ∷ ys) = x ≡ y

-- a limit is passed at the next terminal
pub record IsPast (kind : LimitKind) (rest : List Terminal) (back : List Event) (after : Counts) : Type 0 where
  pub passes : count after back ≡ Beyond kind back
  pub next : Same rest (terminals back)
  pub some : Same rest [] → ⊥

module _ {V : Type 0} (P : ℕ → Part V) where
  -- how it is spelled
  pub record Form : Type 0 where
    pub grow : (n : ℕ) (v : V) (e : List Event) → (P n).spells v e → (P (suc n)).spells v e
    pub front : (n : ℕ) (v : V) (e : List Event) → (P n).spells v e → Front (P zero).first (P zero).empty (terminals e)

  -- a spelling, and one that begins with a terminal
  pub record Spelling : Type 0 where
    pub depth : ℕ
    pub value : V
    pub events : List Event
    pub spelled : (P depth).spells value events

  pub record Begun (t : Terminal) : Type 0 where
    pub spelling : Spelling
    pub others : List Terminal
    pub next : terminals spelling.events ≡ t ∷ others

  pub record Empty : Type 0 where
    pub spelling : Spelling
    pub nothing : terminals spelling.events ≡ []

  -- the reader's answers are right, whatever other terminals stand behind the next one
  pub record IsDone (n : Counts) (ts : List Terminal) (v : V) (after : Counts) (rest : List Terminal) : Type 0 where
    pub depth : ℕ
    pub events : List Event
    pub spelled : (P depth).spells v events
    pub text : ts ≡ terminals events ++ rest
    pub within : count n events ≡ Within after
    pub alone : (other : List Terminal) → Same rest other → (P zero).read n (terminals events ++ other) ≡ Done v after other

  pub record Stops (n : Counts) (ts rest : List Terminal) (back : List Event) (after : Counts) (answer : List Terminal → Outcome V) : Type 0 where
    pub depth : ℕ
    pub value : V
    pub front : List Event
    pub spelled : (P depth).spells value (front ++ back)
    pub text : ts ≡ terminals front ++ rest
    pub within : count n front ≡ Within after
    pub alone : (other : List Terminal) → Same rest other → (P zero).read n (terminals front ++ other) ≡ answer other

  abbrev pub IsStuck : Counts → List Terminal → List Terminal → Type 0
  IsStuck n ts rest = (back : List Event) × (after : Counts) × Stops n ts rest back after Stuck

  abbrev pub IsPassed : Counts → List Terminal → LimitKind → List Terminal → Type 0
  IsPassed n ts kind rest = (back : List Event) × (after : Counts) × Stops n ts rest back after (Passed kind) × IsPast kind rest back after

  abbrev pub IsRight : Counts → List Terminal → Outcome V → Type 0
  IsRight n ts (Done v after rest) = IsDone n ts v after rest
  IsRight n ts (Stuck rest) = IsStuck n ts rest
  IsRight n ts (Passed kind rest) = IsPassed n ts kind rest

  pub record Laws : Type 0 where
    pub form : Form
    pub some : Spelling
    pub none : (P zero).empty ≡ true → Empty
    pub begins : (t : Terminal) → among (P zero).first t.class ≡ true → Begun t
    pub reads : (n : ℕ) (v : V) (e : List Event) (c : Counts) (rest : List Terminal) → (P n).spells v e → Clear (P zero).bars rest → (P zero).read c (terminals e ++ rest) ≡ finish v rest (count c e)
    pub right : (c : Counts) (ts : List Terminal) → IsRight c ts ((P zero).read c ts)
