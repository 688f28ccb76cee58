-- The parts that others are made of: one terminal, one part after another, a choice by the next
-- terminal, nothing, another value, a mark, and a repetition.
use Rattle.std.specs.Prelude.{◌≡◌, ℕ, zero, suc, Bool, true, false, ◌&&◌, ◌⊎◌, List, [], ◌∷◌, ◌++◌, length}
use Rattle.tm_parse.specs.Classes.{among, joined}
use Rattle.tm_parse.specs.Events.{Mark, Role, Event, terminal, mark}
use Rattle.tm_parse.specs.Counting.{Step, Fine, Passes, step}
use Rattle.tm_parse.specs.Parts.{Outcome, Done, Stuck, Passed, Reader, Part}
use Rattle.tm_parse.specs.declared.class.Class.{Class}
use Rattle.tm_parse.specs.declared.terminal.Terminal.{Terminal}

-- whether the next terminal is of one of the classes
abbrev pub starts : List Class → List Terminal → Bool
starts first [] = false
starts first (t ∷ ts) = among first t.class

-- one terminal of a class of the list
abbrev pub read_step : Step → Terminal → List Terminal → Outcome Terminal
read_step (Fine after) t ts = Done t after ts
read_step (Passes kind) t ts = Passed kind (t ∷ ts)

abbrev pub read_if : Bool → Step → Terminal → List Terminal → Outcome Terminal
read_if true counted t ts = read_step counted t ts
read_if false counted t ts = Stuck (t ∷ ts)

abbrev pub read_one : Role → List Class → Reader Terminal
read_one role classes n [] = Stuck []
read_one role classes n (t ∷ ts) = read_if (among classes t.class) (step n (terminal role t)) t ts

abbrev pub one : Role → List Class → Part Terminal
one role classes = record {
  spells = λ t e. (among classes t.class ≡ true) × (e ≡ terminal role t ∷ []);
  read = read_one role classes;
  first = classes;
  bars = [];
  empty = false;
}

-- one part and then another
abbrev pub paired : {A B : Type 0} → A → Outcome B → Outcome (A × B)
paired v (Done w after ts) = Done (v, w) after ts
paired v (Stuck ts) = Stuck ts
paired v (Passed kind ts) = Passed kind ts

abbrev pub followed : {A B : Type 0} → Reader B → Outcome A → Outcome (A × B)
followed second (Done v after ts) = paired v (second after ts)
followed second (Stuck ts) = Stuck ts
followed second (Passed kind ts) = Passed kind ts

infixr 20 ◌>>◌
abbrev pub ◌>>◌ : {A B : Type 0} → Part A → Part B → Part (A × B)
p >> q = record {
  spells = λ v e. (f : List Event) × (g : List Event) × p.spells v.0 f × q.spells v.1 g × (e ≡ f ++ g);
  read = λ n ts. followed q.read (p.read n ts);
  first = joined p.empty q.first p.first;
  bars = joined q.empty p.bars q.bars;
  empty = p.empty && q.empty;
}

-- one part or, where the next terminal doesn't begin it, another
abbrev pub pick : {V : Type 0} → Bool → Reader V → Reader V → Reader V
pick true this other n ts = this n ts
pick false this other n ts = other n ts

infixr 15 ◌or◌
abbrev pub ◌or◌ : {V : Type 0} → Part V → Part V → Part V
p or q = record {
  spells = λ v e. p.spells v e ⊎ q.spells v e;
  read = λ n ts. pick (starts p.first ts) p.read q.read n ts;
  first = p.first ++ q.first;
  bars = joined q.empty p.first (p.bars ++ q.bars);
  empty = q.empty;
}

-- nothing, which stands for a value
abbrev pub nothing : {V : Type 0} → V → Part V
nothing x = record { spells = λ v e. (v ≡ x) × (e ≡ []); read = λ n ts. Done x n ts; first = []; bars = []; empty = true }

-- a part that stands for another value
abbrev pub mapped : {A B : Type 0} → (A → B) → Outcome A → Outcome B
mapped f (Done v after ts) = Done (f v) after ts
mapped f (Stuck ts) = Stuck ts
mapped f (Passed kind ts) = Passed kind ts

abbrev pub to : {A B : Type 0} → (A → B) → Part A → Part B
to {A = A} f p = record {
  spells = λ w e. (v : A) × p.spells v e × (w ≡ f v);
  read = λ n ts. mapped f (p.read n ts);
  first = p.first;
  bars = p.bars;
  empty = p.empty;
}

-- a part before which something is counted: a limit is passed only where the part can begin
abbrev pub read_marked : {V : Type 0} → Bool → Step → Reader V → List Terminal → Outcome V
read_marked false counted inner ts = Stuck ts
read_marked true (Fine after) inner ts = inner after ts
read_marked true (Passes kind) inner ts = Passed kind ts

abbrev pub counts_as : {V : Type 0} → Mark → Part V → Part V
counts_as m p = record {
  spells = λ v e. (inner : List Event) × p.spells v inner × (e ≡ mark m ∷ inner);
  read = λ n ts. read_marked (starts p.first ts) (step n (mark m)) p.read ts;
  first = p.first;
  bars = p.bars;
  empty = p.empty;
}

-- parts one after another, each of which says whether another may follow
abbrev pub Others : {V : Type 0} → Bool → Type 0 → List V → List Event → Type 0
Others true Again vs e = Again
Others false Again vs e = (vs ≡ []) × (e ≡ [])

abbrev pub Repeats : {V : Type 0} → (V × Bool → List Event → Type 0) → List V → List Event → Type 0
Repeats Spells [] e = e ≡ []
Repeats Spells (v ∷ vs) e = (more : Bool) × (f : List Event) × (g : List Event) × Spells (v, more) f × Others more (Repeats Spells vs g) vs g × (e ≡ f ++ g)

abbrev pub put_first : {V : Type 0} → V → Outcome (List V) → Outcome (List V)
put_first v (Done vs after ts) = Done (v ∷ vs) after ts
put_first v (Stuck ts) = Stuck ts
put_first v (Passed kind ts) = Passed kind ts

abbrev pub go_on : {V : Type 0} → Bool → Reader (List V) → Reader (List V)
go_on true again n ts = again n ts
go_on false again n ts = Done [] n ts

abbrev pub and_again : {V : Type 0} → Reader (List V) → Outcome (V × Bool) → Outcome (List V)
and_again again (Done v after ts) = put_first v.0 (go_on v.1 again after ts)
and_again again (Stuck ts) = Stuck ts
and_again again (Passed kind ts) = Passed kind ts

-- at most so many parts
unfoldable pub read_most : {V : Type 0} → ℕ → List Class → Reader (V × Bool) → Reader (List V)
read_most zero first part n ts = Done [] n ts
read_most (suc more) first part n ts = pick (starts first ts) (λ n ts. and_again (read_most more first part) (part n ts)) (λ n ts. Done [] n ts) n ts

abbrev pub read_all : {V : Type 0} → List Class → Reader (V × Bool) → Reader (List V)
read_all first part n ts = read_most (length ts) first part n ts

abbrev pub repeat : {V : Type 0} → Part (V × Bool) → Part (List V)
repeat p = record {
  spells = Repeats p.spells;
  read = read_all p.first p.read;
  first = p.first;
  bars = p.first ++ p.bars;
  empty = true;
}
