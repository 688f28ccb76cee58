-- How many marks a list of events has, each with a weight, and what a counter comes to over them.
use Rattle.std.proofs.Common.{◌≡◌, ℕ, ◌+◌, ◌≤◌, refl, sym, subst, Bool, true, false, if◌then◌else◌, List, [], ◌∷◌, ◌++◌, arith}
use Rattle.std.proofs.lemmas.Bool.{ltb-false}
use Rattle.std.specs.Prelude.{nat_lt}
use Rattle.tm_base.specs.declared.limit.LimitKind.{LimitKind}
use Rattle.tm_base.specs.declared.limit.LimitKind.TheVariants as limit
use Rattle.tm_base.specs.Limits.{limit_number}
use Rattle.tm_parse.specs.Events.{Mark, a_definition, a_question, a_lifetime, a_parameter, a_type_parameter, a_field, a_variant, a_type, Role, plain, array_length, Event, terminal, mark}
use Rattle.tm_parse.specs.Counting.{Step, Fine, Passes, within, and_then, name_bytes, nodes_before, step, Within, counted, count}
use Rattle.tm_parse.specs.Limits.{number_of, is_number_or_sign}
use Rattle.tm_parse.specs.declared.counts.Counts.{Counts}
use Rattle.tm_parse.specs.declared.terminal.Terminal.{Terminal}

-- the sum of the weights of the marks
abbrev pub weigh : (Mark → ℕ) → List Event → ℕ
weigh weight [] = 0
weigh weight (terminal role t ∷ events) = weigh weight events
weigh weight (mark m ∷ events) = weight m + weigh weight events

pub weigh-append : (weight : Mark → ℕ) (e f : List Event) → weigh weight (e ++ f) ≡ weigh weight e + weigh weight f
weigh-append weight [] f = omega arith
weigh-append weight (terminal role t ∷ e) f = weigh-append weight e f
weigh-append weight (mark m ∷ e) f = let again = weigh-append weight e f in omega (arith, again)

pub weigh-nothing : (e : List Event) → weigh (λ m. 0) e ≡ 0
weigh-nothing [] = refl
weigh-nothing (terminal role t ∷ e) = weigh-nothing e
weigh-nothing (mark m ∷ e) = let others = weigh-nothing e in omega (arith, others)

-- an event that passes no limit

pub within-fine : (kind : LimitKind) (n : ℕ) (after d : Counts) → within kind n after ≡ Fine d → (after ≡ d) × (n ≤ limit_number kind)
within-fine kind n after d h = go (nat_lt (limit_number kind) n) refl h
  where
    go : (b : Bool) → nat_lt (limit_number kind) n ≡ b → (if b then Passes kind else Fine after) ≡ Fine d → (after ≡ d) × (n ≤ limit_number kind)
    go true e h = absurd cc
    go false e h = (cc, ltb-false (limit_number kind) n e)

then-fine : (first next : Step) (d : Counts) → and_then first next ≡ Fine d → next ≡ Fine d
then-fine (Fine c) next d h = h
then-fine (Passes kind) next d h = absurd cc

name-fine : (c d : Counts) (t : Terminal) → name_bytes c t ≡ Fine d → c ≡ d
name-fine c d t h = go (is_number_or_sign t.class) h
  where
    go : (b : Bool) → (if b then Fine c else within limit.NameBytes t.size c) ≡ Fine d → c ≡ d
    go true h = cc
    go false h = (within-fine limit.NameBytes t.size c d h).0

-- a terminal changes no count
terminal-fine : (c d : Counts) (role : Role) (t : Terminal) → step c (terminal role t) ≡ Fine d → c ≡ d
unfolding step
terminal-fine c d plain t h = name-fine c d t h
terminal-fine c d array_length t h = name-fine c d t (then-fine (within limit.ArrayLength (number_of t) c) (name_bytes c t) d h)

-- what a mark changes, and the number that it holds against a limit
abbrev pub marked : Counts → Mark → Counts
marked n a_definition = record n { definitions = n.definitions + 1; parameters = 0; type_parameters = 0; fields = 0; variants = 0 }
marked n a_question = record n { questions = n.questions + 1 }
marked n a_lifetime = record n { lifetimes = n.lifetimes + 1 }
marked n a_parameter = record n { parameters = n.parameters + 1 }
marked n a_type_parameter = record n { type_parameters = n.type_parameters + 1 }
marked n a_field = record n { fields = n.fields + 1 }
marked n a_variant = record n { variants = n.variants + 1 }
marked n (a_type depth) = record n { nodes = nodes_before depth n + 1 }

abbrev pub Holds : Counts → Mark → Type 0
Holds n a_definition = n.definitions ≤ 256
Holds n a_question = n.questions ≤ 256
Holds n a_lifetime = n.lifetimes ≤ 16
Holds n a_parameter = n.parameters ≤ 4
Holds n a_type_parameter = n.type_parameters ≤ 4
Holds n a_field = n.fields ≤ 256
Holds n a_variant = n.variants ≤ 256
Holds n (a_type depth) = n.nodes ≤ 64

mark-fine : (c d : Counts) (m : Mark) → step c (mark m) ≡ Fine d → (marked c m ≡ d) × Holds (marked c m) m
unfolding step
mark-fine c d a_definition h = within-fine limit.Definitions (c.definitions + 1) (marked c a_definition) d h
mark-fine c d a_question h = within-fine limit.Questions (c.questions + 1) (marked c a_question) d h
mark-fine c d a_lifetime h = within-fine limit.Lifetimes (c.lifetimes + 1) (marked c a_lifetime) d h
mark-fine c d a_parameter h = within-fine limit.Parameters (c.parameters + 1) (marked c a_parameter) d h
mark-fine c d a_type_parameter h = within-fine limit.TypeParameters (c.type_parameters + 1) (marked c a_type_parameter) d h
mark-fine c d a_field h = within-fine limit.Fields (c.fields + 1) (marked c a_field) d h
mark-fine c d a_variant h = within-fine limit.Variants (c.variants + 1) (marked c a_variant) d h
mark-fine c d (a_type depth) h = within-fine limit.TypeNodes (nodes_before depth c + 1) (marked c (a_type depth)) d (then-fine (within limit.Nesting (depth + 1) c) _ d h)

-- One of the counts goes up by the marks' weights, but at a mark that resets it, and stays within its limit.
pub record Counter (kind : LimitKind) (of : Counts → ℕ) (weight resets : Mark → ℕ) : Type 0 where
  pub adds : (c : Counts) (m : Mark) → resets m ≡ 0 → of (marked c m) ≡ of c + weight m
  pub holds : (c : Counts) (m : Mark) → resets m ≡ 0 → Holds (marked c m) m → of c ≤ limit_number kind → of (marked c m) ≤ limit_number kind

-- the events behind the first are counted from the counts that it leaves
behind-terminal : (c d : Counts) (role : Role) (t : Terminal) (e : List Event) → count c (terminal role t ∷ e) ≡ Within d → count c e ≡ Within d
behind-terminal c d role t e h = go (step c (terminal role t)) refl h
  where
    go : (s : Step) → step c (terminal role t) ≡ s → counted s (terminal role t ∷ e) (λ y. count y e) ≡ Within d → count c e ≡ Within d
    go (Fine b) x h = subst (λ y. count y e ≡ Within d) (sym (terminal-fine c b role t x)) h
    go (Passes other) x h = absurd cc

pub behind_mark : (c d : Counts) (m : Mark) (e : List Event) → count c (mark m ∷ e) ≡ Within d → (count (marked c m) e ≡ Within d) × Holds (marked c m) m
behind_mark c d m e h = go (step c (mark m)) refl h
  where
    go : (s : Step) → step c (mark m) ≡ s → counted s (mark m ∷ e) (λ y. count y e) ≡ Within d → (count (marked c m) e ≡ Within d) × Holds (marked c m) m
    go (Fine b) x h = let fine = mark-fine c b m x in (subst (λ y. count y e ≡ Within d) (sym fine.0) h, fine.1)
    go (Passes other) x h = absurd cc

module _ {kind : LimitKind} {of : Counts → ℕ} {weight resets : Mark → ℕ} (counter : Counter kind of weight resets) where
  pub counter_within : (c d : Counts) (e : List Event) → count c e ≡ Within d → weigh resets e ≡ 0 → of c ≤ limit_number kind → of c + weigh weight e ≤ limit_number kind
  counter_within c d [] h r l = omega (arith, l)
  counter_within c d (terminal role t ∷ e) h r l = counter_within c d e (behind-terminal c d role t e h) r l
  counter_within c d (mark m ∷ e) h r l =
      let none : resets m ≡ 0 = omega (arith, r) in
      let behind = behind_mark c d m e h in
      let all = counter_within (marked c m) d e behind.0 (omega (arith, r)) (counter.holds c m none behind.1 l) in
      let more = counter.adds c m none in
      omega (arith, all, more)
