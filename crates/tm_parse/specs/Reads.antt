-- What a call of the reader did is what the grammar says of the terminals there, unless memory ran out.
use Rattle.std.specs.Prelude.{◌≡◌, ℕ, ◌+◌, ◌<◌, ◌≤◌, Bool, true, false, Result, Ok, Err}
use Rattle.tm_base.specs.Limits.{limit_number}
use Rattle.tm_base.specs.declared.limit.LimitKind.{LimitKind}
use Rattle.tm_parse.specs.Events.{Mark, mark}
use Rattle.tm_parse.specs.Counting.{Step, Fine, Passes, step}
use Rattle.tm_parse.specs.Parts.{Outcome, Done, Stuck, Passed, Part}
use Rattle.tm_parse.specs.declared.counts.Counts.{Counts}
use Rattle.tm_parse.specs.declared.reader.Reader.{Reader}
use Rattle.tm_parse.specs.declared.stop.Stop.{Stop}
use Rattle.tm_parse.specs.declared.stop.Stop.TheVariants as stop

-- the reader stands behind what was read, or at the terminal where it stopped
abbrev pub Comes : {V : Type 0} → Outcome V → Reader → Result V Stop → Type 0
Comes o after (Ok v) = o ≡ Done v after.counts after.rest.now
Comes o after (Err stop.Memory) = Unit {0}
Comes o after (Err stop.Stuck) = o ≡ Stuck after.rest.now
Comes o after (Err (stop.Passed kind)) = o ≡ Passed kind after.rest.now

-- from the first reader to the second one, the part is read
abbrev pub Reads : {V : Type 0} → Part V → Reader → Reader → Result V Stop → Type 0
Reads part before after result = Comes (part.read before.counts before.rest.now) after result

-- where something begins it is counted, and the reader stays at its first terminal
abbrev pub Counted : {V : Type 0} → Bool → Step → Reader → Result V Stop → Type 0
Counted begins counted after (Ok v) = (begins ≡ true) × (counted ≡ Fine after.counts)
Counted begins counted after (Err stop.Memory) = ⊥
Counted begins counted after (Err stop.Stuck) = begins ≡ false
Counted begins counted after (Err (stop.Passed kind)) = (begins ≡ true) × (counted ≡ Passes kind)

abbrev pub Begins : {V : Type 0} → Bool → Mark → Reader → Reader → Result V Stop → Type 0
Begins begins m before after result =
    (after.rest.now ≡ before.rest.now) × Counted begins (step before.counts (mark m)) after result

-- what counting returned is the event's step
abbrev pub IsStep : Result Counts LimitKind → Step → Type 0
IsStep (Ok after) s = s ≡ Fine after
IsStep (Err kind) s = s ≡ Passes kind

-- one more is within the limit, or passes it
abbrev pub IsMore : ℕ → LimitKind → Result ℕ LimitKind → Type 0
IsMore count limit (Ok more) = (more ≡ count + 1) × (more ≤ limit_number limit)
IsMore count limit (Err kind) = (kind ≡ limit) × (limit_number limit < count + 1)
