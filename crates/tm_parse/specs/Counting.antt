-- How limits are counted, event by event, in one record.
use Rattle.std.specs.Prelude.{ℕ, zero, suc, ◌+◌, nat_lt, if◌then◌else◌, List, [], ◌∷◌}
use Rattle.tm_parse.specs.Events.{a_definition, a_question, a_lifetime, a_parameter, a_type_parameter, a_field, a_variant, a_type, plain, array_length, Event, terminal, mark}
use Rattle.tm_parse.specs.Limits.{number_of, is_number_or_sign}
use Rattle.tm_parse.specs.declared.counts.Counts.{Counts}
use Rattle.tm_base.specs.declared.limit.LimitKind.{LimitKind}
use Rattle.tm_base.specs.declared.limit.LimitKind.TheVariants as limit
use Rattle.tm_base.specs.Limits.{limit_number}
use Rattle.tm_parse.specs.declared.terminal.Terminal.{Terminal}

-- an event is counted, or passes a limit
pub data Step : Type 0 where
  Fine : Counts → Step
  Passes : LimitKind → Step

-- a number against a limit
abbrev pub within : LimitKind → ℕ → Counts → Step
within kind n after = if nat_lt (limit_number kind) n then Passes kind else Fine after

-- a second limit, where the first isn't passed
abbrev pub and_then : Step → Step → Step
and_then (Fine counts) next = next
and_then (Passes kind) next = Passes kind

-- words and lifetimes have a greatest length
abbrev pub name_bytes : Counts → Terminal → Step
name_bytes counts t = if is_number_or_sign t.class then Fine counts else within limit.NameBytes t.size counts

-- the types in the outermost one, before one with so many around it
abbrev pub nodes_before : ℕ → Counts → ℕ
nodes_before zero counts = 0
nodes_before (suc depth) counts = counts.nodes

-- the table of limits: what is counted at each event, and against which limit
unfoldable pub step : Counts → Event → Step
step n (mark a_definition) = within limit.Definitions (n.definitions + 1) (record n { definitions = n.definitions + 1; parameters = 0; type_parameters = 0; fields = 0; variants = 0 })
step n (mark a_question) = within limit.Questions (n.questions + 1) (record n { questions = n.questions + 1 })
step n (mark a_lifetime) = within limit.Lifetimes (n.lifetimes + 1) (record n { lifetimes = n.lifetimes + 1 })
step n (mark a_parameter) = within limit.Parameters (n.parameters + 1) (record n { parameters = n.parameters + 1 })
step n (mark a_type_parameter) = within limit.TypeParameters (n.type_parameters + 1) (record n { type_parameters = n.type_parameters + 1 })
step n (mark a_field) = within limit.Fields (n.fields + 1) (record n { fields = n.fields + 1 })
step n (mark a_variant) = within limit.Variants (n.variants + 1) (record n { variants = n.variants + 1 })
step n (mark (a_type depth)) = and_then (within limit.Nesting (depth + 1) n)
    (let nodes = nodes_before depth n + 1 in within limit.TypeNodes nodes (record n { nodes = nodes }))
step n (terminal array_length t) = and_then (within limit.ArrayLength (number_of t) n) (name_bytes n t)
step n (terminal plain t) = name_bytes n t

-- a list of events stays within the limits, or passes one where these events are left
pub data Verdict : Type 0 where
  Within : Counts → Verdict
  Beyond : LimitKind → List Event → Verdict

abbrev pub counted : Step → List Event → (Counts → Verdict) → Verdict
counted (Fine after) left next = next after
counted (Passes kind) left next = Beyond kind left

abbrev pub count : Counts → List Event → Verdict
count n [] = Within n
count n (x ∷ events) = counted (step n x) (x ∷ events) (λ after. count after events)

-- before a file's first terminal
abbrev pub none_yet : Counts
none_yet = record { definitions = 0; questions = 0; lifetimes = 0; parameters = 0; type_parameters = 0; fields = 0; variants = 0; nodes = 0 }
