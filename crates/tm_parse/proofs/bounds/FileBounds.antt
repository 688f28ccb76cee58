-- A file within the limits has no more items of each sort than they allow.
use Rattle.std.proofs.Common.{ℕ, ◌≤◌, List, [], ◌∷◌, length, arith}
use Rattle.tm_parse.proofs.limits.Counters.{definitions, questions, lifetimes, definition_counter, question_counter, lifetime_counter}
use Rattle.tm_parse.proofs.limits.Least.{AtLeast, total, any_least, fewer, to_least, seq_least, or_least, mark_least, many_least}
use Rattle.tm_parse.proofs.limits.Weights.{weigh-nothing, counter_within}
use Rattle.tm_parse.specs.Accepted.{IsFile}
use Rattle.tm_parse.proofs.limits.LimitLemmas.{is-counted}
use Rattle.tm_parse.specs.Bounds.{HasFewItems}
use Rattle.tm_parse.specs.Definitions.{headed_any, definition}
use Rattle.tm_parse.specs.Files.{item, sorted, file}
use Rattle.tm_parse.specs.Counting.{none_yet}
use Rattle.tm_parse.specs.declared.reader.items.Item.{Item}
use Rattle.tm_parse.specs.declared.reader.items.Item.TheVariants as sort
use Rattle.tm_parse.specs.declared.parsed.Parsed.{Parsed}
use Rattle.tm_parse.specs.declared.terminal.Terminal.{Terminal}

-- 1 for an item of the sort
abbrev definition_items : Item → ℕ
definition_items (sort.Definition d) = 1
definition_items other = 0

abbrev question_items : Item → ℕ
question_items (sort.Question q) = 1
question_items other = 0

abbrev lifetime_items : Item → ℕ
lifetime_items (sort.Lifetime t) = 1
lifetime_items other = 0

headed-least : (levels : ℕ) → AtLeast definitions (λ d. 1) (headed_any levels).spells
headed-least levels = or_least (fewer (mark_least any_least) (λ v. omega arith)) (or_least (fewer (mark_least any_least) (λ v. omega arith)) (fewer (mark_least any_least) (λ v. omega arith)))

definition-least : (levels : ℕ) → AtLeast definitions (λ d. 1) (definition levels).spells
definition-least levels = to_least (seq_least any_least (seq_least any_least (headed-least levels))) (λ v. omega arith)

definition-items : (levels : ℕ) → AtLeast definitions definition_items (item levels).spells
definition-items levels = or_least (to_least any_least (λ v. omega arith)) (or_least (to_least any_least (λ v. omega arith))
    (or_least (to_least any_least (λ v. omega arith)) (to_least (definition-least levels) (λ v. omega arith))))

question-items : (levels : ℕ) → AtLeast questions question_items (item levels).spells
question-items levels = or_least (to_least any_least (λ v. omega arith)) (or_least (to_least any_least (λ v. omega arith))
    (or_least (to_least (seq_least (mark_least any_least) any_least) (λ v. omega arith)) (to_least any_least (λ v. omega arith))))

lifetime-items : (levels : ℕ) → AtLeast lifetimes lifetime_items (item levels).spells
lifetime-items levels = or_least (to_least (seq_least any_least (seq_least (mark_least any_least) any_least)) (λ v. omega arith))
    (or_least (to_least any_least (λ v. omega arith)) (or_least (to_least any_least (λ v. omega arith)) (to_least any_least (λ v. omega arith))))

definitions-sorted : (items : List Item) → length (sorted items).decls ≤ total definition_items items
definitions-sorted [] = omega arith
definitions-sorted (i ∷ items) = let others = definitions-sorted items in grind (arith, others)

questions-sorted : (items : List Item) → length (sorted items).questions ≤ total question_items items
questions-sorted [] = omega arith
questions-sorted (i ∷ items) = let others = questions-sorted items in grind (arith, others)

lifetimes-sorted : (items : List Item) → length (sorted items).lifetimes ≤ total lifetime_items items
lifetimes-sorted [] = omega arith
lifetimes-sorted (i ∷ items) = let others = lifetimes-sorted items in grind (arith, others)

file-definitions : (levels : ℕ) → AtLeast definitions (λ v. length v.decls) (file levels).spells
file-definitions levels = to_least (many_least (definition-items levels)) definitions-sorted

file-questions : (levels : ℕ) → AtLeast questions (λ v. length v.questions) (file levels).spells
file-questions levels = to_least (many_least (question-items levels)) questions-sorted

file-lifetimes : (levels : ℕ) → AtLeast lifetimes (λ v. length v.lifetimes) (file levels).spells
file-lifetimes levels = to_least (many_least (lifetime-items levels)) lifetimes-sorted

pub has_few_items : (v : Parsed) (ts : List Terminal) → IsFile v ts → HasFewItems v
has_few_items v ts f =
    let levels = f.spelled.levels in
    let none = weigh-nothing f.events in
    let (after, within) = is-counted f.events f.within in
    record {
      lifetimes = (let all = (file-lifetimes levels).least v f.events f.spelled.spelled in let few = counter_within lifetime_counter none_yet after f.events within none (omega arith) in omega (arith, all, few));
      definitions = (let all = (file-definitions levels).least v f.events f.spelled.spelled in let few = counter_within definition_counter none_yet after f.events within none (omega arith) in omega (arith, all, few));
      questions = (let all = (file-questions levels).least v f.events f.spelled.spelled in let few = counter_within question_counter none_yet after f.events within none (omega arith) in omega (arith, all, few));
    }
