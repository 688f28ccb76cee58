use Rattle.std.proofs.Common.{◌↔◌, true}
use Rattle.tm_base.specs.declared.ask.Ask.{Ask}
use Rattle.tm_base.specs.Rules.{Taken, HasTargetWord}
use Rattle.tm_base.specs.Tables.{Tables}
use Rattle.tm_base.specs.Worlds.{tables_of}
use Rattle.tm_auto.specs.Automata.{Automaton, ReadsWords}
use Rattle.tm_laws.proofs.known.CompatibleLemmas.{Compatible-known}
use Rattle.tm_laws.proofs.known.DecideLemmas.{test_of, test_of-to, test_of-from}
use Rattle.tm_refs.specs.Pointees.{IsAutomatonOf}
use Rattle.tm_judge.specs.Ready.{HasStart}
use Rattle.tm_judge.proofs.ReadyLemmas.{start-word}
use Rattle.tm_judge.proofs.values.rule_without_values.Goals as goal

kept-word : (tables : Tables) (ask : Ask) (auto : Automaton) → IsAutomatonOf tables true ask.dst auto → ReadsWords auto → HasStart auto ↔ HasTargetWord tables ask true
kept-word tables ask auto is reads =
    start-word tables true ask.dst auto is reads (λ x u. test_of (Compatible-known tables ask.assume x u)) (Taken tables ask)
    (λ x u leaf. (λ h. test_of-to (Compatible-known tables ask.assume x u) h, λ h. test_of-from (Compatible-known tables ask.assume x u) h))

pub returns-then-branch : goal.returns-then-branch
returns-then-branch c = λ none.
    let both = kept-word (tables_of c.args.world.now) c.args.ask.now c.in_ok-kept.kept c.in_ok-kept.ensures.automaton c.law.ensures.reads in
    (both.0 (c.in_ok-has_start.ensures.0 c.if-branch.true), none)

pub returns : goal.returns
returns c = λ none has.
    let both = kept-word (tables_of c.args.world.now) c.args.ask.now c.in_ok-kept.kept c.in_ok-kept.ensures.automaton c.law.ensures.reads in
    cc (c.in_ok-has_start.ensures.1 (both.1 has), c.if-branch.false)
