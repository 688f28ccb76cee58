-- The cell at which a target refuses a word of a source, and what is told of it.
use Rattle.std.specs.Prelude.{◌≡◌, ℕ, take, Option}
use Rattle.tm_base.specs.declared.answer.RefFault.{RefFault}
use Rattle.tm_base.specs.declared.answer.Rule.{Rule}
use Rattle.tm_base.specs.declared.ask.Ask.{Ask}
use Rattle.tm_base.specs.declared.world.World.{World}
use Rattle.tm_base.specs.Answers.{AreJudged, IsValue, IsRefusedAt, IsLeastFault}
use Rattle.tm_base.specs.Cells.{Word, fit}
use Rattle.tm_base.specs.Layout.{size_of}
use Rattle.tm_base.specs.Rules.{source, target, IsRuleOfNo}
use Rattle.tm_base.specs.Tables.{Tables}
use Rattle.tm_base.specs.Worlds.{tables_of, IsTypeOver}
use Rattle.tm_auto.specs.Automata.{Automaton}
use Rattle.tm_refs.specs.declared.compat.Compat.{Compat}
use Rattle.tm_refs.specs.Pointees.{IsAutomatonOf}
use Rattle.tm_refs.specs.Serves.{ServesFor}

-- In a question over a world, whose types are judged, the target goes along with the first cells of a value of
-- the source, and not with the next; and these are the target's automaton, a table of references that serves for the
-- target, and the number of the source's bytes.
pub record IsRefused (world : World) (ask : Ask) (dst : Automaton) (compat : Compat) (size : ℕ) (w : Word) (offset : ℕ) : Type 0 where
  pub source_over : IsTypeOver (tables_of world) ask.src
  pub target_over : IsTypeOver (tables_of world) ask.dst
  pub judged : AreJudged (tables_of world) ask
  pub automaton : IsAutomatonOf (tables_of world) ask.assume.safety ask.dst dst
  pub serves : ServesFor (tables_of world) ask.assume ask.dst compat
  pub sized : size ≡ size_of (source (tables_of world) ask)
  pub value : IsValue (tables_of world) ask w
  pub refused : IsRefusedAt (tables_of world) ask w offset

-- the rule of the no at that cell; of the references that may stand there the one with the least number, and
-- the least depth
pub record IsRuleAt (tables : Tables) (ask : Ask) (w : Word) (offset : ℕ) (rule : Rule) (fault : Option RefFault) : Type 0 where
  pub rule_holds : IsRuleOfNo tables ask w offset rule fault
  pub least : IsLeastFault tables ask (take offset (fit w (size_of (target tables ask)))) fault
