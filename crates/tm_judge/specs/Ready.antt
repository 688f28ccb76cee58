-- What the answer to a question is found from, where its types are judged.
use Rattle.std.specs.Prelude.{◌≡◌, ◌≢◌, Bool, true, []}
use Rattle.tm_base.specs.declared.answer.Answer.{Answer}
use Rattle.tm_base.specs.declared.ask.Ask.{Ask}
use Rattle.tm_base.specs.declared.world.World.{World}
use Rattle.tm_base.specs.Answers.{AreJudged, IsAnswer}
use Rattle.tm_base.specs.Worlds.{tables_of, IsTypeOver}
use Rattle.tm_auto.specs.Automata.{Automaton}
use Rattle.tm_refs.specs.declared.compat.Compat.{Compat}
use Rattle.tm_refs.specs.Pointees.{IsAutomatonOf}
use Rattle.tm_refs.specs.Serves.{ServesFor}

-- A question between judged types of a world, the automata of the values that the source has and of those that
-- may be made of the target, and a table of the references that serves for the target.
pub record IsReady (world : World) (ask : Ask) (compat : Compat) (src dst : Automaton) : Type 0 where
  pub source_over : IsTypeOver (tables_of world) ask.src
  pub target_over : IsTypeOver (tables_of world) ask.dst
  pub judged : AreJudged (tables_of world) ask
  pub serves : ServesFor (tables_of world) ask.assume ask.dst compat
  pub source : IsAutomatonOf (tables_of world) true ask.src src
  pub target : IsAutomatonOf (tables_of world) ask.assume.safety ask.dst dst

-- words begin somewhere: the automaton has one, where a reference may hold itself
abbrev pub HasStart : Automaton → Type 0
HasStart auto = auto.starts ≢ []

-- the answer to each question that these are ready for, where validity is assumed or not
abbrev pub AnswersEach : Compat → Automaton → Automaton → Bool → Answer → Type 0
AnswersEach compat src dst validity answer =
    (world : World) (ask : Ask) → IsReady world ask compat src dst → ask.assume.validity ≡ validity → IsAnswer (tables_of world) ask answer
