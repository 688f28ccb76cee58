-- The headline: what the answers to the questions of a file say.
use Rattle.std.specs.Prelude.{◌≡◌, ◌⊎◌, ◌↔◌, IsTrue, true, false, List}
use Rattle.std.specs.List.{AllZip}
use Rattle.tm_base.specs.declared.answer.Answer.{Answer}
use Rattle.tm_base.specs.declared.answer.Side.{Side}
use Rattle.tm_base.specs.declared.answer.Why.{Why}
use Rattle.tm_base.specs.declared.ask.Ask.{Ask}
use Rattle.tm_base.specs.declared.ground.Ground.{Ground}
use Rattle.tm_base.specs.declared.world.World.{World}
use Rattle.tm_base.specs.Answers.{AreJudged, IsAnswer, IsTrueAnswer, side_type}
use Rattle.tm_base.specs.Reaches.{IsAtFault, Reaches}
use Rattle.tm_base.specs.Rules.{Taken, source, target}
use Rattle.tm_base.specs.Tables.{Tables}
use Rattle.tm_base.specs.Transmutes.{EveryWordFits, IsUninhabited, SomeWordFits}
use Rattle.tm_base.specs.Worlds.{tables_of}
use Rattle.tm_laws.specs.AnswerKinds.{is_refusal, is_yes}

-- one of the two types of a question reaches a type whose layout isn't guaranteed, or which is too large
abbrev pub ReachesFault : Tables → Ask → Type 0
ReachesFault tables ask = (side : Side) × (g : Ground) × (why : Why) × Reaches tables (side_type ask side) g × IsAtFault tables g why

-- What an answer says of its question, where `Taken` says which references may be taken as which: those that
-- are compatible at every depth.
pub record IsRight (tables : Tables) (ask : Ask) (answer : Answer) : Type 0 where
  -- a refusal exactly where one of the two types reaches a type at fault
  pub refused : IsTrue (is_refusal answer) ↔ ReachesFault tables ask
  -- else, without `validity`, a yes exactly where each value of the source, fitted, is one of the target
  pub each : AreJudged tables ask → ask.assume.validity ≡ false
      → IsTrue (is_yes answer) ↔ EveryWordFits (Taken tables ask) ask.assume.safety (source tables ask) (target tables ask)
  -- and with it, exactly where some is or there is none
  pub some : AreJudged tables ask → ask.assume.validity ≡ true
      → IsTrue (is_yes answer) ↔ (SomeWordFits (Taken tables ask) ask.assume.safety (source tables ask) (target tables ask) ⊎ IsUninhabited (source tables ask))
  -- and all that it shows is true: the type and its cause, the value, the rule, the offset, the references
  pub shows : IsTrueAnswer tables ask answer

-- the answer to a question of a world, with the least evidence for it
pub record IsAnswered (world : World) (ask : Ask) (answer : Answer) : Type 0 where
  pub right : IsRight (tables_of world) ask answer
  pub least : IsAnswer (tables_of world) ask answer

-- each question has its answer, in order
abbrev pub AreAnswered : World → List Ask → List Answer → Type 0
AreAnswered world = AllZip (IsAnswered world)
