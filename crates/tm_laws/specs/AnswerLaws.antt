-- What an answer says of the two types of its question, and what a no shows.
use Rattle.std.specs.Prelude.{◌≡◌, ℕ, ◌<◌, ◌⊎◌, ◌↔◌, false, IsTrue, Option, is_some}
use Rattle.tm_base.specs.declared.answer.Answer.{Answer}
use Rattle.tm_base.specs.declared.answer.Answer.TheVariants.{No, NoAt}
use Rattle.tm_base.specs.declared.answer.RefFault.{RefFault}
use Rattle.tm_base.specs.declared.answer.Rule.{Rule}
use Rattle.tm_base.specs.declared.ask.Ask.{Ask}
use Rattle.tm_base.specs.declared.world.World.{World}
use Rattle.tm_base.specs.Answers.{IsAnswer, AreJudged, Casts}
use Rattle.tm_base.specs.Layout.{size_of}
use Rattle.tm_base.specs.Reaches.{IsJudged}
use Rattle.tm_base.specs.Rules.{target}
use Rattle.tm_base.specs.Tables.{Tables}
use Rattle.tm_base.specs.Worlds.{tables_of}
use Rattle.tm_laws.specs.AnswerKinds.{is_refusal, is_yes, is_no, is_of_types, is_of_references}

module _ (tables : Tables) (ask : Ask) where
  -- It is a refusal exactly where one of the two types isn't judged. Where both are, it is a yes exactly
  -- where a value of the source may be taken as one of the target, and a no exactly where it may not.
  pub record MeansWhatItSays (answer : Answer) : Type 0 where
    pub refusal : IsTrue (is_refusal answer) ↔ ((¬ IsJudged tables ask.src) ⊎ (¬ IsJudged tables ask.dst))
    pub allowed : AreJudged tables ask → IsTrue (is_yes answer) ↔ Casts tables ask
    pub denied : AreJudged tables ask → IsTrue (is_no answer) ↔ (¬ Casts tables ask)

  -- A no at a cell names one of the target's, gives a rule of cells, and says which references it means
  -- exactly where the rule speaks of references.
  pub record ShowsItsCell (rule : Rule) (o : ℕ) (fault : Option RefFault) : Type 0 where
    pub inside : o < size_of (target tables ask)
    pub of_cells : is_of_types rule ≡ false
    pub references : is_some fault ≡ is_of_references rule

  -- what a no shows
  abbrev pub ShowsWhy : Answer → Type 0
  ShowsWhy (No rule) = IsTrue (is_of_types rule)
  ShowsWhy (NoAt rule o w fault) = ShowsItsCell rule o fault
  ShowsWhy _ = Unit {0}

-- each answer by the world's tables means what it says
abbrev pub AnswersMeanWhatTheySay : World → Type 0
AnswersMeanWhatTheySay world = (ask : Ask) (answer : Answer) → IsAnswer (tables_of world) ask answer → MeansWhatItSays (tables_of world) ask answer

-- each no shows why
abbrev pub NoesShowWhy : World → Type 0
NoesShowWhy world = (ask : Ask) (answer : Answer) → IsAnswer (tables_of world) ask answer → ShowsWhy (tables_of world) ask answer
