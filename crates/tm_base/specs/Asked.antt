-- What a yes to a question says: this project's words, and `Transmutes` has the rule.
use Rattle.tm_base.specs.declared.ask.Ask.{Ask}
use Rattle.tm_base.specs.Answers.{AreJudged, Casts}
use Rattle.tm_base.specs.Tables.{Tables}

-- Both types are judged, and a value of the source may be taken as one of the target under what the
-- question assumes.
pub record HoldsOf (tables : Tables) (ask : Ask) : Type 0 where
  pub judged : AreJudged tables ask
  pub casts : Casts tables ask
