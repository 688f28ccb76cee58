-- What two reference types come to by themselves, before the values that they point to are asked.
use Rattle.std.specs.Prelude.{Result, Ok, Err}
use Rattle.tm_base.specs.declared.answer.LocalRule.{LocalRule}
use Rattle.tm_base.specs.declared.assume.Assume.{Assume}
use Rattle.tm_base.specs.declared.definition.RefRow.{RefRow}
use Rattle.tm_base.specs.Compatible.{IsLocalFault, KeepsAll}
use Rattle.tm_base.specs.Reaches.{IsJudged}
use Rattle.tm_base.specs.Tables.{Tables}

module _ (tables : Tables) where
  -- both pointees are judged
  pub record AreJudged (r t : RefRow) : Type 0 where
    pub source : IsJudged tables r.pointee
    pub target : IsJudged tables t.pointee

  -- all local rules are kept, or this is the first that isn't
  abbrev pub IsLocalAnswer : {X : Type 0} → Assume → RefRow → RefRow → Result X LocalRule → Type 0
  IsLocalAnswer assume r t (Ok done) = KeepsAll tables assume r t
  IsLocalAnswer assume r t (Err rule) = IsLocalFault tables assume r t rule
