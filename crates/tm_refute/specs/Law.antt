-- What a refutation shows.
use Rattle.std.specs.Prelude.{All}
use Rattle.tm_base.specs.declared.ask.Ask.{Ask}
use Rattle.tm_base.specs.declared.answer.Answer.{Answer}
use Rattle.tm_base.specs.declared.answer.Answer.TheVariants.{No, NoAt}
use Rattle.tm_base.specs.Answers.{Casts, IsTrueAnswer}
use Rattle.tm_base.specs.Asked.{HoldsOf}
use Rattle.tm_base.specs.Compatible.{CompatibleTo}
use Rattle.tm_base.specs.Tables.{Tables}
use Rattle.tm_refute.specs.declared.refutation.Refutation.{Refutation}
use Rattle.tm_refute.specs.Refutes.{Refutes}

-- the answer is a no: no yes, and no refusal
abbrev pub IsNo : Answer → Type 0
IsNo (No rule) = Unit {0}
IsNo (NoAt rule o w fault) = Unit {0}
IsNo _ = ⊥

-- The source may not be taken as the target, so the true answers are noes; and the references of each entry aren't
-- compatible to its depth.
pub record IsRefuted (tables : Tables) (ask : Ask) (x : Refutation) : Type 0 where
  pub casts : ¬ Casts tables ask
  pub unheld : ¬ HoldsOf tables ask
  pub answers : (answer : Answer) → IsTrueAnswer tables ask answer → IsNo answer
  pub entries : All (λ entry. ¬ CompatibleTo tables ask.assume entry.depth entry.source.0 entry.target.0) x.entries

-- so it is of each that holds
abbrev pub RefutationsAreTrue : Type 0
RefutationsAreTrue = (tables : Tables) (ask : Ask) (x : Refutation) → Refutes tables ask x → IsRefuted tables ask x
