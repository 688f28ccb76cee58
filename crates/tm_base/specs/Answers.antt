-- When an answer to a question is true, and when it is the one to give. This project's, but for what a
-- yes means, which `Transmutes` says.
use Rattle.std.specs.Prelude.{◌≡◌, ℕ, ◌≤◌, ◌⊎◌, true, false, Option, Some, None, take}
use Rattle.tm_base.specs.declared.answer.Answer.{Answer}
use Rattle.tm_base.specs.declared.answer.Answer.TheVariants.{Yes, YesBecause, No, NoAt, Refused}
use Rattle.tm_base.specs.declared.answer.RefFault.{RefFault}
use Rattle.tm_base.specs.declared.answer.Rule.{Rule}
use Rattle.tm_base.specs.declared.answer.Side.{Side}
use Rattle.tm_base.specs.declared.answer.Side.TheVariants.{Source, Target}
use Rattle.tm_base.specs.declared.answer.Why.{Why}
use Rattle.tm_base.specs.declared.ask.Ask.{Ask}
use Rattle.tm_base.specs.declared.ground.Ground.{Ground}
use Rattle.tm_base.specs.Cells.{Word, fit}
use Rattle.tm_base.specs.Compatible.{CompatibleTo}
use Rattle.tm_base.specs.Layout.{size_of}
use Rattle.tm_base.specs.Orders.{word_less, text_less}
use Rattle.tm_base.specs.Reaches.{Reaches, IsAtFault, IsJudged}
use Rattle.tm_base.specs.Rules.{source, target, Taken, HasTargetWord, IsWholeRule, IsOpen, IsRuleOfNo}
use Rattle.tm_base.specs.Tables.{Tables}
use Rattle.tm_base.specs.Texts.{text_of}
use Rattle.tm_base.specs.Transmutes.{IsSourceWord, Fits, IsUninhabited, Transmutes}
use Rattle.tm_base.specs.Viable.{RefusesAt}

-- the type on a side of a question
abbrev pub side_type : Ask → Side → Ground
side_type ask Source = ask.src
side_type ask Target = ask.dst

module _ (tables : Tables) (ask : Ask) where
  -- a value of the source may be taken as one of the target
  abbrev pub Casts : Type 0
  Casts = Transmutes (Taken tables ask) ask.assume (source tables ask) (target tables ask)

  -- a word of the source
  abbrev pub IsValue : Word → Type 0
  IsValue w = IsSourceWord (source tables ask) w

  -- a word of the source that the target takes
  abbrev pub IsAccepted : Word → Type 0
  IsAccepted w = Fits (Taken tables ask) ask.assume.safety (target tables ask) w

  -- where the target stops going along with a word
  abbrev pub IsRefusedAt : Word → ℕ → Type 0
  IsRefusedAt = RefusesAt (Taken tables ask) ask.assume.safety (target tables ask)

  pub record AreJudged : Type 0 where
    pub source_judged : IsJudged tables ask.src
    pub target_judged : IsJudged tables ask.dst

  -- a plain yes: each value is accepted, or there is none
  pub record IsTrueYes : Type 0 where
    pub judged : AreJudged
    pub casts : Casts
    pub plain : (ask.assume.validity ≡ false) ⊎ IsUninhabited (source tables ask)

  -- a yes for the sake of a value that is accepted
  pub record IsTrueExample (w : Word) : Type 0 where
    pub judged : AreJudged
    pub assumed : ask.assume.validity ≡ true
    pub value : IsValue w
    pub accepted : IsAccepted w

  -- a no that the types as a whole give
  pub record IsTrueNo (rule : Rule) : Type 0 where
    pub judged : AreJudged
    pub refused : ¬ Casts
    pub rule_holds : IsWholeRule tables ask rule

  -- a no that one cell of a value gives
  pub record IsTrueNoAt (rule : Rule) (o : ℕ) (w : Word) (fault : Option RefFault) : Type 0 where
    pub judged : AreJudged
    pub refused : ¬ Casts
    pub unassumed : ask.assume.validity ≡ false
    pub has_word : HasTargetWord tables ask ask.assume.safety
    pub value : IsValue w
    pub offset : IsRefusedAt w o
    pub rule_holds : IsRuleOfNo tables ask w o rule fault

  -- the side that is named: the target only where the source is judged
  abbrev pub IsNamedSide : Side → Type 0
  IsNamedSide Source = Unit {0}
  IsNamedSide Target = IsJudged tables ask.src

  -- that side reaches the type, which is at fault
  pub record IsTrueRefusal (side : Side) (why : Why) (g : Ground) : Type 0 where
    pub named_side : IsNamedSide side
    pub reached : Reaches tables (side_type ask side) g
    pub at_fault : IsAtFault tables g why

  abbrev pub IsTrueAnswer : Answer → Type 0
  IsTrueAnswer Yes = IsTrueYes
  IsTrueAnswer (YesBecause w) = IsTrueExample w
  IsTrueAnswer (No rule) = IsTrueNo rule
  IsTrueAnswer (NoAt rule o w fault) = IsTrueNoAt rule o w fault
  IsTrueAnswer (Refused side why g) = IsTrueRefusal side why g

  -- no other accepted value is less
  abbrev pub IsLeastAccepted : Word → Type 0
  IsLeastAccepted w = (v : Word) → IsValue v → IsAccepted v → word_less v w ≡ false

  -- no value is refused at a lesser offset, and none that is less at this one
  abbrev pub IsLeastRefused : Word → ℕ → Type 0
  IsLeastRefused w o = (v : Word) → (p : ℕ) → IsValue v → IsRefusedAt v p → (o ≤ p) × (p ≡ o → word_less v w ≡ false)

  -- of the references that may stand there, the one with the least number, and the least depth
  abbrev pub IsLeastFault : Word → Option RefFault → Type 0
  IsLeastFault before None = Unit {0}
  IsLeastFault before (Some fault) =
      ((t : ℕ) → IsOpen tables ask before t → fault.target.0 ≤ t)
      × ((depth : ℕ) → ¬ CompatibleTo tables ask.assume depth fault.source.0 fault.target.0 → fault.depth ≤ depth)

  -- no type at fault that the side reaches has a lesser text
  abbrev pub IsLeastFaulty : Side → Ground → Type 0
  IsLeastFaulty side g =
      (h : Ground) → (why : Why) → Reaches tables (side_type ask side) h → IsAtFault tables h why
      → text_less (text_of tables h) (text_of tables g) ≡ false

  -- of the true answers of its kind the one to give
  abbrev pub IsLeastAnswer : Answer → Type 0
  IsLeastAnswer (YesBecause w) = IsLeastAccepted w
  IsLeastAnswer (NoAt rule o w fault) = IsLeastRefused w o × IsLeastFault (take o (fit w (size_of (target tables ask)))) fault
  IsLeastAnswer (Refused side why g) = IsLeastFaulty side g
  IsLeastAnswer _ = Unit {0}

  -- the answer to a question
  pub record IsAnswer (answer : Answer) : Type 0 where
    pub is_true : IsTrueAnswer answer
    pub is_least : IsLeastAnswer answer

  -- No two types at fault that one side reaches share their text. Then the answer is the only one.
  abbrev pub NoSharedTexts : Type 0
  NoSharedTexts =
      (side : Side) (g h : Ground) (why other : Why)
      → Reaches tables (side_type ask side) g → Reaches tables (side_type ask side) h
      → IsAtFault tables g why → IsAtFault tables h other → text_of tables g ≡ text_of tables h → g ≡ h
