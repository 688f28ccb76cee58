-- What an answer says of its question's types, and what a no shows.
use Rattle.std.proofs.Common.{◌≡◌, ℕ, ◌⊎◌, ◌↔◌, inl, inr, refl, sym, ◌∙◌, ap, true, false, IsTrue, Option, Some, None, is_some, slice_get}
use Rattle.tm_base.specs.declared.answer.Answer.{Answer}
use Rattle.tm_base.specs.declared.answer.Answer.TheVariants.{Yes, YesBecause, No, NoAt, Refused}
use Rattle.tm_base.specs.declared.answer.LocalRule.{LocalRule}
use Rattle.tm_base.specs.declared.answer.LocalRule.TheVariants.{MoreUnique, TooBig as too_big, Alignment, Interior, Lifetime}
use Rattle.tm_base.specs.declared.answer.RefFault.{RefFault}
use Rattle.tm_base.specs.declared.answer.Rule.{Rule}
use Rattle.tm_base.specs.declared.answer.Rule.TheVariants.{TargetUninhabited, TargetPrivate, NoCommonValue, TooBig, NeedsInit, ByteValue, BytesForReference, ReferenceForBytes}
use Rattle.tm_base.specs.declared.answer.Side.{Side}
use Rattle.tm_base.specs.declared.answer.Side.TheVariants.{Source, Target}
use Rattle.tm_base.specs.declared.answer.Why.{Why}
use Rattle.tm_base.specs.declared.ask.Ask.{Ask}
use Rattle.tm_base.specs.declared.cell.Cell.{Cell}
use Rattle.tm_base.specs.declared.cell.Cell.TheVariants.{Byte, Uninit, Ptr}
use Rattle.tm_base.specs.declared.definition.RefRow.{RefRow}
use Rattle.tm_base.specs.declared.ground.Ground.{Ground}
use Rattle.tm_base.specs.Answers.{AreJudged, Casts, IsTrueAnswer, IsTrueExample, IsTrueRefusal}
use Rattle.tm_base.specs.Cells.{Word}
use Rattle.tm_base.specs.Reaches.{IsJudged}
use Rattle.tm_base.specs.Rules.{target, Taken, rule_of, IsWholeRule, IsCellRule, IsRuleOfNo, IsRefRule, BreaksLocally, BreaksBelow}
use Rattle.tm_base.specs.Tables.{Tables}
use Rattle.tm_laws.specs.AnswerKinds.{is_refusal, is_yes, is_no, is_of_types, is_of_references}
use Rattle.tm_laws.specs.AnswerLaws.{MeansWhatItSays, ShowsWhy}
use Rattle.tm_laws.proofs.known.CompatibleLemmas.{OnRows-rows}
use Rattle.tm_laws.proofs.refusals.StopLemmas.{refused-inside}

-- the rules that two references break locally are rules of references
rule_of-references : (rule : LocalRule) → is_of_references (rule_of rule) ≡ true
rule_of-references MoreUnique = refl
rule_of-references too_big = refl
rule_of-references Alignment = refl
rule_of-references Interior = refl
rule_of-references Lifetime = refl

-- and those are none of whole types
references-of_cells : (rule : Rule) → is_of_references rule ≡ true → is_of_types rule ≡ false
references-of_cells TargetUninhabited h = cc
references-of_cells TargetPrivate h = cc
references-of_cells NoCommonValue h = cc
references-of_cells _ h = refl

-- a rule of cells, which has a fault exactly where it is one of references
abbrev IsFaultFor : Rule → Option RefFault → Type 0
IsFaultFor rule fault = (is_of_types rule ≡ false) × (is_some fault ≡ is_of_references rule)

plain-fault : (rule other : Rule) (fault : Option RefFault) → rule ≡ other → fault ≡ None → is_of_types other ≡ false → is_of_references other ≡ false → IsFaultFor rule fault
plain-fault rule other fault e f of_cells plain = (ap is_of_types e ∙ of_cells, ap is_some f ∙ sym (ap is_of_references e ∙ plain))

reference-fault : (rule : Rule) (fault : Option RefFault) (found : RefFault) → fault ≡ Some found → is_of_references rule ≡ true → IsFaultFor rule fault
reference-fault rule fault found f e = (references-of_cells rule e, ap is_some f ∙ sym e)

module _ (tables : Tables) (ask : Ask) where
  -- one of the types isn't judged
  abbrev SomeUnjudged : Type 0
  SomeUnjudged = (¬ IsJudged tables ask.src) ⊎ (¬ IsJudged tables ask.dst)

  refused-unjudged : (side : Side) (why : Why) (g : Ground) → IsTrueRefusal tables ask side why g → SomeUnjudged
  refused-unjudged Source why g h = inl (λ judged. cc (judged g h.reached, h.at_fault))
  refused-unjudged Target why g h = inr (λ judged. cc (judged g h.reached, h.at_fault))

  both-judged : AreJudged tables ask → ¬ SomeUnjudged
  both-judged judged (inl fails) = fails judged.source_judged
  both-judged judged (inr fails) = fails judged.target_judged

  refusal-means : (answer : Answer) → IsTrueAnswer tables ask answer → IsTrue (is_refusal answer) ↔ SomeUnjudged
  refusal-means Yes h = (λ e. cc, λ fails. absurd (both-judged h.judged fails))
  refusal-means (YesBecause w) h = (λ e. cc, λ fails. absurd (both-judged h.judged fails))
  refusal-means (No rule) h = (λ e. cc, λ fails. absurd (both-judged h.judged fails))
  refusal-means (NoAt rule o w fault) h = (λ e. cc, λ fails. absurd (both-judged h.judged fails))
  refusal-means (Refused side why g) h = (λ e. refused-unjudged side why g h, λ fails. refl)

  example-casts : (w : Word) → IsTrueExample tables ask w → Casts tables ask
  example-casts w h = inr (inr (h.assumed, (w, h.value, h.accepted)))

  yes-means : (answer : Answer) → IsTrueAnswer tables ask answer → AreJudged tables ask → IsTrue (is_yes answer) ↔ Casts tables ask
  yes-means Yes h judged = (λ e. h.casts, λ casts. refl)
  yes-means (YesBecause w) h judged = (λ e. example-casts w h, λ casts. refl)
  yes-means (No rule) h judged = (λ e. cc, λ casts. absurd (h.refused casts))
  yes-means (NoAt rule o w fault) h judged = (λ e. cc, λ casts. absurd (h.refused casts))
  yes-means (Refused side why g) h judged = (λ e. cc, λ casts. absurd (both-judged judged (refused-unjudged side why g h)))

  no-means : (answer : Answer) → IsTrueAnswer tables ask answer → AreJudged tables ask → IsTrue (is_no answer) ↔ (¬ Casts tables ask)
  no-means Yes h judged = (λ e. cc, λ refused. absurd (refused h.casts))
  no-means (YesBecause w) h judged = (λ e. cc, λ refused. absurd (refused (example-casts w h)))
  no-means (No rule) h judged = (λ e. h.refused, λ refused. refl)
  no-means (NoAt rule o w fault) h judged = (λ e. h.refused, λ refused. refl)
  no-means (Refused side why g) h judged = (λ e. cc, λ refused. absurd (both-judged judged (refused-unjudged side why g h)))

  -- a true answer means what it says
  pub answer-means : (answer : Answer) → IsTrueAnswer tables ask answer → MeansWhatItSays tables ask answer
  answer-means answer h = record { refusal = refusal-means answer h; allowed = yes-means answer h; denied = no-means answer h }

  -- ---- what a no shows

  breaks-references : (rule : Rule) (fault : RefFault) (r t : RefRow) → BreaksLocally tables ask rule fault r t ⊎ BreaksBelow tables ask rule fault r t → is_of_references rule ≡ true
  breaks-references rule fault r t (inl (broken, first, e, depth)) = ap is_of_references e ∙ rule_of-references broken
  breaks-references rule fault r t (inr (keeps, e, stops)) = ap is_of_references e

  ref_rule-references : (rule : Rule) (fault : RefFault) → IsRefRule tables ask rule fault → is_of_references rule ≡ true
  ref_rule-references rule fault h =
      let (r, t, at_r, at_t, breaks) = OnRows-rows (slice_get tables.refs fault.source.0) (slice_get tables.refs fault.target.0) (λ r t. BreaksLocally tables ask rule fault r t ⊎ BreaksBelow tables ask rule fault r t) h in
      breaks-references rule fault r t breaks

  cell_rule-fault : (before : Word) (c : Option Cell) (rule : Rule) (fault : Option RefFault) → IsCellRule tables ask before c rule fault → IsFaultFor rule fault
  cell_rule-fault before None rule fault h = absurd h
  cell_rule-fault before (Some (Byte b)) rule fault (inl (e, goes, f)) = plain-fault rule ByteValue fault e f refl refl
  cell_rule-fault before (Some (Byte b)) rule fault (inr (e, stuck, f)) = plain-fault rule BytesForReference fault e f refl refl
  cell_rule-fault before (Some Uninit) rule fault (e, f) = plain-fault rule NeedsInit fault e f refl refl
  cell_rule-fault before (Some (Ptr r k)) rule fault (inl (e, f, none)) = plain-fault rule ReferenceForBytes fault e f refl refl
  cell_rule-fault before (Some (Ptr r k)) rule fault (inr (found, f, source_is, first, opens, breaks)) = reference-fault rule fault found f (ref_rule-references rule found breaks)

  rule_of_no-fault : (w : Word) (o : ℕ) (rule : Rule) (fault : Option RefFault) → IsRuleOfNo tables ask w o rule fault → IsFaultFor rule fault
  rule_of_no-fault w o rule fault (inl (past, e, f)) = plain-fault rule TooBig fault e f refl refl
  rule_of_no-fault w o rule fault (inr (inside, h)) = cell_rule-fault _ _ rule fault h

  whole_rule-of_types : (rule : Rule) → IsWholeRule tables ask rule → IsTrue (is_of_types rule)
  whole_rule-of_types TargetUninhabited h = refl
  whole_rule-of_types TargetPrivate h = refl
  whole_rule-of_types NoCommonValue h = refl
  whole_rule-of_types _ h = absurd h

  -- a true no shows why
  pub no-shows_why : (answer : Answer) → IsTrueAnswer tables ask answer → ShowsWhy tables ask answer
  no-shows_why Yes h = tt
  no-shows_why (YesBecause w) h = tt
  no-shows_why (No rule) h = whole_rule-of_types rule h.rule_holds
  no-shows_why (NoAt rule o w fault) h =
      let (of_cells, references) = rule_of_no-fault w o rule fault h.rule_holds in
      record { inside = refused-inside (Taken tables ask) ask.assume.safety (target tables ask) w o h.offset; of_cells = of_cells; references = references }
  no-shows_why (Refused side why g) h = tt
