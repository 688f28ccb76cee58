-- The lines of a report, as bytes: one for each reference type, one for each answer, and the last one. The
-- words are this project's.
use Rattle.std.specs.Prelude.{ℕ, ◌==◌, if◌then◌else◌, Option, Some, None, List, [], ◌++◌, codes}
use Rattle.std.specs.Fmt.{decimal}
use Rattle.tm_base.specs.declared.answer.Answer.{Answer}
use Rattle.tm_base.specs.declared.answer.Answer.TheVariants.{Yes, YesBecause, No, NoAt, Refused}
use Rattle.tm_base.specs.declared.answer.RefFault.{RefFault}
use Rattle.tm_base.specs.declared.answer.Rule.{Rule}
use Rattle.tm_base.specs.declared.answer.Rule.TheVariants.{TargetUninhabited, TargetPrivate, NoCommonValue, TooBig, NeedsInit, ByteValue, BytesForReference, ReferenceForBytes, RefMoreUnique, RefTooBig, RefAlignment, RefInterior, RefLifetime, RefPointee}
use Rattle.tm_base.specs.declared.answer.Side.{Side}
use Rattle.tm_base.specs.declared.answer.Side.TheVariants.{Source, Target}
use Rattle.tm_base.specs.declared.answer.Why.{Why}
use Rattle.tm_base.specs.declared.answer.Why.TheVariants.{NoRepr, Tuple, OptionNotListed, CEnumRange, TransparentFields, PackedHoldsAlign, TooLarge}
use Rattle.tm_base.specs.declared.cell.RefId.{RefId}
use Rattle.tm_base.specs.declared.ground.Ground.{Ref}
use Rattle.tm_base.specs.Cells.{HasWholeReferences}
use Rattle.tm_base.specs.Tables.{Tables}
use Rattle.tm_base.specs.Texts.{text_of}
use Rattle.tm_report.specs.FaultLines.{line_end}
use Rattle.tm_report.specs.WordTexts.{reference_text, word_text}

-- the word of a rule
abbrev pub rule_word : Rule → List ℕ
rule_word TargetUninhabited = codes "target-uninhabited"
rule_word TargetPrivate = codes "target-private"
rule_word NoCommonValue = codes "no-common-value"
rule_word TooBig = codes "too-big"
rule_word NeedsInit = codes "needs-init"
rule_word ByteValue = codes "byte-value"
rule_word BytesForReference = codes "bytes-for-reference"
rule_word ReferenceForBytes = codes "reference-for-bytes"
rule_word RefMoreUnique = codes "ref-more-unique"
rule_word RefTooBig = codes "ref-too-big"
rule_word RefAlignment = codes "ref-alignment"
rule_word RefInterior = codes "ref-interior"
rule_word RefLifetime = codes "ref-lifetime"
rule_word RefPointee = codes "ref-pointee"

-- the word of a side
abbrev pub side_word : Side → List ℕ
side_word Source = codes "source"
side_word Target = codes "target"

-- the word of a cause
abbrev pub cause_word : Why → List ℕ
cause_word NoRepr = codes "no-repr"
cause_word Tuple = codes "tuple"
cause_word OptionNotListed = codes "option-not-listed"
cause_word CEnumRange = codes "c-enum-range"
cause_word TransparentFields = codes "transparent-fields"
cause_word PackedHoldsAlign = codes "packed-holds-align"
cause_word TooLarge = codes "too-large"

-- as `, depth 1`; nothing where the depth is 0
abbrev pub depth_text : ℕ → List ℕ
depth_text depth = if depth == 0 then [] else codes ", depth " ++ decimal depth

-- a source reference and the target reference that doesn't take it, as ` (&1 to &0, depth 1)`
abbrev pub pair_text : RefId → RefId → ℕ → List ℕ
pair_text source target depth =
    codes " (" ++ reference_text source ++ codes " to " ++ reference_text target ++ depth_text depth ++ codes ")"

-- nothing where no references are named
abbrev pub pair_if_some : Option RefFault → List ℕ
pair_if_some None = []
pair_if_some (Some fault) = pair_text fault.source fault.target fault.depth

-- an answer, in a world of which it speaks
abbrev pub answer_text : Tables → Answer → List ℕ
answer_text tables Yes = codes "yes"
answer_text tables (YesBecause w) = codes "yes, example " ++ word_text w
answer_text tables (No rule) = codes "no, " ++ rule_word rule
answer_text tables (NoAt rule o w fault) = codes "no, " ++ rule_word rule ++ codes " at " ++ decimal o ++ pair_if_some fault ++ codes ", bytes " ++ word_text w
answer_text tables (Refused side why g) = codes "refused, " ++ side_word side ++ codes ", " ++ cause_word why ++ codes ", " ++ text_of tables g

-- as `2: yes, example 00`
abbrev pub answer_line : ℕ → Tables → Answer → List ℕ
answer_line number tables answer = decimal number ++ codes ": " ++ answer_text tables answer ++ line_end

-- as `&0 = &'a u8`
abbrev pub reference_line : Tables → RefId → List ℕ
reference_line tables id = reference_text id ++ codes " = " ++ text_of tables (Ref id) ++ line_end

-- as `1 yes, 0 no, 0 refused`
abbrev pub summary_line : ℕ → ℕ → ℕ → List ℕ
summary_line accepted denied refused = decimal accepted ++ codes " yes, " ++ decimal denied ++ codes " no, " ++ decimal refused ++ codes " refused" ++ line_end

-- the word of an answer, where it has one, has whole references
abbrev pub HasWholeWord : ℕ → Answer → Type 0
HasWholeWord size (YesBecause w) = HasWholeReferences size w
HasWholeWord size (NoAt rule o w fault) = HasWholeReferences size w
HasWholeWord size _ = Unit {0}
