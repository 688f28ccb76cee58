-- Why a question is answered no: the rules and their order, which are this project's.
use Rattle.std.specs.Prelude.{◌≡◌, ℕ, ◌<◌, ◌≤◌, ◌⊎◌, Bool, true, Option, Some, None, [], ◌∷◌, ◌++◌, take, slice_get}
use Rattle.tm_base.specs.declared.answer.LocalRule.{LocalRule}
use Rattle.tm_base.specs.declared.answer.LocalRule.TheVariants.{MoreUnique, TooBig as too_big, Alignment, Interior, Lifetime}
use Rattle.tm_base.specs.declared.answer.RefFault.{RefFault}
use Rattle.tm_base.specs.declared.answer.Rule.{Rule}
use Rattle.tm_base.specs.declared.answer.Rule.TheVariants.{TargetUninhabited, TargetPrivate, NoCommonValue, TooBig, NeedsInit, ByteValue, BytesForReference, ReferenceForBytes, RefMoreUnique, RefTooBig, RefAlignment, RefInterior, RefLifetime, RefPointee}
use Rattle.tm_base.specs.declared.ask.Ask.{Ask}
use Rattle.tm_base.specs.declared.cell.Cell.{Cell}
use Rattle.tm_base.specs.declared.cell.Cell.TheVariants.{Byte, Uninit, Ptr}
use Rattle.tm_base.specs.declared.definition.RefRow.{RefRow}
use Rattle.tm_base.specs.Cells.{Word, fit}
use Rattle.tm_base.specs.Compatible.{Compatible, CompatibleTo, IsLocalFault, KeepsAll}
use Rattle.tm_base.specs.Expanded.{Expanded}
use Rattle.tm_base.specs.Layout.{size_of}
use Rattle.tm_base.specs.Tables.{Tables, expanded_in, OnRows}
use Rattle.tm_base.specs.Viable.{HasWord, Viable, StandsOpen}

-- the rule of a no that a local rule gives
abbrev pub rule_of : LocalRule → Rule
rule_of MoreUnique = RefMoreUnique
rule_of too_big = RefTooBig
rule_of Alignment = RefAlignment
rule_of Interior = RefInterior
rule_of Lifetime = RefLifetime

module _ (tables : Tables) (ask : Ask) where
  -- the two types of the question, and which references may be taken as which
  abbrev pub source : Expanded
  source = expanded_in tables ask.src

  abbrev pub target : Expanded
  target = expanded_in tables ask.dst

  abbrev pub Taken : ℕ → ℕ → Type 0
  Taken = Compatible tables ask.assume

  -- the target has a word, with private types open or closed
  abbrev pub HasTargetWord : Bool → Type 0
  HasTargetWord keep = HasWord Taken keep target

  -- A rule on the types as a whole, where none before it holds: the target has no word; it has none
  -- that may be made with its private types closed; or no value is common to both.
  abbrev pub IsWholeRule : Rule → Type 0
  IsWholeRule TargetUninhabited = ¬ HasTargetWord true
  IsWholeRule TargetPrivate = HasTargetWord true × (¬ HasTargetWord ask.assume.safety)
  IsWholeRule NoCommonValue = HasTargetWord ask.assume.safety × (ask.assume.validity ≡ true)
  IsWholeRule _ = ⊥

  -- the first local rule that two references break, at depth 0
  abbrev pub BreaksLocally : Rule → RefFault → RefRow → RefRow → Type 0
  BreaksLocally rule fault r t =
      (broken : LocalRule) × IsLocalFault tables ask.assume r t broken × (rule ≡ rule_of broken) × (fault.depth ≡ 0)

  -- they break none, and their pointees don't go together at the depth
  abbrev pub BreaksBelow : Rule → RefFault → RefRow → RefRow → Type 0
  BreaksBelow rule fault r t =
      KeepsAll tables ask.assume r t × (rule ≡ RefPointee)
      × (¬ CompatibleTo tables ask.assume fault.depth fault.source.0 fault.target.0)

  -- the rule for which the source reference isn't taken as the target reference, and the depth
  abbrev pub IsRefRule : Rule → RefFault → Type 0
  IsRefRule rule fault =
      OnRows (slice_get tables.refs fault.source.0) (slice_get tables.refs fault.target.0)
      (λ r t. BreaksLocally rule fault r t ⊎ BreaksBelow rule fault r t)

  module _ (before : Word) where
    -- some word of the target goes on with an initialised byte
    abbrev pub SomeByteGoesOn : Type 0
    SomeByteGoesOn = (b : ℕ) × Viable Taken ask.assume.safety target (before ++ Byte b ∷ [])

    -- the reference may stand there in the target
    abbrev pub IsOpen : ℕ → Type 0
    IsOpen = StandsOpen Taken ask.assume.safety target before

    -- the rule of a cell that no word of the target goes on with
    abbrev pub IsCellRule : Option Cell → Rule → Option RefFault → Type 0
    IsCellRule (Some (Byte b)) rule fault =
        ((rule ≡ ByteValue) × SomeByteGoesOn × (fault ≡ None))
        ⊎ ((rule ≡ BytesForReference) × (¬ SomeByteGoesOn) × (fault ≡ None))
    IsCellRule (Some Uninit) rule fault = (rule ≡ NeedsInit) × (fault ≡ None)
    IsCellRule (Some (Ptr r k)) rule fault =
        ((rule ≡ ReferenceForBytes) × (fault ≡ None) × ((t : ℕ) → ¬ IsOpen t))
        ⊎ ((found : RefFault) × (fault ≡ Some found) × (found.source ≡ r) × (k ≡ 0) × IsOpen found.target.0 × IsRefRule rule found)
    IsCellRule None rule fault = ⊥

  -- The rule of a no at the cell o of a source word, fitted: past the source it's `TooBig`, whatever
  -- the target wants there.
  abbrev pub IsRuleOfNo : Word → ℕ → Rule → Option RefFault → Type 0
  IsRuleOfNo w o rule fault =
      ((size_of source ≤ o) × (rule ≡ TooBig) × (fault ≡ None))
      ⊎ ((o < size_of source) × IsCellRule (take o (fit w (size_of target))) (slice_get (fit w (size_of target)) o) rule fault)
