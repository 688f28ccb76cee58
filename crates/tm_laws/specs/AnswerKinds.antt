-- The kinds of answers, and of rules for which one is no.
use Rattle.std.specs.Prelude.{Bool, true, false}
use Rattle.tm_base.specs.declared.answer.Answer.{Answer}
use Rattle.tm_base.specs.declared.answer.Answer.TheVariants.{Yes, YesBecause, No, NoAt, Refused}
use Rattle.tm_base.specs.declared.answer.Rule.{Rule}
use Rattle.tm_base.specs.declared.answer.Rule.TheVariants.{TargetUninhabited, TargetPrivate, NoCommonValue, RefMoreUnique, RefTooBig, RefAlignment, RefInterior, RefLifetime, RefPointee}

-- one of the types isn't judged
abbrev pub is_refusal : Answer → Bool
is_refusal (Refused side why g) = true
is_refusal _ = false

-- a value of the source may be taken as one of the target
abbrev pub is_yes : Answer → Bool
is_yes Yes = true
is_yes (YesBecause w) = true
is_yes _ = false

-- it may not
abbrev pub is_no : Answer → Bool
is_no (No rule) = true
is_no (NoAt rule o w fault) = true
is_no _ = false

-- the rule speaks of the types as a whole
abbrev pub is_of_types : Rule → Bool
is_of_types TargetUninhabited = true
is_of_types TargetPrivate = true
is_of_types NoCommonValue = true
is_of_types _ = false

-- the rule speaks of a source reference and a target reference
abbrev pub is_of_references : Rule → Bool
is_of_references RefMoreUnique = true
is_of_references RefTooBig = true
is_of_references RefAlignment = true
is_of_references RefInterior = true
is_of_references RefLifetime = true
is_of_references RefPointee = true
is_of_references _ = false
