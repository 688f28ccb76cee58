-- The line that a file gets in place of a report, as bytes. The words are this project's.
use Rattle.std.specs.Prelude.{ℕ, Option, Some, None, List, [], ◌∷◌, ◌++◌, codes}
use Rattle.std.specs.Fmt.{decimal}
use Rattle.tm_base.specs.declared.limit.LimitKind.{LimitKind}
use Rattle.tm_base.specs.declared.limit.NameWhy.{NameWhy}
use Rattle.tm_base.specs.declared.limit.NameWhy.TheVariants.{Twice, Unknown, Arity, Lifetime, Discriminant, Infinite, BadRepr}
use Rattle.tm_base.specs.Limits.{limit_number, limit_word}
use Rattle.tm_report.specs.declared.fault.At.{At}
use Rattle.tm_report.specs.declared.fault.FileFault.{FileFault}
use Rattle.tm_report.specs.declared.fault.FileFault.TheVariants.{NotUtf8, NoToken, BadNumber, OpenComment, Unexpected, EndOfFile, Passed, Names, BadRefutation, NoQuestion}

-- the byte that ends a line
abbrev pub line_end : List ℕ
line_end = 0x0A ∷ []

-- the word of a name fault
abbrev pub name_word : NameWhy → List ℕ
name_word Twice = codes "twice"
name_word Unknown = codes "unknown"
name_word Arity = codes "arity"
name_word Lifetime = codes "lifetime"
name_word Discriminant = codes "discriminant"
name_word Infinite = codes "infinite"
name_word BadRepr = codes "bad-repr"

-- as `limit questions 256 passed`
abbrev pub limit_text : LimitKind → List ℕ
limit_text kind = codes "limit " ++ limit_word kind ++ codes " " ++ decimal (limit_number kind) ++ codes " passed"

-- as `ill-formed twice`
abbrev pub name_text : NameWhy → List ℕ
name_text why = codes "ill-formed " ++ name_word why

-- as ` at byte 9, line 1`
abbrev pub place_text : At → List ℕ
place_text at = codes " at byte " ++ decimal at.byte ++ codes ", line " ++ decimal at.line

-- nothing where there is no place
abbrev pub place_if_some : Option At → List ℕ
place_if_some None = []
place_if_some (Some at) = place_text at

-- the fault, and its place where it has one
abbrev pub fault_text : FileFault → List ℕ
fault_text (NotUtf8 at) = codes "not utf-8" ++ place_text at
fault_text (NoToken at) = codes "no token" ++ place_text at
fault_text (BadNumber at) = codes "bad number" ++ place_text at
fault_text (OpenComment at) = codes "open comment" ++ place_text at
fault_text (Unexpected at) = codes "unexpected token" ++ place_text at
fault_text (EndOfFile at) = codes "unexpected end" ++ place_text at
fault_text (Passed kind place) = limit_text kind ++ place_if_some place
fault_text (Names why at) = name_text why ++ place_text at
fault_text (BadRefutation line) = codes "bad refutation at line " ++ decimal line
fault_text (NoQuestion number) = codes "no question " ++ decimal number

-- the line of a fault
abbrev pub line_of : FileFault → List ℕ
line_of fault = fault_text fault ++ line_end
