-- The limits of a question file, each with its number and its word. This project's; each number stands
-- here and nowhere else.
use Rattle.std.specs.Prelude.{ℕ, List, codes}
use Rattle.tm_base.specs.declared.limit.LimitKind.{LimitKind}
use Rattle.tm_base.specs.declared.limit.LimitKind.TheVariants.{FileBytes, Definitions, Questions, Lifetimes, Parameters, TypeParameters, Fields, Variants, Nesting, TypeNodes, ArrayLength, NameBytes, NamedTypes, ClosedNodes, References, Depth, RefutationCells, TextBytes, MatrixTypes}

-- the most that a limit lets pass
abbrev pub limit_number : LimitKind → ℕ
limit_number FileBytes = 1048576
limit_number Definitions = 256
limit_number Questions = 256
limit_number Lifetimes = 16
limit_number Parameters = 4
limit_number TypeParameters = 4
limit_number Fields = 256
limit_number Variants = 256
limit_number Nesting = 32
limit_number TypeNodes = 64
limit_number ArrayLength = 4294967295
limit_number NameBytes = 64
limit_number NamedTypes = 1024
limit_number ClosedNodes = 256
limit_number References = 64
limit_number Depth = 64
limit_number RefutationCells = 16777216
limit_number TextBytes = 67108864
limit_number MatrixTypes = 64

-- the word that a limit is reported by
abbrev pub limit_word : LimitKind → List ℕ
limit_word FileBytes = codes "file-bytes"
limit_word Definitions = codes "definitions"
limit_word Questions = codes "questions"
limit_word Lifetimes = codes "lifetimes"
limit_word Parameters = codes "parameters"
limit_word TypeParameters = codes "type-parameters"
limit_word Fields = codes "fields"
limit_word Variants = codes "variants"
limit_word Nesting = codes "nesting"
limit_word TypeNodes = codes "type-nodes"
limit_word ArrayLength = codes "array-length"
limit_word NameBytes = codes "name-bytes"
limit_word NamedTypes = codes "named-types"
limit_word ClosedNodes = codes "closed-nodes"
limit_word References = codes "references"
limit_word Depth = codes "depth"
limit_word RefutationCells = codes "refutation-cells"
limit_word TextBytes = codes "text-bytes"
limit_word MatrixTypes = codes "matrix-types"
