-- The question file of a number. In each part `x` is the state before its first draw.
use Rattle.std.specs.Prelude.{ℕ, zero, ◌+◌, ◌*◌, ◌==◌, if◌then◌else◌, List, [], ◌∷◌, ◌++◌, codes, slice_index_or}
use Rattle.std.specs.Fmt.{decimal}
use Rattle.tm_base.specs.declared.definition.Kind.{Kind}
use Rattle.tm_base.specs.declared.definition.Kind.TheVariants.{Struct, Union, Enum}
use Rattle.tm_gen.specs.Draws.{drawn, next}
use Rattle.tm_gen.specs.Written.{Written, plain, followed, numbered}

-- the one at that place of the first ones, or else the last one
abbrev pub chosen : {A : Type 0} → List A → A → ℕ → A
chosen first last k = slice_index_or first k last

-- an array of one to four bytes
abbrev pub array_type : ℕ → Written
array_type x = record { text = codes "[u8; " ++ decimal (1 + drawn x 4) ++ codes "]"; state = next x }

-- in the definition i, an earlier definition, or `u64` where there is none
abbrev pub earlier_type : ℕ → ℕ → Written
earlier_type zero x = plain (codes "u64") x
earlier_type i x = record { text = codes "T" ++ decimal (drawn x i); state = next x }

-- in the definition i, the type of a field: the one at the place that is drawn
abbrev pub field_type : ℕ → ℕ → Written
field_type i x =
    let y = next x in
    chosen (plain (codes "u8") y ∷ plain (codes "u16") y ∷ plain (codes "u32") y ∷ plain (codes "bool") y ∷ plain (codes "char") y ∷ array_type y ∷ plain (codes "&'static u8") y ∷ [])
    (earlier_type i y) (drawn x 8)

-- a field is public but for one number in eight
abbrev pub visibility : ℕ → List ℕ
visibility n = if n == 0 then [] else codes "pub "

-- in the definition i, the line of the field j. The type is drawn first, and then whether it is public.
abbrev pub field_line : ℕ → ℕ → ℕ → Written
field_line i j x =
    let type = field_type i x in
    record { text = codes "    " ++ visibility (drawn type.state 8) ++ codes "f" ++ decimal j ++ codes ": " ++ type.text ++ codes ",\n"; state = next type.state }

-- the line of the variant j
abbrev pub variant_line : ℕ → ℕ → Written
variant_line j x = record { text = codes "    V" ++ decimal j ++ codes " = " ++ decimal (5 * j + drawn x 5) ++ codes ",\n"; state = next x }

-- the kind of a definition: the one at the place that is drawn
abbrev pub kind_at : ℕ → Kind
kind_at = chosen (Struct ∷ Union ∷ []) Enum

-- the word that a kind is declared with
abbrev pub kind_word : Kind → List ℕ
kind_word Struct = codes "struct"
kind_word Union = codes "union"
kind_word Enum = codes "enum"

-- the representation that a kind gets
abbrev pub kind_repr : Kind → List ℕ
kind_repr Struct = codes "C"
kind_repr Union = codes "C"
kind_repr Enum = codes "u8"

-- in the definition i, the line of the member j: a variant of an enum, and else a field
abbrev pub member_line : Kind → ℕ → ℕ → ℕ → Written
member_line Struct i j = field_line i j
member_line Union i j = field_line i j
member_line Enum i j = variant_line j

-- in the definition i, the lines of so many members
abbrev pub members_text : Kind → ℕ → ℕ → ℕ → Written
members_text kind i = numbered (member_line kind i)

-- the lines before the members of the definition i
abbrev pub definition_head : Kind → ℕ → List ℕ
definition_head kind i = codes "#[repr(" ++ kind_repr kind ++ codes ")]\n" ++ kind_word kind ++ codes " T" ++ decimal i ++ codes " {\n"

-- the definition i: its kind is drawn, and how many members it has, from one to four
abbrev pub definition_text : ℕ → ℕ → Written
definition_text i x =
    let kind = kind_at (drawn x 3) in
    let members = members_text kind i (1 + drawn (next x) 4) (next (next x)) in
    record { text = definition_head kind i ++ members.text ++ codes "}\n"; state = members.state }

-- what a question assumes
abbrev pub assumed : ℕ → List ℕ
assumed = chosen ([] ∷ codes " assume validity" ∷ codes " assume safety" ∷ []) (codes " assume alignment, validity")

-- a question: its source, its target and what it assumes are drawn
abbrev pub question_text : ℕ → Written
question_text x =
    let y = next x in
    let z = next y in
    record { text = codes "ask T" ++ decimal (drawn x 24) ++ codes " => T" ++ decimal (drawn y 24) ++ assumed (drawn z 4) ++ codes ";\n"; state = next z }

-- the 24 definitions
abbrev pub definitions_text : ℕ → Written
definitions_text = numbered definition_text 24

-- the 64 questions, which are alike
abbrev pub questions_text : ℕ → Written
questions_text = numbered (λ q. question_text) 64

-- the file of a number, from which the state begins
unfoldable pub generated_file : ℕ → List ℕ
generated_file number = (followed (definitions_text number) questions_text).text
