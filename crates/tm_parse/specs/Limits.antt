-- The limits on what a file has. A limit is passed at the first event that is too much for it: a thing that begins, or a
-- terminal.
use Rattle.std.specs.Prelude.{◌≡◌, ◌⊎◌, ℕ, zero, ◌+◌, ◌<◌, Bool, true, false, if◌then◌else◌, count_by, List, [], ◌∷◌, ◌++◌}
use Rattle.std.specs.List.{list_any}
use Rattle.tm_base.specs.declared.limit.LimitKind.{LimitKind}
use Rattle.tm_base.specs.declared.limit.LimitKind.TheVariants as limit
use Rattle.tm_base.specs.Limits.{limit_number}
use Rattle.tm_parse.specs.Classes.{among}
use Rattle.tm_parse.specs.Events.{Mark, a_definition, a_question, a_lifetime, a_parameter, a_type_parameter, a_field, a_variant, a_type, Role, plain, array_length, Event, terminal, mark}
use Rattle.tm_parse.specs.declared.class.Class.{Class}
use Rattle.tm_parse.specs.declared.class.Class.TheVariants as c
use Rattle.tm_parse.specs.declared.terminal.Terminal.{Terminal}

-- the limit on how many things of a sort there are
abbrev pub limit_on : Mark → LimitKind
limit_on a_definition = limit.Definitions
limit_on a_question = limit.Questions
limit_on a_lifetime = limit.Lifetimes
limit_on a_parameter = limit.Parameters
limit_on a_type_parameter = limit.TypeParameters
limit_on a_field = limit.Fields
limit_on a_variant = limit.Variants
limit_on (a_type depth) = limit.TypeNodes

-- a thing of the sort begins
abbrev pub is_of_sort : Mark → Event → Bool
is_of_sort a_definition (mark a_definition) = true
is_of_sort a_question (mark a_question) = true
is_of_sort a_lifetime (mark a_lifetime) = true
is_of_sort a_parameter (mark a_parameter) = true
is_of_sort a_type_parameter (mark a_type_parameter) = true
is_of_sort a_field (mark a_field) = true
is_of_sort a_variant (mark a_variant) = true
is_of_sort (a_type depth) (mark (a_type other)) = true
is_of_sort sort event = false

-- things of the sort are counted anew from here: parts of a definition in each, and types in each that has none around it
abbrev pub begins_anew : Mark → Event → Bool
begins_anew a_parameter (mark a_definition) = true
begins_anew a_type_parameter (mark a_definition) = true
begins_anew a_field (mark a_definition) = true
begins_anew a_variant (mark a_definition) = true
begins_anew (a_type depth) (mark (a_type zero)) = true
begins_anew sort event = false

-- the events from the last on from which things of the sort are counted anew; all of them where there is none
unfoldable pub since : Mark → List Event → List Event
since sort [] = []
since sort (x ∷ events) = if list_any (begins_anew sort) events then since sort events else x ∷ events

-- how many things of the sort there are among these
abbrev pub number_since : Mark → List Event → ℕ
number_since sort events = count_by (is_of_sort sort) (since sort events)

-- how many types there are around a type, itself included
abbrev pub nesting : Mark → ℕ
nesting (a_type depth) = depth + 1
nesting other = 0

-- the number that a terminal stands for; 0 for any other one
abbrev pub number_of : Terminal → ℕ
number_of t = value t.class
  where
    value : Class → ℕ
    value (c.Number n) = n
    value other = 0

-- the length of an array
abbrev pub length_of : Role → Terminal → ℕ
length_of plain t = 0
length_of array_length t = number_of t

-- all but signs and numbers are words or lifetimes
abbrev pub is_number_or_sign : Class → Bool
is_number_or_sign k = among (c.OpenBrace ∷ c.CloseBrace ∷ c.OpenParen ∷ c.CloseParen ∷ c.OpenBracket ∷ c.CloseBracket ∷ c.Less ∷ c.Greater ∷ c.Comma ∷ c.Semicolon ∷ c.Colon ∷ c.Equals ∷ c.Ampersand ∷ c.Bang ∷ c.Hash ∷ c.Minus ∷ c.Arrow ∷ c.Number 0 ∷ []) k

-- the bytes of a word or a lifetime
abbrev pub name_size : Terminal → ℕ
name_size t = if is_number_or_sign t.class then 0 else t.size

-- An event is too much for a limit, behind others. With a thing that begins there are too many of its sort, or a type
-- is nested too deep; an array is too long; a name is.
abbrev pub Exceeds : LimitKind → List Event → Event → Type 0
Exceeds kind front (mark m) =
    ((kind ≡ limit.Nesting) × (limit_number limit.Nesting < nesting m))
    ⊎ ((kind ≡ limit_on m) × (limit_number kind < number_since m (front ++ mark m ∷ [])))
Exceeds kind front (terminal role t) =
    ((kind ≡ limit.ArrayLength) × (limit_number limit.ArrayLength < length_of role t))
    ⊎ ((kind ≡ limit.NameBytes) × (limit_number limit.NameBytes < name_size t))

-- no event is too much for a limit, behind those before it
abbrev pub IsWithin : List Event → Type 0
IsWithin events = (front : List Event) (x : Event) (back : List Event) → events ≡ front ++ (x ∷ back) → (kind : LimitKind) → ¬ Exceeds kind front x

-- the event is the first that is too much for a limit; what is nested too deep isn't told as one type too many
pub record IsFirstPassed (kind : LimitKind) (front : List Event) (x : Event) : Type 0 where
  pub within : IsWithin front
  pub exceeds : Exceeds kind front x
  pub nests : kind ≡ limit.TypeNodes → ¬ Exceeds limit.Nesting front x
