-- What types hold, listed, where flags tell which definition holds which of its own parameters: the flag
-- at place k of row i says it of definition i and its parameter k.
use Rattle.std.specs.Prelude.{ℕ, ◌+◌, ◌==◌, Bool, false, not, ◌&&◌, if◌then◌else◌, Option, Some, None, unwrap_or, List, [], ◌∷◌, ◌++◌, length, map, filter_map, flat_map, slice_get}
use Rattle.std.specs.List.{enumerate_from, list_any, range_with_len}
use Rattle.tm_names.specs.declared.meaning.Meaning.{Meaning}
use Rattle.tm_names.specs.declared.meaning.Meaning.TheVariants.{Definition, Parameter}
use Rattle.tm_names.specs.Holding.{is_holder}
use Rattle.tm_names.specs.Meanings.{meaning_of}
use Rattle.tm_parse.specs.declared.parsed.Decl.{Decl}
use Rattle.tm_parse.specs.declared.parsed.DeclVariant.{DeclVariant}
use Rattle.tm_parse.specs.declared.parsed.Expr.{Expr, Row_of-Expr, end_of-Expr, more_of-Expr, Tuple', Array', Wrap', Named'}

-- the flag at a place, and the row at one
abbrev pub bit_at : List Bool → ℕ → Bool
bit_at row place = unwrap_or (slice_get row place) false

abbrev pub row_at : List (List Bool) → ℕ → List Bool
row_at rows place = unwrap_or (slice_get rows place) []

-- the number is one of these
abbrev pub is_number_among : List ℕ → ℕ → Bool
is_number_among numbers number = list_any (λ other. other == number) numbers

-- for each number below a size whether it is one of these
abbrev pub flags_of : List ℕ → ℕ → List Bool
flags_of numbers size = map (is_number_among numbers) (range_with_len 0 size)

-- none for the parameters of a definition
abbrev pub no_flags : Decl → List Bool
no_flags d = flags_of [] (length d.type_params)

-- the definition that is meant holds its own parameter of the number
abbrev pub is_open : List (List Bool) → Option Meaning → ℕ → Bool
is_open own (Some (Definition number)) k = bit_at (row_at own number) k
is_open own meaning k = false

-- what a name means, and what is held besides where it means something
abbrev pub with_meaning : Option Meaning → List Meaning → List Meaning
with_meaning None held = []
with_meaning (Some meaning) held = meaning ∷ held

module _ (name : ℕ → List ℕ) (decls : List Decl) (own : List (List Bool)) where
  module _ (types : List ℕ) where
    unfoldable mutual
      pub held_in : Expr → List Meaning
      held_in (Tuple' shape row) = row_held row
      held_in (Array' shape row n) = row_held row
      held_in (Wrap' w shape row) = if is_holder w then row_held row else []
      held_in (Named' place lifetimes shape row) =
          with_meaning (meaning_of name decls types place) (arguments_held (meaning_of name decls types place) 0 row)
      held_in e = []

      pub row_held : {m : _} → Row_of-Expr m → List Meaning
      row_held end_of-Expr = []
      row_held (more_of-Expr e es) = held_in e ++ row_held es

      pub arguments_held : {m : _} → Option Meaning → ℕ → Row_of-Expr m → List Meaning
      arguments_held meaning k end_of-Expr = []
      arguments_held meaning k (more_of-Expr e es) = (if is_open own meaning k then held_in e else []) ++ arguments_held meaning (k + 1) es

    -- what the argument for a parameter adds
    abbrev pub argument_held : Option Meaning → ℕ × Expr → List Meaning
    argument_held meaning (k, e) = if is_open own meaning k then held_in e else []

    abbrev pub variant_held : DeclVariant → List Meaning
    variant_held v = flat_map (λ field. held_in field.ty) v.fields

  -- what the types of a definition's fields hold
  abbrev pub decl_held : Decl → List Meaning
  decl_held d = flat_map (variant_held d.type_params) d.variants

-- the numbers of the definitions, and of the parameters, among these
abbrev pub definition_number : Meaning → Option ℕ
definition_number (Definition number) = Some number
definition_number (Parameter number) = None

abbrev pub parameter_number : Meaning → Option ℕ
parameter_number (Definition number) = None
parameter_number (Parameter number) = Some number

module _ (name : ℕ → List ℕ) (decls : List Decl) (own : List (List Bool)) where
  -- which parameters, and which definitions, the types of a definition's fields hold
  abbrev pub parameter_flags : Decl → List Bool
  parameter_flags d = flags_of (filter_map parameter_number (decl_held name decls own d)) (length d.type_params)

  abbrev pub definition_flags : Decl → List Bool
  definition_flags d = flags_of (filter_map definition_number (decl_held name decls own d)) (length decls)

-- a flag that isn't set, but is in another row
abbrev pub is_news : List Bool → ℕ × Bool → Bool
is_news other (place, flag) = not flag && bit_at other place

abbrev pub has_news : List Bool → List Bool → Bool
has_news row other = list_any (is_news other) (enumerate_from 0 row)

-- some row has news in the one at the same place
abbrev pub is_row_news : List (List Bool) → ℕ × List Bool → Bool
is_row_news others (place, row) = has_news row (row_at others place)

abbrev pub have_news : List (List Bool) → List (List Bool) → Bool
have_news rows others = list_any (is_row_news others) (enumerate_from 0 rows)
