-- How deep types by numbers are, as far as tables of flags tell it of the named types.
use Rattle.std.specs.Prelude.{◌≡◌, ◌<◌, ℕ, zero, suc, Bool, true, false, ◌&&◌, ◌||◌, List, [], Some, slice_get, unwrap_or}
use Rattle.std.specs.List.{AllZip, list_any}
use Rattle.tm_base.specs.declared.ask.Ask.{Ask}
use Rattle.tm_base.specs.declared.definition.NamedRow.{NamedRow}
use Rattle.tm_base.specs.declared.definition.RefRow.{RefRow}
use Rattle.tm_base.specs.declared.ground.Ground.{Ground, out-Ground}
use Rattle.tm_base.specs.declared.ground.Ground.TheOpen.{Ground-F}
use Rattle.tm_base.specs.declared.ground.NamedId.{NamedId}
use Rattle.tm_base.specs.Whole.{written_types}
use Rattle.tm_names.specs.declared.resolved.Resolved.{Resolved}
use Rattle.tm_ground.specs.Closed.{Closed}
use Rattle.tm_ground.specs.Limits.{PassesDepth, depth_limit, depth_passes}
use Rattle.tm_ground.specs.Occurs.{is_holding}
use Rattle.tm_ground.specs.Rows.{IsNamedRow}

-- one of the parts of a type that it holds by value passes, or its name does
abbrev pub some_part : (Ground → Bool) → (NamedId → Bool) → Ground-F Ground → Bool
some_part part name (Ground-F.Tuple gs) = list_any part gs
some_part part name (Ground-F.Array g n) = part g
some_part part name (Ground-F.Named id) = name id
some_part part name (Ground-F.Wrap w g) = is_holding w && part g
some_part part name _ = false

module _ (tables : List (List Bool)) where
  -- what the table at a place says of a named type
  abbrev pub flag_at : ℕ → ℕ → Bool
  flag_at place k = unwrap_or (slice_get (unwrap_or (slice_get tables place) []) k) false

  -- the depth by value of a type passes n: the table at n says of each named type whether its depth passes n + 1
  unfoldable pub passes_by : ℕ → Ground → Bool
  passes_by zero g = true
  passes_by (suc n) g = some_part (passes_by n) (λ id. flag_at n id.0) (out-Ground g)

  -- that of a field of a named type does
  abbrev pub row_passes : ℕ → NamedRow → Bool
  row_passes n row = list_any (list_any (passes_by n)) row.types

  -- so it does where its depth passes the number, which the table before this one tells
  abbrev pub next_flag : ℕ → ℕ → NamedRow → Bool
  next_flag zero k row = row_passes zero row
  next_flag (suc n) k row = flag_at n k && row_passes (suc n) row

  -- a type that is written in a type is deeper than it may be
  abbrev pub is_deep : Ground → Bool
  is_deep g = list_any (passes_by depth_limit) (written_types g)

  -- so it is in an argument or a field of a named type
  abbrev pub is_row_deep : NamedRow → Bool
  is_row_deep row = list_any is_deep row.args || list_any (list_any is_deep) row.types

  -- and in a side of a question
  abbrev pub is_ask_deep : Ask → Bool
  is_ask_deep ask = is_deep ask.src || is_deep ask.dst

  -- and in one of some rows and questions
  abbrev pub is_some_deep : List NamedRow → List RefRow → List Ask → Bool
  is_some_deep named refs questions =
      list_any is_row_deep named || list_any (λ row. is_deep row.pointee) refs || list_any is_ask_deep questions

-- so many tables that tell of each of these named types how deep it is
pub record AreDepths (resolved : Resolved) (types : List Closed) (count : ℕ) (tables : List (List Bool)) : Type 0 where
  pub told : (n k : ℕ) (c : Closed) → n < count → slice_get types k ≡ Some c → flag_at tables n k ≡ depth_passes resolved (suc n) c

-- they tell it whatever types these rows are of
pub record TellDepths (rows : List NamedRow) (count : ℕ) (tables : List (List Bool)) : Type 0 where
  pub each : (resolved : Resolved) (types refs : List Closed) → AllZip (IsNamedRow types refs resolved) types rows → AreDepths resolved types count tables

-- the next table tells of each of them whether its depth passes one more
pub record TellsNext (rows : List NamedRow) (count : ℕ) (table : List Bool) : Type 0 where
  pub each : (resolved : Resolved) (types refs : List Closed) → AllZip (IsNamedRow types refs resolved) types rows → (k : ℕ) (c : Closed) → slice_get types k ≡ Some c → slice_get table k ≡ Some (depth_passes resolved (suc count) c)

-- an answer whether some type that occurs is deeper than it may be
abbrev pub TellsDepth : Resolved → Bool → Type 0
TellsDepth resolved true = PassesDepth resolved
TellsDepth resolved false = ¬ PassesDepth resolved
