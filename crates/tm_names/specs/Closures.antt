-- Rows of flags that tell where ways lead: the flag at place j of row i says it of a way from i to j.
-- Ways of several steps are found by admitting one number after another on the way.
use Rattle.std.specs.Prelude.{◌≡◌, ℕ, zero, suc, ◌+◌, ◌<◌, Bool, true, ◌&&◌, ◌||◌, ◌↔◌, Option, List, length, map, flat_map}
use Rattle.std.specs.List.{enumerate_from}
use Rattle.tm_base.specs.declared.limit.NameWhy.TheVariants.{Infinite}
use Rattle.tm_names.specs.declared.faults.least.NameFault.{NameFault}
use Rattle.tm_names.specs.declared.meaning.Meaning.TheVariants.{Parameter}
use Rattle.tm_names.specs.Held.{bit_at, row_at}
use Rattle.tm_names.specs.Holding.{Holds, HoldsItself}
use Rattle.tm_names.specs.Least.{earliest, fault_where}
use Rattle.tm_parse.specs.declared.parsed.Decl.{Decl}

-- a way leads from i to j, where only numbers below a bound are admitted on it
abbrev pub through : (ℕ → ℕ → Bool) → ℕ → ℕ → ℕ → Bool
through edge zero i j = edge i j
through edge (suc k) i j = through edge k i j || (through edge k i k && through edge k k j)

-- a row, where what another row reaches is reached too
abbrev pub joined_flag : Bool → List Bool → ℕ × Bool → Bool
joined_flag joins other (place, flag) = flag || (joins && bit_at other place)

abbrev pub next_row : Bool → List Bool → List Bool → List Bool
next_row joins row other = map (joined_flag joins other) (enumerate_from 0 row)

-- all rows, where one more number is admitted
abbrev pub next_rows : ℕ → List (List Bool) → List (List Bool)
next_rows k rows = map (λ row. next_row (bit_at row k) row (row_at rows k)) rows

-- so many numbers from the first on are admitted in turn
abbrev pub closure : ℕ → ℕ → List (List Bool) → List (List Bool)
closure k zero rows = rows
closure k (suc n) rows = closure (k + 1) n (next_rows k rows)

-- rows, each joined with the one at the same place
abbrev pub joined_row : List (List Bool) → ℕ × List Bool → List Bool
joined_row others (place, row) = next_row true row (row_at others place)

abbrev pub joined_rows : List (List Bool) → List (List Bool) → List (List Bool)
joined_rows rows others = map (joined_row others) (enumerate_from 0 rows)

-- the faults of definitions that hold themselves, where this tells which do
abbrev pub infinite_fault : (ℕ → Bool) → ℕ × Decl → List NameFault
infinite_fault infinite (number, d) = fault_where (infinite number) Infinite d.name

abbrev pub infinite_faults : (ℕ → Bool) → List Decl → List NameFault
infinite_faults infinite decls = flat_map (infinite_fault infinite) (enumerate_from 0 decls)

module _ (name : ℕ → List ℕ) (decls : List Decl) where
  -- the flags tell which definition holds which of its own parameters
  pub record TellsOwn (own : List (List Bool)) : Type 0 where
    pub sound : (i k : ℕ) → bit_at (row_at own i) k ≡ true → Holds name decls i (Parameter k)
    pub whole : (i k : ℕ) → Holds name decls i (Parameter k) → bit_at (row_at own i) k ≡ true

  -- this tells which definitions hold themselves
  pub record TellsInfinite (infinite : ℕ → Bool) : Type 0 where
    pub tells : (i : ℕ) → i < length decls → (infinite i ≡ true) ↔ HoldsItself name decls i

  -- the first of some faults, and of those of definitions that hold themselves
  pub record WithInfinite (first found : Option NameFault) : Type 0 where
    pub infinite : ℕ → Bool
    pub told : TellsInfinite infinite
    pub earliest_is : found ≡ earliest first (infinite_faults infinite decls)
