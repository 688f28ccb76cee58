-- What is known of the entries that are made for the pairs so far. Working definitions.
use Rattle.std.specs.Prelude.{◌≡◌, ◌↔◌, ◌⊎◌, ℕ, ◌+◌, ◌≤◌, true, List, All, Contains, slice_get}
use Rattle.std.specs.List.{sum_by}
use Rattle.tm_base.specs.declared.ask.Ask.{Ask}
use Rattle.tm_base.specs.Tables.{Tables, OnRows}
use Rattle.tm_refs.specs.Local.{AreJudged}
use Rattle.tm_refute.specs.Asking.{is_asked}
use Rattle.tm_refute.specs.Chosen.{AreInOrder, EntryAsks, IsAnswered, IsChosenEntry, SomeAsks}
use Rattle.tm_refute.specs.TextForms.{most_cells_together, proof_cells}
use Rattle.tm_refute.specs.declared.refuting.asked.Asked.{Asked}
use Rattle.tm_refute.specs.declared.refuting.entries.Made.{Made}
use Rattle.tm_refute.specs.declared.refuting.failing.Failing.{Failing}
use Rattle.tm_refute.specs.declared.refutation.Entry.{Entry}

-- the pair of an entry, and its depth
abbrev pub failing_of : Entry → Failing
failing_of entry = record { depth = entry.depth; source = entry.source; target = entry.target }

-- both pointees of the two references are judged
abbrev pub AreJudgedPair : Tables → ℕ → ℕ → Type 0
AreJudgedPair tables r t = OnRows (slice_get tables.refs r) (slice_get tables.refs t) (AreJudged tables)

module _ (tables : Tables) (ask : Ask) where
  -- some entry asks why the two fail
  abbrev pub AreAskedBy : List Entry → ℕ → ℕ → Type 0
  AreAskedBy entries r leaf = (depth : ℕ) × SomeAsks tables ask.assume entries r leaf depth

  -- what is asked for at first and what an entry asks for are asked for, and nothing more
  abbrev pub AsksMore : Asked → Asked → Entry → Type 0
  AsksMore before after entry =
      (r leaf : ℕ) → (is_asked after r leaf ≡ true) ↔ ((is_asked before r leaf ≡ true) ⊎ ((depth : ℕ) × EntryAsks tables ask.assume entry r leaf depth))

  -- An entry for each of the pairs that is asked for: at first, by `top`, or by an entry.
  pub record AreEntriesFor (top : ℕ → ℕ → Type 0) (pairs : List Failing) (flags : Asked) (entries : List Entry) : Type 0 where
    pub chosen : All (IsChosenEntry tables ask.assume) entries
    pub judged : All (λ e. AreJudgedPair tables e.source.0 e.target.0) entries
    pub of_pairs : All (λ e. Contains pairs (failing_of e)) entries
    pub called : All (λ e. top e.source.0 e.target.0 ⊎ AreAskedBy entries e.source.0 e.target.0) entries
    pub asked : (r leaf : ℕ) → (is_asked flags r leaf ≡ true) ↔ (top r leaf ⊎ AreAskedBy entries r leaf)
    pub answered : All (λ p. is_asked flags p.source.0 p.target.0 ≡ true → IsAnswered tables ask entries p.source.0 p.target.0 p.depth) pairs
    pub in_order : AreInOrder entries

-- how many cells the words of the entries have, and so many more
abbrev pub cells_with : ℕ → List Entry → ℕ
cells_with top entries = top + sum_by (λ entry. proof_cells entry.proof) entries

-- the entries are kept where they have no more cells than words may have, and it is known whether they do
pub record AreKept (top : ℕ) (entries : List Entry) (made : Made) : Type 0 where
  pub few : cells_with top entries ≤ most_cells_together → (made.cells ≡ cells_with top entries) × (made.entries ≡ entries)
  pub told : made.cells ≤ most_cells_together → cells_with top entries ≤ most_cells_together
