-- The lines behind the first two, as they are read, and what is answered of a text.
use Rattle.std.proofs.Common.{◌≡◌, ℕ, ◌+◌, ◌<◌, inl, inr, refl, ap, true, List, [], ◌∷◌, ◌++◌, Result, Ok, Err, length, drop, arith, length-append}
use Rattle.std.specs.Prelude.{codes}
use Rattle.std.specs.List.{list_all}
use Rattle.std.proofs.lemmas.List.Sums.{sum_by-append}
use Rattle.tm_refute.specs.LinesRead.{IsFitting, IsRead, IsText, IsTold, Tells}
use Rattle.tm_refute.specs.Runs.{Reads}
use Rattle.tm_refute.specs.Taken.{but}
use Rattle.tm_refute.specs.TextForms.{cells_of, Follows, IsBadLine, IsEntryText, IsRefutationText, IsWithin, Leads, Read, begun, most_cells_together, proof_cells, nothing, whole, with_entry}
use Rattle.tm_refute.specs.declared.refutation.Entry.{Entry}
use Rattle.tm_refute.specs.declared.refutation.Refutation.{Refutation}
use Rattle.tm_refute.specs.declared.stop.Stop.{Stop}
use Rattle.tm_refute.specs.declared.stop.Stop.TheVariants.{Form, Memory}
use Rattle.tm_refute.specs.declared.stop.TextErr.{TextErr}
use Rattle.tm_refute.specs.declared.stop.TextErr.TheVariants as error
use Rattle.tm_refute.proofs.forms.LineLemmas.{entry-apart}
use Rattle.tm_refute.proofs.forms.GoingOnLemmas.{texts-apart}
use Rattle.tm_refute.proofs.forms.LeadsLemmas.{bad-end, bad-line, leads-more}

module _ (pointer : ℕ) where
  -- ---- entries

  abbrev pub Begun : ℕ → List ℕ → List ℕ → ℕ → Refutation → Type 0
  Begun n bytes rest number x = Leads pointer n nothing bytes (begun number x) rest

  module _ (n : ℕ) (bytes rest : List ℕ) (number : ℕ) (x : Refutation) (leads : Begun n bytes rest number x) where
    pub no-more : ((text others : List ℕ) → rest ≡ text ++ (10 ∷ others) → ⊥) → IsBadLine pointer bytes (n + 1)
    no-more none = bad-end pointer n bytes rest (begun number x) leads (λ other y e. cc) none

    module _ (line after : List ℕ) (e : rest ≡ line ++ (10 ∷ after)) (all : list_all (but 10) line ≡ true) where
      pub ended : line ≡ codes "end" → IsRefutationText pointer bytes number x after
      ended is = (n + 1, leads-more pointer n nothing (begun number x) (whole number x) bytes rest line after leads e (inl (is, refl)))

      pub no-line-there : (line ≡ codes "end" → ⊥) → ((entry : Entry) → IsEntryText pointer line entry × IsWithin (with_entry x entry) → ⊥) → IsBadLine pointer bytes (n + 1)
      no-line-there other none = bad-line pointer n bytes rest (begun number x) leads (λ m y f. cc) line after e all no-next where
        no-next : (next : Read) → Follows pointer (begun number x) line next → ⊥
        no-next next (inl (is, f)) = other is
        no-next next (inr (entry, is, within, f)) = none entry (is, within)

      pub entered : (entry : Entry) → IsEntryText pointer line entry → IsWithin (with_entry x entry) → Begun (n + 1) bytes after number (with_entry x entry)
      entered entry is within = leads-more pointer n nothing (begun number x) (begun number (with_entry x entry)) bytes rest line after leads e (inr (entry, is, within, refl))

  pub no-fitting : (line : List ℕ) (entries cells : ℕ) (stop : Stop) → Reads {V = Entry} (IsEntryText pointer line) (Err stop) → Reads {V = Entry} (IsFitting pointer line entries cells) (Err stop)
  no-fitting line entries cells Memory none = tt
  no-fitting line entries cells Form none = λ (entry : Entry) (is : IsFitting pointer line entries cells entry). none entry is.0

  pub over-cells : (line : List ℕ) (entries cells : ℕ) (entry : Entry) → IsEntryText pointer line entry → most_cells_together < cells + proof_cells entry.proof → (other : Entry) → IsFitting pointer line entries cells other → ⊥
  over-cells line entries cells entry is over other (this, few, within) =
      let same : entry ≡ other = entry-apart pointer line line entry other refl is this in
      omega (arith, ap (λ (x : Entry). proof_cells x.proof) same)

-- ---- how much there is

more-cells : (x : Refutation) (entry : Entry) → cells_of (with_entry x entry) ≡ cells_of x + proof_cells entry.proof
more-cells x entry = omega (arith, sum_by-append (λ (e : Entry). proof_cells e.proof) x.entries (entry ∷ []))

pub cells-more : (x : Refutation) (entry : Entry) (cells added : ℕ) → cells ≡ cells_of x → added ≡ proof_cells entry.proof → cells + added ≡ cells_of (with_entry x entry)
cells-more x entry cells added is more_is = omega (arith, is, more_is, more-cells x entry)

module _ (pointer : ℕ) (line : List ℕ) (x : Refutation) (entries cells : ℕ) (count : entries ≡ length x.entries) (sum : cells ≡ cells_of x) (entry : Entry) where
  pub within-fits : IsEntryText pointer line entry → IsWithin (with_entry x entry) → IsFitting pointer line entries cells entry
  within-fits is within =
      let few = within.few_entries in
      let all = within.few_cells in
      (is, omega (arith, count, length-append x.entries (entry ∷ []), few), omega (arith, sum, more-cells x entry, all))

  pub fits-within : IsFitting pointer line entries cells entry → IsWithin (with_entry x entry)
  fits-within (is, few, all) = record {
    few_entries = omega (arith, count, length-append x.entries (entry ∷ []), few);
    few_cells = omega (arith, sum, more-cells x entry, all);
  }

-- ---- what is answered of all bytes

pub all-read : (pointer : ℕ) (bytes : List ℕ) (result : Result (ℕ × Refutation × ℕ) TextErr) → Tells pointer bytes (IsText pointer bytes) result → (number : ℕ) (x : Refutation) (rest : List ℕ) → IsRefutationText pointer bytes number x rest → IsRead bytes number x rest result
all-read pointer bytes (Ok text) (within, is) number x rest other =
    let same = (texts-apart pointer bytes).alone text.0 number text.1 x (drop text.2 bytes) rest is other in
    (same.number_same, same.refutation_same, same.rest_same)
all-read pointer bytes (Err (error.At line)) bad number x rest other = (texts-apart pointer bytes).apart line number x rest bad other
all-read pointer bytes (Err error.Memory) bad number x rest other = tt

pub all-told : (pointer : ℕ) (bytes : List ℕ) (result : Result (ℕ × Refutation × ℕ) TextErr) → Tells pointer bytes (IsText pointer bytes) result → (line : ℕ) → IsBadLine pointer bytes line → IsTold line result
all-told pointer bytes (Ok text) (within, is) line bad = (texts-apart pointer bytes).apart line text.0 text.1 (drop text.2 bytes) bad is
all-told pointer bytes (Err (error.At other)) is line bad = (texts-apart pointer bytes).one_line other line is bad
all-told pointer bytes (Err error.Memory) is line bad = tt
