-- A refutation that was read can be written.
use Rattle.std.proofs.Common.{Result, Ok, Err, drop, ◌≡◌, ℕ, zero, suc, ◌⊎◌, inl, inr, refl, sym, ◌∙◌, ap, subst, List, [], ◌∷◌, ◌++◌, arith, append_assoc, append-nil}
use Rattle.std.specs.Prelude.{IfOk, codes}
use Rattle.std.specs.List.{All}
use Rattle.std.proofs.lemmas.List.Elements.{All-nil, All-push}
use Rattle.tm_base.specs.declared.cell.Cell.TheVariants.{Byte, Uninit}
use Rattle.tm_base.specs.Cells.{HasWholeReferences, Word, byte_first, nothing_left, pointer_of, reference_first, uninit_first}
use Rattle.tm_refute.specs.TextForms.{Follows, IsProofText, IsRefutationText, IsWithin, Leads, Read, begun, nothing, question, whole}
use Rattle.tm_refute.specs.WordForms.{ArePieces, IsPiece, IsWordText, Part, byte, more, one, part_cells, reference, repeated, uninit}
use Rattle.tm_refute.specs.Written.{IsWritable, IsWritableEntry, IsWritableProof, IsWritableWord}
use Rattle.tm_refute.specs.LinesRead.{IsText, Tells}
use Rattle.tm_refute.specs.declared.refutation.Proof.{Proof}
use Rattle.tm_refute.specs.declared.refutation.Proof.TheVariants.{Local, Forward, Reverse}
use Rattle.tm_refute.specs.declared.refutation.Refutation.{Refutation}
use Rattle.tm_refute.specs.declared.stop.TextErr.{TextErr}

module _ (pointer : ℕ) where
  abbrev Whole : Word → Type 0
  Whole = HasWholeReferences pointer

  whole-append : (u v : Word) → Whole u → Whole v → Whole (u ++ v)
  whole-append u v (nothing_left _ e) after = subst (λ (w : Word). Whole (w ++ v)) (sym e) after
  whole-append u v (byte_first b _ rest e before) after = byte_first b (u ++ v) (rest ++ v) (ap (λ (w : Word). w ++ v) e) (whole-append rest v before after)
  whole-append u v (uninit_first _ rest e before) after = uninit_first (u ++ v) (rest ++ v) (ap (λ (w : Word). w ++ v) e) (whole-append rest v before after)
  whole-append u v (reference_first x _ rest e before) after =
      reference_first x (u ++ v) (rest ++ v) (ap (λ (w : Word). w ++ v) e ∙ append_assoc (pointer_of pointer x) rest v) (whole-append rest v before after)

  part-whole : (p : Part) → Whole (part_cells pointer p)
  part-whole (byte b) = byte_first b (Byte b ∷ []) [] refl (nothing_left [] refl)
  part-whole uninit = uninit_first (Uninit ∷ []) [] refl (nothing_left [] refl)
  part-whole (reference k) = reference_first k (pointer_of pointer k) [] (sym (append-nil (pointer_of pointer k))) (nothing_left [] refl)

  repeated-whole : (n : ℕ) (cells : Word) → Whole cells → Whole (repeated n cells)
  repeated-whole zero cells h = nothing_left [] refl
  repeated-whole (suc n) cells h = whole-append cells (repeated n cells) h (repeated-whole n cells h)

  piece-whole : (text : List ℕ) (cells : Word) → IsPiece pointer text cells → Whole cells
  piece-whole text cells (p, is, inl a) = subst Whole (sym a.cells_are) (part-whole p)
  piece-whole text cells (p, is, inr (n, a)) = subst Whole (sym a.cells_are) (repeated-whole n (part_cells pointer p) (part-whole p))

  pieces-whole : (text : List ℕ) (cells : Word) → ArePieces pointer text cells → Whole cells
  pieces-whole text cells (one _ _ is) = piece-whole text cells is
  pieces-whole text cells (more _ first rest _ u v e same is others) =
      subst Whole (sym same) (whole-append u v (piece-whole first u is) (pieces-whole rest v others))

  word-writable : (text : List ℕ) (w : Word) → IsWordText pointer text w → IsWritableWord pointer w
  word-writable text w is = record { whole = go is.form; few = is.few } where
    go : ((text ≡ codes "empty") × (w ≡ [])) ⊎ ArePieces pointer text w → Whole w
    go (inl (e, none)) = nothing_left w none
    go (inr pieces) = pieces-whole text w pieces

  proof-writable : (depth : ℕ) (text : List ℕ) (p : Proof) → IsProofText pointer depth text p → IsWritableProof pointer depth p
  proof-writable depth text (Local rule) (none, e) = none
  proof-writable depth text (Forward piece) (some, rest, e, is) = (some, word-writable is.word_text piece.word is.word)
  proof-writable depth text (Reverse piece) (some, rest, e, is) = (some, word-writable is.word_text piece.word is.word)

  -- what was read so far can be written
  abbrev Kept : Read → Type 0
  Kept nothing = Unit {0}
  Kept (question number) = Unit {0}
  Kept (begun number x) = IsWritableWord pointer x.top.word × All (IsWritableEntry pointer) x.entries × IsWithin x
  Kept (whole number x) = IsWritableWord pointer x.top.word × All (IsWritableEntry pointer) x.entries × IsWithin x

  kept-after : (read next : Read) (line : List ℕ) → Follows pointer read line next → Kept read → Kept next
  kept-after nothing next line (number, small, e, is) kept = subst Kept (sym is) tt
  kept-after (question number) next line (text, top, e, a, is) kept =
      let writable = word-writable a.word_text top.word a.word in
      let few = writable.few in
      subst Kept (sym is) (writable, All-nil (IsWritableEntry pointer), record { few_entries = omega arith; few_cells = omega (arith, few) })
  kept-after (begun number x) next line (inl (e, is)) kept = subst Kept (sym is) kept
  kept-after (begun number x) next line (inr (entry, a, within, is)) (top, entries, few) =
      subst Kept (sym is) (top, All-push (IsWritableEntry pointer) x.entries entry entries (proof-writable entry.depth a.proof_text entry.proof a.proof), within)
  kept-after (whole number x) next line never kept = absurd never

  kept-along : (n : ℕ) (from to : Read) (bytes rest : List ℕ) → Leads pointer n from bytes to rest → Kept from → Kept to
  unfolding Leads
  kept-along zero from to bytes rest (same, e) kept = subst Kept same kept
  kept-along (suc n) from to bytes rest (line, others, next, e, follows, leads) kept = kept-along n next to others rest leads (kept-after from next line follows kept)

  read-writable : (pointer ≡ 4) ⊎ (pointer ≡ 8) → (bytes rest : List ℕ) (number : ℕ) (x : Refutation) → IsRefutationText pointer bytes number x rest → IsWritable pointer x
  read-writable size bytes rest number x (n, leads) =
      let (top, entries, within) = kept-along n nothing (whole number x) bytes rest leads tt in
      record { size = size; top = top; entries = entries; within = within }

pub all-writable : (pointer : ℕ) → (pointer ≡ 4) ⊎ (pointer ≡ 8) → (bytes : List ℕ) (result : Result (ℕ × Refutation × ℕ) TextErr) → Tells pointer bytes (IsText pointer bytes) result → IfOk result (λ text. IsWritable pointer text.1)
all-writable pointer size bytes (Ok text) (within, is) = read-writable pointer size bytes (drop text.2 bytes) text.0 text.1 is
all-writable pointer size bytes (Err error) told = tt
