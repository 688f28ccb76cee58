-- A worked text.
use Rattle.std.proofs.Common.{ℕ, inl, inr, refl, List, [], ◌∷◌, ◌++◌, arith}
use Rattle.std.specs.Prelude.{codes}
use Rattle.std.specs.Fmt.{digits}
use Rattle.tm_base.specs.declared.cell.Cell.TheVariants.{Byte}
use Rattle.tm_base.specs.Cells.{Word, pointer_of}
use Rattle.tm_refute.specs.declared.refutation.Entry.{Entry}
use Rattle.tm_refute.specs.declared.refutation.Piece.{Piece}
use Rattle.tm_refute.specs.declared.refutation.Proof.TheVariants.{Forward}
use Rattle.tm_refute.specs.declared.refutation.Refutation.{Refutation}
use Rattle.tm_refute.specs.TextForms.{IsEntryText, IsRefutationText, Leads, begun, question, whole}
use Rattle.tm_refute.specs.WordForms.{IsWordText, byte, one, reference}

abbrev piece_of : Word → Piece
piece_of w = record { word = w; offset = 0 }

abbrev first : Entry
first = record { source = record { 0 = 1 }; target = record { 0 = 0 }; depth = 2; proof = Forward (piece_of (pointer_of 8 3)) }

abbrev second : Entry
second = record { source = record { 0 = 3 }; target = record { 0 = 2 }; depth = 1; proof = Forward (piece_of (Byte 2 ∷ [])) }

abbrev with_entries : List Entry → Refutation
with_entries entries = record { top = piece_of (pointer_of 8 1); entries = entries }

abbrev shown : Refutation
shown = with_entries (first ∷ second ∷ [])

abbrev last_lines : List ℕ
last_lines = codes "end" ++ (10 ∷ codes "ask")

abbrev second_lines : List ℕ
second_lines = codes "&3 to &2, depth 1, forward at 0: 02" ++ (10 ∷ last_lines)

abbrev entry_lines : List ℕ
entry_lines = codes "&1 to &0, depth 2, forward at 0: &3" ++ (10 ∷ second_lines)

abbrev text : List ℕ
text = codes "refutation of question 1" ++ (10 ∷ (codes "word at 0: &1" ++ (10 ∷ entry_lines)))

reference-word : IsWordText 8 (codes "&1") (pointer_of 8 1)
unfolding digits
reference-word = record { form = inr (one (codes "&1") (pointer_of 8 1) (reference 1, omega arith, inl (record { text_is = refl; cells_are = refl }))); few = omega arith }

other-word : IsWordText 8 (codes "&3") (pointer_of 8 3)
unfolding digits
other-word = record { form = inr (one (codes "&3") (pointer_of 8 3) (reference 3, omega arith, inl (record { text_is = refl; cells_are = refl }))); few = omega arith }

byte-word : IsWordText 8 (codes "02") (Byte 2 ∷ [])
byte-word = record { form = inr (one (codes "02") (Byte 2 ∷ []) (byte 2, omega arith, inl (record { text_is = refl; cells_are = refl }))); few = omega arith }

first-entry : IsEntryText 8 (codes "&1 to &0, depth 2, forward at 0: &3") first
unfolding digits
first-entry = record {
  proof_text = codes ", forward at 0: &3";
  source = omega arith;
  target = omega arith;
  depth = omega arith;
  text_is = refl;
  proof = (omega arith, codes "0: &3", refl, record { word_text = codes "&3"; offset = omega arith; text_is = refl; word = other-word });
}

second-entry : IsEntryText 8 (codes "&3 to &2, depth 1, forward at 0: 02") second
unfolding digits
second-entry = record {
  proof_text = codes ", forward at 0: 02";
  source = omega arith;
  target = omega arith;
  depth = omega arith;
  text_is = refl;
  proof = (omega arith, codes "0: 02", refl, record { word_text = codes "02"; offset = omega arith; text_is = refl; word = byte-word });
}

-- five lines, and what stands behind the line `end` is left
a-text : IsRefutationText 8 text 1 shown (codes "ask")
unfolding digits Leads
a-text = (
  5,
  (
    codes "refutation of question 1",
    codes "word at 0: &1" ++ (10 ∷ entry_lines),
    question 1,
    refl,
    (1, omega arith, refl, refl),
    (
      codes "word at 0: &1",
      entry_lines,
      begun 1 (with_entries []),
      refl,
      (codes "0: &1", piece_of (pointer_of 8 1), refl, record { word_text = codes "&1"; offset = omega arith; text_is = refl; word = reference-word }, refl),
      (
        codes "&1 to &0, depth 2, forward at 0: &3",
        second_lines,
        begun 1 (with_entries (first ∷ [])),
        refl,
        inr (first, first-entry, record { few_entries = omega arith; few_cells = omega arith }, refl),
        (
          codes "&3 to &2, depth 1, forward at 0: 02",
          last_lines,
          begun 1 shown,
          refl,
          inr (second, second-entry, record { few_entries = omega arith; few_cells = omega arith }, refl),
          (codes "end", codes "ask", whole 1 shown, refl, inl (refl, refl), (refl, refl)),
        ),
      ),
    ),
  ),
)
