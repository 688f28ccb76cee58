-- The text that is written of a refutation is in form, line by line, and stands for it.
use Rattle.std.proofs.Common.{◌≡◌, ℕ, suc, ◌+◌, ◌<◌, ◌^◌, inl, inr, refl, sym, ◌∙◌, ap, subst, List, [], ◌∷◌, ◌++◌, length, get_or, take, arith, append_assoc, append-nil, length-append}
use Rattle.std.specs.Prelude.{codes, flat_map}
use Rattle.std.specs.List.{All}
use Rattle.std.specs.Fmt.{decimal}
use Rattle.std.proofs.lemmas.List.{flat_map_more, take_more}
use Rattle.std.proofs.lemmas.List.Elements.{All-head, All-tail}
use Rattle.std.proofs.lemmas.List.Sums.{sum_by-append}
use Rattle.tm_refute.specs.TextForms.{IsEntryText, IsPieceText, IsRefutationText, IsWithin, Leads, begun, proof_cells, question, whole}
use Rattle.tm_refute.specs.Written.{IsEntryReadBack, IsPieceReadBack, IsProofReadBack, IsWritable, ended, entry_text, piece_text, proof_text, refutation_text}
use Rattle.tm_report.specs.WordTexts.{IsCell, word_text}
use Rattle.tm_refute.specs.declared.refutation.Entry.{Entry}
use Rattle.tm_refute.specs.declared.refutation.Piece.{Piece}
use Rattle.tm_refute.specs.declared.refutation.Refutation.{Refutation}
use Rattle.tm_refute.proofs.forms.WrittenWordLemmas.{word-written}

-- the lines of entries
abbrev pub entry_lines : List Entry → List ℕ
entry_lines = flat_map (λ entry. ended (entry_text entry))

-- a line that is ended, in front of others
line-first : (line others rest : List ℕ) → ended line ++ others ++ rest ≡ line ++ (10 ∷ (others ++ rest))
line-first line others rest = append_assoc (ended line) others rest ∙ append_assoc line (10 ∷ []) (others ++ rest)

module _ (pointer number : ℕ) (top : Piece) where
  -- the refutation with these entries
  abbrev having : List Entry → Refutation
  having entries = record { top = top; entries = entries }

  -- the line of an entry is in form
  abbrev InForm : Entry → Type 0
  InForm entry = IsEntryText pointer (entry_text entry) entry

  -- what is within the bounds is so with fewer entries
  fewer : (front back : List Entry) → IsWithin (having (front ++ back)) → IsWithin (having front)
  fewer front back within =
      let entries = within.few_entries in
      let cells = within.few_cells in
      record {
        few_entries = omega (arith, entries, length-append front back);
        few_cells = omega (arith, cells, sum_by-append (λ (e : Entry). proof_cells e.proof) front back);
      }

  -- the lines of the entries that are left, and the last one, lead from those before to the end
  entries-lead : (rest : List ℕ) (front back : List Entry) → IsWithin (having (front ++ back)) → All InForm back
      → (n : ℕ) × Leads pointer n (begun number (having front)) (entry_lines back ++ (codes "end" ++ (10 ∷ rest))) (whole number (having (front ++ back))) rest
  unfolding Leads
  entries-lead rest front [] within all =
      (1, (codes "end", rest, whole number (having front), refl, inl (refl, refl), (ap (λ (es : List Entry). whole number (having es)) (sym (append-nil front)), refl)))
  entries-lead rest front (entry ∷ back) within all =
      let again : front ++ (entry ∷ back) ≡ (front ++ entry ∷ []) ++ back = sym (append_assoc front (entry ∷ []) back) in
      let (n, leads) = entries-lead rest (front ++ entry ∷ []) back (subst (λ (es : List Entry). IsWithin (having es)) again within) (All-tail InForm entry back all) in (
        suc n,
        (
          entry_text entry,
          entry_lines back ++ (codes "end" ++ (10 ∷ rest)),
          begun number (having (front ++ entry ∷ [])),
          line-first (entry_text entry) (entry_lines back) (codes "end" ++ (10 ∷ rest)),
          inr (entry, All-head InForm entry back all, fewer (front ++ entry ∷ []) back (subst (λ (es : List Entry). IsWithin (having es)) again within), refl),
          subst (λ (es : List Entry). Leads pointer n (begun number (having (front ++ entry ∷ []))) (entry_lines back ++ (codes "end" ++ (10 ∷ rest))) (whole number (having es)) rest) (sym again) leads,
        ),
      )

  all-lead : (rest : List ℕ) (entries : List Entry) → number < 2 ^ 32 → IsPieceText pointer (piece_text top) top → IsWithin (having entries) → All InForm entries
      → IsRefutationText pointer
      ((codes "refutation of question " ++ decimal number) ++ (10 ∷ ((codes "word at " ++ piece_text top) ++ (10 ∷ (entry_lines entries ++ (codes "end" ++ (10 ∷ rest)))))))
      number (having entries) rest
  unfolding Leads
  all-lead rest entries small first within all =
      let (n, leads) = entries-lead rest [] entries within all in (
        suc (suc n),
        (
          codes "refutation of question " ++ decimal number,
          (codes "word at " ++ piece_text top) ++ (10 ∷ (entry_lines entries ++ (codes "end" ++ (10 ∷ rest)))),
          question number,
          refl,
          (number, small, refl, refl),
          (
            codes "word at " ++ piece_text top,
            entry_lines entries ++ (codes "end" ++ (10 ∷ rest)),
            begun number (having []),
            refl,
            (piece_text top, top, refl, first, refl),
            leads,
          ),
        ),
      )

-- four texts and what stands behind them
in-a-row : (a b c d rest : List ℕ) → (a ++ b ++ c ++ d) ++ rest ≡ a ++ (b ++ (c ++ (d ++ rest)))
in-a-row a b c d rest = append_assoc (a ++ b ++ c) d rest ∙ append_assoc (a ++ b) c (d ++ rest) ∙ append_assoc a b (c ++ (d ++ rest))

text-written : (pointer number : ℕ) (x : Refutation) (rest : List ℕ) → number < 2 ^ 32 → IsPieceText pointer (piece_text x.top) x.top → IsWithin x → All (λ entry. IsEntryText pointer (entry_text entry) entry) x.entries
    → IsRefutationText pointer (refutation_text number x ++ rest) number x rest
text-written pointer number x rest small first within all =
    let question_line : List ℕ = codes "refutation of question " ++ decimal number in
    let top_line : List ℕ = codes "word at " ++ piece_text x.top in
    let tail : List ℕ = entry_lines x.entries ++ (codes "end" ++ (10 ∷ rest)) in
    subst (λ (bytes : List ℕ). IsRefutationText pointer bytes number x rest)
    (sym
    (in-a-row (ended question_line) (ended top_line) (entry_lines x.entries) (ended (codes "end")) rest
    ∙ append_assoc question_line (10 ∷ []) (ended top_line ++ tail)
    ∙ ap (λ (bytes : List ℕ). question_line ++ (10 ∷ bytes)) (append_assoc top_line (10 ∷ []) tail)))
    (all-lead pointer number x.top rest x.entries small first within all)

-- ---- what each call writes is read back

pub piece-back : (piece : Piece) → piece.offset < 2 ^ 32 → All IsCell piece.word → IsPieceReadBack piece
piece-back piece small cells pointer size writable = record {
  word_text = word_text piece.word;
  offset = small;
  text_is = refl;
  word = word-written pointer size piece.word writable cells;
}

pub entry-back : (entry : Entry) → entry.source.0 < 2 ^ 32 → entry.target.0 < 2 ^ 32 → entry.depth < 2 ^ 32 → IsProofReadBack entry.proof → IsEntryReadBack entry
entry-back entry source target depth proof pointer size writable = record {
  proof_text = proof_text entry.proof;
  source = source;
  target = target;
  depth = depth;
  text_is = refl;
  proof = proof pointer entry.depth size writable;
}

-- one entry more
pub one-more : (items entries : List Entry) (i : ℕ) (entry : Entry) → items ≡ entries → i < length items → entry ≡ get_or items i entry → take (i + 1) entries ≡ take i entries ++ entry ∷ []
one-more items entries i entry same less is =
    subst (λ (es : List Entry). take (i + 1) es ≡ take i es ++ entry ∷ []) same (take_more items i entry less ∙ ap (λ (e : Entry). take i items ++ e ∷ []) (sym is))

pub line-more : (before after : List Entry) (entry : Entry) (start old new : List ℕ) → after ≡ before ++ entry ∷ [] → old ≡ start ++ entry_lines before → new ≡ old ++ ended (entry_text entry) → new ≡ start ++ entry_lines after
line-more before after entry start old new longer written added =
    added ∙ ap (λ (text : List ℕ). text ++ ended (entry_text entry)) written
    ∙ flat_map_more (λ e. ended (entry_text e)) start before entry
    ∙ ap (λ (es : List Entry). start ++ entry_lines es) (sym longer)

-- the first two lines and those behind them, as they are written one behind another
first-lines : (a d n w p : List ℕ) → ((a ++ (d ++ (n ++ w))) ++ p) ++ n ≡ ((a ++ d) ++ n) ++ ((w ++ p) ++ n)
first-lines a d n w p = simp append_assoc

pub whole-written : (number : ℕ) (x : Refutation) (start begun_text first all text : List ℕ) → start ≡ codes "refutation of question " ++ (decimal number ++ codes "\nword at ")
    → begun_text ≡ start ++ piece_text x.top → first ≡ begun_text ++ codes "\n" → all ≡ first ++ entry_lines x.entries → text ≡ all ++ codes "end\n" → text ≡ refutation_text number x
whole-written number x start begun_text first all text e f g h i =
    i
    ∙ ap (λ (t : List ℕ). t ++ codes "end\n") (h
    ∙ ap (λ (t : List ℕ). t ++ entry_lines x.entries) (g
    ∙ ap (λ (t : List ℕ). t ++ codes "\n") (f ∙ ap (λ (t : List ℕ). t ++ piece_text x.top) e)
    ∙ first-lines (codes "refutation of question ") (decimal number) (codes "\n") (codes "word at ") (piece_text x.top)))

pub refutation-back : (number : ℕ) (x : Refutation) (text : List ℕ) → number < 2 ^ 32 → IsPieceReadBack x.top → All IsEntryReadBack x.entries → text ≡ refutation_text number x
    → (pointer : ℕ) (rest : List ℕ) → IsWritable pointer x → IsRefutationText pointer (text ++ rest) number x rest
refutation-back number x text small top entries is pointer rest writable =
    subst (λ (t : List ℕ). IsRefutationText pointer (t ++ rest) number x rest) (sym is)
    (text-written pointer number x rest small (top pointer writable.size writable.top) writable.within
    (λ k d less. entries k d less pointer writable.size (writable.entries k d less)))
