-- The text that is written of a word is one of pieces, and they stand for the word.
use Rattle.std.proofs.Common.{◌≡◌, ℕ, zero, suc, ◌+◌, ◌<◌, ◌≤◌, ◌^◌, ◌⊎◌, inl, inr, refl, sym, ◌∙◌, ap, subst, Bool, true, false, nat_lt, if◌then◌else◌, List, [], ◌∷◌, ◌++◌, length, replicate, arith, append_assoc, append-nil, length-append}
use Rattle.std.specs.Prelude.{codes, flat_map, map}
use Rattle.std.specs.List.{All, range_with_len}
use Rattle.std.specs.Fmt.{decimal}
use Rattle.std.proofs.lemmas.Bool.{eqb-true}
use Rattle.std.proofs.lemmas.List.{length-replicate}
use Rattle.std.proofs.lemmas.List.Elements.{All-head, All-tail}
use Rattle.tm_base.specs.declared.cell.Cell.{Cell}
use Rattle.tm_base.specs.declared.cell.Cell.TheVariants.{Byte, Uninit, Ptr}
use Rattle.tm_base.specs.Cells.{HasWholeReferences, IsFree, Word, byte_first, nothing_left, pointer_of, reference_first, uninit_first}
use Rattle.tm_report.specs.WordTexts.{IsCell, Piece, are_alike, behind_spaces, cell_text, piece_texts, pieces, reference, run, run_before, spaced, word_text}
use Rattle.tm_refute.specs.WordForms as forms
use Rattle.tm_refute.specs.WordForms.{ArePieces, IsPiece, IsWordText, more, most_cells, one, repeated}
use Rattle.tm_refute.specs.Written.{IsWritableWord}

-- ---- what stands for a word

alike-free : (a b : Cell) → IsFree a → are_alike a b ≡ true → b ≡ a
alike-free (Byte b) (Byte c) free e = ap Byte (sym (eqb-true b c e))
alike-free (Byte b) Uninit free e = cc
alike-free (Byte b) (Ptr y k) free e = cc
alike-free Uninit (Byte c) free e = cc
alike-free Uninit Uninit free e = refl
alike-free Uninit (Ptr y k) free e = cc
alike-free (Ptr x j) b free e = absurd free

repeated-cell : (n : ℕ) (cell : Cell) → replicate n cell ≡ repeated n (cell ∷ [])
repeated-cell zero cell = refl
repeated-cell (suc n) cell = ap (λ (w : Word). cell ∷ w) (repeated-cell n cell)

module _ (pointer : ℕ) where
  -- the cells that pieces stand for
  abbrev cells : List Piece → Word
  cells [] = []
  cells (run n cell ∷ rest) = replicate n cell ++ cells rest
  cells (reference id ∷ rest) = pointer_of pointer id.0 ++ cells rest

  -- a run is of cells that are no reference's, and a reference has a number
  abbrev Stand : List Piece → Type 0
  Stand [] = Unit {0}
  Stand (run n cell ∷ rest) = IsFree cell × (1 ≤ n) × Stand rest
  Stand (reference id ∷ rest) = (id.0 < 2 ^ 32) × Stand rest

  run-stands : (cell : Cell) (ps : List Piece) → IsFree cell → Stand ps → (cells (run_before 1 cell ps) ≡ cell ∷ cells ps) × Stand (run_before 1 cell ps)
  run-stands cell [] free stand = (refl, (free, omega arith, tt))
  run-stands cell (reference id ∷ rest) free stand = (refl, (free, omega arith, stand))
  run-stands cell (run m other ∷ rest) free stand = go (are_alike cell other) refl where
    go : (b : Bool) → are_alike cell other ≡ b
        → (cells (if b then run (1 + m) cell ∷ rest else run 1 cell ∷ run m other ∷ rest) ≡ cell ∷ (replicate m other ++ cells rest)) × Stand (if b then run (1 + m) cell ∷ rest else run 1 cell ∷ run m other ∷ rest)
    go true e =
        let next : 1 + m ≡ suc m = omega arith in (
          ap (λ (n : ℕ). replicate n cell ++ cells rest) next ∙ ap (λ (c : Cell). cell ∷ (replicate m c ++ cells rest)) (sym (alike-free cell other free e)),
          (free, omega arith, stand.2),
        )
    go false e = (refl, (free, omega arith, stand))

  reference-pieces : (pointer ≡ 4) ⊎ (pointer ≡ 8) → (x : ℕ) (rest : Word) → pieces (pointer_of pointer x ++ rest) ≡ reference (record { 0 = x }) ∷ pieces rest
  reference-pieces (inl four) x rest = ap (λ (n : ℕ). pieces (pointer_of n x ++ rest)) four
  reference-pieces (inr eight) x rest = ap (λ (n : ℕ). pieces (pointer_of n x ++ rest)) eight

  first-cell : (pointer ≡ 4) ⊎ (pointer ≡ 8) → (x : ℕ) (rest : Word) → All IsCell (pointer_of pointer x ++ rest) → x < 2 ^ 32
  first-cell (inl four) x rest all = All-head IsCell (Ptr (record { 0 = x }) 0) (map (λ k. Ptr (record { 0 = x }) k) (range_with_len 1 3) ++ rest) (subst (λ (n : ℕ). All IsCell (pointer_of n x ++ rest)) four all)
  first-cell (inr eight) x rest all = All-head IsCell (Ptr (record { 0 = x }) 0) (map (λ k. Ptr (record { 0 = x }) k) (range_with_len 1 7) ++ rest) (subst (λ (n : ℕ). All IsCell (pointer_of n x ++ rest)) eight all)

  cells-behind : (front rest : Word) → All IsCell (front ++ rest) → All IsCell rest
  cells-behind [] rest all = all
  cells-behind (cell ∷ front) rest all = cells-behind front rest (All-tail IsCell cell (front ++ rest) all)

  -- the pieces of a word whose references are whole stand for it
  pieces-stand : (pointer ≡ 4) ⊎ (pointer ≡ 8) → (w : Word) → HasWholeReferences pointer w → All IsCell w → (cells (pieces w) ≡ w) × Stand (pieces w)
  pieces-stand size w (nothing_left _ e) all = (ap (λ (v : Word). cells (pieces v)) e ∙ sym e, subst (λ (v : Word). Stand (pieces v)) (sym e) tt)
  pieces-stand size w (byte_first b _ rest e whole) all =
      let here = subst (All IsCell) e all in
      let (same, stand) = pieces-stand size rest whole (All-tail IsCell (Byte b) rest here) in
      let (first, stands) = run-stands (Byte b) (pieces rest) (All-head IsCell (Byte b) rest here) stand in
      (ap (λ (v : Word). cells (pieces v)) e ∙ first ∙ ap (λ (v : Word). Byte b ∷ v) same ∙ sym e, subst (λ (v : Word). Stand (pieces v)) (sym e) stands)
  pieces-stand size w (uninit_first _ rest e whole) all =
      let (same, stand) = pieces-stand size rest whole (All-tail IsCell Uninit rest (subst (All IsCell) e all)) in
      let (first, stands) = run-stands Uninit (pieces rest) tt stand in
      (ap (λ (v : Word). cells (pieces v)) e ∙ first ∙ ap (λ (v : Word). Uninit ∷ v) same ∙ sym e, subst (λ (v : Word). Stand (pieces v)) (sym e) stands)
  pieces-stand size w (reference_first x _ rest e whole) all =
      let here = subst (All IsCell) e all in
      let (same, stand) = pieces-stand size rest whole (cells-behind (pointer_of pointer x) rest here) in
      let is : pieces w ≡ reference (record { 0 = x }) ∷ pieces rest = ap pieces e ∙ reference-pieces size x rest in
      (ap cells is ∙ ap (λ (v : Word). pointer_of pointer x ++ v) same ∙ sym e, subst Stand (sym is) (first-cell size x rest here, stand))

  -- ---- what is written of it

  -- each text is a piece, and the words of all stand in a row
  abbrev Each : List (List ℕ) → Word → Type 0
  Each [] w = w ≡ []
  Each (text ∷ texts) w = (u : Word) × (v : Word) × (w ≡ u ++ v) × IsPiece pointer text u × Each texts v

  each-append : (texts others : List (List ℕ)) (u v : Word) → Each texts u → Each others v → Each (texts ++ others) (u ++ v)
  each-append [] others u v e those = subst (λ (w : Word). Each others (w ++ v)) (sym e) those
  each-append (text ∷ texts) others u v (a, b, e, is, these) those =
      (a, b ++ v, ap (λ (w : Word). w ++ v) e ∙ append_assoc a b v, is, each-append texts others b v these those)

  once : (cell : Cell) → IsFree cell → IsPiece pointer (cell_text cell) (cell ∷ [])
  once (Byte b) free = (forms.byte b, free, inl (record { text_is = refl; cells_are = refl }))
  once Uninit free = (forms.uninit, tt, inl (record { text_is = refl; cells_are = refl }))
  once (Ptr id k) free = absurd free

  often : (n : ℕ) (cell : Cell) → IsFree cell → 1 ≤ n → n ≤ most_cells → IsPiece pointer (cell_text cell ++ codes "*" ++ decimal n) (replicate n cell)
  often n (Byte b) free some few =
      (forms.byte b, free, inr (n, record { some = some; few = few; text_is = append_assoc (cell_text (Byte b)) (codes "*") (decimal n); cells_are = repeated-cell n (Byte b) }))
  often n Uninit free some few =
      (forms.uninit, tt, inr (n, record { some = some; few = few; text_is = append_assoc (cell_text Uninit) (codes "*") (decimal n); cells_are = repeated-cell n Uninit }))
  often n (Ptr id k) free some few = absurd free

  each-apart : (n : ℕ) (cell : Cell) → IsFree cell → Each (replicate n (cell_text cell)) (replicate n cell)
  each-apart zero cell free = refl
  each-apart (suc n) cell free = (cell ∷ [], replicate n cell, refl, once cell free, each-apart n cell free)

  each-run : (n : ℕ) (cell : Cell) → IsFree cell → 1 ≤ n → n ≤ most_cells → Each (piece_texts (run n cell)) (replicate n cell)
  each-run n cell free some few = go (nat_lt n 4) where
    go : (b : Bool) → Each (if b then replicate n (cell_text cell) else (cell_text cell ++ codes "*" ++ decimal n) ∷ []) (replicate n cell)
    go true = each-apart n cell free
    go false = (replicate n cell, [], sym (append-nil (replicate n cell)), often n cell free some few, refl)

  each-piece : (ps : List Piece) → Stand ps → length (cells ps) ≤ most_cells → Each (flat_map piece_texts ps) (cells ps)
  each-piece [] stand few = refl
  each-piece (run n cell ∷ rest) (free, some, stand) few =
      each-append (piece_texts (run n cell)) (flat_map piece_texts rest) (replicate n cell) (cells rest)
      (each-run n cell free some (omega (arith, few, length-append (replicate n cell) (cells rest), length-replicate n cell)))
      (each-piece rest stand (omega (arith, few, length-append (replicate n cell) (cells rest))))
  each-piece (reference id ∷ rest) (small, stand) few = (
    pointer_of pointer id.0,
    cells rest,
    refl,
    (forms.reference id.0, small, inl (record { text_is = refl; cells_are = refl })),
    each-piece rest stand (omega (arith, few, length-append (pointer_of pointer id.0) (cells rest))),
  )

  joined : (text : List ℕ) (texts : List (List ℕ)) (w : Word) → Each (text ∷ texts) w → ArePieces pointer (text ++ behind_spaces texts) w
  joined text [] w (u, v, e, is, none) =
      let same : w ≡ u = e ∙ ap (λ (x : Word). u ++ x) none ∙ append-nil u in
      one (text ++ []) w (subst (λ (t : List ℕ). IsPiece pointer t w) (sym (append-nil text)) (subst (IsPiece pointer text) (sym same) is))
  joined text (other ∷ texts) w (u, v, e, is, those) =
      more (text ++ behind_spaces (other ∷ texts)) text (other ++ behind_spaces texts) w u v refl e is (joined other texts v those)

  -- a word that can be written is read back from its text
  pub word-written : (pointer ≡ 4) ⊎ (pointer ≡ 8) → (w : Word) → IsWritableWord pointer w → All IsCell w → IsWordText pointer (word_text w) w
  word-written size w writable all = (let (same, stand) = pieces-stand size w writable.whole all in
      record {
        form = go (flat_map piece_texts (pieces w)) (subst (Each (flat_map piece_texts (pieces w))) same (each-piece (pieces w) stand (let few = writable.few in omega (arith, few, ap (length {A = _}) same))));
        few = writable.few;
      }) where
        go : (texts : List (List ℕ)) → Each texts w → ((spaced texts ≡ codes "empty") × (w ≡ [])) ⊎ ArePieces pointer (spaced texts) w
        go [] none = inl (refl, none)
        go (text ∷ texts) those = inr (joined text texts w those)
