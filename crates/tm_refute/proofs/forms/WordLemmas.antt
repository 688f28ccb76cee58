-- A text is that of one word: pieces end at their spaces.
use Rattle.std.proofs.Common.{◌≡◌, ℕ, ◌/◌, ◌%◌, ◌⊎◌, inl, inr, refl, sym, ◌∙◌, ap, subst, true, false, List, [], ◌∷◌, ◌++◌, length, slice_index_or, arith, append-nil}
use Rattle.std.specs.Prelude.{codes}
use Rattle.std.specs.List.{list_all}
use Rattle.std.specs.Fmt.{decimal, digit_glyph}
use Rattle.std.proofs.lemmas.Bool.{and_from}
use Rattle.std.proofs.lemmas.Fmt.{decimal_injective}
use Rattle.std.proofs.lemmas.List.Folds.{list_all-append}
use Rattle.tm_base.specs.Cells.{Word}
use Rattle.tm_refute.specs.WordForms.{Part, byte, uninit, reference, ArePieces, IsOnce, IsPart, IsPiece, IsTimes, IsWordText, one, more, part_cells, part_text, repeated}
use Rattle.tm_refute.proofs.forms.TextLemmas.{cut}
use Rattle.tm_refute.proofs.forms.PartLemmas.{but, decimal-other, part-apart, part-other}

-- ---- pieces

pub part-whole : (p : Part) → IsPart p → list_all (but 42) (part_text p) ≡ true
part-whole p is = part-other 42 (omega arith) refl refl p is

-- `empty` is no part, nor one so many times
two-bytes : (x y : ℕ) → codes "empty" ≡ x ∷ y ∷ [] → ⊥
two-bytes x y e = omega (arith, ap (length {A = ℕ}) e)

first-byte : (xs : List ℕ) → codes "empty" ≡ 38 ∷ xs → ⊥
first-byte xs e = omega (arith, ap (λ (text : List ℕ). slice_index_or text 0 0) e)

no-part : (p : Part) → codes "empty" ≡ part_text p → ⊥
no-part (byte b) e = two-bytes (digit_glyph false (b / 16)) (digit_glyph false (b % 16)) e
no-part uninit e = two-bytes 45 45 e
no-part (reference k) e = first-byte (decimal k) e

no-times : (p : Part) (n : ℕ) → IsPart p → codes "empty" ≡ part_text p ++ (codes "*" ++ decimal n) → ⊥
no-times p n is e =
    let ends = cut (but 42) (codes "empty") (part_text p) [] (codes "*" ++ decimal n) refl (part-whole p is) tt refl (append-nil (codes "empty") ∙ e) in
    let never : [] ≡ 42 ∷ decimal n = ends.1 in cc

module _ (pointer : ℕ) where
  once-times : (text : List ℕ) (p q : Part) (n : ℕ) (u v : Word) → IsPart p → IsPart q → IsOnce pointer p text u → IsTimes pointer q n text v → ⊥
  once-times text p q n u v is_p is_q once times =
      let ends = cut (but 42) (part_text p) (part_text q) [] (codes "*" ++ decimal n) (part-whole p is_p) (part-whole q is_q) tt refl (append-nil (part_text p) ∙ (sym once.text_is ∙ times.text_is)) in
      let never : [] ≡ 42 ∷ decimal n = ends.1 in cc

  pub piece-apart : (text : List ℕ) (u v : Word) → IsPiece pointer text u → IsPiece pointer text v → u ≡ v
  piece-apart text u v (p, is_p, inl a) (q, is_q, inl b) =
      let same = part-apart p q is_p is_q (sym a.text_is ∙ b.text_is) in
      a.cells_are ∙ ap (part_cells pointer) same ∙ sym b.cells_are
  piece-apart text u v (p, is_p, inl a) (q, is_q, inr (n, b)) = absurd (once-times text p q n u v is_p is_q a b)
  piece-apart text u v (p, is_p, inr (n, a)) (q, is_q, inl b) = absurd (once-times text q p n v u is_q is_p b a)
  piece-apart text u v (p, is_p, inr (n, a)) (q, is_q, inr (m, b)) =
      let (front, back) = cut (but 42) (part_text p) (part_text q) (codes "*" ++ decimal n) (codes "*" ++ decimal m) (part-whole p is_p) (part-whole q is_q) refl refl (sym a.text_is ∙ b.text_is) in
      let same = part-apart p q is_p is_q front in
      let digits : decimal n ≡ decimal m = cc in
      let few = a.few in
      let few' = b.few in
      let times = decimal_injective n m (omega arith) (omega arith) digits in
      a.cells_are ∙ ap (λ (r : Part). repeated n (part_cells pointer r)) same ∙ ap (λ (k : ℕ). repeated k (part_cells pointer q)) times ∙ sym b.cells_are

  -- a piece has no space
  pub piece-whole : (text : List ℕ) (u : Word) → IsPiece pointer text u → list_all (but 32) text ≡ true
  piece-whole text u (p, is, inl a) = ap (list_all (but 32)) a.text_is ∙ part-other 32 (omega arith) refl refl p is
  piece-whole text u (p, is, inr (n, a)) =
      let few = a.few in
      ap (list_all (but 32)) a.text_is
      ∙ list_all-append (but 32) (part_text p) (codes "*" ++ decimal n)
      ∙ and_from _ _ (part-other 32 (omega arith) refl refl p is) (decimal-other 32 n (omega arith) (omega arith))

  piece-line : (text : List ℕ) (u : Word) → IsPiece pointer text u → list_all (but 10) text ≡ true
  piece-line text u (p, is, inl a) = ap (list_all (but 10)) a.text_is ∙ part-other 10 (omega arith) refl refl p is
  piece-line text u (p, is, inr (n, a)) =
      let few = a.few in
      ap (list_all (but 10)) a.text_is
      ∙ list_all-append (but 10) (part_text p) (codes "*" ++ decimal n)
      ∙ and_from _ _ (part-other 10 (omega arith) refl refl p is) (decimal-other 10 n (omega arith) (omega arith))

  -- a text without a space isn't one of two pieces or more
  pub alone : (text first rest : List ℕ) → list_all (but 32) text ≡ true → list_all (but 32) first ≡ true → text ≡ first ++ (codes " " ++ rest) → ⊥
  alone text first rest whole part e =
      let ends = cut (but 32) text first [] (codes " " ++ rest) whole part tt refl (append-nil text ∙ e) in
      let never : [] ≡ 32 ∷ rest = ends.1 in cc

  pieces-apart : (text : List ℕ) (u v : Word) → ArePieces pointer text u → ArePieces pointer text v → u ≡ v
  pieces-apart text u v (one _ _ a) (one _ _ b) = piece-apart text u v a b
  pieces-apart text u v (one _ _ a) (more _ first rest _ _ _ e is b others) =
      absurd (alone text first rest (piece-whole text u a) (piece-whole first _ b) e)
  pieces-apart text u v (more _ first rest _ _ _ e is a others) (one _ _ b) =
      absurd (alone text first rest (piece-whole text v b) (piece-whole first _ a) e)
  pieces-apart text u v (more _ first rest _ a1 a2 e is a others) (more _ front back _ b1 b2 f is' b behind) =
      let (same, ends) = cut (but 32) first front (codes " " ++ rest) (codes " " ++ back) (piece-whole first a1 a) (piece-whole front b1 b) refl refl (sym e ∙ f) in
      let left : rest ≡ back = cc in
      let heads = piece-apart first a1 b1 a (subst (λ (t : List ℕ). IsPiece pointer t b1) (sym same) b) in
      let tails = pieces-apart rest a2 b2 others (subst (λ (t : List ℕ). ArePieces pointer t b2) (sym left) behind) in
      is ∙ ap (λ (w : Word). w ++ a2) heads ∙ ap (λ (w : Word). b1 ++ w) tails ∙ sym is'

  -- `empty` is no piece
  no-piece : (u : Word) → IsPiece pointer (codes "empty") u → ⊥
  no-piece u (p, is, inl a) = no-part p a.text_is
  no-piece u (p, is, inr (n, a)) = no-times p n is a.text_is

  pub no-pieces : (text : List ℕ) (u : Word) → text ≡ codes "empty" → ArePieces pointer text u → ⊥
  no-pieces text u is (one _ _ a) = no-piece u (subst (λ (t : List ℕ). IsPiece pointer t u) is a)
  no-pieces text u is (more _ first rest _ a1 a2 e cells a others) =
      alone text first rest (ap (list_all (but 32)) is) (piece-whole first a1 a) e

-- a text of a word has no byte that ends a line
whole-pieces : (pointer : ℕ) (text : List ℕ) (u : Word) → ArePieces pointer text u → list_all (but 10) text ≡ true
whole-pieces pointer text u (one _ _ a) = piece-line pointer text u a
whole-pieces pointer text u (more _ first rest _ a1 a2 e is a others) =
    ap (list_all (but 10)) e ∙ list_all-append (but 10) first (codes " " ++ rest) ∙ and_from _ _ (piece-line pointer first a1 a) (whole-pieces pointer rest a2 others)

pub word-whole : (pointer : ℕ) (text : List ℕ) (w : Word) → IsWordText pointer text w → list_all (but 10) text ≡ true
word-whole pointer text w a = go a.form where
  go : ((text ≡ codes "empty") × (w ≡ [])) ⊎ ArePieces pointer text w → list_all (but 10) text ≡ true
  go (inl (e, none)) = ap (list_all (but 10)) e
  go (inr some) = whole-pieces pointer text w some

-- a text is that of one word
pub read-one-way : (pointer : ℕ) (text : List ℕ) (v w : Word) → IsWordText pointer text v → IsWordText pointer text w → v ≡ w
read-one-way pointer text v w a b = go a.form b.form where
  go : ((text ≡ codes "empty") × (v ≡ [])) ⊎ ArePieces pointer text v → ((text ≡ codes "empty") × (w ≡ [])) ⊎ ArePieces pointer text w → v ≡ w
  go (inl (e, none)) (inl (f, nothing)) = none ∙ sym nothing
  go (inl (e, none)) (inr some) = absurd (no-pieces pointer text w e some)
  go (inr some) (inl (e, none)) = absurd (no-pieces pointer text v e some)
  go (inr some) (inr others) = pieces-apart pointer text v w some others
