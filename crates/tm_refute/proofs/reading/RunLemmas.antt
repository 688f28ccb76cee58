-- Pieces that are read are the pieces of a word's text.
use Rattle.std.proofs.Common.{◌≡◌, ℕ, zero, suc, ◌+◌, ◌*◌, ◌≤◌, inl, inr, refl, sym, ◌∙◌, ap, subst, true, List, [], ◌∷◌, ◌++◌, length, arith, append_assoc, append-nil, length-append}
use Rattle.std.specs.Prelude.{codes}
use Rattle.std.specs.List.{list_all}
use Rattle.std.specs.Fmt.{decimal}
use Rattle.std.proofs.lemmas.Fmt.{decimal_injective}
use Rattle.tm_base.specs.Cells.{Word}
use Rattle.tm_refute.specs.Runs.{as_part, IsPartText, run_cells, IsRunText, IsTimesText}
use Rattle.tm_refute.specs.Taken.{IsUpTo, Stops, but, IsWholeNumber}
use Rattle.tm_refute.specs.WordForms as form
use Rattle.tm_refute.specs.WordForms.{IsOnce, IsPiece, IsTimes, most_cells, part_cells, repeated}
use Rattle.tm_refute.specs.declared.text.part.Part.{Part}
use Rattle.tm_refute.specs.declared.text.part.Part.TheVariants.{Byte, Uninit, Reference}
use Rattle.tm_refute.specs.declared.text.part.Run.{Run}
use Rattle.tm_refute.proofs.forms.TextLemmas.{cut}
use Rattle.tm_refute.proofs.forms.WordLemmas.{part-whole}

-- a form's part, as it is read
from_part : form.Part → Part
from_part (form.byte b) = Byte b
from_part form.uninit = Uninit
from_part (form.reference k) = Reference (record { 0 = k })

back-again : (p : form.Part) → as_part (from_part p) ≡ p
unfolding from_part
back-again (form.byte b) = refl
back-again form.uninit = refl
back-again (form.reference k) = refl

pub run-piece : (pointer : ℕ) (run : Run) (text : List ℕ) → IsRunText run text → IsPiece pointer text (run_cells pointer run)
run-piece pointer run text is = go is.times where
  go : IsTimesText run.times is.back → IsPiece pointer text (run_cells pointer run)
  go (inl (one, e)) = (
    as_part run.part,
    is.part.0,
    inl (record {
      text_is = is.text_is ∙ ap (λ (xs : List ℕ). is.front ++ xs) e ∙ append-nil is.front ∙ is.part.1;
      cells_are = ap (λ (n : ℕ). repeated n (part_cells pointer (as_part run.part))) one ∙ append-nil (part_cells pointer (as_part run.part));
    }),
  )
  go (inr (some, few, e)) = (
    as_part run.part,
    is.part.0,
    inr (
      run.times,
      record {
        some = some;
        few = few;
        text_is = is.text_is ∙ ap (λ (xs : List ℕ). is.front ++ xs) e ∙ ap (λ (xs : List ℕ). xs ++ (codes "*" ++ decimal run.times)) is.part.1;
        cells_are = refl;
      },
    ),
  )

-- a piece is some run
pub piece-run : (pointer : ℕ) (text : List ℕ) (cells : Word) → IsPiece pointer text cells → (run : Run) × IsRunText run text
piece-run pointer text cells (p, is, inl a) =
    let q : Part = from_part p in
    let same : p ≡ as_part q = sym (back-again p) in (
      record { part = q; times = 1 },
      record {
        front = text;
        back = [];
        text_is = sym (append-nil text);
        part = (subst form.IsPart same is, a.text_is ∙ ap form.part_text same);
        times = inl (refl, refl);
      },
    )
piece-run pointer text cells (p, is, inr (n, a)) =
    let q : Part = from_part p in
    let same : p ≡ as_part q = sym (back-again p) in (
      record { part = q; times = n },
      record {
        front = form.part_text p;
        back = codes "*" ++ decimal n;
        text_is = a.text_is;
        part = (subst form.IsPart same is, ap form.part_text same);
        times = inr (a.some, a.few, refl);
      },
    )

-- behind the part stands nothing, or what begins with an asterisk
times-stop : (n : ℕ) (text : List ℕ) → IsTimesText n text → Stops (but 42) text
times-stop n text (inl (one, e)) = subst (Stops (but 42)) (sym e) tt
times-stop n text (inr (some, few, e)) = subst (Stops (but 42)) (sym e) refl

module _ (text front back : List ℕ) (up : IsUpTo 42 text front back) (run : Run) (is : IsRunText run text) where
  parts : (front ≡ is.front) × (back ≡ is.back)
  parts = cut (but 42) front is.front back is.back up.whole (subst (λ (xs : List ℕ). list_all (but 42) xs ≡ true) (sym is.part.1) (part-whole (as_part run.part) is.part.0)) up.stops (times-stop run.times is.back is.times) (sym up.text_is ∙ is.text_is)

  pub front-part : IsPartText run.part front
  front-part = subst (IsPartText run.part) (sym parts.0) is.part

  pub back-times : IsTimesText run.times back
  back-times = subst (IsTimesText run.times) (sym parts.1) is.times

-- ---- how often

module _ (text digits : List ℕ) (star : text ≡ codes "*" ++ digits) where
  pub bad-times : (n : ℕ) → IsWholeNumber n digits → ((1 ≤ n) × (n ≤ most_cells) → ⊥) → (m : ℕ) → IsTimesText m text → ⊥
  bad-times n is out m (inl (one, e)) = let never : 42 ∷ digits ≡ [] = sym star ∙ e in cc
  bad-times n (small, f) out m (inr (some, few, e)) =
      let whole : 42 ∷ digits ≡ 42 ∷ decimal m = sym star ∙ e in
      let same : digits ≡ decimal m = cc in
      let equal : n ≡ m = decimal_injective n m (omega arith) (omega arith) (sym f ∙ same) in
      out (omega (arith, equal), omega (arith, equal))

-- ---- cells

pub repeated-more : (n : ℕ) (cells : Word) → repeated n cells ++ cells ≡ repeated (n + 1) cells
repeated-more n cells = (let next : suc n ≡ n + 1 = omega arith in go n ∙ ap (λ (k : ℕ). repeated k cells) next) where
  go : (m : ℕ) → repeated m cells ++ cells ≡ repeated (suc m) cells
  go zero = sym (append-nil cells)
  go (suc m) = append_assoc cells (repeated m cells) cells ∙ ap (λ (w : Word). cells ++ w) (go m)

pub length-repeated : (n : ℕ) (cells : Word) → length (repeated n cells) ≡ n * length cells
length-repeated zero cells = omega arith
length-repeated (suc n) cells = omega (arith, length-append cells (repeated n cells), length-repeated n cells)
