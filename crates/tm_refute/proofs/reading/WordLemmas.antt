-- A word is read piece by piece, up to the next space.
use Rattle.std.proofs.Common.{◌≡◌, ℕ, ◌<◌, ◌≤◌, ◌⊎◌, inl, inr, refl, sym, ◌∙◌, ap, subst, List, [], ◌∷◌, ◌++◌, Err, length, take, drop, ◌-◌, arith, append_assoc, append-nil, length-append}
use Rattle.std.specs.Prelude.{codes}
use Rattle.std.proofs.lemmas.List.{take_all}
use Rattle.std.proofs.lemmas.Bool.Decides.{nat_tests}
use Rattle.tm_base.specs.Cells.{Word}
use Rattle.tm_refute.specs.Runs.{AddsRun, Reads, run_cells, IsRunText}
use Rattle.tm_refute.specs.Taken.{IsUpTo, Stops, but}
use Rattle.tm_refute.specs.WordForms.{ArePieces, IsPiece, IsWordText, more, most_cells, one}
use Rattle.tm_refute.specs.declared.text.part.Run.{Run}
use Rattle.tm_refute.specs.declared.stop.Stop.{Stop}
use Rattle.tm_refute.specs.declared.stop.Stop.TheVariants.{Form, Memory}
use Rattle.tm_refute.proofs.forms.TextLemmas.{cut}
use Rattle.tm_refute.proofs.forms.WordLemmas.{piece-apart, piece-whole}
use Rattle.tm_refute.proofs.reading.RunLemmas.{piece-run, run-piece}

module _ (pointer : ℕ) where
  -- the word so far is what stands before the rest
  pub record IsSoFar (text : List ℕ) (word : Word) (rest : List ℕ) : Type 0 where
    pub few : length word ≤ most_cells
    pub goes : (v : Word) → ArePieces pointer rest v → ArePieces pointer text (word ++ v)
    pub comes : (u : Word) → ArePieces pointer text u → (v : Word) × (u ≡ word ++ v) × ArePieces pointer rest v

  pub none-yet : (text : List ℕ) → IsSoFar text [] text
  none-yet text = record { few = omega arith; goes = λ v is. is; comes = λ u is. (u, refl, is) }

  -- the first piece, and those behind a space
  abbrev FirstOf : List ℕ → List ℕ → Word → Type 0
  FirstOf front after v = (cells : Word) × IsPiece pointer front cells
      × (((after ≡ []) × (v ≡ cells)) ⊎ ((next : List ℕ) × (others : Word) × (after ≡ 32 ∷ next) × (v ≡ cells ++ others) × ArePieces pointer next others))

  first-of : (rest front after : List ℕ) (v : Word) → IsUpTo 32 rest front after → ArePieces pointer rest v → FirstOf front after v
  first-of rest front after v up (one _ _ is) =
      let (same, left) = cut (but 32) front rest after [] up.whole (piece-whole pointer rest v is) up.stops tt (sym up.text_is ∙ sym (append-nil rest)) in
      (v, subst (λ (t : List ℕ). IsPiece pointer t v) (sym same) is, inl (left, refl))
  first-of rest front after v up (more _ first back _ u w e cells is others) =
      let (same, left) = cut (but 32) front first after (codes " " ++ back) up.whole (piece-whole pointer first u is) up.stops refl (sym up.text_is ∙ e) in
      (u, subst (λ (t : List ℕ). IsPiece pointer t u) (sym same) is, inr (back, w, left, cells, others))

  module _ (text : List ℕ) (word : Word) (rest front after : List ℕ) (so_far : IsSoFar text word rest) (up : IsUpTo 32 rest front after) (other : text ≡ codes "empty" → ⊥) where
    -- what the text says begins so
    begins : (w : Word) → IsWordText pointer text w → (v : Word) × (w ≡ word ++ v) × FirstOf front after v
    begins w is = go is.form where
      go : ((text ≡ codes "empty") × (w ≡ [])) ⊎ ArePieces pointer text w → (v : Word) × (w ≡ word ++ v) × FirstOf front after v
      go (inl (e, none)) = absurd (other e)
      go (inr pieces) =
          let (v, e, those) = so_far.comes w pieces in
          (v, e, first-of rest front after v up those)

    -- what isn't a piece
    pub no-run : ((run : Run) → IsRunText run front → ⊥) → (w : Word) → IsWordText pointer text w → ⊥
    no-run none w is =
        let (v, e, first) = begins w is in let (cells, piece, behind) = first in
        let (run, runs) = piece-run pointer front cells piece in
        none run runs

    module _ (run : Run) (runs : IsRunText run front) where
      here : IsPiece pointer front (run_cells pointer run)
      here = run-piece pointer run front runs

      -- the whole text begins with the cells so far and those of the run
      long : (w : Word) → IsWordText pointer text w → length (word ++ run_cells pointer run) ≤ length w
      long w is = (let (v, e, first) = begins w is in let (cells, piece, behind) = first in
          let same : cells ≡ run_cells pointer run = piece-apart pointer front cells (run_cells pointer run) piece here in
          let less = at-least-cells cells v behind in
          omega (arith, ap (length {A = _}) e, length-append word v, length-append word (run_cells pointer run), ap (length {A = _}) same, less)) where
            at-least-cells : (cells v : Word) → (((after ≡ []) × (v ≡ cells)) ⊎ ((next : List ℕ) × (others : Word) × (after ≡ 32 ∷ next) × (v ≡ cells ++ others) × ArePieces pointer next others)) → length cells ≤ length v
            at-least-cells cells v (inl (e, f)) = omega (arith, ap (length {A = _}) f)
            at-least-cells cells v (inr (next, others, e, f, is)) = omega (arith, ap (length {A = _}) f, length-append cells others)

      pub too-many : most_cells < length (word ++ run_cells pointer run) → (w : Word) → IsWordText pointer text w → ⊥
      too-many over w is = let few = is.few in omega (arith, long w is)

      module _ (new : Word) (added : new ≡ word ++ run_cells pointer run) (few : length new ≤ most_cells) where
        pub last : after ≡ [] → IsWordText pointer text new
        last end =
            let whole : rest ≡ front = up.text_is ∙ ap (λ (xs : List ℕ). front ++ xs) end ∙ append-nil front in
            record {
              form = inr (subst (ArePieces pointer text) (sym added) (so_far.goes (run_cells pointer run) (one rest (run_cells pointer run) (subst (λ (t : List ℕ). IsPiece pointer t (run_cells pointer run)) (sym whole) here))));
              few = few;
            }

        pub go-on : (next : List ℕ) → after ≡ 32 ∷ next → IsSoFar text new next
        go-on next end = record {
          few = few;
          goes = λ v is. subst (ArePieces pointer text) (sym (ap (λ (w : Word). w ++ v) added ∙ append_assoc word (run_cells pointer run) v))
              (so_far.goes (run_cells pointer run ++ v) (more rest front next (run_cells pointer run ++ v) (run_cells pointer run) v (up.text_is ∙ ap (λ (xs : List ℕ). front ++ xs) end) refl here is));
          comes = λ u is. (let (v, e, those) = so_far.comes u is in behind u v e (first-of rest front after v up those));
        } where
          behind : (u v : Word) → u ≡ word ++ v → FirstOf front after v → (x : Word) × (u ≡ new ++ x) × ArePieces pointer next x
          behind u v e (cells, piece, inl (none, f)) = let never : 32 ∷ next ≡ [] = sym end ∙ none in cc
          behind u v e (cells, piece, inr (back, others, g, f, is)) =
              let same : cells ≡ run_cells pointer run = piece-apart pointer front cells (run_cells pointer run) piece here in
              let whole : 32 ∷ back ≡ 32 ∷ next = sym g ∙ end in
              let left : back ≡ next = cc in (
                others,
                e ∙ ap (λ (w : Word). word ++ w) (f ∙ ap (λ (w : Word). w ++ others) same) ∙ sym (append_assoc word (run_cells pointer run) others) ∙ ap (λ (w : Word). w ++ others) (sym added),
                subst (λ (t : List ℕ). ArePieces pointer t others) left is,
              )

-- what stands behind a piece begins with the space
pub spaced : (after : List ℕ) → Stops (but 32) after → 1 ≤ length after → after ≡ 32 ∷ take (length after - 1) (drop 1 after)
spaced [] stops some = absurd (omega arith)
spaced (x ∷ xs) stops some =
    let rest : take (length (x ∷ xs) - 1) (drop 1 (x ∷ xs)) ≡ xs = (let count : length (x ∷ xs) - 1 ≡ length xs = omega arith in ap (λ (k : ℕ). take k xs) count ∙ take_all (length xs) xs (omega arith)) in
    let space : x ≡ 32 = grind (arith, nat_tests, stops) in
    ap (λ (c : ℕ). c ∷ xs) space ∙ ap (λ (ys : List ℕ). 32 ∷ ys) (sym rest)

pub none-left : (xs : List ℕ) → length xs < 1 → xs ≡ []
none-left [] h = refl
none-left (x ∷ xs) h = absurd (omega arith)

pub run-stops : (pointer : ℕ) (text : List ℕ) (cells word new : Word) (stop : Stop) → (most_cells < length (word ++ cells) → (w : Word) → IsWordText pointer text w → ⊥) → AddsRun cells word new (Err stop) → Reads {V = Word} (IsWordText pointer text) (Err stop)
run-stops pointer text cells word new Form over is = over is
run-stops pointer text cells word new Memory over is = tt
