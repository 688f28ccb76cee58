-- The marks of a matrix: what each says of its question, that there is one for each question, and that it is the only one.
use Rattle.std.proofs.Common.{◌≡◌, ◌∙◌, ◌↔◌, refl, ap, subst, true, List, [], ◌∷◌, ◌++◌, map}
use Rattle.std.specs.List.{AllZip, flat_map, list_all}
use Rattle.tm_base.specs.declared.ask.Ask.{Ask}
use Rattle.tm_base.specs.declared.ground.Ground.{Ground}
use Rattle.tm_base.specs.Asked.{HoldsOf}
use Rattle.tm_base.specs.Tables.{Tables}
use Rattle.tm_base.proofs.WorldLemmas.{list_all-flat_map}
use Rattle.tm_matrix.specs.Matrix.{IsLine, IsMark, IsMatrix, question}
use Rattle.tm_matrix.specs.declared.marks.Line.{Line}
use Rattle.tm_matrix.specs.declared.marks.Mark.{Mark}
use Rattle.tm_matrix.specs.declared.marks.Mark.TheVariants.{Yes, No, Refused}
use Rattle.tm_run.specs.Marks.{is_line_yes, is_mark_yes, line_marks, line_questions}
use Rattle.tm_run.specs.Report.{status_when}
use Rattle.tm_run.proofs.answers.VerdictLemmas.{HasVerdict, verdict, zip-same}

-- lists that go together, one pair behind the other
module _ {X Y : Type 0} (R : X → Y → Type 0) where
  zip-append : (xs : List X) (ys : List Y) (us : List X) (vs : List Y) → AllZip R xs ys → AllZip R us vs → AllZip R (xs ++ us) (ys ++ vs)
  zip-append [] [] us vs h k = k
  zip-append [] (y ∷ ys) us vs h k = absurd h
  zip-append (x ∷ xs) [] us vs h k = absurd h
  zip-append (x ∷ xs) (y ∷ ys) us vs h k = (h.0, zip-append xs ys us vs h.1 k)

  zip-flat : {A B : Type 0} (S : A → B → Type 0) (f : A → List X) (g : B → List Y) → ((a : A) (b : B) → S a b → AllZip R (f a) (g b))
      → (froms : List A) (bs : List B) → AllZip S froms bs → AllZip R (flat_map f froms) (flat_map g bs)
  zip-flat S f g each [] [] h = tt
  zip-flat S f g each [] (b ∷ bs) h = absurd h
  zip-flat S f g each (a ∷ froms) [] h = absurd h
  zip-flat S f g each (a ∷ froms) (b ∷ bs) h = zip-append (f a) (g b) (flat_map f froms) (flat_map g bs) (each a b h.0) (zip-flat S f g each froms bs h.1)

  zip-mapped : {A : Type 0} (f : A → X) (froms : List A) (ys : List Y) → AllZip (λ a y. R (f a) y) froms ys → AllZip R (map f froms) ys
  zip-mapped f [] [] h = tt
  zip-mapped f [] (y ∷ ys) h = absurd h
  zip-mapped f (a ∷ froms) [] h = absurd h
  zip-mapped f (a ∷ froms) (y ∷ ys) h = (h.0, zip-mapped f froms ys h.1)

module _ (tables : Tables) where
  mark-means : (ask : Ask) (mark : Mark) → IsMark tables ask mark → is_mark_yes mark ≡ true ↔ HoldsOf tables ask
  mark-means ask Yes (judged, casts) = (λ e. record { judged = judged; casts = casts }, λ h. refl)
  mark-means ask No (judged, not_so) = (λ e. cc, λ h. absurd (not_so h.casts))
  mark-means ask Refused unjudged = (λ e. cc, λ h. absurd (unjudged h.judged))

  mark-same : (ask : Ask) (one other : Mark) → IsMark tables ask one → IsMark tables ask other → one ≡ other
  mark-same ask Yes Yes h k = refl
  mark-same ask Yes No h k = absurd (k.1 h.1)
  mark-same ask Yes Refused h k = absurd (k h.0)
  mark-same ask No Yes h k = absurd (h.1 k.1)
  mark-same ask No No h k = refl
  mark-same ask No Refused h k = absurd (k h.0)
  mark-same ask Refused Yes h k = absurd (h k.0)
  mark-same ask Refused No h k = absurd (h k.0)
  mark-same ask Refused Refused h k = refl

  module _ (types : List Ground) where
    -- the marks of a line are those of its questions
    line-marked : (g : Ground) (line : Line) → IsLine tables types g line → AllZip (IsMark tables) (line_questions tables types g) (line_marks line)
    line-marked g line h = (h.from, (h.to, zip-mapped (IsMark tables) (question g) types line.cells h.cells))

    line-same : (g : Ground) (one other : Line) → IsLine tables types g one → IsLine tables types g other → one ≡ other
    line-same g one other h k =
        let from = mark-same _ one.from other.from h.from k.from in
        let to = mark-same _ one.to other.to h.to k.to in
        let cells = zip-same (λ t mark. IsMark tables (question g t) mark) types one.cells other.cells (λ t i a b. mark-same (question g t) a b) h.cells k.cells in
        ap (λ x. record { from = x; to = one.to; cells = one.cells }) from
        ∙ ap (λ x. record { from = other.from; to = x; cells = one.cells }) to
        ∙ ap (λ x. record { from = other.from; to = other.to; cells = x }) cells

    pub lines-same : (ours theirs : List Line) → IsMatrix tables types ours → IsMatrix tables types theirs → theirs ≡ ours
    lines-same ours theirs h k = zip-same (IsLine tables types) types theirs ours (λ g i. line-same g) k.each h.each

    -- whether each mark is a yes tells whether what each question asks holds
    pub matrix-verdict : (lines : List Line) → IsMatrix tables types lines
        → HasVerdict (HoldsOf tables) (flat_map (line_questions tables types) types) (status_when (list_all is_line_yes lines))
    matrix-verdict lines h =
        subst (λ all. HasVerdict (HoldsOf tables) (flat_map (line_questions tables types) types) (status_when all)) (list_all-flat_map is_mark_yes line_marks lines)
        (verdict (IsMark tables) (HoldsOf tables) is_mark_yes mark-means (flat_map (line_questions tables types) types) (flat_map line_marks lines)
        (zip-flat (IsMark tables) (IsLine tables types) (line_questions tables types) line_marks line-marked types lines h.each))
