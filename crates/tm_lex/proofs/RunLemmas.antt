-- Runs: how they go on, and that the text alone decides where one ends.
use Rattle.std.proofs.Common.{◌≡◌, ℕ, refl, sym, ap, ◌∙◌, subst, Bool, true, false, List, [], ◌∷◌, ◌++◌, if◌then◌else◌}
use Rattle.std.specs.List.{list_all}
use Rattle.std.proofs.lemmas.Bool.{and_parts, and_from}
use Rattle.tm_lex.specs.Characters.{Stops, IsRun, run_of}
use Rattle.tm_lex.specs.Pieces.{Fronts}

-- a run of no character, at the end of the text and before a character that stops it
pub run_ends : (p : ℕ → Bool) (text : List ℕ) → text ≡ [] → Fronts (IsRun p) text text
run_ends p text e = record { piece = []; splits = refl; holds = (refl, subst (Stops p) (sym e) tt) }

pub run_stops : (p : ℕ → Bool) (c : ℕ) (text rest : List ℕ) → text ≡ c ∷ rest → p c ≡ false → Fronts (IsRun p) text text
run_stops p c text rest e h = record { piece = []; splits = refl; holds = (refl, subst (Stops p) (sym e) h) }

-- one more character before a run
pub run_goes_on : (p : ℕ → Bool) (c : ℕ) (text rest after : List ℕ) → text ≡ c ∷ rest → p c ≡ true
    → Fronts (IsRun p) rest after → Fronts (IsRun p) text after
run_goes_on p c text rest after e h run = record {
  piece = c ∷ run.piece;
  splits = e ∙ ap (λ t. c ∷ t) run.splits;
  holds = (and_from (p c) (list_all p run.piece) h run.holds.0, run.holds.1);
}

-- the run at the front is the one that the text has
pub run_of-run : (p : ℕ → Bool) (run rest : List ℕ) → IsRun p run rest → run_of p (run ++ rest) ≡ run
run_of-run p [] [] h = refl
run_of-run p [] (c ∷ rest) h = ap (λ b. if b then c ∷ run_of p rest else []) h.1
run_of-run p (c ∷ run) rest h =
    let parts = and_parts (p c) (list_all p run) h.0 in
    ap (λ b. if b then c ∷ run_of p (run ++ rest) else []) parts.0 ∙ ap (λ t. c ∷ t) (run_of-run p run rest (parts.1, h.1))

pub one_run : (p : ℕ → Bool) (u v x y : List ℕ) → IsRun p u x → IsRun p v y → u ++ x ≡ v ++ y → u ≡ v
one_run p u v x y h k e = sym (run_of-run p u x h) ∙ ap (run_of p) e ∙ run_of-run p v y k
