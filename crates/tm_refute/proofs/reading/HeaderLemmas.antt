-- The first two lines of a text, as they are read.
use Rattle.std.proofs.Common.{◌≡◌, ℕ, refl, subst, true, List, [], ◌∷◌, ◌++◌, Result, Ok, Err}
use Rattle.std.specs.Prelude.{codes}
use Rattle.std.specs.List.{list_all}
use Rattle.tm_refute.specs.LinesRead.{IsQuestion, IsTop}
use Rattle.tm_refute.specs.Runs.{Reads}
use Rattle.tm_refute.specs.Taken.{but}
use Rattle.tm_refute.specs.TextForms.{Follows, IsBadLine, IsPieceText, Leads, Read, begun, nothing, question}
use Rattle.tm_refute.specs.declared.refutation.Piece.{Piece}
use Rattle.tm_refute.specs.declared.stop.Stop.{Stop}
use Rattle.tm_refute.specs.declared.stop.Stop.TheVariants.{Form, Memory}
use Rattle.tm_refute.proofs.forms.NumberLemmas.{behind-is}
use Rattle.tm_refute.proofs.forms.LeadsLemmas.{bad-end, bad-line, leads-more}

pub top-behind : (pointer : ℕ) (text rest : List ℕ) (result : Result Piece Stop) → text ≡ codes "word at " ++ rest → Reads (IsPieceText pointer rest) result → Reads (IsTop pointer text) result
top-behind pointer text rest (Ok top) e is = (rest, e, is)
top-behind pointer text rest (Err Memory) e is = tt
top-behind pointer text rest (Err Form) e none = λ (top : Piece) (is : IsTop pointer text top).
    (let (back, f, a) = is in none top (subst (λ (t : List ℕ). IsPieceText pointer t top) (behind-is (codes "word at ") text back rest f e) a))

module _ (pointer : ℕ) where
  -- ---- the first two lines

  module _ (bytes : List ℕ) where
    none-led : Leads pointer 0 nothing bytes nothing bytes
    unfolding Leads
    none-led = (refl, refl)

    pub no-first : ((text others : List ℕ) → bytes ≡ text ++ (10 ∷ others) → ⊥) → IsBadLine pointer bytes 1
    no-first none = bad-end pointer 0 bytes bytes nothing none-led (λ number x e. cc) none

    module _ (first after : List ℕ) (e : bytes ≡ first ++ (10 ∷ after)) (all : list_all (but 10) first ≡ true) where
      pub no-question : ((number : ℕ) → IsQuestion number first → ⊥) → IsBadLine pointer bytes 1
      no-question none = bad-line pointer 0 bytes bytes nothing none-led (λ number x f. cc) first after e all no-next where
        no-next : (next : Read) → Follows pointer nothing first next → ⊥
        no-next next (number, small, is, same) = none number (small, is)

      module _ (number : ℕ) (is : IsQuestion number first) where
        one-led : Leads pointer 1 nothing bytes (question number) after
        one-led = leads-more pointer 0 nothing nothing (question number) bytes bytes first after none-led e (number, is.0, is.1, refl)

        pub no-second : ((text others : List ℕ) → after ≡ text ++ (10 ∷ others) → ⊥) → IsBadLine pointer bytes 2
        no-second none = bad-end pointer 1 bytes after (question number) one-led (λ other x f. cc) none

        module _ (second behind : List ℕ) (f : after ≡ second ++ (10 ∷ behind)) (whole_line : list_all (but 10) second ≡ true) where
          pub no-top : ((top : Piece) → IsTop pointer second top → ⊥) → IsBadLine pointer bytes 2
          no-top none = bad-line pointer 1 bytes after (question number) one-led (λ other x g. cc) second behind f whole_line no-next where
            no-next : (next : Read) → Follows pointer (question number) second next → ⊥
            no-next next (text, top, same, a, then) = none top (text, same, a)

          pub two-led : (top : Piece) → IsTop pointer second top → Leads pointer 2 nothing bytes (begun number (record { top = top; entries = [] })) behind
          two-led top (text, same, a) = leads-more pointer 1 nothing (question number) (begun number (record { top = top; entries = [] })) bytes after second behind one-led f (text, top, same, a, refl)
