-- Lines lead on one by one, and the first that doesn't go on is the bad one.
use Rattle.std.proofs.Common.{◌≡◌, ℕ, zero, suc, ◌+◌, ◌-◌, ◌≤◌, refl, sym, ◌∙◌, ap, subst, true, List, [], ◌∷◌, ◌++◌, length, drop, arith, append_assoc, length-append}
use Rattle.std.specs.List.{list_all}
use Rattle.std.proofs.Math.Seq.{drop-append_seam}
use Rattle.tm_refute.specs.Taken.{but}
use Rattle.tm_refute.specs.TextForms.{Follows, IsBadLine, Leads, Read, nothing, whole}
use Rattle.tm_refute.specs.declared.refutation.Refutation.{Refutation}
use Rattle.tm_refute.proofs.forms.GoingOnLemmas.{follows-whole}
use Rattle.tm_refute.proofs.forms.TextLemmas.{cut}

module _ (pointer : ℕ) where
  -- one line more
  pub leads-more : (n : ℕ) (from read next : Read) (bytes rest line others : List ℕ) → Leads pointer n from bytes read rest → rest ≡ line ++ (10 ∷ others) → Follows pointer read line next → Leads pointer (n + 1) from bytes next others
  unfolding Leads
  leads-more n from read next bytes rest line others leads e goes = subst (λ (k : ℕ). Leads pointer k from bytes next others) count (go n from bytes leads) where
    count : suc n ≡ n + 1
    count = omega arith

    go : (k : ℕ) (start : Read) (all : List ℕ) → Leads pointer k start all read rest → Leads pointer (suc k) start all next others
    go zero start all (same, is) = (line, others, next, is ∙ e, subst (λ (r : Read). Follows pointer r line next) (sym same) goes, (refl, refl))
    go (suc k) start all (first, back, then, is, follows, lead) = (first, back, then, is, follows, go k then back lead)

  -- what was led over stands before the rest, and is as long as it has lines
  pub led : (n : ℕ) (from to : Read) (bytes rest : List ℕ) → Leads pointer n from bytes to rest → (front : List ℕ) × (bytes ≡ front ++ rest) × (n ≤ length front)
  unfolding Leads
  led zero from to bytes rest (same, is) = ([], is, omega arith)
  led (suc n) from to bytes rest (line, others, next, is, follows, lead) =
      let (front, e, less) = led n next to others rest lead in
      (line ++ (10 ∷ front), is ∙ ap (λ (xs : List ℕ). line ++ (10 ∷ xs)) e ∙ sym (append_assoc line (10 ∷ front) rest), omega (arith, length-append line (10 ∷ front), less))

  pub rest-is : (n : ℕ) (from to : Read) (bytes rest : List ℕ) → Leads pointer n from bytes to rest → (drop (length bytes - length rest) bytes ≡ rest) × (length rest + n ≤ length bytes)
  rest-is n from to bytes rest leads =
      let (front, e, less) = led n from to bytes rest leads in
      let count : length bytes - length rest ≡ length front = omega (arith, ap (length {A = ℕ}) e, length-append front rest) in
      (ap (λ (k : ℕ). drop k bytes) count ∙ ap (drop (length front)) e ∙ drop-append_seam front rest, omega (arith, ap (length {A = ℕ}) e, length-append front rest, less))

  module _ (n : ℕ) (bytes rest : List ℕ) (read : Read) (leads : Leads pointer n nothing bytes read rest) (open_yet : (number : ℕ) (x : Refutation) → read ≡ whole number x → ⊥) where
    -- no line is ended there
    pub bad-end : ((text others : List ℕ) → rest ≡ text ++ (10 ∷ others) → ⊥) → IsBadLine pointer bytes (n + 1)
    bad-end none = record {
      before = n;
      counted = refl;
      read = read;
      rest = rest;
      leads = leads;
      unfinished = open_yet;
      stops = λ text others next e goes. none text others e;
    }

    -- the line doesn't go on
    pub bad-line : (line after : List ℕ) → rest ≡ line ++ (10 ∷ after) → list_all (but 10) line ≡ true → ((next : Read) → Follows pointer read line next → ⊥) → IsBadLine pointer bytes (n + 1)
    bad-line line after e all none = record {
      before = n;
      counted = refl;
      read = read;
      rest = rest;
      leads = leads;
      unfinished = open_yet;
      stops = λ text others next f goes.
          (let (same, behind) = cut (but 10) text line (10 ∷ others) (10 ∷ after) (follows-whole pointer read text next goes) all refl refl (sym f ∙ e) in
          none next (subst (λ (t : List ℕ). Follows pointer read t next) same goes));
    }
