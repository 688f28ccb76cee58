-- Each mark does what its two characters do.
use Rattle.std.proofs.Common.{◌≡◌, ◌<◌, List, ℕ, ◌∷◌, ap, ◌∙◌, length, subst, sym, lit<, arith}
use Rattle.std.specs.Str.{chars}
use Rattle.tm_lex.proofs.MarkLemmas.{at_closing, at_opening, at_other, at_end}
use Rattle.tm_lex.proofs.gaps.next_mark.Goals as goal
use Rattle.tm_lex.proofs.gaps.next_mark.Goals.{in_default-2-via-in-42+in_default, in_default-2-via-in-47+in_default, in_default-2-via-in_default}

short : (n m : ℕ) → n ≡ m → m < 2 → n < 2
short n m e h = subst (λ k. k < 2) (sym e) h

pub returns-in_default : goal.returns-in_default
returns-in_default c =
    at_end (chars c.args.text.now) (short _ 0 (ap length c.in_default.ensures) (lit< tt))

pub returns-in_default-front : goal.returns-in_default-front
returns-in_default-front c =
    at_end (chars c.args.text.now)
    (short _ 1 (ap length (c.in-Some.ensures ∙ ap (λ (t : List ℕ). c.in-Some.first ∷ t) c.in_default-front.ensures)) (lit< tt))

pub returns-in-42-eq47 : goal.returns-in-42-eq47
returns-in-42-eq47 c =
    at_closing (chars c.args.text.now) (chars c.in-Some.rest.now) (chars c.in-Some-front.after.now) c.in-Some.first c.in-Some-front.second
    c.in-Some.ensures c.in-Some-front.ensures c.in-42-eq47.is-0 c.in-42-eq47.is-1

pub returns-in-47-eq42 : goal.returns-in-47-eq42
returns-in-47-eq42 c =
    at_opening (chars c.args.text.now) (chars c.in-Some.rest.now) (chars c.in-Some-front.after.now) c.in-Some.first c.in-Some-front.second
    c.in-Some.ensures c.in-Some-front.ensures c.in-47-eq42.is-0 c.in-47-eq42.is-1

pub returns-in_default-2 : goal.returns-in_default-2
returns-in_default-2 c =
    at_other (chars c.args.text.now) (chars c.in-Some.rest.now) (chars c.in-Some-front.after.now) c.in-Some.first c.in-Some-front.second
    c.in-Some.ensures c.in-Some-front.ensures
    (elim c.in_default-2.branch [
      | in_default-2-via-in-42+in_default w ↦ λ x y. w.in_default-2.is-1.1 y
      | in_default-2-via-in-47+in_default w ↦ λ x y. omega (arith, x, w.in_default-2.is-0)
      | in_default-2-via-in_default w ↦ λ x y. w.in_default-2.is-0.0.1 x
    ])
    (elim c.in_default-2.branch [
      | in_default-2-via-in-42+in_default w ↦ λ x y. omega (arith, x, w.in_default-2.is-0)
      | in_default-2-via-in-47+in_default w ↦ λ x y. w.in_default-2.is-1.1 y
      | in_default-2-via-in_default w ↦ λ x y. w.in_default-2.is-0.1 x
    ])
