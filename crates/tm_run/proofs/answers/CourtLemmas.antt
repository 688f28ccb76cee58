-- A table that is found is the one for what is assumed.
use Rattle.std.proofs.Common.{◌≡◌, ◌∙◌, ◌<◌, ◌&&◌, Bool, true, false, ℕ, zero, suc, List, [], ◌∷◌, All, length, get_or, Some, slice_get, refl, sym, ap, subst, arith}
use Rattle.std.proofs.Math.Bool.{beq}
use Rattle.std.proofs.lemmas.Bool.{and_parts}
use Rattle.std.proofs.lemmas.List.Elements.{All-head, All-tail}
use Rattle.tm_base.specs.declared.assume.Assume.{Assume}
use Rattle.tm_base.specs.Tables.{Tables}
use Rattle.tm_refs.specs.declared.compat.Compat.{Compat}
use Rattle.tm_refs.specs.Solved.{IsSolvedFor}
use Rattle.tm_run.specs.Courts.{IsSolved, IsTableFor}

flag : (a b : Bool) → beq a b ≡ true → a ≡ b
flag true true e = refl
flag true false e = cc
flag false true e = cc
flag false false e = refl

-- the same flags are the same assumptions
pub same-flags : (a b : Assume) → (beq a.alignment b.alignment && (beq a.lifetimes b.lifetimes && (beq a.safety b.safety && beq a.validity b.validity))) ≡ true → a ≡ b
same-flags a b e =
    let (alignment, rest) = and_parts (beq a.alignment b.alignment) (beq a.lifetimes b.lifetimes && (beq a.safety b.safety && beq a.validity b.validity)) e in
    let (lifetimes, last) = and_parts (beq a.lifetimes b.lifetimes) (beq a.safety b.safety && beq a.validity b.validity) rest in
    let (safety, validity) = and_parts (beq a.safety b.safety) (beq a.validity b.validity) last in
    let one = flag a.alignment b.alignment alignment in
    let two = flag a.lifetimes b.lifetimes lifetimes in
    let three = flag a.safety b.safety safety in
    let four = flag a.validity b.validity validity in
    ap (λ z. record { alignment = z; lifetimes = a.lifetimes; safety = a.safety; validity = a.validity }) one
    ∙ ap (λ z. record { alignment = b.alignment; lifetimes = z; safety = a.safety; validity = a.validity }) two
    ∙ ap (λ z. record { alignment = b.alignment; lifetimes = b.lifetimes; safety = z; validity = a.validity }) three
    ∙ ap (λ z. record { alignment = b.alignment; lifetimes = b.lifetimes; safety = b.safety; validity = z }) four

module _ (tables : Tables) where
  table-at : (all : List Compat) (k : ℕ) (table : Compat) → All (IsSolved tables) all → k < length all → table ≡ get_or all k table → (slice_get all k ≡ Some table) × IsSolved tables table
  table-at [] k table solved less is = absurd (omega (arith, less))
  table-at (first ∷ all) zero table solved less is = (ap (λ (t : Compat). Some t) (sym is), subst (IsSolved tables) (sym is) (All-head (IsSolved tables) first all solved))
  table-at (first ∷ all) (suc k) table solved less is = table-at all k table (All-tail (IsSolved tables) first all solved) (omega (arith, less)) is

  pub table-found : (all : List Compat) (k : ℕ) (table : Compat) → All (IsSolved tables) all → k < length all → table ≡ get_or all k table
      → (told assume : Assume) → ((tables : Tables) (assume : Assume) → IsSolvedFor tables assume table → told ≡ assume) → told ≡ assume → IsTableFor tables assume (slice_get all k)
  table-found all k table solved less is told assume tells same =
      let (at, one) = table-at all k table solved less is in
      subst (IsTableFor tables assume) (sym at) (subst (λ (a : Assume). IsSolvedFor tables a table) (sym (tells tables one.assume one.solved) ∙ same) one.solved)
