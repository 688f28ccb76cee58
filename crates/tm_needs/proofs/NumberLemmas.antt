-- A set is told by its number, and a proper subset has a lesser one.
use Rattle.std.proofs.Common.{◌≡◌, ◌≤◌, ◌<◌, ◌∙◌, refl, ap, sym, Bool, true, false, arith}
use Rattle.std.specs.Prelude.{IsTrue}
use Rattle.std.proofs.lemmas.Bool.{both_ways}
use Rattle.tm_base.specs.declared.assume.Assume.{Assume}
use Rattle.tm_base.specs.Assumptions.{Includes}
use Rattle.tm_needs.specs.Numbers.{flag, number_of}

flag-small : (x : Bool) → flag x ≤ 1
flag-small true = omega arith
flag-small false = omega arith

flag-grows : (x y : Bool) → (IsTrue y → IsTrue x) → flag y ≤ flag x
flag-grows true true h = omega arith
flag-grows true false h = omega arith
flag-grows false false h = omega arith
flag-grows false true h = absurd (both_ways false refl (h refl))

flag-tells : (x y : Bool) → flag x ≡ flag y → x ≡ y
flag-tells true true e = refl
flag-tells false false e = refl
flag-tells true false e = absurd (omega arith)
flag-tells false true e = absurd (omega arith)

with_flags : Bool → Bool → Bool → Bool → Assume
with_flags p q r s = record { alignment = p; lifetimes = q; safety = r; validity = s }

same_flags : (a b : Assume) → a.alignment ≡ b.alignment → a.lifetimes ≡ b.lifetimes → a.safety ≡ b.safety → a.validity ≡ b.validity → a ≡ b
unfolding with_flags
same_flags a b p q r s =
    ap (λ x. with_flags x a.lifetimes a.safety a.validity) p
    ∙ (ap (λ x. with_flags b.alignment x a.safety a.validity) q
    ∙ (ap (λ x. with_flags b.alignment b.lifetimes x a.validity) r
    ∙ ap (λ x. with_flags b.alignment b.lifetimes b.safety x) s))

pub number-small : (a : Assume) → number_of a < 16
number-small a = omega (arith, flag-small a.alignment, flag-small a.lifetimes, flag-small a.safety, flag-small a.validity)

module _ (a b : Assume) where
  pub number-tells : number_of a ≡ number_of b → a ≡ b
  number-tells e =
      same_flags a b
      (flag-tells a.alignment b.alignment (omega (arith, small)))
      (flag-tells a.lifetimes b.lifetimes (omega (arith, small)))
      (flag-tells a.safety b.safety (omega (arith, small)))
      (flag-tells a.validity b.validity (omega (arith, small)))
    where
      small : (flag a.alignment ≤ 1) × (flag a.lifetimes ≤ 1) × (flag a.safety ≤ 1) × (flag a.validity ≤ 1) × (flag b.alignment ≤ 1) × (flag b.lifetimes ≤ 1) × (flag b.safety ≤ 1) × (flag b.validity ≤ 1)
      small = (flag-small a.alignment, flag-small a.lifetimes, flag-small a.safety, flag-small a.validity, flag-small b.alignment, flag-small b.lifetimes, flag-small b.safety, flag-small b.validity)

  number-grows : Includes a b → number_of b ≤ number_of a
  number-grows h =
      omega (arith, flag-grows a.alignment b.alignment h.alignment, flag-grows a.lifetimes b.lifetimes h.lifetimes, flag-grows a.safety b.safety h.safety, flag-grows a.validity b.validity h.validity)

  -- a subset whose number isn't less is the set itself
  pub subset-whole : Includes a b → number_of a ≤ number_of b → b ≡ a
  subset-whole h whole =
      let less : number_of b ≤ number_of a = number-grows h in
      sym (number-tells (omega arith))
