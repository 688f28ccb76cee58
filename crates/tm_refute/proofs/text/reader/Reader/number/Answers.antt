use Rattle.std.proofs.Common.{◌≡◌, ◌+◌, ◌*◌, ◌<◌, ◌^◌, ℕ, ◌++◌, sym, subst, arith}
use Rattle.std.specs.Fmt.{decimal}
use Rattle.tm_refute.specs.Taken.{IsNumber, Takes}
use Rattle.tm_refute.proofs.forms.NumberLemmas.{at-least, first-one, not-zero, leading-zero, no-digit, one-more, too-large}
use Rattle.tm_refute.proofs.text.reader.Reader.number.Goals as goal

pub returns-in_err-number : goal.returns-in_err-number
returns-in_err-number c =
    subst (Takes IsNumber c.args.self.now.rest.now c.digit.new.self.rest.now) (sym c.from_residual.ensures)
    (no-digit c.args.self.now.rest.now c.in_err-number.ensures.0)

pub loop-digit-init : goal.loop-digit-init
loop-digit-init c = let (small, e) = c.in_ok-number.ensures in (omega arith, first-one c.in_ok-number.number c.args.self.now.rest.now c.digit.new.self.rest.now small e)

pub returns-then-number-eq0 : goal.returns-then-number-eq0
returns-then-number-eq0 c = leading-zero c.loop-digit.number c.in-Some.digit c.args.self.now.rest.now c.loop-digit.self.rest.now c.digit-in-loop-digit.new.self.rest.now (omega (arith, c.if-number-eq0.true)) c.in-Some.ensures.0 c.loop-digit.invariant.1 c.in-Some.ensures.1

pub returns-in_err-checked_mul : goal.returns-in_err-checked_mul
returns-in_err-checked_mul c =
    let d = c.in-Some.ensures.0 in
    let n = c.loop-digit.invariant.0 in
    let before = c.args.self.now.rest.now in
    let after = c.digit-in-loop-digit.new.self.rest.now in
    let passes : c.loop-digit.number * 10 < 2 ^ 32 → ⊥ = c.in_err-checked_mul.ensures in
    subst (Takes IsNumber before after) (sym c.from_residual-in_err-checked_mul.ensures)
    (too-large (c.loop-digit.number * 10 + c.in-Some.digit) before after (omega (arith, at-least _ _ passes)) (omega arith)
    (one-more c.loop-digit.number c.in-Some.digit before c.loop-digit.self.rest.now after (omega (arith, not-zero _ c.if-number-eq0.false)) n d c.loop-digit.invariant.1 c.in-Some.ensures.1))

pub returns-in_err-number-2 : goal.returns-in_err-number-2
returns-in_err-number-2 c =
    let d = c.in-Some.ensures.0 in
    let n = c.loop-digit.invariant.0 in
    let before = c.args.self.now.rest.now in
    let after = c.digit-in-loop-digit.new.self.rest.now in
    let times = c.in_ok-checked_mul.ensures.1 in
    let passes : c.in_ok-checked_mul.field-0 + c.in-Some.digit < 2 ^ 32 → ⊥ = c.in_err-number-2.ensures in
    subst (Takes IsNumber before after) (sym c.from_residual-in_err-number-2.ensures)
    (too-large (c.loop-digit.number * 10 + c.in-Some.digit) before after (omega (arith, at-least _ _ passes)) (omega arith)
    (one-more c.loop-digit.number c.in-Some.digit before c.loop-digit.self.rest.now after (omega (arith, not-zero _ c.if-number-eq0.false)) n d c.loop-digit.invariant.1 c.in-Some.ensures.1))

pub loop-digit-preserved : goal.loop-digit-preserved
loop-digit-preserved c =
    let d = c.in-Some.ensures.0 in
    let n = c.loop-digit.invariant.0 in
    let before = c.args.self.now.rest.now in
    let after = c.digit-in-loop-digit.new.self.rest.now in
    let times = c.in_ok-checked_mul.ensures.1 in
    let plus = c.in_ok-number-2.ensures.1 in
    let value : c.loop-digit.number * 10 + c.in-Some.digit ≡ c.in_ok-number-2.number = omega arith in (
      omega (arith, c.in_ok-number-2.ensures.0),
      subst (λ (k : ℕ). before ≡ decimal k ++ after) value
          (one-more c.loop-digit.number c.in-Some.digit before c.loop-digit.self.rest.now after (omega (arith, not-zero _ c.if-number-eq0.false)) n d c.loop-digit.invariant.1 c.in-Some.ensures.1),
    )
