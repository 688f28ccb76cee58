use Rattle.std.proofs.Common.{◌≡◌, Bool, true, false, refl}
use Rattle.tm_validate.specs.Digits.{are_digits}
use Rattle.tm_run.proofs.runs.ByteLemmas.{bytes-few}
use Rattle.tm_run.proofs.words.bytes.Bytes.read.Goals as goal

pub invariant_of-result : goal.invariant_of-result
invariant_of-result c = bytes-few c.args.text.now c.in-Ok.bytes.items (by (are_digits c.args.text.now) refl) c.in-Ok.ensures.bytes
  where
    by : (digits : Bool) → are_digits c.args.text.now ≡ digits → digits ≡ true
    by true e = refl
    by false e = let bad = c.in-Ok.ensures.form.1 e in let is = c.in-Ok.is in cc
