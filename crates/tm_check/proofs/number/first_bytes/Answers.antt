use Rattle.std.proofs.Common.{subst, sym, ◌<◌, ◌-◌, ℕ, arith}
use Rattle.tm_check.proofs.NumberLemmas.{power-fits, power-some}
use Rattle.tm_check.proofs.number.first_bytes.Goals as goal

pub pow-requires : goal.pow-requires
pow-requires c = power-fits c.args.count (omega arith)

pub nonzero_rem-result : goal.nonzero_rem-result
nonzero_rem-result c = subst (λ (n : ℕ). 0 < n) (sym c.pow.ensures) (power-some c.args.count)

pub pow-requires-in-Be64 : goal.pow-requires-in-Be64
pow-requires-in-Be64 c = power-fits (c.args.size - c.args.count) (omega arith)

pub nonzero_div-result : goal.nonzero_div-result
nonzero_div-result c = subst (λ (n : ℕ). 0 < n) (sym c.pow-in-Be64.ensures) (power-some (c.args.size - c.args.count))
