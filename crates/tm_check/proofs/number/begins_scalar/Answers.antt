use Rattle.std.proofs.Common.{◌≡◌, ◌<◌, ◌+◌, ◌*◌, ◌*◌, ◌-◌, ◌^◌, arith}
use Rattle.std.proofs.lemmas.Nat.{mul-lt}
use Rattle.tm_check.proofs.NumberLemmas.{power-fits, power-least}
use Rattle.tm_check.proofs.number.begins_scalar.Goals as goal

pub pow-requires : goal.pow-requires
pow-requires c = power-fits (4 - c.args.count) (omega arith)

pub overflow_mul-number : goal.overflow_mul-number
overflow_mul-number c =
    let power : c.pow.result ≡ 256 ^ (4 - c.args.count) = c.pow.ensures in
    let least = power-least (4 - c.args.count) 4 (omega arith) in
    let small : c.args.number * c.pow.result < 2 ^ 32 * (256 ^ 4 + 1) = mul-lt c.args.number c.pow.result (2 ^ 32) (256 ^ 4 + 1) c.requires.small (omega arith) in
    omega arith
