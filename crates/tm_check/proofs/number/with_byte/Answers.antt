use Rattle.std.proofs.Common.{◌≡◌, ◌^◌, arith}
use Rattle.tm_check.proofs.NumberLemmas.{power-fits, power-least, product-fits, sum-fits}
use Rattle.tm_check.proofs.number.with_byte.Goals as goal

pub pow-requires : goal.pow-requires
pow-requires c = power-fits c.args.count (omega arith)

pub overflow_mul-result : goal.overflow_mul-result
overflow_mul-result c =
    let byte : c.from.result ≡ c.args.byte = c.from.ensures in
    let power : c.pow.result ≡ 256 ^ c.args.count = c.pow.ensures in
    let fits = product-fits c.args.count c.args.byte c.requires.few (omega arith) in
    rw (byte, power) (omega (arith, fits))

pub overflow_add-result : goal.overflow_add-result
overflow_add-result c =
    let byte : c.from.result ≡ c.args.byte = c.from.ensures in
    let power : c.pow.result ≡ 256 ^ c.args.count = c.pow.ensures in
    let fits = sum-fits c.args.count c.args.number c.args.byte c.requires.few (omega arith) c.requires.small in
    rw (byte, power) (omega (arith, fits))

pub overflow_mul-result-in-Be64 : goal.overflow_mul-result-in-Be64
overflow_mul-result-in-Be64 c = let least = power-least c.args.count 15 (omega arith) in omega arith

pub overflow_add-result-in-Be64 : goal.overflow_add-result-in-Be64
overflow_add-result-in-Be64 c =
    let byte : c.from-in-Be64.result ≡ c.args.byte = c.from-in-Be64.ensures in
    let least = power-least c.args.count 15 (omega arith) in
    omega arith
