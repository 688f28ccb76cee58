use Rattle.std.proofs.Common.{◌≡◌, ℕ, ◌*◌, ◌∙◌, ap, length, ◌++◌, append_assoc, length-append, arith}
use Rattle.tm_base.specs.Cells.{Word}
use Rattle.tm_refute.specs.Runs.{as_part}
use Rattle.tm_refute.specs.WordForms.{part_cells, repeated}
use Rattle.tm_refute.proofs.reading.RunLemmas.{length-repeated, repeated-more}
use Rattle.tm_refute.proofs.text.part.Run.add_to.Goals as goal

pub returns-then-from-len-gt65536 : goal.returns-then-from-len-gt65536
returns-then-from-len-gt65536 c =
    let cells : Word = part_cells c.args.pointer (as_part c.args.self.part) in
    let product : c.from.result * c.from-2.result ≡ c.args.self.times * length cells = cc in
    omega (arith, c.if-from-len-gt65536.true, product, c.len.ensures, length-append c.args.word.now (repeated c.args.self.times cells), length-repeated c.args.self.times cells)

pub loop-preserved : goal.loop-preserved
loop-preserved c =
    let cells : Word = part_cells c.args.pointer (as_part c.args.self.part) in
    c.in_ok-add_to.ensures
    ∙ ap (λ (w : Word). w ++ cells) c.loop.invariant
    ∙ append_assoc c.args.word.now (repeated c.loop.counter cells) cells
    ∙ ap (λ (w : Word). c.args.word.now ++ w) (repeated-more c.loop.counter cells)

pub returns : goal.returns
returns c =
    let cells : Word = part_cells c.args.pointer (as_part c.args.self.part) in
    let all : c.loop.counter ≡ c.args.self.times = omega (arith, c.loop-test.false, c.loop.auto.counter-end) in
    let is : c.loop.word ≡ c.args.word.now ++ repeated c.args.self.times cells = c.loop.invariant ∙ ap (λ (n : ℕ). c.args.word.now ++ repeated n cells) all in
    let product : c.from.result * c.from-2.result ≡ c.args.self.times * length cells = cc in
    (is, omega (arith, c.if-from-len-gt65536.false, product, c.len.ensures, ap (length {A = _}) is, length-append c.args.word.now (repeated c.args.self.times cells), length-repeated c.args.self.times cells))
