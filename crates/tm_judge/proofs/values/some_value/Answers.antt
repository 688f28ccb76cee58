use Rattle.tm_judge.proofs.ReadyLemmas.{value-start, target-start}
use Rattle.tm_judge.proofs.ValueLemmas.{example-yes, common-no}
use Rattle.tm_judge.proofs.values.some_value.Goals as goal

pub returns-in-Some-clause-answer : goal.returns-in-Some-clause-answer
returns-in-Some-clause-answer g c = λ world ask h assumed.
    example-yes world ask c.args.compat.now c.args.src.now c.args.dst.now h assumed c.in-Some.found.word c.in-Some.found.offset
    (rw c.in-Some.is at c.in_ok-found.ensures.found)

pub returns-in-None-clause-answer : goal.returns-in-None-clause-answer
returns-in-None-clause-answer g c = λ world ask h assumed.
    let (w, value) = (value-start world ask c.args.compat.now c.args.src.now c.args.dst.now h c.law.ensures.reads).0 c.requires.source in
    common-no world ask c.args.compat.now c.args.src.now c.args.dst.now h w value assumed
    ((target-start world ask c.args.compat.now c.args.src.now c.args.dst.now h c.law-2.ensures.reads).0 c.requires.target)
    (rw c.in-None.is at c.in_ok-found.ensures.found)
