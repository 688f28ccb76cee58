use Rattle.std.proofs.Common.{refl}
use Rattle.tm_judge.proofs.ValueLemmas.{every-yes, refused-there, refused-no}
use Rattle.tm_judge.proofs.values.each_value.Goals as goal

pub returns-in-None-clause-answer : goal.returns-in-None-clause-answer
returns-in-None-clause-answer g c = λ world ask h unassumed.
    every-yes world ask c.args.compat.now c.args.src.now c.args.dst.now h unassumed (rw c.in-None.is at c.in_ok-first_refusal.ensures.found)

pub returns-in_ok-rule-in-Some-clause-answer : goal.returns-in_ok-rule-in-Some-clause-answer
returns-in_ok-rule-in-Some-clause-answer g c = λ world ask h unassumed.
    let found = rw c.in-Some.is at c.in_ok-first_refusal.ensures.found in
    let refused = refused-there world ask c.args.compat.now c.args.src.now c.args.dst.now h unassumed c.law.ensures.reads c.requires.target c.in-Some.found.word c.in-Some.found.offset found in
    refused-no world ask c.args.compat.now c.args.src.now c.args.dst.now h unassumed c.law.ensures.reads c.requires.target c.in-Some.found.word c.in-Some.found.offset found c.in_ok-rule-in-Some.rule c.in_ok-rule-in-Some.fault
    (c.in_ok-rule-in-Some.ensures.rule world ask (refused c.size.result c.size.ensures)) (refused c.args.src.now.size refl)
