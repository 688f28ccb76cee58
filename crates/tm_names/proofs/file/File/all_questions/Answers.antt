use Rattle.std.proofs.Common.{◌∙◌, ◌+◌, [], ◌∷◌, ◌++◌, ap, arith, map}
use Rattle.tm_names.proofs.Members.{next_found}
use Rattle.tm_names.specs.Resolutions.{ask_of}
use Rattle.tm_names.specs.Source.{names_in}
use Rattle.tm_names.proofs.file.File.all_questions.Goals as goal

pub loop-item-preserved : goal.loop-item-preserved
loop-item-preserved c =
    let ask = ask_of (names_in c.args.self.now.source) c.args.parsed.now in
    let src = rw (c.as_slice.ensures, c.requires.same) at c.in_ok-resolve.ensures in
    let dst = rw (c.as_slice.ensures, c.requires.same) at c.in_ok-resolve-2.ensures in
    next_found ask c.loop-item.asks c.add.new.list (map ask c.args.parsed.now.questions) c.as_slice-item-items.result.now
    c.loop-item.item-index (c.loop-item.item-index + 1) c.item-item.result c.loop-item-test.true (omega arith) c.item-item.is
    (c.in_ok-add.ensures ∙ (ap (λ ty. c.loop-item.asks ++ (record { src = ty; dst = c.in_ok-resolve-2.field-0; assume = c.item-item.result.assume } ∷ [])) src
    ∙ ap (λ ty. c.loop-item.asks ++ (record { src = (ask c.item-item.result).src; dst = ty; assume = c.item-item.result.assume } ∷ [])) dst)) c.loop-item.invariant
