use Rattle.std.proofs.Common.{length}
use Rattle.std.proofs.lemmas.List.{length_push}
use Rattle.std.proofs.lemmas.Slice.Zip.{zip_turn, zip_end}
use Rattle.tm_witness.proofs.WordLemmas.{less-first, less-second, less-behind, less-end}
use Rattle.tm_witness.proofs.words.less.Goals as goal

pub returns-then-cell_less : goal.returns-then-cell_less
returns-then-cell_less c =
    let at = zip_turn c.args.a.now c.args.b.now c.loop-first.yielded c.into_iter-first-iterator.result _ c.next.new.self _ (cc) (cc) c.loop-first.yielded_by (c.in-Some.first, c.in-Some.second) c.in-Some.is c.next.ensures.steps in
    let first = less-first c.args.a.now c.args.b.now (length c.loop-first.yielded) c.in-Some.first.now c.in-Some.second.now at.0 at.1 (at.2 _) (at.3 _) (cc) in
    record { order = cc }

pub returns-then-cell_less-2 : goal.returns-then-cell_less-2
returns-then-cell_less-2 c =
    let at = zip_turn c.args.a.now c.args.b.now c.loop-first.yielded c.into_iter-first-iterator.result _ c.next.new.self _ (cc) (cc) c.loop-first.yielded_by (c.in-Some.first, c.in-Some.second) c.in-Some.is c.next.ensures.steps in
    let second = less-second c.args.a.now c.args.b.now (length c.loop-first.yielded) c.in-Some.first.now c.in-Some.second.now at.0 at.1 (at.2 _) (at.3 _) (cc) (cc) in
    record { order = cc }

pub loop-first-preserved : goal.loop-first-preserved
loop-first-preserved c =
    let at = zip_turn c.args.a.now c.args.b.now c.loop-first.yielded c.into_iter-first-iterator.result _ c.next.new.self _ (cc) (cc) c.loop-first.yielded_by (c.in-Some.first, c.in-Some.second) c.in-Some.is c.next.ensures.steps in
    let behind = less-behind c.args.a.now c.args.b.now (length c.loop-first.yielded) c.in-Some.first.now c.in-Some.second.now at.0 at.1 (at.2 _) (at.3 _) (cc) (cc) in
    let more = length_push c.loop-first.yielded (c.in-Some.first, c.in-Some.second) in
    ((tt, tt), tt, cc)

pub returns : goal.returns
returns c =
    let at = zip_end c.args.a.now c.args.b.now c.loop-first.yielded c.into_iter-first-iterator.result _ c.next.new.self _ (cc) (cc) c.loop-first.yielded_by c.in-None.is c.next.ensures.steps in
    let end = less-end c.args.a.now c.args.b.now (length c.loop-first.yielded) at in
    record { order = cc }
