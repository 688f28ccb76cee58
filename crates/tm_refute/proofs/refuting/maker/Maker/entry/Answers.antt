use Rattle.std.proofs.Common.{◌≡◌, Some, rules, slice_get}
use Rattle.tm_base.specs.Worlds.{tables_of}
use Rattle.tm_refs.specs.Local.{AreJudged}
use Rattle.tm_refs.proofs.PointeeLemmas.{OnRows-gives, pointee-over}
use Rattle.tm_refute.proofs.making.EntriesLemmas.{entry-asks}
use Rattle.tm_base.proofs.HeldLemmas.{judged-laid_out}
use Rattle.tm_refute.proofs.refuting.maker.Maker.entry.Goals as goal

pub ask_proof-requires-clause-source : goal.ask_proof-requires-clause-source
ask_proof-requires-clause-source c =
    let world = c.args.self.now.world.now in
    let s = c.in-Some-Some.s.now in
    let t = c.in-Some-Some.t.now in
    let at_s : slice_get world.refs c.args.pair.now.source.0 ≡ Some s = search rules in
    let at_t : slice_get world.refs c.args.pair.now.target.0 ≡ Some t = search rules in
    let both = OnRows-gives (slice_get world.refs c.args.pair.now.source.0) (slice_get world.refs c.args.pair.now.target.0) s t (AreJudged (tables_of world)) at_s at_t c.requires.judged in
    let over = pointee-over world c.args.pair.now.source s at_s in
    record { over = over; sound = judged-laid_out (tables_of world) s.pointee over both.source }

pub ask_proof-requires-clause-target : goal.ask_proof-requires-clause-target
ask_proof-requires-clause-target c =
    let world = c.args.self.now.world.now in
    let s = c.in-Some-Some.s.now in
    let t = c.in-Some-Some.t.now in
    let at_s : slice_get world.refs c.args.pair.now.source.0 ≡ Some s = search rules in
    let at_t : slice_get world.refs c.args.pair.now.target.0 ≡ Some t = search rules in
    let both = OnRows-gives (slice_get world.refs c.args.pair.now.source.0) (slice_get world.refs c.args.pair.now.target.0) s t (AreJudged (tables_of world)) at_s at_t c.requires.judged in
    let over = pointee-over world c.args.pair.now.target t at_t in
    record { over = over; sound = judged-laid_out (tables_of world) t.pointee over both.target }

pub returns-clause-asks : goal.returns-clause-asks
returns-clause-asks c = λ ask same.
    let world = c.args.self.now.world.now in
    let s = c.in-Some-Some.s.now in
    let t = c.in-Some-Some.t.now in
    let at_s : slice_get world.refs c.args.pair.now.source.0 ≡ Some s = search rules in
    let at_t : slice_get world.refs c.args.pair.now.target.0 ≡ Some t = search rules in
    entry-asks (tables_of world) ask c.args.self.now.assume same c.args.asked.now c.ask_proof.new.asked c.args.pair.now.source c.args.pair.now.target c.args.pair.now.depth c.in_ok-proof.proof s t at_s at_t c.in_ok-ask_proof.ensures
