use Rattle.std.proofs.Common.{◌≡◌, ◌∙◌, refl, sym, length, arith}
use Rattle.tm_auto.proofs.FirstLemmas.{indexed_more}
use Rattle.tm_auto.proofs.edges.firsts_of.Goals as goal

pub loop-place-preserved : goal.loop-place-preserved
loop-place-preserved c =
    let before : c.loop-place.firsts.len ≡ length c.loop-place.firsts.items = c.loop-place.firsts.ok.0 in
    let after : c.resize.new.self.len ≡ length c.resize.new.self.items = c.resize.new.self.ok.0 in
    indexed_more c.args.edges.now c.loop-place.place _ c.requires c.loop-place.firsts.items c.resize.new.self.items c.loop-place-test.true (sym after ∙ c.in_ok-resize.ensures.len)
    (λ k d l m. c.in_ok-resize.ensures.by_index.0 k d l (omega arith)) (λ k d l m. c.in_ok-resize.ensures.by_index.1 k d refl (omega arith) m) c.loop-place.invariant
