use Rattle.std.proofs.Common.{◌≡◌, ℕ, sym, ◌∙◌, ap, Option}
use Rattle.tm_refute.specs.Depths.{depth_in, lesser}
use Rattle.tm_refute.proofs.making.DepthLemmas.{put-after}
use Rattle.tm_refute.proofs.depths.Depths.add.Goals as goal
use Rattle.tm_refute.proofs.depths.Depths.add.Goals.{in-None, in-Some}

pub returns : goal.returns
returns c =
    let entry = c.args.entry.now in
    let old : ℕ → ℕ → Option ℕ = depth_in c.args.self.now in
    let new : ℕ → ℕ → Option ℕ = depth_in (record { least = c.insert.new.self }) in
    let found : c.depth.result ≡ old entry.source.0 entry.target.0 = c.depth.ensures in
    let is : c.match-depth.depth ≡ lesser (old entry.source.0 entry.target.0) entry.depth = elim c.match-depth.branch [
      | in-None w ↦ w.depth-is ∙ ap (λ (o : Option ℕ). lesser o entry.depth) (sym w.in-None.is ∙ found)
      | in-Some w ↦ w.depth-is ∙ w.min-depth.ensures ∙ ap (λ (o : Option ℕ). lesser o entry.depth) (sym w.in-Some.is ∙ found)
    ] in
    put-after old new entry c.match-depth.depth is (λ r t. c.in_ok-insert.ensures.updates.0 (r, t))
