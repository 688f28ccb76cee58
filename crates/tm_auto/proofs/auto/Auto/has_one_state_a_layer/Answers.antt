use Rattle.std.proofs.Common.{◌+◌, arith}
use Rattle.std.proofs.lemmas.Bool.{leb-true, le-leb}
use Rattle.tm_auto.proofs.LayerLemmas.{states_tell}
use Rattle.tm_auto.proofs.auto.Auto.has_one_state_a_layer.Goals as goal

pub returns : goal.returns
returns c =
    let tell = states_tell _ c.self.invariant in
    let states = c.from.ensures in
    let size = c.from-2.ensures in
    rw (← c.self.view_is) (
      λ few. (let most = leb-true c.from.result (c.from-2.result + 1) few in tell.0 (omega arith)),
      λ one. (let most = tell.1 one in le-leb c.from.result (c.from-2.result + 1) (omega arith)),
    )
