use Rattle.std.proofs.Common.{rules, arith, ◌≢◌, ◌<◌, length, nat_lt, get_or}
use Rattle.std.proofs.lemmas.List.Sorted.{IsPartitionPoint-from_clause}
use Rattle.tm_auto.proofs.SetLemmas.{increasing_rises, with_state-there, with_state-insert, rises_partitioned}
use Rattle.tm_auto.proofs.set.place_of.Goals as goal
use Rattle.tm_auto.proofs.set.place_of.Goals.{else-place-states-via-then-place-states+else-states-place, else-place-states-via-else-place-states}

pub returns-then-states-place-clause-there : goal.returns-then-states-place-clause-there
returns-then-states-place-clause-there c =
    with_state-there c.args.state c.args.states.now (increasing_rises c.args.states.now c.requires) c.partition_point-place.result c.if-place-states.true c.if-states-place.true

pub returns-else-place-states-clause-place : goal.returns-else-place-states-clause-place
returns-else-place-states-clause-place c =
    let parted = rises_partitioned c.args.state c.args.states.now (increasing_rises c.args.states.now c.requires) in
    let point = IsPartitionPoint-from_clause (λ y. nat_lt y c.args.state) _ _ c.partition_point-place.ensures.partitioned parted (λ a r q k. search rules) in
    let other : c.partition_point-place.result < length c.args.states.now → get_or c.args.states.now c.partition_point-place.result 0 ≢ c.args.state =
    elim c.else-place-states.branch [
      | else-place-states-via-then-place-states+else-states-place w ↦ λ l e. w.if-states-place.false e
      | else-place-states-via-else-place-states w ↦ λ l e. omega arith
    ] in
    with_state-insert c.args.state c.args.states.now c.partition_point-place.result c.partition_point-place.ensures.bound point.0 point.1 other
