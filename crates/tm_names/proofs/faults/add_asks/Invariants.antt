use Rattle.std.proofs.Common.{◌≡◌, ◌++◌, drop}
use Rattle.std.specs.List.{flat_map}
use Rattle.tm_names.specs.Scopes.{ask_mentions}
use Rattle.tm_names.proofs.faults.add_asks.Given as goal

abbrev pub invariant-loop-ask : goal.invariant-loop-ask
invariant-loop-ask l =
    l.found ++ flat_map ask_mentions (drop l.ask-index l.asks) ≡ l.initial.found ++ flat_map ask_mentions l.fn.asks
