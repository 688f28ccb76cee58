use Rattle.std.proofs.Common.{◌≡◌, ◌++◌, drop, map}
use Rattle.tm_names.specs.declared.faults.mentions.Mention.TheVariants.{Life}
use Rattle.tm_names.proofs.faults.mentioning.add_lives.Given as goal

abbrev pub invariant-loop-life : goal.invariant-loop-life
invariant-loop-life l = l.found ++ map Life (drop l.life-index l.lifetimes) ≡ l.initial.found ++ map Life l.lifetimes
