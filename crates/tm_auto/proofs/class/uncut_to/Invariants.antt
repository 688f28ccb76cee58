use Rattle.std.proofs.Common.{◌<◌, ◌≤◌, take}
use Rattle.tm_auto.specs.Classes.{AreUncut}
use Rattle.tm_auto.proofs.class.uncut_to.Given as goal

abbrev pub invariant-loop-label : goal.invariant-loop-label
invariant-loop-label l = record { past : l.at < l.least; most : l.least ≤ l.end; uncut : AreUncut (take l.label-index l.labels) l.at l.least }
