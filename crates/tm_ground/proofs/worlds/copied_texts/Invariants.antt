use Rattle.std.proofs.Common.{◌≡◌, take}
use Rattle.tm_ground.proofs.worlds.copied_texts.Given as goal

-- the copies made so far are of the first ones
abbrev pub invariant-loop-text : goal.invariant-loop-text
invariant-loop-text l = l.copies ≡ take l.text-index l.texts
