use Rattle.std.proofs.Common.{◌≡◌, ◌==◌, drop}
use Rattle.std.specs.List.{list_any}
use Rattle.tm_names.proofs.forms.is_one_of.Given as goal

abbrev pub invariant-loop-other : goal.invariant-loop-other
invariant-loop-other l = list_any (λ k. l.number == k) (drop l.other-index l.numbers) ≡ list_any (λ k. l.fn.number == k) l.fn.numbers
