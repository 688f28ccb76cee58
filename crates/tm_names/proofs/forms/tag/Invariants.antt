use Rattle.std.proofs.Common.{◌≡◌, drop}
use Rattle.tm_names.specs.Representations.{tag_in}
use Rattle.tm_names.proofs.forms.tag.Given as goal

abbrev pub invariant-loop-item : goal.invariant-loop-item
invariant-loop-item l =
    tag_in (drop l.item-index l.items) ≡ tag_in l.fn.items
