use Rattle.tm_auto.proofs.OnlyLemmas.{class_of_leaf}
use Rattle.tm_auto.proofs.only.only_class.Goals as goal

pub returns-in-Leaf : goal.returns-in-Leaf
returns-in-Leaf c = rw c.in-Leaf.is (class_of_leaf c.in-Leaf.reference c.in-Leaf.place c.args.target)
