use Rattle.std.proofs.Common.{arith}
use Rattle.tm_base.specs.Tables.{expanded_in}
use Rattle.tm_base.specs.Transmutes.{holds}
use Rattle.tm_tree.proofs.FitLemmas.{expanded-fit, expanded-low}
use Rattle.tm_tree.proofs.LeafLemmas.{tree-leaves}
use Rattle.tm_tree.proofs.PartLemmas.{tree-words}
use Rattle.tm_tree.proofs.SingleLemmas.{tree-single}
use Rattle.tm_tree.proofs.laws.type_trees_are_exact.Goals as goal

pub returns-clause-words : goal.returns-clause-words
returns-clause-words c = λ tables g values sound A keep w. tree-words tables.profile (holds A) keep (expanded_in tables g) (expanded-fit tables.profile tables.defs tables.named values g sound) w

pub returns-clause-leaves : goal.returns-clause-leaves
returns-clause-leaves c = λ tables g values sound.
    let low = expanded-low tables.profile tables.defs tables.named g in
    tree-leaves tables.profile 80 (expanded_in tables g) (omega arith) (expanded-fit tables.profile tables.defs tables.named values g sound)

pub returns-clause-single : goal.returns-clause-single
returns-clause-single c = tree-single
