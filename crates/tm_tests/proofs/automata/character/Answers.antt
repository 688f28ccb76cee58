use Rattle.std.proofs.Common.{true, arith}
use Rattle.tm_tests.proofs.automata.character.Goals as goal

pub build-requires-clause-public : goal.build-requires-clause-public
build-requires-clause-public c = c.in_ok-tree.ensures.public

pub build-requires-clause-leaves : goal.build-requires-clause-leaves
build-requires-clause-leaves c =
    let few = c.in_ok-tree.ensures.leaves 8 in
    omega arith

-- each word of the tree is four bytes
pub build-requires-clause-sized : goal.build-requires-clause-sized
build-requires-clause-sized c A w word = ((c.in_ok-tree.ensures.words 8 A true w).0 word).0.0
