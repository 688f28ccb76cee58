use Rattle.tm_base.proofs.ValidTestLemmas.{valid_test-exact}
use Rattle.tm_base.proofs.laws.the_test_is_exact.Goals as goal

pub returns : goal.returns
returns c = valid_test-exact
