use Rattle.tm_base.specs.Worlds.{tables_of}
use Rattle.tm_laws.proofs.known.DecideLemmas.{test_of, test_of-to, test_of-from}
use Rattle.tm_laws.proofs.known.CompatibleLemmas.{Compatible-known, Compatible-from_last, last_depth, last_depth-most}
use Rattle.tm_laws.proofs.compatibility_is_known.Goals as goal

pub returns : goal.returns
returns c = λ assume.
    let tables = tables_of c.args.world.now in (
      λ r t. test_of (Compatible-known tables assume r t),
      last_depth tables assume,
      record {
        exact = λ r t. (test_of-to (Compatible-known tables assume r t), test_of-from (Compatible-known tables assume r t));
        shallow = last_depth-most tables assume;
        enough = Compatible-from_last tables assume;
      },
    )
