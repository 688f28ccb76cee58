use Rattle.std.proofs.Common.{subst, sym}
use Rattle.tm_layout.specs.Made.{AreRowsOf, IsKnown}
use Rattle.tm_layout.proofs.TableLemmas.{known-all, over-whole}
use Rattle.tm_layout.proofs.layouts.Layouts.facts.Goals as goal

pub returns : goal.returns
returns c = λ tables made over.
    let same = sym c.as_slice.ensures.value in
    c.facts_of.ensures tables made.profile
    (subst (AreRowsOf tables) same made.rows)
    (subst (λ rows. IsKnown tables rows c.args.g.now) same (known-all tables c.args.self.now.rows.items made.all c.args.g.now (over-whole tables c.args.g.now over)))
