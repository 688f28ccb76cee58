use Rattle.std.proofs.Common.{subst, sym}
use Rattle.tm_base.specs.Worlds.{tables_of}
use Rattle.tm_niche.specs.Forms.{joined}
use Rattle.tm_niche.proofs.FormLemmas.{of-form}
use Rattle.tm_tree.specs.Exact.{IsTreeOf}
use Rattle.tm_tree.specs.Parts.{tree_for}
use Rattle.tm_tree.proofs.TypeLemmas.{tree-is}
use Rattle.tm_tree.proofs.types.tree_of.Goals as goal

pub returns : goal.returns
unfolding tree_for
returns c =
    let world = c.args.world.now in
    let g = c.args.g.now in
    record {
      tree = of-form c.in_turn.result (joined c.in_ok-parts.field-0) (IsTreeOf (tables_of world) g) c.in_turn.ensures
          (subst (λ ts. IsTreeOf (tables_of world) g (joined ts)) (sym c.in_ok-parts.ensures) (tree-is world g c.requires.judged));
    }
