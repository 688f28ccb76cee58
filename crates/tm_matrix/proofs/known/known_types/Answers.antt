use Rattle.std.proofs.Common.{sym, ◌∙◌, ap, subst, take, ◌++◌, ◌∷◌, [], All}
use Rattle.std.proofs.lemmas.List.{take_more}
use Rattle.tm_base.specs.Worlds.{tables_of}
use Rattle.tm_matrix.specs.Known.{IsKnown, grounds}
use Rattle.tm_matrix.proofs.ZipLemmas.{All-more, map-more}
use Rattle.tm_matrix.proofs.known.known_types.Goals as goal

pub loop-g-preserved : goal.loop-g-preserved
loop-g-preserved c =
    let tables = tables_of c.args.world.now in
    let types = c.args.types.now in
    let i = c.loop-g.g-index in
    let knowns = c.loop-g.knowns in
    let known = c.in_ok-known_of.field-0 in
    record {
      are = subst (λ ks. All (IsKnown tables) ks) (sym c.in_ok-add.ensures.added) (All-more (IsKnown tables) knowns known c.loop-g.invariant.are c.in_ok-known_of.ensures.is);
      same =
          ap (λ ks. grounds ks) c.in_ok-add.ensures.added
          ∙ (map-more (λ k. k.ground) knowns known
          ∙ (ap (λ gs. gs ++ known.ground ∷ []) c.loop-g.invariant.same
          ∙ (ap (λ g. take i types ++ g ∷ []) (c.in_ok-known_of.ensures.same ∙ (c.in_ok-copy.ensures ∙ c.g-item.is))
          ∙ sym (take_more types i c.g-item.result c.loop-g-test.true))));
    }
