use Rattle.tm_base.specs.Rules.{target, Taken}
use Rattle.tm_base.specs.Worlds.{tables_of}
use Rattle.tm_laws.proofs.known.CellRuleLemmas.{taken-known, value-closed}
use Rattle.tm_laws.proofs.refusals.Worlds.{compatible-of_sources}
use Rattle.tm_laws.proofs.refusals.RefusedLemmas.{refused-where_unfit}
use Rattle.tm_laws.proofs.words.values_are_refused_where_unfit.Goals as goal

pub returns : goal.returns
returns c =
    let world = c.args.world.now in
    λ ask src_over dst_over has_word w value.
    refused-where_unfit (Taken (tables_of world) ask) ask.assume.safety (target (tables_of world) ask) (taken-known world ask src_over dst_over)
    (compatible-of_sources world ask.assume) w (value-closed world ask src_over dst_over w value) has_word
