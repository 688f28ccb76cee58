use Rattle.std.proofs.Common.{[], ◌∷◌}
use Rattle.tm_ground.specs.Closed.{closed}
use Rattle.tm_ground.proofs.finding.ContainsLemmas.{contains-first, contains-behind}
use Rattle.tm_ground.proofs.rows.numbered_ask.Goals as goal

pub numbered-requires : goal.numbered-requires
numbered-requires c = c.requires.each _ (contains-first (closed c.args.ask.now.src) (closed c.args.ask.now.dst ∷ []))

pub numbered-requires-2 : goal.numbered-requires-2
numbered-requires-2 c = c.requires.each _ (contains-behind (closed c.args.ask.now.src) (closed c.args.ask.now.dst ∷ []) _ (contains-first (closed c.args.ask.now.dst) []))
