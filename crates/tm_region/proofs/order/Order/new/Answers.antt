use Rattle.tm_region.proofs.TableLemmas.{bounds-known}
use Rattle.tm_region.proofs.order.Order.new.Goals as goal

pub of_bounds-requires-clause-known : goal.of_bounds-requires-clause-known
of_bounds-requires-clause-known c = rw (c.len.ensures, c.as_slice.ensures) (bounds-known _ _ _ _ c.args.world.now.regions_known)
