use Rattle.std.specs.Prelude.{◌<◌}
use Rattle.tm_parse.proofs.bounds.FileBounds.{has_few_items}
use Rattle.tm_parse.proofs.bounds.PlaceBounds.{places_kept}
use Rattle.tm_parse.proofs.bounds.WithinLimits.{variants_kept, parts_kept, types_kept, integers_kept, lengths_kept}
use Rattle.tm_parse.proofs.laws.files_keep_limits.Goals as goal

pub returns-clause-items : goal.returns-clause-items
returns-clause-items c = has_few_items

pub returns-clause-variants : goal.returns-clause-variants
returns-clause-variants c = variants_kept

pub returns-clause-parts : goal.returns-clause-parts
returns-clause-parts c = parts_kept

pub returns-clause-types : goal.returns-clause-types
returns-clause-types c = types_kept

pub returns-clause-arrays : goal.returns-clause-arrays
returns-clause-arrays c = lengths_kept

pub returns-clause-integers : goal.returns-clause-integers
returns-clause-integers c = integers_kept

pub returns-clause-places : goal.returns-clause-places
returns-clause-places c v ts n f h = places_kept (λ place. place < n) v ts f h
