use Rattle.tm_names.proofs.holding_laws.NewsLemmas.{all_unset}
use Rattle.tm_names.proofs.holding_laws.OwnLemmas.{IsPartOfOwn}
use Rattle.tm_names.specs.Source.{names_in}
use Rattle.tm_names.proofs.file.File.own_rows.Given as goal

abbrev pub invariant-turns : goal.invariant-turns
invariant-turns l = IsPartOfOwn (names_in l.self.source) l.self.definitions.now.decls.now l.own

-- each turn but the last sets a flag
abbrev pub decreases-turns : goal.decreases-turns
decreases-turns l = all_unset l.own
