use Rattle.std.proofs.Common.{ap, ◌∙◌}
use Rattle.std.specs.HashMap.{get_by}
use Rattle.std.specs.Str.{bytes_eq}
use Rattle.tm_names.proofs.KnownLemmas.{each_found}
use Rattle.tm_names.specs.Source.{names_in}
use Rattle.tm_names.specs.Written.{is_same}
use Rattle.tm_names.proofs.file.File.first_named.Goals as goal

pub returns-clause-first : goal.returns-clause-first
returns-clause-first c =
    c.copied.ensures ∙ (c.get.ensures.value
    ∙ (ap (λ bytes. get_by (λ key. bytes_eq bytes key.now) c.args.self.now.definitions.now.firsts) c.name.ensures
    ∙ c.args.self.now.indexed.found (names_in c.args.self.now.source c.args.place)))

pub returns-clause-within : goal.returns-clause-within
returns-clause-within c =
    each_found (λ d. is_same (names_in c.args.self.now.source) d.name c.args.place) c.args.self.now.definitions.now.decls.now c.copied.result (returns-clause-first c)
