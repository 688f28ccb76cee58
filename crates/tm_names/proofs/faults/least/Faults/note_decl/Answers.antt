use Rattle.std.proofs.Common.{[], ◌∙◌}
use Rattle.std.specs.List.{flat_map}
use Rattle.tm_names.proofs.fault_laws.LeastLemmas.{chain}
use Rattle.tm_names.specs.declared.value.Value.TheVariants.{AtLeastZero}
use Rattle.tm_names.specs.Faults.{decl_lists}
use Rattle.tm_names.specs.Found.{repeats, reserved, repr_faults, scope_faults, value_faults}
use Rattle.tm_names.specs.Representations.{tag_of}
use Rattle.tm_names.specs.Scopes.{decl_scope}
use Rattle.tm_names.specs.Source.{names_in}
use Rattle.tm_names.proofs.faults.least.Faults.note_decl.Goals as goal

pub returns-clause-first : goal.returns-clause-first
returns-clause-first c =
    let file = c.args.self.now.file in
    let name = names_in file.source in
    let d = c.args.decl.now in
    let params = c.as_slice-params.ensures in
    let listed = c.note_lists.ensures.file in
    let reserved_ones = rw (params, listed) at c.note_reserved.ensures.first in
    let behind = c.note_reserved.ensures.file ∙ listed in
    let mentioned = rw (c.as_slice-2.ensures, c.in_ok-mentions.ensures, params, c.as_slice.ensures, behind) at c.note_mentions.ensures.first in
    let last = c.note_mentions.ensures.file ∙ behind in
    let values = rw (c.tag.ensures, c.as_slice-3.ensures, c.in_ok-items.ensures, c.as_slice-4.ensures, last) at c.in_ok-note_values.ensures.first in
    chain c.args.self.now.first c.note_lists.new.self.first c.note_reserved.new.self.first c.note_mentions.new.self.first c.note_values.new.self.first c.note_repr.new.self.first
    (flat_map (repeats name) (decl_lists d)) (reserved name d.params) (scope_faults name file.definitions.now.decls.now (decl_scope d))
    (value_faults file.source.profile (tag_of d) [] (AtLeastZero 0) d.variants) (repr_faults d)
    c.in_ok-note_lists.ensures.first reserved_ones mentioned values c.note_repr.ensures.first
