use Rattle.std.proofs.Common.{◌≡◌, ℕ, Bool, ◌∙◌, refl, subst, map}
use Rattle.std.specs.List.{flat_map}
use Rattle.std.specs.Prelude.{None}
use Rattle.tm_names.proofs.fault_laws.FirstLemmas.{first_found}
use Rattle.tm_names.proofs.fault_laws.LeastLemmas.{chain, step}
use Rattle.tm_names.specs.Closures.{WithInfinite, infinite_faults}
use Rattle.tm_names.specs.FileFaults.{file_faults}
use Rattle.tm_names.specs.Found.{decl_faults, repeats, reserved, scope_faults}
use Rattle.tm_names.specs.Least.{earliest}
use Rattle.tm_names.specs.Scopes.{outer_scope}
use Rattle.tm_names.specs.Source.{names_in}
use Rattle.tm_names.proofs.faults.first_fault.Goals as goal

pub returns : goal.returns
returns c =
    let name = names_in c.args.file.now.source in
    let file = c.args.parsed.now in
    let profile = c.args.file.now.source.profile in
    let decls = c.requires in
    let lifetimes = c.as_slice-lifetimes.ensures in
    let once = c.note_repeats.ensures.file in
    let twice = c.note_repeats-2.ensures.file ∙ once in
    let thrice = c.note_reserved.ensures.file ∙ twice in
    let defined_in = c.note_decls.ensures.file ∙ thrice in
    let named = rw (c.as_slice.ensures, c.in_ok-names.ensures, decls) at c.note_repeats.ensures.first in
    let declared = rw (lifetimes, once) at c.note_repeats-2.ensures.first in
    let reserved_ones = rw (lifetimes, twice) at c.note_reserved.ensures.first in
    let defined = rw (thrice, decls) at c.in_ok-note_decls.ensures.first in
    let last = c.note_outer.new.self.first in
    let whole : (infinite : ℕ → Bool) → earliest last (infinite_faults infinite file.decls) ≡ earliest None (file_faults profile name file infinite) = λ infinite.
    step None c.note_repeats.new.self.first (earliest last (infinite_faults infinite file.decls)) (repeats name (map (λ d. d.name) file.decls))
    _ named
    (chain c.note_repeats.new.self.first c.note_repeats-2.new.self.first c.note_reserved.new.self.first c.note_decls.new.self.first last (earliest last (infinite_faults infinite file.decls))
    (repeats name file.lifetimes) (reserved name file.lifetimes) (flat_map (decl_faults profile name file.decls) file.decls)
    (scope_faults name file.decls (outer_scope file)) (infinite_faults infinite file.decls)
    declared reserved_ones defined (rw (defined_in, decls) at c.in_ok-note_outer.ensures.first) refl) in
    let found = c.note_infinite.new.self.first in
    let told : WithInfinite name file.decls last found = subst (λ those. WithInfinite name those last found) decls (rw (c.note_outer.ensures.file ∙ defined_in) at c.in_ok-note_infinite.ensures.first) in
    first_found profile name file told.infinite told.told found (told.earliest_is ∙ whole told.infinite)
