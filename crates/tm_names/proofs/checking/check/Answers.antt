use Rattle.std.proofs.Common.{◌∙◌, sym, ap, inl, subst, arith, All, ◌<◌, length}
use Rattle.tm_names.proofs.form_laws.ApartLemmas.{spelled_apart}
use Rattle.tm_names.proofs.fault_laws.FirstLemmas.{one_first}
use Rattle.tm_names.proofs.form_laws.InFormLemmas.{resolved_in_form, spelled_placed, spelled_within}
use Rattle.tm_names.specs.declared.fault.NameErr.TheVariants.{Fault}
use Rattle.tm_names.proofs.form_laws.NarrowLemmas.{decls_narrow}
use Rattle.tm_names.proofs.form_laws.PlacedLemmas.{fault_placed}
use Rattle.tm_names.specs.ApartNames.{HasApartNames}
use Rattle.tm_names.specs.FileFaults.{IsFirst}
use Rattle.tm_names.specs.InForm.{IsInForm}
use Rattle.tm_names.specs.Narrow.{IsNarrow}
use Rattle.tm_names.specs.Written.{name_at}
use Rattle.tm_names.proofs.checking.check.Goals as goal

pub returns-in-Ok-Some-clause-fault : goal.returns-in-Ok-Some-clause-fault
returns-in-Ok-Some-clause-fault c =
    subst (IsFirst c.args.profile (name_at c.args.text.now c.args.tokens.now) c.args.parsed.now) c.in-Ok-Some.field-0-is c.in-Ok-Some.ensures

pub returns-in-Ok-Some-clause-place : goal.returns-in-Ok-Some-clause-place
returns-in-Ok-Some-clause-place c =
    let first = subst (IsFirst c.args.profile (name_at c.args.text.now c.args.tokens.now) c.args.parsed.now) c.in-Ok-Some.field-0-is c.in-Ok-Some.ensures in
    fault_placed (λ place. place < length c.args.tokens.now) c.args.profile (name_at c.args.text.now c.args.tokens.now) c.args.parsed.now
    (spelled_placed c.args.text.now c.args.tokens.now c.args.parsed.now c.requires.spelled) c.in-Ok-Some.fault.why c.in-Ok-Some.fault.place first.fault

pub returns-in-Ok-Some-clause-faults : goal.returns-in-Ok-Some-clause-faults
returns-in-Ok-Some-clause-faults c = λ why place h.
    let first = subst (IsFirst c.args.profile (name_at c.args.text.now c.args.tokens.now) c.args.parsed.now) c.in-Ok-Some.field-0-is c.in-Ok-Some.ensures in
    let same = one_first c.args.profile (name_at c.args.text.now c.args.tokens.now) c.args.parsed.now why place h c.in-Ok-Some.fault first in
    inl (ap (λ kind. Fault kind c.in-Ok-Some.fault.place) same.0 ∙ ap (λ there. Fault why there) same.1)

pub indexed-requires : goal.indexed-requires
indexed-requires c =
    let within = spelled_within c.args.text.now c.args.tokens.now c.args.parsed.now c.requires.spelled in
    let few = within.items.definitions in
    record { few = omega (arith, few, ap length c.as_slice.ensures) }

pub resolved-requires-clause-few : goal.resolved-requires-clause-few
resolved-requires-clause-few c =
    let within = spelled_within c.args.text.now c.args.tokens.now c.args.parsed.now c.requires.spelled in
    within.items.lifetimes

pub resolved-requires-clause-narrow : goal.resolved-requires-clause-narrow
resolved-requires-clause-narrow c =
    let sound = subst (IsFirst c.args.profile (name_at c.args.text.now c.args.tokens.now) c.args.parsed.now) c.in-Ok-None.field-0-is c.in-Ok-None.ensures in
    let within = spelled_within c.args.text.now c.args.tokens.now c.args.parsed.now c.requires.spelled in
    subst (λ decls. All IsNarrow decls) (sym (c.in-Ok.ensures.decls ∙ c.as_slice.ensures)) (decls_narrow c.args.profile (name_at c.args.text.now c.args.tokens.now) c.args.parsed.now sound within)

pub returns-in-Ok-resolved-clause-sound : goal.returns-in-Ok-resolved-clause-sound
returns-in-Ok-resolved-clause-sound c =
    subst (IsFirst c.args.profile (name_at c.args.text.now c.args.tokens.now) c.args.parsed.now) c.in-Ok-None.field-0-is c.in-Ok-None.ensures

pub returns-in-Ok-resolved-clause-faults : goal.returns-in-Ok-resolved-clause-faults
returns-in-Ok-resolved-clause-faults c = λ why place h.
    let sound = subst (IsFirst c.args.profile (name_at c.args.text.now c.args.tokens.now) c.args.parsed.now) c.in-Ok-None.field-0-is c.in-Ok-None.ensures in
    sound.none why place h.fault

pub returns-in-Ok-resolved-clause-in_form : goal.returns-in-Ok-resolved-clause-in_form
returns-in-Ok-resolved-clause-in_form c =
    let sound = subst (IsFirst c.args.profile (name_at c.args.text.now c.args.tokens.now) c.args.parsed.now) c.in-Ok-None.field-0-is c.in-Ok-None.ensures in
    let within = spelled_within c.args.text.now c.args.tokens.now c.args.parsed.now c.requires.spelled in
    subst IsInForm (sym c.in-Ok-resolved.ensures) (resolved_in_form c.args.profile (name_at c.args.text.now c.args.tokens.now) c.args.parsed.now sound within)

pub returns-in-Ok-resolved-clause-apart : goal.returns-in-Ok-resolved-clause-apart
returns-in-Ok-resolved-clause-apart c =
    let sound = subst (IsFirst c.args.profile (name_at c.args.text.now c.args.tokens.now) c.args.parsed.now) c.in-Ok-None.field-0-is c.in-Ok-None.ensures in
    subst HasApartNames (sym c.in-Ok-resolved.ensures)
    (spelled_apart c.args.profile c.args.text.now c.args.tokens.now c.args.parsed.now c.utf8.text c.requires.tokenized c.requires.spelled sound)
