use Rattle.std.proofs.Common.{◌≡◌, ◌∙◌, ℕ, false, List, None, Option, Some, ap, length, subst, sym}
use Rattle.std.proofs.lemmas.Bool.{ltb-false}
use Rattle.tm_base.specs.Worlds.{tables_of}
use Rattle.tm_refute.specs.declared.refutation.Refutation.{Refutation}
use Rattle.tm_run.specs.Asking.{passes_mode}
use Rattle.tm_run.specs.Matches.{IsBytesReport}
use Rattle.tm_run.specs.Reported.{IsReported}
use Rattle.tm_run.specs.declared.words.options.Mode.{Mode}
use Rattle.tm_run.specs.declared.words.options.Mode.TheVariants.{Bytes, Matrix, Needs, Verify}
use Rattle.tm_run.proofs.reported.in_mode.Goals as goal

pub returns-in_ok-answered-in-None-clause-report : goal.returns-in_ok-answered-in-None-clause-report
returns-in_ok-answered-in-None-clause-report g c =
    subst (λ (mode : Option Mode). IsReported mode c.args.options.now c.args.file.now c.args.world.now c.in_ok-answered-in-None.field-0.0 c.in_ok-answered-in-None.field-0.1)
    (sym c.in-None.is) c.in_ok-answered-in-None.ensures

pub returns-in_ok-needed-in-Some-Needs-clause-report : goal.returns-in_ok-needed-in-Some-Needs-clause-report
returns-in_ok-needed-in-Some-Needs-clause-report g c =
    let named : c.in-Some-Needs.field-0 ≡ Needs = rw c.in-Some-Needs.is at c.in-Some-Needs.field-0-is in
    let is : c.args.options.now.mode ≡ Some Needs = c.in-Some-Needs.is ∙ ap Some named in
    subst (λ (mode : Option Mode). IsReported mode c.args.options.now c.args.file.now c.args.world.now c.in_ok-needed-in-Some-Needs.field-0.0 c.in_ok-needed-in-Some-Needs.field-0.1)
    (sym is) c.in_ok-needed-in-Some-Needs.ensures

pub matrixed-requires-clause-few : goal.matrixed-requires-clause-few
matrixed-requires-clause-few g c =
    let named : c.in-Some-Matrix.field-0 ≡ Matrix = rw c.in-Some-Matrix.is at c.in-Some-Matrix.field-0-is in
    let is : c.args.options.now.mode ≡ Some Matrix = c.in-Some-Matrix.is ∙ ap Some named in
    let questions = length c.args.world.now.questions in
    ltb-false 64 questions (subst (λ (mode : Option Mode). passes_mode mode questions ≡ false) is c.requires.few)

pub returns-in_ok-matrixed-in-Some-Matrix-clause-report : goal.returns-in_ok-matrixed-in-Some-Matrix-clause-report
returns-in_ok-matrixed-in-Some-Matrix-clause-report g c =
    let named : c.in-Some-Matrix.field-0 ≡ Matrix = rw c.in-Some-Matrix.is at c.in-Some-Matrix.field-0-is in
    let is : c.args.options.now.mode ≡ Some Matrix = c.in-Some-Matrix.is ∙ ap Some named in
    subst (λ (mode : Option Mode). IsReported mode c.args.options.now c.args.file.now c.args.world.now c.in_ok-matrixed-in-Some-Matrix.field-0.0 c.in_ok-matrixed-in-Some-Matrix.field-0.1)
    (sym is) c.in_ok-matrixed-in-Some-Matrix.ensures

pub returns-in_ok-matched-in-Some-Bytes-clause-report : goal.returns-in_ok-matched-in-Some-Bytes-clause-report
returns-in_ok-matched-in-Some-Bytes-clause-report g c =
    let bytes = c.in-Some-Bytes.bytes in
    let world = c.args.world.now in
    let outcome = c.in_ok-matched-in-Some-Bytes.field-0 in
    let named : c.in-Some-Bytes.field-0 ≡ Bytes bytes = rw c.in-Some-Bytes.is at c.in-Some-Bytes.field-0-is in
    let is : c.args.options.now.mode ≡ Some (Bytes bytes) = c.in-Some-Bytes.is ∙ ap Some named in
    subst (λ (mode : Option Mode). IsReported mode c.args.options.now c.args.file.now world outcome.0 outcome.1) (sym is)
    (subst (λ (bs : List ℕ). IsBytesReport bs world outcome.0 outcome.1) c.as_slice.ensures.same c.in_ok-matched-in-Some-Bytes.ensures)

pub returns-in_ok-verified-in-Some-Verify-clause-report : goal.returns-in_ok-verified-in-Some-Verify-clause-report
returns-in_ok-verified-in-Some-Verify-clause-report g c =
    let number = c.in-Some-Verify.number in
    let x = c.in-Some-Verify.x in
    let outcome = c.in_ok-verified-in-Some-Verify.field-0 in
    let named : c.in-Some-Verify.field-0 ≡ Verify number x = rw c.in-Some-Verify.is at c.in-Some-Verify.field-0-is in
    let is : c.args.options.now.mode ≡ Some (Verify number x) = c.in-Some-Verify.is ∙ ap Some named in
    subst (λ (mode : Option Mode). IsReported mode c.args.options.now c.args.file.now c.args.world.now outcome.0 outcome.1) (sym is) c.in_ok-verified-in-Some-Verify.ensures
