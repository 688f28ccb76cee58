use Rattle.std.proofs.Common.{ap, length, subst, sym, ◌∙◌}
use Rattle.tm_parse.proofs.bounds.IntegerTerminals.{terminals_carry}
use Rattle.tm_parse.proofs.bounds.WithinLimits.{within_returned, places_returned}
use Rattle.tm_parse.proofs.bounds.PlaceBounds.{terminals_placed}
use Rattle.tm_parse.proofs.reading.Returning.{file_returned, cause_returned, spelled_returned, fault_returned, limit_returned}
use Rattle.tm_parse.proofs.bounds.Spans.{terminals_length}
use Rattle.tm_parse.proofs.parsing.parse.Goals as goal
use Rattle.tm_parse.specs.Parsing.{IsAnswered}

pub whole_file-requires : goal.whole_file-requires
whole_file-requires c =
    c.count.ensures ∙ sym (ap length (c.as_slice.ensures.value ∙ c.in-Ok.ensures) ∙ terminals_length c.args.text.now c.args.tokens.now)

pub returns-clause-file : goal.returns-clause-file
returns-clause-file c =
    file_returned _ _ (subst (λ ts. IsAnswered ts c.whole_file.result) (c.as_slice.ensures.value ∙ c.in-Ok.ensures) c.whole_file.ensures)

pub returns-clause-within : goal.returns-clause-within
returns-clause-within c =
    within_returned _ _ (terminals_carry c.args.text.now c.args.tokens.now) (subst (λ ts. IsAnswered ts c.whole_file.result) (c.as_slice.ensures.value ∙ c.in-Ok.ensures) c.whole_file.ensures)

pub returns-clause-places : goal.returns-clause-places
returns-clause-places c =
    places_returned _ _ _ (terminals_placed c.args.text.now c.args.tokens.now) (subst (λ ts. IsAnswered ts c.whole_file.result) (c.as_slice.ensures.value ∙ c.in-Ok.ensures) c.whole_file.ensures)

pub returns-clause-cause : goal.returns-clause-cause
returns-clause-cause c =
    cause_returned _ _ (subst (λ ts. IsAnswered ts c.whole_file.result) (c.as_slice.ensures.value ∙ c.in-Ok.ensures) c.whole_file.ensures)

pub returns-clause-files : goal.returns-clause-files
returns-clause-files c =
    spelled_returned _ _ (subst (λ ts. IsAnswered ts c.whole_file.result) (c.as_slice.ensures.value ∙ c.in-Ok.ensures) c.whole_file.ensures)

pub returns-clause-faults : goal.returns-clause-faults
returns-clause-faults c =
    fault_returned _ _ (subst (λ ts. IsAnswered ts c.whole_file.result) (c.as_slice.ensures.value ∙ c.in-Ok.ensures) c.whole_file.ensures)

pub returns-clause-limits : goal.returns-clause-limits
returns-clause-limits c =
    limit_returned _ _ (subst (λ ts. IsAnswered ts c.whole_file.result) (c.as_slice.ensures.value ∙ c.in-Ok.ensures) c.whole_file.ensures)
