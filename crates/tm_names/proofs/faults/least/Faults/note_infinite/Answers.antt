use Rattle.std.proofs.Common.{◌∙◌, sym, ap, subst, length, map}
use Rattle.tm_names.proofs.holding_laws.CyclicLemmas.{tells_infinite}
use Rattle.tm_names.specs.Closures.{TellsInfinite, closure}
use Rattle.tm_names.specs.Held.{bit_at, definition_flags, row_at}
use Rattle.tm_names.specs.Source.{names_in}
use Rattle.tm_names.proofs.faults.least.Faults.note_infinite.Goals as goal

pub returns-clause-first : goal.returns-clause-first
returns-clause-first c =
    let name = names_in c.args.self.now.file.source in
    let decls = c.args.self.now.file.definitions.now.decls.now in
    let rows = c.in_ok-rows.ensures ∙ ap (λ own. map (definition_flags name decls own) decls) c.as_slice.ensures in
    let closed = c.as_slice-2.ensures.value ∙ (c.in_ok-closed.ensures ∙ ap (λ those. closure 0 (length those) those) rows) in
    record {
      infinite = λ i. bit_at (row_at c.as_slice-2.result.now i) i;
      told = subst (λ those. TellsInfinite name decls (λ i. bit_at (row_at those i) i)) (sym closed) (tells_infinite name decls c.in_ok-own.own c.in_ok-own.ensures);
      earliest_is = c.note_cyclic.ensures.first;
    }
