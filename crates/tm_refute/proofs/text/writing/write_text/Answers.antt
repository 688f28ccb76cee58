use Rattle.std.proofs.Common.{◌≤◌, ◌∙◌, ap, sym, subst, List, ◌++◌, ◌+◌, length, take, string_bytes, arith}
use Rattle.std.specs.List.{All}
use Rattle.std.proofs.lemmas.List.{take_all}
use Rattle.std.proofs.lemmas.List.Elements.{All-push}
use Rattle.tm_refute.specs.Written.{IsEntryReadBack}
use Rattle.tm_refute.specs.declared.refutation.Entry.{Entry}
use Rattle.tm_refute.proofs.forms.WrittenLemmas.{entry_lines, line-more, one-more, refutation-back, whole-written}
use Rattle.tm_refute.proofs.text.writing.write_text.Goals as goal

pub loop-entry-preserved : goal.loop-entry-preserved
loop-entry-preserved c =
    let entries : List Entry = c.args.x.now.entries in
    let i = c.loop-entry.entry-index in
    let entry : Entry = c.entry-item.result in
    let longer = one-more c.as_slice-entry-items.result.now entries i entry c.as_slice-entry-items.ensures c.loop-entry-test.true c.entry-item.is in
    record {
      written = line-more (take i entries) (take (i + 1) entries) entry (string_bytes c.push_str.new.self) (string_bytes c.loop-entry.text) (string_bytes c.write_entry.new.text) longer c.loop-entry.invariant.written c.in_ok-write_entry.ensures.text;
      back = subst (λ (es : List Entry). All IsEntryReadBack es) (sym longer) (All-push IsEntryReadBack (take i entries) entry c.loop-entry.invariant.back c.in_ok-write_entry.ensures.form);
    }

pub returns-clause-text : goal.returns-clause-text
returns-clause-text c =
    let entries : List Entry = c.args.x.now.entries in
    let all = take_all c.loop-entry.entry-index entries (subst (λ (es : List Entry). length es ≤ c.loop-entry.entry-index) c.as_slice-entry-items.ensures c.loop-entry-test.false) in
    c.from.ensures
    ∙ whole-written c.args.number c.args.x.now (string_bytes c.in_ok-text.text) (string_bytes c.write_piece.new.text) (string_bytes c.push_str.new.self) (string_bytes c.loop-entry.text) (string_bytes c.push_str-2.new.self)
    c.in_ok-text.ensures.ok c.in_ok-write_piece.ensures.text c.in_ok-push_str.ensures.bytes
    (c.loop-entry.invariant.written ∙ ap (λ (es : List Entry). string_bytes c.push_str.new.self ++ entry_lines es) all)
    c.in_ok-push_str-2.ensures.bytes

pub returns-clause-form : goal.returns-clause-form
returns-clause-form c =
    let entries : List Entry = c.args.x.now.entries in
    let all = take_all c.loop-entry.entry-index entries (subst (λ (es : List Entry). length es ≤ c.loop-entry.entry-index) c.as_slice-entry-items.ensures c.loop-entry-test.false) in
    refutation-back c.args.number c.args.x.now c.from.result (omega arith) c.in_ok-write_piece.ensures.form
    (subst (λ (es : List Entry). All IsEntryReadBack es) all c.loop-entry.invariant.back) (returns-clause-text c)
