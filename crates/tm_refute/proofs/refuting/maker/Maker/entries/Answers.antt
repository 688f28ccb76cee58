use Rattle.std.proofs.Common.{◌∙◌, ◌+◌, get_or, [], ◌∷◌, ◌++◌, None, List, ap, length, subst, sym, take}
use Rattle.std.proofs.lemmas.List.{take_all, take_more}
use Rattle.tm_base.specs.declared.assume.Assume.{Assume}
use Rattle.tm_base.specs.Rules.{target}
use Rattle.tm_base.specs.Worlds.{tables_of}
use Rattle.std.proofs.lemmas.List.Elements.{All-get_or, All-take}
use Rattle.tm_refs.specs.Solved.{FailsFirstAt, IsSolvedFor}
use Rattle.tm_refute.specs.Asking.{IsAskedBy}
use Rattle.tm_refute.specs.Entries.{AreEntriesFor, AreJudgedPair, AreKept}
use Rattle.tm_refute.specs.Failing.{AreFailing}
use Rattle.tm_refute.specs.declared.refuting.failing.Failing.{Failing}
use Rattle.tm_refute.proofs.making.EntriesLemmas.{all-fail, before-at, finished, made, none-made, pair-judged, skipped}
use Rattle.tm_refute.proofs.refuting.maker.Maker.entries.Goals as goal
use Rattle.tm_refute.proofs.refuting.maker.Maker.entries.Goals.{then-has+in_ok-entry+in_ok-add, else-has}
use Rattle.tm_refute.specs.declared.refuting.asked.Asked.{Asked}

pub loop-pair-init : goal.loop-pair-init
loop-pair-init c =
    let tables = tables_of c.args.self.now.world.now in
    let ask = c.args.ask.now in
    ([], none-made tables ask (IsAskedBy tables ask.assume None (target tables ask) c.args.top.now) c.args.asked.now (rw c.requires.assume at c.requires.asked), c.requires.made)

pub entry-requires-clause-judged : goal.entry-requires-clause-judged
entry-requires-clause-judged c =
    let ask = c.args.ask.now in
    let (entries, so, kept) = c.loop-pair.invariant in
    let solved = subst (λ (a : Assume). IsSolvedFor (tables_of c.args.self.now.world.now) a c.args.self.now.compat.now) c.requires.assume c.requires.making.solved in
    pair-judged c.args.self.now.world.now ask c.requires.source c.requires.target c.requires.judged (ap (λ (a : Assume). a.validity) (sym c.requires.assume) ∙ c.requires.making.unassumed)
    c.args.top.now (rw c.requires.assume at c.requires.top) c.args.self.now.compat.now solved
    _ c.loop-pair.asked entries so _ _ (sym c.has.ensures ∙ c.if-has.true)

pub entry-requires-clause-fails : goal.entry-requires-clause-fails
entry-requires-clause-fails c =
    let ask = c.args.ask.now in
    let self = c.args.self.now in
    let tables = tables_of self.world.now in
    let items = c.as_slice-pair-items.result.now in
    let failing = subst (AreFailing tables self.compat.now) (sym c.as_slice-pair-items.ensures.value) c.in_ok-pairs.ensures in
    (All-get_or (λ p. FailsFirstAt tables self.assume p.source.0 p.target.0 p.depth) items c.loop-pair.pair-index _ c.loop-pair-test.true
    (all-fail tables self.assume self.compat.now c.requires.making.solved items failing))

pub loop-pair-preserved : goal.loop-pair-preserved
loop-pair-preserved c =
    let self = c.args.self.now in
    let ask = c.args.ask.now in
    let tables = tables_of self.world.now in
    let items = c.as_slice-pair-items.result.now in
    let i = c.loop-pair.pair-index in
    let p = get_or items i (record { depth = 0; source = record { 0 = 0 }; target = record { 0 = 0 } }) in
    let more = take_more items i (record { depth = 0; source = record { 0 = 0 }; target = record { 0 = 0 } }) c.loop-pair-test.true in
    let Top = IsAskedBy tables ask.assume None (target tables ask) c.args.top.now in
    let failing = subst (AreFailing tables self.compat.now) (sym c.as_slice-pair-items.ensures.value) c.in_ok-pairs.ensures in
    let solved = subst (λ (a : Assume). IsSolvedFor tables a self.compat.now) c.requires.assume c.requires.making.solved in
    let fails = All-take (λ q. FailsFirstAt tables ask.assume q.source.0 q.target.0 q.depth) i items (all-fail tables ask.assume self.compat.now solved items failing) in
    let before = before-at items i (record { depth = 0; source = record { 0 = 0 }; target = record { 0 = 0 } }) c.loop-pair-test.true failing.sorted in
    let (entries, so, kept) = c.loop-pair.invariant in
    elim c.if-has.branch [
      | then-has+in_ok-entry+in_ok-add w ↦ (
          let e = w.in_ok-entry.entry in
          let judged = pair-judged self.world.now ask c.requires.source c.requires.target c.requires.judged (ap (λ (a : Assume). a.validity) (sym c.requires.assume) ∙ c.requires.making.unassumed)
          c.args.top.now (rw c.requires.assume at c.requires.top) self.compat.now solved (take i items) c.loop-pair.asked entries so p.source.0 p.target.0 (sym c.has.ensures ∙ w.if-has.true) in
          let next = made tables ask Top (take i items) p c.loop-pair.asked w.entry.new.asked entries e so before fails (sym c.has.ensures ∙ w.if-has.true)
          (rw c.requires.assume at w.in_ok-entry.ensures.chosen)
          (subst (λ (q : Failing). AreJudgedPair tables q.source.0 q.target.0) (sym w.in_ok-entry.ensures.pair) judged) w.in_ok-entry.ensures.pair (w.in_ok-entry.ensures.asks ask (sym c.requires.assume)) in (
            entries ++ e ∷ [],
            subst (λ (flags : Asked). AreEntriesFor tables ask Top (take (i + 1) items) flags (entries ++ e ∷ [])) (sym w.asked-is)
                (subst (λ (ps : List Failing). AreEntriesFor tables ask Top ps w.entry.new.asked (entries ++ e ∷ [])) (sym more) next),
            subst (AreKept (length c.args.top.now.word) (entries ++ e ∷ [])) (sym w.made-is) (w.in_ok-add.ensures (length c.args.top.now.word) entries kept),
          ))
      | else-has w ↦ (
        entries,
        subst (λ (flags : Asked). AreEntriesFor tables ask Top (take (i + 1) items) flags entries) (sym w.asked-is)
            (subst (λ (ps : List Failing). AreEntriesFor tables ask Top ps c.loop-pair.asked entries) (sym more)
            (skipped tables ask Top (take i items) p c.loop-pair.asked entries so (sym c.has.ensures ∙ w.if-has.false))),
        subst (AreKept (length c.args.top.now.word) entries) (sym w.made-is) kept,
      )
    ]

pub returns : goal.returns
returns c =
    let world = c.args.self.now.world.now in
    let ask = c.args.ask.now in
    let items = c.as_slice-pair-items.result.now in
    let (entries, so, kept) = c.loop-pair.invariant in
    let solved = subst (λ (a : Assume). IsSolvedFor (tables_of world) a c.args.self.now.compat.now) c.requires.assume c.requires.making.solved in
    let failing = subst (AreFailing (tables_of world) c.args.self.now.compat.now) (sym c.as_slice-pair-items.ensures.value) c.in_ok-pairs.ensures in
    let whole = subst (λ (ps : List Failing). AreEntriesFor (tables_of world) ask (IsAskedBy (tables_of world) ask.assume None (target (tables_of world) ask) c.args.top.now) ps c.loop-pair.asked entries)
    (take_all c.loop-pair.pair-index items c.loop-pair-test.false) so in (
      entries,
      finished world ask c.requires.source c.requires.target c.requires.judged (ap (λ (a : Assume). a.validity) (sym c.requires.assume) ∙ c.requires.making.unassumed)
          c.args.top.now (rw c.requires.assume at c.requires.top) c.args.self.now.compat.now solved items failing c.loop-pair.asked entries whole,
      kept,
    )
