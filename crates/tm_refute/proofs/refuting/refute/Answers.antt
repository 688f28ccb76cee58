use Rattle.std.proofs.Common.{◌∙◌, List, None, inl, inr, rules, subst, sym}
use Rattle.std.proofs.lemmas.Bool.{ltb-false}
use Rattle.tm_base.specs.Reaches.{IsJudged}
use Rattle.tm_base.specs.Rules.{Taken, source, target}
use Rattle.tm_base.specs.Worlds.{tables_of}
use Rattle.tm_base.proofs.ValidLemmas.{Valid-grows}
use Rattle.tm_refute.specs.Chosen.{HoldsBelow, IsRefutationOf}
use Rattle.tm_refute.specs.Making.{IsPieceAnswer}
use Rattle.tm_refute.specs.TextForms.{most_cells_together}
use Rattle.tm_refute.specs.declared.refutation.Entry.{Entry}
use Rattle.tm_base.proofs.HeldLemmas.{judged-laid_out}
use Rattle.tm_refute.proofs.refuting.refute.Goals as goal

pub returns-in_default-clause-none : goal.returns-in_default-clause-none
returns-in_default-clause-none c = λ refutable.
    let tables = tables_of c.args.world.now in
    let ask = c.args.ask.now in
    let every = subst (IsPieceAnswer tables ask.assume None (source tables ask) (target tables ask)) c.in_default.is c.in_ok-top.ensures in
    refutable.refused (inr (inl (
      refutable.unassumed,
      λ w word. Valid-grows (HoldsBelow tables ask.assume None) (Taken tables ask) ask.assume.safety ask.assume.safety (λ r t h depth. h depth tt) (λ k. k) (target tables ask) _ (every w word),
    )))

pub ask-requires-clause-has : goal.ask-requires-clause-has
ask-requires-clause-has c =
    let judged : IsJudged (tables_of c.args.world.now) c.args.ask.now.dst = search rules in
    record { over = c.requires.target; sound = judged-laid_out (tables_of c.args.world.now) c.args.ask.now.dst c.requires.target judged }

pub returns-clause-some : goal.returns-clause-some
returns-clause-some c =
    let (entries, is, kept) = c.in_ok-entries.ensures in
    let few = kept.told (ltb-false most_cells_together c.entries.new.made.cells (sym c.is_past.ensures ∙ c.if-is_past.false)) in
    subst (λ (es : List Entry). IsRefutationOf (tables_of c.args.world.now) c.args.ask.now (record { top = record { word = c.in-Some.top.word; offset = c.in-Some.top.offset }; entries = es })) (sym (kept.few few).1) is
