use Rattle.std.proofs.Common.{◌∙◌, sym, ap}
use Rattle.tm_base.specs.declared.tree.Tree.{Seq}
use Rattle.tm_niche.proofs.MemberLemmas.{joined-never, joined-only, joined-several}
use Rattle.tm_niche.proofs.members.Members.in_turn.Goals as goal

pub returns-then-has_never : goal.returns-then-has_never
returns-then-has_never c = joined-never c.args.self (sym c.has_never.ensures ∙ c.if-has_never.true)

pub returns-in-Some : goal.returns-in-Some
returns-in-Some c = joined-only c.args.self c.in-Some.tree (sym c.has_never.ensures ∙ c.if-has_never.false) c.in-Some.ensures.only

pub returns-in_ok-into_list-in-None : goal.returns-in_ok-into_list-in-None
returns-in_ok-into_list-in-None c =
    ap Seq (c.in_ok-into_list-in-None.ensures ∙ c.in-None.ensures.kept) ∙ joined-several c.args.self (sym c.has_never.ensures ∙ c.if-has_never.false) c.in-None.ensures.only
