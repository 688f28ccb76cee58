use Rattle.std.proofs.Common.{◌∙◌, ap, length, arith}
use Rattle.tm_base.specs.declared.tree.Tree.{Alt}
use Rattle.tm_niche.specs.Forms.{only_of}
use Rattle.tm_niche.proofs.MemberLemmas.{one_of-none, one_of-only, one_of-several}
use Rattle.tm_niche.proofs.members.Members.one_of.Goals as goal

pub returns-then-len-eq0 : goal.returns-then-len-eq0
returns-then-len-eq0 c = one_of-none c.args.self (omega (arith, ap length c.in_ok-living.ensures, c.len.ensures, c.if-len-eq0.true))

pub returns-in-Some : goal.returns-in-Some
returns-in-Some c = one_of-only c.args.self c.in-Some.tree (c.in-Some.ensures.only ∙ ap only_of c.in_ok-living.ensures)

pub returns-in_ok-into_list-in-None : goal.returns-in_ok-into_list-in-None
returns-in_ok-into_list-in-None c =
    ap Alt (c.in_ok-into_list-in-None.ensures ∙ c.in-None.ensures.kept ∙ c.in_ok-living.ensures)
    ∙ one_of-several c.args.self (omega (arith, ap length c.in_ok-living.ensures, c.len.ensures, c.if-len-eq0.false)) (c.in-None.ensures.only ∙ ap only_of c.in_ok-living.ensures)
