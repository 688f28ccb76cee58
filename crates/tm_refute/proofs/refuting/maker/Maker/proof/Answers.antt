use Rattle.std.proofs.Common.{ℕ, ◌<◌, subst, Some, arith}
use Rattle.tm_base.specs.Tables.{pointee_in}
use Rattle.tm_base.specs.Worlds.{tables_of}
use Rattle.tm_refs.specs.Solved.{FailsFirstAt, IsWhyAnswer}
use Rattle.tm_refs.proofs.PointeeLemmas.{pointee-over}
use Rattle.tm_refute.specs.Making.{IsPieceAnswer}
use Rattle.tm_refute.proofs.chosen.ProofLemmas.{fails-some_way, is-mutable, some-told}
use Rattle.tm_refute.proofs.refuting.maker.Maker.proof.Goals as goal

pub unreachable-requires : goal.unreachable-requires
unreachable-requires c =
    let self = c.args.self.now in
    let tables = tables_of self.world.now in
    let r = c.args.source.0 in
    let t = c.args.target.0 in
    some-told tables self.assume r t c.args.s.now c.args.t.now c.requires.source_row c.requires.target_row c.requires.judged
    (subst (λ (n : ℕ). FailsFirstAt tables self.assume r t n) c.if-depth-eq0.true c.requires.fails)
    (subst (IsWhyAnswer tables self.assume r t) c.in-None.is (c.why.ensures.answer tables self.assume c.requires.making.solved))

pub piece-requires-clause-source : goal.piece-requires-clause-source
piece-requires-clause-source c = pointee-over c.args.self.now.world.now c.args.source c.args.s.now c.requires.source_row

pub piece-requires-clause-target : goal.piece-requires-clause-target
piece-requires-clause-target c = pointee-over c.args.self.now.world.now c.args.target c.args.t.now c.requires.target_row

pub piece-requires-2-clause-source : goal.piece-requires-2-clause-source
piece-requires-2-clause-source c = pointee-over c.args.self.now.world.now c.args.target c.args.t.now c.requires.target_row

pub piece-requires-2-clause-target : goal.piece-requires-2-clause-target
piece-requires-2-clause-target c = pointee-over c.args.self.now.world.now c.args.source c.args.s.now c.requires.source_row

pub unreachable-requires-in-None-2 : goal.unreachable-requires-in-None-2
unreachable-requires-in-None-2 c =
    let self = c.args.self.now in
    let tables = tables_of self.world.now in
    let s = c.args.s.now in
    let t = c.args.t.now in
    let depth = c.args.depth in
    fails-some_way tables self.assume c.args.source.0 c.args.target.0 s t c.requires.source_row c.requires.target_row c.requires.making.unassumed depth
    (let above = c.if-depth-eq0.false in omega arith) c.requires.fails
    (subst (IsPieceAnswer tables self.assume (Some depth) (pointee_in tables s) (pointee_in tables t)) c.in_default.is c.in_ok-piece.ensures)
    (λ mutable. subst (IsPieceAnswer tables self.assume (Some depth) (pointee_in tables t) (pointee_in tables s)) c.in-None-2.is c.in_ok-piece-2.ensures)

pub returns : goal.returns
returns c =
    let self = c.args.self.now in
    let tables = tables_of self.world.now in
    let s = c.args.s.now in
    let t = c.args.t.now in
    let depth = c.args.depth in
    let above : 0 < depth = (let zero = c.if-depth-eq0.false in omega arith) in
    let forward = subst (IsPieceAnswer tables self.assume (Some depth) (pointee_in tables s) (pointee_in tables t)) c.in_default.is c.in_ok-piece.ensures in (
      above,
      is-mutable tables self.assume c.args.source.0 c.args.target.0 s t c.requires.source_row c.requires.target_row c.requires.making.unassumed depth above c.requires.fails forward,
      forward,
      subst (IsPieceAnswer tables self.assume (Some depth) (pointee_in tables t) (pointee_in tables s)) c.in-Some-3.is c.in_ok-piece-2.ensures,
    )
