use Rattle.std.proofs.Common.{None, Option, Some}
use Rattle.std.proofs.lemmas.Result.{IfOk-weaker}
use Rattle.tm_base.specs.Tables.{expanded_in}
use Rattle.tm_base.specs.Worlds.{tables_of}
use Rattle.tm_refs.specs.Solved.{depth_in}
use Rattle.tm_refute.specs.Depths.{stands}
use Rattle.tm_refute.specs.Making.{IsPieceAnswer, IsRefusedWord}
use Rattle.tm_refute.specs.declared.refutation.Piece.{Piece}
use Rattle.tm_refute.proofs.chosen.PieceLemmas.{every-fits, first-refused}
use Rattle.tm_refute.proofs.refuting.maker.Maker.piece.Goals as goal

pub returns : goal.returns
returns c =
    let self = c.args.self.now in
    let tables = tables_of self.world.now in
    let limit = c.args.limit in
    let s = c.args.s.now in
    let t = c.args.t.now in
    let src = c.in_ok-src.src in
    let dst = c.in_ok-dst.dst in
    let about : Option Piece → Type 0 = λ found. IsRefusedWord (λ x y. stands limit (depth_in self.compat.now x y)) src dst found → IsPieceAnswer tables self.assume limit (expanded_in tables s) (expanded_in tables t) found in
    let answer : (found : Option Piece) → about found = λ found. elim found as (λ k. about k) [
      | None ↦ every-fits tables self.assume self.compat.now c.requires.making.solved limit s t src dst c.in_ok-src.ensures.automaton c.in_ok-dst.ensures.automaton
      | Some piece ↦ first-refused tables self.assume self.compat.now c.requires.making.solved limit s t src dst c.in_ok-src.ensures.automaton c.in_ok-dst.ensures.automaton piece.word piece.offset
    ] in
    IfOk-weaker c.refused.result _ _ answer c.refused.ensures
