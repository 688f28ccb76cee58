use Rattle.std.proofs.Common.{◌≡◌, ◌<◌, ◌+◌, ◌^◌, ℕ, subst, sym, ap, ◌∙◌, take, length, get_or, [], ◌∷◌, ◌++◌, arith}
use Rattle.std.proofs.lemmas.List.{length-take-le, take_more}
use Rattle.std.specs.List.{list_all}
use Rattle.tm_base.specs.declared.cell.Cell.TheVariants.{Byte}
use Rattle.tm_base.specs.Cells.{byte_of}
use Rattle.tm_base.specs.Profiles.{number_of}
use Rattle.tm_base.specs.ValidTest.{is_byte}
use Rattle.tm_check.specs.Numbers.{grown}
use Rattle.tm_check.proofs.CutLemmas.{bytes-decide}
use Rattle.tm_check.proofs.NumberLemmas.{byte-told, bytes-more, number-grows, number_of-small}
use Rattle.tm_check.proofs.number.number_of.Goals as goal

pub with_byte-number-requires-clause-small : goal.with_byte-number-requires-clause-small
with_byte-number-requires-clause-small c =
    let cells = c.args.cells.now in
    let k = c.loop-count.count in
    let all = (bytes-decide (take k cells)).0 c.loop-count.invariant.1 in
    let small = number_of-small c.args.profile (take k cells) all in
    let long : length (take k cells) ≡ k = length-take-le k cells (omega arith) in
    subst (λ (n : ℕ). n < 256 ^ k) (sym c.loop-count.invariant.0) (subst (λ (j : ℕ). number_of c.args.profile (take k cells) < 256 ^ j) long small)

pub loop-count-preserved : goal.loop-count-preserved
loop-count-preserved c =
    let cells = c.args.cells.now in
    let k = c.loop-count.count in
    let cell = get_or cells k (Byte 0) in
    let (is, byte) = byte-told cell c.in_ok-byte.byte (sym c.byte_of.ensures ∙ c.in_ok-byte.was) in
    let more : take (k + 1) cells ≡ take k cells ++ cell ∷ [] = take_more cells k (Byte 0) c.loop-count-test.true in
    let long : length (take k cells) ≡ k = length-take-le k cells (omega arith) in
    let grows : number_of c.args.profile (take k cells ++ cell ∷ []) ≡ grown c.args.profile k c.loop-count.number c.in_ok-byte.byte =
    number-grows c.args.profile (take k cells) cell ∙ ap (λ (n : ℕ). grown c.args.profile n (number_of c.args.profile (take k cells)) (byte_of cell)) long
    ∙ ap (λ (n : ℕ). grown c.args.profile k n (byte_of cell)) (sym c.loop-count.invariant.0) ∙ ap (grown c.args.profile k c.loop-count.number) (sym byte) in (
      c.with_byte-number.ensures ∙ sym grows ∙ ap (number_of c.args.profile) (sym more),
      ap (list_all is_byte) more ∙ bytes-more (take k cells) cell is c.loop-count.invariant.1,
    )
