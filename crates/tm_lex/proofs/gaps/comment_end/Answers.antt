-- No more comments stand open than the text has characters, and no more characters than bytes.
use Rattle.std.proofs.Common.{◌≡◌, ◌≤◌, ◌+◌, ap, length, subst, arith}
use Rattle.std.specs.Str.{chars}
use Rattle.std.proofs.lemmas.Str.{encodes-chars, length-le-encodes}
use Rattle.tm_lex.proofs.gaps.comment_end.Goals as goal

pub overflow_add-depth : goal.overflow_add-depth
overflow_add-depth c =
    let same = ap length (encodes-chars c.args.text.now c.utf8.text) in
    let most : length (chars c.args.text.now) ≤ length c.args.text.now =
    subst (λ n. length (chars c.args.text.now) ≤ n) same (length-le-encodes (chars c.args.text.now)) in
    let left : length (chars c.marks.rest.now) ≡ length (chars c.in-Open.after.now) + 2 = c.in-Open.ensures.1 in
    omega arith
