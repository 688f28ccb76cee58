use Rattle.std.proofs.Common.{arith}
use Rattle.tm_lex.proofs.SliceLemmas.{end_is_boundary, start_is_boundary}
use Rattle.tm_names.proofs.CopyLemmas.{token_is_piece}
use Rattle.tm_names.proofs.resolving.copying.token_text.Goals as goal

pub copy-requires : goal.copy-requires
copy-requires c =
    let text = c.args.text.now in
    let token = c.in-Some.token.now in
    let piece = token_is_piece text c.args.tokens.now c.utf8.text c.requires c.args.place token c.in-Some.ensures.lookup.3.0 c.in-Some.ensures.lookup.1 in
    let ends = piece.end in
    record { ordered = omega (arith, ends); begins = start_is_boundary text token c.utf8.text piece; ends = end_is_boundary text token c.utf8.text piece }
