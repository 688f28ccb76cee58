use Rattle.std.proofs.Common.{ap, sym, ◌∙◌}
use Rattle.std.specs.Option.{option_copied}
use Rattle.tm_parse.proofs.bounds.Spans.{tokens_end}
use Rattle.tm_parse.proofs.parsing.count.Goals as goal

pub count_to-requires : goal.count_to-requires
count_to-requires c =
    tokens_end c.args.text.now c.args.tokens.now c.utf8.text c.requires c.in-Some.last.now (sym c.last.ensures.value ∙ ap option_copied c.in-Some.is)
