use Rattle.std.proofs.Common.{ap, ◌∙◌}
use Rattle.tm_parse.proofs.grammar.Tables.{words_are_known}
use Rattle.tm_parse.specs.Spelling.{class_in, word_class}
use Rattle.tm_parse.specs.declared.class.Class.TheVariants.{Name}
use Rattle.tm_parse.proofs.classify.word_class.Goals as goal

pub returns : goal.returns
unfolding word_class
returns c = c.class_in.ensures ∙ ap (λ table. class_in table Name c.args.word.now) words_are_known
