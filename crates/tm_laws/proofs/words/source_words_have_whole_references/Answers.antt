use Rattle.std.proofs.Common.{true}
use Rattle.tm_base.specs.Tables.{expanded_in}
use Rattle.tm_base.specs.Transmutes.{Same}
use Rattle.tm_laws.proofs.whole.Types.{expanded_in-for}
use Rattle.tm_laws.proofs.whole.Words.{whole-references}
use Rattle.tm_laws.proofs.words.source_words_have_whole_references.Goals as goal

pub returns : goal.returns
returns c = λ tables g w value. whole-references tables.profile Same true (expanded_in tables g) (expanded_in-for tables g) w value
