-- The program's table of words is the one of the grammar.
use Rattle.std.proofs.Common.{◌≡◌, refl, map}
use Rattle.tm_parse.specs.Words.{words}
use Rattle.tm_parse.specs.declared.vocabulary.TheConstants.{WORDS}

pub words_are_known : map (λ x. (x.0.now, x.1)) WORDS ≡ words
words_are_known = refl
