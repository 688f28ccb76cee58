-- The laws of the rules of files.
use Rattle.std.proofs.Common.{refl, [], ◌∷◌}
use Rattle.tm_parse.proofs.grammar.Choices.{to_laws, or_laws}
use Rattle.tm_parse.proofs.grammar.DefinitionLaws.{definition_laws}
use Rattle.tm_parse.proofs.grammar.Lawful.{Laws}
use Rattle.tm_parse.proofs.grammar.Marks.{mark_laws}
use Rattle.tm_parse.proofs.grammar.Pairs.{seq_laws}
use Rattle.tm_parse.proofs.grammar.ShapeLaws.{any_laws, the_laws, optional_laws, many_laws, listed1_laws}
use Rattle.tm_parse.proofs.grammar.TypeLaws.{type_laws}
use Rattle.tm_parse.specs.Events.{a_question, a_lifetime}
use Rattle.tm_parse.specs.Files.{lifetime, outlives, flag, question, item, file}
use Rattle.tm_parse.specs.declared.class.Class.TheVariants as c

lifetime-laws : Laws (λ n. lifetime)
lifetime-laws = to_laws _ (seq_laws (the_laws c.Declare) (seq_laws (mark_laws a_lifetime (the_laws c.Lifetime) refl) (the_laws c.Semicolon) refl) refl)

outlives-laws : Laws (λ n. outlives)
outlives-laws = to_laws _ (seq_laws (the_laws c.Outlives) (seq_laws (the_laws c.Lifetime) (seq_laws (the_laws c.Colon) (seq_laws (the_laws c.Lifetime) (the_laws c.Semicolon) refl) refl) refl) refl)

flag-laws : Laws (λ n. flag)
flag-laws = any_laws c.Alignment (c.Lifetimes ∷ c.Safety ∷ c.Validity ∷ [])

question-laws : Laws question
question-laws = to_laws _ (seq_laws (mark_laws a_question (the_laws c.Ask) refl) (seq_laws (type_laws 0) (seq_laws (the_laws c.Arrow) (seq_laws (type_laws 0)
    (seq_laws (optional_laws (seq_laws (the_laws c.Assume) (listed1_laws flag-laws refl refl refl) refl) refl) (the_laws c.Semicolon) refl) refl) refl) refl) refl)

item-laws : Laws item
item-laws = or_laws lifetime-laws (or_laws outlives-laws (or_laws question-laws (to_laws _ definition_laws) refl refl) refl refl) refl refl

pub file_laws : Laws file
file_laws = to_laws _ (many_laws item-laws refl refl)
