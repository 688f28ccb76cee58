-- The characters of a text are its first one and those of what `next` leaves.
use Rattle.std.proofs.Common.{ap, sym, ◌∙◌, List, ℕ, ◌++◌}
use Rattle.std.specs.Char.{encode_utf8}
use Rattle.std.proofs.lemmas.Str.{chars_past_char}
use Rattle.tm_lex.proofs.front.front.Goals as goal

pub returns-in-Some : goal.returns-in-Some
returns-in-Some c =
    chars_past_char c.args.text.now c.as_str.result.now c.in-Some.first c.utf8.text
    (sym c.chars-characters.ensures.rest ∙ c.in-Some.ensures.steps.0
    ∙ ap (λ (rest : List ℕ). encode_utf8 c.in-Some.first ++ rest) (sym c.as_str.ensures))
