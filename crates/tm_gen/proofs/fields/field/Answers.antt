use Rattle.std.proofs.Common.{◌≡◌, ℕ, List, ◌++◌, append_assoc, refl, ◌∙◌, ap}
use Rattle.std.specs.Prelude.{codes}
use Rattle.std.specs.Fmt.{decimal}
use Rattle.std.proofs.lemmas.Result.{IfOk-weaker}
use Rattle.tm_gen.specs.Draws.{drawn}
use Rattle.tm_gen.specs.Generated.{field_type, visibility}
use Rattle.tm_gen.specs.Written.{Written}
use Rattle.tm_gen.proofs.fields.field.Goals as goal

-- the pieces of the line, grouped to the right and to the left
line_of : (type : Written) (place : ℕ) (seen typed : List ℕ) → seen ≡ visibility (drawn type.state 8) → typed ≡ type.text → codes "    " ++ (seen ++ (codes "f" ++ (decimal place ++ (codes ": " ++ (typed ++ codes ",\n"))))) ≡ codes "    " ++ visibility (drawn type.state 8) ++ codes "f" ++ decimal place ++ codes ": " ++ type.text ++ codes ",\n"
line_of type place seen typed e f = simp (append_assoc, e, f) refl

pub returns-clause-text : goal.returns-clause-text
returns-clause-text c =
    let seen = c.visibility-visibility.ensures ∙ ap visibility (c.draw.ensures.number ∙ ap (λ x. drawn x 8) c.field_type.ensures.state) in
    IfOk-weaker c.format.result _ _ (λ line e. e ∙ line_of (field_type c.args.definition c.args.draws.now) c.args.place _ _ seen c.in_ok-typed.ensures.text) c.format.ensures.ok
