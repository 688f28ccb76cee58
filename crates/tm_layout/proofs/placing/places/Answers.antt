use Rattle.std.proofs.Common.{◌≡◌, ◌∙◌, map, Result, Ok, Err}
use Rattle.std.specs.Result.{IfOk}
use Rattle.tm_layout.specs.Capped.{capped}
use Rattle.tm_layout.specs.Placed.{variant_places_in}
use Rattle.tm_layout.specs.Reckoned.{variant_layouts_in}
use Rattle.tm_layout.proofs.DefinitionLemmas.{in_form}
use Rattle.tm_layout.proofs.NamedLemmas.{places-exact}
use Rattle.tm_layout.proofs.placing.places.Goals as goal

where_ok : {T E : Type 0} (P Q : T → Type 0) (r : Result T E) → ((x : T) → P x → Q x) → IfOk r P → IfOk r Q
where_ok P Q (Ok x) f h = f x h
where_ok P Q (Err e) f h = tt

pub returns : goal.returns
returns c =
    let def = c.args.def.now in
    let facts = c.args.parts.now in
    let begin = c.fields_begin-begin.result in
    where_ok (λ found. found ≡ map (λ ls. map capped (variant_places_in c.args.profile def.kind def.repr begin ls)) (variant_layouts_in facts)) _ c.all_places.result
    (λ found e id cases h k none. e ∙ places-exact c.args.profile id def.kind def.repr def.variants cases facts begin (in_form c.args.profile def c.requires) h k none c.fields_begin-begin.ensures)
    c.all_places.ensures
