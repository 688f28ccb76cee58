use Rattle.std.proofs.Common.{◌≡◌, subst}
use Rattle.std.specs.Result.{IfOk}
use Rattle.tm_layout.specs.Reckoned.{layouts_in}
use Rattle.tm_layout.proofs.PlaceLemmas.{front-struct, front-union, shifted-enum}
use Rattle.tm_layout.proofs.placing.variant_places.Goals as goal

pub returns-in-Struct : goal.returns-in-Struct
returns-in-Struct c =
    subst (λ ps. IfOk c.at_front.result (λ found. found ≡ ps)) (front-struct c.args.profile c.args.kind c.args.repr c.args.begin (layouts_in c.args.fields.now) c.in-Struct.is c.if-repr.true) c.at_front.ensures

pub returns-in-Union : goal.returns-in-Union
returns-in-Union c =
    subst (λ ps. IfOk c.at_front-in-Union.result (λ found. found ≡ ps)) (front-union c.args.profile c.args.kind c.args.repr c.args.begin (layouts_in c.args.fields.now) c.in-Union.is) c.at_front-in-Union.ensures

pub returns-in-Enum : goal.returns-in-Enum
returns-in-Enum c =
    subst (λ ps. IfOk c.in_order-in-Enum.result (λ found. found ≡ ps)) (shifted-enum c.args.profile c.args.kind c.args.repr c.args.begin (layouts_in c.args.fields.now) c.in-Enum.is c.if-repr-2.true) c.in_order-in-Enum.ensures
