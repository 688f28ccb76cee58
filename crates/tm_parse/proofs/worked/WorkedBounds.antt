-- What is written in a type, and where, at an example.
use Rattle.std.proofs.Common.{◌≡◌, refl, true, [], ◌∷◌, length}
use Rattle.std.specs.List.{list_all, flat_map}
use Rattle.tm_base.specs.declared.ground.Primitive.TheVariants as primitive
use Rattle.tm_base.specs.declared.ground.Wrapper.TheVariants as wrapper
use Rattle.tm_parse.specs.Bounds.{is_of_integer}
use Rattle.tm_parse.specs.Places.{own_places}
use Rattle.tm_parse.specs.Written.{written}
use Rattle.tm_parse.specs.declared.parsed.Expr.{Expr}
use Rattle.tm_parse.specs.declared.parsed.Expr.TheBlock.{hidden-the_row-Expr-0, shape-the_row-Expr-1, hidden-the_row-Expr-1}
use Rattle.tm_parse.specs.declared.parsed.Expr.TheVariants as expr

-- (&'a mut [NonZero<u8>; 4], Cell<bool>, A<'b, [u8; 2]>)
abbrev several : Expr
several = expr.Tuple (expr.Ref 2 true (expr.Array (expr.NonZero primitive.U8) 4) ∷ expr.Wrap wrapper.Cell (expr.Prim primitive.Bool) ∷ expr.Named 18 (20 ∷ []) (expr.Array (expr.Prim primitive.U8) 2 ∷ []) ∷ [])

nine_types : length (written several) ≡ 9
unfolding written hidden-the_row-Expr-0 shape-the_row-Expr-1 hidden-the_row-Expr-1 denote.Hole.Carrier.hidden
nine_types = refl

three_places : flat_map own_places (written several) ≡ 2 ∷ 18 ∷ 20 ∷ []
unfolding written hidden-the_row-Expr-0 shape-the_row-Expr-1 hidden-the_row-Expr-1 denote.Hole.Carrier.hidden
three_places = refl

of_integers : list_all is_of_integer (written several) ≡ true
unfolding written hidden-the_row-Expr-0 shape-the_row-Expr-1 hidden-the_row-Expr-1 denote.Hole.Carrier.hidden
of_integers = refl
