-- What is written in each kind of type.
use Rattle.std.proofs.Common.{◌≡◌, ℕ, refl, ap, ◌∙◌, Bool, List, [], ◌∷◌, ◌++◌, append-nil}
use Rattle.std.specs.List.{flat_map}
use Rattle.tm_base.specs.declared.ground.Primitive.{Primitive}
use Rattle.tm_base.specs.declared.ground.Wrapper.{Wrapper}
use Rattle.tm_parse.specs.Written.{written, row_written}
use Rattle.tm_parse.specs.declared.parsed.Expr.{Expr, Row_of-Expr, end_of-Expr, more_of-Expr, items-the_row-Expr, items_hidden-the_row-Expr-0}
use Rattle.tm_parse.specs.declared.parsed.Expr.TheBlock.{hidden-the_row-Expr-0, shape-the_row-Expr-1, hidden-the_row-Expr-1}
use Rattle.tm_parse.specs.declared.parsed.Expr.TheVariants as expr

row_written-row : {n : _} (row : Row_of-Expr n) → row_written row ≡ flat_map written (items-the_row-Expr n row)
unfolding written
row_written-row end_of-Expr = refl
row_written-row (more_of-Expr t ts) = ap (λ others. written t ++ others) (row_written-row ts)

pub written-Prim : (p : Primitive) → written (expr.Prim p) ≡ expr.Prim p ∷ []
unfolding written
written-Prim p = refl

pub written-Never : written expr.Never ≡ expr.Never ∷ []
unfolding written
written-Never = refl

pub written-Tuple : (ts : List Expr) → written (expr.Tuple ts) ≡ expr.Tuple ts ∷ flat_map written ts
unfolding written
written-Tuple ts = ap (λ others. expr.Tuple ts ∷ others) (row_written-row (hidden-the_row-Expr-0 ts) ∙ ap (flat_map written) (items_hidden-the_row-Expr-0 ts))

pub written-Array : (t : Expr) (n : ℕ) → written (expr.Array t n) ≡ expr.Array t n ∷ written t
unfolding written shape-the_row-Expr-1 hidden-the_row-Expr-1 denote.Hole.Carrier.hidden
written-Array t n = ap (λ others. expr.Array t n ∷ others) (append-nil (written t))

pub written-NonZero : (p : Primitive) → written (expr.NonZero p) ≡ expr.NonZero p ∷ []
unfolding written
written-NonZero p = refl

pub written-Wrap : (w : Wrapper) (t : Expr) → written (expr.Wrap w t) ≡ expr.Wrap w t ∷ written t
unfolding written shape-the_row-Expr-1 hidden-the_row-Expr-1 denote.Hole.Carrier.hidden
written-Wrap w t = ap (λ others. expr.Wrap w t ∷ others) (append-nil (written t))

pub written-Named : (name : ℕ) (lifetimes : List ℕ) (ts : List Expr) → written (expr.Named name lifetimes ts) ≡ expr.Named name lifetimes ts ∷ flat_map written ts
unfolding written
written-Named name lifetimes ts = ap (λ others. expr.Named name lifetimes ts ∷ others) (row_written-row (hidden-the_row-Expr-0 ts) ∙ ap (flat_map written) (items_hidden-the_row-Expr-0 ts))

pub written-Ref : (lifetime : ℕ) (unique : Bool) (t : Expr) → written (expr.Ref lifetime unique t) ≡ expr.Ref lifetime unique t ∷ written t
unfolding written shape-the_row-Expr-1 hidden-the_row-Expr-1 denote.Hole.Carrier.hidden
written-Ref lifetime unique t = ap (λ others. expr.Ref lifetime unique t ∷ others) (append-nil (written t))
