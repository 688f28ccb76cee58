-- What each kind of type that holds others is resolved to.
use Rattle.std.proofs.Common.{◌≡◌, ℕ, refl, ap, ◌∙◌, Bool, Option, List, ◌∷◌, map}
use Rattle.tm_base.specs.declared.ground.Wrapper.{Wrapper}
use Rattle.tm_names.specs.declared.meaning.Meaning.{Meaning}
use Rattle.tm_names.specs.declared.resolved.Life.{Life}
use Rattle.tm_names.specs.declared.resolved.Open.{Open as Type'}
use Rattle.tm_names.specs.declared.resolved.Open as resolved
use Rattle.tm_names.specs.Resolutions.{named, type_of, row_types}
use Rattle.tm_parse.specs.declared.parsed.Expr.{Expr, Row_of-Expr, end_of-Expr, more_of-Expr, items-the_row-Expr, items_hidden-the_row-Expr-0, Tuple, Array, Wrap, Named, Ref}
use Rattle.tm_parse.specs.declared.parsed.Expr.TheBlock.{hidden-the_row-Expr-0, shape-the_row-Expr-1, hidden-the_row-Expr-1}

module _ (meaning : ℕ → Option Meaning) (life : ℕ → Life) where
  row_types_all : {n : _} (row : Row_of-Expr n) → row_types meaning life row ≡ map (type_of meaning life) (items-the_row-Expr n row)
  unfolding type_of
  row_types_all end_of-Expr = refl
  row_types_all (more_of-Expr e es) = ap (λ others. type_of meaning life e ∷ others) (row_types_all es)

  all_types : (es : List Expr) → row_types meaning life (hidden-the_row-Expr-0 es) ≡ map (type_of meaning life) es
  all_types es = row_types_all (hidden-the_row-Expr-0 es) ∙ ap (map (type_of meaning life)) (items_hidden-the_row-Expr-0 es)

  pub type_of_tuple : (es : List Expr) → type_of meaning life (Tuple es) ≡ resolved.Tuple (map (type_of meaning life) es)
  unfolding type_of
  type_of_tuple es = ap resolved.Tuple (all_types es)

  pub type_of_named : (place : ℕ) (lifetimes : List ℕ) (es : List Expr)
      → type_of meaning life (Named place lifetimes es) ≡ named (meaning place) (map life lifetimes) (map (type_of meaning life) es)
  unfolding type_of
  type_of_named place lifetimes es = ap (named (meaning place) (map life lifetimes)) (all_types es)

  pub type_of_array : (e : Expr) (n : ℕ) → type_of meaning life (Array e n) ≡ resolved.Array (type_of meaning life e) n
  unfolding type_of shape-the_row-Expr-1 hidden-the_row-Expr-1 denote.Hole.Carrier.hidden
  type_of_array e n = refl

  pub type_of_wrap : (w : Wrapper) (e : Expr) → type_of meaning life (Wrap w e) ≡ resolved.Wrap w (type_of meaning life e)
  unfolding type_of shape-the_row-Expr-1 hidden-the_row-Expr-1 denote.Hole.Carrier.hidden
  type_of_wrap w e = refl

  pub type_of_ref : (place : ℕ) (mutable : Bool) (e : Expr) → type_of meaning life (Ref place mutable e) ≡ resolved.Ref (life place) mutable (type_of meaning life e)
  unfolding type_of shape-the_row-Expr-1 hidden-the_row-Expr-1 denote.Hole.Carrier.hidden
  type_of_ref place mutable e = refl
