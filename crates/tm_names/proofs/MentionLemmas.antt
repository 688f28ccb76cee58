-- What each kind of type mentions that holds others.
use Rattle.std.proofs.Common.{◌≡◌, ℕ, refl, ap, ◌∙◌, Bool, List, ◌∷◌, ◌++◌, append-nil, length, map}
use Rattle.std.specs.List.{flat_map}
use Rattle.tm_base.specs.declared.ground.Wrapper.{Wrapper}
use Rattle.tm_names.specs.declared.faults.mentions.Mention.TheVariants.{Name, Life}
use Rattle.tm_names.specs.Mentions.{mentions_of, row_items, row_mentions}
use Rattle.tm_parse.specs.declared.parsed.Expr.{Expr, Row_of-Expr, end_of-Expr, more_of-Expr, items-the_row-Expr, items_hidden-the_row-Expr-0, Tuple, Array, Wrap, Named, Ref}
use Rattle.tm_parse.specs.declared.parsed.Expr.TheBlock.{hidden-the_row-Expr-0, shape-the_row-Expr-1, hidden-the_row-Expr-1}

row_items_all : {n : _} (row : Row_of-Expr n) → row_items row ≡ items-the_row-Expr n row
row_items_all end_of-Expr = refl
row_items_all (more_of-Expr e es) = ap (λ others. e ∷ others) (row_items_all es)

-- the types of a list are those of its row
pub items_of_row : (es : List Expr) → row_items (hidden-the_row-Expr-0 es) ≡ es
items_of_row es = row_items_all (hidden-the_row-Expr-0 es) ∙ items_hidden-the_row-Expr-0 es

row_mentions_all : {n : _} (row : Row_of-Expr n) → row_mentions row ≡ flat_map mentions_of (row_items row)
unfolding mentions_of
row_mentions_all end_of-Expr = refl
row_mentions_all (more_of-Expr e es) = ap (λ others. mentions_of e ++ others) (row_mentions_all es)

all_mentioned : (es : List Expr) → row_mentions (hidden-the_row-Expr-0 es) ≡ flat_map mentions_of es
all_mentioned es = row_mentions_all (hidden-the_row-Expr-0 es) ∙ ap (flat_map mentions_of) (items_of_row es)

pub mentions_in_tuple : (es : List Expr) → mentions_of (Tuple es) ≡ flat_map mentions_of es
unfolding mentions_of
mentions_in_tuple es = all_mentioned es

pub mentions_in_array : (e : Expr) (n : ℕ) → mentions_of (Array e n) ≡ mentions_of e
unfolding mentions_of shape-the_row-Expr-1 hidden-the_row-Expr-1 denote.Hole.Carrier.hidden
mentions_in_array e n = append-nil (mentions_of e)

pub mentions_in_wrap : (w : Wrapper) (e : Expr) → mentions_of (Wrap w e) ≡ mentions_of e
unfolding mentions_of shape-the_row-Expr-1 hidden-the_row-Expr-1 denote.Hole.Carrier.hidden
mentions_in_wrap w e = append-nil (mentions_of e)

pub mentions_in_named : (place : ℕ) (lifetimes : List ℕ) (es : List Expr)
    → mentions_of (Named place lifetimes es) ≡ Name (record { place = place; lifetimes = length lifetimes; types = length es }) ∷ (map Life lifetimes ++ flat_map mentions_of es)
unfolding mentions_of
mentions_in_named place lifetimes es =
    ap (λ n. Name (record { place = place; lifetimes = length lifetimes; types = n }) ∷ (map Life lifetimes ++ row_mentions (hidden-the_row-Expr-0 es))) (ap length (items_of_row es))
    ∙ ap (λ others. Name (record { place = place; lifetimes = length lifetimes; types = length es }) ∷ (map Life lifetimes ++ others)) (all_mentioned es)

pub mentions_in_ref : (life : ℕ) (mutable : Bool) (e : Expr) → mentions_of (Ref life mutable e) ≡ Life life ∷ mentions_of e
unfolding mentions_of shape-the_row-Expr-1 hidden-the_row-Expr-1 denote.Hole.Carrier.hidden
mentions_in_ref life mutable e = ap (λ others. Life life ∷ others) (append-nil (mentions_of e))
