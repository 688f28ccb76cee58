-- What each kind of type holds, as it is listed.
use Rattle.std.proofs.Common.{◌≡◌, ℕ, ◌+◌, refl, ap, ◌∙◌, if◌then◌else◌, Bool, Option, List, [], ◌++◌, append-nil}
use Rattle.std.specs.List.{enumerate_from, flat_map}
use Rattle.tm_base.specs.declared.ground.Wrapper.{Wrapper}
use Rattle.tm_names.proofs.MentionLemmas.{items_of_row}
use Rattle.tm_names.specs.declared.meaning.Meaning.{Meaning}
use Rattle.tm_names.specs.Held.{argument_held, arguments_held, held_in, is_open, row_held, with_meaning}
use Rattle.tm_names.specs.Holding.{is_holder}
use Rattle.tm_names.specs.Meanings.{meaning_of}
use Rattle.tm_names.specs.Mentions.{row_items}
use Rattle.tm_parse.specs.declared.parsed.Decl.{Decl}
use Rattle.tm_parse.specs.declared.parsed.Expr.{Expr, Row_of-Expr, end_of-Expr, more_of-Expr, Tuple, Array, Wrap, Named}
use Rattle.tm_parse.specs.declared.parsed.Expr.TheBlock.{hidden-the_row-Expr-0, shape-the_row-Expr-1, hidden-the_row-Expr-1}

module _ (name : ℕ → List ℕ) (decls : List Decl) (own : List (List Bool)) (types : List ℕ) where
  abbrev held : Expr → List Meaning
  held = held_in name decls own types

  row_held_all : {n : _} (row : Row_of-Expr n) → row_held name decls own types row ≡ flat_map held (row_items row)
  unfolding held_in
  row_held_all end_of-Expr = refl
  row_held_all (more_of-Expr e es) = ap (λ others. held e ++ others) (row_held_all es)

  arguments_held_all : {n : _} (meaning : Option Meaning) (k : ℕ) (row : Row_of-Expr n)
      → arguments_held name decls own types meaning k row ≡ flat_map (argument_held name decls own types meaning) (enumerate_from k (row_items row))
  unfolding held_in
  arguments_held_all meaning k end_of-Expr = refl
  arguments_held_all meaning k (more_of-Expr e es) = ap (λ others. (if is_open own meaning k then held e else []) ++ others) (arguments_held_all meaning (k + 1) es)

  pub held_in_tuple : (es : List Expr) → held (Tuple es) ≡ flat_map held es
  unfolding held_in
  held_in_tuple es = row_held_all (hidden-the_row-Expr-0 es) ∙ ap (flat_map held) (items_of_row es)

  pub held_in_array : (e : Expr) (n : ℕ) → held (Array e n) ≡ held e
  unfolding held_in shape-the_row-Expr-1 hidden-the_row-Expr-1 denote.Hole.Carrier.hidden
  held_in_array e n = append-nil (held e)

  pub held_in_wrap : (w : Wrapper) (e : Expr) → held (Wrap w e) ≡ (if is_holder w then held e else [])
  unfolding held_in shape-the_row-Expr-1 hidden-the_row-Expr-1 denote.Hole.Carrier.hidden
  held_in_wrap w e = ap (λ those. if is_holder w then those else []) (append-nil (held e))

  pub held_in_named : (place : ℕ) (lifetimes : List ℕ) (es : List Expr)
      → held (Named place lifetimes es)
      ≡ with_meaning (meaning_of name decls types place) (flat_map (argument_held name decls own types (meaning_of name decls types place)) (enumerate_from 0 es))
  unfolding held_in
  held_in_named place lifetimes es =
      ap (with_meaning (meaning_of name decls types place))
      (arguments_held_all (meaning_of name decls types place) 0 (hidden-the_row-Expr-0 es)
      ∙ ap (λ those. flat_map (argument_held name decls own types (meaning_of name decls types place)) (enumerate_from 0 those)) (items_of_row es))
