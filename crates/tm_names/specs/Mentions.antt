-- What a type mentions, in the order in which it is written, also in the types that are given to a name.
use Rattle.std.specs.Prelude.{List, [], ◌∷◌, ◌++◌, length, map}
use Rattle.tm_names.specs.declared.faults.mentions.Mention.{Mention}
use Rattle.tm_names.specs.declared.faults.mentions.Mention.TheVariants.{Name, Life}
use Rattle.tm_parse.specs.declared.parsed.Expr.{Expr, Row_of-Expr, end_of-Expr, more_of-Expr, Prim, Never, Tuple', Array', NonZero, Wrap', Named', Ref'}

-- the types of a row
abbrev pub row_items : {m : _} → Row_of-Expr m → List Expr
row_items end_of-Expr = []
row_items (more_of-Expr e es) = e ∷ row_items es

unfoldable mutual
  pub mentions_of : Expr → List Mention
  mentions_of (Prim p) = []
  mentions_of Never = []
  mentions_of (Tuple' shape row) = row_mentions row
  mentions_of (Array' shape row n) = row_mentions row
  mentions_of (NonZero p) = []
  mentions_of (Wrap' w shape row) = row_mentions row
  mentions_of (Named' place lifetimes shape row) =
      Name (record { place = place; lifetimes = length lifetimes; types = length (row_items row) }) ∷ (map Life lifetimes ++ row_mentions row)
  mentions_of (Ref' life mutable shape row) = Life life ∷ row_mentions row

  pub row_mentions : {m : _} → Row_of-Expr m → List Mention
  row_mentions end_of-Expr = []
  row_mentions (more_of-Expr e es) = mentions_of e ++ row_mentions es
