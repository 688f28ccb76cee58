-- The types that are written in a type.
use Rattle.std.specs.Prelude.{List, [], ◌∷◌, ◌++◌}
use Rattle.tm_parse.specs.declared.parsed.Expr.{Expr, Row_of-Expr, end_of-Expr, more_of-Expr, Tuple', Array', Wrap', Named', Ref'}

-- the type itself, its elements, its arguments or what it points to, those of these, and so on
unfoldable mutual
  pub written : Expr → List Expr
  written (Tuple' shape row) = Tuple' shape row ∷ row_written row
  written (Array' shape row n) = Array' shape row n ∷ row_written row
  written (Wrap' w shape row) = Wrap' w shape row ∷ row_written row
  written (Named' name lifetimes shape row) = Named' name lifetimes shape row ∷ row_written row
  written (Ref' lifetime unique shape row) = Ref' lifetime unique shape row ∷ row_written row
  written t = t ∷ []

  pub row_written : {m : _} → Row_of-Expr m → List Expr
  row_written end_of-Expr = []
  row_written (more_of-Expr t ts) = written t ++ row_written ts
