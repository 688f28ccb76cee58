-- Each limit that is passed at a terminal, on both sides.
use Rattle.std.proofs.Common.{◌≡◌, ℕ, zero, suc, refl, List, [], ◌∷◌, ◌++◌, replicate}
use Rattle.tm_base.specs.declared.ground.Primitive.TheVariants as primitive
use Rattle.tm_parse.proofs.worked.Worked.{from}
use Rattle.tm_parse.specs.Combinators.{read_most}
use Rattle.tm_parse.specs.Definitions.{field, variant, parameters}
use Rattle.tm_parse.specs.Files.{lifetime, item}
use Rattle.tm_parse.specs.Counting.{step, none_yet}
use Rattle.tm_parse.specs.Parts.{Outcome, Done, Stuck, Passed}
use Rattle.tm_parse.specs.Types.{read_type, type_at}
use Rattle.tm_parse.specs.declared.class.Class.{Class}
use Rattle.tm_parse.specs.declared.class.Class.TheVariants as c
use Rattle.tm_parse.specs.declared.counts.Counts.{Counts}
use Rattle.tm_base.specs.declared.limit.LimitKind.TheVariants as limit
use Rattle.tm_parse.specs.declared.reader.items.Item.TheVariants as sort
use Rattle.tm_parse.specs.declared.parsed.Expr.TheVariants as expr
use Rattle.tm_parse.specs.declared.terminal.Terminal.{Terminal}

abbrev u8 : Class
u8 = c.Integer primitive.U8

-- what was counted, and what is left
data Came : Type 0 where
  done : Counts → List Terminal → Came
  other : Came

abbrev came : {V : Type 0} → Outcome V → Came
came (Done v after rest) = done after rest
came (Stuck rest) = other
came (Passed kind rest) = other

-- struct A;
a_struct : List Terminal
a_struct = from 0 (c.Struct ∷ c.Name ∷ c.Semicolon ∷ [])

definitions_256 : came ((item 0).read (record none_yet { definitions = 255 }) a_struct) ≡ done (record none_yet { definitions = 256 }) []
unfolding a_struct step read_most
definitions_256 = refl

definitions_257 : (item 0).read (record none_yet { definitions = 256 }) a_struct ≡ Passed limit.Definitions a_struct
unfolding a_struct step read_most
definitions_257 = refl

-- ask u8 => u8;
an_ask : List Terminal
an_ask = from 0 (c.Ask ∷ u8 ∷ c.Arrow ∷ u8 ∷ c.Semicolon ∷ [])

questions_256 : came ((item 0).read (record none_yet { questions = 255 }) an_ask) ≡ done (record none_yet { questions = 256; nodes = 1 }) []
unfolding an_ask step read_most read_type
questions_256 = refl

questions_257 : (item 0).read (record none_yet { questions = 256 }) an_ask ≡ Passed limit.Questions an_ask
unfolding an_ask step read_most read_type
questions_257 = refl

-- lifetime 'a; and `lifetime` without one
lifetimes_16 : came (lifetime.read (record none_yet { lifetimes = 15 }) (from 0 (c.Declare ∷ c.Lifetime ∷ c.Semicolon ∷ []))) ≡ done (record none_yet { lifetimes = 16 }) []
unfolding step
lifetimes_16 = refl

lifetimes_17 : lifetime.read (record none_yet { lifetimes = 16 }) (from 0 (c.Declare ∷ c.Lifetime ∷ c.Semicolon ∷ [])) ≡ Passed limit.Lifetimes (from 1 (c.Lifetime ∷ c.Semicolon ∷ []))
unfolding step
lifetimes_17 = refl

lifetimes_none : lifetime.read (record none_yet { lifetimes = 16 }) (from 0 (c.Declare ∷ c.Semicolon ∷ [])) ≡ Stuck (from 1 (c.Semicolon ∷ []))
unfolding step
lifetimes_none = refl

-- <'a, 'b, 'c, 'd> and one more
parameters_4 : came (parameters.read none_yet (from 0 (c.Less ∷ c.Lifetime ∷ c.Comma ∷ c.Lifetime ∷ c.Comma ∷ c.Lifetime ∷ c.Comma ∷ c.Lifetime ∷ c.Comma ∷ c.Greater ∷ []))) ≡ done (record none_yet { parameters = 4 }) []
unfolding step read_most
parameters_4 = refl

parameters_5 : parameters.read none_yet (from 0 (c.Less ∷ c.Lifetime ∷ c.Comma ∷ c.Lifetime ∷ c.Comma ∷ c.Lifetime ∷ c.Comma ∷ c.Lifetime ∷ c.Comma ∷ c.Lifetime ∷ c.Greater ∷ []))
    ≡ Passed limit.Parameters (from 9 (c.Lifetime ∷ c.Greater ∷ []))
unfolding step read_most
parameters_5 = refl

-- <A, B, C, D> and one more
type_parameters_4 : came (parameters.read none_yet (from 0 (c.Less ∷ c.Name ∷ c.Comma ∷ c.Name ∷ c.Comma ∷ c.Name ∷ c.Comma ∷ c.Name ∷ c.Comma ∷ c.Greater ∷ []))) ≡ done (record none_yet { type_parameters = 4 }) []
unfolding step read_most
type_parameters_4 = refl

type_parameters_5 : parameters.read none_yet (from 0 (c.Less ∷ c.Name ∷ c.Comma ∷ c.Name ∷ c.Comma ∷ c.Name ∷ c.Comma ∷ c.Name ∷ c.Comma ∷ c.Name ∷ c.Greater ∷ []))
    ≡ Passed limit.TypeParameters (from 9 (c.Name ∷ c.Greater ∷ []))
unfolding step read_most
type_parameters_5 = refl

-- pub x: u8
a_named_field : List Terminal
a_named_field = from 0 (c.Pub ∷ c.Name ∷ c.Colon ∷ u8 ∷ [])

fields_256 : came ((field 0).read (record none_yet { fields = 255 }) a_named_field) ≡ done (record none_yet { fields = 256; nodes = 1 }) []
unfolding a_named_field step read_type
fields_256 = refl

fields_257 : (field 0).read (record none_yet { fields = 256 }) a_named_field ≡ Passed limit.Fields a_named_field
unfolding a_named_field step read_type
fields_257 = refl

variants_256 : came ((variant 0).read (record none_yet { variants = 255 }) (from 0 (c.Name ∷ []))) ≡ done (record none_yet { variants = 256 }) []
unfolding step read_type read_most
variants_256 = refl

variants_257 : (variant 0).read (record none_yet { variants = 256 }) (from 0 (c.Name ∷ [])) ≡ Passed limit.Variants (from 0 (c.Name ∷ []))
unfolding step read_type read_most
variants_257 = refl

-- a primitive type in so many parentheses
nesting_32 : (type_at 0 0).read none_yet (from 0 (replicate 31 c.OpenParen ++ (u8 ∷ replicate 31 c.CloseParen))) ≡ Done (expr.Prim primitive.U8) (record none_yet { nodes = 32 }) []
unfolding step read_type read_most
nesting_32 = refl

nesting_33 : (type_at 0 0).read none_yet (from 0 (replicate 32 c.OpenParen ++ (u8 ∷ replicate 32 c.CloseParen))) ≡ Passed limit.Nesting (from 32 (u8 ∷ replicate 32 c.CloseParen))
unfolding step read_type read_most
nesting_33 = refl

-- where no type begins, none is nested too deep
nesting_none : (type_at 0 0).read none_yet (from 0 (replicate 32 c.OpenParen ++ (c.Comma ∷ []))) ≡ Stuck (from 32 (c.Comma ∷ []))
unfolding step read_type read_most
nesting_none = refl

-- a tuple of so many
abbrev row_of : ℕ → List Class
row_of zero = c.CloseParen ∷ []
row_of (suc n) = u8 ∷ c.Comma ∷ row_of n

nodes_64 : came ((type_at 0 0).read none_yet (from 0 (c.OpenParen ∷ row_of 63))) ≡ done (record none_yet { nodes = 64 }) []
unfolding step read_type read_most
nodes_64 = refl

nodes_65 : (type_at 0 0).read none_yet (from 0 (c.OpenParen ∷ row_of 64)) ≡ Passed limit.TypeNodes (from 127 (u8 ∷ c.Comma ∷ c.CloseParen ∷ []))
unfolding step read_type read_most
nodes_65 = refl

-- `A<..>` with so many arguments
abbrev arguments_of : ℕ → List Class
arguments_of zero = c.Greater ∷ []
arguments_of (suc n) = u8 ∷ c.Comma ∷ arguments_of n

arguments_63 : came ((type_at 0 0).read none_yet (from 0 (c.Name ∷ c.Less ∷ arguments_of 63))) ≡ done (record none_yet { nodes = 64 }) []
unfolding step read_type read_most
arguments_63 = refl

arguments_64 : (type_at 0 0).read none_yet (from 0 (c.Name ∷ c.Less ∷ arguments_of 64)) ≡ Passed limit.TypeNodes (from 128 (u8 ∷ c.Comma ∷ c.Greater ∷ []))
unfolding step read_type read_most
arguments_64 = refl

-- [u8; 4294967295] and one more
length_most : (type_at 0 0).read none_yet (from 0 (c.OpenBracket ∷ u8 ∷ c.Semicolon ∷ c.Number 4294967295 ∷ c.CloseBracket ∷ [])) ≡ Done (expr.Array (expr.Prim primitive.U8) 4294967295) (record none_yet { nodes = 2 }) []
unfolding step read_type read_most
length_most = refl

length_more : (type_at 0 0).read none_yet (from 0 (c.OpenBracket ∷ u8 ∷ c.Semicolon ∷ c.Number 4294967296 ∷ c.CloseBracket ∷ [])) ≡ Passed limit.ArrayLength (from 3 (c.Number 4294967296 ∷ c.CloseBracket ∷ []))
unfolding step read_type read_most
length_more = refl

-- a lifetime of so many bytes; a number of so many is no name
abbrev declared : ℕ → List Terminal
declared bytes = record { class = c.Declare; place = 0; size = 8 } ∷ record { class = c.Lifetime; place = 1; size = bytes } ∷ record { class = c.Semicolon; place = 2; size = 1 } ∷ []

name_64 : lifetime.read none_yet (declared 64) ≡ Done (sort.Lifetime 1) (record none_yet { lifetimes = 1 }) []
unfolding step
name_64 = refl

name_65 : lifetime.read none_yet (declared 65) ≡ Passed limit.NameBytes (record { class = c.Lifetime; place = 1; size = 65 } ∷ record { class = c.Semicolon; place = 2; size = 1 } ∷ [])
unfolding step
name_65 = refl

-- of two limits at one terminal the one named first
name_65_too : lifetime.read (record none_yet { lifetimes = 16 }) (declared 65) ≡ Passed limit.Lifetimes (record { class = c.Lifetime; place = 1; size = 65 } ∷ record { class = c.Semicolon; place = 2; size = 1 } ∷ [])
unfolding step
name_65_too = refl

number_65 : (type_at 0 0).read none_yet (record { class = c.OpenBracket; place = 0; size = 1 } ∷ record { class = u8; place = 1; size = 2 } ∷ record { class = c.Semicolon; place = 2; size = 1 }
    ∷ record { class = c.Number 4; place = 3; size = 65 } ∷ record { class = c.CloseBracket; place = 4; size = 1 } ∷ []) ≡ Done (expr.Array (expr.Prim primitive.U8) 4) (record none_yet { nodes = 2 }) []
unfolding step read_type read_most
number_65 = refl
