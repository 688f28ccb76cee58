-- The faults of some files, as computed. Names are places in a list of texts.
use Rattle.std.proofs.Common.{◌≡◌, ℕ, refl, Bool, true, false, List, [], ◌∷◌, get_or, length, map}
use Rattle.std.specs.Prelude.{Option, Some, None, codes}
use Rattle.tm_base.specs.declared.assume.Assume.{Assume}
use Rattle.tm_base.specs.declared.definition.Kind.TheVariants.{Struct, Enum}
use Rattle.tm_base.specs.declared.ground.Primitive.TheVariants.{U8, Usize}
use Rattle.tm_base.specs.declared.ground.Wrapper.TheVariants.{PhantomData, ManuallyDrop}
use Rattle.tm_base.specs.declared.limit.NameWhy.TheVariants.{Twice, Unknown, Arity, Lifetime, Discriminant, Infinite, BadRepr}
use Rattle.tm_base.specs.declared.profile.Profile.TheVariants.{Le64, Be64, Le32}
use Rattle.tm_names.proofs.fault_laws.PartLemmas.{fault}
use Rattle.tm_base.specs.declared.profile.Profile.{Profile}
use Rattle.tm_names.specs.declared.faults.least.NameFault.{NameFault}
use Rattle.tm_names.specs.Closures.{closure, joined_rows}
use Rattle.tm_names.specs.FileFaults.{file_faults}
use Rattle.tm_names.specs.Held.{bit_at, definition_flags, held_in, no_flags, parameter_flags, row_at}
use Rattle.tm_names.specs.Mentions.{mentions_of}
use Rattle.tm_parse.specs.declared.parsed.Decl.{Decl}
use Rattle.tm_parse.specs.declared.parsed.DeclAsk.{DeclAsk}
use Rattle.tm_parse.specs.declared.parsed.DeclField.{DeclField}
use Rattle.tm_parse.specs.declared.parsed.DeclRepr.{DeclRepr}
use Rattle.tm_parse.specs.declared.parsed.DeclVariant.{DeclVariant}
use Rattle.tm_parse.specs.declared.parsed.Expr.{Expr, Prim, Tuple, Array, Wrap, Named, Ref}
use Rattle.tm_parse.specs.declared.parsed.Expr.TheBlock.{hidden-the_row-Expr-0, shape-the_row-Expr-1, hidden-the_row-Expr-1}
use Rattle.tm_parse.specs.declared.parsed.Parsed.{Parsed}
use Rattle.tm_parse.specs.declared.parsed.ReprItem.{ReprItem}
use Rattle.tm_parse.specs.declared.parsed.ReprItem.TheVariants.{C, Int}

abbrev name : ℕ → List ℕ
name place = get_or (codes "A" ∷ codes "A" ∷ codes "'a" ∷ codes "'static" ∷ codes "'_" ∷ codes "X" ∷ codes "Y" ∷ codes "Z" ∷ []) place []

abbrev field : Expr → DeclField
field ty = record { name = Some 20; public = true; ty = ty }

-- `struct A<..> { a: T, .. }`, whose name stands at the place
abbrev generic_at : ℕ → List ℕ → List ℕ → List Expr → Decl
generic_at place params types tys = record { kind = Struct; name = place; reprs = []; params = params; type_params = types; variants = record { name = None; negative = false; value = None; fields = fields tys } ∷ [] }
  where
    fields : List Expr → List DeclField
    fields [] = []
    fields (ty ∷ tys) = record { name = None; public = true; ty = ty } ∷ fields tys

abbrev variant : ℕ → Bool → Option ℕ → List DeclField → DeclVariant
variant place negative value fields = record { name = Some place; negative = negative; value = value; fields = fields }

-- `enum A { .. }`, whose attribute stands at the place 9
abbrev enum : List ReprItem → List DeclVariant → Decl
enum items variants = record { kind = Enum; name = 0; reprs = reprs items; params = []; type_params = []; variants = variants }
  where
    reprs : List ReprItem → List DeclRepr
    reprs [] = []
    reprs (item ∷ items) = record { token = 9; item = item } ∷ reprs items

abbrev nothing : Assume
nothing = record { alignment = false; lifetimes = false; safety = false; validity = false }

abbrev file : List ℕ → List Decl → List Expr → Parsed
file lifetimes decls types = record { lifetimes = lifetimes; bounds = []; decls = decls; questions = asks types }
  where
    asks : List Expr → List DeclAsk
    asks [] = []
    asks (ty ∷ tys) = record { src = ty; dst = Prim U8; assume = nothing } ∷ asks tys

abbrev struct_at : ℕ → List ℕ → List Expr → Decl
struct_at place params tys = generic_at place params [] tys

-- which of its own parameters each definition holds, after two turns
abbrev turn : List Decl → List (List Bool) → List (List Bool)
turn decls own = joined_rows own (map (parameter_flags name decls own) decls)

abbrev own_of : List Decl → List (List Bool)
own_of decls = turn decls (turn decls (map no_flags decls))

abbrev infinite : Parsed → ℕ → Bool
infinite parsed i = bit_at (row_at (closure 0 (length parsed.decls) (map (definition_flags name parsed.decls (own_of parsed.decls)) parsed.decls)) i) i

abbrev faults : Profile → Parsed → List NameFault
faults profile parsed = file_faults profile name parsed (infinite parsed)

-- `struct A { a: A }` holds itself, also in an array of length 0 and in a wrapper
holds_itself : faults Le64 (file [] (struct_at 0 [] (Named 0 [] [] ∷ []) ∷ []) []) ≡ fault Infinite 0 ∷ []
unfolding mentions_of held_in hidden-the_row-Expr-0 shape-the_row-Expr-1 hidden-the_row-Expr-1 denote.Hole.Carrier.hidden
holds_itself = refl

in_an_array : faults Le64 (file [] (struct_at 0 [] (Wrap ManuallyDrop (Array (Named 0 [] []) 0) ∷ []) ∷ []) []) ≡ fault Infinite 0 ∷ []
unfolding mentions_of held_in hidden-the_row-Expr-0 shape-the_row-Expr-1 hidden-the_row-Expr-1 denote.Hole.Carrier.hidden
in_an_array = refl

-- but neither behind a reference nor in a `PhantomData`
behind_a_reference : faults Le64 (file [] (struct_at 0 (2 ∷ []) (Ref 2 false (Named 0 (2 ∷ []) []) ∷ Wrap PhantomData (Named 0 (2 ∷ []) []) ∷ []) ∷ []) []) ≡ []
unfolding mentions_of held_in hidden-the_row-Expr-0 shape-the_row-Expr-1 hidden-the_row-Expr-1 denote.Hole.Carrier.hidden
behind_a_reference = refl

-- `struct A<X> { a: X } struct Y { a: A<Y> }` holds itself at Y
through_a_parameter : faults Le64 (file [] (generic_at 0 [] (5 ∷ []) (Named 5 [] [] ∷ []) ∷ struct_at 6 [] (Named 0 [] (Named 6 [] [] ∷ []) ∷ []) ∷ []) []) ≡ fault Infinite 6 ∷ []
unfolding mentions_of held_in hidden-the_row-Expr-0 shape-the_row-Expr-1 hidden-the_row-Expr-1 denote.Hole.Carrier.hidden
through_a_parameter = refl

-- not where no field holds the parameter
behind_an_unused_parameter : faults Le64 (file [] (generic_at 0 [] (5 ∷ []) (Wrap PhantomData (Named 5 [] []) ∷ []) ∷ struct_at 6 [] (Named 0 [] (Named 6 [] [] ∷ []) ∷ []) ∷ []) []) ≡ []
unfolding mentions_of held_in hidden-the_row-Expr-0 shape-the_row-Expr-1 hidden-the_row-Expr-1 denote.Hole.Carrier.hidden
behind_an_unused_parameter = refl

-- the definition's second parameter is held, and so is the second argument
second_of_two : faults Le64 (file [] (generic_at 0 [] (5 ∷ 7 ∷ []) (Named 7 [] [] ∷ []) ∷ struct_at 6 [] (Named 0 [] (Prim U8 ∷ Named 6 [] [] ∷ []) ∷ []) ∷ []) []) ≡ fault Infinite 6 ∷ []
unfolding mentions_of held_in hidden-the_row-Expr-0 shape-the_row-Expr-1 hidden-the_row-Expr-1 denote.Hole.Carrier.hidden
second_of_two = refl

-- `struct A<A> { a: A }`: the parameter is meant
shadowed : faults Le64 (file [] (generic_at 0 [] (1 ∷ []) (Named 1 [] [] ∷ []) ∷ []) []) ≡ []
unfolding mentions_of held_in hidden-the_row-Expr-0 shape-the_row-Expr-1 hidden-the_row-Expr-1 denote.Hole.Carrier.hidden
shadowed = refl

-- a parameter takes no list, and a definition as many types as it has parameters
parameter_with_a_list : faults Le64 (file [] (generic_at 0 [] (5 ∷ []) (Named 5 [] (Prim U8 ∷ []) ∷ []) ∷ []) []) ≡ fault Arity 5 ∷ []
unfolding mentions_of held_in hidden-the_row-Expr-0 shape-the_row-Expr-1 hidden-the_row-Expr-1 denote.Hole.Carrier.hidden
parameter_with_a_list = refl

too_few_types : faults Le64 (file [] (generic_at 0 [] (5 ∷ []) (Named 5 [] [] ∷ []) ∷ []) (Named 0 [] [] ∷ [])) ≡ fault Arity 0 ∷ []
unfolding mentions_of held_in hidden-the_row-Expr-0 shape-the_row-Expr-1 hidden-the_row-Expr-1 denote.Hole.Carrier.hidden
too_few_types = refl

-- an argument is mentioned, also where it isn't held, and outside of its definition a parameter is unknown
unknown_argument : faults Le64 (file [] (generic_at 0 [] (5 ∷ []) [] ∷ []) (Named 0 [] (Named 5 [] [] ∷ []) ∷ [])) ≡ fault Unknown 5 ∷ []
unfolding mentions_of held_in hidden-the_row-Expr-0 shape-the_row-Expr-1 hidden-the_row-Expr-1 denote.Hole.Carrier.hidden
unknown_argument = refl

twice_in_a_list : faults Le64 (file [] (generic_at 5 [] (0 ∷ 1 ∷ []) [] ∷ []) []) ≡ fault Twice 1 ∷ []
unfolding mentions_of held_in hidden-the_row-Expr-0 shape-the_row-Expr-1 hidden-the_row-Expr-1 denote.Hole.Carrier.hidden
twice_in_a_list = refl

-- of two definitions with one name a use means the first
twice : faults Le64 (file [] (struct_at 0 [] [] ∷ struct_at 1 [] (Named 0 [] [] ∷ []) ∷ []) []) ≡ fault Twice 1 ∷ []
unfolding mentions_of held_in hidden-the_row-Expr-0 shape-the_row-Expr-1 hidden-the_row-Expr-1 denote.Hole.Carrier.hidden
twice = refl

unknown : faults Le64 (file [] [] (Named 0 [] [] ∷ [])) ≡ fault Unknown 0 ∷ []
unfolding mentions_of held_in hidden-the_row-Expr-0 shape-the_row-Expr-1 hidden-the_row-Expr-1 denote.Hole.Carrier.hidden
unknown = refl

-- one lifetime too many, and one that isn't in sight
arity : faults Le64 (file [] (struct_at 0 [] [] ∷ []) (Named 1 (3 ∷ []) [] ∷ [])) ≡ fault Arity 1 ∷ []
unfolding mentions_of held_in hidden-the_row-Expr-0 shape-the_row-Expr-1 hidden-the_row-Expr-1 denote.Hole.Carrier.hidden
arity = refl

out_of_sight : faults Le64 (file [] [] (Ref 2 true (Prim U8) ∷ [])) ≡ fault Lifetime 2 ∷ []
unfolding mentions_of held_in hidden-the_row-Expr-0 shape-the_row-Expr-1 hidden-the_row-Expr-1 denote.Hole.Carrier.hidden
out_of_sight = refl

-- a declared `'_` is a fault at its item, and in sight elsewhere
reserved : faults Le64 (file (4 ∷ []) [] (Ref 4 false (Prim U8) ∷ [])) ≡ fault Lifetime 4 ∷ []
unfolding mentions_of held_in hidden-the_row-Expr-0 shape-the_row-Expr-1 hidden-the_row-Expr-1 denote.Hole.Carrier.hidden
reserved = refl

-- 255 fits, and 256 is implied behind it
past_the_range : faults Le64 (file [] (enum (Int U8 ∷ []) (variant 5 false (Some 255) [] ∷ variant 6 false None [] ∷ []) ∷ []) []) ≡ fault Discriminant 6 ∷ []
unfolding mentions_of held_in hidden-the_row-Expr-0 shape-the_row-Expr-1 hidden-the_row-Expr-1 denote.Hole.Carrier.hidden
past_the_range = refl

-- -2^63 - 1 is out of range, and -2^63 behind it isn't
below_the_range : faults Le64 (file [] (enum [] (variant 5 true (Some 9223372036854775809) [] ∷ variant 6 false None [] ∷ []) ∷ []) []) ≡ fault Discriminant 5 ∷ []
unfolding mentions_of held_in hidden-the_row-Expr-0 shape-the_row-Expr-1 hidden-the_row-Expr-1 denote.Hole.Carrier.hidden
below_the_range = refl

-- 2^32 is out of the range of `usize` where addresses have four bytes, and within it where they have eight
past_an_address : faults Le32 (file [] (enum (Int Usize ∷ []) (variant 5 false (Some 4294967296) [] ∷ []) ∷ []) []) ≡ fault Discriminant 5 ∷ []
unfolding mentions_of held_in hidden-the_row-Expr-0 shape-the_row-Expr-1 hidden-the_row-Expr-1 denote.Hole.Carrier.hidden
past_an_address = refl

within_an_address : faults Be64 (file [] (enum (Int Usize ∷ []) (variant 5 false (Some 4294967296) [] ∷ []) ∷ []) []) ≡ []
unfolding mentions_of held_in hidden-the_row-Expr-0 shape-the_row-Expr-1 hidden-the_row-Expr-1 denote.Hole.Carrier.hidden
within_an_address = refl

-- `C` and an integer where no variant has a field, and where one has
without_fields : faults Le64 (file [] (enum (C ∷ Int U8 ∷ []) (variant 5 false None [] ∷ variant 6 false None [] ∷ []) ∷ []) []) ≡ fault BadRepr 9 ∷ []
unfolding mentions_of held_in hidden-the_row-Expr-0 shape-the_row-Expr-1 hidden-the_row-Expr-1 denote.Hole.Carrier.hidden
without_fields = refl

with_a_field : faults Le64 (file [] (enum (C ∷ Int U8 ∷ []) (variant 5 false None (field (Tuple []) ∷ []) ∷ variant 6 false None [] ∷ []) ∷ []) []) ≡ []
unfolding mentions_of held_in hidden-the_row-Expr-0 shape-the_row-Expr-1 hidden-the_row-Expr-1 denote.Hole.Carrier.hidden
with_a_field = refl
