-- The words and the marks that the grammar knows, each with its class; any other word is a name.
-- The keywords are the strict ones of the Rust Reference, "Keywords", and `_`, which is no name either.
-- Those that it calls reserved or weak are names, but for `union`, which is a keyword in its place.
use Prim.Native.String.{String}
use Rattle.std.specs.Prelude.{ℕ, List, [], ◌∷◌, ◌++◌, codes, map}
use Rattle.tm_base.specs.declared.ground.Primitive.TheVariants as primitive
use Rattle.tm_base.specs.declared.ground.Wrapper.TheVariants as wrapper
use Rattle.tm_parse.specs.declared.class.Class.{Class}
use Rattle.tm_parse.specs.declared.class.Class.TheVariants as c

-- how a class is spelled, in bytes
abbrev pub Spelling : Type 0
Spelling = List ℕ × Class

infix 80 ◌means◌
abbrev pub ◌means◌ : String → Class → Spelling
word means class = (codes word, class)

-- the keywords that stand in a rule of the grammar
abbrev pub grammar_keywords : List Spelling
grammar_keywords =
    "crate" means c.Crate ∷ "enum" means c.Enum ∷ "mut" means c.Mut ∷ "pub" means c.Pub
    ∷ "self" means c.Myself ∷ "struct" means c.Struct ∷ "super" means c.Super ∷ []

-- and the others
abbrev pub other_keywords : List Spelling
other_keywords = map (λ word. word means c.Keyword)
    ("as" ∷ "async" ∷ "await" ∷ "break" ∷ "const" ∷ "continue" ∷ "dyn" ∷ "else" ∷ "extern" ∷ "false" ∷ "fn"
    ∷ "for" ∷ "if" ∷ "impl" ∷ "in" ∷ "let" ∷ "loop" ∷ "match" ∷ "mod" ∷ "move" ∷ "ref" ∷ "return" ∷ "Self"
    ∷ "static" ∷ "trait" ∷ "true" ∷ "type" ∷ "unsafe" ∷ "use" ∷ "where" ∷ "while" ∷ "_" ∷ [])

-- words that are keywords only in places
abbrev pub words_of_places : List Spelling
words_of_places =
    "align" means c.Align ∷ "alignment" means c.Alignment ∷ "ask" means c.Ask ∷ "assume" means c.Assume
    ∷ "C" means c.C ∷ "derive" means c.Derive ∷ "lifetime" means c.Declare ∷ "lifetimes" means c.Lifetimes
    ∷ "outlives" means c.Outlives ∷ "packed" means c.Packed ∷ "repr" means c.Repr ∷ "safety" means c.Safety
    ∷ "transparent" means c.Transparent ∷ "union" means c.Union ∷ "validity" means c.Validity ∷ []

-- the primitive types of the Rust Reference, "Numeric types", "Boolean type" and "Textual types"
abbrev pub primitive_types : List Spelling
primitive_types =
    "u8" means c.Integer primitive.U8 ∷ "u16" means c.Integer primitive.U16
    ∷ "u32" means c.Integer primitive.U32 ∷ "u64" means c.Integer primitive.U64
    ∷ "u128" means c.Integer primitive.U128 ∷ "usize" means c.Integer primitive.Usize
    ∷ "i8" means c.Integer primitive.I8 ∷ "i16" means c.Integer primitive.I16
    ∷ "i32" means c.Integer primitive.I32 ∷ "i64" means c.Integer primitive.I64
    ∷ "i128" means c.Integer primitive.I128 ∷ "isize" means c.Integer primitive.Isize
    ∷ "bool" means c.Scalar primitive.Bool ∷ "char" means c.Scalar primitive.Char
    ∷ "f32" means c.Scalar primitive.F32 ∷ "f64" means c.Scalar primitive.F64 ∷ []

-- the aliases of std's module `num`, each with its integer type
abbrev pub nonzero_aliases : List Spelling
nonzero_aliases =
    "NonZeroU8" means c.Alias primitive.U8 ∷ "NonZeroU16" means c.Alias primitive.U16
    ∷ "NonZeroU32" means c.Alias primitive.U32 ∷ "NonZeroU64" means c.Alias primitive.U64
    ∷ "NonZeroU128" means c.Alias primitive.U128 ∷ "NonZeroUsize" means c.Alias primitive.Usize
    ∷ "NonZeroI8" means c.Alias primitive.I8 ∷ "NonZeroI16" means c.Alias primitive.I16
    ∷ "NonZeroI32" means c.Alias primitive.I32 ∷ "NonZeroI64" means c.Alias primitive.I64
    ∷ "NonZeroI128" means c.Alias primitive.I128 ∷ "NonZeroIsize" means c.Alias primitive.Isize ∷ []

-- generic types of the standard library with one argument
abbrev pub generic_types : List Spelling
generic_types =
    "Option" means c.Generic wrapper.Option ∷ "MaybeUninit" means c.Generic wrapper.MaybeUninit
    ∷ "ManuallyDrop" means c.Generic wrapper.ManuallyDrop ∷ "Wrapping" means c.Generic wrapper.Wrapping
    ∷ "Cell" means c.Generic wrapper.Cell ∷ "UnsafeCell" means c.Generic wrapper.UnsafeCell
    ∷ "PhantomData" means c.Generic wrapper.PhantomData ∷ "NonZero" means c.NonZero ∷ []

-- Rust's types that are none of the grammar's, though no definition may have their names
abbrev pub foreign_types : List Spelling
foreign_types = "str" means c.Foreign ∷ "Box" means c.Foreign ∷ "NonNull" means c.Foreign ∷ []

abbrev pub words : List Spelling
words = grammar_keywords ++ other_keywords ++ words_of_places
    ++ primitive_types ++ nonzero_aliases ++ generic_types ++ foreign_types

-- the marks of one character
abbrev pub marks : List Spelling
marks =
    "{" means c.OpenBrace ∷ "}" means c.CloseBrace ∷ "(" means c.OpenParen ∷ ")" means c.CloseParen
    ∷ "[" means c.OpenBracket ∷ "]" means c.CloseBracket ∷ "<" means c.Less ∷ ">" means c.Greater
    ∷ "," means c.Comma ∷ ";" means c.Semicolon ∷ ":" means c.Colon ∷ "=" means c.Equals
    ∷ "&" means c.Ampersand ∷ "!" means c.Bang ∷ "#" means c.Hash ∷ "-" means c.Minus ∷ []
