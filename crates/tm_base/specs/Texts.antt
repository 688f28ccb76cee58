-- Canonical texts of types, as bytes. Regions are written with their declared names or `'static`. This
-- project's form, after Rust's own.
use Rattle.std.specs.Prelude.{ℕ, if◌then◌else◌, List, [], ◌∷◌, ◌++◌, map, flat_map, Option, Some, None, slice_get, unwrap_or, codes, decimal}
use Rattle.tm_base.specs.declared.definition.Def.{Def}
use Rattle.tm_base.specs.declared.definition.RegionId.{RegionId}
use Rattle.tm_base.specs.declared.ground.Ground.{Ground}
use Rattle.tm_base.specs.declared.ground.Primitive.{Primitive}
use Rattle.tm_base.specs.declared.ground.Primitive.TheVariants.{Bool as bool', Char, U8, U16, U32, U64, U128, Usize, I8, I16, I32, I64, I128, Isize, F32, F64}
use Rattle.tm_base.specs.declared.ground.Wrapper.{Wrapper}
use Rattle.tm_base.specs.declared.ground.Wrapper.TheVariants.{Option as option, MaybeUninit, ManuallyDrop, Wrapping, Cell, UnsafeCell, PhantomData}
use Rattle.tm_base.specs.Spelled.{Spelled, Elements, endless, prim, never, unit, tuple, array, named, nonzero, wrap, ref, no_elements, element, spelled_within, following_limit}
use Rattle.tm_base.specs.Tables.{Tables}

-- the words of the primitives
abbrev pub prim_text : Primitive → List ℕ
prim_text bool' = codes "bool"
prim_text Char = codes "char"
prim_text U8 = codes "u8"
prim_text U16 = codes "u16"
prim_text U32 = codes "u32"
prim_text U64 = codes "u64"
prim_text U128 = codes "u128"
prim_text Usize = codes "usize"
prim_text I8 = codes "i8"
prim_text I16 = codes "i16"
prim_text I32 = codes "i32"
prim_text I64 = codes "i64"
prim_text I128 = codes "i128"
prim_text Isize = codes "isize"
prim_text F32 = codes "f32"
prim_text F64 = codes "f64"

-- the words of the wrappers
abbrev pub wrapper_text : Wrapper → List ℕ
wrapper_text option = codes "Option"
wrapper_text MaybeUninit = codes "MaybeUninit"
wrapper_text ManuallyDrop = codes "ManuallyDrop"
wrapper_text Wrapping = codes "Wrapping"
wrapper_text Cell = codes "Cell"
wrapper_text UnsafeCell = codes "UnsafeCell"
wrapper_text PhantomData = codes "PhantomData"

-- each text behind a comma and a space
abbrev pub behind_commas : List (List ℕ) → List ℕ
behind_commas = flat_map (λ text. codes ", " ++ text)

-- texts with a comma and a space between them
abbrev pub separated : List (List ℕ) → List ℕ
separated [] = []
separated (text ∷ texts) = text ++ behind_commas texts

-- a generic type with an argument
abbrev pub applied : List ℕ → List ℕ → List ℕ
applied name argument = name ++ codes "<" ++ argument ++ codes ">"

-- a tuple: one element alone has a comma behind it
abbrev pub tuple_text : List (List ℕ) → List ℕ
tuple_text (text ∷ []) = codes "(" ++ text ++ codes ",)"
tuple_text texts = codes "(" ++ separated texts ++ codes ")"

-- a definition's name, with what it is given where it is given something
abbrev pub def_text : Option Def → List (List ℕ) → List ℕ
def_text None given = []
def_text (Some def) [] = def.name
def_text (Some def) (text ∷ texts) = applied def.name (separated (text ∷ texts))

module _ (tables : Tables) where
  -- a region's name, with its quote
  abbrev pub region_text : RegionId → List ℕ
  region_text region = unwrap_or (slice_get tables.regions region.0) []

  unfoldable mutual
    pub spelled_text : Spelled → List ℕ
    spelled_text endless = []
    spelled_text (prim p) = prim_text p
    spelled_text never = codes "!"
    spelled_text unit = codes "()"
    spelled_text (tuple members) = tuple_text (element_texts members)
    spelled_text (array t n) = codes "[" ++ spelled_text t ++ codes "; " ++ decimal n ++ codes "]"
    -- regions first, then types
    spelled_text (named def regions args) = def_text (slice_get tables.defs def.0) (map region_text regions ++ element_texts args)
    spelled_text (nonzero p) = applied (codes "NonZero") (prim_text p)
    spelled_text (wrap w t) = applied (wrapper_text w) (spelled_text t)
    spelled_text (ref mutable region t) = codes "&" ++ region_text region ++ (if mutable then codes " mut " else codes " ") ++ spelled_text t

    pub element_texts : Elements → List (List ℕ)
    element_texts no_elements = []
    element_texts (element t rest) = spelled_text t ∷ element_texts rest

  -- the text of a type in which so many names and references are followed behind one another
  abbrev pub text_within : ℕ → Ground → List ℕ
  text_within n g = spelled_text (spelled_within n tables.named tables.refs g)

  -- the canonical text of a type
  abbrev pub text_of : Ground → List ℕ
  text_of = text_within following_limit
