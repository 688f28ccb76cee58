-- The code of a closed type: the numbers of its parts from the front, which no other type has.
use Rattle.std.specs.Prelude.{◌≡◌, ℕ, Bool, true, false, List, [], ◌∷◌, ◌++◌, map}
use Rattle.tm_base.specs.declared.definition.RegionId.{RegionId}
use Rattle.tm_base.specs.declared.ground.Primitive.{Primitive}
use Rattle.tm_base.specs.declared.ground.Primitive.TheVariants.{Bool as the_bool, Char, U8, U16, U32, U64, U128, Usize, I8, I16, I32, I64, I128, Isize, F32, F64}
use Rattle.tm_base.specs.declared.ground.Wrapper.{Wrapper}
use Rattle.tm_base.specs.declared.ground.Wrapper.TheVariants.{Option, MaybeUninit, ManuallyDrop, Wrapping, Cell, UnsafeCell, PhantomData}
use Rattle.tm_ground.specs.declared.code.Code.{Code}
use Rattle.tm_ground.specs.Closed.{Closed, Elements, prim, never, tuple, array, nonzero, wrap, named, ref, no_elements, element}

-- the place of a primitive among the primitives, and of a wrapper among the wrappers
abbrev pub number_of_primitive : Primitive → ℕ
number_of_primitive the_bool = 0
number_of_primitive Char = 1
number_of_primitive U8 = 2
number_of_primitive U16 = 3
number_of_primitive U32 = 4
number_of_primitive U64 = 5
number_of_primitive U128 = 6
number_of_primitive Usize = 7
number_of_primitive I8 = 8
number_of_primitive I16 = 9
number_of_primitive I32 = 10
number_of_primitive I64 = 11
number_of_primitive I128 = 12
number_of_primitive Isize = 13
number_of_primitive F32 = 14
number_of_primitive F64 = 15

abbrev pub number_of_wrapper : Wrapper → ℕ
number_of_wrapper Option = 0
number_of_wrapper MaybeUninit = 1
number_of_wrapper ManuallyDrop = 2
number_of_wrapper Wrapping = 3
number_of_wrapper Cell = 4
number_of_wrapper UnsafeCell = 5
number_of_wrapper PhantomData = 6

-- the number of a flag
abbrev pub number_of_flag : Bool → ℕ
number_of_flag true = 1
number_of_flag false = 0

-- regions, a 1 before each, and a 0
abbrev pub codes_of_regions : List RegionId → List ℕ
codes_of_regions [] = 0 ∷ []
codes_of_regions (region ∷ regions) = 1 ∷ region.0 ∷ codes_of_regions regions

-- a number for what the type is, and what it has; an 8 behind elements and arguments
unfoldable mutual
  pub code_of : Closed → List ℕ
  code_of (prim p) = 0 ∷ number_of_primitive p ∷ []
  code_of never = 1 ∷ []
  code_of (tuple cs) = 2 ∷ code_of_all cs
  code_of (array c n) = 3 ∷ n ∷ code_of c
  code_of (nonzero p) = 4 ∷ number_of_primitive p ∷ []
  code_of (wrap w c) = 5 ∷ number_of_wrapper w ∷ code_of c
  code_of (named def regions args) = 6 ∷ def.0 ∷ codes_of_regions regions ++ code_of_all args
  code_of (ref region mutable c) = 7 ∷ region.0 ∷ number_of_flag mutable ∷ code_of c

  pub code_of_all : Elements → List ℕ
  code_of_all no_elements = 8 ∷ []
  code_of_all (element c cs) = code_of c ++ code_of_all cs

-- the codes of types, one after another, and the 8
abbrev pub codes_of : List Closed → List ℕ
codes_of [] = 8 ∷ []
codes_of (c ∷ cs) = code_of c ++ codes_of cs

-- these are the codes of the types, in their order
abbrev pub AreCodes : List Code → List Closed → Type 0
AreCodes codes types = map (λ code. code.numbers.items) codes ≡ map code_of types
