-- When the names of a file tell its definitions and its regions apart where types are written.
use Rattle.std.specs.Prelude.{ℕ, nat_le, ◌==◌, Bool, false, not, ◌&&◌, ◌||◌, IsTrue, List, [], ◌∷◌, map, codes}
use Rattle.std.specs.List.{list_all}
use Rattle.std.specs.Str.{bytes_eq}
use Rattle.tm_base.specs.Whole.{AreDistinct}
use Rattle.tm_names.specs.declared.resolved.Resolved.{Resolved}

-- a quote, `_`, a digit, a letter, or a byte of a character that isn't ASCII
unfoldable pub is_word_byte : ℕ → Bool
is_word_byte b = b == 39 || b == 95 || (nat_le 48 b && nat_le b 57) || (nat_le 65 b && nat_le b 90) || (nat_le 97 b && nat_le b 122) || nat_le 128 b

-- some such bytes
abbrev pub is_word : List ℕ → Bool
is_word [] = false
is_word (b ∷ bs) = list_all is_word_byte (b ∷ bs)

-- the words of the primitives and of the generic types that each file has
abbrev pub taken_words : List (List ℕ)
taken_words =
    codes "bool" ∷ codes "char" ∷ codes "u8" ∷ codes "u16" ∷ codes "u32" ∷ codes "u64" ∷ codes "u128" ∷ codes "usize"
    ∷ codes "i8" ∷ codes "i16" ∷ codes "i32" ∷ codes "i64" ∷ codes "i128" ∷ codes "isize" ∷ codes "f32" ∷ codes "f64"
    ∷ codes "NonZero" ∷ codes "Option" ∷ codes "MaybeUninit" ∷ codes "ManuallyDrop" ∷ codes "Wrapping" ∷ codes "Cell"
    ∷ codes "UnsafeCell" ∷ codes "PhantomData" ∷ []

-- it begins with a quote
abbrev pub is_quoted : List ℕ → Bool
is_quoted [] = false
is_quoted (b ∷ bs) = b == 39

-- a word without a quote before it that isn't taken
unfoldable pub is_own_name : List ℕ → Bool
is_own_name name = is_word name && not (is_quoted name) && list_all (λ word. not (bytes_eq name word)) taken_words

-- a word behind a quote
abbrev pub is_region_name : List ℕ → Bool
is_region_name name = is_word name && is_quoted name

pub record HasApartNames (resolved : Resolved) : Type 0 where
  pub own_names : IsTrue (list_all (λ def. is_own_name def.name) resolved.defs)
  pub names_distinct : AreDistinct (map (λ def. def.name) resolved.defs)
  pub region_names : IsTrue (list_all is_region_name resolved.regions)
  pub regions_distinct : AreDistinct resolved.regions
