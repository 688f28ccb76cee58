-- The trees of this crate, and what trees are put together by. Which forms they take is this project's.
use Rattle.std.specs.Prelude.{◌≡◌, ℕ, zero, suc, ◌-◌, ◌/◌, ◌%◌, ◌⊎◌, ◌==◌, Bool, true, false, ◌||◌, if◌then◌else◌, ℤ, pos, negsuc, Option, Some, None, List, [], ◌∷◌, ◌++◌, reverse}
use Rattle.std.specs.List.{list_any}
use Rattle.tm_base.specs.declared.profile.Profile.{Profile}
use Rattle.tm_base.specs.declared.profile.Profile.TheVariants.{Le64, Be64, Le32}
use Rattle.tm_base.specs.declared.tree.Tree.{Tree, Never, Range, Seq, Alt, Repeat}

-- the tree that says that it has no word
abbrev pub is_never : Tree → Bool
is_never Never = true
is_never t = false

-- one of the trees is `Never`
abbrev pub some_never : List Tree → Bool
some_never = list_any is_never

-- the trees but each that is `Never`
abbrev pub living : List Tree → List Tree
living [] = []
living (t ∷ ts) = if is_never t then living ts else (t ∷ living ts)

-- the one tree, where there is no other
abbrev pub only_of : List Tree → Option Tree
only_of [] = None
only_of (t ∷ []) = Some t
only_of (t ∷ s ∷ ts) = None

-- a sequence, where there isn't just one tree
abbrev pub sequence_of : List Tree → Tree
sequence_of [] = Seq []
sequence_of (t ∷ []) = t
sequence_of (t ∷ s ∷ ts) = Seq (t ∷ s ∷ ts)

-- an alternative, where there are two trees or more
abbrev pub alternative_of : List Tree → Tree
alternative_of [] = Never
alternative_of (t ∷ []) = t
alternative_of (t ∷ s ∷ ts) = Alt (t ∷ s ∷ ts)

-- a word of each tree in turn
unfoldable pub joined : List Tree → Tree
joined ts = if some_never ts then Never else sequence_of ts

-- a word of one of the trees
unfoldable pub one_of : List Tree → Tree
one_of ts = alternative_of (living ts)

-- so many turns of a tree, of which there is one at least
abbrev pub turns : ℕ → Tree → Tree
turns n t = if (n == 1) || is_never t then t else Repeat n t

-- so many turns of a tree: nothing for none, and the tree itself for one
abbrev pub repeated : ℕ → Tree → List Tree
repeated zero t = []
repeated (suc n) t = turns (suc n) t ∷ []

-- in the order in which the bytes of a number stand, where the least is first here
abbrev pub in_order : Profile → List Tree → List Tree
in_order Le64 ts = ts
in_order Be64 ts = reverse ts
in_order Le32 ts = ts

-- The characters whose least byte is any, whose next two are from the one number to the other each, and
-- whose greatest is 00.
unfoldable pub scalars : Profile → ℕ → ℕ → ℕ → ℕ → Tree
scalars profile second least third most =
    joined (in_order profile (Range 0 255 ∷ Range second least ∷ Range third most ∷ Range 0 0 ∷ []))

-- up to D7FF, from E000 to FFFF, and from 10000 to 10FFFF
unfoldable pub char_form : Profile → Tree
char_form profile = one_of (scalars profile 0 0xD7 0 0 ∷ scalars profile 0xE0 0xFF 0 0 ∷ scalars profile 0 0xFF 1 0x10 ∷ [])

-- bytes 00, one that isn't, and bytes of any kind
unfoldable pub first_nonzero : ℕ → ℕ → Tree
first_nonzero before behind = joined (repeated before (Range 0 0) ++ (Range 1 255 ∷ repeated behind (Range 0 255)))

-- of some bytes behind so many bytes 00, each in turn is the first that isn't 00
abbrev pub nonzero_ways : ℕ → ℕ → List Tree
nonzero_ways before zero = []
nonzero_ways before (suc behind) = first_nonzero before behind ∷ nonzero_ways (suc before) behind

-- so many bytes, one of them not 00
unfoldable pub nonzero_form : ℕ → Tree
nonzero_form size = one_of (nonzero_ways 0 size)

-- how many bytes an integer may have
abbrev pub IsIntegerSize : ℕ → Type 0
IsIntegerSize n = (n ≡ 1) ⊎ (n ≡ 2) ⊎ (n ≡ 4) ⊎ (n ≡ 8) ⊎ (n ≡ 16)

-- so many bytes 00, or what the tree says
unfoldable pub null_form : ℕ → Tree → Tree
null_form size t = one_of (joined (repeated size (Range 0 0)) ∷ t ∷ [])

abbrev pub is_negative : ℤ → Bool
is_negative (pos k) = false
is_negative (negsuc k) = true

-- a number that isn't negative, or how far a negative one is below -1
abbrev pub magnitude : ℤ → ℕ
magnitude (pos k) = k
magnitude (negsuc k) = k

-- the byte of a number in two's complement, where a negative one's is the complement of its magnitude's
abbrev pub turned : Bool → ℕ → ℕ
turned negative b = if negative then 255 - b else b

-- so many low bytes of a number in two's complement, the least first
abbrev pub byte_forms : Bool → ℕ → ℕ → List Tree
byte_forms negative zero n = []
byte_forms negative (suc size) n = Range (turned negative (n % 256)) (turned negative (n % 256)) ∷ byte_forms negative size (n / 256)

-- the bytes of a tag
unfoldable pub tag_form : Profile → ℕ → ℤ → Tree
tag_form profile size value = joined (in_order profile (byte_forms (is_negative value) size (magnitude value)))
