-- The laws of these definitions, which the functions of `laws` have as their contracts.
use Rattle.std.specs.Prelude.{◌≡◌, ℕ, suc, ◌*◌, ◌<◌, ◌≤◌, ◌↔◌, ◌+◌, Bool, false, IsTrue, Option, is_some, List, [], ◌∷◌, length}
use Rattle.tm_base.specs.declared.answer.Answer.{Answer}
use Rattle.tm_base.specs.declared.ask.Ask.{Ask}
use Rattle.tm_base.specs.declared.assume.Assume.{Assume}
use Rattle.tm_base.specs.Answers.{IsAnswer, NoSharedTexts}
use Rattle.tm_base.specs.declared.cell.Cell.{Cell}
use Rattle.tm_base.specs.declared.cell.Cell.TheVariants.{Byte}
use Rattle.tm_base.specs.declared.cell.RefId.{RefId}
use Rattle.tm_base.specs.declared.tree.Tree.{Tree, Never, Range, Pad, Ref, Seq, Alt, Repeat, Private}
use Rattle.tm_base.specs.Cells.{Word, IsFree, OrOwn, or_own, pointer_of, Times}
use Rattle.tm_base.specs.Compatible.{CompatibleTo}
use Rattle.tm_base.specs.Expanded.{Expanded}
use Rattle.tm_base.specs.Layout.{Layout, round_up, places, struct_layout, size_of}
use Rattle.tm_base.specs.Faults.{fault_of, has_no_layout}
use Rattle.tm_base.specs.Orders.{word_less}
use Rattle.tm_base.specs.Parts.{some_within}
use Rattle.tm_base.specs.Tables.{Tables}
use Rattle.tm_base.specs.Transmutes.{holds}
use Rattle.tm_base.specs.Trees.{TreeWord, InTurn, OneOf}
use Rattle.tm_base.specs.Valid.{Valid}
use Rattle.tm_base.specs.ValidTest.{valid_test}

-- what `round_up` gives: a multiple, not below, and no lesser one
pub record IsRoundedUp (n a m : ℕ) : Type 0 where
  pub multiple : (k : ℕ) × (m ≡ k * a)
  pub above : n ≤ m
  pub least : (k : ℕ) → n ≤ k * a → m ≤ k * a

abbrev pub RoundsUp : Type 0
RoundsUp = (n a : ℕ) → 0 < a → IsRoundedUp n a (round_up n a)

-- Each field stands at the end of the one before it or behind it, and none ends past the number.
unfoldable pub Apart : ℕ → List ℕ → List Layout → ℕ → Type 0
Apart at [] ls end = at ≤ end
Apart at (place ∷ ps) [] end = ⊥
Apart at (place ∷ ps) (l ∷ ls) end = (at ≤ place) × Apart (place + l.size) ps ls end

-- the fields of a `repr(C)` struct don't overlap, and stay inside it
abbrev pub FieldsStandApart : Type 0
FieldsStandApart = (packed align : Option ℕ) (ls : List Layout) → Apart 0 (places packed 0 ls) ls (struct_layout packed align ls).size

-- a word of a type has the type's size
abbrev pub WordsHaveTheirSize : Type 0
WordsHaveTheirSize = (A : ℕ → ℕ → Bool) (keep : Bool) (t : Expanded) (w : Word) → Valid (holds A) keep t w → length w ≡ size_of t

-- more words are valid where references may hold more, or more private types keep their words
abbrev pub ValidityGrows : Type 0
ValidityGrows =
    (A B : ℕ → ℕ → Bool) (keep more : Bool) → ((x t : ℕ) → IsTrue (A x t) → IsTrue (B x t)) → (IsTrue keep → IsTrue more)
    → (t : Expanded) (w : Word) → Valid (holds A) keep t w → Valid (holds B) more t w

-- the test of validity is exact
abbrev pub TestIsExact : Type 0
TestIsExact = (A : ℕ → ℕ → Bool) (keep : Bool) (t : Expanded) (w : Word) → IsTrue (valid_test A keep t w) ↔ Valid (holds A) keep t w

-- compatible to a depth is compatible to each lesser one
abbrev pub DepthsAgree : Type 0
DepthsAgree = (tables : Tables) (assume : Assume) (n r t : ℕ) → CompatibleTo tables assume (suc n) r t → CompatibleTo tables assume n r t

-- of two words that aren't one, one is less
abbrev pub WordsCompare : Type 0
WordsCompare = (v w : Word) → word_less v w ≡ false → word_less w v ≡ false → v ≡ w

-- a question has one answer at most
abbrev pub AnswersAreUnique : Type 0
AnswersAreUnique = (tables : Tables) (ask : Ask) → NoSharedTexts tables ask → (a b : Answer) → IsAnswer tables ask a → IsAnswer tables ask b → a ≡ b

-- a target reference may hold itself by the test exactly where it may by the relation
abbrev pub OwnIsTested : Type 0
OwnIsTested = (test : ℕ → ℕ → Bool) (x t : ℕ) → holds (or_own test) x t ↔ OrOwn (holds test) x t

-- What the words of each kind of tree are.
pub record TreesRead (pointer : ℕ) (A : ℕ → ℕ → Type 0) (keep : Bool) : Type 0 where
  pub never : (w : Word) → TreeWord pointer A keep Never w → ⊥
  pub range : (low high : ℕ) (w : Word) → TreeWord pointer A keep (Range low high) w ↔ ((b : ℕ) × (low ≤ b) × (b ≤ high) × (w ≡ Byte b ∷ []))
  pub pad : (w : Word) → TreeWord pointer A keep Pad w ↔ ((c : Cell) × IsFree c × (w ≡ c ∷ []))
  pub reference : (t : RefId) (w : Word) → TreeWord pointer A keep (Ref t) w ↔ ((x : ℕ) × A x t.0 × (w ≡ pointer_of pointer x))
  pub sequence : (ts : List Tree) (w : Word) → TreeWord pointer A keep (Seq ts) w ↔ InTurn pointer A keep ts w
  pub alternative : (ts : List Tree) (w : Word) → TreeWord pointer A keep (Alt ts) w ↔ OneOf pointer A keep ts w
  pub repetition : (n : ℕ) (t : Tree) (w : Word) → TreeWord pointer A keep (Repeat n t) w ↔ Times n (TreeWord pointer A keep t) w
  pub private : (t : Tree) (w : Word) → TreeWord pointer A keep (Private t) w ↔ (IsTrue keep × TreeWord pointer A keep t w)

abbrev pub TreesAreRead : Type 0
TreesAreRead = (pointer : ℕ) (test : ℕ → ℕ → Bool) (keep : Bool) → TreesRead pointer (holds test) keep

-- of the types at fault: a type has no layout exactly where it is at fault or holds by value one that is
abbrev pub FaultsAreFound : Type 0
FaultsAreFound = (t : Expanded) → has_no_layout t ≡ some_within (λ part. is_some (fault_of part)) t
