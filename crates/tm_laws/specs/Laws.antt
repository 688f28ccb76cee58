-- Laws of the definitions that need a search for their proof, which the functions of the crate have as
-- their contracts.
use Rattle.std.specs.Prelude.{◌≡◌, ℕ, ◌*◌, ◌≤◌, ◌⊎◌, ◌↔◌, Bool, IsTrue, length}
use Rattle.tm_base.specs.declared.answer.Answer.{Answer}
use Rattle.tm_base.specs.declared.ask.Ask.{Ask}
use Rattle.tm_base.specs.declared.assume.Assume.{Assume}
use Rattle.tm_base.specs.declared.ground.Ground.{Ground}
use Rattle.tm_base.specs.declared.world.World.{World}
use Rattle.tm_base.specs.Answers.{IsAnswer, NoSharedTexts}
use Rattle.tm_base.specs.Assumptions.{Includes}
use Rattle.tm_base.specs.Cells.{Word}
use Rattle.tm_base.specs.Compatible.{CompatibleTo, Compatible}
use Rattle.tm_base.specs.Expanded.{Expanded}
use Rattle.tm_base.specs.Tables.{Tables, expanded_in}
use Rattle.tm_base.specs.Transmutes.{Transmutes, IsUninhabited, IsSourceWord}
use Rattle.tm_base.specs.Worlds.{tables_of, IsTypeOver}

-- each type has no value, or one is known
abbrev pub TypesAreSettled : Type 0
TypesAreSettled = (s : Expanded) → IsUninhabited s ⊎ ((w : Word) × IsSourceWord s w)

-- what may be taken may be taken under more assumptions
abbrev pub MoreMayBeAssumed : Type 0
MoreMayBeAssumed =
    (tables : Tables) (more less : Assume) → Includes more less → (g h : Ground)
    → Transmutes (Compatible tables less) less (expanded_in tables g) (expanded_in tables h)
    → Transmutes (Compatible tables more) more (expanded_in tables g) (expanded_in tables h)

-- A test says exactly which references are compatible. It need look no deeper than a depth, which isn't
-- greater than the number of pairs of references.
pub record IsKnownAs (tables : Tables) (assume : Assume) (test : ℕ → ℕ → Bool) (depth : ℕ) : Type 0 where
  pub exact : (r t : ℕ) → IsTrue (test r t) ↔ Compatible tables assume r t
  pub shallow : depth ≤ length tables.refs * length tables.refs
  pub enough : (r t : ℕ) → CompatibleTo tables assume depth r t → Compatible tables assume r t

-- under each set of assumptions there are such a test and such a depth
abbrev pub CompatibilityIsKnown : World → Type 0
CompatibilityIsKnown world = (assume : Assume) → (test : ℕ → ℕ → Bool) × (depth : ℕ) × IsKnownAs (tables_of world) assume test depth

-- each question whose types are over the world has an answer
abbrev pub QuestionsHaveAnswers : World → Type 0
QuestionsHaveAnswers world =
    (ask : Ask) → IsTypeOver (tables_of world) ask.src → IsTypeOver (tables_of world) ask.dst
    → (answer : Answer) × IsAnswer (tables_of world) ask answer

-- Where no two types at fault that one side reaches share their text, the answer is the only one.
abbrev pub QuestionsHaveOneAnswer : World → Type 0
QuestionsHaveOneAnswer world =
    (ask : Ask) → IsTypeOver (tables_of world) ask.src → IsTypeOver (tables_of world) ask.dst → NoSharedTexts (tables_of world) ask
    → (a b : Answer) → IsAnswer (tables_of world) ask a → IsAnswer (tables_of world) ask b → a ≡ b
