-- What a walk finds is what it answers for.
use Rattle.std.proofs.Common.{ℕ, Option, None, Some, Result, Ok, Err, IfOk, IfNone, IfSome}
use Rattle.tm_base.specs.declared.memory.Memory.{Memory}
use Rattle.tm_base.specs.Cells.{Word}
use Rattle.tm_walk.specs.declared.walking.Found.{Found}

-- the answer of a walk, by what it seeks
pub walk-answer : (Nothing : Type 0) (Finds : Word → ℕ → Type 0) (Empty : Type 0) (Is : Word → ℕ → Type 0) → (Nothing → Empty) → ((w : Word) (offset : ℕ) → Finds w offset → Is w offset)
    → (P : Option Found → Type 0) → (Empty → P None) → ((f : Found) → Is f.word f.offset → P (Some f))
    → (r : Result (Option Found) Memory) → IfOk r (λ answer. IfSome answer (λ f. Finds f.word f.offset)) → IfOk r (λ answer. IfNone answer Nothing) → IfOk r P
walk-answer Nothing Finds Empty Is none found P empty is (Err e) a b = tt
walk-answer Nothing Finds Empty Is none found P empty is (Ok None) a b = empty (none b)
walk-answer Nothing Finds Empty Is none found P empty is (Ok (Some f)) a b = is f (found f.word f.offset a)
