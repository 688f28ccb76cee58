-- How to show that a type is judged, and that a fit is the word itself.
use Rattle.std.proofs.Common.{◌≡◌, ℕ, zero, suc, ◌-◌, refl, ap, subst, List, [], ◌∷◌, length, take, arith, None, append-nil}
use Rattle.std.specs.List.{Contains}
use Rattle.tm_base.specs.declared.ground.Ground.{Ground}
use Rattle.tm_base.specs.Cells.{Word, fit}
use Rattle.tm_base.specs.Faults.{fault_of}
use Rattle.tm_base.specs.Reaches.{ChainIn, Enters, IsJudged}
use Rattle.tm_base.specs.Tables.{Tables, expanded_in}

-- what each step keeps, a way of any length keeps
pub ChainIn-keeps : {X : Type 0} (Step : X → X → Type 0) (P : X → Type 0) → ((a b : X) → P a → Step a b → P b) → (n : ℕ) (a b : X) → P a → ChainIn Step n a b → P b
unfolding ChainIn
ChainIn-keeps Step P keeps zero a b p e = subst P e p
ChainIn-keeps Step P keeps (suc n) a b p (next, step, way) = ChainIn-keeps Step P keeps n next b (keeps a next p step) way

-- A type is judged where it is one of some types that none leads out of, and none of which is at fault.
pub IsJudged-from : (tables : Tables) (P : Ground → Type 0) → ((g h : Ground) → P g → Enters tables g h → P h) → ((g : Ground) → P g → fault_of (expanded_in tables g) ≡ None) → (g : Ground) → P g → IsJudged tables g
IsJudged-from tables P closed sound g p h (n, way) = sound h (ChainIn-keeps (Enters tables) P closed n g h p way)

pub Contains-none : {X : Type 0} (x : X) → Contains [] x → ⊥
Contains-none x (k, below, e) = absurd (omega arith)

pub Contains-one : {X : Type 0} (y x : X) → Contains (y ∷ []) x → y ≡ x
Contains-one y x (zero, below, e) = e
Contains-one y x (suc k, below, e) = absurd (omega arith)

take-all : {X : Type 0} (xs : List X) → take (length xs) xs ≡ xs
take-all [] = refl
take-all (x ∷ xs) = ap (λ ys. x ∷ ys) (take-all xs)

-- a word that has the size already is its own fit
pub fit-same : (w : Word) (m : ℕ) → length w ≡ m → fit w m ≡ w
fit-same w m e =
    let none : m - length w ≡ 0 = omega arith in
    let front : take m w ≡ w = subst (λ (k : ℕ). take k w ≡ w) e (take-all w) in
    rw (none, front) (append-nil w)
