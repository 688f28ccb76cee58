-- What is taken from a source that tells which bytes it has left, and what is added to a sink that
-- tells which bytes were written. Of one that told nothing, nothing is said.
use Rattle.std.specs.Prelude.{◌≡◌, ℕ, ◌+◌, ◌<◌, ◌≤◌, Option, Some, IfSome, List, [], ◌++◌, length, drop}

-- the bytes are all that were told, and none is left
abbrev pub TakesAll : Option (List ℕ) → Option (List ℕ) → List ℕ → Type 0
TakesAll before now bytes = IfSome before (λ told. (bytes ≡ told) × (now ≡ Some []))

-- more bytes were told than the limit, and one more than the limit was taken
abbrev pub TakesPast : Option (List ℕ) → Option (List ℕ) → ℕ → Type 0
TakesPast before now limit =
    IfSome before (λ told. (limit < length told) × (now ≡ Some (drop (limit + 1) told)))

-- a front of the told bytes was taken, of at most so many, and the rest is left
abbrev pub TakesAtMost : Option (List ℕ) → Option (List ℕ) → ℕ → Type 0
TakesAtMost before now most =
    IfSome before (λ told. (front : List ℕ) × (rest : List ℕ) × (length front ≤ most)
    × (told ≡ front ++ rest) × (now ≡ Some rest))

-- the bytes were added, all of them
abbrev pub AddsAll : Option (List ℕ) → Option (List ℕ) → List ℕ → Type 0
AddsAll before now bytes = IfSome before (λ told. now ≡ Some (told ++ bytes))

-- a prefix of the bytes was added
abbrev pub AddsPrefix : Option (List ℕ) → Option (List ℕ) → List ℕ → Type 0
AddsPrefix before now bytes =
    IfSome before (λ told. (front : List ℕ) × (rest : List ℕ) × (bytes ≡ front ++ rest)
    × (now ≡ Some (told ++ front)))
