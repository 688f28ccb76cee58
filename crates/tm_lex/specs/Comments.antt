-- Block comments, which nest. The Rust Reference, "Comments". 47 is `/` and 42 is `*`.
use Rattle.std.specs.Prelude.{◌≡◌, ◌==◌, ℕ, Bool, false, ◌&&◌, List, [], ◌∷◌, ◌++◌, ⊤}

-- the marks `/*` and `*/`
abbrev pub is_opening : ℕ → ℕ → Bool
is_opening c d = c == 47 && d == 42

abbrev pub is_closing : ℕ → ℕ → Bool
is_closing c d = c == 42 && d == 47

-- the character begins neither mark
abbrev pub NoMark : ℕ → List ℕ → Type 0
NoMark c [] = ⊤
NoMark c (d ∷ ds) = (is_opening c d ≡ false) × (is_closing c d ≡ false)

-- `/*` stands here
abbrev pub begins_block : ℕ → List ℕ → Bool
begins_block c [] = false
begins_block c (d ∷ ds) = is_opening c d

-- what stands behind a `/*`, up to and with the `*/` that matches it
pub data IsBody : List ℕ → Type 0 where
  closing : IsBody (42 ∷ 47 ∷ [])
  nested : (inner more : List ℕ) → IsBody inner → IsBody more → IsBody (47 ∷ 42 ∷ (inner ++ more))
  other : (c : ℕ) (more : List ℕ) → NoMark c more → IsBody more → IsBody (c ∷ more)
