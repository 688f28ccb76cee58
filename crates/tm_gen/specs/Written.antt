-- Texts that are written by draws.
use Rattle.std.specs.Prelude.{ℕ, zero, suc, List, [], ◌++◌}

-- a text, and the state behind its draws
pub record Written : Type 0 where
  pub text : List ℕ
  pub state : ℕ

-- a text that takes no draw
abbrev pub plain : List ℕ → ℕ → Written
plain text x = record { text = text; state = x }

-- a part, and another one from the state behind it
abbrev pub followed : Written → (ℕ → Written) → Written
followed first others =
    let rest = others first.state in
    record { text = first.text ++ rest.text; state = rest.state }

-- the parts of the numbers from 0 to below n, each from the state behind the one before
unfoldable pub numbered : (ℕ → ℕ → Written) → ℕ → ℕ → Written
numbered part zero x = plain [] x
numbered part (suc n) x = followed (numbered part n x) (part n)
