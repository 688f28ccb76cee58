-- What the writer of least sets keeps.
use Rattle.std.specs.Prelude.{ℕ, Bool, true, false, List, [], ◌∷◌, ◌++◌, codes}

-- a text of flags, and one word more where its flag is set
abbrev pub with_flag : List ℕ → Bool → List ℕ → List ℕ
with_flag text false word = text
with_flag [] true word = word
with_flag (b ∷ text) true word = (b ∷ text) ++ codes ", " ++ word

-- the word for no flags
abbrev pub or_nothing : List ℕ → List ℕ
or_nothing [] = codes "nothing"
or_nothing (b ∷ text) = b ∷ text
