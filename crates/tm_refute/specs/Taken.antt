-- What is taken from the front of bytes: a part in its form, and what is left behind it.
use Rattle.std.specs.Prelude.{◌≡◌, ℕ, ◌+◌, ◌<◌, ◌^◌, Bool, true, false, ◌&&◌, nat_le, not, ◌==◌, List, [], ◌∷◌, ◌++◌, Option, Some, None}
use Rattle.std.specs.Borrow.{Bor}
use Rattle.std.specs.List.{list_all}
use Rattle.std.specs.Fmt.{decimal}

-- what follows doesn't begin with a byte that passes
abbrev pub Stops : (ℕ → Bool) → List ℕ → Type 0
Stops p [] = Unit {0}
Stops p (x ∷ xs) = p x ≡ false

-- any byte but one
abbrev pub but : ℕ → ℕ → Bool
but c x = not (x == c)

-- a byte of a decimal number
abbrev pub is_digit : ℕ → Bool
is_digit x = nat_le 48 x && nat_le x 57

-- bytes, what their front says, and what is left behind it
abbrev pub Front : Type 0 → Type 1
Front V = List ℕ → V → List ℕ → Type 0

-- what a whole text says was read, or it says nothing
abbrev pub ReadsAll : {V : Type 0} → (V → List ℕ → Type 0) → List ℕ → Option V → Type 0
ReadsAll {V} form text (Some v) = form v text
ReadsAll {V} form text None = (v : V) → form v text → ⊥

-- a front in its form was taken, or there is none
abbrev pub Takes : {V : Type 0} → Front V → List ℕ → List ℕ → Option V → Type 0
Takes {V} form before after (Some v) = form before v after
Takes {V} form before after None = (v : V) (rest : List ℕ) → form before v rest → ⊥

-- one digit was taken, or none comes next and nothing was
abbrev pub TakesDigit : List ℕ → List ℕ → Option ℕ → Type 0
TakesDigit before after (Some d) = (d < 10) × (before ≡ (48 + d) ∷ after)
TakesDigit before after None = Stops is_digit before × (after ≡ before)

-- the text itself was taken, or it doesn't come next and nothing was
abbrev pub TakesText : List ℕ → List ℕ → List ℕ → Bool → Type 0
TakesText text before after true = before ≡ text ++ after
TakesText text before after false = (after ≡ before) × ((rest : List ℕ) → before ≡ text ++ rest → ⊥)

-- a number in all its digits
pub record IsNumber (before : List ℕ) (n : ℕ) (after : List ℕ) : Type 0 where
  pub small : n < 2 ^ 32
  pub text_is : before ≡ decimal n ++ after
  pub stops : Stops is_digit after

-- a text, and behind it a number in all its digits
pub record IsNumbered (text before : List ℕ) (n : ℕ) (after : List ℕ) : Type 0 where
  pub behind : List ℕ
  pub text_is : before ≡ text ++ behind
  pub number : IsNumber behind n after

-- the front goes up to the first such byte, or to the end
pub record IsUpTo (end : ℕ) (before front after : List ℕ) : Type 0 where
  pub text_is : before ≡ front ++ after
  pub whole : list_all (but end) front ≡ true
  pub stops : Stops (but end) after

-- the text is the number's
abbrev pub IsWholeNumber : ℕ → List ℕ → Type 0
IsWholeNumber n text = (n < 2 ^ 32) × (text ≡ decimal n)

-- a line and its end were taken, or no line is ended
abbrev pub TakesLine : List ℕ → List ℕ → Option (Bor (List ℕ)) → Type 0
TakesLine before after (Some line) = (before ≡ line.now ++ (10 ∷ after)) × (list_all (but 10) line.now ≡ true)
TakesLine before after None = (text others : List ℕ) → before ≡ text ++ (10 ∷ others) → ⊥
