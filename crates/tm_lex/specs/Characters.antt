-- Classes of characters, and runs of them.
use Rattle.std.specs.Prelude.{◌≡◌, ℕ, ◌==◌, Bool, true, false, List, [], ◌∷◌, length, ⊤, if◌then◌else◌}
use Rattle.std.specs.List.{list_all, list_any}
use Rattle.std.specs.Str.{encode_utf8_all}

-- the character is one of these
abbrev pub is_among : List ℕ → ℕ → Bool
is_among those c = list_any (λ d. c == d) those

-- no character that passes the test stands at the front
abbrev pub Stops : (ℕ → Bool) → List ℕ → Type 0
Stops p [] = ⊤
Stops p (c ∷ cs) = p c ≡ false

-- each character of the run passes the test, and the run is the longest: what follows it stops
abbrev pub IsRun : (ℕ → Bool) → List ℕ → List ℕ → Type 0
IsRun p run rest = (list_all p run ≡ true) × Stops p rest

-- the longest run at the front
abbrev pub run_of : (ℕ → Bool) → List ℕ → List ℕ
run_of p [] = []
run_of p (c ∷ cs) = if p c then c ∷ run_of p cs else []

-- how many bytes some characters have in UTF-8
abbrev pub bytes_of : List ℕ → ℕ
bytes_of cs = length (encode_utf8_all cs)
