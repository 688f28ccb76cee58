-- How words use options: which options there are, how each is written, and which uses of them the words are.
use Rattle.std.specs.Prelude.{ℕ, ◌==◌, Bool, true, false, if◌then◌else◌, Option, Some, None, option_map, option_and_then, List, [], ◌∷◌, ◌++◌, length, take, drop, find, codes, bytes_eq}
use Rattle.std.specs.List.{before_first, after_first, list_any}

-- the names of the options, and whether each has a value
unfoldable pub options : List (List ℕ × Bool)
options =
    (codes "summary", false) ∷ (codes "generate", true) ∷ (codes "profile", true) ∷ (codes "needs", false)
    ∷ (codes "matrix", false) ∷ (codes "bytes", true) ∷ (codes "refute", true) ∷ (codes "verify", false) ∷ []

abbrev pub option_named : List ℕ → Option (List ℕ × Bool)
option_named name = find (λ o. bytes_eq o.0 name) options

-- a use of an option: its name, and the text of its value if it is given one
abbrev pub Use : Type 0
Use = List ℕ × Option (List ℕ)

abbrev pub is_equals : ℕ → Bool
is_equals b = b == 0x3D

-- a name, and behind the first `=` a value
abbrev pub name_and_value : List ℕ → Use
name_and_value text = (before_first is_equals text, if list_any is_equals text then Some (after_first is_equals text) else None)

abbrev pub begins_with : List ℕ → List ℕ → Bool
begins_with start word = bytes_eq start (take (length start) word)

-- what `--name` and `--name=value` write
abbrev pub written : List ℕ → Option Use
written word = if begins_with (codes "--") word then Some (name_and_value (drop 2 word)) else None

-- one use more before others
abbrev pub before_uses : Use → Option (List Use) → Option (List Use)
before_uses one = option_map (λ uses. one ∷ uses)

-- the uses of a word that writes an option and of those behind it, where the option has no value, where its value
-- stands in the same word, and where it is to stand in the next one
abbrev pub first_use : Option (List ℕ × Bool) → Use → Option (List Use) → Option (List Use) → Option (List Use)
first_use None one behind behind_value = None
first_use (Some (known, false)) (name, None) behind behind_value = before_uses (name, None) behind
first_use (Some (known, false)) (name, Some value) behind behind_value = None
first_use (Some (known, true)) (name, Some value) behind behind_value = before_uses (name, Some value) behind
first_use (Some (known, true)) (name, None) behind behind_value = behind_value

-- the uses that the words are, one after another, where an option may wait for its value: one that stands in a
-- word of its own doesn't begin with `-`
unfoldable pub uses_of : Option (List ℕ) → List (List ℕ) → Option (List Use)
uses_of None [] = Some []
uses_of (Some name) [] = None
uses_of None (word ∷ words) =
    option_and_then (λ one. first_use (option_named one.0) one (uses_of None words) (uses_of (Some one.0) words)) (written word)
uses_of (Some name) (word ∷ words) = if begins_with (codes "-") word then None else before_uses (name, Some word) (uses_of None words)

abbrev pub is_used : List ℕ → List Use → Bool
is_used name uses = list_any (λ one. bytes_eq one.0 name) uses

-- one use more behind others, where its option isn't used yet
abbrev pub with_use : List Use → Use → Option (List Use)
with_use uses one = if is_used one.0 uses then None else Some (uses ++ one ∷ [])

-- further uses behind others, where no option is used twice
unfoldable pub with_uses : List Use → List Use → Option (List Use)
with_uses uses [] = Some uses
with_uses uses (one ∷ more) = option_and_then (λ all. with_uses all more) (with_use uses one)

-- which options are given, and with which value
pub record Given : Type 0 where
  pub is_given : List ℕ → Bool
  pub value : List ℕ → Option (List ℕ)

abbrev pub given_by : List Use → Given
given_by uses = record { is_given = λ name. is_used name uses; value = λ name. option_and_then (λ one. one.1) (find (λ one. bytes_eq one.0 name) uses) }
