-- The terminals at which a file may declare names.
use Rattle.std.specs.Prelude.{ℕ, Bool, List, [], ◌∷◌, All, IsTrue}
use Rattle.tm_parse.specs.Classes.{among}
use Rattle.tm_parse.specs.Types.{definition_names}
use Rattle.tm_parse.specs.declared.class.Class.TheVariants as c
use Rattle.tm_parse.specs.declared.terminal.Terminal.{Terminal}

-- a word that a definition may be called by
abbrev pub may_name : Terminal → Bool
may_name t = among definition_names t.class

abbrev pub is_lifetime : Terminal → Bool
is_lifetime t = among (c.Lifetime ∷ []) t.class

-- a test of places holds at each terminal of these that is of the kind
abbrev pub HoldsWhere : (Terminal → Bool) → (ℕ → Bool) → List Terminal → Type 0
HoldsWhere is_kind holds ts = All (λ t. IsTrue (is_kind t) → IsTrue (holds t.place)) ts
