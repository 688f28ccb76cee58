-- Definitions are indexed where each name leads to the first definition that has it, and they are no more
-- than a file may have.
use Rattle.std.specs.Prelude.{◌≡◌, ℕ, ◌≤◌, List, length}
use Rattle.std.specs.HashMap.{get_by}
use Rattle.std.specs.List.{position_from}
use Rattle.std.specs.Str.{bytes_eq}
use Rattle.tm_names.specs.declared.indexed.Definitions.{Definitions}

pub record IsIndexed (name : ℕ → List ℕ) (definitions : Definitions) : Type 0 where
  pub few : length definitions.decls.now ≤ 256
  pub found : (bytes : List ℕ)
      → get_by (λ key. bytes_eq bytes key.now) definitions.firsts ≡ position_from (λ d. bytes_eq (name d.name) bytes) 0 definitions.decls.now
