use Rattle.std.proofs.Common.{◌≡◌, ℕ, ◌≤◌, List, drop, length}
use Rattle.std.specs.HashMap.{get_by}
use Rattle.std.specs.List.{position_from}
use Rattle.std.specs.Option.{option_or}
use Rattle.std.specs.Str.{bytes_eq}
use Rattle.tm_names.specs.Source.{names_in}
use Rattle.tm_names.proofs.indexed.Definitions.indexed.Given as goal

-- A name's first definition is the one that was noted, or else the first of those that are left.
abbrev pub invariant-loop-number : goal.invariant-loop-number
invariant-loop-number l = record {
  within : l.number ≤ length l.decls;
  found : (bytes : List ℕ) → option_or (get_by (λ key. bytes_eq bytes key.now) l.firsts) (position_from (λ d. bytes_eq (names_in l.source d.name) bytes) l.number (drop l.number l.decls))
      ≡ position_from (λ d. bytes_eq (names_in l.source d.name) bytes) 0 l.decls;
}
