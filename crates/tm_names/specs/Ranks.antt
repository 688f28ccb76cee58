-- The order of the kinds of name faults.
use Rattle.std.specs.Prelude.{ℕ}
use Rattle.tm_base.specs.declared.limit.NameWhy.{NameWhy}
use Rattle.tm_base.specs.declared.limit.NameWhy.TheVariants.{Twice, Unknown, Arity, Lifetime, Discriminant, Infinite, BadRepr}

-- the number of a kind
abbrev pub rank : NameWhy → ℕ
rank Twice = 0
rank Unknown = 1
rank Arity = 2
rank Lifetime = 3
rank Discriminant = 4
rank Infinite = 5
rank BadRepr = 6
