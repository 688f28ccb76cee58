-- What a name and a lifetime mean in a definition, and outside.
use Rattle.std.specs.Prelude.{ℕ, List, []}
use Rattle.tm_names.specs.declared.resolved.Life.{Life}
use Rattle.tm_names.specs.declared.resolving.sight.Sight.{Sight}
use Rattle.tm_names.specs.declared.resolving.sight.Sight.TheVariants.{Params, Declared}
use Rattle.tm_names.specs.Resolutions.{param_of, declared_of}

abbrev pub life_in : (ℕ → List ℕ) → Sight → ℕ → Life
life_in name (Params lifetimes types) = param_of name lifetimes.places.now
life_in name (Declared lifetimes) = declared_of name lifetimes.places.now

-- the type parameters in sight
abbrev pub types_in : Sight → List ℕ
types_in (Params lifetimes types) = types.places.now
types_in (Declared lifetimes) = []
