-- What a list of terminals is made of when limits are counted: the terminals, and a mark wherever
-- something begins that is counted.
use Rattle.std.specs.Prelude.{List, [], ◌∷◌}
use Rattle.tm_parse.specs.declared.terminal.Terminal.{Terminal}
-- what begins; a type has so many types around it
pub use Rattle.tm_parse.specs.declared.mark.Mark.{Mark}
pub use Rattle.tm_parse.specs.declared.mark.Mark.TheVariants.{Definition as a_definition, Question as a_question, Lifetime as a_lifetime, Parameter as a_parameter, TypeParameter as a_type_parameter, Field as a_field, Variant as a_variant, TypeWithin as a_type}

-- what a terminal stands for: the length of an array, or anything else
pub data Role : Type 0 where
  plain : Role
  array_length : Role

pub data Event : Type 0 where
  terminal : Role → Terminal → Event
  mark : Mark → Event

-- the terminals alone
abbrev pub terminals : List Event → List Terminal
terminals [] = []
terminals (terminal role t ∷ events) = t ∷ terminals events
terminals (mark m ∷ events) = terminals events
