-- The counts that stay within their limits, each with the weights of the marks that it goes up by.
use Rattle.std.proofs.Common.{ℕ, zero, arith}
use Rattle.tm_base.specs.declared.limit.LimitKind.TheVariants as limit
use Rattle.tm_parse.proofs.limits.Weights.{Counter}
use Rattle.tm_parse.specs.Events.{Mark, a_definition, a_question, a_lifetime, a_parameter, a_type_parameter, a_field, a_variant, a_type}

-- 1 for a mark of the kind
abbrev pub definitions : Mark → ℕ
definitions a_definition = 1
definitions m = 0

abbrev pub questions : Mark → ℕ
questions a_question = 1
questions m = 0

abbrev pub lifetimes : Mark → ℕ
lifetimes a_lifetime = 1
lifetimes m = 0

abbrev pub parameters : Mark → ℕ
parameters a_parameter = 1
parameters m = 0

abbrev pub type_parameters : Mark → ℕ
type_parameters a_type_parameter = 1
type_parameters m = 0

abbrev pub fields : Mark → ℕ
fields a_field = 1
fields m = 0

abbrev pub variants : Mark → ℕ
variants a_variant = 1
variants m = 0

abbrev pub types : Mark → ℕ
types (a_type depth) = 1
types m = 0

-- 1 for a type with no other around it
abbrev pub outermost : Mark → ℕ
outermost (a_type zero) = 1
outermost m = 0

abbrev pub never : Mark → ℕ
never m = 0

pub definition_counter : Counter limit.Definitions (λ n. n.definitions) definitions never
definition_counter = record { adds = λ c m r. grind arith; holds = λ c m r h l. grind arith }

pub question_counter : Counter limit.Questions (λ n. n.questions) questions never
question_counter = record { adds = λ c m r. grind arith; holds = λ c m r h l. grind arith }

pub lifetime_counter : Counter limit.Lifetimes (λ n. n.lifetimes) lifetimes never
lifetime_counter = record { adds = λ c m r. grind arith; holds = λ c m r h l. grind arith }

pub parameter_counter : Counter limit.Parameters (λ n. n.parameters) parameters definitions
parameter_counter = record { adds = λ c m r. grind arith; holds = λ c m r h l. grind arith }

pub type_parameter_counter : Counter limit.TypeParameters (λ n. n.type_parameters) type_parameters definitions
type_parameter_counter = record { adds = λ c m r. grind arith; holds = λ c m r h l. grind arith }

pub field_counter : Counter limit.Fields (λ n. n.fields) fields definitions
field_counter = record { adds = λ c m r. grind arith; holds = λ c m r h l. grind arith }

pub variant_counter : Counter limit.Variants (λ n. n.variants) variants definitions
variant_counter = record { adds = λ c m r. grind arith; holds = λ c m r h l. grind arith }

pub type_counter : Counter limit.TypeNodes (λ n. n.nodes) types outermost
type_counter = record { adds = λ c m r. grind arith; holds = λ c m r h l. grind arith }
