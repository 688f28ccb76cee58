-- For which cause a type has no layout. This project's.
use Rattle.std.specs.Prelude.{Option, None}
use Rattle.tm_base.specs.declared.answer.Why.{Why}
use Rattle.tm_base.specs.Expanded.{Expanded, Fields, Variants, tuple, array, wrap, named, no_fields, field, no_variants, variant}
use Rattle.tm_base.specs.Faults.{fault_of, or_else}

-- the type's own cause, else that of the first of its parts by value, in order, that has no layout
unfoldable mutual
  pub refusal_of : Expanded → Option Why
  refusal_of (tuple members) = or_else (fault_of (tuple members)) (field_refusal members)
  refusal_of (array t n) = or_else (fault_of (array t n)) (refusal_of t)
  refusal_of (wrap w t) = or_else (fault_of (wrap w t)) (refusal_of t)
  refusal_of (named profile id kind repr variants) = or_else (fault_of (named profile id kind repr variants)) (variant_refusal variants)
  refusal_of t = fault_of t

  pub field_refusal : Fields → Option Why
  field_refusal no_fields = None
  field_refusal (field public t rest) = or_else (refusal_of t) (field_refusal rest)

  pub variant_refusal : Variants → Option Why
  variant_refusal no_variants = None
  variant_refusal (variant value members rest) = or_else (field_refusal members) (variant_refusal rest)
