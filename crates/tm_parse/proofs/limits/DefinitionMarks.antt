-- No definition begins within a definition.
use Rattle.std.proofs.Common.{ℕ, refl}
use Rattle.tm_parse.proofs.limits.Counters.{definitions}
use Rattle.tm_parse.proofs.limits.Without.{Without, one_without, to_without, seq_without, or_without, mark_without, optional_without, listed_without, listed1_without, lifetimes_then_without, behind_without, plain_without, type_without}
use Rattle.tm_parse.specs.Definitions as d
use Rattle.tm_parse.specs.Types.{SpellsType}

pub parameters_without : Without definitions (d.parameters).spells
parameters_without = to_without (optional_without (to_without (seq_without one_without (seq_without (lifetimes_then_without (mark_without refl one_without) (mark_without refl one_without)) one_without))))

module _ (levels : ℕ) where
  types : (depth : ℕ) → Without definitions (SpellsType depth levels)
  types depth = type_without levels depth (λ k l. refl)

  visibility-without : Without definitions (d.visibility).spells
  visibility-without = to_without (seq_without one_without (optional_without (to_without (seq_without one_without (seq_without one_without one_without)))))

  field-without : Without definitions (d.field levels).spells
  field-without = mark_without refl (to_without (seq_without (optional_without visibility-without) (seq_without one_without (seq_without one_without (types 0)))))

  place-without : Without definitions (d.place levels).spells
  place-without = mark_without refl (or_without (to_without (types 0)) (to_without (seq_without one_without
      (or_without (to_without (mark_without refl (plain_without (types 1)))) (to_without (seq_without one_without
      (or_without (to_without (seq_without one_without (seq_without one_without (types 0)))) (to_without (mark_without refl (behind_without (types 1)))))))))))

  variant-fields-without : Without definitions (d.variant_fields levels).spells
  variant-fields-without = or_without (to_without (seq_without one_without (seq_without (listed_without (mark_without refl (to_without (seq_without one_without (seq_without one_without (types 0)))))) one_without)))
      (to_without (seq_without one_without (seq_without (listed_without (mark_without refl (to_without (types 0)))) one_without)))

  discriminant-without : Without definitions (d.discriminant).spells
  discriminant-without = to_without (seq_without one_without (seq_without (optional_without one_without) one_without))

  variant-without : Without definitions (d.variant levels).spells
  variant-without = mark_without refl (to_without (seq_without one_without (seq_without (optional_without variant-fields-without) (optional_without discriminant-without))))

  pub struct_without : Without definitions (d.struct_body levels).spells
  struct_without = or_without (to_without one_without) (or_without (to_without (to_without (seq_without one_without (seq_without (listed_without field-without) one_without))))
      (to_without (seq_without (to_without (seq_without one_without (seq_without (listed_without place-without) one_without))) one_without)))

  pub union_without : Without definitions (d.union_body levels).spells
  union_without = to_without (to_without (seq_without one_without (seq_without (listed1_without field-without) one_without)))

  pub enum_without : Without definitions (d.enum_body levels).spells
  enum_without = to_without (seq_without one_without (seq_without (listed_without variant-without) one_without))
