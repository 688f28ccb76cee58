-- A cause for which a type has no layout is known exactly where it is or holds by value a type that has a cause.
use Rattle.std.proofs.Common.{◌≡◌, refl, sym, ap, ◌∙◌, false, ◌||◌, Option, Some, None}
use Rattle.std.specs.Option.{is_some, option_or}
use Rattle.tm_base.specs.declared.answer.Why.{Why}
use Rattle.tm_base.specs.Expanded.{Expanded, Fields, Variants, too_deep, prim, never, unit, tuple, array, nonzero, phantom, wrap, ref, named, no_fields, field, no_variants, variant}
use Rattle.tm_base.specs.Faults.{fault_of, has_cause, has_no_layout, or_else}
use Rattle.tm_base.specs.Parts.{some_part, some_field, some_variant}
use Rattle.tm_base.proofs.FaultLemmas.{cause-faulty}
use Rattle.tm_layout.specs.Refusals.{refusal_of, field_refusal, variant_refusal}

pub option_or-or_else : (a b : Option Why) → option_or a b ≡ or_else a b
option_or-or_else None b = refl
option_or-or_else (Some why) b = refl

is_some-or_else : (a b : Option Why) → is_some (or_else a b) ≡ (is_some a || is_some b)
is_some-or_else None b = refl
is_some-or_else (Some why) b = refl

-- of two causes there is none, where neither is
pub none-first : (a b : Option Why) → or_else a b ≡ None → a ≡ None
none-first None b e = refl
none-first (Some why) b e = e

pub none-second : (a b : Option Why) → or_else a b ≡ None → b ≡ None
none-second None b e = e
none-second (Some why) b e = cc

or_else-none : (a : Option Why) → a ≡ or_else a None
or_else-none None = refl
or_else-none (Some why) = refl

-- where it's known for which cause the parts of a type have no layout
refused-from : (t : Expanded) (below : Option Why) → refusal_of t ≡ or_else (fault_of t) below → is_some below ≡ some_part has_cause t → is_some (refusal_of t) ≡ has_no_layout t
refused-from t below e h =
    ap is_some e ∙ is_some-or_else (fault_of t) below ∙ ap (λ b. is_some (fault_of t) || b) h ∙ sym (cause-faulty t)

mutual
  unfolding refusal_of some_part

  pub refused-exactly : (t : Expanded) → is_some (refusal_of t) ≡ has_no_layout t
  refused-exactly too_deep = refused-from too_deep None (or_else-none (fault_of too_deep)) refl
  refused-exactly (prim profile p) = refused-from (prim profile p) None (or_else-none (fault_of (prim profile p))) refl
  refused-exactly never = refused-from never None (or_else-none (fault_of never)) refl
  refused-exactly unit = refused-from unit None (or_else-none (fault_of unit)) refl
  refused-exactly (tuple members) = refused-from (tuple members) (field_refusal members) refl (fields-refused members)
  refused-exactly (array t n) = refused-from (array t n) (refusal_of t) refl (refused-exactly t)
  refused-exactly (nonzero profile p) = refused-from (nonzero profile p) None (or_else-none (fault_of (nonzero profile p))) refl
  refused-exactly phantom = refused-from phantom None (or_else-none (fault_of phantom)) refl
  refused-exactly (wrap w t) = refused-from (wrap w t) (refusal_of t) refl (refused-exactly t)
  refused-exactly (ref profile r) = refused-from (ref profile r) None (or_else-none (fault_of (ref profile r))) refl
  refused-exactly (named profile id kind repr variants) =
      refused-from (named profile id kind repr variants) (variant_refusal variants) refl (variants-refused variants)

  pub fields-refused : (members : Fields) → is_some (field_refusal members) ≡ some_field has_cause members
  fields-refused no_fields = refl
  fields-refused (field public t rest) =
      is_some-or_else (refusal_of t) (field_refusal rest)
      ∙ ap (λ b. b || is_some (field_refusal rest)) (refused-exactly t) ∙ ap (λ b. has_no_layout t || b) (fields-refused rest)

  pub variants-refused : (variants : Variants) → is_some (variant_refusal variants) ≡ some_variant has_cause variants
  variants-refused no_variants = refl
  variants-refused (variant value members rest) =
      is_some-or_else (field_refusal members) (variant_refusal rest)
      ∙ ap (λ b. b || is_some (variant_refusal rest)) (fields-refused members) ∙ ap (λ b. some_field has_cause members || b) (variants-refused rest)

none-from : (o : Option Why) → is_some o ≡ false → o ≡ None
none-from None h = refl
none-from (Some why) h = cc

-- a type that has a layout has no cause
pub layout-unrefused : (t : Expanded) → has_no_layout t ≡ false → refusal_of t ≡ None
layout-unrefused t h = none-from (refusal_of t) (refused-exactly t ∙ h)
