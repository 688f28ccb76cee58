-- Of some types a cause holds exactly where one of them is at fault: the last causes are put off only where a
-- part has one.
use Rattle.std.proofs.Common.{◌≡◌, refl, ap, ◌∙◌, Bool, true, false, ◌||◌, if◌then◌else◌, Option, Some, None}
use Rattle.std.specs.Option.{is_some}
use Rattle.tm_base.specs.declared.answer.Why.{Why}
use Rattle.tm_base.specs.Expanded.{Expanded, Fields, Variants, too_deep, prim, never, unit, tuple, array, nonzero, phantom, wrap, ref, named, no_fields, field, no_variants, variant}
use Rattle.tm_base.specs.Faults.{own_fault, layout_fault, or_else, has_cause, fault_of}
use Rattle.tm_base.specs.Parts.{some_part, some_field, some_variant}

-- a type at fault
abbrev is_faulty : Expanded → Bool
is_faulty t = is_some (fault_of t)

found : (own layout : Option Why) (below : Bool)
    → ((is_some own || is_some layout) || below) ≡ (is_some (or_else own (if below then None else layout)) || below)
found (Some why) layout below = refl
found None layout true = or_true (is_some layout) where
  or_true : (b : Bool) → (b || true) ≡ true
  or_true true = refl
  or_true false = refl
found None layout false = refl

-- a type has a cause or holds one that has, exactly where it is at fault or holds one that has a cause
pub cause-faulty : (t : Expanded) → (has_cause t || some_part has_cause t) ≡ (is_faulty t || some_part has_cause t)
unfolding fault_of
cause-faulty t = found (own_fault t) (layout_fault t) (some_part has_cause t)

mutual
  unfolding some_part

  -- some part has a cause exactly where some part is at fault
  pub parts-faulty : (t : Expanded) → some_part has_cause t ≡ some_part is_faulty t
  parts-faulty too_deep = refl
  parts-faulty (prim _ p) = refl
  parts-faulty never = refl
  parts-faulty unit = refl
  parts-faulty (tuple members) = fields-faulty members
  parts-faulty (array t n) = cause-faulty t ∙ ap (λ b. is_faulty t || b) (parts-faulty t)
  parts-faulty (nonzero _ p) = refl
  parts-faulty phantom = refl
  parts-faulty (wrap w t) = cause-faulty t ∙ ap (λ b. is_faulty t || b) (parts-faulty t)
  parts-faulty (ref _ r) = refl
  parts-faulty (named _ id kind repr variants) = variants-faulty variants

  pub fields-faulty : (members : Fields) → some_field has_cause members ≡ some_field is_faulty members
  fields-faulty no_fields = refl
  fields-faulty (field public t rest) =
      let here : (has_cause t || some_part has_cause t) ≡ (is_faulty t || some_part is_faulty t) = cause-faulty t ∙ ap (λ b. is_faulty t || b) (parts-faulty t) in
      let behind = fields-faulty rest in
      ap (λ b. b || some_field has_cause rest) here ∙ ap (λ b. (is_faulty t || some_part is_faulty t) || b) behind

  pub variants-faulty : (variants : Variants) → some_variant has_cause variants ≡ some_variant is_faulty variants
  variants-faulty no_variants = refl
  variants-faulty (variant value members rest) =
      ap (λ b. b || some_variant has_cause rest) (fields-faulty members) ∙ ap (λ b. some_field is_faulty members || b) (variants-faulty rest)

-- a type has no layout exactly where it is at fault or holds by value a type at fault
pub no_layout-faulty : (t : Expanded) → (has_cause t || some_part has_cause t) ≡ (is_faulty t || some_part is_faulty t)
no_layout-faulty t = cause-faulty t ∙ ap (λ b. is_faulty t || b) (parts-faulty t)
