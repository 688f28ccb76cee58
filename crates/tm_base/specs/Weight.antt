-- The weight of a type, by which it is too large: about how many cells its layout is written with.
-- This project's.
use Rattle.std.specs.Prelude.{ℕ, ◌+◌, ◌*◌, max, List, [], ◌∷◌}
use Rattle.tm_base.specs.declared.definition.Kind.{Kind}
use Rattle.tm_base.specs.declared.definition.Kind.TheVariants.{Struct, Union, Enum}
use Rattle.tm_base.specs.declared.definition.Repr.{Repr}
use Rattle.tm_base.specs.declared.ground.Wrapper.{Wrapper}
use Rattle.tm_base.specs.declared.ground.Wrapper.TheVariants.{Option as option, MaybeUninit}
use Rattle.tm_base.specs.declared.profile.Profile.{Profile}
use Rattle.tm_base.specs.Expanded.{Expanded, Fields, Variants, too_deep, prim, never, unit, tuple, array, nonzero, phantom, wrap, ref, named, no_fields, field, no_variants, variant}
use Rattle.tm_base.specs.Layout.{prim_size, only, tag_layout, size_of}
use Rattle.tm_base.specs.Profiles.{pointer_size}

-- the greatest weight of a type that isn't too large
abbrev pub weight_limit : ℕ
weight_limit = 65536

-- what a wrapper adds to its argument's weight, where that has n bytes
abbrev pub wrapper_weight : Wrapper → ℕ → ℕ
wrapper_weight option n = n
wrapper_weight MaybeUninit n = n
wrapper_weight w n = 0

-- weights together, each counted as the number at least
abbrev pub sum_from : ℕ → List ℕ → ℕ
sum_from least [] = 0
sum_from least (w ∷ ws) = max least w + sum_from least ws

-- those of the fields of each variant with its tag, each variant counted as the number at least
abbrev pub variants_sum_from : ℕ → ℕ → List (List ℕ) → ℕ
variants_sum_from least tag [] = 0
variants_sum_from least tag (ws ∷ others) = max least (tag + sum_from 0 ws) + variants_sum_from least tag others

-- the weight of a definition of so many bytes, whose variants' fields have these weights
abbrev pub named_weight : Profile → Kind → Repr → ℕ → List (List ℕ) → ℕ
named_weight profile Struct repr size weights = max (max 1 size) (sum_from 0 (only weights))
named_weight profile Union repr size weights = sum_from (max 1 size) (only weights)
named_weight profile Enum repr size weights = variants_sum_from (max 1 size) (tag_layout profile repr.tag).size weights

unfoldable mutual
  pub weight_of : Expanded → ℕ
  weight_of too_deep = 1
  weight_of (prim profile p) = prim_size profile p
  weight_of never = 1
  weight_of unit = 1
  weight_of (tuple members) = 1
  weight_of (array t n) = max 1 (n * weight_of t)
  weight_of (nonzero profile p) = prim_size profile p
  weight_of phantom = 1
  weight_of (wrap w t) = weight_of t + wrapper_weight w (size_of t)
  weight_of (ref profile r) = pointer_size profile
  weight_of (named profile id kind repr variants) =
      named_weight profile kind repr (size_of (named profile id kind repr variants)) (variant_weights variants)

  pub field_weights : Fields → List ℕ
  field_weights no_fields = []
  field_weights (field public t rest) = weight_of t ∷ field_weights rest

  pub variant_weights : Variants → List (List ℕ)
  variant_weights no_variants = []
  variant_weights (variant value members rest) = field_weights members ∷ variant_weights rest
