-- In a judged type over a world no type that is held by value is at fault, so the fields of each stand apart.
use Rattle.std.proofs.Common.{refl, subst}
use Rattle.std.proofs.lemmas.Bool.{and_parts, not-true}
use Rattle.tm_base.specs.declared.ground.Ground.{Ground}
use Rattle.tm_base.specs.Expanded.{Expanded, Fields, Variants, too_deep, prim, never, unit, tuple, array, nonzero, phantom, wrap, ref, named, no_fields, field, no_variants, variant}
use Rattle.tm_base.specs.Parts.{some_within, is_too_deep, is_whole}
use Rattle.tm_base.specs.Reaches.{ChainIn, IsJudged}
use Rattle.tm_base.specs.Tables.{Tables, expanded_in}
use Rattle.tm_base.specs.Whole.{is_type_over}
use Rattle.tm_base.specs.Worlds.{IsTypeOver}
use Rattle.tm_base.proofs.HeldLemmas.{FieldsPass, VariantsPass, PartsPass, IsOfJudged, inside-judged}
use Rattle.tm_laws.specs.PlacesApart.{EachPart, EachField, EachVariant, EachWithin, HasNoFault, HasFieldsApart}
use Rattle.tm_laws.proofs.fields.PlacesTypes.{places-stand_apart}

module _ (Q : Expanded → Type 0) where
  -- What goes from a type to those right inside it, and gives a fact of each, gives the fact of all that
  -- the type holds by value.
  module _ (P : Expanded → Type 0) (gives : (t : Expanded) → Q t → P t) (goes_on : (t : Expanded) → Q t → PartsPass Q t) where
    mutual
      unfolding EachPart

      parts-hold : (t : Expanded) → PartsPass Q t → EachPart P t
      parts-hold (tuple members) h = fields-hold members h
      parts-hold (array t n) h = (gives t h, parts-hold t (goes_on t h))
      parts-hold (wrap w t) h = (gives t h, parts-hold t (goes_on t h))
      parts-hold (named profile id kind repr vs) h = variants-hold vs h
      parts-hold too_deep h = tt
      parts-hold (prim profile p) h = tt
      parts-hold never h = tt
      parts-hold unit h = tt
      parts-hold (nonzero profile p) h = tt
      parts-hold phantom h = tt
      parts-hold (ref profile r) h = tt

      fields-hold : (members : Fields) → FieldsPass Q members → EachField P members
      fields-hold no_fields h = tt
      fields-hold (field public t rest) (here, others) = (gives t here, parts-hold t (goes_on t here), fields-hold rest others)

      variants-hold : (vs : Variants) → VariantsPass Q vs → EachVariant P vs
      variants-hold no_variants h = tt
      variants-hold (variant value members rest) (here, others) = (fields-hold members here, variants-hold rest others)

module _ (tables : Tables) where
  abbrev part : Ground → Expanded
  part g = expanded_in tables g

  judged-faultless : (t : Expanded) → IsOfJudged tables t → HasNoFault t
  unfolding ChainIn
  judged-faultless t (g, judged, deep, e) = subst HasNoFault e (judged g (0, refl))

  -- a judged type over the tables, and all that it holds by value, have no fault
  pub faultless-within : (g : Ground) → IsTypeOver tables g → IsJudged tables g → EachWithin HasNoFault (part g)
  unfolding is_type_over
  faultless-within g over judged =
      let whole = (and_parts _ (is_whole (part g)) over).1 in
      let this : IsOfJudged tables (part g) = (g, judged, not-true (some_within is_too_deep (part g)) whole, refl) in
      (judged-faultless (part g) this, parts-hold (IsOfJudged tables) HasNoFault judged-faultless (inside-judged tables) (part g) (inside-judged tables (part g) this))

  -- so the fields of each stand apart
  pub judged-places : (g : Ground) → IsTypeOver tables g → IsJudged tables g → EachWithin HasFieldsApart (part g)
  judged-places g over judged = places-stand_apart (part g) (faultless-within g over judged)
