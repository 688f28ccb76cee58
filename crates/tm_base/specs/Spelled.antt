-- A type as it is spelled: its references are followed, and so are the arguments of its named types,
-- whose fields are not.
use Rattle.std.specs.Prelude.{ℕ, zero, suc, Bool, true, false, ◌&&◌, ◌+◌, List, [], ◌∷◌, Option, Some, None, slice_get}
use Rattle.tm_base.specs.declared.cell.RefId.{RefId}
use Rattle.tm_base.specs.declared.definition.DefId.{DefId}
use Rattle.tm_base.specs.declared.definition.NamedRow.{NamedRow}
use Rattle.tm_base.specs.declared.definition.RefRow.{RefRow}
use Rattle.tm_base.specs.declared.definition.RegionId.{RegionId}
use Rattle.tm_base.specs.declared.ground.Ground.{Ground, Row_of-Ground, end_of-Ground, more_of-Ground, Prim, Never, Unit as the_unit, Tuple', Array', Named, NonZero, Wrap', Ref}
use Rattle.tm_base.specs.declared.ground.NamedId.{NamedId}
use Rattle.tm_base.specs.declared.ground.Primitive.{Primitive}
use Rattle.tm_base.specs.declared.ground.Wrapper.{Wrapper}
use Rattle.tm_base.specs.declared.limit.LimitKind.TheVariants.{NamedTypes, References}
use Rattle.tm_base.specs.Limits.{limit_number}

mutual
  pub data Spelled : Type 0 where
    -- a type that leads back to itself, or a number that names none
    endless : Spelled
    prim : Primitive → Spelled
    never : Spelled
    unit : Spelled
    tuple : Elements → Spelled
    array : Spelled → ℕ → Spelled
    -- its definition, its regions, and its arguments
    named : DefId → List RegionId → Elements → Spelled
    nonzero : Primitive → Spelled
    wrap : Wrapper → Spelled → Spelled
    -- whether it is `&mut`, its region, and its pointee
    ref : Bool → RegionId → Spelled → Spelled

  pub data Elements : Type 0 where
    no_elements : Elements
    element : Spelled → Elements → Elements

-- a type, where a name and a reference are spelled as these say
module _ (name : NamedId → Spelled) (reference : RefId → Spelled) where
  unfoldable mutual
    pub spell : Ground → Spelled
    spell (Prim p) = prim p
    spell Never = never
    spell the_unit = unit
    spell (Tuple' shape row) = tuple (spell_all row)
    spell (Array' shape row n) = array (spell_first row) n
    spell (Named id) = name id
    spell (NonZero p) = nonzero p
    spell (Wrap' w shape row) = wrap w (spell_first row)
    spell (Ref r) = reference r

    pub spell_all : {m : _} → Row_of-Ground m → Elements
    spell_all end_of-Ground = no_elements
    spell_all (more_of-Ground g gs) = element (spell g) (spell_all gs)

    pub spell_first : {m : _} → Row_of-Ground m → Spelled
    spell_first end_of-Ground = endless
    spell_first (more_of-Ground g gs) = spell g

-- some types, each spelled
abbrev pub spelled_all : (Ground → Spelled) → List Ground → Elements
spelled_all one [] = no_elements
spelled_all one (g ∷ gs) = element (one g) (spelled_all one gs)

-- a named type with its arguments, spelled
abbrev pub follow_name : (Ground → Spelled) → Option NamedRow → Spelled
follow_name argument None = endless
follow_name argument (Some row) = named row.def row.regions (spelled_all argument row.args)

-- a reference with its pointee, spelled
abbrev pub follow_row : (Ground → Spelled) → Option RefRow → Spelled
follow_row pointee None = endless
follow_row pointee (Some row) = ref row.mutable row.region (pointee row.pointee)

-- How many names and references may be followed behind one another: a world has no more of both, so a
-- longer way comes back to where it was.
abbrev pub following_limit : ℕ
following_limit = limit_number NamedTypes + limit_number References

-- a type, where so many names and references may be followed behind one another
unfoldable pub spelled_within : ℕ → List NamedRow → List RefRow → Ground → Spelled
spelled_within zero names refs = spell (λ id. endless) (λ r. endless)
spelled_within (suc n) names refs =
    spell (λ id. follow_name (spelled_within n names refs) (slice_get names id.0)) (λ r. follow_row (spelled_within n names refs) (slice_get refs r.0))

-- a type as a world's named types and references have it
abbrev pub spelled : List NamedRow → List RefRow → Ground → Spelled
spelled = spelled_within following_limit

-- no name and no reference leads back to itself, and each number names one
unfoldable mutual
  pub ends : Spelled → Bool
  ends endless = false
  ends (tuple members) = all_end members
  ends (array t n) = ends t
  ends (named def regions args) = all_end args
  ends (wrap w t) = ends t
  ends (ref mutable region t) = ends t
  ends t = true

  pub all_end : Elements → Bool
  all_end no_elements = true
  all_end (element t rest) = ends t && all_end rest
