-- A named type over some tables that is judged, and what the law on judged types says of it.
use Rattle.std.proofs.Common.{◌⊎◌, inl, inr, refl, sym, subst, true, None, [], ◌∷◌, pos, ◌≡◌}
use Rattle.tm_base.specs.declared.definition.Kind.TheVariants.{Struct}
use Rattle.tm_base.specs.declared.ground.Ground.{Ground, out-Ground, Prim, Named}
use Rattle.tm_base.specs.declared.ground.Primitive.TheVariants as p
use Rattle.tm_base.specs.declared.profile.Profile.TheVariants.{Le64}
use Rattle.tm_base.specs.Expanded.{expanded_within}
use Rattle.tm_base.specs.Faults.{fault_of, is_nullable}
use Rattle.tm_base.specs.Layout.{layout_of}
use Rattle.tm_base.specs.Parts.{some_part}
use Rattle.tm_base.specs.Reaches.{Enters, IsJudged}
use Rattle.tm_base.specs.Tables.{Tables, expanded_in}
use Rattle.tm_base.specs.Weight.{weight_of}
use Rattle.tm_base.specs.Whole.{written_types, is_type_over}
use Rattle.tm_base.specs.Worlds.{IsTypeOver}
use Rattle.tm_base.proofs.JudgedLemmas.{IsJudged-from, Contains-none}
use Rattle.tm_base.proofs.rows.Types.{repr_c, padded}
use Rattle.tm_laws.specs.PlacesApart.{HasFieldsApart}
use Rattle.tm_laws.proofs.fields.JudgedPlaces.{judged-places}
use Rattle.tm_laws.proofs.known.ListedLemmas.{IsIn, IsIn-from_Contains}

-- `#[repr(C)] struct S { pub a: u8, pub b: u16 }`
abbrev one_struct : Tables
one_struct = record {
  profile = Le64;
  defs = record { name = 83 ∷ []; kind = Struct; repr = repr_c; variants = record { name = []; value = pos 0; fields = record { name = 97 ∷ []; public = true } ∷ record { name = 98 ∷ []; public = true } ∷ [] } ∷ [] } ∷ [];
  regions = [];
  bounds = [];
  named = record { def = record { 0 = 0 }; regions = []; args = []; types = (Prim p.U8 ∷ Prim p.U16 ∷ []) ∷ [] } ∷ [];
  refs = [];
}

abbrev the_struct : Ground
the_struct = Named (record { 0 = 0 })

abbrev IsKnown : Ground → Type 0
IsKnown g = (g ≡ the_struct) ⊎ (g ≡ Prim p.U8) ⊎ (g ≡ Prim p.U16)

fields-known : (h : Ground) → IsIn h (Prim p.U8 ∷ Prim p.U16 ∷ []) → IsKnown h
fields-known h (inl e) = inr (inl (sym e))
fields-known h (inr (inl e)) = inr (inr (sym e))
fields-known h (inr (inr n)) = absurd n

known-closed : (g h : Ground) → IsKnown g → Enters one_struct g h → IsKnown h
unfolding out-Ground denote.Hole.Carrier.out
known-closed g h (inl e) step = fields-known h (IsIn-from_Contains (Prim p.U8 ∷ Prim p.U16 ∷ []) h (subst (λ (x : Ground). Enters one_struct x h) e step))
known-closed g h (inr (inl e)) step = absurd (Contains-none h (subst (λ (x : Ground). Enters one_struct x h) e step))
known-closed g h (inr (inr e)) step = absurd (Contains-none h (subst (λ (x : Ground). Enters one_struct x h) e step))

known-sound : (g : Ground) → IsKnown g → fault_of (expanded_in one_struct g) ≡ None
unfolding expanded_within out-Ground denote.Hole.Carrier.out fault_of some_part is_nullable weight_of layout_of
known-sound g (inl e) = rw e refl
known-sound g (inr (inl e)) = rw e refl
known-sound g (inr (inr e)) = rw e refl

struct-judged : IsJudged one_struct the_struct
struct-judged = IsJudged-from one_struct IsKnown known-closed known-sound the_struct (inl refl)

struct-over : IsTypeOver one_struct the_struct
unfolding is_type_over written_types expanded_within out-Ground denote.Hole.Carrier.out some_part
struct-over = refl

-- its fields stand apart
struct-apart : HasFieldsApart padded
unfolding expanded_within out-Ground denote.Hole.Carrier.out
struct-apart = (judged-places one_struct the_struct struct-over struct-judged).0
