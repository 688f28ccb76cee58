-- Behind a `&mut` a value may be put back: where 'a outlives 'b, a `&'a u8` is taken as a `&'b u8`, and a
-- `&'a mut &'a u8` isn't taken as a `&'a mut &'b u8`. One level of pointees shows it, and none before does.
use Rattle.std.proofs.Common.{◌≡◌, ℕ, ◌⊎◌, inl, inr, refl, sym, subst, true, false, None, [], ◌∷◌, arith}
use Rattle.tm_base.specs.declared.definition.RefRow.{RefRow}
use Rattle.tm_base.specs.declared.definition.RegionId.{RegionId}
use Rattle.tm_base.specs.declared.ground.Ground.{Ground, out-Ground, Prim}
use Rattle.tm_base.specs.declared.ground.Primitive.TheVariants as p
use Rattle.tm_base.specs.declared.profile.Profile.TheVariants.{Le64}
use Rattle.tm_base.specs.Compatible.{CompatibleTo, MeetsLocally}
use Rattle.tm_base.specs.Expanded.{expanded_within}
use Rattle.tm_base.specs.Faults.{fault_of, is_nullable}
use Rattle.tm_base.specs.Layout.{layout_of}
use Rattle.tm_base.specs.Outlives.{Outlives}
use Rattle.tm_base.specs.Parts.{some_part}
use Rattle.tm_base.specs.Reaches.{IsJudged, Enters, ChainIn}
use Rattle.tm_base.specs.Tables.{Tables, expanded_in, pointee_in}
use Rattle.tm_base.specs.Transmutes.{Transmutes}
use Rattle.tm_base.specs.Weight.{weight_of}
use Rattle.tm_base.proofs.JudgedLemmas.{IsJudged-from, Contains-none, Contains-one}
use Rattle.tm_base.proofs.rows.Casts.{nothing}
use Rattle.tm_base.proofs.rows.References.{ref_to, longer_first, outlives_forward, outlives_reversed, taken_ref, ref_taken}

abbrev longer : RegionId
longer = record { 0 = 1 }

abbrev shorter : RegionId
shorter = record { 0 = 2 }

abbrev byte_ref : RegionId → RefRow
byte_ref region = record { mutable = false; region = region; pointee = Prim p.U8 }

abbrev writable : ℕ → RefRow
writable r = record { mutable = true; region = longer; pointee = ref_to r }

-- 0 is &'a u8, 1 is &'b u8, 2 is &'a mut &'a u8, and 3 is &'a mut &'b u8
abbrev writables : Tables
writables = record {
  profile = Le64;
  defs = [];
  regions = [];
  bounds = longer_first;
  named = [];
  refs = byte_ref longer ∷ byte_ref shorter ∷ writable 0 ∷ writable 1 ∷ [];
}

abbrev IsPointee : Ground → Type 0
IsPointee g = (g ≡ ref_to 0) ⊎ (g ≡ ref_to 1) ⊎ (g ≡ Prim p.U8)

pointee-closed : (g h : Ground) → IsPointee g → Enters writables g h → IsPointee h
unfolding out-Ground denote.Hole.Carrier.out
pointee-closed g h (inl e) step = inr (inr (sym (Contains-one (Prim p.U8) h (subst (λ (x : Ground). Enters writables x h) e step))))
pointee-closed g h (inr (inl e)) step = inr (inr (sym (Contains-one (Prim p.U8) h (subst (λ (x : Ground). Enters writables x h) e step))))
pointee-closed g h (inr (inr e)) step = absurd (Contains-none h (subst (λ (x : Ground). Enters writables x h) e step))

pointee-sound : (g : Ground) → IsPointee g → fault_of (expanded_in writables g) ≡ None
unfolding expanded_within out-Ground denote.Hole.Carrier.out fault_of some_part is_nullable weight_of layout_of
pointee-sound g (inl e) = rw e refl
pointee-sound g (inr (inl e)) = rw e refl
pointee-sound g (inr (inr e)) = rw e refl

pointee-judged : (g : Ground) → IsPointee g → IsJudged writables g
pointee-judged = IsJudged-from writables IsPointee pointee-closed pointee-sound

-- no rule of references alone speaks against it,
pub writable-meets : MeetsLocally writables nothing (writable 0) (writable 1)
unfolding expanded_within out-Ground denote.Hole.Carrier.out some_part layout_of ChainIn
writable-meets = record {
  source = pointee-judged (ref_to 0) (inl refl);
  target = pointee-judged (ref_to 1) (inr (inl refl));
  keeps = record { more_unique = λ e. e; too_big = omega arith; alignment = inl (omega arith); interior = inl refl; lifetime = inl (inl (0, refl)) };
}

-- nor does the way there,
inner-meets : MeetsLocally writables nothing (byte_ref longer) (byte_ref shorter)
unfolding expanded_within out-Ground denote.Hole.Carrier.out some_part layout_of ChainIn
inner-meets = record {
  source = pointee-judged (Prim p.U8) (inr (inr refl));
  target = pointee-judged (Prim p.U8) (inr (inr refl));
  keeps = record { more_unique = λ e. e; too_big = omega arith; alignment = inl (omega arith); interior = inr (refl, refl); lifetime = inl outlives_forward };
}

pub there : Transmutes (CompatibleTo writables nothing 0) nothing (pointee_in writables (writable 0)) (pointee_in writables (writable 1))
unfolding CompatibleTo expanded_within out-Ground denote.Hole.Carrier.out
there = ref_taken (CompatibleTo writables nothing 0) 0 1 inner-meets

-- nor would the way back, were its references taken as on the way there;
pub flipped : Transmutes (λ x t. CompatibleTo writables nothing 0 t x) nothing (pointee_in writables (writable 1)) (pointee_in writables (writable 0))
unfolding CompatibleTo expanded_within out-Ground denote.Hole.Carrier.out
flipped = ref_taken (λ x t. CompatibleTo writables nothing 0 t x) 1 0 inner-meets

-- but the way back does.
outlived_back : ¬ CompatibleTo writables nothing 0 1 0
unfolding CompatibleTo
outlived_back h = by h.keeps.lifetime where
  by : Outlives longer_first shorter longer ⊎ (nothing.lifetimes ≡ true) → ⊥
  by (inl outlives) = outlives_reversed outlives
  by (inr assumed) = cc

pub writable-fails : ¬ CompatibleTo writables nothing 1 2 3
unfolding CompatibleTo expanded_within out-Ground denote.Hole.Carrier.out
writable-fails h = outlived_back (taken_ref (CompatibleTo writables nothing 0) 1 0 (h.backward refl))
