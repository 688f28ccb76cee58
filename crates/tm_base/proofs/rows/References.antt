-- References of the worked rows: how far they go together.
use Rattle.std.proofs.Common.{◌≡◌, ℕ, zero, suc, ◌<◌, ◌⊎◌, inl, inr, refl, sym, ◌∙◌, ap, subst, false, None, [], ◌∷◌, List, arith}
use Rattle.tm_base.specs.declared.profile.Profile.TheVariants.{Le64}
use Rattle.tm_base.specs.declared.cell.Cell.TheVariants.{Byte}
use Rattle.tm_base.specs.declared.definition.Bound.{Bound}
use Rattle.tm_base.specs.declared.definition.RefRow.{RefRow}
use Rattle.tm_base.specs.declared.definition.RegionId.{RegionId}
use Rattle.tm_base.specs.declared.ground.Ground.{Ground, out-Ground, Prim, Ref}
use Rattle.tm_base.specs.declared.ground.Primitive.TheVariants as p
use Rattle.tm_base.specs.Cells.{Word, fit, pointer_of}
use Rattle.tm_base.specs.Compatible.{CompatibleTo, MeetsLocally}
use Rattle.tm_base.specs.Expanded.{expanded_within}
use Rattle.tm_base.specs.Faults.{fault_of, is_nullable}
use Rattle.tm_base.specs.Layout.{layout_of}
use Rattle.tm_base.specs.Outlives.{Outlives, IsBound}
use Rattle.tm_base.specs.Parts.{some_part}
use Rattle.tm_base.specs.Reaches.{IsJudged, Enters, ChainIn}
use Rattle.tm_base.specs.Tables.{Tables, expanded_in}
use Rattle.tm_base.specs.Transmutes.{Transmutes}
use Rattle.tm_base.specs.Valid.{Valid}
use Rattle.tm_base.specs.ValidTest.{first_ref}
use Rattle.tm_base.specs.Weight.{weight_of}
use Rattle.tm_base.proofs.JudgedLemmas.{IsJudged-from, Contains-none, Contains-one}
use Rattle.tm_base.proofs.rows.Casts.{nothing, zero_byte, two_byte, two_is_no_bool}
use Rattle.tm_base.proofs.rows.Types.{u8, the_bool, reference}

abbrev pub the_region : RegionId
the_region = record { 0 = 1 }

abbrev pub ref_to : ℕ → Ground
ref_to r = Ref (record { 0 = r })

abbrev pub shared : Ground → RefRow
shared g = record { mutable = false; region = the_region; pointee = g }

-- 0 is &&bool, 1 is &&u8, 2 is &bool, and 3 is &u8
abbrev nested : Tables
nested = record {
  profile = Le64;
  defs = [];
  regions = [];
  bounds = [];
  named = [];
  refs = shared (ref_to 2) ∷ shared (ref_to 3) ∷ shared (Prim p.Bool) ∷ shared (Prim p.U8) ∷ [];
}

-- the word 02 is one of `u8` and none of `bool`
pub byte_to_bool : (A : ℕ → ℕ → Type 0) → ¬ Transmutes A nothing u8 the_bool
unfolding Valid layout_of
byte_to_bool A (inl none) = none (Byte 0 ∷ []) zero_byte
byte_to_bool A (inr (inl (e, every))) = two_is_no_bool (every (Byte 2 ∷ []) two_byte)
byte_to_bool A (inr (inr (e, other))) = cc

taken_word : (A : ℕ → ℕ → Type 0) (r t : ℕ) → (x : ℕ) × A x t × (pointer_of 8 r ≡ pointer_of 8 x) → A r t
taken_word A r t (x, a, e) = subst (λ (y : ℕ). A y t) (sym (ap first_ref e)) a

-- a reference whose words are taken may be taken itself
pub taken_ref : (A : ℕ → ℕ → Type 0) (r t : ℕ) → Transmutes A nothing (reference r) (reference t) → A r t
unfolding Valid layout_of
taken_ref A r t (inl none) = absurd (none (pointer_of 8 r) (r, refl, refl))
taken_ref A r t (inr (inl (e, every))) = taken_word A r t (every (pointer_of 8 r) (r, refl, refl))
taken_ref A r t (inr (inr (e, other))) = cc

-- and the other way round
pub ref_taken : (A : ℕ → ℕ → Type 0) (r t : ℕ) → A r t → Transmutes A nothing (reference r) (reference t)
unfolding Valid layout_of
ref_taken A r t a = inr (inl (refl, λ w value. each w value)) where
  each : (w : Word) → (x : ℕ) × (x ≡ r) × (w ≡ pointer_of 8 x) → (x : ℕ) × A x t × (fit w 8 ≡ pointer_of 8 x)
  each w (x, same, e) = (x, subst (λ (y : ℕ). A y t) (sym same) a, rw e refl)

-- Two levels below, &&u8 isn't taken as &&bool:
pub nested_fails : ¬ CompatibleTo nested nothing 2 1 0
unfolding CompatibleTo expanded_within out-Ground denote.Hole.Carrier.out
nested_fails h =
    let below : CompatibleTo nested nothing 1 3 2 = taken_ref (CompatibleTo nested nothing 1) 3 2 h.forward in
    byte_to_bool (CompatibleTo nested nothing 0) below.forward

-- one level below nothing shows it.
abbrev IsNestedType : Ground → Type 0
IsNestedType g = (g ≡ ref_to 2) ⊎ (g ≡ ref_to 3) ⊎ (g ≡ Prim p.Bool) ⊎ (g ≡ Prim p.U8)

nested-closed : (g h : Ground) → IsNestedType g → Enters nested g h → IsNestedType h
unfolding out-Ground denote.Hole.Carrier.out
nested-closed g h (inl e) step = inr (inr (inl (sym (Contains-one (Prim p.Bool) h (subst (λ (x : Ground). Enters nested x h) e step)))))
nested-closed g h (inr (inl e)) step = inr (inr (inr (sym (Contains-one (Prim p.U8) h (subst (λ (x : Ground). Enters nested x h) e step)))))
nested-closed g h (inr (inr (inl e))) step = absurd (Contains-none h (subst (λ (x : Ground). Enters nested x h) e step))
nested-closed g h (inr (inr (inr e))) step = absurd (Contains-none h (subst (λ (x : Ground). Enters nested x h) e step))

nested-sound : (g : Ground) → IsNestedType g → fault_of (expanded_in nested g) ≡ None
unfolding expanded_within out-Ground denote.Hole.Carrier.out fault_of some_part is_nullable weight_of layout_of
nested-sound g (inl e) = rw e refl
nested-sound g (inr (inl e)) = rw e refl
nested-sound g (inr (inr (inl e))) = rw e refl
nested-sound g (inr (inr (inr e))) = rw e refl

nested-judged : (g : Ground) → IsNestedType g → IsJudged nested g
nested-judged = IsJudged-from nested IsNestedType nested-closed nested-sound

nested-inner : MeetsLocally nested nothing (shared (Prim p.U8)) (shared (Prim p.Bool))
unfolding expanded_within out-Ground denote.Hole.Carrier.out some_part layout_of ChainIn
nested-inner = record {
  source = nested-judged (Prim p.U8) (inr (inr (inr refl)));
  target = nested-judged (Prim p.Bool) (inr (inr (inl refl)));
  keeps = record { more_unique = λ e. e; too_big = omega arith; alignment = inl (omega arith); interior = inr (refl, refl); lifetime = inl (inl (0, refl)) };
}

nested-outer : MeetsLocally nested nothing (shared (ref_to 3)) (shared (ref_to 2))
unfolding expanded_within out-Ground denote.Hole.Carrier.out some_part layout_of ChainIn
nested-outer = record {
  source = nested-judged (ref_to 3) (inr (inl refl));
  target = nested-judged (ref_to 2) (inl refl);
  keeps = record { more_unique = λ e. e; too_big = omega arith; alignment = inl (omega arith); interior = inr (refl, refl); lifetime = inl (inl (0, refl)) };
}

pub nested_meets : CompatibleTo nested nothing 1 1 0
unfolding CompatibleTo expanded_within out-Ground denote.Hole.Carrier.out
nested_meets = record {
  meets = nested-outer;
  forward = ref_taken (CompatibleTo nested nothing 0) 3 2 nested-inner;
  backward = λ mutable. cc;
}

-- `outlives 'a: 'b`, where 'a is 1 and 'b is 2
abbrev pub longer_first : List Bound
longer_first = record { longer = record { 0 = 1 }; shorter = record { 0 = 2 } } ∷ []

pub outlives_forward : Outlives longer_first (record { 0 = 1 }) (record { 0 = 2 })
unfolding ChainIn
outlives_forward = inl (1, (record { 0 = 2 }, (0, omega arith, refl), refl))

-- no bound leads away from 'b
from_shorter : (n : ℕ) (a b : RegionId) → a ≡ record { 0 = 2 } → ChainIn (IsBound longer_first) n a b → b ≡ record { 0 = 2 }
unfolding ChainIn
from_shorter zero a b e same = sym same ∙ e
from_shorter (suc n) a b e (next, step, way) =
    let here = ap (λ (bound : Bound). bound.longer.0) (Contains-one _ _ step) in
    let there = ap (λ (region : RegionId). region.0) e in
    absurd (omega arith)

not_the_shorter : (k : ℕ) → k < 2 → k ≡ 2 → ⊥
not_the_shorter k below e = omega arith

pub outlives_reversed : ¬ Outlives longer_first (record { 0 = 2 }) (record { 0 = 1 })
outlives_reversed (inl (n, way)) = not_the_shorter 1 (omega arith) (ap (λ (region : RegionId). region.0) (from_shorter n _ _ refl way))
outlives_reversed (inr (n, way)) = not_the_shorter 0 (omega arith) (ap (λ (region : RegionId). region.0) (from_shorter n _ _ refl way))
