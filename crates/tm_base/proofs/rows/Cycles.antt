-- References that lead back to themselves, and references that may be written through.
use Rattle.std.proofs.Common.{◌≡◌, ℕ, zero, suc, ◌⊎◌, ⊎_elim, inl, inr, refl, sym, subst, true, false, None, [], ◌∷◌, arith, pos}
use Rattle.std.specs.List.{Contains}
use Rattle.tm_base.specs.declared.profile.Profile.TheVariants.{Le64}
use Rattle.tm_base.specs.declared.definition.Def.{Def}
use Rattle.tm_base.specs.declared.definition.Kind.TheVariants.{Struct}
use Rattle.tm_base.specs.declared.definition.NamedRow.{NamedRow}
use Rattle.tm_base.specs.declared.ground.Ground.{Ground, out-Ground, Prim, Named}
use Rattle.tm_base.specs.declared.ground.Primitive.TheVariants as p
use Rattle.tm_base.specs.Cells.{Word}
use Rattle.tm_base.specs.Compatible.{CompatibleTo, Compatible, MeetsLocally}
use Rattle.tm_base.specs.Expanded.{expanded_within}
use Rattle.tm_base.specs.Faults.{fault_of, is_nullable}
use Rattle.tm_base.specs.Layout.{layout_of}
use Rattle.tm_base.specs.Parts.{some_part}
use Rattle.tm_base.specs.Reaches.{IsJudged, Enters, ChainIn}
use Rattle.tm_base.specs.Tables.{Tables, expanded_in}
use Rattle.tm_base.specs.Transmutes.{Transmutes, Same}
use Rattle.tm_base.specs.Valid.{Valid}
use Rattle.tm_base.specs.Weight.{weight_of}
use Rattle.tm_base.proofs.JudgedLemmas.{IsJudged-from, Contains-none, Contains-one, fit-same}
use Rattle.tm_base.proofs.rows.Casts.{nothing}
use Rattle.tm_base.proofs.rows.References.{byte_to_bool, the_region, ref_to, shared}
use Rattle.tm_base.proofs.rows.Types.{repr_c, u8, the_bool, reference, struct, two}

-- 0 is &mut bool, and 1 is &mut u8
abbrev written_through : Tables
written_through = record {
  profile = Le64;
  defs = [];
  regions = [];
  bounds = [];
  named = [];
  refs = record { mutable = true; region = the_region; pointee = Prim p.Bool } ∷ record { mutable = true; region = the_region; pointee = Prim p.U8 } ∷ [];
}

-- A `bool` may be taken as a `u8`,
pub bool_to_byte : (A : ℕ → ℕ → Type 0) → Transmutes A nothing the_bool u8
unfolding Valid layout_of
bool_to_byte A = inr (inl (refl, λ w value. subst (Valid A false u8) (sym (fit-same w 1 value.0.0)) value.0))

-- and through `&mut` it may not, since a `u8` may be written there.
pub written_fails : ¬ CompatibleTo written_through nothing 1 0 1
unfolding CompatibleTo expanded_within out-Ground denote.Hole.Carrier.out
written_fails h = byte_to_bool (CompatibleTo written_through nothing 0) (h.backward refl)

-- #[repr(C)] struct { pub a: bool or u8, pub n: &Self }
abbrev chain_def : Def
chain_def = record { name = []; kind = Struct; repr = repr_c; variants = record { name = []; value = pos 0; fields = record { name = 97 ∷ []; public = true } ∷ record { name = 98 ∷ []; public = true } ∷ [] } ∷ [] }

abbrev chain_row : ℕ → Ground → NamedRow
chain_row r g = record { def = record { 0 = 0 }; regions = []; args = []; types = (g ∷ ref_to r ∷ []) ∷ [] }

abbrev the_named : ℕ → Ground
the_named k = Named (record { 0 = k })

-- 0 leads to a `bool` and back to itself, and 1 to a `u8` and back to itself
abbrev chains : Tables
chains = record {
  profile = Le64;
  defs = chain_def ∷ [];
  regions = [];
  bounds = [];
  named = chain_row 0 (Prim p.Bool) ∷ chain_row 1 (Prim p.U8) ∷ [];
  refs = shared (the_named 0) ∷ shared (the_named 1) ∷ [];
}

abbrev IsChainType : Ground → Type 0
IsChainType g = (g ≡ the_named 0) ⊎ (g ≡ the_named 1) ⊎ (g ≡ ref_to 0) ⊎ (g ≡ ref_to 1) ⊎ (g ≡ Prim p.Bool) ⊎ (g ≡ Prim p.U8)

Contains-two : {X : Type 0} (y z x : X) → Contains (y ∷ z ∷ []) x → (y ≡ x) ⊎ (z ≡ x)
Contains-two y z x (zero, below, e) = inl e
Contains-two y z x (suc zero, below, e) = inr e
Contains-two y z x (suc (suc k), below, e) = absurd (omega arith)

chains-closed : (g h : Ground) → IsChainType g → Enters chains g h → IsChainType h
unfolding out-Ground denote.Hole.Carrier.out
chains-closed g h (inl e) step =
    ⊎_elim (λ (s : Prim p.Bool ≡ h). inr (inr (inr (inr (inl (sym s)))))) (λ (s : ref_to 0 ≡ h). inr (inr (inl (sym s))))
    (Contains-two (Prim p.Bool) (ref_to 0) h (subst (λ (x : Ground). Enters chains x h) e step))
chains-closed g h (inr (inl e)) step =
    ⊎_elim (λ (s : Prim p.U8 ≡ h). inr (inr (inr (inr (inr (sym s)))))) (λ (s : ref_to 1 ≡ h). inr (inr (inr (inl (sym s)))))
    (Contains-two (Prim p.U8) (ref_to 1) h (subst (λ (x : Ground). Enters chains x h) e step))
chains-closed g h (inr (inr (inl e))) step = inl (sym (Contains-one (the_named 0) h (subst (λ (x : Ground). Enters chains x h) e step)))
chains-closed g h (inr (inr (inr (inl e)))) step = inr (inl (sym (Contains-one (the_named 1) h (subst (λ (x : Ground). Enters chains x h) e step))))
chains-closed g h (inr (inr (inr (inr (inl e))))) step = absurd (Contains-none h (subst (λ (x : Ground). Enters chains x h) e step))
chains-closed g h (inr (inr (inr (inr (inr e))))) step = absurd (Contains-none h (subst (λ (x : Ground). Enters chains x h) e step))

chains-sound : (g : Ground) → IsChainType g → fault_of (expanded_in chains g) ≡ None
unfolding expanded_within out-Ground denote.Hole.Carrier.out fault_of some_part is_nullable weight_of layout_of
chains-sound g (inl e) = rw e refl
chains-sound g (inr (inl e)) = rw e refl
chains-sound g (inr (inr (inl e))) = rw e refl
chains-sound g (inr (inr (inr (inl e)))) = rw e refl
chains-sound g (inr (inr (inr (inr (inl e))))) = rw e refl
chains-sound g (inr (inr (inr (inr (inr e))))) = rw e refl

chains-judged : (g : Ground) → IsChainType g → IsJudged chains g
chains-judged = IsJudged-from chains IsChainType chains-closed chains-sound

chains-meet : MeetsLocally chains nothing (shared (the_named 0)) (shared (the_named 1))
unfolding expanded_within out-Ground denote.Hole.Carrier.out some_part layout_of ChainIn
chains-meet = record {
  source = chains-judged (the_named 0) (inl refl);
  target = chains-judged (the_named 1) (inr (inl refl));
  keeps = record { more_unique = λ e. e; too_big = omega arith; alignment = inl (omega arith); interior = inr (refl, refl); lifetime = inl (inl (0, refl)) };
}

-- a word of the one chain is one of the other, where the first reference is taken as the second
link : (A : ℕ → ℕ → Type 0) → A 0 1 → (w : Word) → Valid Same true (struct repr_c (two the_bool (reference 0))) w → Valid A false (struct repr_c (two u8 (reference 1))) w
unfolding Valid layout_of
link A a w (size, (opened, (gap, here, others, e, place, free, bit, (gap', here', others', e', place', free', (x, same, cells), behind)))) =
    (size, (refl, (gap, here, others, e, place, free, bit.0, (gap', here', others', e', place', free', (x, subst (λ (y : ℕ). A y 1) (sym same) a, cells), behind))))

chains-forward : (A : ℕ → ℕ → Type 0) → A 0 1 → Transmutes A nothing (expanded_in chains (the_named 0)) (expanded_in chains (the_named 1))
unfolding Valid layout_of expanded_within out-Ground denote.Hole.Carrier.out
chains-forward A a = inr (inl (
  refl,
  λ w value.
      subst (Valid A false (struct repr_c (two u8 (reference 1)))) (sym (fit-same w 16 value.0)) (link A a w value),
))

-- Nothing speaks against it at any depth, so the one reference is taken as the other.
chains-to : (depth : ℕ) → CompatibleTo chains nothing depth 0 1
unfolding CompatibleTo
chains-to zero = chains-meet
chains-to (suc n) = record { meets = chains-meet; forward = chains-forward (CompatibleTo chains nothing n) (chains-to n); backward = λ mutable. cc }

pub chains_go_together : Compatible chains nothing 0 1
chains_go_together = chains-to
