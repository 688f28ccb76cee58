-- The words of the refutation of a question can be written: their references are whole, and no value of a judged type is too long.
use Rattle.std.proofs.Common.{◌≡◌, ℕ, zero, suc, ◌+◌, ◌*◌, ◌≤◌, ◌⊎◌, inl, inr, refl, max, Bool, true, length, length-append, Option, arith}
use Rattle.std.specs.List.{Contains}
use Rattle.std.proofs.lemmas.List.Elements.{All-contains, All-contains_itself, All-weaker}
use Rattle.tm_base.specs.declared.ask.Ask.{Ask}
use Rattle.tm_base.specs.declared.definition.Kind.TheVariants.{Struct, Union, Enum}
use Rattle.tm_base.specs.declared.definition.RefRow.{RefRow}
use Rattle.tm_base.specs.declared.ground.Ground.{Ground}
use Rattle.tm_base.specs.declared.ground.Primitive.{Primitive}
use Rattle.tm_base.specs.declared.ground.Wrapper.{Wrapper}
use Rattle.tm_base.specs.declared.ground.Wrapper.TheVariants as wrapper
use Rattle.tm_base.specs.declared.profile.Profile.{Profile}
use Rattle.tm_base.specs.declared.profile.Profile.TheVariants.{Le64, Be64, Le32}
use Rattle.tm_base.specs.declared.world.World.{World}
use Rattle.tm_base.specs.Cells.{Word, Times}
use Rattle.tm_base.specs.Expanded.{Expanded, Variants, too_deep, prim, never, unit, tuple, array, nonzero, phantom, wrap, ref, named, no_fields, field, no_variants, variant}
use Rattle.tm_base.specs.Faults.{has_cause}
use Rattle.tm_base.specs.Layout.{layout_of, only, size_of, tag_layout}
use Rattle.tm_base.specs.Parts.{some_part}
use Rattle.tm_base.specs.Profiles.{pointer_size}
use Rattle.tm_base.specs.Reaches.{ChainIn, IsJudged}
use Rattle.tm_base.specs.Tables.{expanded_in}
use Rattle.tm_base.specs.Transmutes.{IsSourceWord, Same}
use Rattle.tm_base.specs.Valid.{Valid, UnionValid, SomeVariantValid, WrapValid}
use Rattle.tm_base.specs.Weight.{sum_from, variant_weights, variants_sum_from, weight_of, wrapper_weight}
use Rattle.tm_base.specs.Worlds.{IsTypeOver, tables_of}
use Rattle.tm_base.proofs.ValidLemmas.{Valid-length}
use Rattle.tm_laws.proofs.whole.Types.{expanded_in-for}
use Rattle.tm_laws.proofs.whole.Words.{whole-references}
use Rattle.tm_layout.proofs.FactLemmas.{light-from}
use Rattle.tm_refs.specs.Local.{AreJudged}
use Rattle.tm_refs.proofs.PointeeLemmas.{OnRows-gives, OnRows-rows, pointee-over}
use Rattle.tm_tree.proofs.FitLemmas.{none-second}
use Rattle.tm_base.proofs.HeldLemmas.{judged-laid_out}
use Rattle.tm_refute.specs.Chosen.{IsChosenEntry, IsChosenProof, IsRefutationOf}
use Rattle.tm_refute.specs.TextForms.{IsWithin}
use Rattle.tm_refute.specs.Written.{IsWritable, IsWritableEntry, IsWritableProof, IsWritableWord}
use Rattle.tm_refute.specs.declared.refutation.Entry.{Entry}
use Rattle.tm_refute.specs.declared.refutation.Proof.{Proof}
use Rattle.tm_refute.specs.declared.refutation.Proof.TheVariants.{Local, Forward, Reverse}
use Rattle.tm_refute.specs.declared.refutation.Refutation.{Refutation}
use Rattle.tm_refute.proofs.chosen.HoldsLemmas.{entries-judged}

-- no value of a type has more cells than the type weighs
module _ (A : ℕ → ℕ → Type 0) (keep : Bool) where
  Times-light : (n k : ℕ) (P : Word → Type 0) → ((u : Word) → P u → length u ≤ k) → (w : Word) → Times n P w → length w ≤ n * k
  Times-light zero k P each w h = rw h (omega arith)
  Times-light (suc n) k P each w (u, v, e, first, others) = rw e (omega (arith, length-append u v, each u first, Times-light n k P each v others))

  WrapValid-light : (k : Wrapper) (n weight : ℕ) (P : Word → Type 0) (w : Word) → length w ≡ n → (P w → length w ≤ weight) → WrapValid k n P w → length w ≤ weight + wrapper_weight k n
  WrapValid-light wrapper.Option n weight P w long each h = omega arith
  WrapValid-light wrapper.MaybeUninit n weight P w long each h = omega arith
  WrapValid-light _ n weight P w long each h = let l = each h in omega arith

  UnionValid-light : (vs : Variants) (w : Word) (n : ℕ) → UnionValid A keep vs w → n ≤ sum_from (max 1 n) (only (variant_weights vs))
  unfolding Valid weight_of
  UnionValid-light no_variants w n h = absurd h
  UnionValid-light (variant value no_fields others) w n (o, h) = absurd h
  UnionValid-light (variant value (field public t rest) others) w n h = omega arith

  SomeVariantValid-light : (profile : Profile) (tag : Option Primitive) (begin first : ℕ) (vs : Variants) (w : Word) (n size : ℕ) → SomeVariantValid A keep profile tag begin first vs w
      → n ≤ variants_sum_from (max 1 n) size (variant_weights vs)
  unfolding Valid weight_of
  SomeVariantValid-light profile tag begin first no_variants w n size h = absurd h
  SomeVariantValid-light profile tag begin first (variant value members rest) w n size h = omega arith

  Valid-light : (t : Expanded) (w : Word) → Valid A keep t w → length w ≤ weight_of t
  unfolding Valid weight_of layout_of
  Valid-light too_deep w h = absurd h
  Valid-light (prim profile p) w h = let l = Valid-length A keep (prim profile p) w h in omega arith
  Valid-light never w h = absurd h
  Valid-light unit w h = rw h (omega arith)
  Valid-light (tuple members) w h = absurd h
  Valid-light (array t n) w h = let l = Times-light n (weight_of t) (Valid A keep t) (λ u. Valid-light t u) w h in omega arith
  Valid-light (nonzero profile p) w h = let l = Valid-length A keep (nonzero profile p) w h in omega arith
  Valid-light phantom w h = rw h (omega arith)
  Valid-light (wrap k t) w h = WrapValid-light k (size_of t) (weight_of t) (Valid A keep t) w (Valid-length A keep (wrap k t) w h) (Valid-light t w) h
  Valid-light (ref profile r) w h = let l = Valid-length A keep (ref profile r) w h in omega arith
  Valid-light (named profile id Struct repr vs) w (l, h) = omega arith
  Valid-light (named profile id Union repr vs) w (l, h) = let m = UnionValid-light vs w (size_of (named profile id Union repr vs)) h in omega arith
  Valid-light (named profile id Enum repr vs) w (l, h) =
      let m = SomeVariantValid-light profile repr.tag _ _ vs w (size_of (named profile id Enum repr vs)) (tag_layout profile repr.tag).size h in omega arith

-- a reference has 4 or 8 bytes
pointer-size : (profile : Profile) → (pointer_size profile ≡ 4) ⊎ (pointer_size profile ≡ 8)
pointer-size Le64 = inr refl
pointer-size Be64 = inr refl
pointer-size Le32 = inl refl

module _ (world : World) where
  -- a value of a judged type can be written
  word-writable : (g : Ground) → IsTypeOver (tables_of world) g → IsJudged (tables_of world) g → (w : Word) → IsSourceWord (expanded_in (tables_of world) g) w → IsWritableWord (pointer_size world.profile) w
  unfolding ChainIn
  word-writable g over judged w value =
      let t = expanded_in (tables_of world) g in
      let below = none-second (has_cause t) (some_part has_cause t) (judged-laid_out (tables_of world) g over judged) in
      let light = light-from t below (judged g (zero, refl)) in
      let few = Valid-light Same true t w value in record {
        whole = whole-references world.profile Same true t (expanded_in-for (tables_of world) g) w value;
        few = omega arith;
      }

  proof-writable : (ask : Ask) (depth : ℕ) (proof : Proof) (s t : RefRow) → IsTypeOver (tables_of world) s.pointee → IsTypeOver (tables_of world) t.pointee → AreJudged (tables_of world) s t
      → IsChosenProof (tables_of world) ask.assume depth proof s t → IsWritableProof (pointer_size world.profile) depth proof
  proof-writable ask depth (Local rule) s t over_s over_t both (first, is) = first
  proof-writable ask depth (Forward piece) s t over_s over_t both (above, is) = (above, word-writable s.pointee over_s both.source piece.word is.value)
  proof-writable ask depth (Reverse piece) s t over_s over_t both (above, mutable, every, is) = (above, word-writable t.pointee over_t both.target piece.word is.value)

-- the refutation of a question about a type of the world can be written where it isn't too long
pub chosen-writable : (world : World) (ask : Ask) (x : Refutation) → IsTypeOver (tables_of world) ask.src → IsRefutationOf (tables_of world) ask x → IsWithin x → IsWritable (pointer_size world.profile) x
chosen-writable world ask x over a within = record {
  size = pointer-size world.profile;
  top = word-writable world ask.src over a.judged.source_judged x.top.word a.top.value;
  entries = All-weaker (Contains x.entries) (IsWritableEntry (pointer_size world.profile)) writable x.entries (All-contains_itself x.entries);
  within = within;
} where
  writable : (e : Entry) → Contains x.entries e → IsWritableEntry (pointer_size world.profile) e
  writable e at =
      let chosen = All-contains (IsChosenEntry (tables_of world) ask.assume) x.entries e a.chosen at in
      let (s, t, at_s, at_t, is) = OnRows-rows _ _ (IsChosenProof (tables_of world) ask.assume e.depth e.proof) chosen.proof in
      proof-writable world ask e.depth e.proof s t (pointee-over world e.source s at_s) (pointee-over world e.target t at_t)
      (OnRows-gives _ _ s t (AreJudged (tables_of world)) at_s at_t (entries-judged (tables_of world) ask x a e at)) is
