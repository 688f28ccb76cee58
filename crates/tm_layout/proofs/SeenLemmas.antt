-- Named types that are marked as seen stand among those that were gone through.
use Rattle.std.proofs.Common.{◌≡◌, ℕ, ◌<◌, refl, sym, ap, subst, ◌∙◌, ⊎_elim, Bool, true, false, List, [], ◌∷◌, ◌++◌, length, replicate, Contains, arith}
use Rattle.std.proofs.lemmas.List.Elements.{Contains-append_left, Contains-append_right}
use Rattle.tm_base.specs.declared.ground.Ground.{Ground, out-Ground, roll-Ground, roll-out-Ground, Named}
use Rattle.tm_base.specs.declared.ground.Ground.TheOpen.{Ground-F}
use Rattle.tm_base.specs.declared.ground.NamedId.{NamedId}
use Rattle.tm_base.specs.declared.world.World.{World}
use Rattle.tm_base.specs.Worlds.{tables_of, IsTypeOver}
use Rattle.tm_layout.specs.Least.{is_seen}
use Rattle.tm_layout.specs.Reached.{is_marked, named_after}
use Rattle.tm_layout.proofs.OverLemmas.{named-within}
use Rattle.tm_layout.proofs.ReachedLemmas.{marked-set, unmarked-past}

is-named : (g : Ground) (id : NamedId) → out-Ground g ≡ Ground-F.Named id → Named id ≡ g
unfolding roll-Ground denote.Hole.Carrier.roll
is-named g id is = sym (sym (roll-out-Ground g) ∙ ap roll-Ground is)

module _ (world : World) where
  -- each named type of the world that is marked stands among some types
  pub record AreSeen (seen : List Bool) (types : List Ground) : Type 0 where
    pub each : (k : ℕ) → k < length world.named → is_marked seen k ≡ true → Contains types (Named (record { 0 = k }))

  pub seen-none : (seen : List Bool) → seen ≡ replicate (length world.named) false → AreSeen seen []
  seen-none seen none = record { each = λ k below m. absurd (omega (arith, below, unmarked-past (length world.named) k (subst (λ marks. is_marked marks k ≡ true) none m))) }

  seen-longer : (seen : List Bool) (types : List Ground) (g : Ground) → AreSeen seen types → AreSeen seen (types ++ g ∷ [])
  seen-longer seen types g old = record { each = λ k below m. Contains-append_left types (g ∷ []) (Named (record { 0 = k })) (old.each k below m) }

  -- and so they do when one more was gone through
  pub seen-more : (seen : List Bool) (types : List Ground) (g : Ground) → AreSeen seen types → AreSeen (named_after seen (out-Ground g)) (types ++ g ∷ [])
  seen-more seen types g old = by (out-Ground g) refl where
    by : (x : Ground-F Ground) → out-Ground g ≡ x → AreSeen (named_after seen x) (types ++ g ∷ [])
    by (Ground-F.Named id) is = record {
      each = λ k below m. ⊎_elim
          (λ (e : k ≡ id.0). Contains-append_right types (g ∷ []) (Named (record { 0 = k })) (0, omega arith, sym (ap (λ n. Named (record { 0 = n })) e ∙ is-named g id is)))
          (λ (was : is_marked seen k ≡ true). Contains-append_left types (g ∷ []) (Named (record { 0 = k })) (old.each k below was))
          (marked-set seen id.0 k m);
    }
    by (Ground-F.Prim p) is = seen-longer seen types g old
    by Ground-F.Never is = seen-longer seen types g old
    by Ground-F.Unit is = seen-longer seen types g old
    by (Ground-F.Tuple gs) is = seen-longer seen types g old
    by (Ground-F.Array h n) is = seen-longer seen types g old
    by (Ground-F.NonZero p) is = seen-longer seen types g old
    by (Ground-F.Wrap w h) is = seen-longer seen types g old
    by (Ground-F.Ref r) is = seen-longer seen types g old

  -- a type that was seen stands among them
  pub seen-stands : (seen : List Bool) (types : List Ground) (g : Ground) → AreSeen seen types → IsTypeOver (tables_of world) g → is_seen seen (out-Ground g) ≡ true → Contains types g
  seen-stands seen types g old over was = by (out-Ground g) refl was where
    by : (x : Ground-F Ground) → out-Ground g ≡ x → is_seen seen x ≡ true → Contains types g
    by (Ground-F.Named id) is m = subst (Contains types) (is-named g id is) (old.each id.0 (named-within world g id is over) m)
    by (Ground-F.Prim p) is m = cc
    by Ground-F.Never is m = cc
    by Ground-F.Unit is m = cc
    by (Ground-F.Tuple gs) is m = cc
    by (Ground-F.Array h n) is m = cc
    by (Ground-F.NonZero p) is m = cc
    by (Ground-F.Wrap w h) is m = cc
    by (Ground-F.Ref r) is m = cc
