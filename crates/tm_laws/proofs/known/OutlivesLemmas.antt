-- It is known of two regions whether one outlives the other.
use Rattle.std.proofs.Common.{◌≡◌, ℕ, inl, inr, refl, ◌∙◌, ap, subst, Bool, true, false, cond, List, [], ◌∷◌, map, eqb, eqb-true, eq-eqb}
use Rattle.std.specs.List.{flat_map}
use Rattle.tm_base.specs.declared.definition.Bound.{Bound}
use Rattle.tm_base.specs.declared.definition.RegionId.{RegionId}
use Rattle.tm_base.specs.Outlives.{static, IsBound, Outlives}
use Rattle.tm_base.specs.Reaches.{Chain}
use Rattle.tm_laws.proofs.known.DecideLemmas.{Dec-like, Dec-or}
use Rattle.tm_laws.proofs.known.ListedLemmas.{IsIn, IsIn-map, IsIn-flat_map, flat_map-IsIn, IsIn-from_Contains, Contains-from_IsIn}
use Rattle.tm_laws.proofs.known.ReachLemmas.{LeadsTo-known}

same_region : (a b : RegionId) → a.0 ≡ b.0 → a ≡ b
same_region a b e = ap (λ (n : ℕ). let r : RegionId = record { 0 = n } in r) e

module _ (bounds : List Bound) where
  -- the region that a bound says one outlives
  abbrev said_of : RegionId → Bound → List RegionId
  said_of a bound = cond (eqb bound.longer.0 a.0) (bound.shorter ∷ []) []

  abbrev outlived : RegionId → List RegionId
  outlived a = flat_map (said_of a) bounds

  said : (a b : RegionId) (bound : Bound) → (t : Bool) → eqb bound.longer.0 a.0 ≡ t → IsIn b (cond t (bound.shorter ∷ []) []) → bound ≡ record { longer = a; shorter = b }
  said a b bound true e (inl same) =
      let front : bound.longer ≡ a = same_region bound.longer a (eqb-true bound.longer.0 a.0 e) in
      ap (λ (x : RegionId). let made : Bound = record { longer = x; shorter = bound.shorter } in made) front
      ∙ ap (λ (x : RegionId). let made : Bound = record { longer = a; shorter = x } in made) same
  said a b bound true e (inr n) = absurd n
  said a b bound false e h = absurd h

  outlived-step : (a b : RegionId) → IsIn b (outlived a) → IsBound bounds a b
  outlived-step a b h =
      let (bound, at, k) = flat_map-IsIn (said_of a) bounds b h in
      Contains-from_IsIn bounds (record { longer = a; shorter = b }) (subst (λ (x : Bound). IsIn x bounds) (said a b bound (eqb bound.longer.0 a.0) refl k) at)

  says : (a b : RegionId) → IsIn b (cond (eqb a.0 a.0) (b ∷ []) [])
  says a b = rw (eq-eqb a.0 a.0 refl) (inl refl)

  step-outlived : (a b : RegionId) → IsBound bounds a b → IsIn b (outlived a)
  step-outlived a b step =
      IsIn-flat_map (said_of a) bounds (record { longer = a; shorter = b }) b (IsIn-from_Contains bounds (record { longer = a; shorter = b }) step) (says a b)

  -- the regions that a chain of bounds from one may come to
  abbrev regions_from : RegionId → List RegionId
  regions_from a = a ∷ map (λ bound. bound.shorter) bounds

  regions-closed : (a x y : RegionId) → IsIn x (regions_from a) → IsIn y (outlived x) → IsIn y (regions_from a)
  regions-closed a x y at h =
      inr (IsIn-map (λ (bound : Bound). bound.shorter) bounds (record { longer = x; shorter = y }) (IsIn-from_Contains bounds (record { longer = x; shorter = y }) (outlived-step x y h)))

  Chain-known : (a b : RegionId) → Dec (Chain (IsBound bounds) a b)
  Chain-known a b =
      Dec-like
      (λ (r, way, e). subst (λ (x : RegionId). Chain (IsBound bounds) a x) (same_region r b (eqb-true r.0 b.0 e)) way)
      (λ way. (b, way, eq-eqb b.0 b.0 refl))
      (LeadsTo-known (IsBound bounds) outlived step-outlived outlived-step (λ r. eqb r.0 b.0) (regions_from a) (regions-closed a) a (inl refl))

  pub Outlives-known : (a b : RegionId) → Dec (Outlives bounds a b)
  Outlives-known a b = Dec-or (Chain-known a b) (Chain-known a static)
