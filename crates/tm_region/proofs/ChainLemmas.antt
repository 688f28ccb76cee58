-- One more bound: a chain goes without it, or through it once.
use Rattle.std.proofs.Common.{◌≡◌, ℕ, zero, suc, ◌⊎◌, inl, inr, refl, sym, ap, subst, List, [], ◌∷◌, ◌++◌, arith}
use Rattle.std.specs.Prelude.{Contains}
use Rattle.std.proofs.lemmas.List.Elements.{Contains-append_left, Contains-append_right, Contains-append_cases}
use Rattle.tm_base.specs.declared.definition.Bound.{Bound}
use Rattle.tm_base.specs.declared.definition.RegionId.{RegionId}
use Rattle.tm_base.specs.Outlives.{IsBound}
use Rattle.tm_base.specs.Reaches.{ChainIn, Chain}

Chain-after : {X : Type 0} (Step : X → X → Type 0) (n : ℕ) (a b c : X) → ChainIn Step n a b → Chain Step b c → Chain Step a c
unfolding ChainIn
Chain-after Step zero a b c e way = subst (λ x. Chain Step x c) (sym e) way
Chain-after Step (suc n) a b c (next, step, rest) way =
    let (m, whole) = Chain-after Step n next b c rest way in
    (suc m, (next, step, whole))

Chain-first : {X : Type 0} (Step : X → X → Type 0) (a next b : X) → Step a next → Chain Step next b → Chain Step a b
unfolding ChainIn
Chain-first Step a next b step (n, way) = (suc n, (next, step, way))

ChainIn-grows : {X : Type 0} (Less More : X → X → Type 0) → ((a b : X) → Less a b → More a b) → (n : ℕ) (a b : X) → ChainIn Less n a b → ChainIn More n a b
unfolding ChainIn
ChainIn-grows Less More grows zero a b e = e
ChainIn-grows Less More grows (suc n) a b (next, step, way) = (next, grows a next step, ChainIn-grows Less More grows n next b way)

the-one : {X : Type 0} (x y : X) → Contains (x ∷ []) y → x ≡ y
the-one x y (zero, below, e) = e
the-one x y (suc k, below, e) = absurd (omega arith)

module _ (bounds : List Bound) (bound : Bound) where
  -- a chain without the bound, or one to it and one from it
  abbrev pub Through : RegionId → RegionId → Type 0
  Through a b = Chain (IsBound bounds) a b ⊎ (Chain (IsBound bounds) a bound.longer × Chain (IsBound bounds) bound.shorter b)

  steps : (a next b : RegionId) → IsBound (bounds ++ bound ∷ []) a next → Through next b → Through a b
  unfolding ChainIn
  steps a next b step rest = go (Contains-append_cases bounds (bound ∷ []) (record { longer = a; shorter = next }) step) rest where
    go : IsBound bounds a next ⊎ IsBound (bound ∷ []) a next → Through next b → Through a b
    go (inl old) (inl way) = inl (Chain-first (IsBound bounds) a next b old way)
    go (inl old) (inr (to, from)) = inr (Chain-first (IsBound bounds) a next bound.longer old to, from)
    go (inr new) way =
        let e = the-one bound (record { longer = a; shorter = next }) new in
        inr ((zero, sym (ap (λ x. x.longer) e)), from_shorter (ap (λ x. x.shorter) e) way)
      where
        from_shorter : bound.shorter ≡ next → Through next b → Chain (IsBound bounds) bound.shorter b
        from_shorter e (inl way) = subst (λ x. Chain (IsBound bounds) x b) (sym e) way
        from_shorter e (inr (to, from)) = from

  pub Chain-through : (n : ℕ) (a b : RegionId) → ChainIn (IsBound (bounds ++ bound ∷ [])) n a b → Through a b
  unfolding ChainIn
  Chain-through zero a b e = inl (zero, e)
  Chain-through (suc n) a b (next, step, way) = steps a next b step (Chain-through n next b way)

  grows : (a b : RegionId) → Chain (IsBound bounds) a b → Chain (IsBound (bounds ++ bound ∷ [])) a b
  grows a b (n, way) =
      (n, ChainIn-grows (IsBound bounds) (IsBound (bounds ++ bound ∷ [])) (λ x y. Contains-append_left bounds (bound ∷ []) (record { longer = x; shorter = y })) n a b way)

  pub Chain-from_through : (a b : RegionId) → Through a b → Chain (IsBound (bounds ++ bound ∷ [])) a b
  Chain-from_through a b (inl way) = grows a b way
  Chain-from_through a b (inr (to, from)) =
      let (n, way) = grows a bound.longer to in
      let last : IsBound (bounds ++ bound ∷ []) bound.longer bound.shorter = Contains-append_right bounds (bound ∷ []) bound (0, omega arith, refl) in
      let More = IsBound (bounds ++ bound ∷ []) in
      Chain-after More n a bound.longer b way (Chain-first More bound.longer bound.shorter b last (grows bound.shorter b from))
