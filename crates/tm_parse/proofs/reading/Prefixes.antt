-- Two ways to cut a list in two: at one place, or one before the other.
use Rattle.std.proofs.Common.{◌≡◌, refl, sym, ap, ◌∙◌, List, [], ◌∷◌, ◌++◌, ◌⊎◌, inl, inr}

module _ {A : Type 0} where
  -- the first cut stands before the second, with an item and others between them
  pub record Before (p r q s : List A) : Type 0 where
    pub item : A
    pub between : List A
    pub front : q ≡ p ++ (item ∷ between)
    pub rest : r ≡ item ∷ (between ++ s)

  abbrev pub Cuts : List A → List A → List A → List A → Type 0
  Cuts p r q s = ((p ≡ q) × (r ≡ s)) ⊎ (Before p r q s ⊎ Before q s p r)

  pub cuts : (p r q s : List A) → p ++ r ≡ q ++ s → Cuts p r q s
  cuts [] r [] s e = inl (refl, e)
  cuts [] r (y ∷ q) s e = inr (inl (record { item = y; between = q; front = refl; rest = e }))
  cuts (x ∷ p) r [] s e = inr (inr (record { item = x; between = p; front = refl; rest = sym e }))
  cuts (x ∷ p) r (y ∷ q) s e = let a : x ≡ y = cc in let b : p ++ r ≡ q ++ s = cc in go (cuts p r q s b) a
    where
      go : Cuts p r q s → x ≡ y → Cuts (x ∷ p) r (y ∷ q) s
      go (inl h) a = inl (ap (λ z. z ∷ p) a ∙ ap (y ∷◌) h.0, h.1)
      go (inr (inl h)) a = inr (inl (record { item = h.item; between = h.between; front = ap (y ∷◌) h.front ∙ ap (λ z. z ∷ (p ++ (h.item ∷ h.between))) (sym a); rest = h.rest }))
      go (inr (inr h)) a = inr (inr (record { item = h.item; between = h.between; front = ap (x ∷◌) h.front ∙ ap (λ z. z ∷ (q ++ (h.item ∷ h.between))) a; rest = h.rest }))
