-- What may be taken may be taken under more assumptions. For `validity` it has to be known of each type
-- of the world whether it has a value, since a cast of a type with values then wants one that fits.
use Rattle.std.proofs.Common.{◌≡◌, ℕ, zero, suc, ◌⊎◌, ⊎_elim, inl, inr, refl, Bool, true, false, slice_get}
use Rattle.tm_base.specs.declared.assume.Assume.{Assume}
use Rattle.tm_base.specs.declared.definition.RefRow.{RefRow}
use Rattle.tm_base.specs.declared.ground.Ground.{Ground}
use Rattle.tm_base.specs.Assumptions.{Includes}
use Rattle.tm_base.specs.Cells.{Word}
use Rattle.tm_base.specs.Compatible.{CompatibleTo, Compatible, KeepsAll, MeetsLocally, MeetsOver}
use Rattle.tm_base.specs.Expanded.{Expanded}
use Rattle.tm_base.specs.Tables.{Tables, expanded_in}
use Rattle.tm_base.specs.Transmutes.{Transmutes, IsUninhabited, IsSourceWord, EveryWordFits, SomeWordFits}
use Rattle.tm_base.proofs.CompatibleLemmas.{OnRows-grows}
use Rattle.tm_base.proofs.ValidLemmas.{Valid-grows}

-- the type has no value, or one is known
abbrev pub IsValueKnown : Expanded → Type 0
IsValueKnown s = IsUninhabited s ⊎ ((w : Word) × IsSourceWord s w)

module _ (A B : ℕ → ℕ → Type 0) (over : (x t : ℕ) → A x t → B x t) (more less : Assume) (includes : Includes more less) (s t : Expanded) where
  every_grows : EveryWordFits A less.safety s t → EveryWordFits B more.safety s t
  every_grows every w value = Valid-grows A B less.safety more.safety over includes.safety t _ (every w value)

  some_grows : SomeWordFits A less.safety s t → SomeWordFits B more.safety s t
  some_grows (w, value, fits) = (w, value, Valid-grows A B less.safety more.safety over includes.safety t _ fits)

  from_every : (validity : Bool) → more.validity ≡ validity → IsValueKnown s → EveryWordFits A less.safety s t → Transmutes B more s t
  from_every false e settled every = inr (inl (e, every_grows every))
  from_every true e (inl none) every = inl none
  from_every true e (inr (w, value)) every = inr (inr (e, (w, value, every_grows every w value)))

  pub Transmutes-assumes : IsValueKnown s → Transmutes A less s t → Transmutes B more s t
  Transmutes-assumes settled (inl none) = inl none
  Transmutes-assumes settled (inr (inl (e, every))) = from_every more.validity refl settled every
  Transmutes-assumes settled (inr (inr (e, some))) = inr (inr (includes.validity e, some_grows some))

module _ (tables : Tables) (more less : Assume) (includes : Includes more less) (settled : (g : Ground) → IsValueKnown (expanded_in tables g)) where
  KeepsAll-assumes : (r t : RefRow) → KeepsAll tables less r t → KeepsAll tables more r t
  KeepsAll-assumes r t h = record {
    more_unique = h.more_unique;
    too_big = h.too_big;
    alignment = ⊎_elim (λ kept. inl kept) (λ assumed. inr (includes.alignment assumed)) h.alignment;
    interior = h.interior;
    lifetime = ⊎_elim (λ kept. inl kept) (λ assumed. inr (includes.lifetimes assumed)) h.lifetime;
  }

  MeetsLocally-assumes : (r t : RefRow) → MeetsLocally tables less r t → MeetsLocally tables more r t
  MeetsLocally-assumes r t h = record { source = h.source; target = h.target; keeps = KeepsAll-assumes r t h.keeps }

  MeetsOver-assumes : (A B : ℕ → ℕ → Type 0) → ((x t : ℕ) → A x t → B x t) → (r t : RefRow) → MeetsOver tables less A r t → MeetsOver tables more B r t
  MeetsOver-assumes A B over r t h = record {
    meets = MeetsLocally-assumes r t h.meets;
    forward = Transmutes-assumes A B over more less includes _ _ (settled r.pointee) h.forward;
    backward = λ mutable. Transmutes-assumes A B over more less includes _ _ (settled t.pointee) (h.backward mutable);
  }

  pub CompatibleTo-assumes : (n r t : ℕ) → CompatibleTo tables less n r t → CompatibleTo tables more n r t
  unfolding CompatibleTo
  CompatibleTo-assumes zero r t h =
      OnRows-grows (slice_get tables.refs r) (slice_get tables.refs t) (MeetsLocally tables less) (MeetsLocally tables more) MeetsLocally-assumes h
  CompatibleTo-assumes (suc n) r t h =
      OnRows-grows (slice_get tables.refs r) (slice_get tables.refs t) (MeetsOver tables less (CompatibleTo tables less n)) (MeetsOver tables more (CompatibleTo tables more n))
      (MeetsOver-assumes (CompatibleTo tables less n) (CompatibleTo tables more n) (λ x y. CompatibleTo-assumes n x y)) h

  -- a cast that holds under some assumptions holds under more
  pub casts-assume : (g h : Ground) → Transmutes (Compatible tables less) less (expanded_in tables g) (expanded_in tables h) → Transmutes (Compatible tables more) more (expanded_in tables g) (expanded_in tables h)
  casts-assume g h =
      Transmutes-assumes (Compatible tables less) (Compatible tables more) (λ x y together depth. CompatibleTo-assumes depth x y (together depth))
      more less includes (expanded_in tables g) (expanded_in tables h) (settled g)
