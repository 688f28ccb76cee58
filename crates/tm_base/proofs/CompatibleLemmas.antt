-- Casts grow with what references may hold and with the private types that keep their words, and a
-- deeper compatibility is a shallower one.
use Rattle.std.proofs.Common.{ℕ, zero, suc, inl, inr, Option, Some, None, slice_get}
use Rattle.tm_base.specs.declared.assume.Assume.{Assume}
use Rattle.tm_base.specs.declared.definition.RefRow.{RefRow}
use Rattle.tm_base.specs.Compatible.{CompatibleTo, MeetsLocally, MeetsOver}
use Rattle.tm_base.specs.Expanded.{Expanded}
use Rattle.tm_base.specs.Tables.{Tables, OnRows}
use Rattle.tm_base.specs.Transmutes.{Transmutes}
use Rattle.tm_base.proofs.ValidLemmas.{Valid-grows}

-- where A becomes B, what may be taken over A may be over B
pub Transmutes-grows : (A B : ℕ → ℕ → Type 0) → ((x t : ℕ) → A x t → B x t) → (assume : Assume) (s t : Expanded) → Transmutes A assume s t → Transmutes B assume s t
Transmutes-grows A B over assume s t (inl none) = inl none
Transmutes-grows A B over assume s t (inr (inl (e, every))) =
    inr (inl (e, λ w value. Valid-grows A B assume.safety assume.safety over (λ h. h) t _ (every w value)))
Transmutes-grows A B over assume s t (inr (inr (e, (w, value, fits)))) =
    inr (inr (e, (w, value, Valid-grows A B assume.safety assume.safety over (λ h. h) t _ fits)))

pub OnRows-grows : (r t : Option RefRow) (P Q : RefRow → RefRow → Type 0) → ((r t : RefRow) → P r t → Q r t) → OnRows r t P → OnRows r t Q
OnRows-grows (Some r) (Some t) P Q grows h = grows r t h
OnRows-grows (Some r) None P Q grows h = h
OnRows-grows None t P Q grows h = h

module _ (tables : Tables) (assume : Assume) where
  pub MeetsOver-grows : (A B : ℕ → ℕ → Type 0) → ((x t : ℕ) → A x t → B x t) → (r t : RefRow) → MeetsOver tables assume A r t → MeetsOver tables assume B r t
  MeetsOver-grows A B over r t h = record {
    meets = h.meets;
    forward = Transmutes-grows A B over assume _ _ h.forward;
    backward = λ mutable. Transmutes-grows A B over assume _ _ (h.backward mutable);
  }

  -- compatible to a depth of n + 1 is compatible to n
  pub CompatibleTo-falls : (n r t : ℕ) → CompatibleTo tables assume (suc n) r t → CompatibleTo tables assume n r t
  unfolding CompatibleTo
  CompatibleTo-falls zero r t h =
      OnRows-grows (slice_get tables.refs r) (slice_get tables.refs t) (MeetsOver tables assume (CompatibleTo tables assume zero)) (MeetsLocally tables assume) (λ r t met. met.meets) h
  CompatibleTo-falls (suc n) r t h =
      OnRows-grows (slice_get tables.refs r) (slice_get tables.refs t) (MeetsOver tables assume (CompatibleTo tables assume (suc n))) (MeetsOver tables assume (CompatibleTo tables assume n))
      (MeetsOver-grows (CompatibleTo tables assume (suc n)) (CompatibleTo tables assume n) (λ x y. CompatibleTo-falls n x y)) h
