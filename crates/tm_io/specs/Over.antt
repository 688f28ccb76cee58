-- What contracts see of a source or a sink over a reader or a writer of std.
use Rattle.std.specs.Prelude.{ℕ, refl}
use Rattle.std.specs.Coded.{Coded, code_by, coded×, coded_ℕ}

-- the reader or writer as it is now, and how many calls failed
pub record Over (X : Type 0) : Type 0 where
  pub inner : X
  pub faults : ℕ

-- it is stored as the pair of its fields
abbrev pub over_code : {X : Type 0} → Coded X → Coded (Over X)
over_code {X} code =
    code_by (X × ℕ) (coded× code coded_ℕ) (λ o. (o.inner, o.faults)) (λ p. record { inner = p.0; faults = p.1 }) (λ _. refl)
