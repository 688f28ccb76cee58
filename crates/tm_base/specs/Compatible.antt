-- Which source reference may be taken as which target reference. The rules and their order are this
-- project's; the compiler's crate `rustc_transmute` asks the like.
use Rattle.std.specs.Prelude.{◌≡◌, ℕ, zero, suc, ◌≤◌, ◌⊎◌, true, false, List, [], ◌∷◌, All, slice_get}
use Rattle.tm_base.specs.declared.answer.LocalRule.{LocalRule}
use Rattle.tm_base.specs.declared.answer.LocalRule.TheVariants.{MoreUnique, TooBig, Alignment, Interior, Lifetime}
use Rattle.tm_base.specs.declared.assume.Assume.{Assume}
use Rattle.tm_base.specs.declared.definition.RefRow.{RefRow}
use Rattle.tm_base.specs.Layout.{size_of, align_of}
use Rattle.tm_base.specs.Outlives.{Outlives}
use Rattle.tm_base.specs.Parts.{has_interior}
use Rattle.tm_base.specs.Reaches.{IsJudged}
use Rattle.tm_base.specs.Tables.{Tables, pointee_in, OnRows}
use Rattle.tm_base.specs.Transmutes.{Transmutes}

-- the rules that are asked before one
abbrev pub earlier : LocalRule → List LocalRule
earlier MoreUnique = []
earlier TooBig = MoreUnique ∷ []
earlier Alignment = MoreUnique ∷ TooBig ∷ []
earlier Interior = MoreUnique ∷ TooBig ∷ Alignment ∷ []
earlier Lifetime = MoreUnique ∷ TooBig ∷ Alignment ∷ Interior ∷ []

module _ (tables : Tables) (assume : Assume) where
  -- the source reference r and the target reference t keep a local rule
  abbrev pub Keeps : RefRow → RefRow → LocalRule → Type 0
  Keeps r t MoreUnique = t.mutable ≡ true → r.mutable ≡ true
  Keeps r t TooBig = size_of (pointee_in tables t) ≤ size_of (pointee_in tables r)
  Keeps r t Alignment = (align_of (pointee_in tables t) ≤ align_of (pointee_in tables r)) ⊎ (assume.alignment ≡ true)
  Keeps r t Interior = (t.mutable ≡ true) ⊎ ((has_interior (pointee_in tables r) ≡ false) × (has_interior (pointee_in tables t) ≡ false))
  Keeps r t Lifetime = Outlives tables.bounds r.region t.region ⊎ (assume.lifetimes ≡ true)

  -- they keep all of them
  pub record KeepsAll (r t : RefRow) : Type 0 where
    pub more_unique : Keeps r t MoreUnique
    pub too_big : Keeps r t TooBig
    pub alignment : Keeps r t Alignment
    pub interior : Keeps r t Interior
    pub lifetime : Keeps r t Lifetime

  -- the first rule that they don't keep
  pub record IsLocalFault (r t : RefRow) (rule : LocalRule) : Type 0 where
    pub kept : All (Keeps r t) (earlier rule)
    pub broken : ¬ Keeps r t rule

  -- both pointees are judged, and no rule is broken
  pub record MeetsLocally (r t : RefRow) : Type 0 where
    pub source : IsJudged tables r.pointee
    pub target : IsJudged tables t.pointee
    pub keeps : KeepsAll r t

  -- They meet locally, and a value of the one's pointee may be taken as one of the other's, where A
  -- says which references in it may be; and back again, where the target may be written through.
  pub record MeetsOver (A : ℕ → ℕ → Type 0) (r t : RefRow) : Type 0 where
    pub meets : MeetsLocally r t
    pub forward : Transmutes A assume (pointee_in tables r) (pointee_in tables t)
    pub backward : t.mutable ≡ true → Transmutes A assume (pointee_in tables t) (pointee_in tables r)

  -- compatible as far as so many levels of pointees show
  unfoldable pub CompatibleTo : ℕ → ℕ → ℕ → Type 0
  CompatibleTo zero r t = OnRows (slice_get tables.refs r) (slice_get tables.refs t) MeetsLocally
  CompatibleTo (suc n) r t = OnRows (slice_get tables.refs r) (slice_get tables.refs t) (MeetsOver (CompatibleTo n))

  -- Compatible at every depth. So a reference that leads back to itself is compatible where no level
  -- speaks against it.
  abbrev pub Compatible : ℕ → ℕ → Type 0
  Compatible r t = (depth : ℕ) → CompatibleTo depth r t
