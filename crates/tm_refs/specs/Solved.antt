-- What the table of a world's references answers.
use Rattle.std.specs.Prelude.{◌≡◌, ℕ, ◌<◌, ◌↔◌, Bool, IsTrue, is_none, Option, None, Some, slice_get}
use Rattle.tm_base.specs.declared.answer.LocalRule.{LocalRule}
use Rattle.tm_base.specs.declared.assume.Assume.{Assume}
use Rattle.tm_base.specs.declared.definition.RefRow.{RefRow}
use Rattle.tm_base.specs.Compatible.{Compatible, CompatibleTo, IsLocalFault, KeepsAll}
use Rattle.tm_base.specs.Tables.{Tables, OnRows}
use Rattle.tm_refs.specs.declared.compat.Compat.{Compat}
use Rattle.tm_refs.specs.Local.{AreJudged}
use Rattle.tm_refs.specs.Standings.{depth_of, rule_of, standing_in}

-- at which depth of pointees the table says that two references don't go together
abbrev pub depth_in : Compat → ℕ → ℕ → Option ℕ
depth_in compat r t = depth_of (standing_in compat.table.rows.items r t)

-- which local rule it says that they break
abbrev pub why_in : Compat → ℕ → ℕ → Option LocalRule
why_in compat r t = rule_of (standing_in compat.table.rows.items r t)

-- whether the source reference r may be taken as the target reference t, by the table
abbrev pub compatible_in : Compat → ℕ → ℕ → Bool
compatible_in compat r t = is_none (depth_in compat r t)

module _ (tables : Tables) (assume : Assume) where
  -- the least depth at which two references aren't compatible
  pub record FailsFirstAt (r t n : ℕ) : Type 0 where
    pub fails : ¬ CompatibleTo tables assume n r t
    pub first : (m : ℕ) → m < n → CompatibleTo tables assume m r t

  -- the depth at which they fail; none where they are compatible
  abbrev pub IsDepthAnswer : ℕ → ℕ → Option ℕ → Type 0
  IsDepthAnswer r t None = Compatible tables assume r t
  IsDepthAnswer r t (Some n) = FailsFirstAt r t n

  -- both pointees are judged, and this is the first local rule that is broken
  pub record BreaksFirst (rule : LocalRule) (r t : RefRow) : Type 0 where
    pub judged : AreJudged tables r t
    pub fault : IsLocalFault tables assume r t rule

  -- The first local rule that they break. None where they break none, where one of their pointees isn't
  -- judged, and where one of the numbers names no reference.
  abbrev pub IsWhyAnswer : ℕ → ℕ → Option LocalRule → Type 0
  IsWhyAnswer r t None =
      (source target : RefRow) → slice_get tables.refs r ≡ Some source → slice_get tables.refs t ≡ Some target
      → AreJudged tables source target → KeepsAll tables assume source target
  IsWhyAnswer r t (Some rule) = OnRows (slice_get tables.refs r) (slice_get tables.refs t) (BreaksFirst rule)

  -- The table of the references under these assumptions. The numbers may be any: what names no reference is
  -- compatible with nothing.
  pub record IsSolvedFor (compat : Compat) : Type 0 where
    pub assumed : compat.assume ≡ assume
    pub exact : (r t : ℕ) → IsTrue (compatible_in compat r t) ↔ Compatible tables assume r t
    pub depth : (r t : ℕ) → IsDepthAnswer r t (depth_in compat r t)
    pub why : (r t : ℕ) → IsWhyAnswer r t (why_in compat r t)
