-- The rule of the cell at which a word is refused, by what the target's automaton and the table of references say.
use Rattle.std.proofs.Common.{◌≡◌, ℕ, zero, suc, ◌<◌, ◌≤◌, ◌⊎◌, inl, inr, refl, IsTrue, Option, Some, None, slice_get, arith}
use Rattle.std.specs.Option.{unwrap_or}
use Rattle.std.proofs.lemmas.Bool.{cases_lt}
use Rattle.tm_base.specs.declared.answer.LocalRule.{LocalRule}
use Rattle.tm_base.specs.declared.answer.LocalRule.TheVariants.{MoreUnique, TooBig as too_big, Alignment, Interior, Lifetime}
use Rattle.tm_base.specs.declared.answer.RefFault.{RefFault}
use Rattle.tm_base.specs.declared.answer.Rule.{Rule}
use Rattle.tm_base.specs.declared.answer.Rule.TheVariants.{RefPointee}
use Rattle.tm_base.specs.declared.ask.Ask.{Ask}
use Rattle.tm_base.specs.declared.cell.RefId.{RefId}
use Rattle.tm_base.specs.declared.definition.RefRow.{RefRow}
use Rattle.tm_base.specs.Compatible.{Keeps, KeepsAll, IsLocalFault, MeetsLocally, CompatibleTo, Compatible}
use Rattle.tm_base.specs.Rules.{IsRefRule, BreaksLocally, BreaksBelow}
use Rattle.tm_base.specs.Tables.{Tables}
use Rattle.tm_refs.specs.declared.compat.Compat.{Compat}
use Rattle.tm_refs.specs.Local.{AreJudged}
use Rattle.tm_refs.specs.Leaves.{leaf_of}
use Rattle.tm_refs.specs.Serves.{ServesFor}
use Rattle.tm_refs.specs.Solved.{FailsFirstAt, IsDepthAnswer, IsWhyAnswer, BreaksFirst, depth_in, why_in}
use Rattle.tm_refs.proofs.PointeeLemmas.{OnRows-gives, OnRows-of}
use Rattle.tm_witness.specs.GoingOn.{rule_by, table_rule, table_fault}

-- ---- two references

module _ (tables : Tables) (ask : Ask) (r t : RefId) (a b : RefRow) (at_r : slice_get tables.refs r.0 ≡ Some a) (at_t : slice_get tables.refs t.0 ≡ Some b) where
  abbrev fault_at : ℕ → RefFault
  fault_at depth = record { source = r; target = t; depth = depth }

  -- all rules are kept, so each is
  keeps_each : KeepsAll tables ask.assume a b → (rule : LocalRule) → Keeps tables ask.assume a b rule
  keeps_each h MoreUnique = h.more_unique
  keeps_each h too_big = h.too_big
  keeps_each h Alignment = h.alignment
  keeps_each h Interior = h.interior
  keeps_each h Lifetime = h.lifetime

  -- what breaks a local rule fails at depth 0
  broken-shallow : (n : ℕ) (broken : LocalRule) → IsLocalFault tables ask.assume a b broken → FailsFirstAt tables ask.assume r.0 t.0 n → n ≡ 0
  unfolding CompatibleTo
  broken-shallow zero broken fault fails = refl
  broken-shallow (suc n) broken fault fails =
      let meets = OnRows-gives (slice_get tables.refs r.0) (slice_get tables.refs t.0) a b (MeetsLocally tables ask.assume) at_r at_t (fails.first 0 (omega arith)) in
      absurd (fault.broken (keeps_each meets.keeps broken))

  -- the rule and the least depth
  abbrev IsPairAnswer : Rule → ℕ → Type 0
  IsPairAnswer rule depth = IsRefRule tables ask rule (fault_at depth) × ((n : ℕ) → ¬ CompatibleTo tables ask.assume n r.0 t.0 → depth ≤ n)

  least-depth : (depth : ℕ) → FailsFirstAt tables ask.assume r.0 t.0 depth → (n : ℕ) → ¬ CompatibleTo tables ask.assume n r.0 t.0 → depth ≤ n
  least-depth depth fails n not = by (cases_lt n depth) where
    by : (n < depth) ⊎ (depth ≤ n) → depth ≤ n
    by (inl less) = absurd (not (fails.first n less))
    by (inr most) = most

  module _ (judged : AreJudged tables a b) (apart : ¬ Compatible tables ask.assume r.0 t.0) where
    pair_answer : (why : Option LocalRule) (depth : Option ℕ) → IsWhyAnswer tables ask.assume r.0 t.0 why → IsDepthAnswer tables ask.assume r.0 t.0 depth → IsPairAnswer (rule_by why) (unwrap_or depth 0)
    pair_answer why None by_why together = absurd (apart together)
    pair_answer None (Some n) by_why fails =
        let keeps = by_why a b at_r at_t judged in (
          OnRows-of (slice_get tables.refs r.0) (slice_get tables.refs t.0) a b (λ x y. BreaksLocally tables ask RefPointee (fault_at n) x y ⊎ BreaksBelow tables ask RefPointee (fault_at n) x y) at_r at_t (inr (keeps, refl, fails.fails)),
          least-depth n fails,
        )
    pair_answer (Some broken) (Some n) by_why fails =
        let found = OnRows-gives (slice_get tables.refs r.0) (slice_get tables.refs t.0) a b (BreaksFirst tables ask.assume broken) at_r at_t by_why in (
          OnRows-of (slice_get tables.refs r.0) (slice_get tables.refs t.0) a b (λ x y. BreaksLocally tables ask (rule_by (Some broken)) (fault_at n) x y ⊎ BreaksBelow tables ask (rule_by (Some broken)) (fault_at n) x y) at_r at_t
              (inl (broken, found.fault, refl, broken-shallow n broken found.fault fails)),
          least-depth n fails,
        )

    -- the table's answer for two references that aren't compatible
    pub table_answer : (compat : Compat) → ServesFor tables ask.assume ask.dst compat → IsTrue (leaf_of tables ask.dst t.0) → IsPairAnswer (table_rule compat r t) (table_fault compat r t).depth
    table_answer compat serves leaf = pair_answer (why_in compat r.0 t.0) (depth_in compat r.0 t.0) (serves.why r.0 t.0 leaf) (serves.depth r.0 t.0 leaf)
