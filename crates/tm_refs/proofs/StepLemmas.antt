-- What a look at a pair tells, and what is known of a pair that is compatible to some level.
use Rattle.std.proofs.Common.{◌≡◌, ℕ, suc, ◌<◌, ◌↔◌, Bool, true, IsTrue, List, length, slice_get, arith}
use Rattle.std.specs.List.{Contains}
use Rattle.std.proofs.lemmas.Option.{slice_get_within}
use Rattle.tm_base.specs.declared.assume.Assume.{Assume}
use Rattle.tm_base.specs.Compatible.{CompatibleTo, MeetsLocally, MeetsOver}
use Rattle.tm_base.specs.Tables.{Tables, OnRows}
use Rattle.tm_base.specs.Transmutes.{holds}
use Rattle.tm_base.proofs.CompatibleLemmas.{OnRows-grows, Transmutes-grows}
use Rattle.tm_refs.specs.declared.pair.Pair.{Pair}
use Rattle.tm_refs.specs.declared.standing.Standing.{Standing}
use Rattle.tm_refs.specs.Local.{AreJudged}
use Rattle.tm_refs.specs.Looks.{all_pairs}
use Rattle.tm_refs.specs.Pointees.{GoTogether}
use Rattle.tm_refs.specs.Rounds.{AgreesTo, IsTable}
use Rattle.tm_refs.specs.Standings.{is_held, standing_in, stands_to}
use Rattle.tm_refs.proofs.PairLemmas.{pairs_below-has}
use Rattle.tm_refs.proofs.PointeeLemmas.{OnRows-gives, OnRows-of, OnRows-rows}
use Rattle.tm_refs.proofs.RoundLemmas.{To-lesser, held-agrees, table-exact}

module _ (tables : Tables) (assume : Assume) where
  -- what is compatible to some level meets locally
  pub meets : (n : ℕ) (pair : Pair) → AgreesTo tables assume n pair → OnRows (slice_get tables.refs pair.source.0) (slice_get tables.refs pair.target.0) (MeetsLocally tables assume)
  unfolding CompatibleTo
  meets n pair h = To-lesser tables assume 0 n pair.source.0 pair.target.0 (omega arith) h

  pub agreed-judged : (n : ℕ) (pair : Pair) → AgreesTo tables assume n pair → OnRows (slice_get tables.refs pair.source.0) (slice_get tables.refs pair.target.0) (AreJudged tables)
  agreed-judged n pair h =
      OnRows-grows (slice_get tables.refs pair.source.0) (slice_get tables.refs pair.target.0) (MeetsLocally tables assume) (AreJudged tables)
      (λ r t met. record { source = met.source; target = met.target }) (meets n pair h)

  -- so both are references of the world
  pub agreed-below : (n : ℕ) (pair : Pair) → AgreesTo tables assume n pair → (pair.source.0 < length tables.refs) × (pair.target.0 < length tables.refs)
  agreed-below n pair h =
      let (source, target, at_r, at_t, _) = OnRows-rows _ _ (MeetsLocally tables assume) (meets n pair h) in
      (slice_get_within tables.refs pair.source.0 source at_r, slice_get_within tables.refs pair.target.0 target at_t)

  pub agreed-listed : (n : ℕ) (pair : Pair) → AgreesTo tables assume n pair → Contains (all_pairs tables) pair
  agreed-listed n pair h = let (r, t) = agreed-below n pair h in pairs_below-has pair.source.0 pair.target.0 (length tables.refs) r t

  module _ (n : ℕ) (rows : List (List Standing)) (table : IsTable tables assume n rows) where
    abbrev test : ℕ → ℕ → Bool
    test r t = stands_to n (standing_in rows r t)

    -- a look under the table says whether a pair that is held is compatible to the next level
    pub look-agrees : (pair : Pair) (b : Bool) → is_held rows pair ≡ true
        → IsTrue b ↔ OnRows (slice_get tables.refs pair.source.0) (slice_get tables.refs pair.target.0) (GoTogether tables assume (holds test))
        → IsTrue b ↔ AgreesTo tables assume (suc n) pair
    unfolding CompatibleTo
    look-agrees pair b held tells = (there, back) where
      met : OnRows (slice_get tables.refs pair.source.0) (slice_get tables.refs pair.target.0) (MeetsLocally tables assume)
      met = meets n pair (held-agrees tables assume n rows table pair held)

      there : IsTrue b → AgreesTo tables assume (suc n) pair
      there h =
          let (source, target, at_r, at_t, m) = OnRows-rows _ _ (MeetsLocally tables assume) met in
          let both = OnRows-gives _ _ source target (GoTogether tables assume (holds test)) at_r at_t (tells.0 h) in
          OnRows-of _ _ source target (MeetsOver tables assume (CompatibleTo tables assume n)) at_r at_t (record {
            meets = m;
            forward = Transmutes-grows (holds test) (CompatibleTo tables assume n) (λ x y k. (table-exact tables assume n rows table x y).0 k) assume _ _ both.forward;
            backward = λ mutable. Transmutes-grows (holds test) (CompatibleTo tables assume n) (λ x y k. (table-exact tables assume n rows table x y).0 k) assume _ _ (both.backward mutable);
          })

      back : AgreesTo tables assume (suc n) pair → IsTrue b
      back h =
          tells.1 (OnRows-grows (slice_get tables.refs pair.source.0) (slice_get tables.refs pair.target.0) (MeetsOver tables assume (CompatibleTo tables assume n)) (GoTogether tables assume (holds test))
          (λ r t over. record {
            forward = Transmutes-grows (CompatibleTo tables assume n) (holds test) (λ x y k. (table-exact tables assume n rows table x y).1 k) assume _ _ over.forward;
            backward = λ mutable. Transmutes-grows (CompatibleTo tables assume n) (holds test) (λ x y k. (table-exact tables assume n rows table x y).1 k) assume _ _ (over.backward mutable);
          }) h)
