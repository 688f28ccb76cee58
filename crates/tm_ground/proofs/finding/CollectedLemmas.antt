-- What a search that has seen all that occurs has found.
use Rattle.std.proofs.Common.{◌≡◌, ℕ, Bool, true, false, refl, List, Contains, get_or}
use Rattle.std.proofs.lemmas.Bool.{and_parts}
use Rattle.std.proofs.lemmas.List.Elements.{Contains-get_or}
use Rattle.tm_names.specs.declared.resolved.Resolved.{Resolved}
use Rattle.tm_ground.specs.declared.collector.Collector.{Collector}
use Rattle.tm_ground.specs.Closed.{Closed}
use Rattle.tm_ground.specs.Closing.{ListsAllWithin, AreFound}
use Rattle.tm_ground.specs.Collecting.{AreSome, IsClosed}
use Rattle.tm_ground.specs.Limits.{is_named, is_ref, is_small_named, OccursAs, PassesNodes, PassesRefs, PassesTypes, type_limit, ref_limit}
use Rattle.tm_ground.specs.Occurs.{Occurs, is_small}
use Rattle.tm_ground.specs.Sets.{closed_types}
use Rattle.tm_ground.proofs.finding.FindingLemmas.{not-both}
use Rattle.tm_ground.proofs.finding.OccursLemmas.{kept-itself}
use Rattle.tm_ground.proofs.finding.PigeonLemmas.{whole-fits}

whole : (limit : ℕ) (P Q : Closed → Type 0) (found : List Closed) → AreSome limit P found → ((c : Closed) → P c → Q c) → ((c : Closed) → Q c → Contains found c) → ListsAllWithin limit Q found
whole limit P Q found s each complete = record {
  all = record {
    distinct = s.distinct;
    each = λ k d l. each (get_or found k d) (s.each (get_or found k d) (Contains-get_or found k d l));
    complete = complete;
  };
  few = s.few;
}

module _ (resolved : Resolved) (s : Collector) (closed : IsClosed resolved s) where
  -- there are no more named types than may be
  pub few-types : ¬ PassesTypes resolved
  few-types =
      whole-fits type_limit (OccursAs is_small_named resolved) (closed_types s.found.named)
      (whole type_limit _ _ _ closed.sound.named (λ c p. p) (λ c o.
      let both = and_parts (is_named c) (is_small c) o.of_kind in
      ((closed.seen c o.occurs).named both.1).within c (kept-itself is_named c both.0)))

  module _ (not_big : s.big ≡ false) where
    each-small : (c : Closed) → Occurs resolved c → is_small c ≡ true
    each-small c o = by (is_small c) refl
      where
        by : (b : Bool) → is_small c ≡ b → b ≡ true
        by true e = refl
        by false e = not-both ((closed.seen c o).big e) not_big

    pub few-nodes : ¬ PassesNodes resolved
    few-nodes = λ p. not-both (each-small p.greatest p.occurs) p.passes

    pub are-whole : s.many_refs ≡ false → AreFound resolved (closed_types s.found.named) (closed_types s.found.refs)
    are-whole few = record {
      rows = whole type_limit _ _ _ closed.sound.named (λ c p. record { of_kind = (and_parts (is_named c) (is_small c) p.of_kind).0; occurs = p.occurs }) (λ c o. ((closed.seen c o.occurs).named (each-small c o.occurs)).within c (kept-itself is_named c o.of_kind));
      refs = whole ref_limit _ _ _ (closed.sound.refs few) (λ c p. p) (λ c o. ((closed.seen c o.occurs).refs (each-small c o.occurs) few).within c (kept-itself is_ref c o.of_kind));
      small = few-nodes;
    }

-- where all that occur are found, no more named types occur than may, nor references
module _ (resolved : Resolved) (types refs : List Closed) (w : AreFound resolved types refs) where
  pub no-more-types : ¬ PassesTypes resolved
  no-more-types = λ p. whole-fits type_limit (OccursAs is_named resolved) types w.rows (record {
    found = p.found;
    count = p.count;
    distinct = p.distinct;
    each = λ k d l. (let o = p.each k d l in record { of_kind = (and_parts _ _ o.of_kind).0; occurs = o.occurs });
  })

  pub no-more-refs : ¬ PassesRefs resolved
  no-more-refs = whole-fits ref_limit (OccursAs is_ref resolved) refs w.refs
