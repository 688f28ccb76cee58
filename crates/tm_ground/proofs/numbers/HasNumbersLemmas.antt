-- Where all named types and references that occur are listed, each type that occurs has its numbers.
use Rattle.std.proofs.Common.{⊎_elim, List, [], ◌∷◌, Contains, subst}
use Rattle.std.proofs.lemmas.List.Elements.{Contains-append_cases}
use Rattle.tm_names.specs.declared.resolved.Resolved.{Resolved}
use Rattle.tm_ground.specs.Closed.{Closed, Elements, prim, never, tuple, array, nonzero, wrap, named, ref, no_elements, element, listed}
use Rattle.tm_ground.specs.Closing.{AreFound}
use Rattle.tm_ground.specs.Limits.{is_named, is_ref, PassesNodes}
use Rattle.tm_ground.specs.Numbered.{HasNumbers, HaveNumbers}
use Rattle.tm_ground.specs.Occurs.{Occurs}
use Rattle.tm_ground.specs.Written.{written_in, written_in_all}
use Rattle.tm_ground.proofs.finding.ContainsLemmas.{contains-behind, contains-cons, contains-filter, contains-first, contains-nothing}
use Rattle.tm_ground.proofs.sizes.SmallLemmas.{occurring-part}

module _ (resolved : Resolved) (small : ¬ PassesNodes resolved) where
  abbrev Occurring : Closed → Type 0
  Occurring = Occurs resolved

  only-itself : (c x : Closed) → Occurring c → Contains (c ∷ []) x → Occurring x
  only-itself c x o h = ⊎_elim (λ e. subst Occurring e o) (λ i. absurd (contains-nothing x i)) (contains-cons c [] x h)

  mutual
    unfolding written_in

    written-occurs : (c x : Closed) → Occurring c → Contains (written_in c) x → Occurring x
    written-occurs (tuple cs) x o h =
        ⊎_elim (λ e. subst Occurring e o) (λ i. all-occur cs x (λ d j. occurring-part resolved small (tuple cs) d o j) i) (contains-cons (tuple cs) (written_in_all cs) x h)
    written-occurs (array c n) x o h =
        ⊎_elim (λ e. subst Occurring e o) (λ i. written-occurs c x (occurring-part resolved small (array c n) c o (contains-first c [])) i) (contains-cons (array c n) (written_in c) x h)
    written-occurs (wrap w c) x o h =
        ⊎_elim (λ e. subst Occurring e o) (λ i. written-occurs c x (occurring-part resolved small (wrap w c) c o (contains-first c [])) i) (contains-cons (wrap w c) (written_in c) x h)
    written-occurs (ref r m c) x o h =
        ⊎_elim (λ e. subst Occurring e o) (λ i. written-occurs c x (occurring-part resolved small (ref r m c) c o (contains-first c [])) i) (contains-cons (ref r m c) (written_in c) x h)
    written-occurs (prim p) x o h = only-itself (prim p) x o h
    written-occurs never x o h = only-itself never x o h
    written-occurs (nonzero p) x o h = only-itself (nonzero p) x o h
    written-occurs (named d rs args) x o h = only-itself (named d rs args) x o h

    all-occur : (cs : Elements) (x : Closed) → ((d : Closed) → Contains (listed cs) d → Occurring d) → Contains (written_in_all cs) x → Occurring x
    all-occur no_elements x each h = absurd (contains-nothing x h)
    all-occur (element c cs) x each h =
        ⊎_elim (λ i. written-occurs c x (each c (contains-first c (listed cs))) i) (λ i. all-occur cs x (λ d j. each d (contains-behind c (listed cs) d j)) i)
        (Contains-append_cases (written_in c) (written_in_all cs) x h)

pub has-numbers : (resolved : Resolved) (rows refs : List Closed) → AreFound resolved rows refs → (c : Closed) → Occurs resolved c → HasNumbers rows refs c
has-numbers resolved rows refs w c o = record {
  few_rows = w.rows.few;
  few_refs = w.refs.few;
  rows_within = record {
    within = λ x h.
        let at = contains-filter is_named (written_in c) x h in
        w.rows.all.complete x (record { of_kind = at.1; occurs = written-occurs resolved w.small c x o at.0 });
  };
  refs_within = record {
    within = λ x h.
        let at = contains-filter is_ref (written_in c) x h in
        w.refs.all.complete x (record { of_kind = at.1; occurs = written-occurs resolved w.small c x o at.0 });
  };
}

pub have-numbers : (resolved : Resolved) (rows refs cs : List Closed) → AreFound resolved rows refs → ((c : Closed) → Contains cs c → Occurs resolved c) → HaveNumbers rows refs cs
have-numbers resolved rows refs cs w o = record { each = λ c i. has-numbers resolved rows refs w c (o c i) }
