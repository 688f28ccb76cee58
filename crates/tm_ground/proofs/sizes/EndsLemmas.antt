-- A type with its numbers ends where its names and references are followed, as a short type has few.
use Rattle.std.proofs.Common.{◌≡◌, ℕ, zero, suc, ◌≤◌, true, refl, sym, ap, subst, List, [], ◌∷◌, slice_get, arith}
use Rattle.std.specs.List.{AllZip}
use Rattle.std.proofs.lemmas.Bool.{and_from}
use Rattle.tm_base.specs.declared.cell.RefId.{RefId}
use Rattle.tm_base.specs.declared.definition.NamedRow.{NamedRow}
use Rattle.tm_base.specs.declared.definition.RefRow.{RefRow}
use Rattle.tm_base.specs.declared.ground.Ground.{Ground}
use Rattle.tm_base.specs.declared.ground.NamedId.{NamedId}
use Rattle.tm_base.specs.Spelled.{Spelled, ends, all_end, spell, spelled_all, spelled_within, follow_name, follow_row}
use Rattle.tm_base.proofs.GroundLemmas.{spell-Tuple, spell-Array, spell-Wrap}
use Rattle.tm_names.specs.declared.resolved.Resolved.{Resolved}
use Rattle.tm_ground.specs.Closed.{Closed, Elements, prim, never, tuple, array, nonzero, wrap, named, ref, no_elements, element, listed, nodes, nodes_in}
use Rattle.tm_ground.specs.Numbered.{IsNumbered, EachNumbered}
use Rattle.tm_ground.specs.Rows.{IsNamedRow, IsRefRow}
use Rattle.tm_ground.proofs.sizes.SmallLemmas.{some-node}
use Rattle.tm_ground.proofs.numbers.StandsLemmas.{zip-get}

-- what a name and a reference are spelled as, where so many more may follow them
abbrev pub followed_name : List NamedRow → List RefRow → ℕ → NamedId → Spelled
followed_name rows ref_rows m id = follow_name (spelled_within m rows ref_rows) (slice_get rows id.0)

abbrev pub followed : List NamedRow → List RefRow → ℕ → RefId → Spelled
followed rows ref_rows m r = follow_row (spelled_within m rows ref_rows) (slice_get ref_rows r.0)

module _ (resolved : Resolved) (types refs : List Closed) (rows : List NamedRow) (ref_rows : List RefRow)
    (of_rows : AllZip (IsNamedRow types refs resolved) types rows) (of_refs : AllZip (IsRefRow types refs) refs ref_rows) where
  abbrev spelt : ℕ → Ground → Spelled
  spelt m = spell (followed_name rows ref_rows m) (followed rows ref_rows m)

  abbrev Ends : ℕ → Type 0
  Ends m = (c : Closed) (g : Ground) → IsNumbered types refs c g → nodes c ≤ m → ends (spelled_within m rows ref_rows g) ≡ true

  -- the arguments of a named type end, as each has fewer nodes than it
  ends-args : (m : ℕ) → Ends m → (cs : Elements) (gs : List Ground) → AllZip (IsNumbered types refs) (listed cs) gs → nodes_in cs ≤ m → all_end (spelled_all (spelled_within m rows ref_rows) gs) ≡ true
  unfolding nodes ends
  ends-args m below no_elements [] h l = refl
  ends-args m below no_elements (g ∷ gs) h l = absurd h
  ends-args m below (element c cs) [] h l = absurd h
  ends-args m below (element c cs) (g ∷ gs) h l = and_from _ _ (below c g h.0 (omega (arith, l))) (ends-args m below cs gs h.1 (omega (arith, l)))

  mutual
    unfolding IsNumbered nodes ends spell spelled_within

    ends-one : (m : ℕ) → Ends m → (c : Closed) (g : Ground) → IsNumbered types refs c g → nodes c ≤ suc m → ends (spelt m g) ≡ true
    ends-one m below (prim p) g h l = rw h refl
    ends-one m below never g h l = rw h refl
    ends-one m below (tuple no_elements) g h l = rw h refl
    ends-one m below (tuple (element c cs)) g (k, ks, e, a, b) l =
        rw (e, spell-Tuple (followed_name rows ref_rows m) (followed rows ref_rows m) (k ∷ ks)) (and_from _ _ (ends-one m below c k a (omega (arith, l))) (ends-each m below cs ks b (omega (arith, l))))
    ends-one m below (array c n) g (k, e, a) l = rw (e, spell-Array (followed_name rows ref_rows m) (followed rows ref_rows m) k n) (ends-one m below c k a (omega (arith, l)))
    ends-one m below (nonzero p) g h l = rw h refl
    ends-one m below (wrap w c) g (k, e, a) l = rw (e, spell-Wrap (followed_name rows ref_rows m) (followed rows ref_rows m) w k) (ends-one m below c k a (omega (arith, l)))
    ends-one m below (named def rs args) g (id, e, at) l =
        let (row, found, r) = zip-get (IsNamedRow types refs resolved) types rows id.0 (named def rs args) of_rows at in
        let one : named def rs args ≡ named row.def row.regions r.args = r.type in
        let same : args ≡ r.args = cc in
        let few : nodes_in r.args ≤ m = omega (arith, l, ap nodes_in same) in
        rw (e, found) (ends-args m below r.args row.args r.given few)
    ends-one m below (ref region mutable c) g (r, e, at) l =
        let (row, found, s) = zip-get (IsRefRow types refs) refs ref_rows r.0 (ref region mutable c) of_refs at in
        let one : ref region mutable c ≡ ref row.region row.mutable s.pointee = s.type in
        let same : c ≡ s.pointee = cc in
        let inner = below c row.pointee (subst (λ x. IsNumbered types refs x row.pointee) (sym same) s.numbered) (omega (arith, l)) in
        rw (e, found) inner

    ends-each : (m : ℕ) → Ends m → (cs : Elements) (gs : List Ground) → EachNumbered types refs cs gs → nodes_in cs ≤ m → all_end (spelled_all (spelt m) gs) ≡ true
    ends-each m below no_elements gs h l = rw h refl
    ends-each m below (element c cs) [] h l = absurd h
    ends-each m below (element c cs) (g ∷ gs) (a, b) l = and_from _ _ (ends-one m below c g a (omega (arith, l))) (ends-each m below cs gs b (omega (arith, l)))

  pub ends-all : (m : ℕ) → Ends m
  unfolding spelled_within
  ends-all zero c g h l = absurd (omega (arith, l, some-node c))
  ends-all (suc m) c g h l = ends-one m (ends-all m) c g h l
