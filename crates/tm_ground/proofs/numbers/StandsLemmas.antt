-- A type with its numbers stands for the closed type, where rows are of the lists.
use Rattle.std.proofs.Common.{◌≡◌, ℕ, zero, suc, Bool, refl, sym, subst, List, [], ◌∷◌, Some, slice_get}
use Rattle.std.specs.List.{AllZip}
use Rattle.tm_base.specs.declared.definition.NamedRow.{NamedRow}
use Rattle.tm_base.specs.declared.definition.RefRow.{RefRow}
use Rattle.tm_base.specs.declared.definition.RegionId.{RegionId}
use Rattle.tm_base.specs.declared.ground.Ground.{Ground}
use Rattle.tm_names.specs.declared.resolved.Resolved.{Resolved}
use Rattle.tm_ground.specs.Belongs.{StandsFor, EachStandsFor}
use Rattle.tm_ground.specs.Closed.{Closed, Elements, prim, never, tuple, array, nonzero, wrap, named, ref, no_elements, element, listed}
use Rattle.tm_ground.specs.Numbered.{IsNumbered, EachNumbered}
use Rattle.tm_ground.specs.Rows.{IsNamedRow, IsRefRow}
use Rattle.tm_ground.proofs.numbers.NumberLemmas.{each-numbered}

-- the row at a place is of the type at that place
pub zip-get : {A B : Type 0} (R : A → B → Type 0) (xs : List A) (ys : List B) (i : ℕ) (x : A) → AllZip R xs ys → slice_get xs i ≡ Some x → (y : B) × (slice_get ys i ≡ Some y) × R x y
zip-get R [] ys i x h e = cc
zip-get R (a ∷ xs) [] i x h e = absurd h
zip-get R (a ∷ xs) (b ∷ ys) zero x h e =
    let same : a ≡ x = cc in
    (b, refl, subst (λ z. R z b) same h.0)
zip-get R (a ∷ xs) (b ∷ ys) (suc i) x h e = zip-get R xs ys i x h.1 e

-- what stands for each of a list stands for the elements
pub each-stood : (rows : List NamedRow) (ref_rows : List RefRow) (cs : Elements) (gs : List Ground) → AllZip (StandsFor rows ref_rows) (listed cs) gs → EachStandsFor rows ref_rows cs gs
unfolding StandsFor
each-stood rows ref_rows no_elements [] h = refl
each-stood rows ref_rows no_elements (g ∷ gs) h = absurd h
each-stood rows ref_rows (element c cs) [] h = absurd h
each-stood rows ref_rows (element c cs) (g ∷ gs) h = (h.0, each-stood rows ref_rows cs gs h.1)

module _ (resolved : Resolved) (types refs : List Closed) (rows : List NamedRow) (ref_rows : List RefRow)
    (of_rows : AllZip (IsNamedRow types refs resolved) types rows) (of_refs : AllZip (IsRefRow types refs) refs ref_rows) where
  ref-stands : (c : Closed) (region : RegionId) (mutable : Bool) (i : ℕ) → ((g : Ground) → IsNumbered types refs c g → StandsFor rows ref_rows c g) → slice_get refs i ≡ Some (ref region mutable c) → (y : RefRow) × (slice_get ref_rows i ≡ Some y) × (y.region ≡ region) × (y.mutable ≡ mutable) × StandsFor rows ref_rows c y.pointee
  ref-stands c region mutable i stands e =
      let (y, at, r) = zip-get (IsRefRow types refs) refs ref_rows i (ref region mutable c) of_refs e in
      let one : ref region mutable c ≡ ref y.region y.mutable r.pointee = r.type in
      let a : region ≡ y.region = cc in
      let b : mutable ≡ y.mutable = cc in
      let d : c ≡ r.pointee = cc in
      (y, at, sym a, sym b, stands y.pointee (subst (λ x. IsNumbered types refs x y.pointee) (sym d) r.numbered))

  mutual
    unfolding IsNumbered StandsFor

    pub stands : (c : Closed) (g : Ground) → IsNumbered types refs c g → StandsFor rows ref_rows c g
    stands (prim p) g h = h
    stands never g h = h
    stands (tuple no_elements) g h = h
    stands (tuple (element c cs)) g (k, ks, e, a, b) = (k, ks, e, stands c k a, each-stands cs ks b)
    stands (array c n) g (k, e, a) = (k, e, stands c k a)
    stands (nonzero p) g h = h
    stands (wrap w c) g (k, e, a) = (k, e, stands c k a)
    stands (named def regions args) g (id, e, at) =
        let (row, found, r) = zip-get (IsNamedRow types refs resolved) types rows id.0 (named def regions args) of_rows at in
        let one : named def regions args ≡ named row.def row.regions r.args = r.type in
        let a : def ≡ row.def = cc in
        let b : regions ≡ row.regions = cc in
        let c : args ≡ r.args = cc in
        let given = subst (λ cs. EachNumbered types refs cs row.args) (sym c) (each-numbered types refs r.args row.args r.given) in
        (id, e, row, found, sym a, sym b, each-stands args row.args given)
    stands (ref region mutable c) g (r, e, at) =
        let (row, found, a, b, d) = ref-stands c region mutable r.0 (stands c) at in
        (r, e, row, found, a, b, d)

    pub each-stands : (cs : Elements) (gs : List Ground) → EachNumbered types refs cs gs → EachStandsFor rows ref_rows cs gs
    each-stands no_elements gs h = h
    each-stands (element c cs) [] h = h
    each-stands (element c cs) (g ∷ gs) (a, b) = (stands c g a, each-stands cs gs b)
