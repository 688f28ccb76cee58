-- No row of a world is twice, as a row is of one type alone.
use Rattle.std.proofs.Common.{◌≡◌, ℕ, zero, suc, ◌<◌, sym, ap, subst, ◌∙◌, List, [], ◌∷◌, length, get_or, arith}
use Rattle.std.specs.List.{AllZip}
use Rattle.std.proofs.lemmas.Slice.Zip.{AllZip-long}
use Rattle.tm_base.specs.declared.definition.NamedRow.{NamedRow}
use Rattle.tm_base.specs.declared.definition.RefRow.{RefRow}
use Rattle.tm_base.specs.Whole.{AreDistinct}
use Rattle.tm_names.specs.declared.resolved.Resolved.{Resolved}
use Rattle.tm_ground.specs.Closed.{Closed, never, named, ref}
use Rattle.tm_ground.specs.Closing.{AreFound}
use Rattle.tm_ground.specs.Rows.{IsNamedRow, IsRefRow}
use Rattle.tm_ground.proofs.numbers.NumberLemmas.{each-numbered}
use Rattle.tm_ground.proofs.numbers.StandsLemmas.{stands, each-stands}
use Rattle.tm_ground.proofs.numbers.StandsOnce.{one-closed, each-once}

pub zip-at : {A B : Type 0} (R : A → B → Type 0) (xs : List A) (ys : List B) (i : ℕ) (x : A) (y : B) → AllZip R xs ys → i < length xs → R (get_or xs i x) (get_or ys i y)
zip-at R [] ys i x y h l = absurd (omega (arith, l))
zip-at R (a ∷ xs) [] i x y h l = absurd h
zip-at R (a ∷ xs) (b ∷ ys) zero x y h l = h.0
zip-at R (a ∷ xs) (b ∷ ys) (suc i) x y h l = zip-at R xs ys i x y h.1 (omega (arith, l))

module _ (resolved : Resolved) (types refs : List Closed) (whole : AreFound resolved types refs)
    (rows : List NamedRow) (ref_rows : List RefRow)
    (of_rows : AllZip (IsNamedRow types refs resolved) types rows) (of_refs : AllZip (IsRefRow types refs) refs ref_rows) where
  one-named : (c d : Closed) (row : NamedRow) → IsNamedRow types refs resolved c row → IsNamedRow types refs resolved d row → c ≡ d
  one-named c d row a b =
      let stood = each-stands resolved types refs rows ref_rows of_rows of_refs in
      let args = each-once rows ref_rows a.args b.args row.args
      (stood a.args row.args (each-numbered types refs a.args row.args a.given)) (stood b.args row.args (each-numbered types refs b.args row.args b.given)) in
      a.type ∙ ap (named row.def row.regions) args ∙ sym b.type

  one-ref : (c d : Closed) (row : RefRow) → IsRefRow types refs c row → IsRefRow types refs d row → c ≡ d
  one-ref c d row a b =
      let stood = stands resolved types refs rows ref_rows of_rows of_refs in
      let pointee = one-closed rows ref_rows a.pointee b.pointee row.pointee (stood a.pointee row.pointee a.numbered) (stood b.pointee row.pointee b.numbered) in
      a.type ∙ ap (ref row.region row.mutable) pointee ∙ sym b.type

  -- rows of distinct types are distinct
  rows-apart : {B : Type 0} (R : Closed → B → Type 0) (cs : List Closed) (ys : List B) → ((c d : Closed) (y : B) → R c y → R d y → c ≡ d)
      → AreDistinct cs → AllZip R cs ys → AreDistinct ys
  rows-apart R cs ys once distinct h = record {
    apart = λ i j d k l e.
        let m : j < length cs = omega (arith, l, AllZip-long R cs ys h) in
        let a = zip-at R cs ys i never d h (omega (arith, k, m)) in
        let b = zip-at R cs ys j never d h m in
        distinct.apart i j never k m (once _ _ (get_or ys j d) (subst (λ y. R (get_or cs i never) y) e a) b);
  }

  pub rows-distinct : AreDistinct rows
  rows-distinct = rows-apart (IsNamedRow types refs resolved) types rows one-named whole.rows.all.distinct of_rows

  pub ref-rows-distinct : AreDistinct ref_rows
  ref-rows-distinct = rows-apart (IsRefRow types refs) refs ref_rows one-ref whole.refs.all.distinct of_refs
