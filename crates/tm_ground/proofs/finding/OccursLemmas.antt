-- What is written in a type that occurs occurs.
use Rattle.std.proofs.Common.{◌≡◌, Bool, true, sym, subst, List, Contains, filter}
use Rattle.tm_ground.specs.Closed.{Closed}
use Rattle.tm_ground.specs.Growing.{IsWithin}
use Rattle.tm_ground.specs.Occurs.{parts_in}
use Rattle.tm_ground.specs.Written.{written_in}
use Rattle.tm_ground.proofs.finding.ContainsLemmas.{contains-first, contains-behind, contains-filter, filter-contains, flat_map-contains}
use Rattle.tm_ground.proofs.finding.WrittenLemmas.{written_in-parts}

-- those of a kind that are written in types that occur
abbrev pub kept : (Closed → Bool) → Closed → List Closed
kept kind c = filter kind (written_in c)

-- a type of the kind is written in itself
pub kept-itself : (kind : Closed → Bool) (c : Closed) → kind c ≡ true → Contains (kept kind c) c
kept-itself kind c t = filter-contains kind (written_in c) c (subst (λ xs. Contains xs c) (sym (written_in-parts c)) (contains-first c _)) t

-- what is written in a part is written in the whole
pub kept-part : (kind : Closed → Bool) (whole c : Closed) → Contains (parts_in whole) c → IsWithin (kept kind c) (kept kind whole)
kept-part kind whole c h = record {
  within = λ x i.
      let at = contains-filter kind (written_in c) x i in
      let below = flat_map-contains written_in (parts_in whole) c x h at.0 in
      filter-contains kind (written_in whole) x (subst (λ xs. Contains xs x) (sym (written_in-parts whole)) (contains-behind whole _ x below)) at.1;
}
