-- The types that are written in a type, by its parts.
use Rattle.std.proofs.Common.{◌≡◌, refl, sym, ap, ◌∷◌, ◌++◌, append-nil}
use Rattle.std.specs.List.{flat_map}
use Rattle.tm_ground.specs.Closed.{Closed, Elements, prim, never, tuple, array, nonzero, wrap, named, ref, no_elements, element, listed}
use Rattle.tm_ground.specs.Occurs.{parts_in}
use Rattle.tm_ground.specs.Written.{written_in, written_in_all}

written_in_all-listed : (cs : Elements) → written_in_all cs ≡ flat_map written_in (listed cs)
unfolding written_in
written_in_all-listed no_elements = refl
written_in_all-listed (element c cs) = ap (λ others. written_in c ++ others) (written_in_all-listed cs)

-- a type, and what is written in its parts
pub written_in-parts : (c : Closed) → written_in c ≡ c ∷ flat_map written_in (parts_in c)
unfolding written_in
written_in-parts (prim p) = refl
written_in-parts never = refl
written_in-parts (tuple cs) = ap (λ others. tuple cs ∷ others) (written_in_all-listed cs)
written_in-parts (array c n) = ap (λ others. array c n ∷ others) (sym (append-nil (written_in c)))
written_in-parts (nonzero p) = refl
written_in-parts (wrap w c) = ap (λ others. wrap w c ∷ others) (sym (append-nil (written_in c)))
written_in-parts (named def regions args) = refl
written_in-parts (ref region mutable c) = ap (λ others. ref region mutable c ∷ others) (sym (append-nil (written_in c)))
