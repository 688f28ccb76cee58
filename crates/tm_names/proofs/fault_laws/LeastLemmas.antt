-- The first of faults that are found part by part.
use Rattle.std.proofs.Common.{◌≡◌, ℕ, zero, suc, ◌<◌, refl, sym, ap, ◌∙◌, arith, List, [], ◌∷◌, ◌++◌, length, drop, get_or}
use Rattle.std.specs.List.{flat_map}
use Rattle.std.specs.Prelude.{Option}
use Rattle.tm_names.specs.declared.faults.least.NameFault.{NameFault}
use Rattle.tm_names.specs.Least.{earliest, keep}

pub earliest_append : (first : Option NameFault) (xs ys : List NameFault) → earliest first (xs ++ ys) ≡ earliest (earliest first xs) ys
earliest_append first [] ys = refl
earliest_append first (x ∷ xs) ys = earliest_append (keep first x) xs ys

-- one part, and those behind it
pub step : (first second third : Option NameFault) (xs ys : List NameFault) → second ≡ earliest first xs → third ≡ earliest second ys
    → third ≡ earliest first (xs ++ ys)
step first second third xs ys e f = f ∙ (ap (λ found. earliest found ys) e ∙ sym (earliest_append first xs ys))

-- five parts
pub chain : (a b c d e f : Option NameFault) (u v w x y : List NameFault)
    → b ≡ earliest a u → c ≡ earliest b v → d ≡ earliest c w → e ≡ earliest d x → f ≡ earliest e y
    → f ≡ earliest a (u ++ (v ++ (w ++ (x ++ y))))
chain a b c d e f u v w x y p q r s t =
    step a b f u (v ++ (w ++ (x ++ y))) p
    (step b c f v (w ++ (x ++ y)) q (step c d f w (x ++ y) r (step d e f x y s t)))

-- one turn of a loop over parts: what is found so far, and what the rest gives, is the whole
pub turn : {X : Type 0} (f : X → List NameFault) (first second whole : Option NameFault) (xs : List X) (i n : ℕ) (x : X)
    → i < length xs → n ≡ suc i → x ≡ get_or xs i x → second ≡ earliest first (f x)
    → earliest first (flat_map f (drop i xs)) ≡ whole → earliest second (flat_map f (drop n xs)) ≡ whole
turn f first second whole [] i n x h e at g rest = absurd (omega arith)
turn f first second whole (y ∷ ys) zero n x h e at g rest =
    ap (λ k. earliest second (flat_map f (drop k (y ∷ ys)))) e
    ∙ (ap (λ found. earliest found (flat_map f ys)) (g ∙ ap (λ z. earliest first (f z)) at) ∙ (sym (earliest_append first (f y) (flat_map f ys)) ∙ rest))
turn f first second whole (y ∷ ys) (suc i) n x h e at g rest =
    ap (λ k. earliest second (flat_map f (drop k (y ∷ ys)))) e
    ∙ turn f first second whole ys i (suc i) x (omega arith) refl at g rest
