-- The order of texts is strict, and it is the one that comparing texts gives.
use Rattle.std.proofs.Common.{◌≡◌, ℕ, refl, Bool, true, false, ◌||◌, ◌&&◌, not, cond, List, [], ◌∷◌, nat_lt, ◌==◌, arith}
use Rattle.std.specs.Cmp.Lexicographic.{slice_cmp}
use Rattle.std.specs.Ordering.{is_lt, nat_cmp, ordering_then}
use Rattle.std.specs.declared.cmp.Ordering.{Ordering}
use Rattle.std.specs.declared.cmp.Ordering.TheVariants.{Less, Equal, Greater}
use Rattle.std.proofs.lemmas.Bool.Decides.{nat_tests}
use Rattle.tm_base.specs.Orders.{list_less, text_less}

tied : (x y : ℕ) → nat_lt x y ≡ false → (x == y) ≡ true → nat_lt y x ≡ false
tied x y h k = grind (arith, nat_tests)

above : (x y : ℕ) → nat_lt x y ≡ false → (x == y) ≡ false → nat_lt y x ≡ true
above x y h k = grind (arith, nat_tests)

head_compared : (a b c : Bool) (o : Ordering) (rest : Bool) → (a ≡ false → b ≡ true → c ≡ false) → (a ≡ false → b ≡ false → c ≡ true) → is_lt o ≡ rest
    → is_lt (ordering_then (cond a Less (cond b Equal Greater)) o) ≡ (a || (not c && rest))
head_compared true b c o rest same more e = refl
head_compared false true c o rest same more e = rw (same refl refl) e
head_compared false false c o rest same more e = rw (more refl refl) refl

-- comparing texts says which is less
pub text_less-compared : (v w : List ℕ) → is_lt (slice_cmp nat_cmp v w) ≡ text_less v w
unfolding list_less
text_less-compared [] [] = refl
text_less-compared [] (y ∷ ys) = refl
text_less-compared (x ∷ xs) [] = refl
text_less-compared (x ∷ xs) (y ∷ ys) =
    head_compared (nat_lt x y) (x == y) (nat_lt y x) (slice_cmp nat_cmp xs ys) (text_less xs ys) (tied x y) (above x y) (text_less-compared xs ys)
