-- The number of what is found is below that of what there is.
use Rattle.std.proofs.Common.{◌≡◌, ℕ, suc, ◌+◌, ◌<◌, refl, arith, Bool, true, false, if◌then◌else◌, List, [], ◌∷◌, length, map, sym}
use Rattle.std.specs.Prelude.{Option, Some, None, cond, nat_lt, unwrap_or, option_map, IfSome}
use Rattle.std.specs.List.{list_all, position_from}
use Rattle.std.proofs.lemmas.Bool.{and_from, lt-ltb}
use Rattle.std.proofs.lemmas.List.{length-map}
use Rattle.std.proofs.lemmas.Option.{none-some, same_Some}
use Rattle.tm_base.specs.Whole.{is_bound_known}
use Rattle.tm_names.specs.declared.resolved.Life.{Life}
use Rattle.tm_names.specs.declared.resolved.Life.TheVariants.{Static, Declared, Param}
use Rattle.tm_names.specs.InForm.{is_life_known}
use Rattle.tm_names.specs.Resolutions.{bound_of, life_of, param_of, declared_of, region_of, regions_of}
use Rattle.tm_names.specs.Written.{first_among, is_same, is_static}
use Rattle.tm_parse.specs.declared.parsed.DeclBound.{DeclBound}

-- what is found stands in the list
pub found_within : {X : Type 0} (test : X → Bool) (from : ℕ) (xs : List X) (k : ℕ) → position_from test from xs ≡ Some k → k < from + length xs
found_within test from [] k e = absurd (none-some k e)
found_within test from (x ∷ xs) k e = go (test x) e (found_within test (from + 1) xs k)
  where
    go : (b : Bool) → cond b (Some from) (position_from test (from + 1) xs) ≡ Some k → (position_from test (from + 1) xs ≡ Some k → k < from + 1 + length xs) → k < from + suc (length xs)
    go true e rest = let same : from ≡ k = same_Some from k e in omega (arith, same)
    go false e rest = let h = rest e in omega (arith, h)

pub each_found : {X : Type 0} (test : X → Bool) (xs : List X) (o : Option ℕ) → o ≡ position_from test 0 xs → IfSome o (λ k. k < length xs)
each_found test xs None e = tt
each_found test xs (Some k) e = let h = found_within test 0 xs k (sym e) in omega (arith, h)

module _ (name : ℕ → List ℕ) where
  among_within : (sight : List ℕ) (place k : ℕ) → first_among name sight place ≡ Some k → k < length sight
  among_within sight place k e = let h = found_within (λ p. is_same name p place) 0 sight k e in omega (arith, h)

  -- so a lifetime is known where each one in sight is
  life_known : (regions : ℕ) (made : ℕ → Life) (sight : List ℕ) → ((k : ℕ) → k < length sight → is_life_known regions (made k) ≡ true)
      → (place : ℕ) → is_life_known regions (life_of name made sight place) ≡ true
  life_known regions made sight each place =
      go (is_static name place) (first_among name sight place) (λ k e. each k (among_within sight place k e))
    where
      go : (b : Bool) (o : Option ℕ) → ((k : ℕ) → o ≡ Some k → is_life_known regions (made k) ≡ true)
          → is_life_known regions (if b then Static else unwrap_or (option_map made o) Static) ≡ true
      go true o each = refl
      go false None each = refl
      go false (Some k) each = each k refl

  pub param_known : (regions : ℕ) (params : List ℕ) (place : ℕ) → is_life_known regions (param_of name params place) ≡ true
  param_known regions params = life_known regions Param params (λ k l. refl)

  pub declared_known : (lifetimes : List ℕ) (place : ℕ) → is_life_known (length (regions_of name lifetimes)) (declared_of name lifetimes place) ≡ true
  declared_known lifetimes =
      life_known (length (regions_of name lifetimes)) (λ k. Declared (k + 1)) lifetimes
      (λ k l. lt-ltb (k + 1) _ (omega (arith, l, length-map lifetimes name)))

  region_known : (lifetimes : List ℕ) (place : ℕ) → nat_lt (region_of name lifetimes place).0 (length (regions_of name lifetimes)) ≡ true
  region_known lifetimes place =
      go (is_static name place) (first_among name lifetimes place) (among_within lifetimes place)
    where
      go : (b : Bool) (o : Option ℕ) → ((k : ℕ) → o ≡ Some k → k < length lifetimes)
          → nat_lt (if b then 0 else unwrap_or (option_map (λ k. k + 1) o) 0) (length (regions_of name lifetimes)) ≡ true
      go true o within = lt-ltb 0 _ (omega arith)
      go false None within = lt-ltb 0 _ (omega arith)
      go false (Some k) within = let l = within k refl in lt-ltb (k + 1) _ (omega (arith, l, length-map lifetimes name))

  pub bounds_known : (lifetimes : List ℕ) (bounds : List DeclBound) → list_all (is_bound_known (length (regions_of name lifetimes))) (map (bound_of name lifetimes) bounds) ≡ true
  bounds_known lifetimes [] = refl
  bounds_known lifetimes (b ∷ bs) =
      and_from _ _ (and_from _ _ (region_known lifetimes b.longer) (region_known lifetimes b.shorter)) (bounds_known lifetimes bs)
