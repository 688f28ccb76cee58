-- What a written type in form gives with its regions and arguments put in: numbers that name what there is.
use mathlib.Core.Former.{Count}
use Rattle.std.proofs.Common.{◌≡◌, ℕ, zero, suc, Bool, true, false, ◌&&◌, ◌^◌, refl, sym, ◌∙◌, List, [], ◌∷◌, ◌++◌, map, slice_get, unwrap_or, nat_lt}
use Rattle.std.specs.List.{list_all}
use Rattle.std.proofs.lemmas.Bool.{and_from}
use Rattle.std.proofs.lemmas.List.Folds.{list_all-append}
use Rattle.tm_base.specs.declared.definition.RegionId.{RegionId}
use Rattle.tm_base.specs.Integers.{is_integer}
use Rattle.tm_names.specs.declared.resolved.Life.{Life}
use Rattle.tm_names.specs.declared.resolved.Life.TheVariants as life
use Rattle.tm_names.specs.declared.resolved.Open.{Open, Row_of-Open, end_of-Open, more_of-Open, Prim, Never, Tuple', Array', NonZero, Wrap', Named', Ref', Param}
use Rattle.tm_names.specs.InForm.{written, row_written, is_life_known, is_head_known}
use Rattle.tm_ground.specs.Closed.{Closed, Elements, never, tuple, array, nonzero, wrap, named, ref, no_elements, element, listed, put_in, put_in_all, put_in_first, region_of}

pub first : (a b : Bool) → (a && b) ≡ true → a ≡ true
first true b h = refl
first false b h = cc

pub second : (a b : Bool) → (a && b) ≡ true → b ≡ true
second true b h = h
second false b h = cc

-- a number below that of the regions
abbrev pub is_region_known : ℕ → RegionId → Bool
is_region_known regions region = nat_lt region.0 regions

-- where there are so many definitions and regions: numbers name them, lengths of arrays have 32 bits, and a
-- `NonZero` holds an integer
module _ (defs regions : ℕ) where
  unfoldable mutual
    pub is_known : Closed → Bool
    is_known (tuple cs) = are_known cs
    is_known (array c n) = nat_lt n (2 ^ 32) && is_known c
    is_known (nonzero p) = is_integer p
    is_known (wrap w c) = is_known c
    is_known (named def given args) = nat_lt def.0 defs && list_all (is_region_known regions) given && are_known args
    is_known (ref region mutable c) = is_region_known regions region && is_known c
    is_known c = true

    pub are_known : Elements → Bool
    are_known no_elements = true
    are_known (element c cs) = is_known c && are_known cs

pub known-listed : (defs regions : ℕ) (cs : Elements) → are_known defs regions cs ≡ true → list_all (is_known defs regions) (listed cs) ≡ true
unfolding is_known
known-listed defs regions no_elements h = refl
known-listed defs regions (element c cs) h = and_from _ _ (first _ _ h) (known-listed defs regions cs (second (is_known defs regions c) _ h))

module _ (defs regions : ℕ) (some : nat_lt 0 regions ≡ true) (rs : List RegionId) (known : list_all (is_region_known regions) rs ≡ true)
    (args : List Closed) (args_known : list_all (is_known defs regions) args ≡ true) where
  param-known : (xs : List RegionId) (k : ℕ) → list_all (is_region_known regions) xs ≡ true → is_region_known regions (unwrap_or (slice_get xs k) (record { 0 = 0 })) ≡ true
  param-known [] k h = some
  param-known (x ∷ xs) zero h = first _ _ h
  param-known (x ∷ xs) (suc k) h = param-known xs k (second (is_region_known regions x) _ h)

  argument-known : (xs : List Closed) (k : ℕ) → list_all (is_known defs regions) xs ≡ true → is_known defs regions (unwrap_or (slice_get xs k) never) ≡ true
  unfolding is_known
  argument-known [] k h = refl
  argument-known (x ∷ xs) zero h = first _ _ h
  argument-known (x ∷ xs) (suc k) h = argument-known xs k (second (is_known defs regions x) _ h)

  life-known : (l : Life) → is_life_known regions l ≡ true → is_region_known regions (region_of rs l) ≡ true
  life-known life.Static h = some
  life-known (life.Declared k) h = h
  life-known (life.Param k) h = param-known rs k known

  lives-known : (ls : List Life) → list_all (is_life_known regions) ls ≡ true → list_all (is_region_known regions) (map (region_of rs) ls) ≡ true
  lives-known [] h = refl
  lives-known (l ∷ ls) h = and_from _ _ (life-known l (first _ _ h)) (lives-known ls (second (is_life_known regions l) _ h))

  abbrev heads_known : List Open → Bool
  heads_known = list_all (is_head_known defs regions)

  behind-known : (ts us : List Open) → heads_known (ts ++ us) ≡ true → (heads_known ts && heads_known us) ≡ true
  behind-known ts us h = sym (list_all-append (is_head_known defs regions) ts us) ∙ h

  mutual
    unfolding put_in is_known written

    pub put_in-known : (t : Open) → heads_known (written t) ≡ true → is_known defs regions (put_in rs args t) ≡ true
    put_in-known (Prim p) h = refl
    put_in-known Never h = refl
    put_in-known (Tuple' shape row) h = all-known row h
    put_in-known (Array' shape row n) h = and_from _ _ (first _ _ h) (first-known row (second (nat_lt n (2 ^ 32)) _ h))
    put_in-known (NonZero p) h = first _ _ h
    put_in-known (Wrap' w shape row) h = first-known row h
    put_in-known (Named' def ls shape row) h =
        let head : (nat_lt def.0 defs && list_all (is_life_known regions) ls) ≡ true = first _ _ h in
        and_from _ _ (and_from _ _ (first _ _ head) (lives-known ls (second (nat_lt def.0 defs) _ head)))
        (all-known row (second (nat_lt def.0 defs && list_all (is_life_known regions) ls) _ h))
    put_in-known (Ref' l mutable shape row) h = and_from _ _ (life-known l (first _ _ h)) (first-known row (second (is_life_known regions l) _ h))
    put_in-known (Param k) h = argument-known args k args_known

    all-known : {m : Count} (row : Row_of-Open m) → heads_known (row_written row) ≡ true → are_known defs regions (put_in_all rs args row) ≡ true
    all-known end_of-Open h = refl
    all-known (more_of-Open t ts) h =
        let parts = behind-known (written t) (row_written ts) h in
        and_from _ _ (put_in-known t (first _ _ parts)) (all-known ts (second (heads_known (written t)) _ parts))

    first-known : {m : Count} (row : Row_of-Open m) → heads_known (row_written row) ≡ true → is_known defs regions (put_in_first rs args row) ≡ true
    first-known end_of-Open h = refl
    first-known (more_of-Open t ts) h = put_in-known t (first _ _ (behind-known (written t) (row_written ts) h))
