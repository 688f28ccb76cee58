-- What putting regions and arguments in gives at each kind of type that holds others.
use Rattle.std.proofs.Common.{◌≡◌, ℕ, zero, suc, ◌<◌, ◌≤◌, Bool, false, nat_lt, refl, ap, ◌∙◌, List, [], ◌∷◌, map, length, get_or, arith}
use Rattle.tm_base.specs.declared.definition.DefId.{DefId}
use Rattle.tm_base.specs.declared.definition.RegionId.{RegionId}
use Rattle.tm_base.specs.declared.ground.Primitive.{Primitive}
use Rattle.tm_base.specs.declared.ground.Wrapper.{Wrapper}
use Rattle.tm_names.specs.declared.resolved.Life.{Life}
use Rattle.tm_names.specs.declared.resolved.Open.{Open, Row_of-Open, end_of-Open, more_of-Open, items-the_row-Open, items_hidden-the_row-Open-0, Prim, Never, Tuple, Array, NonZero, Wrap, Named, Ref, Param}
use Rattle.tm_names.specs.declared.resolved.Open.TheBlock.{hidden-the_row-Open-0, shape-the_row-Open-1, hidden-the_row-Open-1}
use Rattle.tm_ground.specs.Closed.{Closed, prim, never, tuple, array, nonzero, wrap, named, ref, element, as_elements, region_of, argument_of, put_in, put_in_all, closed, listed}

pub listed-as_elements : (cs : List Closed) → listed (as_elements cs) ≡ cs
listed-as_elements [] = refl
listed-as_elements (c ∷ cs) = ap (λ others. c ∷ others) (listed-as_elements cs)

module _ (regions : List RegionId) (args : List Closed) where
  put_in_all-row : {n : _} (row : Row_of-Open n) → put_in_all regions args row ≡ as_elements (map (put_in regions args) (items-the_row-Open n row))
  unfolding put_in
  put_in_all-row end_of-Open = refl
  put_in_all-row (more_of-Open t ts) = ap (λ others. element (put_in regions args t) others) (put_in_all-row ts)

  pub put_in-Prim : (p : Primitive) → put_in regions args (Prim p) ≡ prim p
  unfolding put_in
  put_in-Prim p = refl

  pub put_in-Never : put_in regions args Never ≡ never
  unfolding put_in
  put_in-Never = refl

  pub put_in-Tuple : (ts : List Open) → put_in regions args (Tuple ts) ≡ tuple (as_elements (map (put_in regions args) ts))
  unfolding put_in
  put_in-Tuple ts =
      ap tuple (put_in_all-row (hidden-the_row-Open-0 ts) ∙ ap (λ xs. as_elements (map (put_in regions args) xs)) (items_hidden-the_row-Open-0 ts))

  pub put_in-Array : (t : Open) (n : ℕ) → put_in regions args (Array t n) ≡ array (put_in regions args t) n
  unfolding put_in shape-the_row-Open-1 hidden-the_row-Open-1 denote.Hole.Carrier.hidden
  put_in-Array t n = refl

  pub put_in-NonZero : (p : Primitive) → put_in regions args (NonZero p) ≡ nonzero p
  unfolding put_in
  put_in-NonZero p = refl

  pub put_in-Wrap : (w : Wrapper) (t : Open) → put_in regions args (Wrap w t) ≡ wrap w (put_in regions args t)
  unfolding put_in shape-the_row-Open-1 hidden-the_row-Open-1 denote.Hole.Carrier.hidden
  put_in-Wrap w t = refl

  pub put_in-Named : (def : DefId) (lives : List Life) (ts : List Open) → put_in regions args (Named def lives ts) ≡ named def (map (region_of regions) lives) (as_elements (map (put_in regions args) ts))
  unfolding put_in
  put_in-Named def lives ts =
      ap (named def (map (region_of regions) lives)) (put_in_all-row (hidden-the_row-Open-0 ts) ∙ ap (λ xs. as_elements (map (put_in regions args) xs)) (items_hidden-the_row-Open-0 ts))

  pub put_in-Ref : (life : Life) (mutable : Bool) (t : Open) → put_in regions args (Ref life mutable t) ≡ ref (region_of regions life) mutable (put_in regions args t)
  unfolding put_in shape-the_row-Open-1 hidden-the_row-Open-1 denote.Hole.Carrier.hidden
  put_in-Ref life mutable t = refl

  pub put_in-Param : (k : ℕ) → put_in regions args (Param k) ≡ argument_of args k
  unfolding put_in
  put_in-Param k = refl

pub not-below : (k n : ℕ) → false ≡ nat_lt k n → n ≤ k
not-below k n h = grind arith

-- an argument that is given, and one that isn't
pub argument-at : (ts : List Open) (k : ℕ) (t : Open) → k < length ts → t ≡ get_or ts k t → closed t ≡ argument_of (map closed ts) k
argument-at [] k t l e = absurd (omega (arith, l))
argument-at (u ∷ ts) zero t l e = ap closed e
argument-at (u ∷ ts) (suc k) t l e = argument-at ts k t (omega (arith, l)) e

pub argument-none : (ts : List Open) (k : ℕ) → length ts ≤ k → never ≡ argument_of (map closed ts) k
argument-none [] k l = refl
argument-none (u ∷ ts) zero l = absurd (omega (arith, l))
argument-none (u ∷ ts) (suc k) l = argument-none ts k (omega (arith, l))

pub ruleset put_ins = (put_in-Prim, put_in-Never, put_in-Tuple, put_in-Array, put_in-NonZero, put_in-Wrap, put_in-Named, put_in-Ref, put_in-Param, listed-as_elements)
