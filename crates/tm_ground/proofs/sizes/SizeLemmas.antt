-- How many nodes a written type has, for the recursions that go down it.
use Rattle.std.proofs.Common.{◌≡◌, ℕ, Bool, ◌+◌, ◌<◌, refl, sym, ap, ◌∙◌, List, [], ◌∷◌, map, arith, length, get_or, Some, slice_get, zero, suc, ◌≤◌}
use Rattle.tm_base.specs.declared.definition.DefId.{DefId}
use Rattle.tm_base.specs.declared.ground.Wrapper.{Wrapper}
use Rattle.tm_names.specs.declared.resolved.Life.{Life}
use Rattle.tm_names.specs.declared.resolved.Open.{Open, Tuple, Array, Wrap, Named, Ref}
use Rattle.tm_ground.specs.Closed.{Closed, Elements, prim, never, tuple, array, nonzero, wrap, named, ref, no_elements, element, listed, as_elements, closed, nodes, nodes_in}
use Rattle.tm_ground.specs.Occurs.{parts_in}
use Rattle.tm_ground.proofs.forms.OpenLemmas.{listed-as_elements, put_in-Tuple, put_in-Array, put_in-Wrap, put_in-Named, put_in-Ref}

-- the nodes of several types
abbrev pub counts : List Closed → ℕ
counts [] = 0
counts (c ∷ cs) = nodes c + counts cs

pub nodes_in-listed : (cs : Elements) → nodes_in cs ≡ counts (listed cs)
unfolding nodes
nodes_in-listed no_elements = refl
nodes_in-listed (element c cs) = ap (λ n. nodes c + n) (nodes_in-listed cs)

pub nodes-parts : (c : Closed) → 1 + counts (parts_in c) ≤ nodes c
unfolding nodes
nodes-parts (prim p) = omega arith
nodes-parts never = omega arith
nodes-parts (tuple cs) = omega (arith, nodes_in-listed cs)
nodes-parts (array c n) = omega arith
nodes-parts (nonzero p) = omega arith
nodes-parts (wrap w c) = omega arith
nodes-parts (named def regions args) = omega arith
nodes-parts (ref region mutable c) = omega arith

-- the nodes of a written type, `!` in place of each type parameter
abbrev pub size_of : Open → ℕ
size_of t = nodes (closed t)

abbrev pub sizes_of : List Open → ℕ
sizes_of [] = 0
sizes_of (t ∷ ts) = size_of t + sizes_of ts

pub sizes_of-counts : (ts : List Open) → sizes_of ts ≡ counts (map closed ts)
sizes_of-counts [] = refl
sizes_of-counts (t ∷ ts) = ap (λ n. size_of t + n) (sizes_of-counts ts)

pub size_of-parts : (t : Open) (ts : List Open) → map closed ts ≡ parts_in (closed t) → 1 + sizes_of ts ≤ size_of t
size_of-parts t ts e =
    let same : sizes_of ts ≡ counts (parts_in (closed t)) = sizes_of-counts ts ∙ ap counts e in
    omega (arith, nodes-parts (closed t), same)

pub size_of-some : (t : Open) → 0 < size_of t
size_of-some t = omega (arith, nodes-parts (closed t))

pub size_of-at : (ts : List Open) (i : ℕ) (t : Open) → i < length ts → t ≡ get_or ts i t → size_of t ≤ sizes_of ts
size_of-at [] i t l e = absurd (omega (arith, l))
size_of-at (u ∷ ts) zero t l e =
    let same : size_of t ≡ size_of u = ap size_of e in
    omega arith
size_of-at (u ∷ ts) (suc i) t l e =
    let below = size_of-at ts i t (omega (arith, l)) e in
    omega arith

pub size_of-get : (ts : List Open) (i : ℕ) (t : Open) → slice_get ts i ≡ Some t → size_of t ≤ sizes_of ts
size_of-get [] i t h = cc
size_of-get (u ∷ ts) zero t h =
    let same : u ≡ t = cc in
    let sizes : size_of u ≡ size_of t = ap size_of same in
    omega (arith, sizes)
size_of-get (u ∷ ts) (suc i) t h = omega (arith, size_of-get ts i t h)

module _ (ts : List Open) where
  elements-size : nodes_in (as_elements (map closed ts)) ≡ sizes_of ts
  elements-size = nodes_in-listed (as_elements (map closed ts)) ∙ ap counts (listed-as_elements (map closed ts)) ∙ sym (sizes_of-counts ts)

  pub size-Tuple : size_of (Tuple ts) ≡ 1 + sizes_of ts
  unfolding nodes
  size-Tuple =
      let whole : size_of (Tuple ts) ≡ suc (nodes_in (as_elements (map closed ts))) = ap nodes (put_in-Tuple [] [] ts) in
      omega (arith, whole, elements-size)

  pub size-Named : (def : DefId) (lives : List Life) → size_of (Named def lives ts) ≡ 1 + sizes_of ts
  unfolding nodes
  size-Named def lives =
      let whole : size_of (Named def lives ts) ≡ suc (nodes_in (as_elements (map closed ts))) = ap nodes (put_in-Named [] [] def lives ts) in
      omega (arith, whole, elements-size)

module _ (t : Open) where
  pub size-Array : (n : ℕ) → size_of (Array t n) ≡ 1 + size_of t
  unfolding nodes
  size-Array n =
      let whole : size_of (Array t n) ≡ suc (size_of t) = ap nodes (put_in-Array [] [] t n) in
      omega (arith, whole)

  pub size-Wrap : (w : Wrapper) → size_of (Wrap w t) ≡ 1 + size_of t
  unfolding nodes
  size-Wrap w =
      let whole : size_of (Wrap w t) ≡ suc (size_of t) = ap nodes (put_in-Wrap [] [] w t) in
      omega (arith, whole)

  pub size-Ref : (life : Life) (mutable : Bool) → size_of (Ref life mutable t) ≡ 1 + size_of t
  unfolding nodes
  size-Ref life mutable =
      let whole : size_of (Ref life mutable t) ≡ suc (size_of t) = ap nodes (put_in-Ref [] [] life mutable t) in
      omega (arith, whole)
