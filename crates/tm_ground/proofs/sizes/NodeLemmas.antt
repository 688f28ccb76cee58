-- Counting the nodes of a type down from a number of them.
use Rattle.std.proofs.Common.{◌≡◌, ◌≢◌, ℕ, suc, ◌+◌, ◌-◌, ◌<◌, ◌≤◌, Bool, refl, sym, ap, ◌∙◌, ⊎_elim, List, map, length, drop, get_or, Option, Some, None, arith}
use Rattle.std.proofs.lemmas.Bool.{cases_lt, le-leb, lt-leb}
use Rattle.std.proofs.lemmas.List.{drop_more}
use Rattle.tm_base.specs.declared.definition.DefId.{DefId}
use Rattle.tm_base.specs.declared.definition.RegionId.{RegionId}
use Rattle.tm_base.specs.declared.ground.Primitive.{Primitive}
use Rattle.tm_base.specs.declared.ground.Wrapper.{Wrapper}
use Rattle.tm_names.specs.declared.resolved.Life.{Life}
use Rattle.tm_names.specs.declared.resolved.Open.{Open, Prim, Never, Tuple, Array, NonZero, Wrap, Named, Ref, Param}
use Rattle.tm_ground.specs.Closed.{Closed, never, as_elements, argument_of, put_in, nodes, nodes_in}
use Rattle.tm_ground.specs.Rooms.{left_after}
use Rattle.tm_ground.proofs.forms.OpenLemmas.{put_in-Prim, put_in-Never, put_in-Tuple, put_in-Array, put_in-NonZero, put_in-Wrap, put_in-Named, put_in-Ref, put_in-Param}
use Rattle.tm_ground.proofs.sizes.SizeLemmas.{nodes-parts}

left-fits : (room n : ℕ) → n ≤ room → left_after room n ≡ Some (room - n)
left-fits room n l = rw (le-leb n room l) refl

left-over : (room n : ℕ) → room < n → left_after room n ≡ None
left-over room n l = rw (lt-leb n room l) refl

pub then-left : (room n m rest : ℕ) → left_after room n ≡ Some rest → left_after room (n + m) ≡ left_after rest m
then-left room n m rest e = ⊎_elim over fits (cases_lt room n)
  where
    over : room < n → left_after room (n + m) ≡ left_after rest m
    over l = let none = left-over room n l in cc

    fits : n ≤ room → left_after room (n + m) ≡ left_after rest m
    fits l =
        let some : Some (room - n) ≡ Some rest = sym (left-fits room n l) ∙ e in
        let same : room - n ≡ rest = cc in
        ⊎_elim
        (λ (more : room < n + m). left-over room (n + m) more ∙ sym (left-over rest m (omega (arith, l, same, more))))
        (λ (most : n + m ≤ room).
        let left : room - (n + m) ≡ rest - m = omega (arith, l, same, most) in
        left-fits room (n + m) most ∙ ap (λ (k : ℕ). Some k) left ∙ sym (left-fits rest m (omega (arith, l, same, most))))
        (cases_lt room (n + m))

pub none-left : (room n m : ℕ) → left_after room n ≡ None → None ≡ left_after room (n + m)
none-left room n m e = ⊎_elim over fits (cases_lt room n)
  where
    over : room < n → None ≡ left_after room (n + m)
    over l = sym (left-over room (n + m) (omega (arith, l)))

    fits : n ≤ room → None ≡ left_after room (n + m)
    fits l = let some = left-fits room n l in cc

pub no-room : (room : ℕ) (c : Closed) → room ≡ 0 → None ≡ left_after room (nodes c)
no-room room c e = sym (left-over room (nodes c) (omega (arith, e, nodes-parts c)))

one-more : (room n : ℕ) → room ≢ 0 → left_after (room - 1) n ≡ left_after room (suc n)
one-more room n some =
    let first : left_after room 1 ≡ Some (room - 1) = left-fits room 1 (omega (arith, some)) in
    sym (then-left room 1 n (room - 1) first) ∙ ap (left_after room) (omega arith)

pub all-room : (room : ℕ) → Some room ≡ left_after room 0
all-room room =
    let same : room ≡ room - 0 = omega arith in
    ap (λ (k : ℕ). Some k) same ∙ sym (left-fits room 0 (omega arith))

module _ (args : List Closed) (regions : List RegionId) (room : ℕ) (some : room ≢ 0) where
  abbrev Left : Open → Option ℕ
  Left t = left_after room (nodes (put_in regions args t))

  abbrev rest-behind : Open → Option ℕ
  rest-behind t = left_after (room - 1) (nodes (put_in regions args t))

  abbrev rest-behind-all : List Open → Option ℕ
  rest-behind-all ts = left_after (room - 1) (nodes_in (as_elements (map (put_in regions args) ts)))

  leaf : (t : Open) → nodes (put_in regions args t) ≡ 1 → Some (room - 1) ≡ Left t
  leaf t e = all-room (room - 1) ∙ one-more room 0 some ∙ ap (left_after room) (sym e)

  pub left-Prim : (p : Primitive) → Some (room - 1) ≡ Left (Prim p)
  unfolding nodes
  left-Prim p = leaf (Prim p) (ap nodes (put_in-Prim regions args p))

  pub left-Never : Some (room - 1) ≡ Left Never
  unfolding nodes
  left-Never = leaf Never (ap nodes (put_in-Never regions args))

  pub left-NonZero : (p : Primitive) → Some (room - 1) ≡ Left (NonZero p)
  unfolding nodes
  left-NonZero p = leaf (NonZero p) (ap nodes (put_in-NonZero regions args p))

  pub left-Array : (t : Open) (n : ℕ) → rest-behind t ≡ Left (Array t n)
  unfolding nodes
  left-Array t n = one-more room _ some ∙ ap (λ c. left_after room (nodes c)) (sym (put_in-Array regions args t n))

  pub left-Wrap : (w : Wrapper) (t : Open) → rest-behind t ≡ Left (Wrap w t)
  unfolding nodes
  left-Wrap w t = one-more room _ some ∙ ap (λ c. left_after room (nodes c)) (sym (put_in-Wrap regions args w t))

  pub left-Ref : (life : Life) (mutable : Bool) (t : Open) → rest-behind t ≡ Left (Ref life mutable t)
  unfolding nodes
  left-Ref life mutable t = one-more room _ some ∙ ap (λ c. left_after room (nodes c)) (sym (put_in-Ref regions args life mutable t))

  pub left-Tuple : (ts : List Open) → rest-behind-all ts ≡ Left (Tuple ts)
  unfolding nodes
  left-Tuple ts = one-more room _ some ∙ ap (λ c. left_after room (nodes c)) (sym (put_in-Tuple regions args ts))

  pub left-Named : (def : DefId) (lives : List Life) (ts : List Open) → rest-behind-all ts ≡ Left (Named def lives ts)
  unfolding nodes
  left-Named def lives ts = one-more room _ some ∙ ap (λ c. left_after room (nodes c)) (sym (put_in-Named regions args def lives ts))

  pub left-Param : (k : ℕ) → argument_of args k ≡ never → Some (room - 1) ≡ Left (Param k)
  unfolding nodes
  left-Param k e = leaf (Param k) (ap nodes (put_in-Param regions args k ∙ e))

-- the nodes of the types from a place on
pub nodes-from : (f : Open → Closed) (ts : List Open) (i : ℕ) (t : Open) → i < length ts → t ≡ get_or ts i t → nodes_in (as_elements (map f (drop i ts))) ≡ nodes (f t) + nodes_in (as_elements (map f (drop (i + 1) ts)))
unfolding nodes
nodes-from f ts i t l e =
    ap (λ us. nodes_in (as_elements (map f us))) (drop_more ts i t l) ∙ ap (λ u. nodes (f u) + nodes_in (as_elements (map f (drop (i + 1) ts)))) (sym e)
