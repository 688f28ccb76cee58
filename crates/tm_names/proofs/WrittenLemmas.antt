-- What is written in a type whose names are resolved stands for what is written in the type.
use Rattle.std.proofs.Common.{◌≡◌, ◌≤◌, ◌⊎◌, ℕ, suc, refl, ap, ◌∙◌, subst, inl, inr, ⊎_elim, arith, Bool, Option, Some, None, List, [], ◌∷◌, ◌++◌, length, map, append-nil, length-append}
use Rattle.std.specs.List.{flat_map}
use Rattle.tm_base.specs.declared.definition.DefId.{DefId}
use Rattle.tm_base.specs.declared.ground.Wrapper.{Wrapper}
use Rattle.tm_names.proofs.Members.{Member, behind, either, front}
use Rattle.tm_names.specs.declared.meaning.Meaning.{Meaning}
use Rattle.tm_names.specs.declared.meaning.Meaning.TheVariants.{Definition, Parameter}
use Rattle.tm_names.specs.declared.resolved.Life.{Life}
use Rattle.tm_names.specs.declared.resolved.Open.{Open, Row_of-Open, end_of-Open, more_of-Open, items-the_row-Open, items_hidden-the_row-Open-0, Tuple, Array, Wrap, Named, Ref}
use Rattle.tm_names.specs.declared.resolved.Open.TheBlock.{hidden-the_row-Open-0, shape-the_row-Open-1, hidden-the_row-Open-1}
use Rattle.tm_names.specs.InForm.{written, row_written}
use Rattle.tm_names.specs.Resolutions.{named, type_of, row_types}
use Rattle.tm_parse.specs.Written as parsed
use Rattle.tm_parse.specs.declared.parsed.Expr as expr
use Rattle.tm_parse.specs.declared.parsed.Expr.{Expr, Row_of-Expr, end_of-Expr, more_of-Expr}

row_written-row : {n : _} (row : Row_of-Open n) → row_written row ≡ flat_map written (items-the_row-Open n row)
unfolding written
row_written-row end_of-Open = refl
row_written-row (more_of-Open t ts) = ap (λ others. written t ++ others) (row_written-row ts)

pub written-Tuple : (ts : List Open) → written (Tuple ts) ≡ Tuple ts ∷ flat_map written ts
unfolding written
written-Tuple ts = ap (λ others. Tuple ts ∷ others) (row_written-row (hidden-the_row-Open-0 ts) ∙ ap (flat_map written) (items_hidden-the_row-Open-0 ts))

pub written-Array : (t : Open) (n : ℕ) → written (Array t n) ≡ Array t n ∷ written t
unfolding written shape-the_row-Open-1 hidden-the_row-Open-1 denote.Hole.Carrier.hidden
written-Array t n = ap (λ others. Array t n ∷ others) (append-nil (written t))

pub written-Wrap : (w : Wrapper) (t : Open) → written (Wrap w t) ≡ Wrap w t ∷ written t
unfolding written shape-the_row-Open-1 hidden-the_row-Open-1 denote.Hole.Carrier.hidden
written-Wrap w t = ap (λ others. Wrap w t ∷ others) (append-nil (written t))

pub written-Ref : (life : Life) (mutable : Bool) (t : Open) → written (Ref life mutable t) ≡ Ref life mutable t ∷ written t
unfolding written shape-the_row-Open-1 hidden-the_row-Open-1 denote.Hole.Carrier.hidden
written-Ref life mutable t = ap (λ others. Ref life mutable t ∷ others) (append-nil (written t))

pub written-Named : (def : DefId) (lives : List Life) (ts : List Open) → written (Named def lives ts) ≡ Named def lives ts ∷ flat_map written ts
unfolding written
written-Named def lives ts = ap (λ others. Named def lives ts ∷ others) (row_written-row (hidden-the_row-Open-0 ts) ∙ ap (flat_map written) (items_hidden-the_row-Open-0 ts))

-- a type that a name stands for is written in itself, and so are at most the types that are given to it
named_written : (o : Option Meaning) (lives : List Life) (ts : List Open) (u : Open) → Member u (written (named o lives ts)) → (named o lives ts ≡ u) ⊎ Member u (flat_map written ts)
unfolding written
named_written None lives ts u m = subst (Member u) (written-Named (record { 0 = 0 }) lives ts) m
named_written (Some (Definition k)) lives ts u m = subst (Member u) (written-Named (record { 0 = k }) lives ts) m
named_written (Some (Parameter k)) lives ts u m = ⊎_elim (λ e. inl e) (λ n. absurd n) m

named_length : (o : Option Meaning) (lives : List Life) (ts : List Open) → length (written (named o lives ts)) ≤ suc (length (flat_map written ts))
unfolding written
named_length None lives ts = let all = ap length (written-Named (record { 0 = 0 }) lives ts) in omega (arith, all)
named_length (Some (Definition k)) lives ts = let all = ap length (written-Named (record { 0 = k }) lives ts) in omega (arith, all)
named_length (Some (Parameter k)) lives ts = omega arith

module _ (meaning : ℕ → Option Meaning) (life : ℕ → Life) where
  abbrev resolved : Expr → Open
  resolved = type_of meaning life

  -- one of these is resolved to it
  abbrev From : List Expr → Open → Type 0
  From es u = (t : Expr) × Member t es × (resolved t ≡ u)

  later : (e : Expr) (es : List Expr) (u : Open) → From es u → From (e ∷ es) u
  later e es u (t, m, same) = (t, inr m, same)

  one_part : (e : Expr) (u : Open) → From (parsed.written e) u → From (parsed.written e ++ []) u
  one_part e u (t, m, same) = (t, front t (parsed.written e) [] m, same)

  mutual
    unfolding type_of parsed.written written

    pub written_from : (e : Expr) (u : Open) → Member u (written (resolved e)) → From (parsed.written e) u
    written_from (expr.Prim p) u m = ⊎_elim (λ e. (expr.Prim p, inl refl, e)) (λ n. absurd n) m
    written_from expr.Never u m = ⊎_elim (λ e. (expr.Never, inl refl, e)) (λ n. absurd n) m
    written_from (expr.Tuple' shape row) u m =
        ⊎_elim (λ e. (expr.Tuple' shape row, inl refl, e)) (λ n. later (expr.Tuple' shape row) (parsed.row_written row) u (row_from row u n))
        (subst (Member u) (written-Tuple (row_types meaning life row)) m)
    written_from (expr.Array' shape (more_of-Expr e end_of-Expr) n) u m =
        ⊎_elim (λ s. (expr.Array' shape (more_of-Expr e end_of-Expr) n, inl refl, s))
        (λ k. later (expr.Array' shape (more_of-Expr e end_of-Expr) n) (parsed.written e ++ []) u (one_part e u (written_from e u k)))
        (subst (Member u) (written-Array (resolved e) n) m)
    written_from (expr.NonZero p) u m = ⊎_elim (λ e. (expr.NonZero p, inl refl, e)) (λ n. absurd n) m
    written_from (expr.Wrap' w shape (more_of-Expr e end_of-Expr)) u m =
        ⊎_elim (λ s. (expr.Wrap' w shape (more_of-Expr e end_of-Expr), inl refl, s))
        (λ k. later (expr.Wrap' w shape (more_of-Expr e end_of-Expr)) (parsed.written e ++ []) u (one_part e u (written_from e u k)))
        (subst (Member u) (written-Wrap w (resolved e)) m)
    written_from (expr.Named' place lifetimes shape row) u m =
        ⊎_elim (λ e. (expr.Named' place lifetimes shape row, inl refl, e))
        (λ n. later (expr.Named' place lifetimes shape row) (parsed.row_written row) u (row_from row u n))
        (named_written (meaning place) (map life lifetimes) (row_types meaning life row) u m)
    written_from (expr.Ref' place mutable shape (more_of-Expr e end_of-Expr)) u m =
        ⊎_elim (λ s. (expr.Ref' place mutable shape (more_of-Expr e end_of-Expr), inl refl, s))
        (λ k. later (expr.Ref' place mutable shape (more_of-Expr e end_of-Expr)) (parsed.written e ++ []) u (one_part e u (written_from e u k)))
        (subst (Member u) (written-Ref (life place) mutable (resolved e)) m)

    row_from : {n : _} (row : Row_of-Expr n) (u : Open) → Member u (flat_map written (row_types meaning life row)) → From (parsed.row_written row) u
    row_from end_of-Expr u m = absurd m
    row_from (more_of-Expr e es) u m =
        ⊎_elim
        (λ n. let (t, among, same) = written_from e u n in (t, front t (parsed.written e) (parsed.row_written es) among, same))
        (λ n. let (t, among, same) = row_from es u n in (t, behind t (parsed.written e) (parsed.row_written es) among, same))
        (either u (written (resolved e)) (flat_map written (row_types meaning life es)) m)

  mutual
    unfolding type_of parsed.written written

    pub no_more_written : (e : Expr) → length (written (resolved e)) ≤ length (parsed.written e)
    no_more_written (expr.Prim p) = omega arith
    no_more_written expr.Never = omega arith
    no_more_written (expr.Tuple' shape row) = let all = ap length (written-Tuple (row_types meaning life row)) in let few = row_no_more row in omega (arith, all, few)
    no_more_written (expr.Array' shape (more_of-Expr e end_of-Expr) n) =
        let all = ap length (written-Array (resolved e) n) in let few = no_more_written e in let one = length-append (parsed.written e) [] in omega (arith, all, few, one)
    no_more_written (expr.NonZero p) = omega arith
    no_more_written (expr.Wrap' w shape (more_of-Expr e end_of-Expr)) =
        let all = ap length (written-Wrap w (resolved e)) in let few = no_more_written e in let one = length-append (parsed.written e) [] in omega (arith, all, few, one)
    no_more_written (expr.Named' place lifetimes shape row) =
        let all = named_length (meaning place) (map life lifetimes) (row_types meaning life row) in let few = row_no_more row in omega (arith, all, few)
    no_more_written (expr.Ref' place mutable shape (more_of-Expr e end_of-Expr)) =
        let all = ap length (written-Ref (life place) mutable (resolved e)) in let few = no_more_written e in let one = length-append (parsed.written e) [] in omega (arith, all, few, one)

    row_no_more : {n : _} (row : Row_of-Expr n) → length (flat_map written (row_types meaning life row)) ≤ length (parsed.row_written row)
    row_no_more end_of-Expr = omega arith
    row_no_more (more_of-Expr e es) =
        let here = no_more_written e in let others = row_no_more es in
        let a = length-append (written (resolved e)) (flat_map written (row_types meaning life es)) in
        let b = length-append (parsed.written e) (parsed.row_written es) in omega (arith, here, others, a, b)
