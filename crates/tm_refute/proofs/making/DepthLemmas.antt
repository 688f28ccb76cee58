-- The least depth of each pair: one entry more, and what stands below a limit.
use Rattle.std.proofs.Common.{◌≡◌, ℕ, ◌<◌, ◌≤◌, ◌⊎◌, ◌↔◌, inl, inr, refl, sym, ◌∙◌, ap, subst, min, Bool, true, false, ◌&&◌, ◌==◌, cond, if◌then◌else◌, IsTrue, List, [], ◌∷◌, ◌++◌, Option, Some, None, arith}
use Rattle.std.specs.List.{All}
use Rattle.std.proofs.lemmas.Bool.{and_parts, and_from, eqb-true, eq-eqb, leb-true, le-leb, cases_lt, both_ways}
use Rattle.std.proofs.lemmas.List.Elements.{All-contains, All-nil, All-push, All-weaker, Contains-append_left, Contains-push}
use Rattle.std.specs.HashMap.{IsEmpty}
use Rattle.std.specs.Map.{lookup}
use Rattle.tm_refute.specs.declared.depths.Depths.{Depths}
use Rattle.tm_refute.specs.declared.refutation.Entry.{Entry}
use Rattle.tm_refute.specs.Depths.{AreDepthsOf, IsLeastDepth, depth_after, depth_in, lesser, stands}
use Rattle.tm_refute.specs.Refutes.{IsBelow, IsOf, Stands}

-- whether the entry is of two references
abbrev is_of : ℕ → ℕ → Entry → Bool
is_of r t entry = (entry.source.0 == r) && (entry.target.0 == t)

of-true : (r t : ℕ) (entry : Entry) → is_of r t entry ≡ true → IsOf r t entry
of-true r t entry h =
    let (first, second) = and_parts (entry.source.0 == r) (entry.target.0 == t) h in
    record { source = eqb-true entry.source.0 r first; target = eqb-true entry.target.0 t second }

of-false : (r t : ℕ) (entry : Entry) → is_of r t entry ≡ false → ¬ IsOf r t entry
of-false r t entry h is = both_ways (is_of r t entry) h (and_from _ _ (eq-eqb entry.source.0 r is.source) (eq-eqb entry.target.0 t is.target))

-- what a map tells, once the lesser depth is put in
pub put-after : (old new : ℕ → ℕ → Option ℕ) (entry : Entry) (depth : ℕ) → depth ≡ lesser (old entry.source.0 entry.target.0) entry.depth
    → ((r t : ℕ) → new r t ≡ cond (is_of r t entry) (Some depth) (old r t))
    → (r t : ℕ) → new r t ≡ depth_after (old r t) r t entry
put-after old new entry depth is put r t = put r t ∙ go (is_of r t entry) refl where
  go : (b : Bool) → is_of r t entry ≡ b → cond b (Some depth) (old r t) ≡ (if b then Some (lesser (old r t) entry.depth) else old r t)
  go true h =
      let of = of-true r t entry h in
      ap (λ (n : ℕ). Some n) (is ∙ ap (λ (o : Option ℕ). lesser o entry.depth) (ap (λ (x : ℕ). old x entry.target.0) of.source ∙ ap (λ (y : ℕ). old r y) of.target))
  go false h = refl

module _ (r t : ℕ) where
  -- entries of the two references have the depth or a greater one
  abbrev NoneLess : ℕ → Entry → Type 0
  NoneLess least entry = IsOf r t entry → least ≤ entry.depth

  abbrev NotOf : Entry → Type 0
  NotOf entry = ¬ IsOf r t entry

  here : (es : List Entry) (e : Entry) (least : Option ℕ) → IsOf r t e → IsLeastDepth es r t least → IsLeastDepth (es ++ e ∷ []) r t (Some (lesser least e.depth))
  here es e None of none =
      ((e, Contains-push es e, of, refl), All-push (NoneLess e.depth) es e (All-weaker NotOf (NoneLess e.depth) (λ x other is. absurd (other is)) es none) (λ is. omega arith))
  here es e (Some least) of ((w, among, is, same), all) = go (cases_lt e.depth least) where
    weaker : (lower : ℕ) → lower ≤ least → lower ≤ e.depth → All (NoneLess lower) (es ++ e ∷ [])
    weaker lower below under = All-push (NoneLess lower) es e (All-weaker (NoneLess least) (NoneLess lower) (λ x h is. let k = h is in omega arith) es all) (λ is. under)

    go : (e.depth < least) ⊎ (least ≤ e.depth) → IsLeastDepth (es ++ e ∷ []) r t (Some (min least e.depth))
    go (inl less) = ((e, Contains-push es e, of, omega arith), weaker (min least e.depth) (omega arith) (omega arith))
    go (inr more) = ((w, Contains-append_left es (e ∷ []) w among, is, omega arith), weaker (min least e.depth) (omega arith) (omega arith))

  other : (es : List Entry) (e : Entry) (least : Option ℕ) → NotOf e → IsLeastDepth es r t least → IsLeastDepth (es ++ e ∷ []) r t least
  other es e None apart none = All-push NotOf es e none apart
  other es e (Some least) apart ((w, among, is, same), all) =
      ((w, Contains-append_left es (e ∷ []) w among, is, same), All-push (NoneLess least) es e all (λ of. absurd (apart of)))

  -- one entry more
  least-more : (es : List Entry) (e : Entry) (least : Option ℕ) → IsLeastDepth es r t least → IsLeastDepth (es ++ e ∷ []) r t (depth_after least r t e)
  least-more es e least h = go (is_of r t e) refl where
    go : (b : Bool) → is_of r t e ≡ b → IsLeastDepth (es ++ e ∷ []) r t (if b then Some (lesser least e.depth) else least)
    go true is = here es e least (of-true r t e is) h
    go false is = other es e least (of-false r t e is) h

  -- no entry
  least-none : (least : Option ℕ) → least ≡ None → IsLeastDepth [] r t least
  least-none None e = All-nil NotOf
  least-none (Some least) e = cc

  module _ (entries : List Entry) where
    -- an entry that isn't below the limit, or of other references
    abbrev Spares : Option ℕ → Entry → Type 0
    Spares limit entry = IsOf r t entry → ¬ IsBelow limit entry.depth

    at-least : (limit : Option ℕ) (least : Option ℕ) → IsLeastDepth entries r t least → IsTrue (stands limit least) ↔ Stands entries limit r t
    at-least limit None none = (λ passes. All-weaker NotOf (Spares limit) (λ x apart is. absurd (apart is)) entries none, λ spared. refl)
    at-least None (Some least) ((w, among, is, same), all) =
        (λ passes. absurd (both_ways false refl passes), λ spared. absurd (All-contains (Spares None) entries w spared among is tt))
    at-least (Some limit) (Some least) ((w, among, is, same), all) = (
      λ passes.
          let under = leb-true limit least passes in
          All-weaker (NoneLess least) (Spares (Some limit)) (λ x h of below. let above = h of in absurd (omega arith)) entries all,
      λ spared. go spared (cases_lt least limit),
    ) where
      go : Stands entries (Some limit) r t → (least < limit) ⊎ (limit ≤ least) → IsTrue (stands (Some limit) (Some least))
      go spared (inl below) = absurd (All-contains (Spares (Some limit)) entries w spared among is (omega arith))
      go spared (inr under) = le-leb limit least under

-- one entry more
pub depths-more : (es : List Entry) (e : Entry) (old new : Depths) → AreDepthsOf es old → ((r t : ℕ) → depth_in new r t ≡ depth_after (depth_in old r t) r t e) → AreDepthsOf (es ++ e ∷ []) new
depths-more es e old new are after = record {
  each = λ r t. subst (λ (least : Option ℕ). IsLeastDepth (es ++ e ∷ []) r t least) (sym (after r t)) (least-more r t es e (depth_in old r t) (are.each r t));
}

-- no entry
pub depths-none : (depths : Depths) → IsEmpty depths.least → AreDepthsOf [] depths
depths-none depths empty = record { each = λ r t. least-none r t (depth_in depths r t) (ap (lookup (λ pair. (r == pair.0) && (t == pair.1))) empty) }

-- the test of what stands is exact
pub stands-exact : (entries : List Entry) (depths : Depths) → AreDepthsOf entries depths → (limit : Option ℕ) (r t : ℕ) → IsTrue (stands limit (depth_in depths r t)) ↔ Stands entries limit r t
stands-exact entries depths are limit r t = at-least r t entries limit (depth_in depths r t) (are.each r t)
