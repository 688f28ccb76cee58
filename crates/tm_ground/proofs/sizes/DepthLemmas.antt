-- The tables tell how deep each named type is, and so how deep each type by its numbers is.
use Rattle.std.proofs.Common.{◌≡◌, ℕ, zero, suc, ◌+◌, ◌<◌, ◌≤◌, ◌-◌, Bool, true, false, ◌&&◌, ◌||◌, if◌then◌else◌, refl, sym, ap, ◌∙◌, ⊎_elim, List, [], ◌∷◌, ◌++◌, length, length-append, get_or, unwrap_or, Some, None, slice_get, subst, arith}
use Rattle.std.specs.List.{AllZip, list_any}
use Rattle.std.proofs.lemmas.Bool.{cases_lt, or_from}
use Rattle.std.proofs.lemmas.Option.{slice_get_past}
use Rattle.tm_base.specs.declared.definition.NamedRow.{NamedRow}
use Rattle.tm_base.specs.declared.ground.Ground.{Ground}
use Rattle.tm_base.specs.declared.ground.Ground.TheVariants as level
use Rattle.tm_names.specs.declared.resolved.Resolved.{Resolved}
use Rattle.tm_ground.specs.Closed.{Closed, Elements, prim, never, tuple, array, nonzero, wrap, named, ref, no_elements, element, listed}
use Rattle.tm_ground.specs.Depths.{AreDepths, TellDepths, TellsNext, flag_at, next_flag, passes_by, row_passes}
use Rattle.tm_ground.specs.Limits.{depth_passes}
use Rattle.tm_ground.specs.Numbered.{IsNumbered, EachNumbered}
use Rattle.tm_ground.specs.Occurs.{field_types, is_holding, parts_by_value}
use Rattle.tm_ground.specs.Rows.{IsNamedRow}
use Rattle.tm_ground.proofs.finding.GrowLemmas.{below-or-last}
use Rattle.tm_ground.proofs.sizes.ShallowForm.{first-false, second-false}
use Rattle.tm_ground.proofs.numbers.StandsLemmas.{zip-get}
use Rattle.tm_ground.proofs.sizes.TableLemmas.{any-flat_map}

held-any : (p : Closed → Bool) (b : Bool) (c : Closed) → list_any p (if b then c ∷ [] else []) ≡ (b && p c)
held-any p true c = last (p c)
  where
    last : (b : Bool) → (b || false) ≡ b
    last true = refl
    last false = refl
held-any p false c = refl

or-false : (b : Bool) → (b || false) ≡ b
or-false true = refl
or-false false = refl

module _ (resolved : Resolved) (types refs : List Closed) (count : ℕ) (tables : List (List Bool)) (depths : AreDepths resolved types count tables) where
  abbrev Agrees : ℕ → Type 0
  Agrees n = (c : Closed) (g : Ground) → IsNumbered types refs c g → passes_by tables n g ≡ depth_passes resolved n c

  each-agree : (n : ℕ) → Agrees n → (cs : Elements) (gs : List Ground) → EachNumbered types refs cs gs → list_any (passes_by tables n) gs ≡ list_any (depth_passes resolved n) (listed cs)
  unfolding IsNumbered
  each-agree n below no_elements gs h = rw h refl
  each-agree n below (element c cs) [] h = absurd h
  each-agree n below (element c cs) (g ∷ gs) (a, b) = rw (below c g a, each-agree n below cs gs b) refl

  -- a type by its numbers is as deep as the closed type
  pub agree : (n : ℕ) → n ≤ count → Agrees n
  unfolding passes_by depth_passes IsNumbered
  agree zero l c g h = refl
  agree (suc n) l (prim p) g h = rw (h, level.outs-Prim p) refl
  agree (suc n) l never g h = rw (h, level.outs-Never) refl
  agree (suc n) l (tuple no_elements) g h = rw (h, level.outs-Unit) refl
  agree (suc n) l (tuple (element c cs)) g (x, xs, e, a, b) = rw (e, level.outs-Tuple (x ∷ xs)) (each-agree n (agree n (omega (arith, l))) (element c cs) (x ∷ xs) (a, b))
  agree (suc n) l (array c m) g (x, e, a) = rw (e, level.outs-Array x m) (agree n (omega (arith, l)) c x a ∙ sym (or-false (depth_passes resolved n c)))
  agree (suc n) l (nonzero p) g h = rw (h, level.outs-NonZero p) refl
  agree (suc n) l (wrap w c) g (x, e, a) =
      rw (e, level.outs-Wrap w x) (ap (λ b. is_holding w && b) (agree n (omega (arith, l)) c x a) ∙ sym (held-any (depth_passes resolved n) (is_holding w) c))
  agree (suc n) l (named def regions args) g (id, e, at) = rw (e, level.outs-Named id) (depths.told n id.0 (named def regions args) (omega (arith, l)) at)
  agree (suc n) l (ref region mutable c) g (r, e, at) = rw (e, level.outs-Ref r) refl

  list-agrees : (n : ℕ) → n ≤ count → (cs : List Closed) (gs : List Ground) → AllZip (IsNumbered types refs) cs gs → list_any (passes_by tables n) gs ≡ list_any (depth_passes resolved n) cs
  list-agrees n l [] [] h = refl
  list-agrees n l [] (g ∷ gs) h = absurd h
  list-agrees n l (c ∷ cs) [] h = absurd h
  list-agrees n l (c ∷ cs) (g ∷ gs) h = rw (agree n l c g h.0, list-agrees n l cs gs h.1) refl

  lists-agree : (n : ℕ) → n ≤ count → (css : List (List Closed)) (gss : List (List Ground)) → AllZip (AllZip (IsNumbered types refs)) css gss → list_any (list_any (passes_by tables n)) gss ≡ list_any (list_any (depth_passes resolved n)) css
  lists-agree n l [] [] h = refl
  lists-agree n l [] (gs ∷ gss) h = absurd h
  lists-agree n l (cs ∷ css) [] h = absurd h
  lists-agree n l (cs ∷ css) (gs ∷ gss) h = rw (list-agrees n l cs gs h.0, lists-agree n l css gss h.1) refl

  -- a field of a named type passes a number where its depth passes the next one
  pub row-agrees : (n : ℕ) → n ≤ count → (c : Closed) (row : NamedRow) → IsNamedRow types refs resolved c row → row_passes tables n row ≡ depth_passes resolved (suc n) c
  unfolding depth_passes
  row-agrees n l c row r =
      let fields = field_types resolved row.def row.regions (listed r.args) in
      lists-agree n l fields row.types r.fields
      ∙ sym (any-flat_map (depth_passes resolved n) (λ types. types) fields)
      ∙ ap (λ d. list_any (depth_passes resolved n) (parts_by_value resolved d)) (sym r.type)

-- a type whose depth passes a number passes each smaller one
pub falls : (resolved : Resolved) (n : ℕ) (c : Closed) → depth_passes resolved n c ≡ false → depth_passes resolved (suc n) c ≡ false
unfolding depth_passes
falls resolved zero c h = cc
falls resolved (suc n) c h = all-fall (falls resolved n) (parts_by_value resolved c) h
  where
    all-fall : ((d : Closed) → depth_passes resolved n d ≡ false → depth_passes resolved (suc n) d ≡ false) → (cs : List Closed) → list_any (depth_passes resolved n) cs ≡ false → list_any (depth_passes resolved (suc n)) cs ≡ false
    all-fall below [] e = refl
    all-fall below (d ∷ cs) e = or_from _ _ (below d (first-false _ _ e)) (all-fall below cs (second-false (depth_passes resolved n d) _ e))

pub stays-false : (resolved : Resolved) (n m : ℕ) (c : Closed) → depth_passes resolved n c ≡ false → depth_passes resolved (n + m) c ≡ false
stays-false resolved n zero c h = let e : n + 0 ≡ n = omega arith in ap (λ k. depth_passes resolved k c) e ∙ h
stays-false resolved n (suc m) c h = let e : n + suc m ≡ suc (n + m) = omega arith in ap (λ k. depth_passes resolved k c) e ∙ falls resolved (n + m) c (stays-false resolved n m c h)

get-left : {X : Type 0} (xs ys : List X) (j : ℕ) → j < length xs → slice_get (xs ++ ys) j ≡ slice_get xs j
get-left [] ys j h = absurd (omega (arith, h))
get-left (x ∷ xs) ys zero h = refl
get-left (x ∷ xs) ys (suc j) h = get-left xs ys j (omega (arith, h))

get-pushed : {X : Type 0} (xs : List X) (x : X) → slice_get (xs ++ x ∷ []) (length xs) ≡ Some x
get-pushed [] x = refl
get-pushed (y ∷ xs) x = get-pushed xs x

one-item : (rows : List NamedRow) (i : ℕ) (x y : NamedRow) → i < length rows → slice_get rows i ≡ Some x → y ≡ get_or rows i y → x ≡ y
one-item [] i x y l a e = absurd (omega (arith, l))
one-item (r ∷ rows) zero x y l a e = let same : r ≡ x = cc in sym same ∙ sym e
one-item (r ∷ rows) (suc i) x y l a e = one-item rows i x y (omega (arith, l)) a e

within : (rows : List NamedRow) (k : ℕ) (x : NamedRow) → slice_get rows k ≡ Some x → k < length rows
within [] k x a = cc
within (r ∷ rows) zero x a = omega arith
within (r ∷ rows) (suc k) x a = omega (arith, within rows k x a)

-- a list that no such test passes has no `true`
none-flagged : (test : Bool → Bool) → test true ≡ true → (flags : List Bool) (k : ℕ) → list_any test flags ≡ false → (x : Bool) → slice_get flags k ≡ Some x → x ≡ false
none-flagged test t flags k h false e = refl
none-flagged test t [] k h true e = cc
none-flagged test t (f ∷ flags) zero h true e = let same : f ≡ true = cc in let fails = ap test (sym same) ∙ first-false _ _ h in cc
none-flagged test t (f ∷ flags) (suc k) h true e = none-flagged test t flags k (second-false (test f) _ h) true e

pub next-at : (tables : List (List Bool)) (n k : ℕ) (row : NamedRow) → (n ≡ 0 → ⊥) → (flag_at tables (n - 1) k && row_passes tables n row) ≡ next_flag tables n k row
next-at tables zero k row e = absurd (e refl)
next-at tables (suc m) k row e = let same : suc m - 1 ≡ m = omega arith in ap (λ i. flag_at tables i k && row_passes tables (suc m) row) same

pub next-first : (tables : List (List Bool)) (n k : ℕ) (row : NamedRow) → n ≡ 0 → row_passes tables n row ≡ next_flag tables n k row
next-first tables n k row e = rw e refl

-- the flag of a named type in the next table tells its depth
next-tells : (resolved : Resolved) (types refs : List Closed) (count : ℕ) (tables : List (List Bool)) → AreDepths resolved types count tables → (k : ℕ) (c : Closed) (row : NamedRow) → slice_get types k ≡ Some c → IsNamedRow types refs resolved c row → next_flag tables count k row ≡ depth_passes resolved (suc count) c
next-tells resolved types refs zero tables depths k c row at r = row-agrees resolved types refs zero tables depths zero (omega arith) c row r
next-tells resolved types refs (suc n) tables depths k c row at r = by (flag_at tables n k) refl
  where
    told : flag_at tables n k ≡ depth_passes resolved (suc n) c
    told = depths.told n k c (omega arith) at

    by : (b : Bool) → flag_at tables n k ≡ b → next_flag tables (suc n) k row ≡ depth_passes resolved (suc (suc n)) c
    by true e = ap (λ b. b && row_passes tables (suc n) row) e ∙ row-agrees resolved types refs (suc n) tables depths (suc n) (omega arith) c row r
    by false e = ap (λ b. b && row_passes tables (suc n) row) e ∙ sym (falls resolved (suc n) c (sym told ∙ e))

-- the flags of the first rows tell their depths
pub record TellsFirst (rows : List NamedRow) (count first : ℕ) (table : List Bool) : Type 0 where
  pub long : length table ≡ first
  pub each : (resolved : Resolved) (types refs : List Closed) → AllZip (IsNamedRow types refs resolved) types rows → (k : ℕ) (c : Closed) → k < first → slice_get types k ≡ Some c → slice_get table k ≡ Some (depth_passes resolved (suc count) c)

module _ (rows : List NamedRow) (count : ℕ) (tables : List (List Bool)) (tell : TellDepths rows count tables) where
  pub first-none : (table : List Bool) → table ≡ [] → TellsFirst rows count 0 table
  first-none table e = record { long = ap length e; each = λ resolved types refs z k c l at. absurd (omega (arith, l)) }

  pub first-more : (i : ℕ) (table new : List Bool) (row : NamedRow) (flag : Bool) → i < length rows → row ≡ get_or rows i row → TellsFirst rows count i table → flag ≡ next_flag tables count i row → new ≡ table ++ flag ∷ [] → TellsFirst rows count (i + 1) new
  first-more i table new row flag l e first f p = record {
    long = ap length p ∙ length-append table (flag ∷ []) ∙ ap (λ n. n + 1) first.long;
    each = λ resolved types refs z k c below at. ⊎_elim
        (λ (before : k < i). ap (λ t. slice_get t k) p ∙ get-left table (flag ∷ []) k (omega (arith, before, first.long)) ∙ first.each resolved types refs z k c before at)
        (λ (same : k ≡ i).
        let (there, found, r) = zip-get (IsNamedRow types refs resolved) types rows k c z at in
        let here : there ≡ row = one-item rows i there row l (ap (slice_get rows) (sym same) ∙ found) e in
        let told = next-tells resolved types refs count tables (tell.each resolved types refs z) k c row at (subst (IsNamedRow types refs resolved c) here r) in
        ap (λ t. slice_get t k) p ∙ ap (slice_get (table ++ flag ∷ [])) (same ∙ sym first.long) ∙ get-pushed table flag ∙ ap (λ (b : Bool). Some b) (f ∙ ap (λ n. next_flag tables count n row) (sym same) ∙ told))
        (below-or-last k i below);
  }

  pub first-all : (i : ℕ) (table : List Bool) → length rows ≤ i → TellsFirst rows count i table → TellsNext rows count table
  first-all i table l first = record {
    each = λ resolved types refs z k c at.
        let (row, found, r) = zip-get (IsNamedRow types refs resolved) types rows k c z at in
        first.each resolved types refs z k c (omega (arith, within rows k row found, l)) at;
  }

module _ (rows : List NamedRow) (count : ℕ) (tables : List (List Bool)) (long : length tables ≡ count) (tell : TellDepths rows count tables)
    (table : List Bool) (next : TellsNext rows count table) where
  module _ (resolved : Resolved) (types refs : List Closed) (of_rows : AllZip (IsNamedRow types refs resolved) types rows) where
    depths : AreDepths resolved types count tables
    depths = tell.each resolved types refs of_rows

    told-more : (new : List (List Bool)) → new ≡ tables ++ table ∷ [] → (n k : ℕ) (c : Closed) → n < count + 1 → slice_get types k ≡ Some c → flag_at new n k ≡ depth_passes resolved (suc n) c
    told-more new e n k c l at =
        ⊎_elim
        (λ (below : n < count). ap (λ t. unwrap_or (slice_get (unwrap_or t []) k) false) (ap (λ ts. slice_get ts n) e ∙ get-left tables (table ∷ []) n (omega (arith, below, long))) ∙ depths.told n k c below at)
        (λ (same : n ≡ count).
        let here : slice_get new n ≡ Some table = ap (λ ts. slice_get ts n) e ∙ ap (λ m. slice_get (tables ++ table ∷ []) m) (same ∙ sym long) ∙ get-pushed tables table in
        ap (λ t. unwrap_or (slice_get (unwrap_or t []) k) false) here ∙ ap (λ o. unwrap_or o false) (next.each resolved types refs of_rows k c at) ∙ ap (λ m. depth_passes resolved (suc m) c) (sym same))
        (below-or-last n count l)

    -- where it says `false` of all, no more tables are needed
    told-all : (test : Bool → Bool) → test true ≡ true → list_any test table ≡ false → (n k : ℕ) (c : Closed) → slice_get types k ≡ Some c → count ≤ n → flag_at tables n k ≡ depth_passes resolved (suc n) c
    told-all test t none n k c at l =
        let past : slice_get tables n ≡ None = slice_get_past tables n (omega (arith, l, long)) in
        let shallow : depth_passes resolved (suc count) c ≡ false = none-flagged test t table k none (depth_passes resolved (suc count) c) (next.each resolved types refs of_rows k c at) in
        let far : suc count + (n - count) ≡ suc n = omega (arith, l) in
        ap (λ t. unwrap_or (slice_get (unwrap_or t []) k) false) past ∙ sym (ap (λ m. depth_passes resolved m c) (sym far) ∙ stays-false resolved (suc count) (n - count) c shallow)

  pub tell-more : (new : List (List Bool)) → new ≡ tables ++ table ∷ [] → TellDepths rows (count + 1) new
  tell-more new e = record { each = λ resolved types refs z. record { told = told-more resolved types refs z new e } }

  pub tell-all : (test : Bool → Bool) → test true ≡ true → list_any test table ≡ false → (limit : ℕ) → TellDepths rows limit tables
  tell-all test t none limit = record {
    each = λ resolved types refs z. record {
      told = λ n k c l at. ⊎_elim (λ (below : n < count). (depths resolved types refs z).told n k c below at) (λ (over : count ≤ n). told-all resolved types refs z test t none n k c at over) (cases_lt n count);
    };
  }

pub tell-none : (rows : List NamedRow) (tables : List (List Bool)) → TellDepths rows 0 tables
tell-none rows tables = record { each = λ resolved types refs z. record { told = λ n k c l at. absurd (omega (arith, l)) } }
