-- It is known of two references whether they are compatible, and a depth shows it that isn't greater
-- than the number of pairs of references.
use Rattle.std.proofs.Common.{◌≡◌, ℕ, zero, suc, ◌*◌, ◌<◌, ◌≤◌, refl, sym, ◌∙◌, ap, Bool, true, false, not, List, [], ◌∷◌, map, length, Option, Some, None, slice_get, arith, length-append}
use Rattle.std.specs.List.{flat_map}
use Rattle.std.proofs.lemmas.List.{length-map}
use Rattle.std.proofs.lemmas.Option.{slice_get_within}
use Rattle.tm_base.specs.declared.answer.LocalRule.{LocalRule}
use Rattle.tm_base.specs.declared.answer.LocalRule.TheVariants.{MoreUnique, TooBig, Alignment, Interior, Lifetime}
use Rattle.tm_base.specs.declared.assume.Assume.{Assume}
use Rattle.tm_base.specs.declared.definition.RefRow.{RefRow}
use Rattle.tm_base.specs.Compatible.{Keeps, KeepsAll, MeetsLocally, MeetsOver, CompatibleTo, Compatible}
use Rattle.tm_base.specs.Layout.{size_of, align_of}
use Rattle.tm_base.specs.Parts.{has_interior}
use Rattle.tm_base.specs.Tables.{Tables, pointee_in, OnRows}
use Rattle.tm_base.proofs.CompatibleLemmas.{OnRows-grows, MeetsOver-grows, CompatibleTo-falls}
use Rattle.tm_laws.proofs.known.DecideLemmas.{Dec-and, Dec-or, Dec-implies, Dec-like, Dec-is, Dec-le, Dec-stable, test_of}
use Rattle.tm_laws.proofs.known.ListedLemmas.{IsIn, IsIn-map, IsIn-flat_map}
use Rattle.tm_laws.proofs.known.WordSearchLemmas.{below, below-has, length-below}
use Rattle.tm_laws.proofs.known.StillLemmas.{true_by_length}
use Rattle.tm_laws.proofs.known.JudgedLemmas.{IsJudged-known}
use Rattle.tm_laws.proofs.known.OutlivesLemmas.{Outlives-known}
use Rattle.tm_laws.proofs.known.TransmutesLemmas.{Transmutes-known}

pub OnRows-known : (r t : Option RefRow) (P : RefRow → RefRow → Type 0) → ((r t : RefRow) → Dec (P r t)) → Dec (OnRows r t P)
OnRows-known (Some r) (Some t) P known = known r t
OnRows-known (Some r) None P known = no (λ h. h)
OnRows-known None t P known = no (λ h. h)

-- a fact of two rows is one of numbers that name some
pub OnRows-rows : (o p : Option RefRow) (P : RefRow → RefRow → Type 0) → OnRows o p P → (r : RefRow) × (t : RefRow) × (o ≡ Some r) × (p ≡ Some t) × P r t
OnRows-rows (Some r) (Some t) P h = (r, t, refl, refl, h)
OnRows-rows (Some r) None P h = absurd h
OnRows-rows None p P h = absurd h

-- all pairs of numbers below two
pub pairs : ℕ → ℕ → List (ℕ × ℕ)
pairs m n = flat_map (λ (r : ℕ). map (λ (t : ℕ). let p : ℕ × ℕ = (r, t) in p) (below n)) (below m)

pairs-has : (m n r t : ℕ) → r < m → t < n → IsIn (let p : ℕ × ℕ = (r, t) in p) (pairs m n)
unfolding pairs
pairs-has m n r t h k =
    IsIn-flat_map (λ (r : ℕ). map (λ (t : ℕ). let p : ℕ × ℕ = (r, t) in p) (below n)) (below m) r (let p : ℕ × ℕ = (r, t) in p) (below-has m r h)
    (IsIn-map (λ (t : ℕ). let p : ℕ × ℕ = (r, t) in p) (below n) t (below-has n t k))

length-flat_map : {X Y : Type 0} (f : X → List Y) (n : ℕ) → ((x : X) → length (f x) ≡ n) → (xs : List X) → length (flat_map f xs) ≡ length xs * n
length-flat_map f n each [] = omega arith
length-flat_map f n each (x ∷ xs) = omega (arith, length-append (f x) (flat_map f xs), each x, length-flat_map f n each xs)

length-pairs : (m n : ℕ) → length (pairs m n) ≡ m * n
unfolding pairs
length-pairs m n =
    length-flat_map (λ (r : ℕ). map (λ (t : ℕ). let p : ℕ × ℕ = (r, t) in p) (below n)) n
    (λ r. length-map (below n) (λ (t : ℕ). let p : ℕ × ℕ = (r, t) in p) ∙ length-below n) (below m)
    ∙ ap (λ (k : ℕ). k * n) (length-below m)

not_rises : {P Q : Type 0} (d : Dec P) (e : Dec Q) → (Q → P) → not (test_of d) ≡ true → not (test_of e) ≡ true
not_rises (yes p) e back h = cc
not_rises (no f) (yes q) back h = absurd (f (back q))
not_rises (no f) (no g) back h = refl

not_same : {P Q : Type 0} (d : Dec P) (e : Dec Q) → (P → Q) → (Q → P) → not (test_of d) ≡ not (test_of e)
not_same (yes p) (yes q) to back = refl
not_same (yes p) (no g) to back = absurd (g (to p))
not_same (no f) (yes q) to back = absurd (f (back q))
not_same (no f) (no g) to back = refl

not_to : {P Q : Type 0} (d : Dec P) (e : Dec Q) → not (test_of d) ≡ not (test_of e) → P → Q
not_to (yes p) (yes q) same h = q
not_to (yes p) (no g) same h = cc
not_to (no f) e same h = absurd (f h)

fails_test : {P : Type 0} (d : Dec P) → ¬ P → not (test_of d) ≡ true
fails_test (yes p) f = absurd (f p)
fails_test (no g) f = refl

test_fails : {P : Type 0} (d : Dec P) → not (test_of d) ≡ true → ¬ P
test_fails (yes p) h = cc
test_fails (no g) h = g

module _ (tables : Tables) (assume : Assume) where
  pub Keeps-known : (r t : RefRow) (rule : LocalRule) → Dec (Keeps tables assume r t rule)
  Keeps-known r t MoreUnique = Dec-implies (Dec-is t.mutable true) (Dec-is r.mutable true)
  Keeps-known r t TooBig = Dec-le (size_of (pointee_in tables t)) (size_of (pointee_in tables r))
  Keeps-known r t Alignment = Dec-or (Dec-le (align_of (pointee_in tables t)) (align_of (pointee_in tables r))) (Dec-is assume.alignment true)
  Keeps-known r t Interior =
      Dec-or (Dec-is t.mutable true) (Dec-and (Dec-is (has_interior (pointee_in tables r)) false) (Dec-is (has_interior (pointee_in tables t)) false))
  Keeps-known r t Lifetime = Dec-or (Outlives-known tables.bounds r.region t.region) (Dec-is assume.lifetimes true)

  pub KeepsAll-known : (r t : RefRow) → Dec (KeepsAll tables assume r t)
  KeepsAll-known r t =
      Dec-like
      (λ ((((a, b), c), d), e). record { more_unique = a; too_big = b; alignment = c; interior = d; lifetime = e })
      (λ h. ((((h.more_unique, h.too_big), h.alignment), h.interior), h.lifetime))
      (Dec-and (Dec-and (Dec-and (Dec-and (Keeps-known r t MoreUnique) (Keeps-known r t TooBig)) (Keeps-known r t Alignment)) (Keeps-known r t Interior)) (Keeps-known r t Lifetime))

  pub MeetsLocally-known : (r t : RefRow) → Dec (MeetsLocally tables assume r t)
  MeetsLocally-known r t =
      Dec-like
      (λ ((a, b), c). record { source = a; target = b; keeps = c })
      (λ h. ((h.source, h.target), h.keeps))
      (Dec-and (Dec-and (IsJudged-known tables r.pointee) (IsJudged-known tables t.pointee)) (KeepsAll-known r t))

  MeetsOver-known : (A : ℕ → ℕ → Type 0) → ((x y : ℕ) → Dec (A x y)) → (r t : RefRow) → Dec (MeetsOver tables assume A r t)
  MeetsOver-known A known r t =
      Dec-like
      (λ ((a, b), c). record { meets = a; forward = b; backward = c })
      (λ h. ((h.meets, h.forward), h.backward))
      (Dec-and (Dec-and (MeetsLocally-known r t) (Transmutes-known A known assume (pointee_in tables r) (pointee_in tables t)))
      (Dec-implies (Dec-is t.mutable true) (Transmutes-known A known assume (pointee_in tables t) (pointee_in tables r))))

  -- it is known at each depth
  pub CompatibleTo-known : (n r t : ℕ) → Dec (CompatibleTo tables assume n r t)
  unfolding CompatibleTo
  CompatibleTo-known zero r t = OnRows-known (slice_get tables.refs r) (slice_get tables.refs t) (MeetsLocally tables assume) MeetsLocally-known
  CompatibleTo-known (suc n) r t =
      OnRows-known (slice_get tables.refs r) (slice_get tables.refs t) (MeetsOver tables assume (CompatibleTo tables assume n))
      (MeetsOver-known (CompatibleTo tables assume n) (λ x y. CompatibleTo-known n x y))

  -- only references that there are, are compatible
  pub CompatibleTo-rows : (n r t : ℕ) → CompatibleTo tables assume n r t → (r < length tables.refs) × (t < length tables.refs)
  unfolding CompatibleTo
  CompatibleTo-rows zero r t h =
      let (a, b, at_r, at_t, met) = OnRows-rows (slice_get tables.refs r) (slice_get tables.refs t) (MeetsLocally tables assume) h in
      (slice_get_within tables.refs r a at_r, slice_get_within tables.refs t b at_t)
  CompatibleTo-rows (suc n) r t h =
      let (a, b, at_r, at_t, met) = OnRows-rows (slice_get tables.refs r) (slice_get tables.refs t) (MeetsOver tables assume (CompatibleTo tables assume n)) h in
      (slice_get_within tables.refs r a at_r, slice_get_within tables.refs t b at_t)

  -- two depths that agree on all pairs of references agree one level deeper
  deeper : (n m : ℕ) → ((x y : ℕ) → CompatibleTo tables assume n x y → CompatibleTo tables assume m x y) → (r t : ℕ) → CompatibleTo tables assume (suc n) r t → CompatibleTo tables assume (suc m) r t
  unfolding CompatibleTo
  deeper n m over r t h =
      OnRows-grows (slice_get tables.refs r) (slice_get tables.refs t) (MeetsOver tables assume (CompatibleTo tables assume n)) (MeetsOver tables assume (CompatibleTo tables assume m))
      (MeetsOver-grows tables assume (CompatibleTo tables assume n) (CompatibleTo tables assume m) over) h

  -- whether a depth speaks against a pair
  abbrev speaks_against : ℕ → ℕ × ℕ → Bool
  speaks_against n pair = not (test_of (CompatibleTo-known n pair.0 pair.1))

  against-rises : (n : ℕ) (pair : ℕ × ℕ) → speaks_against n pair ≡ true → speaks_against (suc n) pair ≡ true
  against-rises n pair = not_rises (CompatibleTo-known n pair.0 pair.1) (CompatibleTo-known (suc n) pair.0 pair.1) (CompatibleTo-falls tables assume n pair.0 pair.1)

  abbrev all_pairs : List (ℕ × ℕ)
  all_pairs = pairs (length tables.refs) (length tables.refs)

  agree_over : (n m : ℕ) → ((pair : ℕ × ℕ) → IsIn pair all_pairs → speaks_against n pair ≡ speaks_against m pair) → (x y : ℕ) → CompatibleTo tables assume n x y → CompatibleTo tables assume m x y
  agree_over n m same x y h =
      let (below_x, below_y) = CompatibleTo-rows n x y h in
      not_to (CompatibleTo-known n x y) (CompatibleTo-known m x y) (same (x, y) (pairs-has (length tables.refs) (length tables.refs) x y below_x below_y)) h

  against-follows : (n m : ℕ) → ((pair : ℕ × ℕ) → IsIn pair all_pairs → speaks_against n pair ≡ speaks_against m pair)
      → (pair : ℕ × ℕ) → IsIn pair all_pairs → speaks_against (suc n) pair ≡ speaks_against (suc m) pair
  against-follows n m same pair at =
      not_same (CompatibleTo-known (suc n) pair.0 pair.1) (CompatibleTo-known (suc m) pair.0 pair.1)
      (deeper n m (agree_over n m same) pair.0 pair.1)
      (deeper m n (agree_over m n (λ other h. sym (same other h))) pair.0 pair.1)

  -- the depth past which no level speaks against a pair for the first time
  abbrev pub last_depth : ℕ
  last_depth = length (pairs (length tables.refs) (length tables.refs))

  pub last_depth-most : last_depth ≤ length tables.refs * length tables.refs
  last_depth-most = omega (arith, length-pairs (length tables.refs) (length tables.refs))

  -- compatible to the last depth is compatible
  pub Compatible-from_last : (r t : ℕ) → CompatibleTo tables assume last_depth r t → Compatible tables assume r t
  Compatible-from_last r t h n =
      let (below_r, below_t) = CompatibleTo-rows last_depth r t h in
      Dec-stable (CompatibleTo-known n r t) (λ fails.
      test_fails (CompatibleTo-known last_depth r t)
      (true_by_length speaks_against against-rises all_pairs against-follows n (r, t)
      (pairs-has (length tables.refs) (length tables.refs) r t below_r below_t) (fails_test (CompatibleTo-known n r t) fails)) h)

  -- it is known whether two references are compatible
  pub Compatible-known : (r t : ℕ) → Dec (Compatible tables assume r t)
  Compatible-known r t = Dec-like (Compatible-from_last r t) (λ h. h last_depth) (CompatibleTo-known last_depth r t)

  pub Compatible-rows : (r t : ℕ) → Compatible tables assume r t → (r < length tables.refs) × (t < length tables.refs)
  Compatible-rows r t h = CompatibleTo-rows 0 r t (h 0)
