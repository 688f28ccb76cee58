-- What offering a pair of sets to a layer does.
use Rattle.std.proofs.Common.{◌≡◌, ℕ, ◌<◌, ◌⊎◌, inl, inr, Bool, true, false, ◌&&◌, List, [], ◌∷◌, ◌++◌, map, length, get_or, Some, is_some, slice_get, refl, sym, ap, ◌∙◌, arith, nat_eq, eq-eqb, length-append, Contains, subst}
use Rattle.std.specs.Map.{lookup}
use Rattle.std.proofs.lemmas.Bool.{and_from}
use Rattle.std.proofs.lemmas.List.{get_or_append_left, map-append}
use Rattle.std.proofs.lemmas.Option.{slice_get-get_or, get_or_from_slice_get, slice_get_within}
use Rattle.std.proofs.lemmas.List.Elements.{Contains-append_cases}
use Rattle.tm_base.proofs.JudgedLemmas.{Contains-none, Contains-one}
use Rattle.indexmap.specs.IndexMap.{insert_entry}
use Rattle.tm_auto.proofs.ContainsLemmas.{here, there, each_of}
use Rattle.tm_auto.proofs.SetLemmas.{same_at}
use Rattle.tm_walk.specs.declared.way.Pair.{Pair}
use Rattle.tm_walk.specs.declared.way.Way.{Way}
use Rattle.tm_walk.specs.Layers.{Entry, IsHeld, IsOffered}
use Rattle.tm_walk.specs.Numbers.{entry_by, way_of, entry_of, entries_of, AreWithin}
use Rattle.tm_walk.proofs.NumberLemmas.{get_among, get_map, among_map, among_unmap, insert_last}

either : (b : Bool) → (b ≡ true) ⊎ (b ≡ false)
either true = inl refl
either false = inr refl

-- what a comparison of pairs answers
abbrev pub pair_is : Pair → Pair → Bool
pair_is a b = nat_eq a.source b.source && nat_eq a.target b.target

abbrev Rows : Type 0
Rows = List (Pair × Way)

passes_one : (test : Pair → Bool) (rows : Rows) → is_some (lookup test rows) ≡ true → (row : Pair × Way) × Contains rows row × (test row.0 ≡ true)
passes_one test [] h = cc
passes_one test (row ∷ rows) h = elim (either (test row.0)) [
  | inl a ↦ (row, here _, a)
  | inr a ↦ (let z = rw a at h in let (r, m, p) = passes_one test rows z in (r, there _ _ m, p))
]

passes_none : (test : Pair → Bool) (rows : Rows) → is_some (lookup test rows) ≡ false → (row : Pair × Way) → Contains rows row → test row.0 ≡ false
passes_none test [] h row m = absurd (Contains-none _ m)
passes_none test (x ∷ rows) h row m = elim (either (test x.0)) [
  | inl a ↦ (let z = rw a at h in cc)
  | inr a ↦ (let z = rw a at h in each_of (λ (y : Pair × Way). test y.0 ≡ false) x rows m a (λ k. passes_none test rows z row k))
]

map_same : {X Y : Type 0} (f g : X → Y) (xs : List X) → ((x : X) → Contains xs x → f x ≡ g x) → map f xs ≡ map g xs
map_same f g [] h = refl
map_same {X} {Y} f g (x ∷ xs) h =
    let a : f x ≡ g x = h x (here _) in
    let b : map f xs ≡ map g xs = map_same f g xs (λ y m. h y (there _ _ m)) in
    cc

-- sets, with one put last or not
abbrev AreGrown : List (List ℕ) → List ℕ → List (List ℕ) → Type 0
AreGrown before set after = (after ≡ before) ⊎ (after ≡ before ++ set ∷ [])

kept : (before after : List (List ℕ)) (set : List ℕ) → AreGrown before set after → (k : ℕ) → k < length before → get_or after k [] ≡ get_or before k []
kept before after set (inl e) k l = rw e refl
kept before after set (inr e) k l = rw e (get_or_append_left before (set ∷ []) [] k l)

longer : (before after : List (List ℕ)) (set : List ℕ) → AreGrown before set after → (k : ℕ) → k < length before → k < length after
longer before after set (inl e) k l = let z = ap length e in omega arith
longer before after set (inr e) k l = let z = ap length e ∙ length-append before (set ∷ []) in omega arith

-- numbers of sets stay numbers of sets
pub still_within : (s0 t0 s1 t1 : List (List ℕ)) (src dst : List ℕ) → AreGrown s0 src s1 → AreGrown t0 dst t1 → (rows : Rows) → AreWithin s0 t0 rows → AreWithin s1 t1 rows
still_within s0 t0 s1 t1 src dst sources targets rows within row m =
    let (x, y) = within row m in (longer s0 s1 src sources row.0.source x, longer t0 t1 dst targets row.0.target y)

module _ (s0 t0 s1 t1 : List (List ℕ)) (src dst : List ℕ) (s t : ℕ)
    (sources : AreGrown s0 src s1) (targets : AreGrown t0 dst t1)
    (at_s : slice_get s1 s ≡ Some src) (only_s : (k : ℕ) → slice_get s1 k ≡ Some src → k ≡ s)
    (at_t : slice_get t1 t ≡ Some dst) (only_t : (k : ℕ) → slice_get t1 k ≡ Some dst → k ≡ t)
    (rows : Rows) (within : AreWithin s0 t0 rows) where
  abbrev offered : Pair
  offered = record { source = s; target = t }

  entry_same : (row : Pair × Way) → Contains rows row → entry_of s1 t1 row ≡ entry_of s0 t0 row
  entry_same row m =
      let (a, b) = within row m in
      let x : get_or s1 row.0.source [] ≡ get_or s0 row.0.source [] = kept s0 s1 src sources row.0.source a in
      let y : get_or t1 row.0.target [] ≡ get_or t0 row.0.target [] = kept t0 t1 dst targets row.0.target b in
      rw (x, y) refl

  pub entries_same : entries_of s1 t1 rows ≡ entries_of s0 t0 rows
  entries_same = map_same (entry_of s1 t1) (entry_of s0 t0) rows entry_same

  -- the row of a pair of these sets has their numbers
  numbers : (row : Pair × Way) → Contains rows row → get_or s0 row.0.source [] ≡ src → get_or t0 row.0.target [] ≡ dst → (row.0.source ≡ s) × (row.0.target ≡ t)
  numbers row m a b =
      let (x, y) = within row m in
      let ls = longer s0 s1 src sources row.0.source x in
      let lt = longer t0 t1 dst targets row.0.target y in (
        only_s row.0.source (slice_get-get_or s1 row.0.source [] ls ∙ ap (λ (z : List ℕ). Some z) (kept s0 s1 src sources row.0.source x ∙ a)),
        only_t row.0.target (slice_get-get_or t1 row.0.target [] lt ∙ ap (λ (z : List ℕ). Some z) (kept t0 t1 dst targets row.0.target y ∙ b)),
      )

  held : is_some (lookup (pair_is offered) rows) ≡ true → (way : Way) → IsHeld (entry_by src dst way) (entries_of s0 t0 rows)
  held h way =
      let (row, m, p) = passes_one (pair_is offered) rows h in
      let (a, b) = and_parts_true (nat_eq s row.0.source) (nat_eq t row.0.target) p in
      let (x, y) = within row m in
      let es : s ≡ row.0.source = same_at s row.0.source a in
      let et : t ≡ row.0.target = same_at t row.0.target b in
      let fs : get_or s0 row.0.source [] ≡ src = sym (kept s0 s1 src sources row.0.source x) ∙ ap (λ (k : ℕ). get_or s1 k []) (sym es) ∙ get_or_from_slice_get s1 s src [] at_s in
      let ft : get_or t0 row.0.target [] ≡ dst = sym (kept t0 t1 dst targets row.0.target y) ∙ ap (λ (k : ℕ). get_or t1 k []) (sym et) ∙ get_or_from_slice_get t1 t dst [] at_t in
      (entry_of s0 t0 row, among_map (entry_of s0 t0) rows row m, (fs, ft))
    where
      and_parts_true : (a b : Bool) → (a && b) ≡ true → (a ≡ true) × (b ≡ true)
      and_parts_true true b e = (refl, e)
      and_parts_true false b e = cc

  pub there_offered : is_some (lookup (pair_is offered) rows) ≡ true → (way : Way) → IsOffered (entry_by src dst way) (entries_of s0 t0 rows) (entries_of s1 t1 rows)
  there_offered h way = inl (held h way, entries_same)

  pub last_row : is_some (lookup (pair_is offered) rows) ≡ false → (way : Way) → insert_entry pair_is rows offered way ≡ rows ++ (offered, way) ∷ []
  last_row h way = insert_last pair_is rows offered way (λ row m. passes_none (pair_is offered) rows h row m)

  pub new_within : (way : Way) → AreWithin s1 t1 (rows ++ (offered, way) ∷ [])
  new_within way row m = elim (Contains-append_cases rows ((offered, way) ∷ []) _ m) [
    | inl k ↦ still_within s0 t0 s1 t1 src dst sources targets rows within row k
    | inr k ↦ subst (λ (r : Pair × Way). (r.0.source < length s1) × (r.0.target < length t1)) (Contains-one (offered, way) row k) (slice_get_within s1 s src at_s, slice_get_within t1 t dst at_t)
  ]

  pub new_offered : is_some (lookup (pair_is offered) rows) ≡ false → (way : Way) → IsOffered (entry_by src dst way) (entries_of s0 t0 rows) (entries_of s1 t1 (rows ++ (offered, way) ∷ []))
  new_offered h way =
      let es : get_or s1 s [] ≡ src = get_or_from_slice_get s1 s src [] at_s in
      let et : get_or t1 t [] ≡ dst = get_or_from_slice_get t1 t dst [] at_t in
      let last : entry_of s1 t1 (offered, way) ≡ entry_by src dst way = rw (es, et) refl in
      inr (
        map-append (entry_of s1 t1) rows ((offered, way) ∷ []) ∙ (λ i. entries_same i ++ last i ∷ []),
        λ (f, m, (a, b)).
            let (row, r, e) = among_unmap (entry_of s0 t0) rows f m in
            let x : get_or s0 row.0.source [] ≡ src = ap (λ (z : Entry). z.src) e ∙ a in
            let y : get_or t0 row.0.target [] ≡ dst = ap (λ (z : Entry). z.dst) e ∙ b in
            let (p, q) = numbers row r x y in
            let fails = passes_none (pair_is offered) rows h row r in
            let passes = and_from (nat_eq s row.0.source) (nat_eq t row.0.target) (eq-eqb s row.0.source (sym p)) (eq-eqb t row.0.target (sym q)) in
            cc,
      )

-- ---- reading a layer

module _ (sources targets : List (List ℕ)) (rows : Rows) where
  pub read_row : (place : ℕ) (row : Pair × Way) → slice_get rows place ≡ Some row → AreWithin sources targets rows → (row.0.source < length sources) × (row.0.target < length targets)
  read_row place row h within = within row (get_among rows place row h)

  pub read_entry : (place : ℕ) (row : Pair × Way) → slice_get rows place ≡ Some row → (s t : List ℕ) → slice_get sources row.0.source ≡ Some s → slice_get targets row.0.target ≡ Some t
      → (e : Entry) × (slice_get (entries_of sources targets rows) place ≡ Some e) × (s ≡ e.src) × (t ≡ e.dst)
  read_entry place row h s t a b = (
    entry_of sources targets row,
    get_map (entry_of sources targets) rows place row h,
    sym (get_or_from_slice_get sources row.0.source s [] a),
    sym (get_or_from_slice_get targets row.0.target t [] b),
  )

  pub ways_are : map (λ (row : Pair × Way). row.1) rows ≡ map way_of (entries_of sources targets rows)
  ways_are = go rows
    where
      go : (rows : Rows) → map (λ (row : Pair × Way). row.1) rows ≡ map way_of (entries_of sources targets rows)
      go [] = refl
      go (row ∷ rows) = ap (λ (z : List Way). row.1 ∷ z) (go rows)
