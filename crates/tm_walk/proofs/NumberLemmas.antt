-- What an index of sets says of the number of a set.
use Rattle.std.proofs.Common.{◌≡◌, ℕ, zero, suc, ◌+◌, ◌<◌, ◌⊎◌, inl, inr, Bool, true, false, cond, List, [], ◌∷◌, ◌++◌, map, length, Some, None, slice_get, position, refl, sym, ap, ◌∙◌, subst, arith, lt-ltb, nat_lt, nat_eq, Contains}
use Rattle.std.specs.Global.{Vec}
use Rattle.std.specs.List.{position_or_len}
use Rattle.std.specs.Map.{keys_of}
use Rattle.std.specs.Cmp.Lexicographic.{pointwise}
use Rattle.std.proofs.lemmas.Slice.Eq.{bytes_eq-Decides}
use Rattle.std.proofs.lemmas.List.Elements.{Contains-append_cases}
use Rattle.std.proofs.lemmas.Option.{slice_get-get_or, get_or_from_slice_get, slice_get_within}
use Rattle.tm_base.proofs.JudgedLemmas.{Contains-none, Contains-one}
use Rattle.indexmap.specs.IndexMap.{insert_entry}
use Rattle.tm_auto.proofs.ContainsLemmas.{here, there, first_or_later, each_of}
use Rattle.tm_walk.specs.Numbers.{Row, sets_of, AreNumbered}

either : (b : Bool) → (b ≡ true) ⊎ (b ≡ false)
either true = inl refl
either false = inr refl

-- ---- places in lists

pub get_among : {X : Type 0} (xs : List X) (i : ℕ) (x : X) → slice_get xs i ≡ Some x → Contains xs x
get_among xs i x h = (i, slice_get_within xs i x h, get_or_from_slice_get xs i x x h)

pub among_get : {X : Type 0} (xs : List X) (x : X) → Contains xs x → (i : ℕ) × (slice_get xs i ≡ Some x)
among_get {X} xs x (i, below, e) = (i, slice_get-get_or xs i x below ∙ ap (λ (z : X). Some z) e)

pub get_map : {X Y : Type 0} (f : X → Y) (xs : List X) (i : ℕ) (x : X) → slice_get xs i ≡ Some x → slice_get (map f xs) i ≡ Some (f x)
get_map f [] i x h = cc
get_map f (y ∷ xs) zero x h = let e : y ≡ x = cc in ap (λ z. Some (f z)) e
get_map f (y ∷ xs) (suc i) x h = get_map f xs i x h

pub get_unmap : {X Y : Type 0} (f : X → Y) (xs : List X) (i : ℕ) (y : Y) → slice_get (map f xs) i ≡ Some y → (x : X) × (slice_get xs i ≡ Some x) × (f x ≡ y)
get_unmap f [] i y h = cc
get_unmap f (x ∷ xs) zero y h = (x, refl, cc)
get_unmap f (x ∷ xs) (suc i) y h = get_unmap f xs i y h

pub among_map : {X Y : Type 0} (f : X → Y) (xs : List X) (x : X) → Contains xs x → Contains (map f xs) (f x)
among_map f [] x h = absurd (Contains-none _ h)
among_map f (y ∷ xs) x h = elim (first_or_later _ _ h) [ inl e ↦ rw e (here _) | inr n ↦ there _ _ (among_map f xs x n) ]

pub among_unmap : {X Y : Type 0} (f : X → Y) (xs : List X) (y : Y) → Contains (map f xs) y → (x : X) × Contains xs x × (f x ≡ y)
among_unmap f [] y h = absurd (Contains-none _ h)
among_unmap f (x ∷ xs) y h = elim (first_or_later (f x) (map f xs) h) [
  | inl e ↦ (x, here _, sym e)
  | inr n ↦ (let (w, m, r) = among_unmap f xs y n in (w, there _ _ m, r))
]

-- ---- entries by a test of their keys

module _ {K X : Type 0} (test : K → Bool) where
  place_within : (es : List (K × X)) (e : K × X) → Contains es e → test e.0 ≡ true → position_or_len test (keys_of es) < length (keys_of es)
  place_within [] e m h = absurd (Contains-none _ m)
  place_within (f ∷ es) e m h = elim (either (test f.0)) [
    | inl a ↦ rw a (omega arith)
    | inr a ↦ rw a (elim (first_or_later _ _ m) [ inl q ↦ (let z = ap (λ (d : K × X). test d.0) q in cc) | inr n ↦ (let rest = place_within es e n h in omega arith) ])
  ]

  pub none_passes : (es : List (K × X)) → position test (keys_of es) ≡ None → (e : K × X) → Contains es e → test e.0 ≡ false
  none_passes es none e m = elim (either (test e.0)) [
    | inr a ↦ a
    | inl a ↦ (let w = lt-ltb _ _ (place_within es e m a) in let z = rw w at none in cc)
  ]

  pub one_passes : (es : List (K × X)) (i : ℕ) → position test (keys_of es) ≡ Some i → (e : K × X) × (slice_get es i ≡ Some e) × (test e.0 ≡ true)
  one_passes [] i h = cc
  one_passes (e ∷ es) i h = elim (either (test e.0)) [
    | inl a ↦ (let z = rw a at h in let q : 0 ≡ i = at_once (length (keys_of es)) i z in (e, subst (λ n. slice_get (e ∷ es) n ≡ Some e) q refl, a))
    | inr a ↦ (let z = rw a at h in
        let (j, q, r) = later (position_or_len test (keys_of es)) (length (keys_of es)) i z in
        let (f, g, p) = one_passes es j r in
        (f, subst (λ n. slice_get (e ∷ es) n ≡ Some f) (sym q) g, p))
  ]
    where
      at_once : (n i : ℕ) → cond (nat_lt 0 (suc n)) (Some 0) None ≡ Some i → 0 ≡ i
      at_once n i h = let w : nat_lt 0 (suc n) ≡ true = lt-ltb _ _ (omega arith) in let z = rw w at h in cc

      later : (k n i : ℕ) → cond (nat_lt (1 + k) (suc n)) (Some (1 + k)) None ≡ Some i → (j : ℕ) × (i ≡ suc j) × (cond (nat_lt k n) (Some k) None ≡ Some j)
      later k n i h = elim (either (nat_lt (1 + k) (suc n))) [
        | inl a ↦ (let z = rw a at h in let q : 1 + k ≡ i = cc in let l : k < n = (let b = ltb_true (1 + k) (suc n) a in omega arith) in (k, (let y : i ≡ suc k = omega arith in y), rw (lt-ltb _ _ l) refl))
        | inr a ↦ (let z = rw a at h in cc)
      ]
        where
          ltb_true : (a b : ℕ) → nat_lt a b ≡ true → a < b
          ltb_true a b h = grind arith

-- a key that no entry has goes last
pub insert_last : {K X : Type 0} (eq : K → K → Bool) (es : List (K × X)) (k : K) (v : X) → ((e : K × X) → Contains es e → eq k e.0 ≡ false) → insert_entry eq es k v ≡ es ++ (k, v) ∷ []
insert_last eq [] k v none = refl
insert_last {K} {X} eq (e ∷ es) k v none = let a : eq k e.0 ≡ false = none e (here _) in rw a (ap (λ (z : List (K × X)). e ∷ z) (insert_last eq es k v (λ f m. none f (there _ _ m))))

-- ---- sets

pub named : (rows : List Row) → AreNumbered rows → (row : Row) → Contains rows row → row.0.items ≡ row.1
named [] n row m = absurd (Contains-none _ m)
named (x ∷ rows) n row m = each_of (λ (r : Row). r.0.items ≡ r.1) x rows m n.0 (λ k. named rows n.2 row k)

pub only_number : (rows : List Row) → AreNumbered rows → (i j : ℕ) (set : List ℕ) → slice_get (sets_of rows) i ≡ Some set → slice_get (sets_of rows) j ≡ Some set → i ≡ j
only_number [] n i j set a b = cc
only_number (row ∷ rows) n zero zero set a b = refl
only_number (row ∷ rows) n zero (suc j) set a b = let e : row.1 ≡ set = cc in absurd (n.1 (subst (λ (z : List ℕ). Contains (sets_of rows) z) (sym e) (get_among (sets_of rows) j set b)))
only_number (row ∷ rows) n (suc i) zero set a b = let e : row.1 ≡ set = cc in absurd (n.1 (subst (λ (z : List ℕ). Contains (sets_of rows) z) (sym e) (get_among (sets_of rows) i set a)))
only_number (row ∷ rows) n (suc i) (suc j) set a b = ap suc (only_number rows n.2 i j set a b)

sets_more : (rows : List Row) (row : Row) → sets_of (rows ++ row ∷ []) ≡ sets_of rows ++ row.1 ∷ []
sets_more [] row = refl
sets_more (x ∷ rows) row = ap (λ (z : List (List ℕ)). x.1 ∷ z) (sets_more rows row)

pub numbered_more : (rows : List Row) (row : Row) → AreNumbered rows → row.0.items ≡ row.1 → (¬ Contains (sets_of rows) row.1) → AreNumbered (rows ++ row ∷ [])
numbered_more [] row n e new = (e, λ m. Contains-none _ m, tt)
numbered_more (x ∷ rows) row n e new = (
  n.0,
  λ m. elim (Contains-append_cases (sets_of rows) (row.1 ∷ []) _ (subst (λ (z : List (List ℕ)). Contains z x.1) (sets_more rows row) m)) [
    | inl a ↦ n.1 a
    | inr a ↦ new (rw (Contains-one row.1 x.1 a) (here _))
  ],
  numbered_more rows row n.2 e (λ m. new (there _ _ m)),
)

module _ (rows : List Row) (numbered : AreNumbered rows) (set sought : List ℕ) (same : sought ≡ set) where
  abbrev key_is : Vec ℕ → Bool
  key_is k = pointwise nat_eq sought k.items

  pub number_found : (i : ℕ) → position key_is (keys_of rows) ≡ Some i → slice_get (sets_of rows) i ≡ Some set
  number_found i h =
      let (row, at, p) = one_passes key_is rows i h in
      let e : sought ≡ row.0.items = (bytes_eq-Decides sought row.0.items).0 p in
      let n = named rows numbered row (get_among rows i row at) in
      get_map (λ (r : Row). r.1) rows i row at ∙ ap (λ (z : List ℕ). Some z) (sym n ∙ sym e ∙ same)

  pub number_absent : position key_is (keys_of rows) ≡ None → ¬ Contains (sets_of rows) set
  number_absent h m =
      let (row, r, e) = among_unmap (λ (r : Row). r.1) rows set m in
      let f = none_passes key_is rows h row r in
      let t = (bytes_eq-Decides sought row.0.items).1 (same ∙ sym e ∙ sym (named rows numbered row r)) in
      cc

  -- the rows once the set is put in
  pub added_is : (key : Vec ℕ) → key.items ≡ sought → position key_is (keys_of rows) ≡ None → insert_entry (λ a b. pointwise nat_eq a.items b.items) rows key set ≡ rows ++ (key, set) ∷ []
  added_is key k h = insert_last (λ (a b : Vec ℕ). pointwise nat_eq a.items b.items) rows key set (λ e m. subst (λ (z : List ℕ). pointwise nat_eq z e.0.items ≡ false) (sym k) (none_passes key_is rows h e m))

  pub added_numbered : (key : Vec ℕ) → key.items ≡ sought → position key_is (keys_of rows) ≡ None → AreNumbered (rows ++ (key, set) ∷ [])
  added_numbered key k h = numbered_more rows (key, set) numbered (k ∙ same) (number_absent h)

  pub added_sets : (key : Vec ℕ) → sets_of (rows ++ (key, set) ∷ []) ≡ sets_of rows ++ set ∷ []
  added_sets key = sets_more rows (key, set)

  pub added_number : (key : Vec ℕ) → slice_get (sets_of (rows ++ (key, set) ∷ [])) (length rows) ≡ Some set
  added_number key = at rows
    where
      at : (rows : List Row) → slice_get (sets_of (rows ++ (key, set) ∷ [])) (length rows) ≡ Some set
      at [] = refl
      at (x ∷ rows) = at rows
