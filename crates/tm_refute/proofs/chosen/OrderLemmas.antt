-- Entries in their order: as a list they are what their items are. And what an entry has that those have which ask for
-- it, each has, since each is asked for by the top or by one of greater depth.
use Rattle.std.proofs.Common.{◌≡◌, ℕ, zero, suc, ◌+◌, ◌<◌, ◌≤◌, ◌==◌, nat_lt, ◌||◌, ◌&&◌, ◌⊎◌, inl, inr, refl, sym, ◌∙◌, ap, subst, true, IsTrue, List, [], ◌∷◌, None, slice_get, arith}
use Rattle.std.specs.List.{All, Contains}
use Rattle.std.proofs.lemmas.Bool.Decides.{nat_tests}
use Rattle.std.proofs.lemmas.List.Elements.{All-cons, All-contains, All-nil, All-weaker}
use Rattle.tm_base.specs.declared.ask.Ask.{Ask}
use Rattle.tm_base.specs.declared.assume.Assume.{Assume}
use Rattle.tm_base.specs.declared.definition.RefRow.{RefRow}
use Rattle.tm_base.specs.Rules.{target}
use Rattle.tm_base.specs.Tables.{Tables}
use Rattle.tm_base.proofs.JudgedLemmas.{Contains-none}
use Rattle.tm_refs.proofs.PointeeLemmas.{OnRows-rows}
use Rattle.tm_refute.specs.Chosen.{AreInOrder, Asks, EntryAsks, IsAskedFor, ProofAsks, comes_before}
use Rattle.tm_refute.specs.declared.refutation.Entry.{Entry}
use Rattle.tm_refute.specs.declared.refutation.Proof.{Proof}
use Rattle.tm_refute.specs.declared.refutation.Proof.TheVariants.{Local, Forward, Reverse}
use Rattle.tm_refute.specs.declared.refutation.Refutation.{Refutation}

numbers_asym : (d e r s t u : ℕ) → (nat_lt e d || ((d == e) && (nat_lt r s || ((r == s) && nat_lt t u)))) ≡ true
    → (nat_lt d e || ((e == d) && (nat_lt s r || ((s == r) && nat_lt u t)))) ≡ true → ⊥
numbers_asym d e r s t u h k = grind (arith, nat_tests)

-- of two entries one alone comes before the other
pub asym : (e f : Entry) → comes_before e f ≡ true → comes_before f e ≡ true → ⊥
asym e f h k = numbers_asym e.depth f.depth e.source.0 f.source.0 e.target.0 f.target.0 h k

first_or_other : {X : Type 0} (x y : X) (xs : List X) → Contains (x ∷ xs) y → (x ≡ y) ⊎ Contains xs y
first_or_other x y xs (zero, below, e) = inl e
first_or_other x y xs (suc k, below, e) = inr (k, omega arith, e)

pub first : {X : Type 0} (x : X) (xs : List X) → Contains (x ∷ xs) x
first x xs = (zero, omega arith, refl)

pub other : {X : Type 0} (x y : X) (xs : List X) → Contains xs y → Contains (x ∷ xs) y
other x y xs (k, below, e) = (suc k, omega arith, e)

-- each item of the one list is one of the other
abbrev pub AreAmong : List Entry → List Entry → Type 0
AreAmong xs ys = (e : Entry) → Contains xs e → Contains ys e

-- two lists in order with the same items begin with the same
same-first : (x y : Entry) (xs ys : List Entry) → AreInOrder (x ∷ xs) → AreInOrder (y ∷ ys) → (x ≡ y) ⊎ Contains xs y → (y ≡ x) ⊎ Contains ys x → x ≡ y
same-first x y xs ys a b (inl e) h = e
same-first x y xs ys a b (inr at) (inl e) = sym e
same-first x y xs ys (before, a) (behind, b) (inr at) (inr in_other) =
    absurd (asym x y (All-contains (λ f. IsTrue (comes_before x f)) xs y before at) (All-contains (λ f. IsTrue (comes_before y f)) ys x behind in_other))

rest-among : (x : Entry) (xs ys : List Entry) → All (λ f. IsTrue (comes_before x f)) xs → AreAmong (x ∷ xs) (x ∷ ys) → AreAmong xs ys
rest-among x xs ys before among e at = go (first_or_other x e ys (among e (other x e xs at))) where
  go : (x ≡ e) ⊎ Contains ys e → Contains ys e
  go (inl same) =
      let h = All-contains (λ f. IsTrue (comes_before x f)) xs e before at in
      let k : comes_before x x ≡ true = subst (λ (f : Entry). comes_before x f ≡ true) (sym same) h in
      absurd (asym x x k k)
  go (inr there) = there

-- two lists in order with the same items are one
pub same-list : (xs ys : List Entry) → AreInOrder xs → AreInOrder ys → AreAmong xs ys → AreAmong ys xs → xs ≡ ys
same-list [] [] a b there back = refl
same-list [] (y ∷ ys) a b there back = absurd (Contains-none y (back y (first y ys)))
same-list (x ∷ xs) [] a b there back = absurd (Contains-none x (there x (first x xs)))
same-list (x ∷ xs) (y ∷ ys) a b there back =
    let same = same-first x y xs ys a b (first_or_other x y xs (back y (first y ys))) (first_or_other y x ys (there x (first x xs))) in
    let b' = subst (λ (z : Entry). AreInOrder (z ∷ ys)) (sym same) b in
    let there' = subst (λ (z : Entry). AreAmong (x ∷ xs) (z ∷ ys)) (sym same) there in
    let back' = subst (λ (z : Entry). AreAmong (z ∷ ys) (x ∷ xs)) (sym same) back in
    ap (λ (z : Entry). z ∷ xs) same
    ∙ ap (λ (zs : List Entry). y ∷ zs) (same-list xs ys a.1 b'.1 (rest-among x xs ys a.0 there') (rest-among x ys xs b'.0 back'))

-- a number that no depth reaches
bounded : (es : List Entry) → (bound : ℕ) × All (λ e. e.depth < bound) es
bounded [] = (0, All-nil (λ (e : Entry). e.depth < 0))
bounded (e ∷ es) =
    let (bound, all) = bounded es in
    let more = e.depth + bound + 1 in
    (more, All-cons (λ (f : Entry). f.depth < more) e es (omega arith) (All-weaker (λ (f : Entry). f.depth < bound) (λ (f : Entry). f.depth < more) (λ f h. let k = h in omega arith) es all))

module _ (tables : Tables) (assume : Assume) where
  proof-below : (depth : ℕ) (proof : Proof) (r leaf less : ℕ) (s t : RefRow) → ProofAsks tables assume depth proof r leaf less s t → less < depth
  proof-below depth (Local rule) r leaf less s t asks = absurd asks
  proof-below depth (Forward piece) r leaf less s t asks = asks.below
  proof-below depth (Reverse piece) r leaf less s t asks = asks.below

  -- an entry asks for lesser depths alone
  pub asks-below : (e : Entry) (r leaf less : ℕ) → EntryAsks tables assume e r leaf less → less < e.depth
  asks-below e r leaf less asks =
      let (s, t, at_s, at_t, h) = OnRows-rows (slice_get tables.refs e.source.0) (slice_get tables.refs e.target.0) (ProofAsks tables assume e.depth e.proof r leaf less) asks in
      proof-below e.depth e.proof r leaf less s t h

-- what those have that the top asks for, and those that are asked for by entries that have it
module _ (tables : Tables) (ask : Ask) (x : Refutation) (P : Entry → Type 0)
    (asked : All (λ e. IsAskedFor tables ask x e.source.0 e.target.0 e.depth) x.entries)
    (by_top : (e : Entry) → Contains x.entries e → Asks tables ask.assume None (target tables ask) x.top e.source.0 e.target.0 e.depth → P e)
    (by_entry : (e f : Entry) → Contains x.entries e → Contains x.entries f → P f → EntryAsks tables ask.assume f e.source.0 e.target.0 e.depth → P e) where
  falling-from : (n bound : ℕ) → All (λ e. e.depth < bound) x.entries → (e : Entry) → Contains x.entries e → bound ≤ e.depth + n → P e
  falling-from zero bound under e at near = let k = All-contains (λ (f : Entry). f.depth < bound) x.entries e under at in absurd (omega arith)
  falling-from (suc n) bound under e at near =
      elim (All-contains (λ e. IsAskedFor tables ask x e.source.0 e.target.0 e.depth) x.entries e asked at) [
        | inl top ↦ by_top e at top
        | inr (f, among, asks) ↦ by_entry e f at among (falling-from n bound under f among (omega (arith, asks-below tables ask.assume f e.source.0 e.target.0 e.depth asks))) asks
      ]

  -- each entry has
  pub falling : (e : Entry) → Contains x.entries e → P e
  falling e at = let (bound, under) = bounded x.entries in falling-from bound bound under e at (omega arith)
