-- Words that are cut in two, and words of which the first cells are told.
use Rattle.std.proofs.Common.{◌≡◌, ℕ, zero, suc, ◌+◌, ◌-◌, ◌≤◌, ◌⊎◌, inl, inr, refl, sym, ◌∙◌, ap, subst, Bool, true, false, ◌&&◌, ◌||◌, List, [], ◌∷◌, ◌++◌, length, take, drop, replicate, arith}
use Rattle.std.proofs.lemmas.List.{length-append, length-replicate, drop-take, take-take, nil_from_length}
use Rattle.std.specs.List.{All, list_all}
use Rattle.std.specs.Bool.{Decides}
use Rattle.std.proofs.lemmas.Bool.Decides.{Decides-by_and}
use Rattle.std.proofs.lemmas.List.Elements.{All-append, All-replicate, All-head, All-tail, All-cons, All-nil}
use Rattle.tm_base.specs.declared.cell.Cell.{Cell}
use Rattle.tm_base.specs.declared.cell.Cell.TheVariants.{Uninit}
use Rattle.tm_base.specs.Cells.{Word, IsByte, IsFree}
use Rattle.tm_base.specs.ValidTest.{is_byte, is_free}
use Rattle.tm_base.proofs.ValidTestLemmas.{is_byte-decides, is_free-decides}

-- ---- tests

pub both : (a b : Bool) → (a && b) ≡ true → (a ≡ true) × (b ≡ true)
both true true h = (refl, refl)
both true false h = cc
both false b h = cc

pub and-true : (a b : Bool) → a ≡ true → b ≡ true → (a && b) ≡ true
and-true a b p q = cc

pub either : (a b : Bool) → (a || b) ≡ true → (a ≡ true) ⊎ (b ≡ true)
either true b h = inl refl
either false b h = inr h

pub or-first : (a b : Bool) → a ≡ true → (a || b) ≡ true
or-first a b h = cc

pub or-second : (a b : Bool) → b ≡ true → (a || b) ≡ true
or-second true b h = refl
or-second false b h = h

pub bytes-decide : (w : Word) → Decides (list_all is_byte w) (All IsByte w)
bytes-decide = Decides-by_and is_byte IsByte (list_all is_byte) is_byte-decides refl (λ x xs. refl)

pub free-decide : (w : Word) → Decides (list_all is_free w) (All IsFree w)
free-decide = Decides-by_and is_free IsFree (list_all is_free) is_free-decides refl (λ x xs. refl)

-- ---- cuts

-- The first n cells with some behind them, so that they are n, and the others with some behind them, are the word
-- with some behind it.
pub join : {X : Type 0} (n : ℕ) (w before behind : List X) → length (take n w ++ before) ≡ n
    → (rest : List X) × ((take n w ++ before) ++ (drop n w ++ behind) ≡ w ++ rest)
join zero w before behind long = let none = nil_from_length before long in (behind, ap (λ u. u ++ (w ++ behind)) none)
join (suc n) [] before behind long = (before ++ behind, refl)
join (suc n) (x ∷ w) before behind long = let (rest, e) = join n w before behind (omega arith) in (rest, ap (λ u. x ∷ u) e)

-- what goes on is cut in two parts that go on
pub cut : {X : Type 0} (w rest front back : List X) → w ++ rest ≡ front ++ back
    → ((before : List X) × (take (length front) w ++ before ≡ front)) × ((behind : List X) × (drop (length front) w ++ behind ≡ back))
cut w rest [] back e = (([], refl), (rest, e))
cut [] rest (x ∷ front) back e = ((x ∷ front, refl), (back, refl))
cut (y ∷ w) rest (x ∷ front) back e =
    let same : y ≡ x = cc in
    let others : w ++ rest ≡ front ++ back = cc in
    let ((before, f), behind) = cut w rest front back others in
    ((before, ap (λ u. y ∷ u) f ∙ ap (λ z. z ∷ front) same), behind)

-- the same, where it is known how long the front is
pub cut_at : {X : Type 0} (n : ℕ) (w rest front back : List X) → length front ≡ n → w ++ rest ≡ front ++ back
    → ((before : List X) × (take n w ++ before ≡ front)) × ((behind : List X) × (drop n w ++ behind ≡ back))
cut_at {X} n w rest front back long e =
    subst (λ (k : ℕ). ((before : List X) × (take k w ++ before ≡ front)) × ((behind : List X) × (drop k w ++ behind ≡ back))) long (cut w rest front back e)

pub All-front : (P : Cell → Type 0) (u v : Word) → All P (u ++ v) → All P u
All-front P [] v all = All-nil P
All-front P (c ∷ u) v all = All-cons P c u (All-head P c (u ++ v) all) (All-front P u v (All-tail P c (u ++ v) all))

-- ---- free cells

abbrev pub filled : ℕ → Word → Word
filled n w = w ++ replicate (n - length w) Uninit

pub filled-long : (n : ℕ) (w : Word) → length w ≤ n → length (filled n w) ≡ n
filled-long n w h = length-append w (replicate (n - length w) Uninit) ∙ ap (λ (k : ℕ). length w + k) (length-replicate (n - length w) Uninit) ∙ omega arith

pub filled-free : (n : ℕ) (w : Word) → list_all is_free w ≡ true → All IsFree (filled n w)
filled-free n w free = All-append IsFree w (replicate (n - length w) Uninit) ((free-decide w).0 free) (All-replicate IsFree (n - length w) Uninit tt)

pub front-free : (w rest gap : Word) → w ++ rest ≡ gap → All IsFree gap → list_all is_free w ≡ true
front-free w rest gap e free = (free-decide w).1 (All-front IsFree w rest (subst (All IsFree) (sym e) free))

pub list_all-cut : (test : Cell → Bool) (k : ℕ) (w : Word) → list_all test w ≡ (list_all test (take k w) && list_all test (drop k w))
list_all-cut test zero w = refl
list_all-cut test (suc k) [] = refl
list_all-cut test (suc k) (c ∷ w) = assoc (test c) (list_all test w) (list_all test (take k w)) (list_all test (drop k w)) (list_all-cut test k w) where
  assoc : (a b c d : Bool) → b ≡ (c && d) → (a && b) ≡ ((a && c) && d)
  assoc true b c d e = e
  assoc false b c d e = refl

-- what is taken behind a cut is taken from the whole
pub taken-cut : (k j : ℕ) (w : Word) → list_all is_free (take (k + j) w) ≡ (list_all is_free (take k w) && list_all is_free (take j (drop k w)))
taken-cut k j w =
    list_all-cut is_free k (take (k + j) w)
    ∙ ap (λ u. list_all is_free u && list_all is_free (drop k (take (k + j) w))) (take-take k (k + j) w (omega arith))
    ∙ ap (λ u. list_all is_free (take k w) && list_all is_free u) (drop-take k j w)
