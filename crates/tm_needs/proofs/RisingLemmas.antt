-- Lists that rise by a number: one item more, and that there is one such list of the same items.
use Rattle.std.proofs.Common.{◌≡◌, ℕ, zero, suc, ◌<◌, ◌⊎◌, inl, inr, refl, sym, ap, subst, List, [], ◌∷◌, ◌++◌, length, slice_index_or, arith}
use Rattle.std.specs.Prelude.{AllPairs, Contains}
use Rattle.tm_base.proofs.JudgedLemmas.{Contains-none}

module _ {X : Type 0} where
  pub Contains-here : (x : X) (xs : List X) → Contains (x ∷ xs) x
  Contains-here x xs = (0, omega arith, refl)

  pub Contains-later : (x y : X) (xs : List X) → Contains xs y → Contains (x ∷ xs) y
  Contains-later x y xs (k, below, e) = (suc k, omega arith, e)

  Contains-split : (x y : X) (xs : List X) → Contains (x ∷ xs) y → (x ≡ y) ⊎ Contains xs y
  Contains-split x y xs (zero, below, e) = inl e
  Contains-split x y xs (suc k, below, e) = inr (k, omega arith, e)

  each-more : (P : X → Type 0) (xs : List X) (x : X) → ((y : X) → Contains xs y → P y) → P x → (k : ℕ) (d : X) → k < length (xs ++ x ∷ []) → P (slice_index_or (xs ++ x ∷ []) k d)
  each-more P [] x each last zero d below = last
  each-more P [] x each last (suc k) d below = absurd (omega arith)
  each-more P (y ∷ xs) x each last zero d below = each y (Contains-here y xs)
  each-more P (y ∷ xs) x each last (suc k) d below = each-more P xs x (λ z within. each z (Contains-later y z xs within)) last k d (omega arith)

  module _ (R : X → X → Type 0) where
    AllPairs-tail : (x : X) (xs : List X) → AllPairs R (x ∷ xs) → AllPairs R xs
    AllPairs-tail x xs pairs i j d less below = pairs (suc i) (suc j) d (omega arith) (omega arith)

    AllPairs-head : (x y : X) (xs : List X) → AllPairs R (x ∷ xs) → Contains xs y → R x y
    AllPairs-head x y xs pairs (k, below, e) = subst (λ z. R x z) e (pairs zero (suc k) y (omega arith) (omega arith))

    pub AllPairs-more : (xs : List X) (x : X) → AllPairs R xs → ((y : X) → Contains xs y → R y x) → AllPairs R (xs ++ x ∷ [])
    AllPairs-more [] x pairs last i (suc j) d less below = absurd (omega arith)
    AllPairs-more [] x pairs last i zero d less below = absurd (omega arith)
    AllPairs-more (y ∷ xs) x pairs last i zero d less below = absurd (omega arith)
    AllPairs-more (y ∷ xs) x pairs last zero (suc j) d less below =
        each-more (R y) xs x (λ z within. AllPairs-head y z xs pairs within) (last y (Contains-here y xs)) j d (omega arith)
    AllPairs-more (y ∷ xs) x pairs last (suc i) (suc j) d less below =
        AllPairs-more xs x (AllPairs-tail y xs pairs) (λ z within. last z (Contains-later y z xs within)) i j d (omega arith) (omega arith)

  module _ (number : X → ℕ) where
    abbrev pub Rises : List X → Type 0
    Rises = AllPairs (λ x y. number x < number y)

    -- of two rising lists of the same items, the first items are one, since neither comes after the other
    first_same : (x y : X) (xs ys : List X) → Rises (x ∷ xs) → Rises (y ∷ ys) → Contains (y ∷ ys) x → Contains (x ∷ xs) y → x ≡ y
    first_same x y xs ys rises others within back = go (Contains-split y x ys within) (Contains-split x y xs back) where
      go : (y ≡ x) ⊎ Contains ys x → (x ≡ y) ⊎ Contains xs y → x ≡ y
      go (inl e) side = sym e
      go (inr later) (inl e) = e
      go (inr later) (inr before) =
          let less : number y < number x = AllPairs-head (λ p q. number p < number q) y x ys others later in
          let more : number x < number y = AllPairs-head (λ p q. number p < number q) x y xs rises before in
          absurd (omega arith)

    rest_within : (x y : X) (xs ys : List X) → x ≡ y → Rises (x ∷ xs) → ((z : X) → Contains (x ∷ xs) z → Contains (y ∷ ys) z) → (z : X) → Contains xs z → Contains ys z
    rest_within x y xs ys e rises all z within = go (Contains-split y z ys (all z (Contains-later x z xs within))) where
      go : (y ≡ z) ⊎ Contains ys z → Contains ys z
      go (inr later) = later
      go (inl same) =
          let less : number x < number z = AllPairs-head (λ p q. number p < number q) x z xs rises within in
          let first : number x ≡ number y = ap number e in
          let again : number y ≡ number z = ap number same in
          absurd (omega arith)

    pub rising-unique : (xs ys : List X) → Rises xs → Rises ys → ((x : X) → Contains xs x → Contains ys x) → ((x : X) → Contains ys x → Contains xs x) → xs ≡ ys
    rising-unique [] [] rises others all back = refl
    rising-unique [] (y ∷ ys) rises others all back = absurd (Contains-none y (back y (Contains-here y ys)))
    rising-unique (x ∷ xs) [] rises others all back = absurd (Contains-none x (all x (Contains-here x xs)))
    rising-unique (x ∷ xs) (y ∷ ys) rises others all back =
        let R : X → X → Type 0 = λ p q. number p < number q in
        let first : x ≡ y = first_same x y xs ys rises others (all x (Contains-here x xs)) (back y (Contains-here y ys)) in
        let rest : xs ≡ ys = rising-unique xs ys (AllPairs-tail R x xs rises) (AllPairs-tail R y ys others) (rest_within x y xs ys first rises all) (rest_within y x ys xs (sym first) others back) in
        cons_same x y xs ys first rest
      where
        cons_same : (p q : X) (ps qs : List X) → p ≡ q → ps ≡ qs → p ∷ ps ≡ q ∷ qs
        cons_same p q ps qs e es = subst (λ z. p ∷ ps ≡ z ∷ qs) e (ap (λ zs. p ∷ zs) es)
