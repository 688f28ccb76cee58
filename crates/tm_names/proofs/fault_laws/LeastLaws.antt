-- The earliest of some faults is one of them, and none stands before it.
use Rattle.std.proofs.Common.{◌≡◌, ℕ, ◌<◌, ◌≤◌, refl, sym, ap, ◌∙◌, subst, arith, inl, inr, ◌⊎◌, ⊎_elim, true, false, ◌||◌, ◌&&◌, List, [], ◌∷◌, if◌then◌else◌}
use Rattle.std.specs.Prelude.{Some, None, nat_lt, nat_le, ◌==◌}
use Rattle.std.proofs.lemmas.Bool.{cases_Bool}
use Rattle.std.proofs.lemmas.Bool.Decides.{nat_tests}
use Rattle.std.proofs.lemmas.Option.{none-some, same_Some}
use Rattle.tm_names.proofs.Members.{Member}
use Rattle.tm_names.specs.declared.faults.least.NameFault.{NameFault}
use Rattle.tm_names.specs.Least.{earliest, is_no_later}
use Rattle.tm_names.specs.Ranks.{rank}

-- no fault stands before: at an earlier token, or at the same one and of an earlier kind
abbrev pub NoLater : NameFault → NameFault → Type 0
NoLater f g = (f.place < g.place) ⊎ ((f.place ≡ g.place) × (rank f.why ≤ rank g.why))

pub no_later : (f g : NameFault) → is_no_later f g ≡ true → NoLater f g
no_later f g h = numbers f.place g.place (rank f.why) (rank g.why) h
  where
    numbers : (p q r s : ℕ) → (nat_lt p q || ((p == q) && nat_le r s)) ≡ true → (p < q) ⊎ ((p ≡ q) × (r ≤ s))
    numbers p q r s h = grind (arith, nat_tests)

pub later : (f g : NameFault) → is_no_later f g ≡ false → NoLater g f
later f g h = numbers f.place g.place (rank f.why) (rank g.why) h
  where
    numbers : (p q r s : ℕ) → (nat_lt p q || ((p == q) && nat_le r s)) ≡ false → (q < p) ⊎ ((q ≡ p) × (s ≤ r))
    numbers p q r s h = grind (arith, nat_tests)

itself : (f g : NameFault) → f ≡ g → NoLater f g
itself f g e = let p : f.place ≡ g.place = ap (λ h. h.place) e in let r : rank f.why ≡ rank g.why = ap (λ h. rank h.why) e in inr (p, omega (arith, r))

passed_on : (f g h : NameFault) → NoLater f g → NoLater g h → NoLater f h
passed_on f g h a b = numbers f.place g.place h.place (rank f.why) (rank g.why) (rank h.why) a b
  where
    numbers : (p q t r s u : ℕ) → (p < q) ⊎ ((p ≡ q) × (r ≤ s)) → (q < t) ⊎ ((q ≡ t) × (s ≤ u)) → (p < t) ⊎ ((p ≡ t) × (r ≤ u))
    numbers p q t r s u a b = grind arith

-- the fault is one of these, and no other one stands before it
pub record IsLeast (f : NameFault) (xs : List NameFault) : Type 0 where
  pub among : Member f xs
  pub least : (g : NameFault) → Member g xs → NoLater f g

-- the earliest of a first one and some more
abbrev Kept : NameFault → List NameFault → Type 0
Kept first xs = (f : NameFault) × (earliest (Some first) xs ≡ Some f) × IsLeast f (first ∷ xs)

stays : (first x : NameFault) (xs : List NameFault) → is_no_later first x ≡ true → Kept first xs → Kept first (x ∷ xs)
stays first x xs t (f, e, least) = (
  f,
  ap (λ b. earliest (if b then Some first else Some x) xs) t ∙ e,
  record {
    among = ⊎_elim (λ p. inl p) (λ m. inr (inr m)) least.among;
    least = λ g. ⊎_elim (λ p. least.least g (inl p))
        (⊎_elim (λ p. passed_on f first g (least.least first (inl refl)) (subst (λ h. NoLater first h) p (no_later first x t))) (λ m. least.least g (inr m)));
  },
)

gives_way : (first x : NameFault) (xs : List NameFault) → is_no_later first x ≡ false → Kept x xs → Kept first (x ∷ xs)
gives_way first x xs t (f, e, least) = (
  f,
  ap (λ b. earliest (if b then Some first else Some x) xs) t ∙ e,
  record {
    among = inr least.among;
    least = λ g. ⊎_elim (λ p. passed_on f x g (least.least x (inl refl)) (subst (λ h. NoLater x h) p (later first x t))) (λ m. least.least g m);
  },
)

kept : (first : NameFault) (xs : List NameFault) → Kept first xs
kept first [] = (first, refl, record { among = inl refl; least = λ g. ⊎_elim (λ p. itself first g p) (λ m. absurd m) })
kept first (x ∷ xs) = ⊎_elim (λ t. stays first x xs t (kept first xs)) (λ t. gives_way first x xs t (kept x xs)) (cases_Bool (is_no_later first x))

pub earliest_is_least : (xs : List NameFault) (f : NameFault) → earliest None xs ≡ Some f → IsLeast f xs
earliest_is_least [] f e = absurd (none-some f e)
earliest_is_least (x ∷ xs) f e =
    let (found, same, least) = kept x xs in subst (λ g. IsLeast g (x ∷ xs)) (same_Some found f (sym same ∙ e)) least

pub no_earliest : (xs : List NameFault) → earliest None xs ≡ None → (g : NameFault) → Member g xs → ⊥
no_earliest [] e g m = m
no_earliest (x ∷ xs) e g m = let (found, same, least) = kept x xs in none-some found (sym e ∙ same)
