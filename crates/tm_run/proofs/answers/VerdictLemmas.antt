-- What two lists tell that go together item by item: whether all of it is as wished, and that it is the only one.
use Rattle.std.proofs.Common.{◌≡◌, suc, ◌⊎◌, inl, inr, ◌↔◌, ◌∙◌, refl, ap, Bool, true, false, List, [], ◌∷◌, ◌++◌, Contains, arith}
use Rattle.std.specs.List.{All, AllZip, Any, list_all}
use Rattle.std.proofs.lemmas.Bool.{and_parts}
use Rattle.std.proofs.lemmas.List.Elements.{All-cons, All-head, All-nil, All-tail}
use Rattle.tm_ground.proofs.finding.ContainsLemmas.{contains-behind, contains-first}
use Rattle.tm_run.specs.Report.{status_when}
use Rattle.tm_run.specs.declared.status.Status.{Status}
use Rattle.tm_run.specs.declared.status.Status.TheVariants.{AllYes, Mixed}

-- the status tells whether a fact holds of each of some items
pub record HasVerdict {X : Type 0} (P : X → Type 0) (xs : List X) (status : Status) : Type 0 where
  pub two : (status ≡ AllYes) ⊎ (status ≡ Mixed)
  pub all_yes : status ≡ AllYes ↔ All P xs
  pub mixed : status ≡ Mixed ↔ Any (λ x. ¬ P x) xs

module _ {X : Type 0} (P : X → Type 0) where
  Any-later : (x : X) (xs : List X) → Any P xs → Any P (x ∷ xs)
  Any-later x xs (k, y, less, is, p) = (suc k, y, omega (arith, less), is, p)

  -- what fails for some isn't so for each
  none-fails : (xs : List X) → All P xs → Any (λ x. ¬ P x) xs → ⊥
  none-fails xs all (k, x, less, is, not_so) = not_so (rw (is) at (all k x less))

module _ {X Y : Type 0} (R : X → Y → Type 0) where
  pub zip-push : (xs : List X) (ys : List Y) (x : X) (y : Y) → AllZip R xs ys → R x y → AllZip R (xs ++ x ∷ []) (ys ++ y ∷ [])
  zip-push [] [] x y h one = (one, tt)
  zip-push [] (b ∷ ys) x y h one = absurd h
  zip-push (a ∷ xs) [] x y h one = absurd h
  zip-push (a ∷ xs) (b ∷ ys) x y h one = (h.0, zip-push xs ys x y h.1 one)

  -- where each item goes with one alone
  pub zip-same : (xs : List X) (ys zs : List Y) → ((x : X) → Contains xs x → (y z : Y) → R x y → R x z → y ≡ z) → AllZip R xs ys → AllZip R xs zs → ys ≡ zs
  zip-same [] [] [] one h k = refl
  zip-same [] [] (z ∷ zs) one h k = absurd k
  zip-same [] (y ∷ ys) zs one h k = absurd h
  zip-same (x ∷ xs) [] zs one h k = absurd h
  zip-same (x ∷ xs) (y ∷ ys) [] one h k = absurd k
  zip-same (x ∷ xs) (y ∷ ys) (z ∷ zs) one h k =
      let first : y ≡ z = one x (contains-first x xs) y z h.0 k.0 in
      let others : ys ≡ zs = zip-same xs ys zs (λ a i. one a (contains-behind _ xs a i)) h.1 k.1 in
      ap (λ a. a ∷ ys) first ∙ ap (λ bs. z ∷ bs) others

  pub zip-weaker : (S : X → Y → Type 0) → ((x : X) (y : Y) → R x y → S x y) → (xs : List X) (ys : List Y) → AllZip R xs ys → AllZip S xs ys
  zip-weaker S each [] [] h = tt
  zip-weaker S each [] (y ∷ ys) h = absurd h
  zip-weaker S each (x ∷ xs) [] h = absurd h
  zip-weaker S each (x ∷ xs) (y ∷ ys) h = (each x y h.0, zip-weaker S each xs ys h.1)

  -- what holds of each second item
  pub zip-all : (Q : Y → Type 0) → ((x : X) (y : Y) → R x y → Q y) → (xs : List X) (ys : List Y) → AllZip R xs ys → All Q ys
  zip-all Q each xs [] h = All-nil Q
  zip-all Q each [] (y ∷ ys) h = absurd h
  zip-all Q each (x ∷ xs) (y ∷ ys) h = All-cons Q y ys (each x y h.0) (zip-all Q each xs ys h.1)

  module _ (P : X → Type 0) (good : Y → Bool) (means : (x : X) (y : Y) → R x y → good y ≡ true ↔ P x) where
    good-each : (xs : List X) (ys : List Y) → AllZip R xs ys → list_all good ys ≡ true → All P xs
    good-each [] ys h all = All-nil P
    good-each (x ∷ xs) [] h all = absurd h
    good-each (x ∷ xs) (y ∷ ys) h all =
        let both = and_parts (good y) (list_all good ys) all in
        All-cons P x xs ((means x y h.0).0 both.0) (good-each xs ys h.1 both.1)

    each-good : (xs : List X) (ys : List Y) → AllZip R xs ys → All P xs → list_all good ys ≡ true
    each-good xs [] h all = refl
    each-good [] (y ∷ ys) h all = absurd h
    each-good (x ∷ xs) (y ∷ ys) h all =
        let first : good y ≡ true = (means x y h.0).1 (All-head P x xs all) in
        let others = each-good xs ys h.1 (All-tail P x xs all) in
        cc

    bad-some : (xs : List X) (ys : List Y) → AllZip R xs ys → list_all good ys ≡ false → Any (λ x. ¬ P x) xs
    bad-some xs [] h all = cc
    bad-some [] (y ∷ ys) h all = absurd h
    bad-some (x ∷ xs) (y ∷ ys) h all = by (λ rest. bad-some xs ys h.1 rest) (good y) refl
      where
        by : (list_all good ys ≡ false → Any (λ x. ¬ P x) xs) → (b : Bool) → good y ≡ b → Any (λ x. ¬ P x) (x ∷ xs)
        by later true e = let a = all in Any-later (λ x. ¬ P x) x xs (later cc)
        by later false e = (0, x, omega arith, refl, λ holds. let g = (means x y h.0).1 holds in cc)

    pub verdict : (xs : List X) (ys : List Y) → AllZip R xs ys → HasVerdict P xs (status_when (list_all good ys))
    verdict xs ys h = by (list_all good ys) refl
      where
        by : (b : Bool) → list_all good ys ≡ b → HasVerdict P xs (status_when b)
        by true e = record {
          two = inl refl;
          all_yes = (λ k. good-each xs ys h e, λ all. refl);
          mixed = (λ k. cc, λ some. absurd (none-fails P xs (good-each xs ys h e) some));
        }
        by false e = record {
          two = inr refl;
          all_yes = (λ k. cc, λ all. let g = each-good xs ys h all in cc);
          mixed = (λ k. bad-some xs ys h e, λ some. refl);
        }
