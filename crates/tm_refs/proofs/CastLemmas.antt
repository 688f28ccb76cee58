-- Casts of types as casts of their automata.
use Rattle.std.proofs.Common.{◌≡◌, ℕ, zero, suc, ◌+◌, ◌<◌, ◌≤◌, ◌⊎◌, ◌↔◌, inl, inr, refl, sym, ◌∙◌, ap, subst, Bool, true, false, IsTrue, List, [], ◌∷◌, ◌++◌, length, Option, None, Some, slice_get, arith}
use Rattle.std.specs.Prelude.{◌==◌, IfOk, Result, Ok, Err, is_some}
use Rattle.std.proofs.lemmas.Bool.{both_ways, cases_lt}
use Rattle.std.proofs.lemmas.Option.{slice_get_within}
use Rattle.std.proofs.lemmas.Bool.Decides.{nat_tests}
use Rattle.tm_base.specs.declared.answer.Why.{Why}
use Rattle.tm_base.specs.declared.assume.Assume.{Assume}
use Rattle.tm_base.specs.declared.definition.RefRow.{RefRow}
use Rattle.tm_base.specs.declared.ground.Ground.{Ground}
use Rattle.tm_base.specs.declared.tree.Tree.{Tree}
use Rattle.tm_base.specs.Cells.{Word, fit}
use Rattle.tm_base.specs.Expanded.{Expanded}
use Rattle.tm_base.specs.Layout.{size_of}
use Rattle.tm_base.specs.Profiles.{pointer_size}
use Rattle.tm_base.specs.Reaches.{IsJudged}
use Rattle.tm_base.specs.Shapes.{HasSize}
use Rattle.tm_base.specs.Tables.{Tables, expanded_in, pointee_in, OnRows}
use Rattle.tm_base.specs.Transmutes.{IsSourceWord, Same, Transmutes, holds, is_itself}
use Rattle.tm_base.specs.Trees.{TreeWord}
use Rattle.tm_base.specs.Valid.{Valid}
use Rattle.tm_base.proofs.ValidLemmas.{Valid-grows, Valid-length}
use Rattle.tm_auto.specs.Automata.{AutoWord, Automaton}
use Rattle.tm_layout.specs.Named.{IsRefusedAnswer}
use Rattle.tm_tree.specs.Exact.{IsTreeOf}
use Rattle.tm_refs.specs.declared.pointees.Pointee.{Pointee}
use Rattle.tm_refs.specs.Pointees.{ArePointees, AutoCasts, GoTogether, IsAutomatonOf, IsPointeeAnswer, IsPointeeOf, IsWordOf, pointee_at, pointee_at_place}
use Rattle.tm_refs.proofs.PointeeLemmas.{OnRows-gives, OnRows-of}

is_equal : (x t : ℕ) → x ≡ t → (x == t) ≡ true
is_equal x t e = grind (arith, nat_tests)

equal_is : (x t : ℕ) → (x == t) ≡ true → x ≡ t
equal_is x t e = grind (arith, nat_tests)

module _ (tables : Tables) (keep : Bool) (g : Ground) (full : Tree) (tree : IsTreeOf tables g full) (pruned : Tree)
    (same : (pointer : ℕ) (A : ℕ → ℕ → Bool) (k : Bool) (w : Word) → TreeWord pointer (holds A) k pruned w ↔ TreeWord pointer (holds A) keep full w) where
  -- the words of a type's tree have its size, with private parts or without
  pub pruned-sized : HasSize (pointer_size tables.profile) (size_of (expanded_in tables g)) pruned
  pruned-sized A w h =
      Valid-length (holds A) keep (expanded_in tables g) w ((tree.words A keep w).0 ((same (pointer_size tables.profile) A true w).0 h))

  -- the automaton of the tree is one of the type
  pub automaton-of : (auto : Automaton) → auto.size ≡ size_of (expanded_in tables g) → auto.pointer ≡ pointer_size tables.profile
      → ((A : ℕ → ℕ → Bool) (k : Bool) (w : Word) → TreeWord (pointer_size tables.profile) (holds A) k pruned w ↔ AutoWord (holds A) auto w)
      → IsAutomatonOf tables keep g auto
  automaton-of auto size pointer read = record {
    size = size;
    pointer = pointer;
    words =
        λ A w. (
          λ h. (tree.words A keep w).0 ((same (pointer_size tables.profile) A true w).0 ((read A true w).1 h)),
          λ h. (read A true w).0 ((same (pointer_size tables.profile) A true w).1 ((tree.words A keep w).1 h)),
        );
  }

module _ (tables : Tables) (assume : Assume) (A : ℕ → ℕ → Bool) where
  module _ (s t : Ground) (source target : Automaton) (of_source : IsAutomatonOf tables true s source) (of_target : IsAutomatonOf tables assume.safety t target) where
    abbrev from : Expanded
    from = expanded_in tables s

    abbrev to : Expanded
    to = expanded_in tables t

    word-valid : (w : Word) → IsWordOf source w → IsSourceWord from w
    word-valid w h = Valid-grows (holds is_itself) Same true true (λ x y. equal_is x y) (λ k. k) from w ((of_source.words is_itself w).0 h)

    valid-word : (w : Word) → IsSourceWord from w → IsWordOf source w
    valid-word w h = (of_source.words is_itself w).1 (Valid-grows Same (holds is_itself) true true (λ x y. is_equal x y) (λ k. k) from w h)

    fits-to : (w : Word) → AutoWord (holds A) target (fit w target.size) → Valid (holds A) assume.safety to (fit w (size_of to))
    fits-to w h = (of_target.words A (fit w (size_of to))).0 (subst (λ (n : ℕ). AutoWord (holds A) target (fit w n)) of_target.size h)

    fits-from : (w : Word) → Valid (holds A) assume.safety to (fit w (size_of to)) → AutoWord (holds A) target (fit w target.size)
    fits-from w h = subst (λ (n : ℕ). AutoWord (holds A) target (fit w n)) (sym of_target.size) ((of_target.words A (fit w (size_of to))).1 h)

    -- the values of a type may be taken as those of another where the words of its automaton may
    pub casts-types : AutoCasts A assume.validity source target ↔ Transmutes (holds A) assume from to
    casts-types = (there, back) where
      there : AutoCasts A assume.validity source target → Transmutes (holds A) assume from to
      there (inl none) = inl (λ w h. none w (valid-word w h))
      there (inr (inl (e, every))) = inr (inl (e, λ w h. fits-to w (every w (valid-word w h))))
      there (inr (inr (e, (w, h, f)))) = inr (inr (e, (w, word-valid w h, fits-to w f)))

      back : Transmutes (holds A) assume from to → AutoCasts A assume.validity source target
      back (inl none) = inl (λ w h. none w (word-valid w h))
      back (inr (inl (e, every))) = inr (inl (e, λ w h. fits-from w (every w (word-valid w h))))
      back (inr (inr (e, (w, h, f)))) = inr (inr (e, (w, valid-word w h, fits-from w f)))

  module _ (r t : RefRow) (there : Type 0) (forward : there ↔ Transmutes (holds A) assume (pointee_in tables r) (pointee_in tables t)) where
    -- no value goes forward
    pub none-forward : ¬ there → IsTrue false ↔ GoTogether tables assume (holds A) r t
    none-forward f = (λ h. cc, λ h. absurd (f (forward.1 h.forward)))

    -- forward is enough for a shared target
    pub forward-enough : there → t.mutable ≡ false → IsTrue true ↔ GoTogether tables assume (holds A) r t
    forward-enough h shared = (λ _. record { forward = forward.0 h; backward = λ m. absurd (both_ways _ shared m) }, λ _. refl)

    -- one that is `&mut` wants the way back
    pub with-backward : there → t.mutable ≡ true → (back : Type 0) (b : Bool) → back ↔ Transmutes (holds A) assume (pointee_in tables t) (pointee_in tables r) → IsTrue b ↔ back
        → IsTrue b ↔ GoTogether tables assume (holds A) r t
    with-backward h mutable back b backward is =
        (λ k. record { forward = forward.0 h; backward = λ _. backward.0 (is.0 k) }, λ both. is.1 (backward.1 (both.backward mutable)))

-- what tells a fact of two rows tells it of their numbers
pub OnRows-tells : {X : Type 0} (r t : Option RefRow) (source target : RefRow) (P : RefRow → RefRow → Type 0) → r ≡ Some source → t ≡ Some target → X ↔ P source target → X ↔ OnRows r t P
OnRows-tells r t source target P at_r at_t tells = (λ x. OnRows-of r t source target P at_r at_t (tells.0 x), λ h. tells.1 (OnRows-gives r t source target P at_r at_t h))

-- what is known of two references of a world and their pointees
module _ (tables : Tables) (assume : Assume) (A : ℕ → ℕ → Bool) (pointees : List (Option Pointee)) (are : ArePointees tables assume pointees)
    (r t : ℕ) (source target : RefRow) (at_r : slice_get tables.refs r ≡ Some source) (at_t : slice_get tables.refs t ≡ Some target)
    (from to : Pointee) (is_from : Some from ≡ pointee_at pointees r) (is_to : Some to ≡ pointee_at pointees t) where
  of_from : IsPointeeOf tables assume source.pointee from
  of_from = subst (IsPointeeAnswer tables assume source.pointee) (sym is_from) (are.each r source at_r)

  of_to : IsPointeeOf tables assume target.pointee to
  of_to = subst (IsPointeeAnswer tables assume target.pointee) (sym is_to) (are.each t target at_t)

  pub casts-forward : AutoCasts A assume.validity from.source to.target ↔ Transmutes (holds A) assume (pointee_in tables source) (pointee_in tables target)
  casts-forward = casts-types tables assume A source.pointee target.pointee from.source to.target of_from.source of_to.target

  pub casts-backward : AutoCasts A assume.validity to.source from.target ↔ Transmutes (holds A) assume (pointee_in tables target) (pointee_in tables source)
  casts-backward = casts-types tables assume A target.pointee source.pointee to.source from.target of_to.source of_from.target

-- what is said of a value three times, said once
pub IfOk-three : {X E : Type 0} (result : Result X E) (P Q R S : X → Type 0) → ((x : X) → P x → Q x → R x → S x) → IfOk result P → IfOk result Q → IfOk result R → IfOk result S
IfOk-three (Ok x) P Q R S together p q r = together x p q r
IfOk-three (Err e) P Q R S together p q r = p

pub IfOk-then : {X E : Type 0} (result : Result X E) (P Q : X → Type 0) → ((x : X) → P x → Q x) → IfOk result P → IfOk result Q
IfOk-then (Ok x) P Q onward p = onward x p
IfOk-then (Err e) P Q onward p = p

-- a type of which no type at fault is found is judged
pub unrefused : (tables : Tables) (g : Ground) (found : Option (Why × Ground)) → IsRefusedAnswer tables g found → is_some found ≡ false → IsJudged tables g
unrefused tables g None judged e = judged
unrefused tables g (Some found) first e = cc

slice_get-front : {X : Type 0} (xs ys : List X) (k : ℕ) → k < length xs → slice_get (xs ++ ys) k ≡ slice_get xs k
slice_get-front [] ys k below = absurd (omega arith)
slice_get-front (x ∷ xs) ys zero below = refl
slice_get-front (x ∷ xs) ys (suc k) below = slice_get-front xs ys k (omega arith)

slice_get-last : {X : Type 0} (xs : List X) (x : X) (k : ℕ) → length xs ≡ k → slice_get (xs ++ x ∷ []) k ≡ Some x
slice_get-last [] x zero e = refl
slice_get-last [] x (suc k) e = absurd (omega arith)
slice_get-last (y ∷ xs) x zero e = absurd (omega arith)
slice_get-last (y ∷ xs) x (suc k) e = slice_get-last xs x k (omega arith)

module _ (tables : Tables) (assume : Assume) where
  -- those of the first so many references
  abbrev pub ArePointeesUntil : ℕ → List (Option Pointee) → Type 0
  ArePointeesUntil i pointees = (r : ℕ) (row : RefRow) → r < i → slice_get tables.refs r ≡ Some row → IsPointeeAnswer tables assume row.pointee (pointee_at pointees r)

  -- one more
  pub pointees-more : (i : ℕ) (row : RefRow) (old new : List (Option Pointee)) (pointee : Option Pointee) → slice_get tables.refs i ≡ Some row
      → length old ≡ i → new ≡ old ++ pointee ∷ [] → IsPointeeAnswer tables assume row.pointee pointee → ArePointeesUntil i old → ArePointeesUntil (i + 1) new
  pointees-more i row old new pointee at count pushed answer until r other below e = go (cases_lt r i) where
    go : (r < i) ⊎ (i ≤ r) → IsPointeeAnswer tables assume other.pointee (pointee_at new r)
    go (inl less) =
        subst (λ found. IsPointeeAnswer tables assume other.pointee (pointee_at_place found))
        (sym (ap (λ ps. slice_get ps r) pushed ∙ slice_get-front old (pointee ∷ []) r (omega arith))) (until r other less e)
    go (inr past) =
        let here : i ≡ r = omega arith in
        let same : row ≡ other = cc (at, subst (λ (k : ℕ). slice_get tables.refs k ≡ Some other) (sym here) e) in
        subst (λ found. IsPointeeAnswer tables assume other.pointee (pointee_at_place found))
        (sym (ap (λ ps. slice_get ps r) pushed ∙ slice_get-last old pointee r (count ∙ here)))
        (subst (λ (it : RefRow). IsPointeeAnswer tables assume it.pointee pointee) same answer)

  -- all of them
  pub pointees-all : (i : ℕ) (pointees : List (Option Pointee)) → length tables.refs ≤ i → ArePointeesUntil i pointees → ArePointees tables assume pointees
  pointees-all i pointees past until = record { each = λ r row at. until r row (≤-trans' (slice_get_within tables.refs r row at) past) at } where
    ≤-trans' : {a b c : ℕ} → a < b → b ≤ c → a < c
    ≤-trans' {a} {b} {c} h k = omega arith
