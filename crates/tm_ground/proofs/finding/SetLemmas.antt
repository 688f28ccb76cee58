-- Where a type stands among types, by the place of its code among their codes.
use Rattle.std.proofs.Common.{◌≡◌, ℕ, zero, suc, ◌+◌, ◌<◌, Bool, true, false, ◌||◌, refl, sym, ap, subst, ◌∙◌, List, [], ◌∷◌, ◌++◌, map, length, Option, Some, None, IfSome, IfNone, is_some, slice_get, position, Contains, get_or, take, arith, bytes_eq, length-append, option_to_list, IsSome, ◌↔◌}
use Rattle.std.proofs.lemmas.Slice.Eq.{bytes_eq-Decides}
use Rattle.std.proofs.lemmas.Bool.{or_parts}
use Rattle.std.proofs.lemmas.List.{map-append, length-map, take_more}
use Rattle.std.proofs.lemmas.List.Quantifiers.{position-Some}
use Rattle.std.specs.List.{list_any}
use Rattle.indexmap.specs.IndexSet.{insert_key}
use Rattle.tm_base.specs.Whole.{AreDistinct}
use Rattle.tm_names.specs.declared.resolved.Open.{Open}
use Rattle.tm_ground.specs.declared.code.Code.{Code}
use Rattle.tm_ground.specs.Closed.{Closed, closed}
use Rattle.tm_ground.specs.Codes.{AreCodes, code_of}
use Rattle.tm_ground.specs.Sets.{closed_types}
use Rattle.tm_ground.proofs.finding.CodeLemmas.{one-code}

-- a comparison of codes, and their numbers
abbrev pub are_equal : Code → Code → Bool
are_equal a b = bytes_eq a.numbers.items b.numbers.items

abbrev pub numbers_in : List Code → List (List ℕ)
numbers_in = map (λ code. code.numbers.items)

get-within : {X Y : Type 0} (f : X → Y) (xs : List X) (i : ℕ) (d : X) → i < length xs → slice_get (map f xs) i ≡ Some (f (get_or xs i d))
get-within f [] i d h = absurd (omega (arith, h))
get-within f (x ∷ xs) zero d h = refl
get-within f (x ∷ xs) (suc i) d h = get-within f xs i d (omega (arith, h))

module _ (code : Code) where
  sound : (other : Code) → are_equal code other ≡ true → other.numbers.items ≡ code.numbers.items
  sound other h = sym ((bytes_eq-Decides code.numbers.items other.numbers.items).0 h)

  complete : (other : Code) → other.numbers.items ≡ code.numbers.items → are_equal code other ≡ true
  complete other e = (bytes_eq-Decides code.numbers.items other.numbers.items).1 (sym e)

  pub code-found : (codes : List Code) (place : Option ℕ) → place ≡ position (are_equal code) codes → IfSome place (λ i. slice_get (numbers_in codes) i ≡ Some code.numbers.items)
  code-found codes None h = tt
  code-found codes (Some i) h =
      let at = position-Some (are_equal code) codes i code (sym h) in
      get-within (λ (c : Code). c.numbers.items) codes i code at.0 ∙ ap (λ (ns : List ℕ). Some ns) (sound (get_or codes i code) at.1)

  -- the first code is this one, or it is among the others
  elsewhere : (c : Code) (codes : List Code) (k : ℕ) → k < length (numbers_in (c ∷ codes)) → get_or (numbers_in (c ∷ codes)) k code.numbers.items ≡ code.numbers.items → are_equal code c ≡ false → Contains (numbers_in codes) code.numbers.items
  elsewhere c codes zero l e a =
      let t = complete c e in
      cc
  elsewhere c codes (suc k) l e a = (k, omega (arith, l), e)

  none-equal : (codes : List Code) → list_any (are_equal code) codes ≡ false → ¬ Contains (numbers_in codes) code.numbers.items
  none-equal [] h = λ e. omega (arith, e.1)
  none-equal (c ∷ codes) h =
      let parts = or_parts (are_equal code c) (list_any (are_equal code) codes) h in
      λ e. none-equal codes parts.1 (elsewhere c codes e.0 e.1 e.2 parts.0)

  pub code-absent : (codes : List Code) (place : Option ℕ) → is_some place ≡ list_any (are_equal code) codes → IfNone place (¬ Contains (numbers_in codes) code.numbers.items)
  code-absent codes None h = none-equal codes (sym h)
  code-absent codes (Some i) h = tt

  some-equal : (codes : List Code) → list_any (are_equal code) codes ≡ true → Contains (numbers_in codes) code.numbers.items
  some-equal [] h = cc
  some-equal (c ∷ codes) h = by (are_equal code c) refl h (some-equal codes)
    where
      by : (b : Bool) → are_equal code c ≡ b → (b || list_any (are_equal code) codes) ≡ true → (list_any (are_equal code) codes ≡ true → Contains (numbers_in codes) code.numbers.items) → Contains (numbers_in (c ∷ codes)) code.numbers.items
      by true e i rest = (0, omega arith, sound c e)
      by false e i rest =
          let (j, l, s) = rest i in
          (suc j, omega (arith, l), s)

  -- a code that isn't there goes last
  pub code-new : (codes : List Code) → ¬ Contains (numbers_in codes) code.numbers.items → insert_key are_equal codes code ≡ codes ++ code ∷ []
  code-new codes absent = by (list_any (are_equal code) codes) refl
    where
      by : (b : Bool) → list_any (are_equal code) codes ≡ b → insert_key are_equal codes code ≡ codes ++ code ∷ []
      by true e = absurd (absent (some-equal codes e))
      by false e = rw e refl

-- a place among codes is the place of the type
pub type-at : (types : List Closed) (i : ℕ) (c : Closed) → slice_get (map code_of types) i ≡ Some (code_of c) → slice_get types i ≡ Some c
type-at [] i c h = cc
type-at (d ∷ types) zero c h =
    let codes : code_of d ≡ code_of c = cc in
    ap (λ (x : Closed). Some x) (one-code d c codes)
type-at (d ∷ types) (suc i) c h = type-at types i c h

pub type-coded : (types : List Closed) (c : Closed) → Contains types c → Contains (map code_of types) (code_of c)
type-coded [] c (k, l, e) = absurd (omega (arith, l))
type-coded (d ∷ types) c (zero, l, e) = (0, omega arith, ap code_of e)
type-coded (d ∷ types) c (suc k, l, e) =
    let (j, m, s) = type-coded types c (k, omega (arith, l), e) in
    (suc j, omega (arith, m), s)

-- one more type with its code
pub codes-more : (codes : List Code) (types : List Closed) (code : Code) (c : Closed) → AreCodes codes types → code.numbers.items ≡ code_of c → AreCodes (codes ++ code ∷ []) (types ++ c ∷ [])
codes-more codes types code c a e =
    map-append (λ (x : Code). x.numbers.items) codes (code ∷ [])
    ∙ ap (λ ns. ns ++ code.numbers.items ∷ []) a
    ∙ ap (λ (n : List ℕ). map code_of types ++ n ∷ []) e
    ∙ sym (map-append code_of types (c ∷ []))

pub codes-added : (codes : List Code) (types : List Open) (code : Code) (ty : Open) → AreCodes codes (closed_types types) → code.numbers.items ≡ code_of (closed ty) → AreCodes (codes ++ code ∷ []) (closed_types (types ++ ty ∷ []))
codes-added codes types code ty a e =
    codes-more codes (closed_types types) code (closed ty) a e ∙ ap (map code_of) (sym (map-append closed types (ty ∷ [])))

-- without the last code
last-apart : (xs ys : List Code) (x y : Code) → xs ++ x ∷ [] ≡ ys ++ y ∷ [] → xs ≡ ys
last-apart [] [] x y e = refl
last-apart [] (b ∷ ys) x y e = absurd (omega (arith, ap length e, length-append ys (y ∷ [])))
last-apart (a ∷ xs) [] x y e = absurd (omega (arith, ap length e, length-append xs (x ∷ [])))
last-apart (a ∷ xs) (b ∷ ys) x y e =
    let first : a ≡ b = cc in
    let rest : xs ++ x ∷ [] ≡ ys ++ y ∷ [] = cc in
    let others = last-apart xs ys x y rest in
    cc

no-last : {new old : List Code} → IsSome {T = Code} None → new ≡ old
no-last h = cc

pub without-last : (all old new : List Code) (code : Code) (last : Option Code) → all ≡ old ++ code ∷ [] → all ≡ new ++ option_to_list last → IsSome last ↔ (0 < length all) → new ≡ old
without-last all old new code None e p some = no-last (some.1 (omega (arith, ap length e, length-append old (code ∷ []))))
without-last all old new code (Some last) e p some = last-apart new old last code (sym p ∙ e)

-- where a type stands, by its code
module _ (types : List Closed) (c : Closed) (numbers : List ℕ) (coded : numbers ≡ code_of c) where
  pub place-found : (place : Option ℕ) → IfSome place (λ k. slice_get (map code_of types) k ≡ Some numbers) → IfSome place (λ k. slice_get types k ≡ Some c)
  place-found None h = tt
  place-found (Some k) h = type-at types k c (h ∙ ap (λ (ns : List ℕ). Some ns) coded)

  pub not-there : ¬ Contains (map code_of types) numbers → ¬ Contains types c
  not-there absent h = absent (subst (λ ns. Contains (map code_of types) ns) (sym coded) (type-coded types c h))

  pub place-absent : (place : Option ℕ) → IfNone place (¬ Contains (map code_of types) numbers) → IfNone place (¬ Contains types c)
  place-absent None h = not-there h
  place-absent (Some k) h = tt

-- a type whose code is there is there
pub coded-type : (types : List Closed) (c : Closed) → Contains (map code_of types) (code_of c) → Contains types c
coded-type [] c (k, l, e) = absurd (omega (arith, l))
coded-type (d ∷ types) c (zero, l, e) = (0, omega arith, one-code d c e)
coded-type (d ∷ types) c (suc k, l, e) =
    let (j, m, s) = coded-type types c (k, omega (arith, l), e) in
    (suc j, omega (arith, m), s)

first-contains : (types : List Open) (i : ℕ) (c : Closed) → Contains (closed_types (take i types)) c → (j : ℕ) × (j < i) × (get_or (closed_types types) j c ≡ c)
first-contains types zero c (k, l, e) = absurd (omega (arith, l))
first-contains [] (suc i) c (k, l, e) = absurd (omega (arith, l))
first-contains (t ∷ types) (suc i) c (zero, l, e) = (0, omega arith, e)
first-contains (t ∷ types) (suc i) c (suc k, l, e) =
    let (j, m, s) = first-contains types i c (k, omega (arith, l), e) in
    (suc j, omega (arith, m), s)

closed-at : (types : List Open) (i : ℕ) (t : Open) → i < length types → t ≡ get_or types i t → closed t ≡ get_or (closed_types types) i (closed t)
closed-at [] i t l e = absurd (omega (arith, l))
closed-at (u ∷ types) zero t l e = ap closed e
closed-at (u ∷ types) (suc i) t l e = closed-at types i t (omega (arith, l)) e

-- of distinct types the code of each is new behind the codes of those before it
module _ (types : List Open) (i : ℕ) (t : Open) (distinct : AreDistinct (closed_types types)) (l : i < length types) (e : t ≡ get_or types i t)
    (codes : List Code) (code : Code) (before : AreCodes codes (closed_types (take i types))) (coded : code.numbers.items ≡ code_of (closed t)) where
  new-type : ¬ Contains (closed_types (take i types)) (closed t)
  new-type = λ h.
      let (j, m, f) = first-contains types i (closed t) h in
      distinct.apart j i (closed t) m (omega (arith, l, length-map types closed)) (f ∙ closed-at types i t l e)

  new-code : ¬ Contains (numbers_in codes) code.numbers.items
  new-code = λ h. new-type (coded-type _ (closed t) (subst (λ ns. Contains (map code_of (closed_types (take i types))) ns) coded (subst (λ all. Contains all code.numbers.items) before h)))

  pub codes-next : (new : List Code) → new ≡ insert_key are_equal codes code → AreCodes new (closed_types (take (i + 1) types))
  codes-next new p =
      let first : take (i + 1) types ≡ take i types ++ t ∷ [] = take_more types i t l ∙ ap (λ u. take i types ++ u ∷ []) (sym e) in
      rw (p, code-new code codes new-code, first) (codes-added codes (take i types) code t before coded)
