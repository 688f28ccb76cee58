-- What the numbers of a type are at each kind of type, and that its parts have numbers too.
use Rattle.std.proofs.Common.{◌≡◌, ℕ, ◌+◌, ◌<◌, Bool, true, refl, sym, ap, subst, ◌∙◌, List, [], ◌∷◌, ◌++◌, map, length, get_or, take, Contains, Some, slice_get, arith, zero, suc, Result, IfOk}
use Rattle.std.proofs.lemmas.List.{map-append, take_more}
use Rattle.std.specs.List.{AllZip, flat_map}
use Rattle.std.proofs.lemmas.List.Elements.{Contains-append_left, Contains-append_right}
use Rattle.tm_base.specs.declared.definition.DefId.{DefId}
use Rattle.tm_base.specs.declared.definition.RegionId.{RegionId}
use Rattle.tm_base.specs.declared.cell.RefId.{RefId}
use Rattle.tm_base.specs.declared.ground.Ground.{Ground}
use Rattle.tm_base.specs.declared.ground.Ground as ground_is
use Rattle.tm_base.specs.declared.ground.NamedId.{NamedId}
use Rattle.tm_base.specs.declared.memory.Memory.{Memory}
use Rattle.tm_base.specs.declared.ground.Primitive.{Primitive}
use Rattle.tm_base.specs.declared.ground.Wrapper.{Wrapper}
use Rattle.tm_names.specs.declared.resolved.Life.{Life}
use Rattle.tm_names.specs.declared.resolved.Open.{Open, Prim, Never, Tuple, Array, NonZero, Wrap, Named, Ref, Param}
use Rattle.tm_ground.specs.Closed.{Closed, Elements, no_elements, element, tuple, named, ref, never, as_elements, argument_of, listed, put_in}
use Rattle.tm_ground.specs.Limits.{is_named, is_ref}
use Rattle.tm_ground.specs.Numbered.{HasNumbers, HaveNumbers, IsNumbered, EachNumbered}
use Rattle.tm_ground.specs.Occurs.{parts_in}
use Rattle.tm_ground.proofs.finding.ContainsLemmas.{contains-first}
use Rattle.tm_ground.proofs.finding.GrowLemmas.{within-trans}
use Rattle.tm_ground.proofs.finding.OccursLemmas.{kept-part, kept-itself}
use Rattle.tm_ground.proofs.forms.OpenLemmas.{listed-as_elements, put_in-Tuple, put_in-Array, put_in-Wrap, put_in-Named, put_in-Ref}

module _ (rows refs : List Closed) where
  pub part-has : (c d : Closed) → HasNumbers rows refs c → Contains (parts_in c) d → HasNumbers rows refs d
  part-has c d h i = record {
    few_rows = h.few_rows;
    few_refs = h.few_refs;
    rows_within = within-trans _ _ _ (kept-part is_named c d i) h.rows_within;
    refs_within = within-trans _ _ _ (kept-part is_ref c d i) h.refs_within;
  }

  named-there : (c : Closed) → HasNumbers rows refs c → is_named c ≡ true → Contains rows c
  named-there c h t = h.rows_within.within c (kept-itself is_named c t)

  ref-there : (c : Closed) → HasNumbers rows refs c → is_ref c ≡ true → Contains refs c
  ref-there c h t = h.refs_within.within c (kept-itself is_ref c t)

  pub each-numbered : (cs : Elements) (gs : List Ground) → AllZip (IsNumbered rows refs) (listed cs) gs → EachNumbered rows refs cs gs
  unfolding IsNumbered
  each-numbered no_elements [] h = refl
  each-numbered no_elements (g ∷ gs) h = absurd h
  each-numbered (element c cs) [] h = absurd h
  each-numbered (element c cs) (g ∷ gs) h = (h.0, each-numbered cs gs h.1)

  pub tuple-numbered : (cs : List Closed) (gs : List Ground) → 0 < length cs → AllZip (IsNumbered rows refs) cs gs → IsNumbered rows refs (tuple (as_elements cs)) (ground_is.Tuple gs)
  unfolding IsNumbered
  tuple-numbered [] gs l h = absurd (omega (arith, l))
  tuple-numbered (c ∷ cs) [] l h = absurd h
  tuple-numbered (c ∷ cs) (g ∷ gs) l h =
      (g, gs, refl, h.0, each-numbered (as_elements cs) gs (subst (λ ds. AllZip (IsNumbered rows refs) ds gs) (sym (listed-as_elements cs)) h.1))

  pub unit-numbered : (cs : List Closed) → length cs ≡ 0 → IsNumbered rows refs (tuple (as_elements cs)) ground_is.Unit
  unfolding IsNumbered
  unit-numbered [] e = refl
  unit-numbered (c ∷ cs) e = absurd (omega (arith, e))

  -- a place in a list is the number of the type there
  pub named-number : (c : Closed) (k : ℕ) → is_named c ≡ true → slice_get rows k ≡ Some c → IsNumbered rows refs c (ground_is.Named (record { 0 = k }))
  unfolding IsNumbered
  named-number (named def regions args) k t at = (record { 0 = k }, refl, at)
  named-number _ k t at = cc

  pub ref-number : (c : Closed) (k : ℕ) → is_ref c ≡ true → slice_get refs k ≡ Some c → IsNumbered rows refs c (ground_is.Ref (record { 0 = k }))
  unfolding IsNumbered
  ref-number (ref region mutable c) k t at = (record { 0 = k }, refl, at)
  ref-number _ k t at = cc

  -- a type with its regions and arguments put in
  module _ (regions : List RegionId) (args : List Closed) where
    abbrev Numbers : Open → Ground → Type 0
    Numbers t g = IsNumbered rows refs (put_in regions args t) g

    pub numbers-Prim : (p : Primitive) → Numbers (Prim p) (ground_is.Prim p)
    unfolding put_in IsNumbered
    numbers-Prim p = refl

    pub numbers-Never : Numbers Never ground_is.Never
    unfolding put_in IsNumbered
    numbers-Never = refl

    pub numbers-Param : (k : ℕ) → argument_of args k ≡ never → Numbers (Param k) ground_is.Never
    unfolding put_in IsNumbered
    numbers-Param k e = rw e refl

    pub numbers-NonZero : (p : Primitive) → Numbers (NonZero p) (ground_is.NonZero p)
    unfolding put_in IsNumbered
    numbers-NonZero p = refl

    pub numbers-Array : (t : Open) (n : ℕ) (g : Ground) → Numbers t g → Numbers (Array t n) (ground_is.Array g n)
    unfolding IsNumbered
    numbers-Array t n g h = rw (put_in-Array regions args t n) (g, refl, h)

    pub numbers-Wrap : (w : Wrapper) (t : Open) (g : Ground) → Numbers t g → Numbers (Wrap w t) (ground_is.Wrap w g)
    unfolding IsNumbered
    numbers-Wrap w t g h = rw (put_in-Wrap regions args w t) (g, refl, h)

    pub numbers-Named : (def : DefId) (lives : List Life) (ts : List Open) (id : NamedId) → slice_get rows id.0 ≡ Some (put_in regions args (Named def lives ts)) → Numbers (Named def lives ts) (ground_is.Named id)
    unfolding IsNumbered
    numbers-Named def lives ts id h =
        let same = put_in-Named regions args def lives ts in
        subst (λ c. IsNumbered rows refs c (ground_is.Named id)) (sym same) (id, refl, h ∙ ap (λ (c : Closed). Some c) same)

    pub numbers-Ref : (life : Life) (mutable : Bool) (t : Open) (r : RefId) → slice_get refs r.0 ≡ Some (put_in regions args (Ref life mutable t)) → Numbers (Ref life mutable t) (ground_is.Ref r)
    unfolding IsNumbered
    numbers-Ref life mutable t r h =
        let same = put_in-Ref regions args life mutable t in
        subst (λ c. IsNumbered rows refs c (ground_is.Ref r)) (sym same) (r, refl, h ∙ ap (λ (c : Closed). Some c) same)

    abbrev Has : Open → Type 0
    Has t = HasNumbers rows refs (put_in regions args t)

    pub has-Array : (t : Open) (n : ℕ) → Has (Array t n) → Has t
    has-Array t n h = part-has _ _ h (rw (put_in-Array regions args t n) (contains-first _ []))

    pub has-Wrap : (w : Wrapper) (t : Open) → Has (Wrap w t) → Has t
    has-Wrap w t h = part-has _ _ h (rw (put_in-Wrap regions args w t) (contains-first _ []))

    pub has-pointee : (life : Life) (mutable : Bool) (t : Open) → Has (Ref life mutable t) → Has t
    has-pointee life mutable t h = part-has _ _ h (rw (put_in-Ref regions args life mutable t) (contains-first _ []))

    pub has-Tuple : (ts : List Open) → Has (Tuple ts) → HaveNumbers rows refs (map (put_in regions args) ts)
    has-Tuple ts h =
        let parts : parts_in (put_in regions args (Tuple ts)) ≡ map (put_in regions args) ts = ap parts_in (put_in-Tuple regions args ts) ∙ listed-as_elements _ in
        record { each = λ c i. part-has _ c h (subst (λ xs. Contains xs c) (sym parts) i) }

    pub has-Named : (def : DefId) (lives : List Life) (ts : List Open) → Has (Named def lives ts) → Contains rows (put_in regions args (Named def lives ts))
    has-Named def lives ts h = named-there _ h (ap is_named (put_in-Named regions args def lives ts))

    pub has-Ref : (life : Life) (mutable : Bool) (t : Open) → Has (Ref life mutable t) → Contains refs (put_in regions args (Ref life mutable t))
    has-Ref life mutable t h = ref-there _ h (ap is_ref (put_in-Ref regions args life mutable t))

-- one pair more
pub all_zip-push : {A B : Type 0} (R : A → B → Type 0) (xs : List A) (ys : List B) (x : A) (y : B) → AllZip R xs ys → R x y → AllZip R (xs ++ x ∷ []) (ys ++ y ∷ [])
all_zip-push R [] [] x y h r = (r, tt)
all_zip-push R [] (b ∷ ys) x y h r = absurd h
all_zip-push R (a ∷ xs) [] x y h r = absurd h
all_zip-push R (a ∷ xs) (b ∷ ys) x y h r = (h.0, all_zip-push R xs ys x y h.1 r)

-- the items that are numbered so far, with one more
pub zip-more : {X B : Type 0} (R : X → B → Type 0) (xs : List X) (i : ℕ) (ys news : List B) (x : X) (y : B) → i < length xs → x ≡ get_or xs i x → AllZip R (take i xs) ys → R x y → news ≡ ys ++ y ∷ [] → AllZip R (take (i + 1) xs) news
zip-more R xs i ys news x y l e h r p =
    let first : take (i + 1) xs ≡ take i xs ++ x ∷ [] = take_more xs i x l ∙ ap (λ z. take i xs ++ z ∷ []) (sym e) in
    rw (first, p) (all_zip-push R (take i xs) ys x y h r)

pub numbered-more : {X A B : Type 0} (R : A → B → Type 0) (f : X → A) (xs : List X) (i : ℕ) (ys news : List B) (x : X) (y : B) → i < length xs → x ≡ get_or xs i x → AllZip R (map f (take i xs)) ys → R (f x) y → news ≡ ys ++ y ∷ [] → AllZip R (map f (take (i + 1) xs)) news
numbered-more R f xs i ys news x y l e h r p =
    let first : take (i + 1) xs ≡ take i xs ++ x ∷ [] = take_more xs i x l ∙ ap (λ z. take i xs ++ z ∷ []) (sym e) in
    let types : map f (take (i + 1) xs) ≡ map f (take i xs) ++ f x ∷ [] = ap (map f) first ∙ map-append f (take i xs) (x ∷ []) in
    rw (types, p) (all_zip-push R (map f (take i xs)) ys (f x) y h r)

-- what the item at a place gives is among what all give
pub contains-each : {X : Type 0} (f : X → List Closed) (xs : List X) (i : ℕ) (x : X) (c : Closed) → i < length xs → x ≡ get_or xs i x → Contains (f x) c → Contains (flat_map f xs) c
contains-each f [] i x c l e h = absurd (omega (arith, l))
contains-each f (y ∷ ys) zero x c l e h = Contains-append_left (f y) (flat_map f ys) c (subst (λ z. Contains (f z) c) e h)
contains-each f (y ∷ ys) (suc i) x c l e h = Contains-append_right (f y) (flat_map f ys) c (contains-each f ys i x c (omega (arith, l)) e h)

-- what an item gives is among what all give
pub contains-map : {X Y : Type 0} (f : X → Y) (xs : List X) (i : ℕ) (x : X) → i < length xs → x ≡ get_or xs i x → Contains (map f xs) (f x)
contains-map f [] i x l e = absurd (omega (arith, l))
contains-map f (y ∷ xs) zero x l e = (0, omega arith, ap f (sym e))
contains-map f (y ∷ xs) (suc i) x l e =
    let (k, m, s) = contains-map f xs i x (omega (arith, l)) e in
    (suc k, omega (arith, m), s)

pub numbers-result : (rows refs : List Closed) (c d : Closed) (r : Result Ground Memory) → c ≡ d → IfOk r (λ g. IsNumbered rows refs c g) → IfOk r (λ g. IsNumbered rows refs d g)
numbers-result rows refs c d r e h = subst (λ x. IfOk r (λ g. IsNumbered rows refs x g)) e h
