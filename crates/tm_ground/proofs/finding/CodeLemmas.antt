-- No two closed types have one code.
use Rattle.std.proofs.Common.{◌≡◌, ℕ, Bool, true, false, refl, sym, ap, ◌∙◌, List, [], ◌∷◌, ◌++◌, map, append_assoc, slice_get, Some, arith}
use Rattle.tm_base.specs.declared.definition.DefId.{DefId}
use Rattle.tm_base.specs.declared.definition.RegionId.{RegionId}
use Rattle.tm_base.specs.declared.ground.Primitive.{Primitive}
use Rattle.tm_base.specs.declared.ground.Primitive.TheVariants.{Bool as the_bool, Char, U8, U16, U32, U64, U128, Usize, I8, I16, I32, I64, I128, Isize, F32, F64}
use Rattle.tm_base.specs.declared.ground.Wrapper.{Wrapper}
use Rattle.tm_base.specs.declared.ground.Wrapper.TheVariants.{Option, MaybeUninit, ManuallyDrop, Wrapping, Cell, UnsafeCell, PhantomData}
use Rattle.tm_names.specs.declared.resolved.Life.{Life}
use Rattle.tm_names.specs.declared.resolved.Open.{Open, Prim, Never, Tuple, Array, NonZero, Wrap, Named, Ref, Param}
use Rattle.tm_ground.specs.Closed.{Closed, Elements, prim, never, tuple, array, nonzero, wrap, named, ref, no_elements, element, as_elements, argument_of, put_in, region_of}
use Rattle.tm_ground.specs.Codes.{number_of_flag, number_of_primitive, number_of_wrapper, codes_of_regions, code_of, code_of_all, codes_of}
use Rattle.tm_ground.proofs.forms.OpenLemmas.{put_in-Prim, put_in-Never, put_in-Tuple, put_in-Array, put_in-NonZero, put_in-Wrap, put_in-Named, put_in-Ref, put_in-Param}

pub all-codes : (cs : List Closed) → code_of_all (as_elements cs) ≡ codes_of cs
unfolding code_of
all-codes [] = refl
all-codes (c ∷ cs) = ap (λ rest. code_of c ++ rest) (all-codes cs)

-- the code of each kind of type with its regions and arguments put in
module _ (regions : List RegionId) (args : List Closed) where
  abbrev code : Open → List ℕ
  code t = code_of (put_in regions args t)

  pub code-Array : (t : Open) (n : ℕ) → code (Array t n) ≡ 3 ∷ n ∷ code t
  unfolding code_of
  code-Array t n = ap code_of (put_in-Array regions args t n)

  pub code-Wrap : (w : Wrapper) (t : Open) → code (Wrap w t) ≡ 5 ∷ number_of_wrapper w ∷ code t
  unfolding code_of
  code-Wrap w t = ap code_of (put_in-Wrap regions args w t)

  pub code-Ref : (life : Life) (mutable : Bool) (t : Open) → code (Ref life mutable t) ≡ 7 ∷ (region_of regions life).0 ∷ number_of_flag mutable ∷ code t
  unfolding code_of
  code-Ref life mutable t = ap code_of (put_in-Ref regions args life mutable t)

  pub code-Tuple : (ts : List Open) → code (Tuple ts) ≡ 2 ∷ codes_of (map (put_in regions args) ts)
  unfolding code_of
  code-Tuple ts = ap code_of (put_in-Tuple regions args ts) ∙ ap (λ rest. 2 ∷ rest) (all-codes (map (put_in regions args) ts))

  pub code-Named : (def : DefId) (lives : List Life) (ts : List Open) → code (Named def lives ts) ≡ 6 ∷ def.0 ∷ codes_of_regions (map (region_of regions) lives) ++ codes_of (map (put_in regions args) ts)
  unfolding code_of
  code-Named def lives ts = ap code_of (put_in-Named regions args def lives ts) ∙ ap (λ rest. 6 ∷ def.0 ∷ codes_of_regions (map (region_of regions) lives) ++ rest) (all-codes (map (put_in regions args) ts))

  pub code-Prim : (p : Primitive) → code (Prim p) ≡ 0 ∷ number_of_primitive p ∷ []
  unfolding code_of
  code-Prim p = ap code_of (put_in-Prim regions args p)

  pub code-Never : code Never ≡ 1 ∷ []
  unfolding code_of
  code-Never = ap code_of (put_in-Never regions args)

  pub code-NonZero : (p : Primitive) → code (NonZero p) ≡ 4 ∷ number_of_primitive p ∷ []
  unfolding code_of
  code-NonZero p = ap code_of (put_in-NonZero regions args p)

  pub code-Param : (k : ℕ) → argument_of args k ≡ never → code (Param k) ≡ 1 ∷ []
  unfolding code_of
  code-Param k e = ap code_of (put_in-Param regions args k ∙ e)

primitives : List Primitive
primitives = the_bool ∷ Char ∷ U8 ∷ U16 ∷ U32 ∷ U64 ∷ U128 ∷ Usize ∷ I8 ∷ I16 ∷ I32 ∷ I64 ∷ I128 ∷ Isize ∷ F32 ∷ F64 ∷ []

primitive-at : (p : Primitive) → slice_get primitives (number_of_primitive p) ≡ Some p
unfolding primitives
primitive-at the_bool = refl
primitive-at Char = refl
primitive-at U8 = refl
primitive-at U16 = refl
primitive-at U32 = refl
primitive-at U64 = refl
primitive-at U128 = refl
primitive-at Usize = refl
primitive-at I8 = refl
primitive-at I16 = refl
primitive-at I32 = refl
primitive-at I64 = refl
primitive-at I128 = refl
primitive-at Isize = refl
primitive-at F32 = refl
primitive-at F64 = refl

same-primitive : (p q : Primitive) → number_of_primitive p ≡ number_of_primitive q → p ≡ q
same-primitive p q e =
    let same : Some p ≡ Some q = sym (primitive-at p) ∙ ap (slice_get primitives) e ∙ primitive-at q in
    cc

wrappers : List Wrapper
wrappers = Option ∷ MaybeUninit ∷ ManuallyDrop ∷ Wrapping ∷ Cell ∷ UnsafeCell ∷ PhantomData ∷ []

wrapper-at : (w : Wrapper) → slice_get wrappers (number_of_wrapper w) ≡ Some w
unfolding wrappers
wrapper-at Option = refl
wrapper-at MaybeUninit = refl
wrapper-at ManuallyDrop = refl
wrapper-at Wrapping = refl
wrapper-at Cell = refl
wrapper-at UnsafeCell = refl
wrapper-at PhantomData = refl

same-wrapper : (v w : Wrapper) → number_of_wrapper v ≡ number_of_wrapper w → v ≡ w
same-wrapper v w e =
    let same : Some v ≡ Some w = sym (wrapper-at v) ∙ ap (slice_get wrappers) e ∙ wrapper-at w in
    cc

same-region : (r s : RegionId) → r.0 ≡ s.0 → r ≡ s
same-region r s e = ap (λ (n : ℕ). (let g : RegionId = record { 0 = n } in g)) e

same-def : (d e : DefId) → d.0 ≡ e.0 → d ≡ e
same-def d e s = ap (λ (n : ℕ). (let g : DefId = record { 0 = n } in g)) s

same-flag : (m k : Bool) → number_of_flag m ≡ number_of_flag k → m ≡ k
same-flag true true e = refl
same-flag false false e = refl
same-flag true false e = absurd (omega (arith, e))
same-flag false true e = absurd (omega (arith, e))

same-regions : (rs ss : List RegionId) (xs ys : List ℕ) → codes_of_regions rs ++ xs ≡ codes_of_regions ss ++ ys → (rs ≡ ss) × (xs ≡ ys)
same-regions [] [] xs ys e = (refl, cc)
same-regions [] (s ∷ ss) xs ys e = cc
same-regions (r ∷ rs) [] xs ys e = cc
same-regions (r ∷ rs) (s ∷ ss) xs ys e =
    let number : r.0 ≡ s.0 = cc in
    let rest : codes_of_regions rs ++ xs ≡ codes_of_regions ss ++ ys = cc in
    let first = same-region r s number in
    let others = same-regions rs ss xs ys rest in
    let one = others.0 in
    (cc, others.1)

-- no code begins with the number behind elements
no-eight : {X : Type 0} (x y : X) (c : Closed) (rest xs : List ℕ) → 8 ∷ xs ≡ code_of c ++ rest → x ≡ y
unfolding code_of
no-eight x y (prim p) rest xs e = cc
no-eight x y _ rest xs e = cc

mutual
  unfolding code_of

  -- where codes and what follows them are one, the types are, and what follows
  pub same-code : (c d : Closed) (xs ys : List ℕ) → code_of c ++ xs ≡ code_of d ++ ys → (c ≡ d) × (xs ≡ ys)
  same-code (prim p) (prim q) xs ys e =
      let number : number_of_primitive p ≡ number_of_primitive q = cc in
      (ap prim (same-primitive p q number), cc)
  same-code never never xs ys e = (refl, cc)
  same-code (tuple cs) (tuple ds) xs ys e =
      let rest : code_of_all cs ++ xs ≡ code_of_all ds ++ ys = cc in
      let (one, others) = same-codes cs ds xs ys rest in
      (ap tuple one, others)
  same-code (array c n) (array d m) xs ys e =
      let length_is : n ≡ m = cc in
      let rest : code_of c ++ xs ≡ code_of d ++ ys = cc in
      let (one, others) = same-code c d xs ys rest in
      (cc, others)
  same-code (nonzero p) (nonzero q) xs ys e =
      let number : number_of_primitive p ≡ number_of_primitive q = cc in
      (ap nonzero (same-primitive p q number), cc)
  same-code (wrap v c) (wrap w d) xs ys e =
      let number : number_of_wrapper v ≡ number_of_wrapper w = cc in
      let wrapper = same-wrapper v w number in
      let rest : code_of c ++ xs ≡ code_of d ++ ys = cc in
      let (one, others) = same-code c d xs ys rest in
      (cc, others)
  same-code (named f rs cs) (named g ss ds) xs ys e =
      let number : f.0 ≡ g.0 = cc in
      let def = same-def f g number in
      let after : (codes_of_regions rs ++ code_of_all cs) ++ xs ≡ (codes_of_regions ss ++ code_of_all ds) ++ ys = cc in
      let (regions, rest) = same-regions rs ss (code_of_all cs ++ xs) (code_of_all ds ++ ys) (sym (append_assoc (codes_of_regions rs) (code_of_all cs) xs) ∙ after ∙ append_assoc (codes_of_regions ss) (code_of_all ds) ys) in
      let (one, others) = same-codes cs ds xs ys rest in
      (cc, others)
  same-code (ref r m c) (ref s k d) xs ys e =
      let number : r.0 ≡ s.0 = cc in
      let region = same-region r s number in
      let flags : number_of_flag m ≡ number_of_flag k = cc in
      let mutable = same-flag m k flags in
      let rest : code_of c ++ xs ≡ code_of d ++ ys = cc in
      let (one, others) = same-code c d xs ys rest in
      (cc, others)
  same-code _ _ xs ys e = cc

  same-codes : (cs ds : Elements) (xs ys : List ℕ) → code_of_all cs ++ xs ≡ code_of_all ds ++ ys → (cs ≡ ds) × (xs ≡ ys)
  same-codes no_elements no_elements xs ys e = (refl, cc)
  same-codes no_elements (element d ds) xs ys e =
      let apart = e ∙ append_assoc (code_of d) (code_of_all ds) ys in
      (no-eight _ _ d _ xs apart, no-eight _ _ d _ xs apart)
  same-codes (element c cs) no_elements xs ys e =
      let apart = sym e ∙ append_assoc (code_of c) (code_of_all cs) xs in
      (no-eight _ _ c _ ys apart, no-eight _ _ c _ ys apart)
  same-codes (element c cs) (element d ds) xs ys e =
      let (one, rest) = same-code c d (code_of_all cs ++ xs) (code_of_all ds ++ ys) (sym (append_assoc (code_of c) (code_of_all cs) xs) ∙ e ∙ append_assoc (code_of d) (code_of_all ds) ys) in
      let (others, after) = same-codes cs ds xs ys rest in
      (cc, after)

-- two types of one code are one
pub one-code : (c d : Closed) → code_of c ≡ code_of d → c ≡ d
one-code c d e = (same-code c d [] [] (ap (λ xs. xs ++ []) e)).0
