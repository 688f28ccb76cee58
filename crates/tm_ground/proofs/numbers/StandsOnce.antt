-- A type by its numbers stands for one closed type alone.
use Rattle.std.proofs.Common.{◌≡◌, ℕ, refl, sym, ap, subst, ◌∙◌, List, [], ◌∷◌, Some, slice_get, arith}
use Rattle.tm_base.specs.declared.definition.NamedRow.{NamedRow}
use Rattle.tm_base.specs.declared.definition.RefRow.{RefRow}
use Rattle.tm_base.specs.declared.ground.Ground.{Ground, out-Ground}
use Rattle.tm_base.specs.declared.ground.Ground.TheOpen.{Ground-F}
use Rattle.tm_base.specs.declared.ground.Ground.TheVariants as ground_is
use Rattle.tm_ground.specs.Closed.{Closed, Elements, prim, never, tuple, array, nonzero, wrap, named, ref, no_elements, element}
use Rattle.tm_ground.specs.Belongs.{StandsFor, EachStandsFor}

-- one level of a type
abbrev level_tag : Ground-F Ground → ℕ
level_tag (Ground-F.Prim p) = 0
level_tag Ground-F.Never = 1
level_tag Ground-F.Unit = 2
level_tag (Ground-F.Tuple gs) = 2
level_tag (Ground-F.Array g n) = 4
level_tag (Ground-F.Named id) = 5
level_tag (Ground-F.NonZero p) = 6
level_tag (Ground-F.Wrap w g) = 7
level_tag (Ground-F.Ref r) = 8

abbrev closed_tag : Closed → ℕ
closed_tag (prim p) = 0
closed_tag never = 1
closed_tag (tuple cs) = 2
closed_tag (array c n) = 4
closed_tag (named def rs args) = 5
closed_tag (nonzero p) = 6
closed_tag (wrap w c) = 7
closed_tag (ref r m c) = 8

module _ (rows : List NamedRow) (refs : List RefRow) where
  tag-same : (c : Closed) (g : Ground) → StandsFor rows refs c g → level_tag (out-Ground g) ≡ closed_tag c
  unfolding StandsFor
  tag-same (prim p) g h = rw (h, ground_is.outs-Prim p) refl
  tag-same never g h = rw (h, ground_is.outs-Never) refl
  tag-same (tuple no_elements) g h = rw (h, ground_is.outs-Unit) refl
  tag-same (tuple (element c cs)) g (x, xs, e, a, b) = rw (e, ground_is.outs-Tuple (x ∷ xs)) refl
  tag-same (array c n) g (x, e, a) = rw (e, ground_is.outs-Array x n) refl
  tag-same (nonzero p) g h = rw (h, ground_is.outs-NonZero p) refl
  tag-same (wrap w c) g (x, e, a) = rw (e, ground_is.outs-Wrap w x) refl
  tag-same (named def rs args) g (id, e, row, at, a, b, given) = rw (e, ground_is.outs-Named id) refl
  tag-same (ref r m c) g (x, e, row, at, a, b, points) = rw (e, ground_is.outs-Ref x) refl

  same-tags : (c d : Closed) (g : Ground) → StandsFor rows refs c g → StandsFor rows refs d g → closed_tag c ≡ closed_tag d
  same-tags c d g h i = sym (tag-same c g h) ∙ tag-same d g i

  mutual
    unfolding StandsFor

    stands-once : (c d : Closed) (g : Ground) → StandsFor rows refs c g → StandsFor rows refs d g → closed_tag c ≡ closed_tag d → c ≡ d
    stands-once (prim p) (prim q) g h i t =
        let e : Ground-F.Prim p ≡ Ground-F.Prim q = sym (ground_is.outs-Prim p) ∙ ap out-Ground (sym h ∙ i) ∙ ground_is.outs-Prim q in
        cc
    stands-once never never g h i t = refl
    stands-once (tuple no_elements) (tuple no_elements) g h i t = refl
    stands-once (tuple no_elements) (tuple (element d ds)) g h (y, ys, f, p, q) t =
        let s : Ground-F.Unit ≡ Ground-F.Tuple (y ∷ ys) = sym ground_is.outs-Unit ∙ ap out-Ground (sym h ∙ f) ∙ ground_is.outs-Tuple (y ∷ ys) in
        cc
    stands-once (tuple (element c cs)) (tuple no_elements) g (x, xs, e, a, b) i t =
        let s : Ground-F.Unit ≡ Ground-F.Tuple (x ∷ xs) = sym ground_is.outs-Unit ∙ ap out-Ground (sym i ∙ e) ∙ ground_is.outs-Tuple (x ∷ xs) in
        cc
    stands-once (tuple (element c cs)) (tuple (element d ds)) g (x, xs, e, a, b) (y, ys, f, p, q) t =
        let s : Ground-F.Tuple (x ∷ xs) ≡ Ground-F.Tuple (y ∷ ys) = sym (ground_is.outs-Tuple (x ∷ xs)) ∙ ap out-Ground (sym e ∙ f) ∙ ground_is.outs-Tuple (y ∷ ys) in
        let one : y ≡ x = cc in
        let rest : ys ≡ xs = cc in
        let p' : StandsFor rows refs d x = subst (λ z. StandsFor rows refs d z) one p in
        let first = stands-once c d x a p' (same-tags c d x a p') in
        let others = each-once cs ds xs b (subst (λ zs. EachStandsFor rows refs ds zs) rest q) in
        cc
    stands-once (array c n) (array d m) g (x, e, a) (y, f, b) t =
        let s : Ground-F.Array x n ≡ Ground-F.Array y m = sym (ground_is.outs-Array x n) ∙ ap out-Ground (sym e ∙ f) ∙ ground_is.outs-Array y m in
        let one : y ≡ x = cc in
        let b' : StandsFor rows refs d x = subst (λ z. StandsFor rows refs d z) one b in
        let first = stands-once c d x a b' (same-tags c d x a b') in
        cc
    stands-once (nonzero p) (nonzero q) g h i t =
        let e : Ground-F.NonZero p ≡ Ground-F.NonZero q = sym (ground_is.outs-NonZero p) ∙ ap out-Ground (sym h ∙ i) ∙ ground_is.outs-NonZero q in
        cc
    stands-once (wrap w c) (wrap v d) g (x, e, a) (y, f, b) t =
        let s : Ground-F.Wrap w x ≡ Ground-F.Wrap v y = sym (ground_is.outs-Wrap w x) ∙ ap out-Ground (sym e ∙ f) ∙ ground_is.outs-Wrap v y in
        let one : y ≡ x = cc in
        let b' : StandsFor rows refs d x = subst (λ z. StandsFor rows refs d z) one b in
        let first = stands-once c d x a b' (same-tags c d x a b') in
        cc
    stands-once (named def rs cs) (named other ss ds) g (x, e, row, at, a, b, given) (y, f, row', there, p, q, given') t =
        let u : Ground-F.Named x ≡ Ground-F.Named y = sym (ground_is.outs-Named x) ∙ ap out-Ground (sym e ∙ f) ∙ ground_is.outs-Named y in
        let one : x ≡ y = cc in
        let found : Some row ≡ Some row' = sym at ∙ ap (λ z. slice_get rows z.0) one ∙ there in
        let same : row' ≡ row = cc in
        let args = each-once cs ds row.args given (subst (λ z. EachStandsFor rows refs ds z.args) same given') in
        let defs : def ≡ other = sym a ∙ ap (λ (z : NamedRow). z.def) (sym same) ∙ p in
        let regions : rs ≡ ss = sym b ∙ ap (λ (z : NamedRow). z.regions) (sym same) ∙ q in
        cc
    stands-once (ref r m c) (ref s k d) g (x, e, row, at, a, b, points) (y, f, row', there, p, q, points') t =
        let u : Ground-F.Ref x ≡ Ground-F.Ref y = sym (ground_is.outs-Ref x) ∙ ap out-Ground (sym e ∙ f) ∙ ground_is.outs-Ref y in
        let one : x ≡ y = cc in
        let found : Some row ≡ Some row' = sym at ∙ ap (λ z. slice_get refs z.0) one ∙ there in
        let same : row' ≡ row = cc in
        let pointed : StandsFor rows refs d row.pointee = subst (λ (z : RefRow). StandsFor rows refs d z.pointee) same points' in
        let first = stands-once c d row.pointee points pointed (same-tags c d row.pointee points pointed) in
        let region : r ≡ s = sym a ∙ ap (λ (z : RefRow). z.region) (sym same) ∙ p in
        let mutable : m ≡ k = sym b ∙ ap (λ (z : RefRow). z.mutable) (sym same) ∙ q in
        cc
    stands-once _ _ g h i t = absurd (omega (arith, t))

    pub each-once : (cs ds : Elements) (gs : List Ground) → EachStandsFor rows refs cs gs → EachStandsFor rows refs ds gs → cs ≡ ds
    each-once no_elements no_elements gs h i = refl
    each-once no_elements (element d ds) [] h i = absurd i
    each-once no_elements (element d ds) (g ∷ gs) h i = cc
    each-once (element c cs) no_elements [] h i = absurd h
    each-once (element c cs) no_elements (g ∷ gs) h i = cc
    each-once (element c cs) (element d ds) [] h i = absurd h
    each-once (element c cs) (element d ds) (g ∷ gs) (a, b) (p, q) =
        let first = stands-once c d g a p (same-tags c d g a p) in
        let others = each-once cs ds gs b q in
        cc

  pub one-closed : (c d : Closed) (g : Ground) → StandsFor rows refs c g → StandsFor rows refs d g → c ≡ d
  one-closed c d g h i = stands-once c d g h i (same-tags c d g h i)
