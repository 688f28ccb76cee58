-- In a world of a file in form whose names are apart, no two types that a side of a question reaches share
-- their text.
use Rattle.std.proofs.Common.{◌≡◌, ℕ, zero, suc, ◌+◌, ◌<◌, ◌≤◌, sym, ap, subst, ◌∙◌, ⊎_elim, List, [], ◌∷◌, ◌++◌, map, length, Contains, Some, slice_get, arith}
use Rattle.std.specs.List.{AllZip, flat_map, range_with_len}
use Rattle.std.proofs.lemmas.Bool.{cases_lt}
use Rattle.std.proofs.lemmas.List.{get_or-map, length-map}
use Rattle.std.proofs.lemmas.List.Elements.{Contains-append_cases, Contains-append_right}
use Rattle.tm_base.specs.declared.answer.Side.{Side}
use Rattle.tm_base.specs.declared.answer.Side.TheVariants.{Source, Target}
use Rattle.tm_base.specs.declared.ask.Ask.{Ask}
use Rattle.tm_base.specs.declared.definition.DefId.{DefId}
use Rattle.tm_base.specs.declared.definition.NamedRow.{NamedRow}
use Rattle.tm_base.specs.declared.definition.RegionId.{RegionId}
use Rattle.tm_base.specs.declared.ground.Ground.{Ground, out-Ground}
use Rattle.tm_base.specs.declared.ground.Ground as ground_is
use Rattle.tm_base.specs.declared.ground.Ground.TheOpen.{Ground-F}
use Rattle.tm_base.specs.declared.ground.Ground.TheVariants as level
use Rattle.tm_base.specs.declared.ground.Wrapper.{Wrapper}
use Rattle.tm_base.specs.declared.ground.Wrapper.TheVariants as wrapper
use Rattle.tm_base.specs.declared.world.World.{World}
use Rattle.tm_base.specs.Answers.{NoSharedTexts, side_type}
use Rattle.tm_base.specs.Reaches.{ChainIn, Enters, Reaches, argument_of, parts_within, pointees_within, row_parts, row_pointee}
use Rattle.tm_base.specs.Spelled.{following_limit}
use Rattle.tm_base.specs.Texts.{text_of}
use Rattle.tm_base.specs.Whole.{AreDistinct}
use Rattle.tm_base.specs.Worlds.{tables_of}
use Rattle.tm_names.specs.ApartNames.{HasApartNames}
use Rattle.tm_names.specs.declared.resolved.OpenAsk.{OpenAsk}
use Rattle.tm_names.specs.declared.resolved.Resolved.{Resolved}
use Rattle.tm_names.specs.InForm.{IsInForm}
use Rattle.tm_ground.specs.Belongs.{BelongsToFile, EachStandsFor, IsNamedRowOf, IsQuestionOf, StandsFor}
use Rattle.tm_ground.specs.Closed.{Closed, Elements, prim, never, tuple, array, nonzero, wrap, named, ref, no_elements, element, closed, listed, nodes, nodes_in}
use Rattle.tm_ground.specs.ClosedTexts.{closed_text}
use Rattle.tm_ground.specs.Occurs.{Occurs, is_asked, field_types, fields_of, node_limit, parts_of, sides_of}
use Rattle.tm_ground.proofs.texts.ApartOccurring.{occurring-apart}
use Rattle.tm_ground.proofs.finding.ContainsLemmas.{contains-behind, contains-cons, contains-first, contains-flat_map, contains-nothing, flat_map-contains, get_or-from_get}
use Rattle.tm_ground.proofs.sizes.SmallLemmas.{occurring-part, occurring-short}
use Rattle.tm_ground.proofs.numbers.StandsLemmas.{each-stood}
use Rattle.tm_ground.proofs.numbers.StandsOnce.{each-once}
use Rattle.tm_ground.proofs.texts.TextLemmas.{text-within}

-- what stands beside an item of the second list
zip-find : {A B : Type 0} (R : A → B → Type 0) (xs : List A) (ys : List B) (y : B) → AllZip R xs ys → Contains ys y → (x : A) × Contains xs x × R x y
zip-find R [] [] y h i = absurd (contains-nothing y i)
zip-find R [] (z ∷ ys) y h i = absurd h
zip-find R (x ∷ xs) [] y h i = absurd h
zip-find R (x ∷ xs) (z ∷ ys) y h i =
    ⊎_elim (λ e. (x, contains-first x xs, subst (R x) e h.0)) (λ j. let (w, k, r) = zip-find R xs ys y h.1 j in (w, contains-behind x xs w k, r)) (contains-cons z ys y i)

-- what stands beside an item of a list in the second list
zip-within : {A B : Type 0} (R : A → B → Type 0) (xss : List (List A)) (yss : List (List B)) (y : B) → AllZip (AllZip R) xss yss
    → Contains (flat_map (λ ys. ys) yss) y → (x : A) × Contains (flat_map (λ xs. xs) xss) x × R x y
zip-within R xss yss y h i =
    let (ys, a, b) = contains-flat_map (λ ys. ys) yss y i in
    let (xs, c, r) = zip-find (AllZip R) xss yss ys h a in
    let (x, d, s) = zip-find R xs ys y r b in
    (x, flat_map-contains (λ xs. xs) xss xs x c d, s)

only-one : {X : Type 0} (y x : X) → Contains (y ∷ []) x → y ≡ x
only-one y x i = ⊎_elim (λ e. e) (λ j. absurd (contains-nothing x j)) (contains-cons y [] x i)

no-more : {X : Type 0} (xs : List X) (x : X) → Contains (xs ++ []) x → Contains xs x
no-more xs x i = ⊎_elim (λ j. j) (λ j. absurd (contains-nothing x j)) (Contains-append_cases xs [] x i)

-- two places of a list give the same only where they are one, if it gives distinct things
pub one-place : {A X : Type 0} (f : A → X) (xs : List A) (i j : ℕ) (a b : A) → AreDistinct (map f xs) → slice_get xs i ≡ Some a → slice_get xs j ≡ Some b → f a ≡ f b → i ≡ j
one-place {A = A} f xs i j a b distinct at there same =
    ⊎_elim (λ l. absurd (ordered i j a b at there same l)) (λ l. ⊎_elim (λ m. absurd (ordered j i b a there at (sym same) m)) (λ m. omega (arith, l, m)) (cases_lt j i)) (cases_lt i j)
  where
    ordered : (i j : ℕ) (a b : A) → slice_get xs i ≡ Some a → slice_get xs j ≡ Some b → f a ≡ f b → i < j → ⊥
    ordered i j a b at there same l =
        let (m, s) = get_or-from_get xs i a at in
        let (n, t) = get_or-from_get xs j b there in
        distinct.apart i j (f a) l (omega (arith, n, length-map xs f))
        (get_or-map f xs i a (f a) m ∙ ap f (sym s) ∙ same ∙ ap f t ∙ sym (get_or-map f xs j b (f a) n))

in-range : (a n k : ℕ) → k < n → slice_get (range_with_len a n) k ≡ Some (a + k)
in-range a zero k l = absurd (omega (arith, l))
in-range a (suc n) zero l = let e : a ≡ a + 0 = omega arith in ap (λ (x : ℕ). Some x) e
in-range a (suc n) (suc k) l = let e : a + 1 + k ≡ a + suc k = omega arith in in-range (a + 1) n k (omega (arith, l)) ∙ ap (λ (x : ℕ). Some x) e

held : (w : Wrapper) (g h : Ground) → Contains (argument_of w g) h → g ≡ h
held wrapper.PhantomData g h i = absurd (contains-nothing h i)
held wrapper.Option g h i = only-one g h i
held wrapper.MaybeUninit g h i = only-one g h i
held wrapper.ManuallyDrop g h i = only-one g h i
held wrapper.Wrapping g h i = only-one g h i
held wrapper.Cell g h i = only-one g h i
held wrapper.UnsafeCell g h i = only-one g h i

module _ (resolved : Resolved) (world : World) (b : BelongsToFile resolved world) where
  abbrev Stands : Closed → Ground → Type 0
  Stands = StandsFor world.named world.refs

  abbrev text : Ground → List ℕ
  text = text_of (tables_of world)

  -- a type by its numbers has its closed type's text
  pub text-stands : (c : Closed) (g : Ground) → Stands c g → nodes c ≤ node_limit → text g ≡ closed_text resolved c
  text-stands c g h l = rw (b.profile, b.defs, b.regions) (text-within resolved world.bounds world.named world.refs following_limit c g h (omega (arith, l)))

  -- numbers with one text are one, where texts are distinct
  one-number : (number : ℕ → Ground) (n r s : ℕ) → AreDistinct (map (λ k. text (number k)) (range_with_len 0 n)) → r < n → s < n → text (number r) ≡ text (number s) → r ≡ s
  one-number number n r s distinct k l e =
      one-place (λ k. text (number k)) (range_with_len 0 n) r s (0 + r) (0 + s) distinct (in-range 0 n r k) (in-range 0 n s l)
      (let x : 0 + r ≡ r = omega arith in let y : 0 + s ≡ s = omega arith in rw (x, y) e)

  -- and stands for one alone
  mutual
    unfolding StandsFor nodes

    one-ground : (c : Closed) (g h : Ground) → Stands c g → Stands c h → nodes c ≤ node_limit → g ≡ h
    one-ground (prim p) g h x y l = x ∙ sym y
    one-ground never g h x y l = x ∙ sym y
    one-ground (tuple no_elements) g h x y l = x ∙ sym y
    one-ground (tuple (element c cs)) g h (k, ks, e, a, r) (m, ms, f, d, s) l =
        let first : k ≡ m = one-ground c k m a d (omega (arith, l)) in
        let others : ks ≡ ms = all-ground cs ks ms r s (omega (arith, l)) in
        e ∙ ap (λ x. ground_is.Tuple (x ∷ ks)) first ∙ ap (λ xs. ground_is.Tuple (m ∷ xs)) others ∙ sym f
    one-ground (array c n) g h (k, e, a) (m, f, d) l = e ∙ ap (λ x. ground_is.Array x n) (one-ground c k m a d (omega (arith, l))) ∙ sym f
    one-ground (nonzero p) g h x y l = x ∙ sym y
    one-ground (wrap w c) g h (k, e, a) (m, f, d) l = e ∙ ap (ground_is.Wrap w) (one-ground c k m a d (omega (arith, l))) ∙ sym f
    one-ground (named def rs args) g h (i, e, row, at, x, xs, given) (j, f, other, there, y, ys, taken) l =
        let first = text-stands (named def rs args) g (i, e, row, at, x, xs, given) l in
        let second = text-stands (named def rs args) h (j, f, other, there, y, ys, taken) l in
        let same = one-number (λ k. ground_is.Named (record { 0 = k })) (length world.named) i.0 j.0 b.named_in_order.distinct (get_or-from_get world.named i.0 row at).0 (get_or-from_get world.named j.0 other there).0
        (ap text (sym e) ∙ first ∙ sym second ∙ ap text f) in
        e ∙ ap (λ n. ground_is.Named (record { 0 = n })) same ∙ sym f
    one-ground (ref region mutable c) g h (r, e, row, at, x, xs, given) (s, f, other, there, y, ys, taken) l =
        let first = text-stands (ref region mutable c) g (r, e, row, at, x, xs, given) l in
        let second = text-stands (ref region mutable c) h (s, f, other, there, y, ys, taken) l in
        let same = one-number (λ k. ground_is.Ref (record { 0 = k })) (length world.refs) r.0 s.0 b.refs_in_order.distinct (get_or-from_get world.refs r.0 row at).0 (get_or-from_get world.refs s.0 other there).0
        (ap text (sym e) ∙ first ∙ sym second ∙ ap text f) in
        e ∙ ap (λ n. ground_is.Ref (record { 0 = n })) same ∙ sym f

    all-ground : (cs : Elements) (gs hs : List Ground) → EachStandsFor world.named world.refs cs gs → EachStandsFor world.named world.refs cs hs → nodes_in cs ≤ node_limit → gs ≡ hs
    all-ground no_elements gs hs x y l = x ∙ sym y
    all-ground (element c cs) [] hs x y l = absurd x
    all-ground (element c cs) (g ∷ gs) [] x y l = absurd y
    all-ground (element c cs) (g ∷ gs) (h ∷ hs) x y l =
        ap (λ z. z ∷ gs) (one-ground c g h x.0 y.0 (omega (arith, l))) ∙ ap (λ zs. h ∷ zs) (all-ground cs gs hs x.1 y.1 (omega (arith, l)))

  -- what a type leads to in one step stands for a part of what it stands for
  abbrev IsPart : Closed → Ground → Type 0
  IsPart c h = (d : Closed) × Contains (parts_of resolved c) d × Stands d h

  abbrev nexts : Ground-F Ground → List Ground
  nexts g = parts_within world.named g ++ pointees_within world.refs g

  element-part : (cs : Elements) (gs : List Ground) (h : Ground) → EachStandsFor world.named world.refs cs gs → Contains gs h → (d : Closed) × Contains (listed cs) d × Stands d h
  unfolding StandsFor
  element-part no_elements gs h x i = absurd (contains-nothing h (subst (λ gs. Contains gs h) x i))
  element-part (element c cs) [] h x i = absurd x
  element-part (element c cs) (g ∷ gs) h x i =
      ⊎_elim (λ e. (c, contains-first c (listed cs), subst (Stands c) e x.0))
      (λ j. let (d, k, s) = element-part cs gs h x.1 j in (d, contains-behind c (listed cs) d k, s)) (contains-cons g gs h i)

  -- a row by whose number a named type is known has that type's fields
  fields-part : (def : DefId) (rs : List RegionId) (args : Elements) (id : ℕ) (row : NamedRow) (h : Ground) → slice_get world.named id ≡ Some row → row.def ≡ def → row.regions ≡ rs
      → EachStandsFor world.named world.refs args row.args → Contains (flat_map (λ types. types) row.types) h → IsPart (named def rs args) h
  fields-part def rs args id row h at x y given i =
      let (m, s) = get_or-from_get world.named id row at in
      let (c, j, r) = zip-find (IsNamedRowOf resolved world) b.named_types world.named row b.named_rows (id, m, sym s) in
      let same = each-once world.named world.refs r.args args row.args (each-stood world.named world.refs r.args row.args r.given) given in
      let (d, k, t) = zip-within Stands (field_types resolved row.def row.regions (listed r.args)) row.types h r.fields i in
      let inside : Contains (parts_of resolved (named row.def row.regions r.args)) d = Contains-append_right (listed r.args) (fields_of resolved row.def row.regions (listed r.args)) d k in
      let whole : named row.def row.regions r.args ≡ named def rs args = ap (λ z. named z row.regions r.args) x ∙ ap (λ z. named def z r.args) y ∙ ap (named def rs) same in
      (d, subst (λ z. Contains (parts_of resolved z) d) whole inside, t)

  part : (c : Closed) (g h : Ground) → Stands c g → Contains (nexts (out-Ground g)) h → IsPart c h
  unfolding StandsFor
  part (prim p) g h x i = absurd (contains-nothing h (subst (λ o. Contains (nexts o) h) (ap out-Ground x ∙ level.outs-Prim p) i))
  part never g h x i = absurd (contains-nothing h (subst (λ o. Contains (nexts o) h) (ap out-Ground x ∙ level.outs-Never) i))
  part (tuple no_elements) g h x i = absurd (contains-nothing h (subst (λ o. Contains (nexts o) h) (ap out-Ground x ∙ level.outs-Unit) i))
  part (tuple (element c cs)) g h (k, ks, e, a, r) i =
      element-part (element c cs) (k ∷ ks) h (a, r) (no-more (k ∷ ks) h (subst (λ o. Contains (nexts o) h) (ap out-Ground e ∙ level.outs-Tuple (k ∷ ks)) i))
  part (array c n) g h (k, e, a) i =
      (c, contains-first c [], subst (Stands c) (only-one k h (subst (λ o. Contains (nexts o) h) (ap out-Ground e ∙ level.outs-Array k n) i)) a)
  part (nonzero p) g h x i = absurd (contains-nothing h (subst (λ o. Contains (nexts o) h) (ap out-Ground x ∙ level.outs-NonZero p) i))
  part (wrap w c) g h (k, e, a) i =
      (c, contains-first c [], subst (Stands c) (held w k h (no-more (argument_of w k) h (subst (λ o. Contains (nexts o) h) (ap out-Ground e ∙ level.outs-Wrap w k) i))) a)
  part (named def rs args) g h (id, e, row, at, x, y, given) i =
      let there : Contains (row_parts (slice_get world.named id.0)) h = no-more (row_parts (slice_get world.named id.0)) h (subst (λ o. Contains (nexts o) h) (ap out-Ground e ∙ level.outs-Named id) i) in
      fields-part def rs args id.0 row h at x y given (subst (λ o. Contains (row_parts o) h) at there)
  part (ref region mutable c) g h (r, e, row, at, x, y, d) i =
      let there : Contains (row_pointee (slice_get world.refs r.0)) h = subst (λ o. Contains (nexts o) h) (ap out-Ground e ∙ level.outs-Ref r) i in
      (c, contains-first c [], subst (Stands c) (only-one row.pointee h (subst (λ o. Contains (row_pointee o) h) at there)) d)

  -- so all that it reaches occurs in the file
  pub record IsOfFile (g : Ground) : Type 0 where
    pub closed_type : Closed
    pub occurs : Occurs resolved closed_type
    pub stands : Stands closed_type g

  reached : (n : ℕ) (g h : Ground) → IsOfFile g → ChainIn (Enters (tables_of world)) n g h → IsOfFile h
  unfolding ChainIn
  reached zero g h m e = subst (λ x. IsOfFile x) e m
  reached (suc n) g h m (next, s, rest) =
      let (d, i, t) = part m.closed_type g next m.stands s in
      reached n next h (record { closed_type = d; occurs = occurring-part resolved b.small m.closed_type d m.occurs i; stands = t }) rest

  side-of_file : (ask : Ask) → Contains world.questions ask → (side : Side) → IsOfFile (side_type ask side)
  side-of_file ask i side =
      let (asked, j, q) = zip-find (IsQuestionOf resolved world) resolved.asks world.questions ask b.questions i in
      go asked j q side
    where
      go : (asked : OpenAsk) → Contains resolved.asks asked → IsQuestionOf resolved world asked ask → (side : Side) → IsOfFile (side_type ask side)
      go asked j q Source =
          let src = closed asked.src in
          record { closed_type = src; occurs = is_asked src (flat_map-contains sides_of resolved.asks asked src j (contains-first src (closed asked.dst ∷ []))); stands = q.src }
      go asked j q Target =
          let dst = closed asked.dst in
          record { closed_type = dst; occurs = is_asked dst (flat_map-contains sides_of resolved.asks asked dst j (contains-behind (closed asked.src) (dst ∷ []) dst (contains-first dst []))); stands = q.dst }

  pub reached-of_file : (ask : Ask) → Contains world.questions ask → (side : Side) (g : Ground) → Reaches (tables_of world) (side_type ask side) g → IsOfFile g
  reached-of_file ask i side g (n, way) = reached n (side_type ask side) g (side-of_file ask i side) way

  module _ (form : IsInForm resolved) (names : HasApartNames resolved) where
    pub one-of_text : (g h : Ground) → IsOfFile g → IsOfFile h → text g ≡ text h → g ≡ h
    one-of_text g h m n e =
        let short = occurring-short resolved b.small m.closed_type m.occurs in
        let other = occurring-short resolved b.small n.closed_type n.occurs in
        let same = occurring-apart resolved form names m.closed_type n.closed_type m.occurs n.occurs (sym (text-stands m.closed_type g m.stands short) ∙ e ∙ text-stands n.closed_type h n.stands other) in
        one-ground m.closed_type g h m.stands (subst (λ c. Stands c h) (sym same) n.stands) short

    -- whether or not they are at fault
    pub no_shared_texts : (ask : Ask) → Contains world.questions ask → NoSharedTexts (tables_of world) ask
    no_shared_texts ask i = λ side g h why other x y at_fault too e. one-of_text g h (reached-of_file ask i side g x) (reached-of_file ask i side h y) e
