-- All types of a world are in form.
use Rattle.std.proofs.Common.{◌≡◌, ℕ, zero, suc, ◌+◌, ◌<◌, Bool, true, false, not, ◌&&◌, refl, ap, subst, ◌∙◌, List, [], ◌∷◌, ◌++◌, map, length, Contains, Some, slice_get, get_or, arith}
use Rattle.std.specs.List.{AllZip, list_all, flat_map, range_with_len}
use Rattle.std.proofs.lemmas.List.Elements.{All-contains, Contains-append_left, Contains-append_right}
use Rattle.std.proofs.lemmas.List.Folds.{list_all-append, list_all-map}
use Rattle.std.proofs.lemmas.Bool.{and_from}
use Rattle.std.proofs.lemmas.Option.{slice_get-get_or}
use Rattle.std.proofs.lemmas.Slice.Zip.{AllZip-long}
use Rattle.tm_base.specs.declared.ask.Ask.{Ask}
use Rattle.tm_base.specs.declared.definition.NamedRow.{NamedRow}
use Rattle.tm_base.specs.declared.definition.RefRow.{RefRow}
use Rattle.tm_base.specs.declared.ground.Ground.{Ground}
use Rattle.tm_base.specs.declared.ground.Ground as ground_is
use Rattle.tm_base.specs.declared.cell.RefId.{RefId}
use Rattle.tm_base.specs.declared.ground.NamedId.{NamedId}
use Rattle.tm_base.specs.declared.ground.Primitive.{Primitive}
use Rattle.tm_base.specs.Spelled.{following_limit}
use Rattle.tm_base.specs.Whole.{written_types, is_type_in_form, are_types_in_form}
use Rattle.tm_base.proofs.GroundLemmas.{written_types-Tuple, written_types-Array, written_types-Wrap}
use Rattle.tm_names.specs.declared.resolved.OpenAsk.{OpenAsk}
use Rattle.tm_names.specs.declared.resolved.Resolved.{Resolved}
use Rattle.tm_ground.specs.Closed.{Closed, Elements, prim, never, tuple, array, nonzero, wrap, named, ref, no_elements, element, closed, listed}
use Rattle.tm_ground.specs.Closing.{AreFound}
use Rattle.tm_names.specs.InForm.{IsInForm}
use Rattle.tm_ground.specs.Limits.{is_named, is_ref, OccursAs, depth_passes, PassesDepth, depth_limit}
use Rattle.tm_ground.specs.Numbered.{IsNumbered, EachNumbered}
use Rattle.tm_ground.specs.Occurs.{field_types, fields_of, parts_of, sides_of, asked_in, Occurs, is_asked}
use Rattle.tm_ground.specs.Rows.{IsNamedRow, IsRefRow, IsAsk}
use Rattle.tm_ground.proofs.finding.ContainsLemmas.{contains-first, contains-behind}
use Rattle.tm_ground.proofs.sizes.EndsLemmas.{ends-all}
use Rattle.tm_ground.proofs.finding.GrowLemmas.{contains-from_get}
use Rattle.tm_ground.proofs.forms.HeadLemmas.{head-in_form}
use Rattle.tm_ground.proofs.numbers.NumberLemmas.{named-number}
use Rattle.tm_ground.proofs.forms.OccurringForm.{occurring-formed}
use Rattle.tm_ground.proofs.forms.RowForm.{zip-all, row-in_form}
use Rattle.tm_ground.proofs.sizes.ShallowForm.{whole-at}
use Rattle.tm_ground.proofs.sizes.SmallLemmas.{occurring-part, occurring-short}

pub written-Prim : (p : Primitive) → written_types (ground_is.Prim p) ≡ ground_is.Prim p ∷ []
unfolding written_types
written-Prim p = refl

pub written-Never : written_types ground_is.Never ≡ ground_is.Never ∷ []
unfolding written_types
written-Never = refl

pub written-Unit : written_types ground_is.Unit ≡ ground_is.Unit ∷ []
unfolding written_types
written-Unit = refl

pub written-NonZero : (p : Primitive) → written_types (ground_is.NonZero p) ≡ ground_is.NonZero p ∷ []
unfolding written_types
written-NonZero p = refl

pub written-Named : (id : NamedId) → written_types (ground_is.Named id) ≡ ground_is.Named id ∷ []
unfolding written_types
written-Named id = refl

pub written-Ref : (r : RefId) → written_types (ground_is.Ref r) ≡ ground_is.Ref r ∷ []
unfolding written_types
written-Ref r = refl

all-flat_map : {X Y : Type 0} (p : Y → Bool) (f : X → List Y) (xs : List X) → list_all p (flat_map f xs) ≡ list_all (λ x. list_all p (f x)) xs
all-flat_map p f [] = refl
all-flat_map p f (x ∷ xs) = list_all-append p (f x) (flat_map f xs) ∙ ap (λ b. list_all p (f x) && b) (all-flat_map p f xs)

all-range : (p : ℕ → Bool) (a n : ℕ) → ((k : ℕ) → k < a + n → p k ≡ true) → list_all p (range_with_len a n) ≡ true
all-range p a zero each = refl
all-range p a (suc n) each = and_from _ _ (each a (omega arith)) (all-range p (a + 1) n (λ k l. each k (omega (arith, l))))

module _ (resolved : Resolved) (form : IsInForm resolved) (types refs : List Closed) (whole : AreFound resolved types refs) (shallow : ¬ PassesDepth resolved)
    (rows : List NamedRow) (ref_rows : List RefRow) (asks : List Ask)
    (of_rows : AllZip (IsNamedRow types refs resolved) types rows) (of_refs : AllZip (IsRefRow types refs) refs ref_rows)
    (of_asks : AllZip (IsAsk types refs) resolved.asks asks) where
  not-deep : (c : Closed) → Occurs resolved c → depth_passes resolved depth_limit c ≡ false
  not-deep c o = by (depth_passes resolved depth_limit c) refl
    where
      by : (b : Bool) → depth_passes resolved depth_limit c ≡ b → b ≡ false
      by true e = absurd (shallow (record { deepest = c; occurs = o; passes = e }))
      by false e = refl

  part-occurs : (c d : Closed) → Occurs resolved c → Contains (parts_of resolved c) d → Occurs resolved d
  part-occurs = occurring-part resolved whole.small

  abbrev passes : Ground → Bool
  passes = is_type_in_form resolved.profile resolved.defs rows ref_rows

  type-passes : (c : Closed) (g : Ground) → Occurs resolved c → IsNumbered types refs c g → passes g ≡ true
  type-passes c g o h =
      let head = head-in_form types refs (length resolved.defs) (length resolved.regions) c g h (occurring-formed resolved form c o) in
      let typed = row-in_form resolved form types refs whole rows ref_rows of_rows of_refs in
      let deep = whole-at resolved types refs rows of_rows typed part-occurs depth_limit c g o h (not-deep c o) in
      and_from _ _ (and_from _ _ (rw (AllZip-long _ types rows of_rows, AllZip-long _ refs ref_rows of_refs) head) (ap not deep)) (ends-all resolved types refs rows ref_rows of_rows of_refs following_limit c g h (let short = occurring-short resolved whole.small c o in omega (arith, short)))

  abbrev pass_all : Ground → Bool
  pass_all g = list_all passes (written_types g)

  mutual
    unfolding IsNumbered

    written-pass : (c : Closed) (g : Ground) → Occurs resolved c → IsNumbered types refs c g → pass_all g ≡ true
    written-pass (prim p) g o h = rw (h, written-Prim p) (and_from _ _ (type-passes (prim p) (ground_is.Prim p) o refl) refl)
    written-pass never g o h = rw (h, written-Never) (and_from _ _ (type-passes never ground_is.Never o refl) refl)
    written-pass (tuple no_elements) g o h = rw (h, written-Unit) (and_from _ _ (type-passes (tuple no_elements) ground_is.Unit o refl) refl)
    written-pass (tuple (element c cs)) g o (x, xs, e, a, b) =
        rw (e, written_types-Tuple (x ∷ xs)) (and_from _ _ (type-passes (tuple (element c cs)) (ground_is.Tuple (x ∷ xs)) o (x, xs, refl, a, b))
        (rw (list_all-append passes (written_types x) (flat_map written_types xs)) (and_from _ _ (written-pass c x (part-occurs (tuple (element c cs)) c o (contains-first c (listed cs))) a) (each-pass cs xs (λ d i. part-occurs (tuple (element c cs)) d o (contains-behind c (listed cs) d i)) b))))
    written-pass (array c n) g o (x, e, a) =
        rw (e, written_types-Array x n) (and_from _ _ (type-passes (array c n) (ground_is.Array x n) o (x, refl, a)) (written-pass c x (part-occurs (array c n) c o (contains-first c [])) a))
    written-pass (nonzero p) g o h = rw (h, written-NonZero p) (and_from _ _ (type-passes (nonzero p) (ground_is.NonZero p) o refl) refl)
    written-pass (wrap w c) g o (x, e, a) =
        rw (e, written_types-Wrap w x) (and_from _ _ (type-passes (wrap w c) (ground_is.Wrap w x) o (x, refl, a)) (written-pass c x (part-occurs (wrap w c) c o (contains-first c [])) a))
    written-pass (named def rs args) g o (id, e, at) = rw (e, written-Named id) (and_from _ _ (type-passes (named def rs args) (ground_is.Named id) o (id, refl, at)) refl)
    written-pass (ref r m c) g o (x, e, at) = rw (e, written-Ref x) (and_from _ _ (type-passes (ref r m c) (ground_is.Ref x) o (x, refl, at)) refl)

    each-pass : (cs : Elements) (gs : List Ground) → ((d : Closed) → Contains (listed cs) d → Occurs resolved d) → EachNumbered types refs cs gs → list_all passes (flat_map written_types gs) ≡ true
    each-pass no_elements gs o h = rw h refl
    each-pass (element c cs) [] o h = absurd h
    each-pass (element c cs) (g ∷ gs) o (a, b) =
        rw (list_all-append passes (written_types g) (flat_map written_types gs)) (and_from _ _ (written-pass c g (o c (contains-first c (listed cs))) a) (each-pass cs gs (λ d i. o d (contains-behind c (listed cs) d i)) b))

  zip-pass : (cs : List Closed) (gs : List Ground) → AllZip (IsNumbered types refs) cs gs → ((d : Closed) → Contains cs d → Occurs resolved d) → list_all pass_all gs ≡ true
  zip-pass cs gs z o = zip-all (IsNumbered types refs) pass_all cs gs z (λ c g i h. written-pass c g (o c i) h)

  fields-pass : (css : List (List Closed)) (gs : List (List Ground)) → AllZip (AllZip (IsNumbered types refs)) css gs → ((d : Closed) → Contains (flat_map (λ cs. cs) css) d → Occurs resolved d) → list_all pass_all (flat_map (λ ts. ts) gs) ≡ true
  fields-pass [] [] z o = refl
  fields-pass [] (g ∷ gs) z o = absurd z
  fields-pass (cs ∷ css) [] z o = absurd z
  fields-pass (cs ∷ css) (g ∷ gs) z o =
      rw (list_all-append pass_all g (flat_map (λ ts. ts) gs)) (and_from _ _ (zip-pass cs g z.0 (λ d i. o d (Contains-append_left cs _ d i))) (fields-pass css gs z.1 (λ d i. o d (Contains-append_right cs _ d i))))

  row-occurs : (c : Closed) (row : NamedRow) → Contains types c → (r : IsNamedRow types refs resolved c row) → Occurs resolved (named row.def row.regions r.args)
  row-occurs c row i r = subst (Occurs resolved) r.type (All-contains (OccursAs is_named resolved) types c whole.rows.all.each i).occurs

  args-pass : (c : Closed) (row : NamedRow) → Contains types c → IsNamedRow types refs resolved c row → list_all pass_all row.args ≡ true
  args-pass c row i r =
      zip-pass (listed r.args) row.args r.given (λ d j. part-occurs (named row.def row.regions r.args) d (row-occurs c row i r) (Contains-append_left (listed r.args) _ d j))

  row-passes : (c : Closed) (row : NamedRow) → Contains types c → IsNamedRow types refs resolved c row → list_all pass_all (flat_map (λ ts. ts) row.types) ≡ true
  row-passes c row i r =
      fields-pass (field_types resolved row.def row.regions (listed r.args)) row.types r.fields
      (λ d j. part-occurs (named row.def row.regions r.args) d (row-occurs c row i r) (Contains-append_right (listed r.args) (fields_of resolved row.def row.regions (listed r.args)) d j))

  ref-passes : (c : Closed) (row : RefRow) → Contains refs c → IsRefRow types refs c row → pass_all row.pointee ≡ true
  ref-passes c row i r =
      let o = subst (Occurs resolved) r.type (All-contains (OccursAs is_ref resolved) refs c whole.refs.all.each i).occurs in
      written-pass r.pointee row.pointee (part-occurs (ref row.region row.mutable r.pointee) r.pointee o (contains-first r.pointee [])) r.numbered

  asks-pass : (some : List OpenAsk) (news : List Ask) → AllZip (IsAsk types refs) some news → ((d : Closed) → Contains (asked_in some) d → Occurs resolved d) → list_all pass_all (flat_map (λ ask. ask.src ∷ ask.dst ∷ []) news) ≡ true
  asks-pass [] [] z o = refl
  asks-pass [] (n ∷ news) z o = absurd z
  asks-pass (s ∷ some) [] z o = absurd z
  asks-pass (s ∷ some) (n ∷ news) z o =
      and_from _ _ (written-pass (closed s.src) n.src (o (closed s.src) (contains-first (closed s.src) (closed s.dst ∷ asked_in some))) z.0.src)
      (and_from _ _ (written-pass (closed s.dst) n.dst (o (closed s.dst) (contains-behind (closed s.src) (closed s.dst ∷ asked_in some) (closed s.dst) (contains-first (closed s.dst) (asked_in some)))) z.0.dst)
      (asks-pass some news z.1 (λ d i. o d (Contains-append_right (sides_of s) (asked_in some) d i))))

  name-passes : (k : ℕ) → k < length rows → passes (ground_is.Named (record { 0 = k })) ≡ true
  name-passes k l =
      let inside : k < length types = omega (arith, l, AllZip-long _ types rows of_rows) in
      let x = get_or types k never in
      let at : slice_get types k ≡ Some x = slice_get-get_or types k never inside in
      let o = All-contains (OccursAs is_named resolved) types x whole.rows.all.each (contains-from_get types k x at) in
      type-passes x (ground_is.Named (record { 0 = k })) o.occurs (named-number types refs x k o.of_kind at)

  pub types-in_form : are_types_in_form resolved.profile resolved.defs rows ref_rows asks ≡ true
  unfolding are_types_in_form
  types-in_form =
      let names = list_all-map passes (λ k. ground_is.Named (record { 0 = k })) (range_with_len 0 (length rows)) ∙ all-range _ 0 (length rows) (λ k l. name-passes k (omega (arith, l))) in
      let args = all-flat_map pass_all (λ (row : NamedRow). row.args) rows ∙ zip-all _ _ types rows of_rows args-pass in
      let fields = all-flat_map pass_all (λ (row : NamedRow). flat_map (λ ts. ts) row.types) rows ∙ zip-all _ _ types rows of_rows row-passes in
      let pointees = list_all-map pass_all (λ (row : RefRow). row.pointee) ref_rows ∙ zip-all _ _ refs ref_rows of_refs ref-passes in
      let sides = asks-pass resolved.asks asks of_asks (λ d i. is_asked d i) in
      let a = flat_map (λ (row : NamedRow). row.args) rows in
      let f = flat_map (λ (row : NamedRow). flat_map (λ ts. ts) row.types) rows in
      let p = map (λ (row : RefRow). row.pointee) ref_rows in
      let s = flat_map (λ (ask : Ask). ask.src ∷ ask.dst ∷ []) asks in
      let n = map (λ k. ground_is.Named (record { 0 = k })) (range_with_len 0 (length rows)) in
      list_all-append passes n (flat_map written_types (a ++ f ++ p ++ s))
      ∙ and_from _ _ names (all-flat_map passes written_types (a ++ f ++ p ++ s)
      ∙ list_all-append pass_all (a ++ f ++ p) s
      ∙ and_from _ _ (list_all-append pass_all (a ++ f) p ∙ and_from _ _ (list_all-append pass_all a f ∙ and_from _ _ args fields) pointees) sides)
