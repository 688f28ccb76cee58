-- Two worlds that belong to one file have the same rows and the same questions.
use Rattle.std.proofs.Common.{◌≡◌, ℕ, suc, ◌<◌, ◌≤◌, Bool, refl, sym, ap, subst, ◌∙◌, ⊎_elim, List, [], ◌∷◌, map, length, get_or, All, Contains, Some, slice_get, arith}
use Rattle.std.specs.Cmp.Lexicographic.{slice_cmp}
use Rattle.std.specs.List.Sorted.{IsSorted}
use Rattle.std.specs.Ordering.{nat_cmp}
use Rattle.std.specs.List.{AllZip, range_with_len}
use Rattle.std.proofs.lemmas.Bool.{cases_lt}
use Rattle.std.proofs.lemmas.List.Elements.{All-cons, All-contains, Contains-append_left, Contains-append_right}
use Rattle.std.proofs.lemmas.List.FromFn.{get_or-map-range_with_len, length-map-range_with_len}
use Rattle.std.proofs.lemmas.Slice.Zip.{AllZip-long}
use Rattle.tm_base.specs.declared.ask.Ask.{Ask}
use Rattle.tm_base.specs.declared.definition.DefId.{DefId}
use Rattle.tm_base.specs.declared.definition.NamedRow.{NamedRow}
use Rattle.tm_base.specs.declared.definition.RefRow.{RefRow}
use Rattle.tm_base.specs.declared.definition.RegionId.{RegionId}
use Rattle.tm_base.specs.declared.ground.Ground.{Ground}
use Rattle.tm_base.specs.declared.ground.Ground as ground_is
use Rattle.tm_base.specs.declared.world.World.{World}
use Rattle.tm_base.specs.Texts.{text_of}
use Rattle.tm_base.specs.Whole.{AreDistinct}
use Rattle.tm_base.specs.Worlds.{tables_of}
use Rattle.tm_names.specs.ApartNames.{HasApartNames}
use Rattle.tm_names.specs.InForm.{IsInForm}
use Rattle.tm_names.specs.declared.resolved.OpenAsk.{OpenAsk}
use Rattle.tm_names.specs.declared.resolved.Resolved.{Resolved}
use Rattle.tm_ground.specs.Belongs.{AreInByteOrder, BelongsToFile, EachStandsFor, IsNamedRowOf, IsQuestionOf, IsRefRowOf, ListsAll, StandsFor, named_texts, ref_texts}
use Rattle.tm_ground.specs.Closed.{Closed, Elements, prim, never, tuple, array, nonzero, wrap, named, ref, no_elements, element, closed, listed, nodes, nodes_in}
use Rattle.tm_ground.specs.ClosedTexts.{closed_text}
use Rattle.tm_ground.specs.Limits.{OccursAs, PassesNodes, is_named, is_ref}
use Rattle.tm_ground.specs.Occurs.{Occurs, is_asked, field_types, node_limit, sides_of}
use Rattle.tm_ground.specs.OneWorld.{AreOneWorld}
use Rattle.tm_ground.proofs.texts.ApartOccurring.{occurring-apart}
use Rattle.tm_ground.proofs.world.BelongsLemmas.{places-texts}
use Rattle.tm_ground.proofs.finding.ContainsLemmas.{contains-behind, contains-first, flat_map-contains, get_or-from_get}
use Rattle.tm_ground.proofs.finding.GrowLemmas.{contains-from_get}
use Rattle.tm_ground.proofs.texts.SharedTexts.{text-stands}
use Rattle.tm_ground.proofs.sizes.SmallLemmas.{occurring-part, occurring-short}
use Rattle.tm_ground.proofs.world.SortedOnce.{IsRising, rising-once}
use Rattle.tm_ground.proofs.numbers.StandsLemmas.{each-stood, zip-get}

-- the same list beside which two others stand, each item of which is settled by it: they are one
zip-once : {A B : Type 0} (P : A → Type 0) (R S : A → B → Type 0) → ((a : A) (x y : B) → P a → R a x → S a y → x ≡ y)
    → (items : List A) (xs ys : List B) → All P items → AllZip R items xs → AllZip S items ys → xs ≡ ys
zip-once P R S f [] [] [] all h k = refl
zip-once P R S f [] [] (y ∷ ys) all h k = absurd k
zip-once P R S f [] (x ∷ xs) ys all h k = absurd h
zip-once P R S f (a ∷ items) [] ys all h k = absurd h
zip-once P R S f (a ∷ items) (x ∷ xs) [] all h k = absurd k
zip-once P R S f (a ∷ items) (x ∷ xs) (y ∷ ys) all h k =
    let first : x ≡ y = f a x y (all 0 a (omega arith)) h.0 k.0 in
    let others : xs ≡ ys = zip-once P R S f items xs ys (λ n d l. all (suc n) d (omega (arith, l))) h.1 k.1 in
    ap (λ z. z ∷ xs) first ∙ ap (λ zs. y ∷ zs) others

all-from : {A : Type 0} (P : A → Type 0) (xs : List A) → ((x : A) → Contains xs x → P x) → All P xs
all-from P [] h = λ k d l. absurd (omega (arith, l))
all-from P (x ∷ xs) h = All-cons P x xs (h x (contains-first x xs)) (all-from P xs (λ y i. h y (contains-behind x xs y i)))

module _ (resolved : Resolved) (small : ¬ PassesNodes resolved) where
  args-occur : (def : DefId) (regions : List RegionId) (args : Elements) → Occurs resolved (named def regions args) → All (Occurs resolved) (listed args)
  args-occur def regions args o =
      all-from (Occurs resolved) (listed args) (λ t i. occurring-part resolved small (named def regions args) t o (Contains-append_left (listed args) _ t i))

  fields-occur : (def : DefId) (regions : List RegionId) (args : Elements) → Occurs resolved (named def regions args) → All (λ ts. All (Occurs resolved) ts) (field_types resolved def regions (listed args))
  fields-occur def regions args o =
      all-from (λ ts. All (Occurs resolved) ts) (field_types resolved def regions (listed args)) (λ ts i. all-from (Occurs resolved) ts (λ t j.
      occurring-part resolved small (named def regions args) t o
      (Contains-append_right (listed args) _ t (flat_map-contains (λ types. types) (field_types resolved def regions (listed args)) ts t i j))))

all-asked : (resolved : Resolved) → All (λ asked. Occurs resolved (closed asked.src) × Occurs resolved (closed asked.dst)) resolved.asks
all-asked resolved = all-from (λ asked. Occurs resolved (closed asked.src) × Occurs resolved (closed asked.dst)) resolved.asks
    (λ asked i. let src = closed asked.src in let dst = closed asked.dst in (
      is_asked src (flat_map-contains sides_of resolved.asks asked src i (contains-first src (dst ∷ []))),
      is_asked dst (flat_map-contains sides_of resolved.asks asked dst i (contains-behind src (dst ∷ []) dst (contains-first dst []))),
    ))

module _ (resolved : Resolved) (form : IsInForm resolved) (names : HasApartNames resolved) where
  -- the texts of a world's named types and references are those of the types that occur
  module _ (world : World) (b : BelongsToFile resolved world) where
    occurs-at : (kind : Closed → Bool) (types : List Closed) → ListsAll (OccursAs kind resolved) types → (k : ℕ) (c : Closed) → slice_get types k ≡ Some c → Occurs resolved c
    occurs-at kind types all k c at = (All-contains (OccursAs kind resolved) types c all.each (contains-from_get types k c at)).occurs

    named-text : (k : ℕ) (c : Closed) → slice_get b.named_types k ≡ Some c → text_of (tables_of world) (ground_is.Named (record { 0 = k })) ≡ closed_text resolved c
    unfolding StandsFor
    named-text k c at =
        let (row, there, r) = zip-get (IsNamedRowOf resolved world) b.named_types world.named k c b.named_rows at in
        text-stands resolved world b c (ground_is.Named (record { 0 = k }))
        (subst (λ d. StandsFor world.named world.refs d (ground_is.Named (record { 0 = k }))) (sym r.type) (record { 0 = k }, refl, row, there, refl, refl, each-stood world.named world.refs r.args row.args r.given))
        (occurring-short resolved b.small c (occurs-at is_named b.named_types b.named k c at))

    ref-text : (k : ℕ) (c : Closed) → slice_get b.ref_types k ≡ Some c → text_of (tables_of world) (ground_is.Ref (record { 0 = k })) ≡ closed_text resolved c
    unfolding StandsFor
    ref-text k c at =
        let (row, there, r) = zip-get (IsRefRowOf resolved world) b.ref_types world.refs k c b.ref_rows at in
        text-stands resolved world b c (ground_is.Ref (record { 0 = k }))
        (subst (λ d. StandsFor world.named world.refs d (ground_is.Ref (record { 0 = k }))) (sym r.type) (record { 0 = k }, refl, row, there, refl, refl, r.points))
        (occurring-short resolved b.small c (occurs-at is_ref b.ref_types b.refs k c at))

    named-listed : named_texts resolved world ≡ map (closed_text resolved) b.named_types
    named-listed =
        places-texts (λ k. text_of (tables_of world) (ground_is.Named (record { 0 = k }))) (closed_text resolved) b.named_types (length world.named)
        (AllZip-long _ b.named_types world.named b.named_rows) named-text

    refs-listed : ref_texts resolved world ≡ map (closed_text resolved) b.ref_types
    refs-listed =
        places-texts (λ k. text_of (tables_of world) (ground_is.Ref (record { 0 = k }))) (closed_text resolved) b.ref_types (length world.refs)
        (AllZip-long _ b.ref_types world.refs b.ref_rows) ref-text

  module _ (kind : Closed → Bool) where
    apart : (s t : Closed) → OccursAs kind resolved s → OccursAs kind resolved t → closed_text resolved s ≡ closed_text resolved t → s ≡ t
    apart s t p q e = occurring-apart resolved form names s t p.occurs q.occurs e

    rising : (types : List Closed) (texts : List (List ℕ)) → ListsAll (OccursAs kind resolved) types → AreInByteOrder texts → texts ≡ map (closed_text resolved) types
        → IsRising (closed_text resolved) (OccursAs kind resolved) apart types
    rising types texts all order same = record {
      rise = subst (λ ts. IsSorted (slice_cmp nat_cmp) ts) same order.sorted;
      distinct = all.distinct;
      each = λ t i. All-contains (OccursAs kind resolved) types t all.each i;
    }

    same-types : (types others : List Closed) → ListsAll (OccursAs kind resolved) types → ListsAll (OccursAs kind resolved) others
        → IsRising (closed_text resolved) (OccursAs kind resolved) apart types → IsRising (closed_text resolved) (OccursAs kind resolved) apart others → types ≡ others
    same-types types others all each h k =
        rising-once (closed_text resolved) (OccursAs kind resolved) apart types others h k
        (λ t i. each.complete t (All-contains (OccursAs kind resolved) types t all.each i))
        (λ t i. all.complete t (All-contains (OccursAs kind resolved) others t each.each i))

  module _ (one other : World) (b : BelongsToFile resolved one) (c : BelongsToFile resolved other) where
    named-same : b.named_types ≡ c.named_types
    named-same =
        same-types is_named b.named_types c.named_types b.named c.named
        (rising is_named b.named_types (named_texts resolved one) b.named b.named_in_order (named-listed one b))
        (rising is_named c.named_types (named_texts resolved other) c.named c.named_in_order (named-listed other c))

    refs-same : b.ref_types ≡ c.ref_types
    refs-same =
        same-types is_ref b.ref_types c.ref_types b.refs c.refs
        (rising is_ref b.ref_types (ref_texts resolved one) b.refs b.refs_in_order (refs-listed one b))
        (rising is_ref c.ref_types (ref_texts resolved other) c.refs c.refs_in_order (refs-listed other c))

    named_texts-same : named_texts resolved one ≡ named_texts resolved other
    named_texts-same = named-listed one b ∙ ap (map (closed_text resolved)) named-same ∙ sym (named-listed other c)

    ref_texts-same : ref_texts resolved one ≡ ref_texts resolved other
    ref_texts-same = refs-listed one b ∙ ap (map (closed_text resolved)) refs-same ∙ sym (refs-listed other c)

    -- two numbers with one text are one, where both worlds have the same distinct texts
    module _ (number : ℕ → Ground) where
      abbrev first_text : ℕ → List ℕ
      first_text k = text_of (tables_of one) (number k)

      abbrev other_text : ℕ → List ℕ
      other_text k = text_of (tables_of other) (number k)

      same-number : (n m : ℕ) → map first_text (range_with_len 0 n) ≡ map other_text (range_with_len 0 m) → AreDistinct (map first_text (range_with_len 0 n))
          → (r s : ℕ) → r < n → s < m → first_text r ≡ other_text s → r ≡ s
      same-number n m texts distinct r s k l e =
          let here = map first_text (range_with_len 0 n) in
          let there = map other_text (range_with_len 0 m) in
          let long : length here ≡ n = length-map-range_with_len _ 0 n in
          let wide : length there ≡ m = length-map-range_with_len _ 0 m in
          let count : length here ≡ length there = ap length texts in
          let first : get_or here r [] ≡ first_text r = get_or-map-range_with_len _ 0 n r r [] k (omega arith) in
          let second : get_or there s [] ≡ other_text s = get_or-map-range_with_len _ 0 m s s [] l (omega arith) in
          let same : get_or here r [] ≡ get_or here s [] = first ∙ e ∙ sym second ∙ ap (λ ts. get_or ts s []) (sym texts) in
          ⊎_elim (λ x. absurd (distinct.apart r s [] x (omega (arith, l, long, wide, count)) same))
          (λ x. ⊎_elim (λ y. absurd (distinct.apart s r [] y (omega (arith, k, long)) (sym same))) (λ y. omega (arith, x, y)) (cases_lt s r)) (cases_lt r s)

    -- a type by its numbers in the one world is the same in the other
    mutual
      unfolding StandsFor nodes

      across : (t : Closed) (g h : Ground) → StandsFor one.named one.refs t g → StandsFor other.named other.refs t h → nodes t ≤ node_limit → g ≡ h
      across (prim p) g h x y l = x ∙ sym y
      across never g h x y l = x ∙ sym y
      across (tuple no_elements) g h x y l = x ∙ sym y
      across (tuple (element t ts)) g h (k, ks, e, a, r) (m, ms, f, d, s) l =
          let first : k ≡ m = across t k m a d (omega (arith, l)) in
          let others : ks ≡ ms = across-all ts ks ms r s (omega (arith, l)) in
          e ∙ ap (λ x. ground_is.Tuple (x ∷ ks)) first ∙ ap (λ xs. ground_is.Tuple (m ∷ xs)) others ∙ sym f
      across (array t n) g h (k, e, a) (m, f, d) l = e ∙ ap (λ x. ground_is.Array x n) (across t k m a d (omega (arith, l))) ∙ sym f
      across (nonzero p) g h x y l = x ∙ sym y
      across (wrap w t) g h (k, e, a) (m, f, d) l = e ∙ ap (ground_is.Wrap w) (across t k m a d (omega (arith, l))) ∙ sym f
      across (named def rs args) g h (i, e, row, at, x, xs, given) (j, f, row', there, y, ys, taken) l =
          let first = text-stands resolved one b (named def rs args) g (i, e, row, at, x, xs, given) l in
          let second = text-stands resolved other c (named def rs args) h (j, f, row', there, y, ys, taken) l in
          let same = same-number (λ k. ground_is.Named (record { 0 = k })) (length one.named) (length other.named) named_texts-same b.named_in_order.distinct i.0 j.0
          (get_or-from_get one.named i.0 row at).0 (get_or-from_get other.named j.0 row' there).0
          (ap (text_of (tables_of one)) (sym e) ∙ first ∙ sym second ∙ ap (text_of (tables_of other)) f) in
          e ∙ ap (λ n. ground_is.Named (record { 0 = n })) same ∙ sym f
      across (ref region mutable t) g h (r, e, row, at, x, xs, given) (s, f, row', there, y, ys, taken) l =
          let first = text-stands resolved one b (ref region mutable t) g (r, e, row, at, x, xs, given) l in
          let second = text-stands resolved other c (ref region mutable t) h (s, f, row', there, y, ys, taken) l in
          let same = same-number (λ k. ground_is.Ref (record { 0 = k })) (length one.refs) (length other.refs) ref_texts-same b.refs_in_order.distinct r.0 s.0
          (get_or-from_get one.refs r.0 row at).0 (get_or-from_get other.refs s.0 row' there).0
          (ap (text_of (tables_of one)) (sym e) ∙ first ∙ sym second ∙ ap (text_of (tables_of other)) f) in
          e ∙ ap (λ n. ground_is.Ref (record { 0 = n })) same ∙ sym f

      across-all : (ts : Elements) (gs hs : List Ground) → EachStandsFor one.named one.refs ts gs → EachStandsFor other.named other.refs ts hs → nodes_in ts ≤ node_limit → gs ≡ hs
      across-all no_elements gs hs x y l = x ∙ sym y
      across-all (element t ts) [] hs x y l = absurd x
      across-all (element t ts) (g ∷ gs) [] x y l = absurd y
      across-all (element t ts) (g ∷ gs) (h ∷ hs) x y l =
          ap (λ z. z ∷ gs) (across t g h x.0 y.0 (omega (arith, l))) ∙ ap (λ zs. h ∷ zs) (across-all ts gs hs x.1 y.1 (omega (arith, l)))

    occurring-across : (t : Closed) (g h : Ground) → Occurs resolved t → StandsFor one.named one.refs t g → StandsFor other.named other.refs t h → g ≡ h
    occurring-across t g h o x y = across t g h x y (occurring-short resolved b.small t o)

    list-same : (ts : List Closed) (gs hs : List Ground) → All (Occurs resolved) ts → AllZip (StandsFor one.named one.refs) ts gs → AllZip (StandsFor other.named other.refs) ts hs → gs ≡ hs
    list-same ts gs hs each p q = zip-once (Occurs resolved) (StandsFor one.named one.refs) (StandsFor other.named other.refs) occurring-across ts gs hs each p q

    -- the rows of a named type that occurs are the same
    named-row-same : (t : Closed) (row row' : NamedRow) → OccursAs is_named resolved t → IsNamedRowOf resolved one t row → IsNamedRowOf resolved other t row' → row ≡ row'
    named-row-same t row row' o r q =
        let both : named row.def row.regions r.args ≡ named row'.def row'.regions q.args = sym r.type ∙ q.type in
        let def : row.def ≡ row'.def = cc in
        let regions : row.regions ≡ row'.regions = cc in
        let given : r.args ≡ q.args = cc in
        let whole : Occurs resolved (named row.def row.regions r.args) = subst (Occurs resolved) r.type o.occurs in
        let args : row.args ≡ row'.args = list-same (listed r.args) row.args row'.args (args-occur resolved b.small row.def row.regions r.args whole) r.given
        (subst (λ cs. AllZip (StandsFor other.named other.refs) (listed cs) row'.args) (sym given) q.given) in
        let fields : AllZip (AllZip (StandsFor other.named other.refs)) (field_types resolved row.def row.regions (listed r.args)) row'.types = rw (def, regions, given) q.fields in
        let types : row.types ≡ row'.types = zip-once (λ ts. All (Occurs resolved) ts) (AllZip (StandsFor one.named one.refs)) (AllZip (StandsFor other.named other.refs)) list-same
        (field_types resolved row.def row.regions (listed r.args)) row.types row'.types (fields-occur resolved b.small row.def row.regions r.args whole) r.fields fields in
        ap (λ z. record { def = z; regions = row.regions; args = row.args; types = row.types }) def
        ∙ ap (λ z. record { def = row'.def; regions = z; args = row.args; types = row.types }) regions
        ∙ ap (λ z. record { def = row'.def; regions = row'.regions; args = z; types = row.types }) args
        ∙ ap (λ z. record { def = row'.def; regions = row'.regions; args = row'.args; types = z }) types

    ref-row-same : (t : Closed) (row row' : RefRow) → OccursAs is_ref resolved t → IsRefRowOf resolved one t row → IsRefRowOf resolved other t row' → row ≡ row'
    ref-row-same t row row' o r q =
        let both : ref row.region row.mutable r.pointee ≡ ref row'.region row'.mutable q.pointee = sym r.type ∙ q.type in
        let region : row.region ≡ row'.region = cc in
        let mutable : row.mutable ≡ row'.mutable = cc in
        let pointees : r.pointee ≡ q.pointee = cc in
        let whole : Occurs resolved (ref row.region row.mutable r.pointee) = subst (Occurs resolved) r.type o.occurs in
        let inner : Occurs resolved r.pointee = occurring-part resolved b.small (ref row.region row.mutable r.pointee) r.pointee whole (contains-first r.pointee []) in
        let types : row.pointee ≡ row'.pointee = occurring-across r.pointee row.pointee row'.pointee inner r.points (subst (λ d. StandsFor other.named other.refs d row'.pointee) (sym pointees) q.points) in
        ap (λ z. record { mutable = z; region = row.region; pointee = row.pointee }) mutable
        ∙ ap (λ z. record { mutable = row'.mutable; region = z; pointee = row.pointee }) region
        ∙ ap (λ z. record { mutable = row'.mutable; region = row'.region; pointee = z }) types

    -- both sides of a question occur
    abbrev IsAsked : OpenAsk → Type 0
    IsAsked asked = Occurs resolved (closed asked.src) × Occurs resolved (closed asked.dst)

    question-same : (asked : OpenAsk) (ask twin : Ask) → IsAsked asked → IsQuestionOf resolved one asked ask → IsQuestionOf resolved other asked twin → ask ≡ twin
    question-same asked ask twin (s, d) q r =
        let src : ask.src ≡ twin.src = occurring-across (closed asked.src) ask.src twin.src s q.src r.src in
        let dst : ask.dst ≡ twin.dst = occurring-across (closed asked.dst) ask.dst twin.dst d q.dst r.dst in
        let assume : ask.assume ≡ twin.assume = sym q.assume ∙ r.assume in
        ap (λ z. record { src = z; dst = ask.dst; assume = ask.assume }) src
        ∙ ap (λ z. record { src = twin.src; dst = z; assume = ask.assume }) dst
        ∙ ap (λ z. record { src = twin.src; dst = twin.dst; assume = z }) assume

    -- two worlds of one file say the same of their types, and ask the same
    pub one-world : AreOneWorld one other
    one-world =
        let profile : one.profile ≡ other.profile = b.profile ∙ sym c.profile in
        let defs : one.defs ≡ other.defs = b.defs ∙ sym c.defs in
        let regions : one.regions ≡ other.regions = b.regions ∙ sym c.regions in
        let bounds : one.bounds ≡ other.bounds = b.bounds ∙ sym c.bounds in
        let rows : one.named ≡ other.named = zip-once (OccursAs is_named resolved) (IsNamedRowOf resolved one) (IsNamedRowOf resolved other) named-row-same b.named_types one.named other.named b.named.each b.named_rows
        (subst (λ ts. AllZip (IsNamedRowOf resolved other) ts other.named) (sym named-same) c.named_rows) in
        let refs : one.refs ≡ other.refs = zip-once (OccursAs is_ref resolved) (IsRefRowOf resolved one) (IsRefRowOf resolved other) ref-row-same b.ref_types one.refs other.refs b.refs.each b.ref_rows
        (subst (λ ts. AllZip (IsRefRowOf resolved other) ts other.refs) (sym refs-same) c.ref_rows) in
        record {
          tables = ap (λ z. record { profile = z; defs = one.defs; regions = one.regions; bounds = one.bounds; named = one.named; refs = one.refs }) profile
              ∙ ap (λ z. record { profile = other.profile; defs = z; regions = one.regions; bounds = one.bounds; named = one.named; refs = one.refs }) defs
              ∙ ap (λ z. record { profile = other.profile; defs = other.defs; regions = z; bounds = one.bounds; named = one.named; refs = one.refs }) regions
              ∙ ap (λ z. record { profile = other.profile; defs = other.defs; regions = other.regions; bounds = z; named = one.named; refs = one.refs }) bounds
              ∙ ap (λ z. record { profile = other.profile; defs = other.defs; regions = other.regions; bounds = other.bounds; named = z; refs = one.refs }) rows
              ∙ ap (λ z. record { profile = other.profile; defs = other.defs; regions = other.regions; bounds = other.bounds; named = other.named; refs = z }) refs;
          questions = zip-once IsAsked (IsQuestionOf resolved one) (IsQuestionOf resolved other) question-same resolved.asks one.questions other.questions (all-asked resolved) b.questions c.questions;
        }
