-- The search for a type that is too deep finds one exactly where one occurs.
use Rattle.std.proofs.Common.{◌≡◌, ℕ, Bool, true, false, ◌||◌, true≢false, zero, suc, refl, sym, ap, subst, ◌∙◌, ⊎_elim, List, [], ◌∷◌, Contains, Some, slice_get, arith}
use Rattle.std.specs.List.{AllZip, flat_map, list_any}
use Rattle.std.proofs.lemmas.Bool.{or_cases, or_from}
use Rattle.std.proofs.lemmas.List.Elements.{All-contains, Contains-append_cases, Contains-append_left, Contains-append_right}
use Rattle.tm_base.specs.declared.ask.Ask.{Ask}
use Rattle.tm_base.specs.declared.definition.NamedRow.{NamedRow}
use Rattle.tm_base.specs.declared.definition.RefRow.{RefRow}
use Rattle.tm_base.specs.declared.definition.RegionId.{RegionId}
use Rattle.tm_base.specs.declared.ground.Ground.{Ground}
use Rattle.tm_base.specs.declared.ground.Ground as ground_is
use Rattle.tm_names.specs.declared.resolved.OpenAsk.{OpenAsk}
use Rattle.tm_names.specs.declared.resolved.Resolved.{Resolved}
use Rattle.tm_ground.specs.Closed.{Closed, Elements, prim, never, tuple, array, nonzero, wrap, named, ref, no_elements, element, closed, listed}
use Rattle.tm_ground.specs.Closing.{AreFound}
use Rattle.tm_ground.specs.Depths.{AreDepths, TellsDepth, is_ask_deep, is_deep, is_row_deep, passes_by}
use Rattle.tm_ground.specs.Limits.{OccursAs, PassesDepth, depth_limit, is_named, is_ref}
use Rattle.tm_ground.specs.Numbered.{IsNumbered, EachNumbered}
use Rattle.tm_ground.specs.Occurs.{Occurs, asked_in, field_types, fields_of, is_asked, is_part, parts_of, sides_of}
use Rattle.tm_ground.specs.Rows.{IsAsk, IsNamedRow, IsRefRow}
use Rattle.tm_ground.proofs.finding.ContainsLemmas.{contains-at, contains-behind, contains-cons, contains-first, contains-nothing, flat_map-contains}
use Rattle.tm_ground.proofs.sizes.DepthLemmas.{agree}
use Rattle.tm_ground.proofs.sizes.ShallowForm.{first-false, second-false}
use Rattle.tm_ground.proofs.sizes.SmallLemmas.{occurring-part}
use Rattle.tm_ground.proofs.numbers.StandsLemmas.{zip-get}
use Rattle.tm_ground.proofs.sizes.TableLemmas.{deep-Array, deep-Tuple, deep-Wrap, deep-alone, deep-itself}
use Rattle.tm_ground.proofs.forms.TypesForm.{written-Prim, written-Never, written-Unit, written-NonZero, written-Named, written-Ref}

module _ (resolved : Resolved) (types refs : List Closed) (whole : AreFound resolved types refs) (tables : List (List Bool)) (depths : AreDepths resolved types depth_limit tables) where
  abbrev deep : Ground → Bool
  deep = is_deep tables

  abbrev passes : Ground → Bool
  passes = passes_by tables depth_limit

  part-occurs : (c d : Closed) → Occurs resolved c → Contains (parts_of resolved c) d → Occurs resolved d
  part-occurs = occurring-part resolved whole.small

  itself : (c : Closed) (g : Ground) → Occurs resolved c → IsNumbered types refs c g → passes g ≡ true → PassesDepth resolved
  itself c g o h e = record { deepest = c; occurs = o; passes = sym (agree resolved types refs depth_limit tables depths depth_limit (omega arith) c g h) ∙ e }

  alone : (c : Closed) (g h : Ground) → Occurs resolved c → IsNumbered types refs c g → g ≡ h → deep h ≡ passes h → deep g ≡ true → PassesDepth resolved
  alone c g h o n e d t = itself c g o n (ap passes e ∙ sym d ∙ ap deep (sym e) ∙ t)

  -- what is found too deep occurs
  mutual
    unfolding IsNumbered

    sound : (c : Closed) (g : Ground) → Occurs resolved c → IsNumbered types refs c g → deep g ≡ true → PassesDepth resolved
    sound (prim p) g o h d = alone (prim p) g _ o h h (deep-alone tables _ (written-Prim p)) d
    sound never g o h d = alone never g _ o h h (deep-alone tables _ written-Never) d
    sound (tuple no_elements) g o h d = alone (tuple no_elements) g _ o h h (deep-alone tables _ written-Unit) d
    sound (tuple (element c cs)) g o (x, xs, e, a, b) d =
        ⊎_elim (λ p. itself (tuple (element c cs)) g o (x, xs, e, a, b) (ap passes e ∙ p))
        (λ r. ⊎_elim (λ p. sound c x (part-occurs (tuple (element c cs)) c o (contains-first c (listed cs))) a p)
        (λ q. each-sound cs xs (λ f i. part-occurs (tuple (element c cs)) f o (contains-behind c (listed cs) f i)) b q) (or_cases (deep x) (list_any deep xs) r))
        (or_cases (passes (ground_is.Tuple (x ∷ xs))) (list_any deep (x ∷ xs)) (sym (deep-Tuple tables (x ∷ xs)) ∙ ap deep (sym e) ∙ d))
    sound (array c n) g o (x, e, a) d =
        ⊎_elim (λ p. itself (array c n) g o (x, e, a) (ap passes e ∙ p)) (λ p. sound c x (part-occurs (array c n) c o (contains-first c [])) a p)
        (or_cases (passes (ground_is.Array x n)) (deep x) (sym (deep-Array tables x n) ∙ ap deep (sym e) ∙ d))
    sound (nonzero p) g o h d = alone (nonzero p) g _ o h h (deep-alone tables _ (written-NonZero p)) d
    sound (wrap w c) g o (x, e, a) d =
        ⊎_elim (λ p. itself (wrap w c) g o (x, e, a) (ap passes e ∙ p)) (λ p. sound c x (part-occurs (wrap w c) c o (contains-first c [])) a p)
        (or_cases (passes (ground_is.Wrap w x)) (deep x) (sym (deep-Wrap tables w x) ∙ ap deep (sym e) ∙ d))
    sound (named def rs args) g o (id, e, at) d = alone (named def rs args) g _ o (id, e, at) e (deep-alone tables _ (written-Named id)) d
    sound (ref r m c) g o (x, e, at) d = alone (ref r m c) g _ o (x, e, at) e (deep-alone tables _ (written-Ref x)) d

    each-sound : (cs : Elements) (gs : List Ground) → ((d : Closed) → Contains (listed cs) d → Occurs resolved d) → EachNumbered types refs cs gs → list_any deep gs ≡ true → PassesDepth resolved
    each-sound no_elements gs o h d = let none : list_any deep gs ≡ false = ap (list_any deep) h in cc
    each-sound (element c cs) [] o h d = absurd h
    each-sound (element c cs) (g ∷ gs) o (a, b) d =
        ⊎_elim (λ p. sound c g (o c (contains-first c (listed cs))) a p) (λ q. each-sound cs gs (λ f i. o f (contains-behind c (listed cs) f i)) b q) (or_cases (deep g) (list_any deep gs) d)

  -- one of two lists that stand beside each other
  zip-sound : {A B : Type 0} (R : A → B → Type 0) (test : B → Bool) (xs : List A) (ys : List B) → AllZip R xs ys
      → ((x : A) (y : B) → Contains xs x → R x y → test y ≡ true → PassesDepth resolved) → list_any test ys ≡ true → PassesDepth resolved
  zip-sound R test [] [] z each d = cc
  zip-sound R test [] (y ∷ ys) z each d = absurd z
  zip-sound R test (x ∷ xs) [] z each d = absurd z
  zip-sound R test (x ∷ xs) (y ∷ ys) z each d =
      ⊎_elim (λ p. each x y (contains-first x xs) z.0 p) (λ q. zip-sound R test xs ys z.1 (λ v w i. each v w (contains-behind x xs v i)) q) (or_cases (test y) (list_any test ys) d)

  list-sound : (cs : List Closed) (gs : List Ground) → ((d : Closed) → Contains cs d → Occurs resolved d) → AllZip (IsNumbered types refs) cs gs → list_any deep gs ≡ true → PassesDepth resolved
  list-sound cs gs o z d = zip-sound (IsNumbered types refs) deep cs gs z (λ c g i h p. sound c g (o c i) h p) d

  module _ (rows : List NamedRow) (ref_rows : List RefRow) (asks : List Ask)
      (of_rows : AllZip (IsNamedRow types refs resolved) types rows) (of_refs : AllZip (IsRefRow types refs) refs ref_rows) (of_asks : AllZip (IsAsk types refs) resolved.asks asks) where
    row-occurs : (c : Closed) (row : NamedRow) → Contains types c → (r : IsNamedRow types refs resolved c row) → Occurs resolved (named row.def row.regions r.args)
    row-occurs c row i r = subst (Occurs resolved) r.type (All-contains (OccursAs is_named resolved) types c whole.rows.all.each i).occurs

    row-sound : (c : Closed) (row : NamedRow) → Contains types c → IsNamedRow types refs resolved c row → is_row_deep tables row ≡ true → PassesDepth resolved
    row-sound c row i r d =
        let o = row-occurs c row i r in
        let t = named row.def row.regions r.args in
        ⊎_elim (λ p. list-sound (listed r.args) row.args (λ f j. part-occurs t f o (Contains-append_left (listed r.args) _ f j)) r.given p)
        (λ q. zip-sound (AllZip (IsNumbered types refs)) (list_any deep) (field_types resolved row.def row.regions (listed r.args)) row.types r.fields
        (λ cs gs k z p. list-sound cs gs (λ f j. part-occurs t f o (Contains-append_right (listed r.args) (fields_of resolved row.def row.regions (listed r.args)) f
        (flat_map-contains (λ ts. ts) (field_types resolved row.def row.regions (listed r.args)) cs f k j))) z p) q)
        (or_cases (list_any deep row.args) (list_any (list_any deep) row.types) d)

    ref-sound : (c : Closed) (row : RefRow) → Contains refs c → IsRefRow types refs c row → deep row.pointee ≡ true → PassesDepth resolved
    ref-sound c row i r d =
        let o = subst (Occurs resolved) r.type (All-contains (OccursAs is_ref resolved) refs c whole.refs.all.each i).occurs in
        sound r.pointee row.pointee (part-occurs (ref row.region row.mutable r.pointee) r.pointee o (contains-first r.pointee [])) r.numbered d

    ask-sound : (asked : OpenAsk) (ask : Ask) → Contains resolved.asks asked → IsAsk types refs asked ask → is_ask_deep tables ask ≡ true → PassesDepth resolved
    ask-sound asked ask i r d =
        let src = closed asked.src in
        let dst = closed asked.dst in
        let side : (c : Closed) → Contains (sides_of asked) c → Occurs resolved c = λ c j. is_asked c (flat_map-contains sides_of resolved.asks asked c i j) in
        ⊎_elim (λ p. sound src ask.src (side src (contains-first src (dst ∷ []))) r.src p) (λ p. sound dst ask.dst (side dst (contains-behind src (dst ∷ []) dst (contains-first dst []))) r.dst p)
        (or_cases (deep ask.src) (deep ask.dst) d)

    -- a type that occurs, by numbers of which nothing is too deep
    abbrev IsClear : Closed → Type 0
    IsClear c = (g : Ground) × IsNumbered types refs c g × (deep g ≡ false)

    zip-clear : (cs : List Closed) (gs : List Ground) (c : Closed) → AllZip (IsNumbered types refs) cs gs → list_any deep gs ≡ false → Contains cs c → IsClear c
    zip-clear [] gs c z d i = absurd (contains-nothing c i)
    zip-clear (x ∷ xs) [] c z d i = absurd z
    zip-clear (x ∷ xs) (g ∷ gs) c z d i =
        ⊎_elim (λ e. (g, subst (λ y. IsNumbered types refs y g) e z.0, first-false _ _ d)) (λ j. zip-clear xs gs c z.1 (second-false (deep g) _ d) j) (contains-cons x xs c i)

    each-clear : (cs : Elements) (gs : List Ground) (c : Closed) → EachNumbered types refs cs gs → list_any deep gs ≡ false → Contains (listed cs) c → IsClear c
    unfolding IsNumbered
    each-clear no_elements gs c z d i = absurd (contains-nothing c i)
    each-clear (element x xs) [] c z d i = absurd z
    each-clear (element x xs) (g ∷ gs) c z d i =
        ⊎_elim (λ e. (g, subst (λ y. IsNumbered types refs y g) e z.0, first-false _ _ d)) (λ j. each-clear xs gs c z.1 (second-false (deep g) _ d) j) (contains-cons x (listed xs) c i)

    lists-clear : (css : List (List Closed)) (gss : List (List Ground)) (c : Closed) → AllZip (AllZip (IsNumbered types refs)) css gss → list_any (list_any deep) gss ≡ false → Contains (flat_map (λ cs. cs) css) c → IsClear c
    lists-clear [] gss c z d i = absurd (contains-nothing c i)
    lists-clear (cs ∷ css) [] c z d i = absurd z
    lists-clear (cs ∷ css) (gs ∷ gss) c z d i =
        ⊎_elim (λ j. zip-clear cs gs c z.0 (first-false _ _ d) j) (λ j. lists-clear css gss c z.1 (second-false (list_any deep gs) _ d) j) (Contains-append_cases cs (flat_map (λ ts. ts) css) c i)

    none-at : {B : Type 0} (test : B → Bool) (ys : List B) (k : ℕ) (y : B) → list_any test ys ≡ false → slice_get ys k ≡ Some y → test y ≡ false
    none-at test [] k y d e = cc
    none-at test (z ∷ ys) zero y d e = let same : z ≡ y = cc in ap test (sym same) ∙ first-false _ _ d
    none-at test (z ∷ ys) (suc k) y d e = none-at test ys k y (second-false (test z) _ d) e

    module _ (rows_clear : list_any (is_row_deep tables) rows ≡ false) (refs_clear : list_any (λ row. deep row.pointee) ref_rows ≡ false) (asks_clear : list_any (is_ask_deep tables) asks ≡ false) where
      named-clear : (c d : Closed) → OccursAs is_named resolved c → Contains (parts_of resolved c) d → IsClear d
      named-clear c d o i =
          let (k, l, at) = contains-at types c (whole.rows.all.complete c o) in
          let (row, there, r) = zip-get (IsNamedRow types refs resolved) types rows k c of_rows at in
          let clear = none-at (is_row_deep tables) rows k row rows_clear there in
          let inside = subst (λ t. Contains (parts_of resolved t) d) r.type i in
          ⊎_elim (λ j. zip-clear (listed r.args) row.args d r.given (first-false _ _ clear) j)
          (λ j. lists-clear (field_types resolved row.def row.regions (listed r.args)) row.types d r.fields (second-false (list_any deep row.args) _ clear) j)
          (Contains-append_cases (listed r.args) (fields_of resolved row.def row.regions (listed r.args)) d inside)

      ref-clear : (region : RegionId) (mutable : Bool) (c : Closed) → Occurs resolved (ref region mutable c) → IsClear c
      ref-clear region mutable c o =
          let (k, l, at) = contains-at refs (ref region mutable c) (whole.refs.all.complete (ref region mutable c) (record { of_kind = refl; occurs = o })) in
          let (row, there, r) = zip-get (IsRefRow types refs) refs ref_rows k (ref region mutable c) of_refs at in
          let one : ref region mutable c ≡ ref row.region row.mutable r.pointee = r.type in
          let same : c ≡ r.pointee = cc in
          (row.pointee, subst (λ x. IsNumbered types refs x row.pointee) (sym same) r.numbered, none-at (λ (x : RefRow). deep x.pointee) ref_rows k row refs_clear there)

      asked-clear : (some : List OpenAsk) (news : List Ask) (c : Closed) → AllZip (IsAsk types refs) some news → list_any (is_ask_deep tables) news ≡ false → Contains (asked_in some) c → IsClear c
      asked-clear [] news c z d i = absurd (contains-nothing c i)
      asked-clear (s ∷ some) [] c z d i = absurd z
      asked-clear (s ∷ some) (n ∷ news) c z d i =
          let sides = first-false (is_ask_deep tables n) _ d in
          ⊎_elim (λ j. zip-clear (sides_of s) (n.src ∷ n.dst ∷ []) c (z.0.src, (z.0.dst, tt)) (or_from _ _ (first-false _ _ sides) (or_from _ _ (second-false (deep n.src) _ sides) refl)) j)
          (λ j. asked-clear some news c z.1 (second-false (is_ask_deep tables n) _ d) j) (Contains-append_cases (sides_of s) (asked_in some) c i)

      clear : (c : Closed) → Occurs resolved c → IsClear c
      unfolding IsNumbered
      clear c (is_asked _ i) = asked-clear resolved.asks asks c of_asks asks_clear i
      clear c (is_part (named def rs args) _ o s i) = named-clear (named def rs args) c (record { of_kind = refl; occurs = o }) i
      clear c (is_part (ref r m d) _ o s i) = ⊎_elim (λ e. subst IsClear e (ref-clear r m d o)) (λ j. absurd (contains-nothing c j)) (contains-cons d [] c i)
      clear c (is_part (tuple no_elements) _ o s i) = absurd (contains-nothing c i)
      clear c (is_part (tuple (element d ds)) _ o s i) =
          let (g, (x, xs, e, a, b), f) = clear (tuple (element d ds)) o in
          each-clear (element d ds) (x ∷ xs) c (a, b) (second-false (passes (ground_is.Tuple (x ∷ xs))) _ (sym (deep-Tuple tables (x ∷ xs)) ∙ ap deep (sym e) ∙ f)) i
      clear c (is_part (array d n) _ o s i) =
          let (g, (x, e, a), f) = clear (array d n) o in
          ⊎_elim (λ q. (x, subst (λ y. IsNumbered types refs y x) q a, second-false (passes (ground_is.Array x n)) _ (sym (deep-Array tables x n) ∙ ap deep (sym e) ∙ f))) (λ j. absurd (contains-nothing c j)) (contains-cons d [] c i)
      clear c (is_part (wrap w d) _ o s i) =
          let (g, (x, e, a), f) = clear (wrap w d) o in
          ⊎_elim (λ q. (x, subst (λ y. IsNumbered types refs y x) q a, second-false (passes (ground_is.Wrap w x)) _ (sym (deep-Wrap tables w x) ∙ ap deep (sym e) ∙ f))) (λ j. absurd (contains-nothing c j)) (contains-cons d [] c i)
      clear c (is_part (prim p) _ o s i) = absurd (contains-nothing c i)
      clear c (is_part never _ o s i) = absurd (contains-nothing c i)
      clear c (is_part (nonzero p) _ o s i) = absurd (contains-nothing c i)

      shallow : (g : Ground) → deep g ≡ false → passes g ≡ false
      shallow g d = by (passes g) refl
        where
          by : (b : Bool) → passes g ≡ b → b ≡ false
          by true e = let t : deep g ≡ true = deep-itself tables g e in cc
          by false e = refl

      none-passes : ¬ PassesDepth resolved
      none-passes = λ p.
          let (g, h, f) = clear p.deepest p.occurs in
          let agreed = agree resolved types refs depth_limit tables depths depth_limit (omega arith) p.deepest g h in
          true≢false (sym (agreed ∙ p.passes) ∙ shallow g f)

    pub tells : (b : Bool) → b ≡ (list_any (is_row_deep tables) rows || list_any (λ row. deep row.pointee) ref_rows || list_any (is_ask_deep tables) asks) → TellsDepth resolved b
    tells true e =
        ⊎_elim (λ r. ⊎_elim (λ p. zip-sound (IsNamedRow types refs resolved) (is_row_deep tables) types rows of_rows row-sound p)
        (λ p. zip-sound (IsRefRow types refs) (λ (row : RefRow). deep row.pointee) refs ref_rows of_refs ref-sound p) (or_cases (list_any (is_row_deep tables) rows) _ r))
        (λ p. zip-sound (IsAsk types refs) (is_ask_deep tables) resolved.asks asks of_asks ask-sound p) (or_cases _ (list_any (is_ask_deep tables) asks) (sym e))
    tells false e =
        let both = first-false (list_any (is_row_deep tables) rows || list_any (λ row. deep row.pointee) ref_rows) _ (sym e) in
        none-passes (first-false (list_any (is_row_deep tables) rows) _ both) (second-false (list_any (is_row_deep tables) rows) _ both) (second-false (list_any (is_row_deep tables) rows || list_any (λ row. deep row.pointee) ref_rows) _ (sym e))
