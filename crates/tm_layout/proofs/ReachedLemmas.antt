-- The list of the types that a type reaches, while it is made: what it holds is reached, and what the types
-- at its first places enter stands in it.
use Rattle.std.proofs.Common.{◌≡◌, ℕ, zero, suc, ◌+◌, ◌<◌, ◌≤◌, ◌⊎◌, inl, inr, ⊎_elim, refl, sym, ap, subst, ◌∙◌, Bool, true, false, true≢false, List, [], ◌∷◌, ◌++◌, length, replicate, slice_get, set, get_or, All, Contains, arith, append-nil}
use Rattle.std.specs.Borrow.{Bor}
use Rattle.std.proofs.lemmas.Bool.{cases_eq, cases_lt}
use Rattle.std.proofs.lemmas.List.{get_or-replicate, get_or-set_other, get_or_append_left, get_or-map}
use Rattle.std.proofs.lemmas.List.Elements.{Contains-append_left, Contains-append_right, Contains-append_cases}
use Rattle.std.proofs.lemmas.Option.{slice_get-get_or, slice_get_past}
use Rattle.tm_base.specs.declared.ground.Ground.{Ground, out-Ground}
use Rattle.tm_base.specs.declared.ground.Ground.TheOpen.{Ground-F}
use Rattle.tm_base.specs.Reaches.{Chain, ChainIn, Enters, Reaches, argument_of, row_parts, row_pointee, parts_within, pointees_within, parts_of, pointees_of}
use Rattle.tm_base.specs.Tables.{Tables}
use Rattle.tm_base.proofs.JudgedLemmas.{ChainIn-keeps, Contains-none, Contains-one}
use Rattle.tm_layout.specs.Reached.{AreReached, types_at, is_marked, unlisted, newly_entered, named_after, refs_after}

-- the type behind a reference at a place
pub item-at : (types : List (Bor Ground)) (k : ℕ) (item : Bor Ground) → k < length types → item ≡ get_or types k item → get_or (types_at types) k item.now ≡ item.now
item-at types k item below is = get_or-map (λ (g : Bor Ground). g.now) types k item item.now below ∙ ap (λ (g : Bor Ground). g.now) (sym is)

-- what holds of each type that a list contains holds of all its items
pub All-contained : (P : Ground → Type 0) (types : List Ground) → ((h : Ground) → Contains types h → P h) → All P types
All-contained P types each k d below =
    let one = slice_get-get_or types k d below in
    let other = slice_get-get_or types k (get_or types k d) below in
    let same : get_or types k (get_or types k d) ≡ get_or types k d = cc in
    each (get_or types k d) (k, below, same)

-- a way and one step more
ChainIn-more : {X : Type 0} (Step : X → X → Type 0) (n : ℕ) (a b c : X) → ChainIn Step n a b → Step b c → ChainIn Step (suc n) a c
unfolding ChainIn
ChainIn-more Step zero a b c e step = (c, subst (λ x. Step x c) (sym e) step, refl)
ChainIn-more Step (suc n) a b c (next, first, way) step = (next, first, ChainIn-more Step n next b c way step)

Chain-itself : {X : Type 0} (Step : X → X → Type 0) (a : X) → Chain Step a a
unfolding ChainIn
Chain-itself Step a = (zero, refl)

-- each of some types stands in a list
abbrev pub AreListed : List Ground → List Ground → Type 0
AreListed types more = (h : Ground) → Contains more h → Contains types h

listed-unlisted : (marked : Bool) (types : List Ground) → AreListed types (unlisted marked types)
listed-unlisted true types h at = absurd (Contains-none h at)
listed-unlisted false types h at = at

listed-longer : (types more some : List Ground) → AreListed types some → AreListed (types ++ more) some
listed-longer types more some listed h at = Contains-append_left types more h (listed h at)

-- what a mark says is listed, and what isn't marked is added
listed-marked : (marked : Bool) (types some : List Ground) → (marked ≡ true → AreListed types some) → AreListed (types ++ unlisted marked some) some
listed-marked true types some known h at = Contains-append_left types [] h (known refl h at)
listed-marked false types some known h at = Contains-append_right types some h at

-- what stands in a list stands at that place in a longer one
read-same : (types more : List Ground) (place : ℕ) (h d : Ground) → place < length types → get_or types place h ≡ h → h ≡ get_or (types ++ more) place d
read-same types more place h d below is =
    let first = get_or_append_left types more d place below in
    let one = slice_get-get_or types place d below in
    let other = slice_get-get_or types place h below in
    cc

-- places that are marked after one was: that one, and those that were marked before
pub marked-set : (marks : List Bool) (place k : ℕ) → is_marked (set marks place true) k ≡ true → (k ≡ place) ⊎ (is_marked marks k ≡ true)
marked-set marks place k h =
    ⊎_elim (λ (e : k ≡ place). inl e) (λ (ne : k ≡ place → ⊥). inr (sym (get_or-set_other marks place k true true ne) ∙ h)) (cases_eq k place)

-- where no place is marked, what is past the marks counts as marked
pub unmarked-past : (count k : ℕ) → is_marked (replicate count false) k ≡ true → count ≤ k
unmarked-past count k h =
    ⊎_elim (λ (l : k < count). absurd (true≢false (sym h ∙ get_or-replicate count k false true l))) (λ (l : count ≤ k). l) (cases_lt k count)

module _ (tables : Tables) where
  -- what a type enters, by its form
  abbrev pub entries : Ground-F Ground → List Ground
  entries x = parts_within tables.named x ++ pointees_within tables.refs x

  abbrev fields : ℕ → List Ground
  fields k = row_parts (slice_get tables.named k)

  abbrev pointee : ℕ → List Ground
  pointee k = row_pointee (slice_get tables.refs k)

  -- what is added for a type is entered from it
  added-entered : (named refs : List Bool) (x : Ground-F Ground) → AreListed (entries x) (newly_entered tables named refs x)
  added-entered named refs (Ground-F.Prim p) h at = at
  added-entered named refs Ground-F.Never h at = at
  added-entered named refs Ground-F.Unit h at = at
  added-entered named refs (Ground-F.Tuple gs) h at = Contains-append_left gs [] h at
  added-entered named refs (Ground-F.Array g n) h at = Contains-append_left (g ∷ []) [] h at
  added-entered named refs (Ground-F.Named id) h at = Contains-append_left (fields id.0) [] h (listed-unlisted (is_marked named id.0) (fields id.0) h at)
  added-entered named refs (Ground-F.NonZero p) h at = at
  added-entered named refs (Ground-F.Wrap w g) h at = Contains-append_left (argument_of w g) [] h at
  added-entered named refs (Ground-F.Ref r) h at = listed-unlisted (is_marked refs r.0) (pointee r.0) h at

  -- the fields and the pointees of all that is marked are listed
  pub record AreMarked (named refs : List Bool) (types : List Ground) : Type 0 where
    pub fields : (k : ℕ) → is_marked named k ≡ true → AreListed types (fields k)
    pub pointees : (k : ℕ) → is_marked refs k ≡ true → AreListed types (pointee k)

  without_nil : (types some : List Ground) → AreListed types some → AreListed types (some ++ [])
  without_nil types some listed h at = listed h (subst (λ (l : List Ground). Contains l h) (append-nil some) at)

  -- then what the type enters is listed
  entered-listed : (named refs : List Bool) (types : List Ground) → AreMarked named refs types → (x : Ground-F Ground) → AreListed (types ++ newly_entered tables named refs x) (entries x)
  entered-listed named refs types marked (Ground-F.Prim p) h at = absurd (Contains-none h at)
  entered-listed named refs types marked Ground-F.Never h at = absurd (Contains-none h at)
  entered-listed named refs types marked Ground-F.Unit h at = absurd (Contains-none h at)
  entered-listed named refs types marked (Ground-F.Tuple gs) h at = without_nil (types ++ gs) gs (λ k in_it. Contains-append_right types gs k in_it) h at
  entered-listed named refs types marked (Ground-F.Array g n) h at = Contains-append_right types (g ∷ []) h at
  entered-listed named refs types marked (Ground-F.Named id) h at =
      without_nil (types ++ unlisted (is_marked named id.0) (fields id.0)) (fields id.0) (listed-marked (is_marked named id.0) types (fields id.0) (marked.fields id.0)) h at
  entered-listed named refs types marked (Ground-F.NonZero p) h at = absurd (Contains-none h at)
  entered-listed named refs types marked (Ground-F.Wrap w g) h at = without_nil (types ++ argument_of w g) (argument_of w g) (λ k in_it. Contains-append_right types (argument_of w g) k in_it) h at
  entered-listed named refs types marked (Ground-F.Ref r) h at = listed-marked (is_marked refs r.0) types (pointee r.0) (marked.pointees r.0) h at

  marked-longer : (named refs : List Bool) (types more : List Ground) → AreMarked named refs types → AreMarked named refs (types ++ more)
  marked-longer named refs types more marked = record {
    fields = λ k m. listed-longer types more (fields k) (marked.fields k m);
    pointees = λ k m. listed-longer types more (pointee k) (marked.pointees k m);
  }

  -- and so are the fields and the pointees of what is marked after it
  marked-after : (named refs : List Bool) (types : List Ground) → AreMarked named refs types → (x : Ground-F Ground)
      → AreMarked (named_after named x) (refs_after refs x) (types ++ newly_entered tables named refs x)
  marked-after named refs types marked (Ground-F.Named id) =
      let more = unlisted (is_marked named id.0) (fields id.0) in
      record {
        fields = λ k m. ⊎_elim
            (λ (e : k ≡ id.0). subst (λ (n : ℕ). AreListed (types ++ more) (fields n)) (sym e) (listed-marked (is_marked named id.0) types (fields id.0) (marked.fields id.0)))
            (λ (was : is_marked named k ≡ true). listed-longer types more (fields k) (marked.fields k was))
            (marked-set named id.0 k m);
        pointees = λ k m. listed-longer types more (pointee k) (marked.pointees k m);
      }
  marked-after named refs types marked (Ground-F.Ref r) =
      let more = unlisted (is_marked refs r.0) (pointee r.0) in
      record {
        fields = λ k m. listed-longer types more (fields k) (marked.fields k m);
        pointees = λ k m. ⊎_elim
            (λ (e : k ≡ r.0). subst (λ (n : ℕ). AreListed (types ++ more) (pointee n)) (sym e) (listed-marked (is_marked refs r.0) types (pointee r.0) (marked.pointees r.0)))
            (λ (was : is_marked refs k ≡ true). listed-longer types more (pointee k) (marked.pointees k was))
            (marked-set refs r.0 k m);
      }
  marked-after named refs types marked (Ground-F.Prim p) = marked-longer named refs types [] marked
  marked-after named refs types marked Ground-F.Never = marked-longer named refs types [] marked
  marked-after named refs types marked Ground-F.Unit = marked-longer named refs types [] marked
  marked-after named refs types marked (Ground-F.Tuple gs) = marked-longer named refs types gs marked
  marked-after named refs types marked (Ground-F.Array g n) = marked-longer named refs types (g ∷ []) marked
  marked-after named refs types marked (Ground-F.NonZero p) = marked-longer named refs types [] marked
  marked-after named refs types marked (Ground-F.Wrap w g) = marked-longer named refs types (argument_of w g) marked

module _ (tables : Tables) (g : Ground) where
  -- the list so far: what the types before a place enter is listed
  pub record IsReaching (place : ℕ) (named refs : List Bool) (types : List Ground) : Type 0 where
    pub first : Contains types g
    pub each : (h : Ground) → Contains types h → Reaches tables g h
    pub followed : (k : ℕ) (d : Ground) → k < place → k < length types → AreListed types (entries tables (out-Ground (get_or types k d)))
    pub marked : AreMarked tables named refs types

  none-marked : AreMarked tables (replicate (length tables.named) false) (replicate (length tables.refs) false) (g ∷ [])
  none-marked = record {
    fields = λ k m h at. absurd (Contains-none h (subst (λ row. Contains (row_parts row) h) (slice_get_past tables.named k (unmarked-past (length tables.named) k m)) at));
    pointees = λ k m h at. absurd (Contains-none h (subst (λ row. Contains (row_pointee row) h) (slice_get_past tables.refs k (unmarked-past (length tables.refs) k m)) at));
  }

  pub reaching-begins : (named refs : List Bool) (types : List Ground) → named ≡ replicate (length tables.named) false → refs ≡ replicate (length tables.refs) false → types ≡ g ∷ [] → IsReaching 0 named refs types
  reaching-begins named refs types of_named of_refs of_types = rw (of_named, of_refs, of_types) record {
    first = (0, omega arith, refl);
    each = λ h at. subst (λ x. Reaches tables g x) (Contains-one g h at) (Chain-itself (Enters tables) g);
    followed = λ k d l. absurd (omega (arith, l));
    marked = none-marked;
  }

  reached-more : (a b : Ground) → Reaches tables g a → Enters tables a b → Reaches tables g b
  reached-more a b (n, way) step = (suc n, ChainIn-more (Enters tables) n g a b way step)

  -- what the types before a place enter is listed
  abbrev AreFollowed : ℕ → List Ground → Type 0
  AreFollowed place types = (k : ℕ) (d : Ground) → k < place → k < length types → AreListed types (entries tables (out-Ground (get_or types k d)))

  followed-more : (place : ℕ) (types more : List Ground) (h : Ground) → AreFollowed place types → place < length types → get_or types place h ≡ h
      → AreListed (types ++ more) (entries tables (out-Ground h)) → AreFollowed (place + 1) (types ++ more)
  followed-more place types more h followed below is listed k d l l' =
      ⊎_elim
      (λ (before : k < place).
      let old = get_or_append_left types more d k (omega arith) in
      rw old (listed-longer types more (entries tables (out-Ground (get_or types k d))) (followed k d before (omega arith))))
      (λ (after : place ≤ k).
      let last : place ≡ k = omega arith in
      subst (λ x. AreListed (types ++ more) (entries tables (out-Ground x))) (read-same types more place h d below is ∙ ap (λ n. get_or (types ++ more) n d) last) listed)
      (cases_lt k place)

  pub reaching-step : (place : ℕ) (named refs : List Bool) (types : List Ground) (h : Ground) (named' refs' : List Bool) (types' : List Ground)
      → IsReaching place named refs types → place < length types → get_or types place h ≡ h
      → named' ≡ named_after named (out-Ground h) → refs' ≡ refs_after refs (out-Ground h) → types' ≡ types ++ newly_entered tables named refs (out-Ground h)
      → IsReaching (place + 1) named' refs' types'
  reaching-step place named refs types h named' refs' types' reaching below is of_named of_refs of_types = rw (of_named, of_refs, of_types) record {
    first = Contains-append_left types more g reaching.first;
    each = λ k at. ⊎_elim
        (reaching.each k)
        (λ (new : Contains more k). reached-more h k (reaching.each h (place, below, is)) (added-entered tables named refs (out-Ground h) k new))
        (Contains-append_cases types more k at);
    followed = followed-more place types more h reaching.followed below is (entered-listed tables named refs types reaching.marked (out-Ground h));
    marked = marked-after tables named refs types reaching.marked (out-Ground h);
  } where
    more : List Ground
    more = newly_entered tables named refs (out-Ground h)

  -- nothing is left to follow: each type that is reached is listed
  pub reaching-ends : (place : ℕ) (named refs : List Bool) (types : List Ground) → IsReaching place named refs types → length types ≤ place → AreReached tables g types
  reaching-ends place named refs types reaching above = record {
    each = reaching.each;
    all = λ h way. ChainIn-keeps (Enters tables) (λ k. Contains types k) closed way.0 g h reaching.first way.1;
  } where
    closed : (a b : Ground) → Contains types a → Enters tables a b → Contains types b
    closed a b (k, below, is) step =
        reaching.followed k a (omega arith) below b (subst (λ x. Contains (parts_of tables x ++ pointees_of tables x) b) (sym is) step)
