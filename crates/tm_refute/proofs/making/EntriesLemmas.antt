-- Entries that are made one after another are those of the refutation.
use Rattle.std.proofs.Common.{◌≡◌, ◌∙◌, ◌↔◌, ◌⊎◌, ◌<◌, ◌≤◌, ◌+◌, ℕ, zero, suc, slice_get, Option, Some, None, length, false, inl, inr, sym, ap, subst, Bool, true, IsTrue, nat_lt, ◌==◌, ◌&&◌, ◌||◌, List, [], ◌∷◌, ◌++◌, drop, get_or, take, arith}
use Rattle.std.specs.List.{All, Contains}
use Rattle.std.proofs.lemmas.Bool.{ltb-true, or_cases, and_parts, eqb-true}
use Rattle.std.proofs.lemmas.List.{drop_more, take-append-drop}
use Rattle.std.proofs.lemmas.Option.{slice_get_cases}
use Rattle.std.proofs.lemmas.List.Elements.{All-append, All-cons, All-contains, All-contains_itself, All-head, All-nil, All-tail, All-weaker, Contains-append_cases, Contains-append_left, Contains-append_right}
use Rattle.tm_base.specs.declared.ask.Ask.{Ask}
use Rattle.tm_base.specs.declared.definition.RefRow.{RefRow}
use Rattle.tm_base.specs.declared.assume.Assume.{Assume}
use Rattle.tm_base.specs.declared.cell.Cell.TheVariants.{Ptr}
use Rattle.tm_base.specs.declared.ground.Ground.{Ground}
use Rattle.tm_base.specs.declared.world.World.{World}
use Rattle.tm_base.specs.Answers.{AreJudged as AreTypesJudged}
use Rattle.tm_base.specs.Reaches.{IsJudged}
use Rattle.tm_base.specs.Rules.{source, target}
use Rattle.tm_base.specs.Tables.{Tables, expanded_in, pointee_in}
use Rattle.tm_base.specs.Transmutes.{IsSourceWord}
use Rattle.tm_base.specs.Worlds.{IsTypeOver, tables_of}
use Rattle.tm_laws.proofs.refusals.Worlds.{HasKnownLeaves, leaves-known, pointee-known}
use Rattle.tm_refs.specs.declared.compat.Compat.{Compat}
use Rattle.tm_refs.specs.Local.{AreJudged}
use Rattle.tm_refs.specs.Looks.{has_leaf}
use Rattle.tm_refs.specs.Solved.{FailsFirstAt, IsDepthAnswer, IsSolvedFor, depth_in}
use Rattle.tm_refute.specs.Asking.{IsAskedBy, ProofAsksToo, is_asked}
use Rattle.tm_refute.specs.Chosen.{AreInOrder, Asks, EntryAsks, IsAnswered, IsAskedFor, IsChosenEntry, IsChosenProof, IsFirstRefused, IsRefutationOf, ProofAsks, SomeAsks, comes_before, shown}
use Rattle.tm_base.specs.declared.cell.RefId.{RefId}
use Rattle.tm_refute.specs.Entries.{AreAskedBy, AreEntriesFor, AreJudgedPair, AsksMore, failing_of}
use Rattle.tm_refute.specs.Failing.{AreFailing, AreSorted, fails_before}
use Rattle.tm_refute.specs.declared.refuting.asked.Asked.{Asked}
use Rattle.tm_refute.specs.declared.refuting.failing.Failing.{Failing}
use Rattle.tm_refute.specs.declared.refutation.Entry.{Entry}
use Rattle.tm_refute.specs.declared.refutation.Proof.{Proof}
use Rattle.tm_refute.specs.declared.refutation.Proof.TheVariants.{Local, Forward, Reverse}
use Rattle.tm_refute.specs.declared.refutation.Piece.{Piece}
use Rattle.tm_refute.specs.declared.refutation.Refutation.{Refutation}
use Rattle.tm_refs.proofs.PointeeLemmas.{OnRows-gives, OnRows-of, OnRows-rows, rows-below}
use Rattle.tm_refute.proofs.chosen.LeafLemmas.{known, leaf-judged, shown-leaf}
use Rattle.tm_refute.proofs.chosen.OneLemmas.{depth-one}
use Rattle.tm_refute.proofs.chosen.OrderLemmas.{asks-below, first}

-- ---- order

-- in a sorted list all pairs before one come before it
pub sorted-before : (done rest : List Failing) (p : Failing) → AreSorted (done ++ p ∷ rest) → All (λ q. IsTrue (fails_before q p)) done
sorted-before [] rest p h = All-nil (λ q. IsTrue (fails_before q p))
sorted-before (q ∷ done) rest p h =
    All-cons (λ q. IsTrue (fails_before q p)) q done
    (All-contains (λ r. IsTrue (fails_before q r)) (done ++ p ∷ rest) p h.0 (Contains-append_right done (p ∷ rest) p (first p rest)))
    (sorted-before done rest p h.1)

-- a pair before another doesn't fail at a lesser depth
before-deep : (d e : ℕ) (rest : Bool) → (nat_lt e d || ((d == e) && rest)) ≡ true → e ≤ d
before-deep d e rest h = elim (or_cases (nat_lt e d) ((d == e) && rest) h) [
  | inl less ↦ let l = ltb-true e d less in omega arith
  | inr same ↦ let (a, b) = and_parts (d == e) rest same in let q = eqb-true d e a in omega arith
]

order-append : (entries : List Entry) (e : Entry) → AreInOrder entries → All (λ f. IsTrue (comes_before f e)) entries → AreInOrder (entries ++ e ∷ [])
order-append [] e h before = (All-nil (λ f. IsTrue (comes_before e f)), tt)
order-append (f ∷ entries) e h before = (
  All-append (λ g. IsTrue (comes_before f g)) entries (e ∷ []) h.0
      (All-cons (λ g. IsTrue (comes_before f g)) e [] (All-head (λ f. IsTrue (comes_before f e)) f entries before) (All-nil (λ g. IsTrue (comes_before f g)))),
  order-append entries e h.1 (All-tail (λ f. IsTrue (comes_before f e)) f entries before),
)

-- ---- one pair more

module _ (tables : Tables) (ask : Ask) (top : ℕ → ℕ → Type 0) where
  abbrev Made : List Failing → Asked → List Entry → Type 0
  Made = AreEntriesFor tables ask top

  abbrev By : List Entry → ℕ → ℕ → Type 0
  By = AreAskedBy tables ask

  nothing-in : {X : Type 0} (x : X) → Contains [] x → ⊥
  nothing-in x h = omega (arith, h.1)

  pub none-made : (asked : Asked) → ((r leaf : ℕ) → (is_asked asked r leaf ≡ true) ↔ top r leaf) → Made [] asked []
  none-made asked h = record {
    chosen = All-nil (IsChosenEntry tables ask.assume);
    judged = All-nil (λ e. AreJudgedPair tables e.source.0 e.target.0);
    of_pairs = All-nil (λ e. Contains [] (failing_of e));
    called = All-nil (λ e. top e.source.0 e.target.0 ⊎ By [] e.source.0 e.target.0);
    asked = λ r leaf. (λ a. inl ((h r leaf).0 a), λ b. elim b [ inl t ↦ (h r leaf).1 t | inr s ↦ absurd (nothing-in s.1.0 s.1.1) ]);
    answered = All-nil (λ p. is_asked asked p.source.0 p.target.0 ≡ true → IsAnswered tables ask [] p.source.0 p.target.0 p.depth);
    in_order = tt;
  }

  -- a pair that isn't asked for gets no entry
  pub skipped : (pairs : List Failing) (p : Failing) (asked : Asked) (entries : List Entry) → Made pairs asked entries → is_asked asked p.source.0 p.target.0 ≡ false → Made (pairs ++ p ∷ []) asked entries
  skipped pairs p asked entries m unasked = record {
    chosen = m.chosen;
    judged = m.judged;
    of_pairs = All-weaker (λ e. Contains pairs (failing_of e)) (λ e. Contains (pairs ++ p ∷ []) (failing_of e)) (λ e at. Contains-append_left pairs (p ∷ []) (failing_of e) at) entries m.of_pairs;
    called = m.called;
    asked = m.asked;
    answered = All-append Answered pairs (p ∷ []) m.answered (All-cons Answered p [] (λ is_so. absurd (let none = unasked in cc)) (All-nil Answered));
    in_order = m.in_order;
  }
    where
      Answered : Failing → Type 0
      Answered p = is_asked asked p.source.0 p.target.0 ≡ true → IsAnswered tables ask entries p.source.0 p.target.0 p.depth

  only-one : {X : Type 0} (x y : X) → Contains (x ∷ []) y → x ≡ y
  only-one x y (zero, below, e) = e
  only-one x y (suc k, below, e) = absurd (omega (arith, below))

  -- more entries ask for what some do
  by-more : (entries others : List Entry) (r leaf : ℕ) → By entries r leaf → By (entries ++ others) r leaf
  by-more entries others r leaf (depth, (e, at, asks)) = (depth, (e, Contains-append_left entries others e at, asks))

  by-one : (entries : List Entry) (e : Entry) (r leaf depth : ℕ) → EntryAsks tables ask.assume e r leaf depth → By (entries ++ e ∷ []) r leaf
  by-one entries e r leaf depth asks = (depth, (e, Contains-append_right entries (e ∷ []) e (first e []), asks))

  by-either : (entries : List Entry) (e : Entry) (r leaf : ℕ) → By (entries ++ e ∷ []) r leaf → By entries r leaf ⊎ ((depth : ℕ) × EntryAsks tables ask.assume e r leaf depth)
  by-either entries e r leaf (depth, (f, at, asks)) = elim (Contains-append_cases entries (e ∷ []) f at) [
    | inl there ↦ inl (depth, (f, there, asks))
    | inr last ↦ inr (depth, subst (λ (g : Entry). EntryAsks tables ask.assume g r leaf depth) (sym (only-one e f last)) asks)
  ]

  answered-more : (entries others : List Entry) (r leaf depth : ℕ) → IsAnswered tables ask entries r leaf depth → IsAnswered tables ask (entries ++ others) r leaf depth
  answered-more entries others r leaf depth (e, at, of, same) = (e, Contains-append_left entries others e at, of, same)

  proof-fails : (depth : ℕ) (proof : Proof) (r leaf less : ℕ) (s t : RefRow) → ProofAsks tables ask.assume depth proof r leaf less s t → FailsFirstAt tables ask.assume r leaf less
  proof-fails depth (Local rule) r leaf less s t asks = absurd asks
  proof-fails depth (Forward piece) r leaf less s t asks = asks.fails
  proof-fails depth (Reverse piece) r leaf less s t asks = asks.fails

  -- what an entry asks for fails first at the depth that it asks for
  pub entry-fails : (e : Entry) (r leaf depth : ℕ) → EntryAsks tables ask.assume e r leaf depth → FailsFirstAt tables ask.assume r leaf depth
  entry-fails e r leaf depth asks =
      let (s, t, at_s, at_t, h) = OnRows-rows (slice_get tables.refs e.source.0) (slice_get tables.refs e.target.0) (ProofAsks tables ask.assume e.depth e.proof r leaf depth) asks in
      proof-fails e.depth e.proof r leaf depth s t h

  -- a pair that is asked for gets its entry, which asks for pairs further back alone
  pub made : (pairs : List Failing) (p : Failing) (asked after : Asked) (entries : List Entry) (e : Entry) → Made pairs asked entries
      → All (λ q. IsTrue (fails_before q p)) pairs → All (λ q. FailsFirstAt tables ask.assume q.source.0 q.target.0 q.depth) pairs
      → is_asked asked p.source.0 p.target.0 ≡ true → IsChosenEntry tables ask.assume e → AreJudgedPair tables e.source.0 e.target.0 → failing_of e ≡ p → AsksMore tables ask asked after e
      → Made (pairs ++ p ∷ []) after (entries ++ e ∷ [])
  made pairs p asked after entries e m before fails is_so chosen judged is more = record {
    chosen = All-append (IsChosenEntry tables ask.assume) entries (e ∷ []) m.chosen (All-cons (IsChosenEntry tables ask.assume) e [] chosen (All-nil (IsChosenEntry tables ask.assume)));
    judged = All-append Judged entries (e ∷ []) m.judged (All-cons Judged e [] judged (All-nil Judged));
    of_pairs = All-append Of entries (e ∷ [])
        (All-weaker (λ f. Contains pairs (failing_of f)) Of (λ f at. Contains-append_left pairs (p ∷ []) (failing_of f) at) entries m.of_pairs)
        (All-cons Of e [] (subst (Contains (pairs ++ p ∷ [])) (sym is) (Contains-append_right pairs (p ∷ []) p (first p []))) (All-nil Of));
    called = All-append Called entries (e ∷ [])
        (All-weaker (λ f. top f.source.0 f.target.0 ⊎ By entries f.source.0 f.target.0) Called (λ f c. called-more f c) entries m.called)
        (All-cons Called e [] (called-more e ((m.asked e.source.0 e.target.0).0 (subst (λ (q : Failing). is_asked asked q.source.0 q.target.0 ≡ true) (sym is) is_so))) (All-nil Called));
    asked = λ r leaf. (λ a. asked-so r leaf a, λ b. so-asked r leaf b);
    answered = All-append Answered pairs (p ∷ [])
        (All-weaker (Contains pairs) Answered (λ q at. old-answered q at) pairs (All-contains_itself pairs))
        (All-cons Answered p [] (λ a. (e, Contains-append_right entries (e ∷ []) e (first e []), record { source = ap (λ (q : Failing). q.source.0) is; target = ap (λ (q : Failing). q.target.0) is }, ap (λ (q : Failing). q.depth) is)) (All-nil Answered));
    in_order = order-append entries e m.in_order
        (All-weaker (Contains entries) (λ f. IsTrue (comes_before f e)) (λ f at. earlier f at) entries (All-contains_itself entries));
  }
    where
      Judged : Entry → Type 0
      Judged f = AreJudgedPair tables f.source.0 f.target.0

      Of : Entry → Type 0
      Of f = Contains (pairs ++ p ∷ []) (failing_of f)

      Called : Entry → Type 0
      Called f = top f.source.0 f.target.0 ⊎ By (entries ++ e ∷ []) f.source.0 f.target.0

      Answered : Failing → Type 0
      Answered q = is_asked after q.source.0 q.target.0 ≡ true → IsAnswered tables ask (entries ++ e ∷ []) q.source.0 q.target.0 q.depth

      called-more : (f : Entry) → top f.source.0 f.target.0 ⊎ By entries f.source.0 f.target.0 → Called f
      called-more f (inl t) = inl t
      called-more f (inr b) = inr (by-more entries (e ∷ []) f.source.0 f.target.0 b)

      asked-so : (r leaf : ℕ) → is_asked after r leaf ≡ true → top r leaf ⊎ By (entries ++ e ∷ []) r leaf
      asked-so r leaf a = elim ((more r leaf).0 a) [
        | inl old ↦ elim ((m.asked r leaf).0 old) [
          | inl t ↦ inl t
          | inr b ↦ inr (by-more entries (e ∷ []) r leaf b)
        ]
        | inr new ↦ inr (by-one entries e r leaf new.0 new.1)
      ]

      so-asked : (r leaf : ℕ) → top r leaf ⊎ By (entries ++ e ∷ []) r leaf → is_asked after r leaf ≡ true
      so-asked r leaf (inl t) = (more r leaf).1 (inl ((m.asked r leaf).1 (inl t)))
      so-asked r leaf (inr b) = elim (by-either entries e r leaf b) [
        | inl old ↦ (more r leaf).1 (inl ((m.asked r leaf).1 (inr old)))
        | inr new ↦ (more r leaf).1 (inr new)
      ]

      old-answered : (q : Failing) → Contains pairs q → Answered q
      old-answered q at a = elim ((more q.source.0 q.target.0).0 a) [
        | inl old ↦ answered-more entries (e ∷ []) q.source.0 q.target.0 q.depth (All-contains (λ q. is_asked asked q.source.0 q.target.0 ≡ true → IsAnswered tables ask entries q.source.0 q.target.0 q.depth) pairs q m.answered at old)
        | inr new ↦ absurd (
            let below = asks-below tables ask.assume e q.source.0 q.target.0 new.0 new.1 in
            let same = depth-one tables ask q.source.0 q.target.0 q.depth new.0 (All-contains (λ q. FailsFirstAt tables ask.assume q.source.0 q.target.0 q.depth) pairs q fails at) (entry-fails e q.source.0 q.target.0 new.0 new.1) in
            let here : e.depth ≡ p.depth = ap (λ (q : Failing). q.depth) is in
            let deep = before-deep q.depth p.depth _ (All-contains (λ q. IsTrue (fails_before q p)) pairs q before at) in
            omega (arith, below, same, here, deep))
      ]

      earlier : (f : Entry) → Contains entries f → IsTrue (comes_before f e)
      earlier f at =
          subst (λ (q : Failing). IsTrue (fails_before (failing_of f) q)) (sym is)
          (All-contains (λ q. IsTrue (fails_before q p)) pairs (failing_of f) before (All-contains (λ f. Contains pairs (failing_of f)) entries f m.of_pairs at))

-- ---- what is asked for is one of the world's, and points to judged types

module _ (world : World) where
  abbrev of_world : Tables
  of_world = tables_of world

  row-at : (x : ℕ) → x < length world.refs → (row : RefRow) × (slice_get world.refs x ≡ Some row)
  row-at x less = elim (slice_get_cases world.refs x).1 [
    | inl found ↦ (found.0, found.2)
    | inr (past, none) ↦ absurd (omega (arith, less, past))
  ]

  judged-pair : (g h : Ground) → IsJudged of_world g → IsJudged of_world h → HasKnownLeaves world (expanded_in of_world g) → HasKnownLeaves world (expanded_in of_world h)
      → (piece : Piece) → IsSourceWord (expanded_in of_world g) piece.word → (r leaf place : ℕ) → Contains (shown (expanded_in of_world h) piece) (Ptr (record { 0 = r }) place)
      → has_leaf (expanded_in of_world h) leaf ≡ true → AreJudgedPair of_world r leaf
  judged-pair g h judged_g judged_h known_g known_h piece value r leaf place occurs is_leaf =
      let there = shown-leaf (expanded_in of_world g) (expanded_in of_world h) piece value r place occurs in
      let (s, at_s) = row-at r (known world (expanded_in of_world g) known_g r there) in
      let (t, at_t) = row-at leaf (known world (expanded_in of_world h) known_h leaf is_leaf) in
      OnRows-of (slice_get world.refs r) (slice_get world.refs leaf) s t (AreJudged of_world) at_s at_t
      (record { source = leaf-judged of_world g judged_g r there s at_s; target = leaf-judged of_world h judged_h leaf is_leaf t at_t })

  asked-pair : (assume : Assume) (g h : Ground) → IsJudged of_world g → IsJudged of_world h → HasKnownLeaves world (expanded_in of_world g) → HasKnownLeaves world (expanded_in of_world h)
      → (limit : Option ℕ) (piece : Piece) → IsSourceWord (expanded_in of_world g) piece.word → (r leaf depth : ℕ) → Asks of_world assume limit (expanded_in of_world h) piece r leaf depth → AreJudgedPair of_world r leaf
  asked-pair assume g h judged_g judged_h known_g known_h limit piece value r leaf depth asks =
      judged-pair g h judged_g judged_h known_g known_h piece value r leaf asks.place asks.occurs asks.is_leaf

  proof-pair : (assume : Assume) (depth : ℕ) (proof : Proof) (s t : RefRow) → AreJudged of_world s t → HasKnownLeaves world (pointee_in of_world s) → HasKnownLeaves world (pointee_in of_world t)
      → IsChosenProof of_world assume depth proof s t → (r leaf other : ℕ) → ProofAsks of_world assume depth proof r leaf other s t → AreJudgedPair of_world r leaf
  proof-pair assume depth (Local rule) s t both known_s known_t is r leaf other asks = absurd asks
  proof-pair assume depth (Forward piece) s t both known_s known_t (above, is) r leaf other asks = asked-pair assume s.pointee t.pointee both.source both.target known_s known_t (Some depth) piece is.value r leaf other asks
  proof-pair assume depth (Reverse piece) s t both known_s known_t (above, mutable, every, is) r leaf other asks = asked-pair assume t.pointee s.pointee both.target both.source known_t known_s (Some depth) piece is.value r leaf other asks

  module _ (ask : Ask) (src_over : IsTypeOver of_world ask.src) (dst_over : IsTypeOver of_world ask.dst) (types_judged : AreTypesJudged of_world ask) (unassumed : ask.assume.validity ≡ false)
      (piece : Piece) (first_is : IsFirstRefused of_world ask.assume None (source of_world ask) (target of_world ask) piece)
      (compat : Compat) (solved : IsSolvedFor of_world ask.assume compat) where
    abbrev Top : ℕ → ℕ → Type 0
    Top = IsAskedBy of_world ask.assume None (target of_world ask) piece

    top-pair : (r leaf : ℕ) → Top r leaf → AreJudgedPair of_world r leaf
    top-pair r leaf (depth, asks) =
        asked-pair ask.assume ask.src ask.dst types_judged.source_judged types_judged.target_judged (leaves-known world ask.src src_over) (leaves-known world ask.dst dst_over) None piece first_is.value r leaf depth asks

    entry-pair : (e : Entry) → IsChosenEntry of_world ask.assume e → AreJudgedPair of_world e.source.0 e.target.0 → (r leaf depth : ℕ) → EntryAsks of_world ask.assume e r leaf depth → AreJudgedPair of_world r leaf
    entry-pair e chosen both r leaf depth asks =
        let (s, t, at_s, at_t, is) = OnRows-rows (slice_get world.refs e.source.0) (slice_get world.refs e.target.0) (IsChosenProof of_world ask.assume e.depth e.proof) chosen.proof in
        proof-pair ask.assume e.depth e.proof s t (OnRows-gives (slice_get world.refs e.source.0) (slice_get world.refs e.target.0) s t (AreJudged of_world) at_s at_t both)
        (pointee-known world e.source.0 s at_s) (pointee-known world e.target.0 t at_t) is r leaf depth
        (OnRows-gives (slice_get world.refs e.source.0) (slice_get world.refs e.target.0) s t (ProofAsks of_world ask.assume e.depth e.proof r leaf depth) at_s at_t asks)

    abbrev So : List Failing → Asked → List Entry → Type 0
    So = AreEntriesFor of_world ask Top

    by-pair : (pairs : List Failing) (flags : Asked) (entries : List Entry) → So pairs flags entries → (r leaf : ℕ) → Top r leaf ⊎ AreAskedBy of_world ask entries r leaf → AreJudgedPair of_world r leaf
    by-pair pairs flags entries m r leaf (inl t) = top-pair r leaf t
    by-pair pairs flags entries m r leaf (inr (depth, (e, at, asks))) =
        entry-pair e (All-contains (IsChosenEntry of_world ask.assume) entries e m.chosen at) (All-contains (λ e. AreJudgedPair of_world e.source.0 e.target.0) entries e m.judged at) r leaf depth asks

    -- a pair that is asked for points to judged types
    pub pair-judged : (pairs : List Failing) (flags : Asked) (entries : List Entry) → So pairs flags entries → (r leaf : ℕ) → is_asked flags r leaf ≡ true → AreJudgedPair of_world r leaf
    pair-judged pairs flags entries m r leaf is_so = by-pair pairs flags entries m r leaf ((m.asked r leaf).0 is_so)

    -- a pair that the table says to fail fails first at that depth, and the other way round
    pub told-fails : (r t depth : ℕ) → depth_in compat r t ≡ Some depth → FailsFirstAt of_world ask.assume r t depth
    told-fails r t depth e = subst (IsDepthAnswer of_world ask.assume r t) e (solved.depth r t)

    fails-told : (r t depth : ℕ) → FailsFirstAt of_world ask.assume r t depth → depth_in compat r t ≡ Some depth
    fails-told r t depth fails = by (depth_in compat r t) (solved.depth r t)
      where
        by : (found : Option ℕ) → IsDepthAnswer of_world ask.assume r t found → found ≡ Some depth
        by None all = absurd (fails.fails (all depth))
        by (Some n) h = ap Some (depth-one of_world ask r t n depth h fails)

    -- the entries for all pairs that fail are those of the refutation
    pub finished : (pairs : List Failing) → AreFailing of_world compat pairs → (flags : Asked) (entries : List Entry) → So pairs flags entries
        → IsRefutationOf of_world ask (record { top = piece; entries = entries })
    finished pairs failing flags entries m = record {
      unassumed = unassumed;
      judged = types_judged;
      top = first_is;
      chosen = m.chosen;
      asked = All-weaker (Contains entries) (λ e. IsAskedFor of_world ask x e.source.0 e.target.0 e.depth) called entries (All-contains_itself entries);
      answered = answered;
      in_order = m.in_order;
    }
      where
        x : Refutation
        x = record { top = piece; entries = entries }

        called : (e : Entry) → Contains entries e → IsAskedFor of_world ask x e.source.0 e.target.0 e.depth
        called e at =
            let fails = (All-contains (IsChosenEntry of_world ask.assume) entries e m.chosen at).fails in
            elim (All-contains (λ e. Top e.source.0 e.target.0 ⊎ AreAskedBy of_world ask entries e.source.0 e.target.0) entries e m.called at) [
              | inl t ↦ inl (subst (λ (n : ℕ). Asks of_world ask.assume None (target of_world ask) piece e.source.0 e.target.0 n) (depth-one of_world ask e.source.0 e.target.0 t.0 e.depth t.1.fails fails) t.1)
              | inr b ↦ inr (subst (λ (n : ℕ). SomeAsks of_world ask.assume entries e.source.0 e.target.0 n)
                  (depth-one of_world ask e.source.0 e.target.0 b.0 e.depth (entry-fails of_world ask Top b.1.0 e.source.0 e.target.0 b.0 b.1.2) fails) b.1)
            ]

        answered : (r leaf depth : ℕ) → IsAskedFor of_world ask x r leaf depth → IsAnswered of_world ask entries r leaf depth
        answered r leaf depth h =
            let fails : FailsFirstAt of_world ask.assume r leaf depth = elim h [ inl t ↦ t.fails | inr b ↦ entry-fails of_world ask Top b.0 r leaf depth b.2 ] in
            let by : Top r leaf ⊎ AreAskedBy of_world ask entries r leaf = elim h [ inl t ↦ inl (depth, t) | inr b ↦ inr (depth, b) ] in
            let (within_r, within_t) = rows-below world.refs r leaf (AreJudged of_world) (by-pair pairs flags entries m r leaf by) in
            let at = failing.all r leaf depth within_r within_t (fails-told r leaf depth fails) in
            All-contains (λ p. is_asked flags p.source.0 p.target.0 ≡ true → IsAnswered of_world ask entries p.source.0 p.target.0 p.depth) pairs
            (record { depth = depth; source = record { 0 = r }; target = record { 0 = leaf } }) m.answered at ((m.asked r leaf).1 by)

-- what the proof of an entry asks for the entry asks for
pub entry-asks : (tables : Tables) (ask : Ask) (assume : Assume) → ask.assume ≡ assume → (before after : Asked) (r t : RefId) (depth : ℕ) (proof : Proof) (s u : RefRow)
    → slice_get tables.refs r.0 ≡ Some s → slice_get tables.refs t.0 ≡ Some u → ProofAsksToo tables assume depth proof s u before after
    → AsksMore tables ask before after (record { source = r; target = t; depth = depth; proof = proof })
entry-asks tables ask assume same before after r t depth proof s u at_s at_u too = λ x leaf. (
  λ a. elim ((too.each x leaf).0 a) [
    | inl old ↦ inl old
    | inr new ↦ inr (
      new.0,
      OnRows-of (slice_get tables.refs r.0) (slice_get tables.refs t.0) s u (ProofAsks tables ask.assume depth proof x leaf new.0) at_s at_u
          (subst (λ (a : Assume). ProofAsks tables a depth proof x leaf new.0 s u) (sym same) new.1),
    )
  ],
  λ b. (too.each x leaf).1 (elim b [
    | inl old ↦ inl old
    | inr new ↦ inr (
      new.0,
      subst (λ (a : Assume). ProofAsks tables a depth proof x leaf new.0 s u) same
          (OnRows-gives (slice_get tables.refs r.0) (slice_get tables.refs t.0) s u (ProofAsks tables ask.assume depth proof x leaf new.0) at_s at_u new.1),
    )
  ]),
)

-- the pairs before one of a list come before it
pub before-at : (items : List Failing) (i : ℕ) (d : Failing) → i < length items → AreSorted items → All (λ q. IsTrue (fails_before q (get_or items i d))) (take i items)
before-at items i d less sorted =
    sorted-before (take i items) (drop (i + 1) items) (get_or items i d)
    (subst AreSorted (sym (take-append-drop i items) ∙ ap (λ r. take i items ++ r) (drop_more items i d less)) sorted)

-- each pair of the list fails first at its depth
pub all-fail : (tables : Tables) (assume : Assume) (compat : Compat) → IsSolvedFor tables assume compat → (items : List Failing) → AreFailing tables compat items
    → All (λ q. FailsFirstAt tables assume q.source.0 q.target.0 q.depth) items
all-fail tables assume compat solved items failing =
    All-weaker (λ q. depth_in compat q.source.0 q.target.0 ≡ Some q.depth) (λ q. FailsFirstAt tables assume q.source.0 q.target.0 q.depth)
    (λ q e. subst (IsDepthAnswer tables assume q.source.0 q.target.0) e (solved.depth q.source.0 q.target.0)) items failing.each
