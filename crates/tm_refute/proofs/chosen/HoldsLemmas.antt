-- The refutation of a question holds: its pieces break their types where the pairs of entries alone fail, and the references
-- of its entries have judged pointees.
use Rattle.std.proofs.Common.{ℕ, inl, inr, Option, Some, None, List, length, slice_get}
use Rattle.std.specs.List.{Contains}
use Rattle.std.proofs.lemmas.List.Elements.{All-contains, All-contains_itself, All-weaker}
use Rattle.tm_base.specs.declared.ask.Ask.{Ask}
use Rattle.tm_base.specs.declared.cell.Cell.{Cell}
use Rattle.tm_base.specs.declared.cell.Cell.TheVariants.{Byte, Uninit, Ptr}
use Rattle.tm_base.specs.declared.definition.RefRow.{RefRow}
use Rattle.tm_base.specs.declared.ground.Ground.{Ground}
use Rattle.tm_base.specs.declared.world.World.{World}
use Rattle.tm_base.specs.Answers.{Casts}
use Rattle.tm_base.specs.Expanded.{Expanded}
use Rattle.tm_base.specs.Reaches.{IsJudged}
use Rattle.tm_base.specs.Rules.{Taken, source, target}
use Rattle.tm_base.specs.Tables.{Tables, OnRows, expanded_in, pointee_in}
use Rattle.tm_base.specs.Transmutes.{IsSourceWord}
use Rattle.tm_base.specs.Worlds.{IsTypeOver, tables_of}
use Rattle.tm_base.proofs.ValidLemmas.{Valid-grows}
use Rattle.tm_laws.proofs.refusals.Worlds.{HasKnownLeaves, leaves-known, pointee-known, source-within}
use Rattle.tm_laws.proofs.known.WordSearchLemmas.{IsWithin}
use Rattle.tm_refs.specs.Local.{AreJudged}
use Rattle.tm_refs.proofs.PointeeLemmas.{OnRows-gives, OnRows-of, OnRows-rows}
use Rattle.tm_refute.specs.Chosen.{Asks, HoldsBelow, IsAnswered, IsChosenEntry, IsChosenProof, IsFirstRefused, IsRefutable, IsRefutationOf, ProofAsks}
use Rattle.tm_refute.specs.Refutes.{Breaks, FailsAt, Holds, IsKnown, IsShown, Refutes}
use Rattle.tm_refute.specs.declared.refutation.Entry.{Entry}
use Rattle.tm_refute.specs.declared.refutation.Piece.{Piece}
use Rattle.tm_refute.specs.declared.refutation.Proof.{Proof}
use Rattle.tm_refute.specs.declared.refutation.Proof.TheVariants.{Local, Forward, Reverse}
use Rattle.tm_refute.specs.declared.refutation.Refutation.{Refutation}
use Rattle.tm_refute.proofs.chosen.LeafLemmas.{leaf-judged, shown-leaf}
use Rattle.tm_refute.proofs.chosen.OrderLemmas.{falling}
use Rattle.tm_refute.proofs.chosen.StopLemmas.{stops}

-- a question that has a refutation is refutable
pub is-refutable : (tables : Tables) (ask : Ask) (x : Refutation) → IsRefutationOf tables ask x → IsRefutable tables ask
is-refutable tables ask x a = record { unassumed = a.unassumed; judged = a.judged; refused = refused } where
  refused : ¬ Casts tables ask
  refused (inl none) = none x.top.word a.top.value
  refused (inr (inl (e, every))) =
      a.top.misfit (Valid-grows (Taken tables ask) (HoldsBelow tables ask.assume None) ask.assume.safety ask.assume.safety (λ r t h depth below. h depth) (λ h. h) (target tables ask) _ (every x.top.word a.top.value))
  refused (inr (inr (e, some))) = let f = a.unassumed in cc

module _ (tables : Tables) (ask : Ask) where
  -- both pointees of the entry are judged
  abbrev AreJudgedOf : Entry → Type 0
  AreJudgedOf e = OnRows (slice_get tables.refs e.source.0) (slice_get tables.refs e.target.0) (AreJudged tables)

  -- so they are of what a piece of judged types asks for
  asked-judged : (g h : Ground) → IsJudged tables g → IsJudged tables h → (limit : Option ℕ) (piece : Piece) → IsSourceWord (expanded_in tables g) piece.word
      → (e : Entry) → IsChosenEntry tables ask.assume e → Asks tables ask.assume limit (expanded_in tables h) piece e.source.0 e.target.0 e.depth → AreJudgedOf e
  asked-judged g h judged_g judged_h limit piece value e chosen asks =
      let (r, t, at_r, at_t, _) = OnRows-rows _ _ (IsChosenProof tables ask.assume e.depth e.proof) chosen.proof in
      let leaf = shown-leaf (expanded_in tables g) (expanded_in tables h) piece value e.source.0 asks.place asks.occurs in
      OnRows-of _ _ r t (AreJudged tables) at_r at_t (record { source = leaf-judged tables g judged_g e.source.0 leaf r at_r; target = leaf-judged tables h judged_h e.target.0 asks.is_leaf t at_t })

  -- and of what a proof about judged pointees asks for
  proof-judged : (depth : ℕ) (proof : Proof) (s t : RefRow) → AreJudged tables s t → IsChosenProof tables ask.assume depth proof s t
      → (e : Entry) → IsChosenEntry tables ask.assume e → ProofAsks tables ask.assume depth proof e.source.0 e.target.0 e.depth s t → AreJudgedOf e
  proof-judged depth (Local rule) s t both is e chosen asks = absurd asks
  proof-judged depth (Forward piece) s t both (above, is) e chosen asks = asked-judged s.pointee t.pointee both.source both.target (Some depth) piece is.value e chosen asks
  proof-judged depth (Reverse piece) s t both (above, mutable, every, is) e chosen asks = asked-judged t.pointee s.pointee both.target both.source (Some depth) piece is.value e chosen asks

  module _ (x : Refutation) (a : IsRefutationOf tables ask x) where
    chosen-at : (e : Entry) → Contains x.entries e → IsChosenEntry tables ask.assume e
    chosen-at e at = All-contains (IsChosenEntry tables ask.assume) x.entries e a.chosen at

    pub entries-judged : (e : Entry) → Contains x.entries e → AreJudgedOf e
    entries-judged =
        falling tables ask x AreJudgedOf a.asked (λ e at asks. asked-judged ask.src ask.dst a.judged.source_judged a.judged.target_judged None x.top a.top.value e (chosen-at e at) asks)
        (λ e f at among both asks.
        let (s, t, at_s, at_t, is) = OnRows-rows _ _ (IsChosenProof tables ask.assume f.depth f.proof) (chosen-at f among).proof in
        proof-judged f.depth f.proof s t (OnRows-gives _ _ s t (AreJudged tables) at_s at_t both) is e (chosen-at e at)
        (OnRows-gives _ _ s t (ProofAsks tables ask.assume f.depth f.proof e.source.0 e.target.0 e.depth) at_s at_t asks))

module _ (world : World) (ask : Ask) (entries : List Entry) where
  abbrev tables : Tables
  tables = tables_of world

  cell-known : (c : Cell) → IsWithin (length world.refs) c → IsKnown (length world.refs) c
  cell-known (Byte b) h = tt
  cell-known Uninit h = tt
  cell-known (Ptr r k) (below, short) = below

  -- what is refused first breaks the types, where entries answer for what it asks
  breaks : (limit : Option ℕ) (s t : Expanded) → HasKnownLeaves world s → (piece : Piece) → IsFirstRefused tables ask.assume limit s t piece
      → ((r leaf n : ℕ) → Asks tables ask.assume limit t piece r leaf n → IsAnswered tables ask entries r leaf n) → Breaks tables ask.assume entries limit s t piece
  breaks limit s t known piece first answered = record {
    known = All-weaker (IsWithin (length world.refs)) (IsKnown (length world.refs)) cell-known piece.word (source-within world s known piece.word first.value);
    value = first.value;
    stops = stops tables ask limit entries s t piece first answered;
  }

  proof-shown : (depth : ℕ) (proof : Proof) (s t : RefRow) → HasKnownLeaves world (pointee_in tables s) → HasKnownLeaves world (pointee_in tables t) → IsChosenProof tables ask.assume depth proof s t
      → ((r leaf n : ℕ) → ProofAsks tables ask.assume depth proof r leaf n s t → IsAnswered tables ask entries r leaf n) → IsShown tables ask.assume entries depth proof s t
  proof-shown depth (Local rule) s t known_s known_t is answered = is
  proof-shown depth (Forward piece) s t known_s known_t (above, is) answered = (above, breaks (Some depth) (pointee_in tables s) (pointee_in tables t) known_s piece is answered)
  proof-shown depth (Reverse piece) s t known_s known_t (above, mutable, every, is) answered =
      (above, mutable, breaks (Some depth) (pointee_in tables t) (pointee_in tables s) known_t piece is answered)

-- the refutation of a question about a type of the world holds
pub chosen-refutes : (world : World) (ask : Ask) (x : Refutation) → IsTypeOver (tables_of world) ask.src → IsRefutationOf (tables_of world) ask x → Refutes (tables_of world) ask x
chosen-refutes world ask x over a = record {
  unassumed = a.unassumed;
  judged = a.judged;
  top = breaks world ask x.entries None (source (tables_of world) ask) (target (tables_of world) ask) (leaves-known world ask.src over) x.top a.top (λ r leaf n asks. a.answered r leaf n (inl asks));
  entries = All-weaker (Contains x.entries) (Holds (tables_of world) ask.assume x.entries) holds x.entries (All-contains_itself x.entries);
} where
  holds : (e : Entry) → Contains x.entries e → Holds (tables_of world) ask.assume x.entries e
  holds e at =
      let chosen = All-contains (IsChosenEntry (tables_of world) ask.assume) x.entries e a.chosen at in
      let (s, t, at_s, at_t, is) = OnRows-rows _ _ (IsChosenProof (tables_of world) ask.assume e.depth e.proof) chosen.proof in
      let both = OnRows-gives _ _ s t (AreJudged (tables_of world)) at_s at_t (entries-judged (tables_of world) ask x a e at) in
      OnRows-of _ _ s t (FailsAt (tables_of world) ask.assume x.entries e.depth e.proof) at_s at_t (record {
        source = both.source;
        target = both.target;
        shown =
            proof-shown world ask x.entries e.depth e.proof s t (pointee-known world e.source.0 s at_s) (pointee-known world e.target.0 t at_t) is
            (λ r leaf n asks. a.answered r leaf n (inr (e, at, OnRows-of _ _ s t (ProofAsks (tables_of world) ask.assume e.depth e.proof r leaf n) at_s at_t asks)));
      })
