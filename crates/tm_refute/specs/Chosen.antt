-- Which refutation a question has: at the top and in each entry the word that is refused first, and as many entries as
-- these words ask for. So a question has one at most. This project's.
use Rattle.std.specs.Prelude.{◌≡◌, ℕ, ◌+◌, ◌<◌, ◌≤◌, ◌⊎◌, ◌==◌, ◌&&◌, ◌||◌, nat_lt, Bool, true, false, IsTrue, Option, Some, None, List, [], ◌∷◌, All, Contains, take, slice_get}
use Rattle.tm_base.specs.declared.ask.Ask.{Ask}
use Rattle.tm_base.specs.declared.assume.Assume.{Assume}
use Rattle.tm_base.specs.declared.cell.Cell.TheVariants.{Ptr}
use Rattle.tm_base.specs.declared.definition.RefRow.{RefRow}
use Rattle.tm_base.specs.Answers.{AreJudged, Casts}
use Rattle.tm_base.specs.Cells.{Word, fit}
use Rattle.tm_base.specs.Compatible.{CompatibleTo, IsLocalFault}
use Rattle.tm_base.specs.Expanded.{Expanded}
use Rattle.tm_base.specs.Layout.{size_of}
use Rattle.tm_base.specs.Orders.{word_less}
use Rattle.tm_base.specs.Rules.{source, target}
use Rattle.tm_base.specs.Tables.{Tables, OnRows, pointee_in}
use Rattle.tm_base.specs.Transmutes.{IsSourceWord, Fits, EveryWordFits}
use Rattle.tm_base.specs.Viable.{HasWord, RefusesAt}
use Rattle.tm_refs.specs.Looks.{has_leaf}
use Rattle.tm_refs.specs.Solved.{FailsFirstAt}
use Rattle.tm_refute.specs.Refutes.{IsBelow, IsOf}
use Rattle.tm_refute.specs.declared.refutation.Entry.{Entry}
use Rattle.tm_refute.specs.declared.refutation.Piece.{Piece}
use Rattle.tm_refute.specs.declared.refutation.Proof.{Proof}
use Rattle.tm_refute.specs.declared.refutation.Proof.TheVariants.{Local, Forward, Reverse}
use Rattle.tm_refute.specs.declared.refutation.Refutation.{Refutation}

-- the cells of a word that a piece shows, as the type reads them: up to the offset, and with the one there
abbrev pub shown : Expanded → Piece → Word
shown t piece = take (piece.offset + 1) (fit piece.word (size_of t))

module _ (tables : Tables) (assume : Assume) (limit : Option ℕ) where
  -- two references go together for all that is asked at depths below the limit
  abbrev pub HoldsBelow : ℕ → ℕ → Type 0
  HoldsBelow r t = (depth : ℕ) → IsBelow limit depth → CompatibleTo tables assume depth r t

  module _ (s t : Expanded) where
    -- the target goes along with so many cells of the word, and not with one more
    abbrev pub IsRefusedAt : Word → ℕ → Type 0
    IsRefusedAt = RefusesAt HoldsBelow assume.safety t

    -- no word of the source is refused at a lesser offset, and none that is less at this one
    abbrev pub IsLeastRefused : Word → ℕ → Type 0
    IsLeastRefused w o = (v : Word) (p : ℕ) → IsSourceWord s v → IsRefusedAt v p → (o ≤ p) × (p ≡ o → word_less v w ≡ false)

    -- no word of the source is less
    abbrev pub IsLeastWord : Word → Type 0
    IsLeastWord w = (v : Word) → IsSourceWord s v → word_less v w ≡ false

    -- A word of the source that isn't one of the target: where the target has words the one that it refuses first, at
    -- the offset, and of such the least; where it has none the least of all, at its first cell.
    pub record IsFirstRefused (piece : Piece) : Type 0 where
      pub value : IsSourceWord s piece.word
      pub misfit : ¬ Fits HoldsBelow assume.safety t piece.word
      pub refused : HasWord HoldsBelow assume.safety t → IsRefusedAt piece.word piece.offset × IsLeastRefused piece.word piece.offset
      pub without_words : ¬ HasWord HoldsBelow assume.safety t → (piece.offset ≡ 0) × IsLeastWord piece.word

  -- A piece asks why two references fail: the one occurs in the cells that it shows, the other is a leaf of the target,
  -- and this is the first depth at which they fail, below the limit.
  pub record Asks (t : Expanded) (piece : Piece) (r leaf depth : ℕ) : Type 0 where
    pub place : ℕ
    pub occurs : Contains (shown t piece) (Ptr (record { 0 = r }) place)
    pub is_leaf : has_leaf t leaf ≡ true
    pub fails : FailsFirstAt tables assume r leaf depth
    pub below : IsBelow limit depth

-- falling by depth, then rising by source, then by target
abbrev pub comes_before : Entry → Entry → Bool
comes_before e f =
    nat_lt f.depth e.depth
    || ((e.depth == f.depth) && (nat_lt e.source.0 f.source.0 || ((e.source.0 == f.source.0) && nat_lt e.target.0 f.target.0)))

abbrev pub AreInOrder : List Entry → Type 0
AreInOrder [] = Unit {0}
AreInOrder (e ∷ es) = All (λ f. IsTrue (comes_before e f)) es × AreInOrder es

module _ (tables : Tables) (assume : Assume) where
  -- The proof that two references fail at a depth: the first local rule that they break; or a piece that is refused
  -- first for what is asked at lesser depths, forward where a value is refused so, and else back.
  abbrev pub IsChosenProof : ℕ → Proof → RefRow → RefRow → Type 0
  IsChosenProof depth (Local rule) r t = (depth ≡ 0) × IsLocalFault tables assume r t rule
  IsChosenProof depth (Forward piece) r t = (0 < depth) × IsFirstRefused tables assume (Some depth) (pointee_in tables r) (pointee_in tables t) piece
  IsChosenProof depth (Reverse piece) r t =
      (0 < depth) × (t.mutable ≡ true)
      × EveryWordFits (HoldsBelow tables assume (Some depth)) assume.safety (pointee_in tables r) (pointee_in tables t)
      × IsFirstRefused tables assume (Some depth) (pointee_in tables t) (pointee_in tables r) piece

  -- the entry's references fail first at its depth, and this is why
  pub record IsChosenEntry (entry : Entry) : Type 0 where
    pub fails : FailsFirstAt tables assume entry.source.0 entry.target.0 entry.depth
    pub proof : OnRows (slice_get tables.refs entry.source.0) (slice_get tables.refs entry.target.0) (IsChosenProof entry.depth entry.proof)

  -- what a proof at a depth asks for: its piece does, of the type that refuses it
  abbrev pub ProofAsks : ℕ → Proof → (r leaf other : ℕ) → RefRow → RefRow → Type 0
  ProofAsks depth (Local rule) r leaf other s t = ⊥
  ProofAsks depth (Forward piece) r leaf other s t = Asks tables assume (Some depth) (pointee_in tables t) piece r leaf other
  ProofAsks depth (Reverse piece) r leaf other s t = Asks tables assume (Some depth) (pointee_in tables s) piece r leaf other

  abbrev pub EntryAsks : Entry → (r leaf depth : ℕ) → Type 0
  EntryAsks entry r leaf depth =
      OnRows (slice_get tables.refs entry.source.0) (slice_get tables.refs entry.target.0) (ProofAsks entry.depth entry.proof r leaf depth)

  -- some of the entries asks
  abbrev pub SomeAsks : List Entry → (r leaf depth : ℕ) → Type 0
  SomeAsks entries r leaf depth = (entry : Entry) × Contains entries entry × EntryAsks entry r leaf depth

module _ (tables : Tables) (ask : Ask) where
  -- the question has a refutation: `validity` isn't assumed, both types are judged, and some value isn't one of the target
  pub record IsRefutable : Type 0 where
    pub unassumed : ask.assume.validity ≡ false
    pub judged : AreJudged tables ask
    pub refused : ¬ Casts tables ask

  -- the top or some entry asks why two references fail, at a depth
  abbrev pub IsAskedFor : Refutation → (r leaf depth : ℕ) → Type 0
  IsAskedFor x r leaf depth = Asks tables ask.assume None (target tables ask) x.top r leaf depth ⊎ SomeAsks tables ask.assume x.entries r leaf depth

  -- an entry answers for two references at a depth
  abbrev pub IsAnswered : List Entry → (r leaf depth : ℕ) → Type 0
  IsAnswered entries r leaf depth = (entry : Entry) × Contains entries entry × IsOf r leaf entry × (entry.depth ≡ depth)

  -- The refutation of the question: its top is the word that is refused first where all depths count; each entry is
  -- chosen and asked for, what is asked for has an entry, and the entries stand in their order.
  pub record IsRefutationOf (x : Refutation) : Type 0 where
    pub unassumed : ask.assume.validity ≡ false
    pub judged : AreJudged tables ask
    pub top : IsFirstRefused tables ask.assume None (source tables ask) (target tables ask) x.top
    pub chosen : All (IsChosenEntry tables ask.assume) x.entries
    pub asked : All (λ entry. IsAskedFor x entry.source.0 entry.target.0 entry.depth) x.entries
    pub answered : (r leaf depth : ℕ) → IsAskedFor x r leaf depth → IsAnswered x.entries r leaf depth
    pub in_order : AreInOrder x.entries
