-- When a refutation of a question holds: by words of sources that targets don't go along with, and by pairs
-- of references whose depth falls. This project's.
use Rattle.std.specs.Prelude.{◌≡◌, ℕ, ◌+◌, ◌<◌, true, false, Option, None, Some, List, All, length, take, slice_get}
use Rattle.tm_base.specs.declared.ask.Ask.{Ask}
use Rattle.tm_base.specs.declared.assume.Assume.{Assume}
use Rattle.tm_base.specs.declared.cell.Cell.{Cell}
use Rattle.tm_base.specs.declared.cell.Cell.TheVariants.{Byte, Uninit, Ptr}
use Rattle.tm_base.specs.declared.definition.RefRow.{RefRow}
use Rattle.tm_base.specs.Answers.{AreJudged}
use Rattle.tm_base.specs.Cells.{fit}
use Rattle.tm_base.specs.Compatible.{IsLocalFault}
use Rattle.tm_base.specs.Expanded.{Expanded}
use Rattle.tm_base.specs.Layout.{size_of}
use Rattle.tm_base.specs.Reaches.{IsJudged}
use Rattle.tm_base.specs.Rules.{source, target}
use Rattle.tm_base.specs.Tables.{Tables, OnRows, pointee_in}
use Rattle.tm_base.specs.Transmutes.{IsSourceWord}
use Rattle.tm_base.specs.Viable.{Viable}
use Rattle.tm_refute.specs.declared.refutation.Entry.{Entry}
use Rattle.tm_refute.specs.declared.refutation.Piece.{Piece}
use Rattle.tm_refute.specs.declared.refutation.Proof.{Proof}
use Rattle.tm_refute.specs.declared.refutation.Proof.TheVariants.{Local, Forward, Reverse}
use Rattle.tm_refute.specs.declared.refutation.Refutation.{Refutation}

-- a cell names no reference but one of the first so many
abbrev pub IsKnown : ℕ → Cell → Type 0
IsKnown count (Byte b) = Unit {0}
IsKnown count Uninit = Unit {0}
IsKnown count (Ptr r k) = r.0 < count

-- the depth is below the limit; where there is no limit, each depth is
abbrev pub IsBelow : Option ℕ → ℕ → Type 0
IsBelow None depth = Unit {0}
IsBelow (Some limit) depth = depth < limit

-- the entry is of these two references
pub record IsOf (r t : ℕ) (entry : Entry) : Type 0 where
  pub source : entry.source.0 ≡ r
  pub target : entry.target.0 ≡ t

-- Two references may be taken as each other for all that is said of lesser depths: no entry of the two has a
-- depth below the limit.
abbrev pub Stands : List Entry → Option ℕ → ℕ → ℕ → Type 0
Stands entries limit r t = All (λ entry. IsOf r t entry → ¬ IsBelow limit entry.depth) entries

module _ (tables : Tables) (assume : Assume) (entries : List Entry) where
  -- A word of the source s that the target t doesn't go along with up to the piece's place, where the pairs
  -- of entries below the limit fail and all others stand.
  pub record Breaks (limit : Option ℕ) (s t : Expanded) (piece : Piece) : Type 0 where
    pub known : All (IsKnown (length tables.refs)) piece.word
    pub value : IsSourceWord s piece.word
    pub stops : ¬ Viable (Stands entries limit) assume.safety t (take (piece.offset + 1) (fit piece.word (size_of t)))

  -- Two references fail at a depth: at 0 by the first local rule that they break, else by a piece that rests on
  -- lesser depths alone, forward, or back where the target may be written through.
  abbrev pub IsShown : ℕ → Proof → RefRow → RefRow → Type 0
  IsShown depth (Local rule) r t = (depth ≡ 0) × IsLocalFault tables assume r t rule
  IsShown depth (Forward piece) r t = (0 < depth) × Breaks (Some depth) (pointee_in tables r) (pointee_in tables t) piece
  IsShown depth (Reverse piece) r t = (0 < depth) × (t.mutable ≡ true) × Breaks (Some depth) (pointee_in tables t) (pointee_in tables r) piece

  -- both pointees are judged, and the two fail so
  pub record FailsAt (depth : ℕ) (proof : Proof) (r t : RefRow) : Type 0 where
    pub source : IsJudged tables r.pointee
    pub target : IsJudged tables t.pointee
    pub shown : IsShown depth proof r t

  -- the references of an entry are there, and fail as it says
  abbrev pub Holds : Entry → Type 0
  Holds entry = OnRows (slice_get tables.refs entry.source.0) (slice_get tables.refs entry.target.0) (FailsAt entry.depth entry.proof)

-- The question doesn't assume `validity`, its types are judged, the top breaks them where the pairs of all
-- entries fail, and each entry holds.
pub record Refutes (tables : Tables) (ask : Ask) (x : Refutation) : Type 0 where
  pub unassumed : ask.assume.validity ≡ false
  pub judged : AreJudged tables ask
  pub top : Breaks tables ask.assume x.entries None (source tables ask) (target tables ask) x.top
  pub entries : All (Holds tables ask.assume x.entries) x.entries
