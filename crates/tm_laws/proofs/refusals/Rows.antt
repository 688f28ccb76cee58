-- The references in a source's words, fitted, and those that stand open in a target are the world's.
use Rattle.std.proofs.Common.{◌≡◌, ℕ, ◌<◌, Bool, length, Some, slice_get, subst}
use Rattle.std.specs.List.{All}
use Rattle.std.proofs.lemmas.List.Elements.{All-contains}
use Rattle.std.proofs.lemmas.Option.{get_or_from_slice_get, slice_get_within}
use Rattle.tm_base.specs.declared.cell.Cell.{Cell}
use Rattle.tm_base.specs.declared.cell.Cell.TheVariants.{Ptr}
use Rattle.tm_base.specs.declared.cell.RefId.{RefId}
use Rattle.tm_base.specs.declared.world.World.{World}
use Rattle.tm_base.specs.Cells.{Word, fit}
use Rattle.tm_base.specs.Expanded.{Expanded}
use Rattle.tm_base.specs.Transmutes.{IsSourceWord}
use Rattle.tm_base.specs.Viable.{StandsOpen}
use Rattle.tm_laws.specs.WordLaws.{IsOfSources}
use Rattle.tm_laws.proofs.refusals.StopLemmas.{fit-all, open-is-leaf}
use Rattle.tm_laws.proofs.refusals.Worlds.{HasKnownLeaves, source-within}
use Rattle.tm_laws.proofs.whole.Leaves.{Leaf, leaves}
use Rattle.tm_laws.proofs.known.WordSearchLemmas.{IsWithin}

-- what holds of all cells holds of the one at a place
All-at : (P : Cell → Type 0) (w : Word) (o : ℕ) (c : Cell) → All P w → slice_get w o ≡ Some c → P c
All-at P w o c h e = subst P (get_or_from_slice_get w o c c e) (h o c (slice_get_within w o c e))

module _ (world : World) where
  -- a reference in a word of a source, fitted, is one of the world's
  pub pointer-known : (s : Expanded) → HasKnownLeaves world s → (w : Word) → IsSourceWord s w → (m o : ℕ) (r : RefId) (k : ℕ) → slice_get (fit w m) o ≡ Some (Ptr r k) → r.0 < length world.refs
  pointer-known s known w value m o r k e =
      let P = IsWithin (length world.refs) in
      (All-at P (fit w m) o (Ptr r k) (fit-all P tt w m (source-within world s known w value)) e).0

  -- a reference that stands open in a target is one of the world's
  pub open-known : (A : ℕ → ℕ → Type 0) → IsOfSources A → (keep : Bool) (t : Expanded) → HasKnownLeaves world t → (p : Word) (u : ℕ) → StandsOpen A keep t p u → u < length world.refs
  open-known A sources keep t known p u stands_open =
      let (leaf, inside, same) = open-is-leaf A sources keep t p u stands_open in
      subst (λ (n : ℕ). n < length world.refs) same (All-contains (λ (l : Leaf). l.number < length world.refs) (leaves t) leaf known inside)
