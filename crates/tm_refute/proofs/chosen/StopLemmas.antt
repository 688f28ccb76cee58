-- Where a target refuses some cells of a word by what holds of references below a limit, it does so by the pairs of entries
-- alone.
use Rattle.std.proofs.Common.{◌≡◌, ℕ, ◌≤◌, ◌⊎◌, inl, inr, refl, sym, ap, subst, true, List, ◌++◌, Option, None, Some, arith}
use Rattle.std.specs.List.{Contains}
use Rattle.std.proofs.lemmas.List.Elements.{All-contains, All-contains_itself, All-weaker}
use Rattle.tm_base.specs.declared.ask.Ask.{Ask}
use Rattle.tm_base.specs.declared.cell.Cell.{Cell}
use Rattle.tm_base.specs.declared.cell.Cell.TheVariants.{Byte, Uninit, Ptr}
use Rattle.tm_base.specs.Cells.{Word, OrOwn, own}
use Rattle.tm_base.specs.Compatible.{CompatibleTo}
use Rattle.tm_base.specs.Expanded.{Expanded}
use Rattle.tm_base.specs.Tables.{Tables}
use Rattle.tm_base.specs.Valid.{Valid}
use Rattle.tm_base.specs.Viable.{Viable}
use Rattle.tm_laws.proofs.known.CompatibleLemmas.{CompatibleTo-known}
use Rattle.tm_laws.proofs.known.DecideLemmas.{Dec-eq, Dec-like, Dec-not, Dec-stable}
use Rattle.tm_laws.proofs.known.LeastLemmas.{least_number}
use Rattle.tm_laws.proofs.known.ListedLemmas.{Contains-from_IsIn, IsIn-from_Contains, find_in}
use Rattle.tm_refs.specs.Looks.{has_leaf}
use Rattle.tm_refs.specs.Solved.{FailsFirstAt}
use Rattle.tm_refs.proofs.LeafLemmas.{AreOf, IsCellOf}
use Rattle.tm_refute.specs.Chosen.{Asks, HoldsBelow, IsAnswered, IsFirstRefused, shown}
use Rattle.tm_refute.specs.Refutes.{IsBelow, IsOf, Stands}
use Rattle.tm_refute.specs.declared.refutation.Entry.{Entry}
use Rattle.tm_refute.specs.declared.refutation.Piece.{Piece}
use Rattle.tm_refute.proofs.chosen.WordLemmas.{Valid-mends, like-front}

-- the cell is one of the reference
abbrev IsOfReference : ℕ → Cell → Type 0
IsOfReference x c = (place : ℕ) × (c ≡ Ptr (record { 0 = x }) place)

abbrev number_in : Cell → ℕ
number_in (Ptr r k) = r.0
number_in c = 0

of-known : (x : ℕ) (c : Cell) → Dec (IsOfReference x c)
of-known x (Byte b) = no (λ (place, e). cc)
of-known x Uninit = no (λ (place, e). cc)
of-known x (Ptr r k) =
    Dec-like {P = r.0 ≡ x} (λ e. (k, ap (λ (z : ℕ). Ptr (record { 0 = z }) k) e)) (λ (place, e). ap number_in e) (Dec-eq r.0 x)

-- the reference occurs in the word
abbrev pub Occurs : Word → ℕ → Type 0
Occurs u x = (place : ℕ) × Contains u (Ptr (record { 0 = x }) place)

occurs-known : (u : Word) (x : ℕ) → Occurs u x ⊎ (¬ Occurs u x)
occurs-known u x = elim (find_in (IsOfReference x) (of-known x) u) [
  | inl (c, at, (place, e)) ↦ inl (place, subst (λ (d : Cell). Contains u d) e (Contains-from_IsIn u c at))
  | inr none ↦ inr (λ (place, at). none (Ptr (record { 0 = x }) place) (IsIn-from_Contains u _ at) (place, refl))
]

of-itself : (u : Word) (c : Cell) → Contains u c → IsCellOf (Occurs u) c
of-itself u (Byte b) at = tt
of-itself u Uninit at = tt
of-itself u (Ptr r k) at = (k, at)

-- a word's references are those that occur in it
pub all-occur : (u : Word) → AreOf (Occurs u) u
all-occur u = All-weaker (Contains u) (IsCellOf (Occurs u)) (of-itself u) u (All-contains_itself u)

below-lesser : (limit : Option ℕ) (m n : ℕ) → m ≤ n → IsBelow limit n → IsBelow limit m
below-lesser None m n less below = tt
below-lesser (Some limit) m n less below = omega arith

module _ (tables : Tables) (ask : Ask) (limit : Option ℕ) (entries : List Entry) where
  -- two references that aren't compatible at a depth fail first at one that isn't greater
  first-failing : (r t depth : ℕ) → ¬ CompatibleTo tables ask.assume depth r t → (n : ℕ) × (n ≤ depth) × FailsFirstAt tables ask.assume r t n
  first-failing r t depth fails =
      let (n, f, least) = least_number (λ m. ¬ CompatibleTo tables ask.assume m r t) (λ m. Dec-not (CompatibleTo-known tables ask.assume m r t)) depth fails in
      (n, least depth fails, record { fails = f; first = λ m less. Dec-stable (CompatibleTo-known tables ask.assume m r t) (λ g. let k = least m g in absurd (omega arith)) })

  -- what stands holds below the limit, where an entry answers for each pair that fails there
  stood : (r t : ℕ) → ((n : ℕ) → FailsFirstAt tables ask.assume r t n → IsBelow limit n → IsAnswered tables ask entries r t n) → Stands entries limit r t → HoldsBelow tables ask.assume limit r t
  stood r t answered stands depth below =
      Dec-stable (CompatibleTo-known tables ask.assume depth r t) (λ fails.
      let (n, less, first) = first-failing r t depth fails in
      let under = below-lesser limit n depth less below in
      let (entry, at, of, same) = answered n first under in
      All-contains (λ e. IsOf r t e → ¬ IsBelow limit e.depth) entries entry stands at of (subst (λ (m : ℕ). IsBelow limit m) (sym same) under))

  module _ (s t : Expanded) (piece : Piece) (first : IsFirstRefused tables ask.assume limit s t piece)
      (answered : (r leaf n : ℕ) → Asks tables ask.assume limit t piece r leaf n → IsAnswered tables ask entries r leaf n) where
    abbrev cells : Word
    cells = shown t piece

    abbrev IsLeaf : ℕ → Type 0
    IsLeaf y = has_leaf t y ≡ true

    change : (x y : ℕ) → IsLeaf y → OrOwn (Stands entries limit) x y → (z : ℕ) × OrOwn (HoldsBelow tables ask.assume limit) z y × (Occurs cells x → x ≡ z)
    change x y leaf (inr e) = (x, inr e, λ occurs. refl)
    change x y leaf (inl stands) = elim (occurs-known cells x) [
      | inl (place, at) ↦ (
        x,
        inl (stood x y (λ n fails below. answered x y n (record { place = place; occurs = at; is_leaf = leaf; fails = fails; below = below })) stands),
        λ occurs. refl,
      )
      | inr none ↦ (own y, inr refl, λ occurs. absurd (none occurs))
    ]

    -- the target doesn't go along with the cells that are shown
    pub stops : ¬ Viable (Stands entries limit) ask.assume.safety t cells
    stops (rest, valid) =
        let A = OrOwn (Stands entries limit) in
        let B = OrOwn (HoldsBelow tables ask.assume limit) in
        let (w, like, mended) = Valid-mends A B (Occurs cells) IsLeaf ask.assume.safety change t (λ y at. at) (cells ++ rest) valid in
        let (behind, e) = like-front (Occurs cells) cells rest w (all-occur cells) like in
        (first.refused (w, mended)).0.stops (behind, subst (λ (v : Word). Valid B ask.assume.safety t v) e mended)
