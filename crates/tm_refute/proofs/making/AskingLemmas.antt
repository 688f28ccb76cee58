-- What is asked for by the references that are marked in a row of 64.
use Rattle.std.proofs.Common.{◌≡◌, ◌⊎◌, ℕ, ◌+◌, ◌<◌, ◌∙◌, ap, refl, sym, subst, inl, inr, Bool, true, false, ◌||◌, nat_le, Option, Some, None, List, [], ◌∷◌, length, take, get_or, slice_index_or, arith}
use Rattle.std.specs.List.{Contains, list_any}
use Rattle.std.proofs.lemmas.Bool.{cases_lt, eq-eqb, eqb-true, false_from_ne_true, leb-true, leb-false, or_cases}
use Rattle.std.proofs.lemmas.List.Folds.{list_any_at}
use Rattle.tm_base.specs.declared.assume.Assume.{Assume}
use Rattle.tm_base.specs.declared.cell.Cell.{Cell}
use Rattle.tm_base.specs.declared.cell.Cell.TheVariants.{Byte, Uninit, Ptr}
use Rattle.tm_base.specs.declared.ground.Ground.{Ground}
use Rattle.tm_base.specs.declared.world.World.{World}
use Rattle.tm_base.specs.Expanded.{Expanded}
use Rattle.tm_base.specs.Tables.{Tables, expanded_in}
use Rattle.tm_base.specs.Worlds.{IsTypeOver, tables_of}
use Rattle.tm_laws.proofs.refusals.Worlds.{leaves-known}
use Rattle.tm_refs.specs.declared.compat.Compat.{Compat}
use Rattle.tm_refs.specs.Leaves.{leaf_of}
use Rattle.tm_refs.specs.Solved.{FailsFirstAt, IsDepthAnswer, IsSolvedFor, depth_in}
use Rattle.tm_refs.proofs.AddedLemmas.{any-more}
use Rattle.tm_refute.specs.Asking.{AsksAll, AsksToo, HasSource, IsAskedBy, is_asked, is_of}
use Rattle.tm_refute.specs.Chosen.{shown}
use Rattle.tm_refute.specs.Depths.{stands}
use Rattle.tm_refute.specs.Refutes.{IsBelow}
use Rattle.tm_refute.specs.declared.refuting.asked.Asked.{Asked}
use Rattle.tm_refute.specs.declared.refutation.Piece.{Piece}
use Rattle.tm_refute.proofs.chosen.LeafLemmas.{known, shown-leaf}
use Rattle.tm_refute.proofs.chosen.OrderLemmas.{first, other}

-- the reference of one cell more
pub marked-more : (cells : List Cell) (i : ℕ) (d : Cell) (old new : List Bool) (r : ℕ) → i < length cells
    → slice_index_or new r false ≡ (slice_index_or old r false || is_of (get_or cells i d) r)
    → slice_index_or old r false ≡ list_any (λ cell. is_of cell r) (take i cells)
    → slice_index_or new r false ≡ list_any (λ cell. is_of cell r) (take (i + 1) cells)
marked-more cells i d old new r below more so_far = more ∙ (ap (λ (b : Bool). b || is_of (get_or cells i d) r) so_far ∙ sym (any-more is_of cells i d below r))

-- ---- what occurs, and what fails

-- a reference occurs where some cell is one of it
occurs-some : (cells : List Cell) (r : ℕ) → list_any (λ cell. is_of cell r) cells ≡ true → (place : ℕ) × Contains cells (Ptr (record { 0 = r }) place)
occurs-some [] r h = absurd cc
occurs-some (c ∷ cells) r h = by c (or_cases (is_of c r) (list_any (λ cell. is_of cell r) cells) h) (λ e. occurs-some cells r e)
  where
    by : (c : Cell) → (is_of c r ≡ true) ⊎ (list_any (λ cell. is_of cell r) cells ≡ true)
        → (list_any (λ cell. is_of cell r) cells ≡ true → (place : ℕ) × Contains cells (Ptr (record { 0 = r }) place)) → (place : ℕ) × Contains (c ∷ cells) (Ptr (record { 0 = r }) place)
    by (Ptr id place) (inl e) later = (place, subst (λ (n : ℕ). Contains (Ptr id place ∷ cells) (Ptr (record { 0 = n }) place)) (eqb-true id.0 r e) (first (Ptr id place) cells))
    by (Byte b) (inl e) later = absurd cc
    by Uninit (inl e) later = absurd cc
    by c (inr e) later = let (place, at) = later e in (place, other c (Ptr (record { 0 = r }) place) cells at)

some-occurs : (cells : List Cell) (r place : ℕ) → Contains cells (Ptr (record { 0 = r }) place) → list_any (λ cell. is_of cell r) cells ≡ true
some-occurs cells r place (k, below, same) = list_any_at (λ cell. is_of cell r) cells k (Ptr (record { 0 = r }) place) below (ap (λ (c : Cell). is_of c r) same ∙ eq-eqb r r refl)

not_leb : (l n : ℕ) → n < l → nat_le l n ≡ false
not_leb l n less = false_from_ne_true (nat_le l n) (λ yes_le. let k = leb-true l n yes_le in omega (arith, less, k))

module _ (tables : Tables) (assume : Assume) (compat : Compat) (solved : IsSolvedFor tables assume compat) where
  -- what doesn't stand below a limit fails first at a depth below it
  fails-some : (limit : Option ℕ) (r t : ℕ) → stands limit (depth_in compat r t) ≡ false → (depth : ℕ) × FailsFirstAt tables assume r t depth × IsBelow limit depth
  fails-some limit r t h = by limit (depth_in compat r t) (solved.depth r t) h
    where
      by : (limit depth : Option ℕ) → IsDepthAnswer tables assume r t depth → stands limit depth ≡ false → (n : ℕ) × FailsFirstAt tables assume r t n × IsBelow limit n
      by limit None all h = absurd cc
      by None (Some n) first_at h = (n, first_at, tt)
      by (Some l) (Some n) first_at h = (n, first_at, leb-false l n h)

  some-fails : (limit : Option ℕ) (r t depth : ℕ) → FailsFirstAt tables assume r t depth → IsBelow limit depth → stands limit (depth_in compat r t) ≡ false
  some-fails limit r t depth fails below = by limit (depth_in compat r t) (solved.depth r t) below
    where
      by : (limit found : Option ℕ) → IsDepthAnswer tables assume r t found → IsBelow limit depth → stands limit found ≡ false
      by limit None all b = absurd (fails.fails (all depth))
      by None (Some n) first_at b = refl
      by (Some l) (Some n) first_at b = elim (cases_lt depth n) [
        | inl less ↦ absurd (fails.fails (first_at.first depth less))
        | inr le ↦ not_leb l n (omega (arith, le, b))
      ]

module _ (world : World) (assume : Assume) (compat : Compat) (solved : IsSolvedFor (tables_of world) assume compat) (limit : Option ℕ) (t : Ground) (over : IsTypeOver (tables_of world) t) (piece : Piece)
    (value : HasSource (tables_of world) piece.word) (occurring leaves_are : List Bool) (before after : Asked)
    (marked : (r : ℕ) → r < 64 → slice_index_or occurring r false ≡ list_any (λ cell. is_of cell r) (shown (expanded_in (tables_of world) t) piece))
    (leaf_is : (x : ℕ) → slice_index_or leaves_are x false ≡ leaf_of (tables_of world) t x)
    (all : AsksAll compat limit occurring leaves_are 64 before after) where
  few : (x : ℕ) → x < length world.refs → x < 64
  few x less = let most = world.few_refs in omega (arith, less, most)

  pub asked-too : AsksToo (tables_of world) assume limit (expanded_in (tables_of world) t) piece before after
  asked-too = record { each = λ r leaf. (λ a. there r leaf ((all.each r leaf).0 a), λ b. (all.each r leaf).1 (back r leaf b)) }
    where
      abbreviated : Expanded
      abbreviated = expanded_in (tables_of world) t

      there : (r leaf : ℕ) → (is_asked before r leaf ≡ true) ⊎ ((r < 64) × (slice_index_or occurring r false ≡ true) × (leaf < 64) × (slice_index_or leaves_are leaf false ≡ true) × (stands limit (depth_in compat r leaf) ≡ false))
          → (is_asked before r leaf ≡ true) ⊎ IsAskedBy (tables_of world) assume limit abbreviated piece r leaf
      there r leaf (inl old) = inl old
      there r leaf (inr (below_r, occurs, below_t, is_leaf, fails)) =
          let (place, at) = occurs-some (shown abbreviated piece) r (sym (marked r below_r) ∙ occurs) in
          let (depth, first_at, below) = fails-some (tables_of world) assume compat solved limit r leaf fails in
          inr (depth, record { place = place; occurs = at; is_leaf = sym (leaf_is leaf) ∙ is_leaf; fails = first_at; below = below })

      back : (r leaf : ℕ) → (is_asked before r leaf ≡ true) ⊎ IsAskedBy (tables_of world) assume limit abbreviated piece r leaf
          → (is_asked before r leaf ≡ true) ⊎ ((r < 64) × (slice_index_or occurring r false ≡ true) × (leaf < 64) × (slice_index_or leaves_are leaf false ≡ true) × (stands limit (depth_in compat r leaf) ≡ false))
      back r leaf (inl old) = inl old
      back r leaf (inr (depth, asks)) =
          let (g, g_over, word) = value in
          let r_leaf = shown-leaf (expanded_in (tables_of world) g) abbreviated piece word r asks.place asks.occurs in
          let r_less = few r (known world (expanded_in (tables_of world) g) (leaves-known world g g_over) r r_leaf) in
          let t_less = few leaf (known world abbreviated (leaves-known world t over) leaf asks.is_leaf) in
          inr (r_less, marked r r_less ∙ some-occurs (shown abbreviated piece) r asks.place asks.occurs, t_less, leaf_is leaf ∙ asks.is_leaf, some-fails (tables_of world) assume compat solved limit r leaf depth asks.fails asks.below)
