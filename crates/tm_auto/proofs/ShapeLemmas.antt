-- How many nodes trees have that hold others, and what extent.
use Rattle.std.proofs.Common.{◌≡◌, ◌≢◌, ℕ, zero, suc, ◌+◌, ◌<◌, ◌≤◌, true, false, nat_le, List, [], ◌∷◌, length, drop, get_or, refl, sym, ap, ◌∙◌, arith, cond, add-one, drop-cons, eq-eqb}
use Rattle.std.proofs.lemmas.Bool.{ne_eqb}
use Rattle.std.specs.Prelude.{◌==◌}
use Rattle.tm_base.specs.declared.tree.Tree.{Tree, Row_of-Tree, end_of-Tree, more_of-Tree, items-the_row-Tree, items_hidden-the_row-Tree-0, Never, Range, Seq, Alt, Repeat, Private}
use Rattle.tm_base.specs.declared.tree.Tree.TheBlock.{hidden-the_row-Tree-0, shape-the_row-Tree-1, hidden-the_row-Tree-1}
use Rattle.tm_auto.specs.declared.extent.Extent.{Extent}
use Rattle.tm_auto.specs.declared.extent.Extent.TheVariants.{Dead, Empty, Long}
use Rattle.tm_auto.specs.Shapes.{nodes_of, row_nodes, all_nodes, extent_of, row_in_turn, row_one_of, in_turn, one_of, both_extents, either_extent}

nodes-row : {n : _} (row : Row_of-Tree n) → row_nodes row ≡ all_nodes (items-the_row-Tree n row)
unfolding nodes_of
nodes-row end_of-Tree = refl
nodes-row (more_of-Tree t ts) = ap (λ n. nodes_of t + n) (nodes-row ts)

pub nodes_of-Seq : (ts : List Tree) → nodes_of (Seq ts) ≡ 2 + all_nodes ts
unfolding nodes_of
nodes_of-Seq ts = ap (λ n. 2 + n) (nodes-row (hidden-the_row-Tree-0 ts) ∙ ap all_nodes (items_hidden-the_row-Tree-0 ts))

pub nodes_of-Alt : (ts : List Tree) → nodes_of (Alt ts) ≡ 2 + all_nodes ts
unfolding nodes_of
nodes_of-Alt ts = ap (λ n. 2 + n) (nodes-row (hidden-the_row-Tree-0 ts) ∙ ap all_nodes (items_hidden-the_row-Tree-0 ts))

pub nodes_of-Repeat : (n : ℕ) (t : Tree) → nodes_of (Repeat n t) ≡ 2 + nodes_of t
unfolding nodes_of shape-the_row-Tree-1 hidden-the_row-Tree-1 denote.Hole.Carrier.hidden
nodes_of-Repeat n t = omega arith

in_turn-row : {n : _} (row : Row_of-Tree n) → row_in_turn row ≡ in_turn (items-the_row-Tree n row)
unfolding extent_of
in_turn-row end_of-Tree = refl
in_turn-row (more_of-Tree t ts) = ap (both_extents (extent_of t)) (in_turn-row ts)

one_of-row : {n : _} (row : Row_of-Tree n) → row_one_of row ≡ one_of (items-the_row-Tree n row)
unfolding extent_of
one_of-row end_of-Tree = refl
one_of-row (more_of-Tree t ts) = ap (either_extent (extent_of t)) (one_of-row ts)

pub extent_of-Seq : (ts : List Tree) → extent_of (Seq ts) ≡ in_turn ts
unfolding extent_of
extent_of-Seq ts = in_turn-row (hidden-the_row-Tree-0 ts) ∙ ap in_turn (items_hidden-the_row-Tree-0 ts)

pub extent_of-Alt : (ts : List Tree) → extent_of (Alt ts) ≡ one_of ts
unfolding extent_of
extent_of-Alt ts = one_of-row (hidden-the_row-Tree-0 ts) ∙ ap one_of (items_hidden-the_row-Tree-0 ts)

pub extent_of-Repeat : (n : ℕ) (t : Tree) → extent_of (Repeat n t) ≡ cond (n == 0) Empty (extent_of t)
unfolding extent_of shape-the_row-Tree-1 hidden-the_row-Tree-1 denote.Hole.Carrier.hidden
extent_of-Repeat n t = refl

-- ---- along a list of trees

pub both_assoc : (a b c : Extent) → both_extents (both_extents a b) c ≡ both_extents a (both_extents b c)
both_assoc Dead b c = refl
both_assoc Empty b c = refl
both_assoc Long Dead c = refl
both_assoc Long Empty c = refl
both_assoc Long Long Dead = refl
both_assoc Long Long Empty = refl
both_assoc Long Long Long = refl

pub both_last : (a : Extent) → both_extents a Empty ≡ a
both_last Dead = refl
both_last Empty = refl
both_last Long = refl

pub either_assoc : (a b c : Extent) → either_extent (either_extent a b) c ≡ either_extent a (either_extent b c)
either_assoc Dead b c = refl
either_assoc Empty b c = refl
either_assoc Long b c = refl

pub either_last : (a : Extent) → either_extent a Dead ≡ a
either_last Dead = refl
either_last Empty = refl
either_last Long = refl

pub drop_at : (ts : List Tree) (i : ℕ) (t : Tree) → i < length ts → t ≡ get_or ts i t → drop i ts ≡ t ∷ drop (i + 1) ts
drop_at ts i t l e = rw add-one (drop-cons ts i t l ∙ ap (λ (z : Tree). z ∷ drop (suc i) ts) (sym e))

pub drop_none : (ts : List Tree) (i : ℕ) → length ts ≤ i → drop i ts ≡ []
drop_none [] zero l = refl
drop_none [] (suc i) l = refl
drop_none (t ∷ ts) zero l = absurd (omega arith)
drop_none (t ∷ ts) (suc i) l = drop_none ts i (omega arith)

pub turn_more : (ts : List Tree) (i : ℕ) (t : Tree) (whole : Extent) → i < length ts → t ≡ get_or ts i t → both_extents whole (in_turn (drop i ts)) ≡ in_turn ts → both_extents (both_extents whole (extent_of t)) (in_turn (drop (i + 1) ts)) ≡ in_turn ts
turn_more ts i t whole l e h = both_assoc whole (extent_of t) (in_turn (drop (i + 1) ts)) ∙ ap (λ (z : List Tree). both_extents whole (in_turn z)) (sym (drop_at ts i t l e)) ∙ h

pub turn_done : (ts : List Tree) (i : ℕ) (whole : Extent) → length ts ≤ i → both_extents whole (in_turn (drop i ts)) ≡ in_turn ts → whole ≡ in_turn ts
turn_done ts i whole l h = sym (both_last whole) ∙ ap (λ (z : List Tree). both_extents whole (in_turn z)) (sym (drop_none ts i l)) ∙ h

pub one_more : (ts : List Tree) (i : ℕ) (t : Tree) (whole : Extent) → i < length ts → t ≡ get_or ts i t → either_extent whole (one_of (drop i ts)) ≡ one_of ts → either_extent (either_extent whole (extent_of t)) (one_of (drop (i + 1) ts)) ≡ one_of ts
one_more ts i t whole l e h = either_assoc whole (extent_of t) (one_of (drop (i + 1) ts)) ∙ ap (λ (z : List Tree). either_extent whole (one_of z)) (sym (drop_at ts i t l e)) ∙ h

pub one_done : (ts : List Tree) (i : ℕ) (whole : Extent) → length ts ≤ i → either_extent whole (one_of (drop i ts)) ≡ one_of ts → whole ≡ one_of ts
one_done ts i whole l h = sym (either_last whole) ∙ ap (λ (z : List Tree). either_extent whole (one_of z)) (sym (drop_none ts i l)) ∙ h

le_holds : (a b : ℕ) → a ≤ b → nat_le a b ≡ true
le_holds a b h = grind arith

le_fails : (a b : ℕ) → b < a → nat_le a b ≡ false
le_fails a b h = grind arith

pub extent_of-range : (low high : ℕ) → low ≤ high → extent_of (Range low high) ≡ Long
unfolding extent_of
extent_of-range low high h = rw (le_holds low high h) refl

pub extent_of-no_range : (low high : ℕ) → high < low → extent_of (Range low high) ≡ Dead
unfolding extent_of
extent_of-no_range low high h = rw (le_fails low high h) refl

pub extent_of-no_turn : (n : ℕ) (t : Tree) → n ≡ 0 → extent_of (Repeat n t) ≡ Empty
extent_of-no_turn n t e = extent_of-Repeat n t ∙ (rw (eq-eqb n 0 e) refl)

pub extent_of-turns : (n : ℕ) (t : Tree) → n ≢ 0 → extent_of (Repeat n t) ≡ extent_of t
extent_of-turns n t e = extent_of-Repeat n t ∙ (rw (ne_eqb n 0 e) refl)

pub extent_of-Never : extent_of Never ≡ Dead
unfolding extent_of
extent_of-Never = refl

pub extent_of-Private : (t : Tree) → extent_of (Private t) ≡ Dead
unfolding extent_of
extent_of-Private t = refl

pub nodes_at : (ts : List Tree) (i : ℕ) (d : Tree) → i < length ts → nodes_of (get_or ts i d) ≤ all_nodes ts
nodes_at [] i d l = absurd (omega arith)
nodes_at (t ∷ ts) zero d l = omega arith
nodes_at (t ∷ ts) (suc i) d l = let h = nodes_at ts i d (omega arith) in omega arith
