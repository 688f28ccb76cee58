-- How many parts a spelled type has, so that the writing of a text ends.
use Rattle.std.proofs.Common.{◌≡◌, ℕ, zero, suc, ◌+◌, ◌<◌, ◌≤◌, refl, ap, ◌∙◌, arith, List, [], ◌∷◌, length, slice_get, get_or, Some}
use Rattle.tm_base.specs.declared.cell.RefId.{RefId}
use Rattle.tm_base.specs.declared.definition.NamedRow.{NamedRow}
use Rattle.tm_base.specs.declared.definition.RefRow.{RefRow}
use Rattle.tm_base.specs.declared.ground.Ground.{Ground, Tuple, Array, Named, Wrap, Ref}
use Rattle.tm_base.specs.declared.ground.NamedId.{NamedId}
use Rattle.tm_base.specs.declared.ground.Wrapper.{Wrapper}
use Rattle.tm_base.specs.Spelled.{Spelled, Elements, tuple, array, named, wrap, ref, no_elements, element, spell, spelled_all, spelled_within, follow_name, follow_row}
use Rattle.tm_base.proofs.GroundLemmas.{spell-Tuple, spell-Array, spell-Wrap}

-- how deep a spelled type's parts stand: six for each type around others, so that it falls from each step
-- of the writing to the next
mutual
  pub nodes_of : Spelled → ℕ
  nodes_of (tuple members) = 6 + all_nodes members
  nodes_of (array t n) = 6 + nodes_of t
  nodes_of (named def regions args) = 6 + all_nodes args
  nodes_of (wrap w t) = 6 + nodes_of t
  nodes_of (ref mutable region t) = 6 + nodes_of t
  nodes_of _ = 1

  pub all_nodes : Elements → ℕ
  all_nodes no_elements = 0
  all_nodes (element t rest) = nodes_of t + all_nodes rest

module _ (names : List NamedRow) (refs : List RefRow) where
  abbrev pub nodes_within : ℕ → Ground → ℕ
  nodes_within n g = nodes_of (spelled_within n names refs g)

  abbrev pub sum_within : ℕ → List Ground → ℕ
  sum_within n [] = 0
  sum_within n (g ∷ gs) = nodes_within n g + sum_within n gs

  sum-nodes : (n : ℕ) (gs : List Ground) → all_nodes (spelled_all (spelled_within n names refs) gs) ≡ sum_within n gs
  unfolding nodes_of
  sum-nodes n [] = refl
  sum-nodes n (g ∷ gs) = ap (λ k. nodes_within n g + k) (sum-nodes n gs)

  pub nodes-Tuple : (n : ℕ) (gs : List Ground) → nodes_within n (Tuple gs) ≡ 6 + sum_within n gs
  unfolding spelled_within nodes_of
  nodes-Tuple zero gs = ap nodes_of (spell-Tuple _ _ gs) ∙ ap (λ k. 6 + k) (sum-nodes zero gs)
  nodes-Tuple (suc n) gs = ap nodes_of (spell-Tuple _ _ gs) ∙ ap (λ k. 6 + k) (sum-nodes (suc n) gs)

  pub nodes-Array : (n : ℕ) (g : Ground) (k : ℕ) → nodes_within n (Array g k) ≡ 6 + nodes_within n g
  unfolding spelled_within nodes_of
  nodes-Array zero g k = ap nodes_of (spell-Array _ _ g k)
  nodes-Array (suc n) g k = ap nodes_of (spell-Array _ _ g k)

  pub nodes-Wrap : (n : ℕ) (w : Wrapper) (g : Ground) → nodes_within n (Wrap w g) ≡ 6 + nodes_within n g
  unfolding spelled_within nodes_of
  nodes-Wrap zero w g = ap nodes_of (spell-Wrap _ _ w g)
  nodes-Wrap (suc n) w g = ap nodes_of (spell-Wrap _ _ w g)

  nodes-Named-suc : (n : ℕ) (id : NamedId) (row : NamedRow) → slice_get names id.0 ≡ Some row → nodes_within (suc n) (Named id) ≡ 6 + sum_within n row.args
  unfolding spelled_within spell nodes_of
  nodes-Named-suc n id row found = ap (λ one. nodes_of (follow_name (spelled_within n names refs) one)) found ∙ ap (λ k. 6 + k) (sum-nodes n row.args)

  nodes-Ref-suc : (n : ℕ) (r : RefId) (row : RefRow) → slice_get refs r.0 ≡ Some row → nodes_within (suc n) (Ref r) ≡ 6 + nodes_within n row.pointee
  unfolding spelled_within spell nodes_of
  nodes-Ref-suc n r row found = ap (λ one. nodes_of (follow_row (spelled_within n names refs) one)) found

  -- a name and a reference, where one more may be followed than behind it
  pub nodes-Named : (n m : ℕ) (id : NamedId) (row : NamedRow) → n ≡ suc m → slice_get names id.0 ≡ Some row → nodes_within n (Named id) ≡ 6 + sum_within m row.args
  nodes-Named n m id row e found = ap (λ k. nodes_within k (Named id)) e ∙ nodes-Named-suc m id row found

  pub nodes-Ref : (n m : ℕ) (r : RefId) (row : RefRow) → n ≡ suc m → slice_get refs r.0 ≡ Some row → nodes_within n (Ref r) ≡ 6 + nodes_within m row.pointee
  nodes-Ref n m r row e found = ap (λ k. nodes_within k (Ref r)) e ∙ nodes-Ref-suc m r row found

  pub nodes-at : (n : ℕ) (gs : List Ground) (place : ℕ) (other : Ground) → place < length gs → nodes_within n (get_or gs place other) ≤ sum_within n gs
  nodes-at n [] place other p = absurd (omega arith)
  nodes-at n (g ∷ gs) zero other p = omega arith
  nodes-at n (g ∷ gs) (suc place) other p = let rest = nodes-at n gs place other (omega arith) in omega arith
