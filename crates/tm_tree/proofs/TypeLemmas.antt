-- The tree that is described for a type of a world that has a layout is its tree.
use Rattle.std.proofs.Common.{◌≡◌, ◌≤◌, nat_lt, false, true, arith}
use Rattle.std.proofs.lemmas.Bool.Decides.{nat_tests}
use Rattle.std.specs.List.{list_all}
use Rattle.std.specs.Option.{is_some}
use Rattle.tm_base.specs.declared.ground.Ground.{Ground}
use Rattle.tm_base.specs.declared.world.World.{World}
use Rattle.tm_base.specs.Expanded.{Expanded}
use Rattle.tm_base.specs.Faults.{has_cause, has_no_layout, has_two_sized, layout_fault, own_fault, when}
use Rattle.tm_base.specs.Parts.{some_part}
use Rattle.tm_base.specs.Tables.{expanded_in}
use Rattle.tm_base.specs.Transmutes.{holds}
use Rattle.tm_base.specs.Weight.{weight_limit, weight_of}
use Rattle.tm_base.specs.Whole.{are_defs_in_form, is_def_in_form, is_value_in_form}
use Rattle.tm_base.specs.Worlds.{tables_of}
use Rattle.tm_base.proofs.ValidLemmas.{Valid-length}
use Rattle.tm_base.proofs.WorldLemmas.{list_all-at}
use Rattle.tm_layout.proofs.RowLemmas.{first_true, second_true}
use Rattle.tm_tree.specs.Exact.{IsTreeOf}
use Rattle.tm_tree.specs.Fit.{IsFit}
use Rattle.tm_tree.specs.Laws.{HasValues}
use Rattle.tm_tree.specs.Parts.{tree_for}
use Rattle.tm_tree.proofs.FitLemmas.{expanded-fit, expanded-low, no-either, no-when, none-first, none-second}
use Rattle.tm_tree.proofs.LeafLemmas.{tree-leaves}
use Rattle.tm_tree.proofs.PartLemmas.{tree-words}
use Rattle.tm_tree.proofs.SingleLemmas.{tree-single}

-- a type that has a layout isn't too large
light : (t : Expanded) → has_no_layout t ≡ false → weight_of t ≤ weight_limit
light t sound =
    let layout = none-second (is_some (own_fault t)) (is_some (layout_fault t)) (none-first (has_cause t) (some_part has_cause t) sound) in
    let (two, others) = no-either (when (has_two_sized t) _) _ layout in
    let (packed, large) = no-either _ (when (nat_lt weight_limit (weight_of t)) _) others in
    let small = no-when (nat_lt weight_limit (weight_of t)) _ large in
    grind (arith, nat_tests)

module _ (world : World) where
  -- the discriminants of a world are in form
  world-values : HasValues world.profile world.defs
  unfolding are_defs_in_form
  world-values k def at =
      let form = list_all-at (is_def_in_form world.profile) world.defs k def world.defs_in_form at in
      second_true _ (list_all (λ v. is_value_in_form world.profile def.repr.tag v.value) def.variants) (first_true _ _ (first_true _ _ form))

  fit : (g : Ground) → has_no_layout (expanded_in (tables_of world) g) ≡ false → IsFit world.profile (expanded_in (tables_of world) g)
  fit g sound = expanded-fit world.profile world.defs world.named world-values g sound

  pub tree-is : (g : Ground) → has_no_layout (expanded_in (tables_of world) g) ≡ false → IsTreeOf (tables_of world) g (tree_for (expanded_in (tables_of world) g))
  tree-is g sound =
      let t = expanded_in (tables_of world) g in
      let low = expanded-low world.profile world.defs world.named g in
      let few = tree-leaves world.profile 80 t (omega arith) (fit g sound) in
      let small = light t sound in
      record {
        words = λ A keep w. tree-words world.profile (holds A) keep t (fit g sound) w;
        leaves = omega arith;
        single = tree-single t;
        sized = λ A w word. Valid-length (holds A) true t w ((tree-words world.profile (holds A) true t (fit g sound) w).0 word);
      }
