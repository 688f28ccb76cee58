-- What a walk finds through the automata of two types, as the piece that is chosen.
use Rattle.std.proofs.Common.{ℕ, ◌+◌, ◌<◌, ◌≤◌, ◌⊎◌, ◌↔◌, inl, inr, sym, refl, subst, Bool, true, false, IsTrue, Option, None, Some, take, arith}
use Rattle.std.proofs.lemmas.Bool.{both_ways, cases_lt, leb-true, le-leb}
use Rattle.std.proofs.lemmas.Bool.Decides.{Decides-eqb}
use Rattle.tm_base.specs.declared.assume.Assume.{Assume}
use Rattle.tm_base.specs.declared.ground.Ground.{Ground}
use Rattle.tm_base.specs.Cells.{Word, fit}
use Rattle.tm_base.specs.Expanded.{Expanded}
use Rattle.tm_base.specs.Layout.{size_of}
use Rattle.tm_base.specs.Tables.{Tables, expanded_in}
use Rattle.tm_base.specs.Transmutes.{Same, IsSourceWord, Fits, EveryWordFits, holds, is_itself}
use Rattle.tm_base.specs.Valid.{Valid}
use Rattle.tm_base.specs.Viable.{HasWord, RefusesAt, Viable}
use Rattle.tm_auto.specs.Automata.{Automaton, AutoWord, IsViable}
use Rattle.tm_refs.specs.declared.compat.Compat.{Compat}
use Rattle.tm_refs.specs.Leaves.{leaf_of}
use Rattle.tm_refs.specs.Pointees.{IsAutomatonOf}
use Rattle.tm_refs.specs.Solved.{IsDepthAnswer, IsSolvedFor, depth_in}
use Rattle.tm_walk.specs.Meanings as walk
use Rattle.tm_walk.specs.Sought as sought
use Rattle.tm_witness.proofs.TypeAutomata.{own_word-valid, viable-same, word-valid}
use Rattle.tm_refute.specs.Chosen.{HoldsBelow, IsFirstRefused}
use Rattle.tm_refute.specs.Depths.{stands}

module _ (tables : Tables) (assume : Assume) where
  -- the test of what goes together below a limit is exact
  stands-below : (r t : ℕ) (limit depth : Option ℕ) → IsDepthAnswer tables assume r t depth → IsTrue (stands limit depth) ↔ HoldsBelow tables assume limit r t
  stands-below r t limit None compatible = (λ _ depth _. compatible depth, λ _. refl)
  stands-below r t None (Some n) first = (λ passes. absurd (both_ways false refl passes), λ all. absurd (first.fails (all n tt)))
  stands-below r t (Some limit) (Some n) first = (
    λ passes depth below. let under = leb-true limit n passes in let less : depth < limit = below in first.first depth (omega arith),
    λ all. go all (cases_lt n limit),
  ) where
    go : HoldsBelow tables assume (Some limit) r t → (n < limit) ⊎ (limit ≤ n) → IsTrue (stands (Some limit) (Some n))
    go all (inl below) = absurd (first.fails (all n below))
    go all (inr under) = le-leb limit n under

  module _ (compat : Compat) (solved : IsSolvedFor tables assume compat) (limit : Option ℕ) where
    abbrev test : ℕ → ℕ → Bool
    test r t = stands limit (depth_in compat r t)

    abbrev A : ℕ → ℕ → Type 0
    A = HoldsBelow tables assume limit

    same : (g : Ground) (r t : ℕ) → IsTrue (leaf_of tables g t) → holds test r t ↔ A r t
    same g r t leaf = stands-below r t limit (depth_in compat r t) (solved.depth r t)

    module _ (from to : Ground) (src dst : Automaton) (of_source : IsAutomatonOf tables true from src) (of_target : IsAutomatonOf tables assume.safety to dst) where
      abbrev s : Expanded
      s = expanded_in tables from

      abbrev t : Expanded
      t = expanded_in tables to

      value-same : (w : Word) → sought.IsSourceWord src w ↔ IsSourceWord s w
      value-same w = word-valid tables true from src of_source is_itself Same (λ x u leaf. (λ e. (Decides-eqb x u).0 e, λ e. (Decides-eqb x u).1 e)) w

      fits-same : (w : Word) → walk.Fits test src dst w ↔ Fits A assume.safety t w
      fits-same w =
          subst (λ (n : ℕ). AutoWord (holds test) dst (fit w n) ↔ Valid A assume.safety t (fit w (size_of t))) (sym of_target.size)
          (word-valid tables assume.safety to dst of_target test A (same to) (fit w (size_of t)))

      inhabited-same : walk.IsInhabited test src dst ↔ HasWord A assume.safety t
      inhabited-same =
          let both = own_word-valid tables assume.safety to dst of_target test A (same to) in
          (λ (w, h). (w, (both w).0 h), λ (w, h). (w, (both w).1 h))

      viable_to-same : (w : Word) (place : ℕ) → sought.IsViableTo test dst w place ↔ Viable A assume.safety t (take place (fit w (size_of t)))
      viable_to-same w place =
          subst (λ (n : ℕ). IsViable (holds test) dst (take place (fit w n)) ↔ Viable A assume.safety t (take place (fit w (size_of t)))) (sym of_target.size)
          (viable-same tables assume.safety to dst of_target test A (same to) (take place (fit w (size_of t))))

      refused-same : (w : Word) (o : ℕ) → walk.IsRefusedAt test src dst w o ↔ RefusesAt A assume.safety t w o
      refused-same w o =
          let here = viable_to-same w o in
          let next = viable_to-same w (o + 1) in (
            λ r. record { goes_to = here.0 r.viable; stops = λ v. r.refused (next.1 v) },
            λ r. record { viable = here.1 r.goes_to; refused = λ v. r.stops (next.0 v) },
          )

      -- each value fits where each word does
      pub every-fits : walk.EachWordFits test src dst → EveryWordFits A assume.safety s t
      every-fits each w value = (fits-same w).0 (each w ((value-same w).1 value))

      -- and what is refused first is the piece
      pub first-refused : (w : Word) (o : ℕ) → walk.IsFirstRefusal test src dst w o → IsFirstRefused tables assume limit s t (record { word = w; offset = o })
      first-refused w o first = record {
        value = (value-same w).0 first.word;
        misfit = λ fits. first.misfit ((fits-same w).1 fits);
        refused = λ some. (
          (refused-same w o).0 (first.refused (inhabited-same.1 some)),
          λ v p value refused.
              let word = (value-same v).1 value in
              let there = (refused-same v p).1 refused in
              (first.earliest v p word there, λ here. first.least v word (subst (λ (n : ℕ). walk.IsRefusedAt test src dst v n) here there)),
        );
        without_words = λ none.
            let all = first.without_words (λ some. none (inhabited-same.0 some)) in
            (all.0, λ v value. all.1 v ((value-same v).1 value));
      }
