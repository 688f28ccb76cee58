-- What the automata of a question's types say of its values.
use Rattle.std.proofs.Common.{ℕ, ◌+◌, ◌↔◌, sym, subst, Bool, true, [], take}
use Rattle.std.proofs.lemmas.Bool.Decides.{Decides-eqb}
use Rattle.tm_base.specs.declared.ask.Ask.{Ask}
use Rattle.tm_base.specs.declared.ground.Ground.{Ground}
use Rattle.tm_base.specs.declared.world.World.{World}
use Rattle.tm_base.specs.Answers.{IsValue, IsAccepted, IsRefusedAt}
use Rattle.tm_base.specs.Cells.{Word, fit}
use Rattle.tm_base.specs.Expanded.{Expanded}
use Rattle.tm_base.specs.Layout.{size_of}
use Rattle.tm_base.specs.Rules.{source, target, Taken, HasTargetWord}
use Rattle.tm_base.specs.Tables.{Tables, expanded_in}
use Rattle.tm_base.specs.Transmutes.{Same, holds, is_itself}
use Rattle.tm_base.specs.Valid.{Valid}
use Rattle.tm_base.specs.Viable.{HasWord, Viable}
use Rattle.tm_base.specs.Worlds.{tables_of}
use Rattle.tm_auto.specs.Automata.{Automaton, AutoWord, ReadsWords, IsViable}
use Rattle.tm_refs.specs.declared.compat.Compat.{Compat}
use Rattle.tm_refs.specs.Solved.{compatible_in}
use Rattle.tm_walk.specs.Sought.{IsSourceWord, IsViableTo}
use Rattle.tm_walk.specs.Meanings as walk
use Rattle.tm_refs.specs.Pointees.{IsAutomatonOf}
use Rattle.tm_refs.proofs.ServesLemmas.{served-exact}
use Rattle.tm_witness.proofs.TypeAutomata.{Agree, word-valid, viable-same}
use Rattle.tm_judge.specs.Ready.{IsReady, HasStart}

-- words begin in the automaton of a type exactly where the type has a word
pub start-word : (tables : Tables) (keep : Bool) (g : Ground) (auto : Automaton) → IsAutomatonOf tables keep g auto → ReadsWords auto
    → (test : ℕ → ℕ → Bool) (A : ℕ → ℕ → Type 0) → Agree (expanded_in tables g) test A
    → HasStart auto ↔ HasWord A keep (expanded_in tables g)
start-word tables keep g auto is reads test A same =
    let both = viable-same tables keep g auto is test A same [] in
    let begins = reads.viable test [] tt tt in
    (λ some. both.0 (begins.0 some), λ word. begins.1 (both.1 word))

module _ (world : World) (ask : Ask) (compat : Compat) (src dst : Automaton) (h : IsReady world ask compat src dst) where
  abbrev tables : Tables
  tables = tables_of world

  abbrev s : Expanded
  s = source tables ask

  abbrev t : Expanded
  t = target tables ask

  abbrev A : ℕ → ℕ → Type 0
  A = Taken tables ask

  abbrev keep : Bool
  keep = ask.assume.safety

  abbrev test : ℕ → ℕ → Bool
  test = compatible_in compat

  -- the table tells what may be taken as the target's leaves
  exact : Agree t test A
  exact = served-exact tables ask.assume ask.dst compat h.serves

  -- the source's words are its values
  pub value-same : (w : Word) → IsSourceWord src w ↔ IsValue tables ask w
  value-same w = word-valid tables true ask.src src h.source is_itself Same (λ x u leaf. (λ e. (Decides-eqb x u).0 e, λ e. (Decides-eqb x u).1 e)) w

  pub value-start : ReadsWords src → HasStart src ↔ ((w : Word) × IsValue tables ask w)
  value-start reads =
      let begins = reads.source [] in
      (λ some. let (v, word) = begins.0 some in (v, (value-same v).0 word), λ (w, value). begins.1 (w, (value-same w).1 value))

  -- the target's words are those that may be made
  pub target-start : ReadsWords dst → HasStart dst ↔ HasTargetWord tables ask keep
  target-start reads = start-word tables keep ask.dst dst h.target reads test A exact

  -- what fits is accepted
  pub accepted-same : (w : Word) → walk.Fits test src dst w ↔ IsAccepted tables ask w
  accepted-same w =
      subst (λ (n : ℕ). AutoWord (holds test) dst (fit w n) ↔ Valid A keep t (fit w (size_of t))) (sym h.target.size)
      (word-valid tables keep ask.dst dst h.target test A exact (fit w (size_of t)))

  viable_to-same : (w : Word) (place : ℕ) → IsViableTo test dst w place ↔ Viable A keep t (take place (fit w (size_of t)))
  viable_to-same w place =
      subst (λ (n : ℕ). IsViable (holds test) dst (take place (fit w n)) ↔ Viable A keep t (take place (fit w (size_of t)))) (sym h.target.size)
      (viable-same tables keep ask.dst dst h.target test A exact (take place (fit w (size_of t))))

  -- and is refused where it is refused
  pub refused-same : (w : Word) (o : ℕ) → walk.IsRefusedAt test src dst w o ↔ IsRefusedAt tables ask w o
  refused-same w o =
      let here = viable_to-same w o in
      let next = viable_to-same w (o + 1) in (
        λ r. record { goes_to = here.0 r.viable; stops = λ v. r.refused (next.1 v) },
        λ r. record { viable = here.1 r.goes_to; refused = λ v. r.stops (next.0 v) },
      )
