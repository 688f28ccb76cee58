-- The answer to a question between judged types, by what a walk through their automata finds.
use Rattle.std.proofs.Common.{◌≡◌, ℕ, inl, inr, ◌∙◌, subst, Bool, true, false, [], Option}
use Rattle.tm_base.specs.declared.answer.Answer.TheVariants.{Yes, YesBecause, No, NoAt}
use Rattle.tm_base.specs.declared.answer.RefFault.{RefFault}
use Rattle.tm_base.specs.declared.answer.Rule.{Rule}
use Rattle.tm_base.specs.declared.answer.Rule.TheVariants.{NoCommonValue}
use Rattle.tm_base.specs.declared.ask.Ask.{Ask}
use Rattle.tm_base.specs.declared.world.World.{World}
use Rattle.tm_base.specs.Answers.{Casts, IsAnswer, IsValue, IsAccepted, IsRefusedAt}
use Rattle.tm_base.specs.Cells.{Word, fit, OrOwn}
use Rattle.tm_base.specs.Layout.{size_of}
use Rattle.tm_base.specs.Rules.{target, Taken, HasTargetWord, IsWholeRule}
use Rattle.tm_base.specs.Tables.{Tables}
use Rattle.tm_base.specs.Worlds.{tables_of}
use Rattle.tm_base.proofs.ValidLemmas.{Valid-grows}
use Rattle.tm_auto.specs.Automata.{Automaton, ReadsWords}
use Rattle.tm_refs.specs.declared.compat.Compat.{Compat}
use Rattle.tm_walk.specs.Meanings.{EachWordFits, NoWordFits, IsFirstRefusal, IsInhabited, IsLeastExample}
use Rattle.tm_refs.specs.Solved.{compatible_in}
use Rattle.tm_witness.specs.Refused.{IsRefused, IsRuleAt}
use Rattle.tm_judge.specs.Ready.{IsReady, HasStart}
use Rattle.tm_judge.proofs.ReadyLemmas.{value-same, value-start, target-start, accepted-same, refused-same}

module _ (world : World) (ask : Ask) (compat : Compat) (src dst : Automaton) (h : IsReady world ask compat src dst) where
  abbrev tables : Tables
  tables = tables_of world

  abbrev test : ℕ → ℕ → Bool
  test = compatible_in compat

  -- a source without values
  pub empty-yes : ReadsWords src → ¬ HasStart src → IsAnswer tables ask Yes
  empty-yes reads none = record { is_true = record { judged = h.judged; casts = inl empty; plain = inr empty }; is_least = tt } where
    empty : (w : Word) → IsValue tables ask w → ⊥
    empty w value = none ((value-start world ask compat src dst h reads).1 (w, value))

  -- what is accepted is a word of the target
  accepted-word : (w : Word) → IsAccepted tables ask w → HasTargetWord tables ask ask.assume.safety
  accepted-word w accepted = (fit w (size_of (target tables ask)), Valid-grows (Taken tables ask) (OrOwn (Taken tables ask)) ask.assume.safety ask.assume.safety (λ x u a. inl a) (λ k. k) (target tables ask) (fit w (size_of (target tables ask))) accepted)

  module _ (w : Word) (value : IsValue tables ask w) where
    -- a source with a value, and a target of which none may be made
    pub whole-no : ¬ HasTargetWord tables ask ask.assume.safety → (rule : Rule) → IsWholeRule tables ask rule → IsAnswer tables ask (No rule)
    whole-no none rule holds_rule = record { is_true = record { judged = h.judged; refused = refused; rule_holds = holds_rule }; is_least = tt } where
      refused : ¬ Casts tables ask
      refused (inl empty) = empty w value
      refused (inr (inl (unassumed, every))) = none (accepted-word w (every w value))
      refused (inr (inr (assumed, (v, is_value, accepted)))) = none (accepted-word v accepted)

    -- no value is accepted, and one is asked for
    pub common-no : ask.assume.validity ≡ true → HasTargetWord tables ask ask.assume.safety → NoWordFits test src dst → IsAnswer tables ask (No NoCommonValue)
    common-no assumed has none = record { is_true = record { judged = h.judged; refused = refused; rule_holds = (has, assumed) }; is_least = tt } where
      refused : ¬ Casts tables ask
      refused (inl empty) = empty w value
      refused (inr (inl (unassumed, every))) = cc (assumed, unassumed)
      refused (inr (inr (yes_assumed, (v, is_value, accepted)))) = none v ((value-same world ask compat src dst h v).1 is_value) ((accepted-same world ask compat src dst h v).1 accepted)

  -- the least value that is accepted
  pub example-yes : ask.assume.validity ≡ true → (w : Word) (offset : ℕ) → IsLeastExample test src dst w offset → IsAnswer tables ask (YesBecause w)
  example-yes assumed w offset found = record {
    is_true = record { judged = h.judged; assumed = assumed; value = (value-same world ask compat src dst h w).0 found.word; accepted = (accepted-same world ask compat src dst h w).0 found.fits };
    is_least = λ v value accepted. found.least v ((value-same world ask compat src dst h v).1 value) ((accepted-same world ask compat src dst h v).1 accepted);
  }

  -- each value is accepted
  pub every-yes : ask.assume.validity ≡ false → EachWordFits test src dst → IsAnswer tables ask Yes
  every-yes unassumed every = record {
    is_true = record {
      judged = h.judged;
      casts = inr (inl (unassumed, λ w value. (accepted-same world ask compat src dst h w).0 (every w ((value-same world ask compat src dst h w).1 value))));
      plain = inl unassumed;
    };
    is_least = tt;
  }

  module _ (unassumed : ask.assume.validity ≡ false) (reads : ReadsWords dst) (has : HasStart dst) (w : Word) (offset : ℕ) (found : IsFirstRefusal test src dst w offset) where
    -- the target refuses the value that is found
    pub refused-there : (size : ℕ) → size ≡ src.size → IsRefused world ask dst compat size w offset
    refused-there size sized = record {
      source_over = h.source_over;
      target_over = h.target_over;
      judged = h.judged;
      automaton = h.target;
      serves = h.serves;
      sized = sized ∙ h.source.size;
      value = (value-same world ask compat src dst h w).0 found.word;
      refused = (refused-same world ask compat src dst h w offset).0 (found.refused inhabited);
    } where
      inhabited : IsInhabited test src dst
      inhabited = (reads.viable test [] tt tt).0 has

    -- and first of all
    pub refused-no : (rule : Rule) (fault : Option RefFault) → IsRuleAt tables ask w offset rule fault → IsRefused world ask dst compat src.size w offset → IsAnswer tables ask (NoAt rule offset w fault)
    refused-no rule fault by_rule refused_there = record {
      is_true = record {
        judged = h.judged;
        refused = refused;
        unassumed = unassumed;
        has_word = (target-start world ask compat src dst h reads).0 has;
        value = refused_there.value;
        offset = refused_there.refused;
        rule_holds = by_rule.rule_holds;
      };
      is_least = (
        λ v p value is_refused.
            let word = (value-same world ask compat src dst h v).1 value in (
              found.earliest v p word ((refused-same world ask compat src dst h v p).1 is_refused),
              λ same. found.least v word ((refused-same world ask compat src dst h v offset).1 (subst (λ (n : ℕ). IsRefusedAt tables ask v n) same is_refused)),
            ),
        by_rule.least,
      );
    } where
      refused : ¬ Casts tables ask
      refused (inl empty) = empty w refused_there.value
      refused (inr (inl (_, every))) = found.misfit ((accepted-same world ask compat src dst h w).1 (every w refused_there.value))
      refused (inr (inr (assumed, _))) = cc (assumed, unassumed)
