-- Each question over a world has an answer.
use Rattle.std.proofs.Common.{◌≡◌, ℕ, ◌<◌, ◌≤◌, ◌⊎◌, inl, inr, refl, subst, Bool, true, false}
use Rattle.tm_base.specs.declared.answer.Answer.{Answer}
use Rattle.tm_base.specs.declared.answer.Answer.TheVariants.{Yes, YesBecause, No, NoAt, Refused}
use Rattle.tm_base.specs.declared.answer.Rule.TheVariants.{TargetUninhabited, TargetPrivate, NoCommonValue}
use Rattle.tm_base.specs.declared.answer.Side.TheVariants.{Source, Target}
use Rattle.tm_base.specs.declared.ask.Ask.{Ask}
use Rattle.tm_base.specs.declared.world.World.{World}
use Rattle.tm_base.specs.Answers.{IsAnswer, IsValue, IsAccepted, IsRefusedAt, AreJudged, Casts}
use Rattle.tm_base.specs.Cells.{Word}
use Rattle.tm_base.specs.Expanded.{Expanded}
use Rattle.tm_base.specs.Orders.{word_less}
use Rattle.tm_base.specs.Reaches.{IsJudged}
use Rattle.tm_base.specs.Rules.{source, target, Taken, HasTargetWord}
use Rattle.tm_base.specs.Transmutes.{IsSourceWord, IsUninhabited, Fits, EveryWordFits}
use Rattle.tm_base.specs.Worlds.{tables_of, IsTypeOver}
use Rattle.tm_laws.proofs.known.CellRuleLemmas.{taken-known, taken_bound, taken-bounded, value-closed, rule_of_no}
use Rattle.tm_laws.proofs.known.DecideLemmas.{Dec-and}
use Rattle.tm_laws.proofs.known.FaultyLemmas.{least_faulty}
use Rattle.tm_laws.proofs.known.JudgedLemmas.{judged_or_fault, ReachesFault}
use Rattle.tm_laws.proofs.known.LeastLemmas.{least_word, least_number}
use Rattle.tm_laws.proofs.known.ListedLemmas.{Listed, Listed-under}
use Rattle.tm_laws.proofs.refusals.Worlds.{compatible-of_sources}
use Rattle.tm_laws.proofs.refusals.RefusedLemmas.{refused-where_unfit}
use Rattle.tm_laws.proofs.known.TransmutesLemmas.{some_value-known, Fits-known, every_or_not, Transmutes-known}
use Rattle.tm_laws.proofs.known.ValidLemmas.{IsSourceWord-known, Listed-source}
use Rattle.tm_laws.proofs.known.ViableLemmas.{HasWord-known, RefusesAt-known}

module _ (world : World) (ask : Ask) (src_over : IsTypeOver (tables_of world) ask.src) (dst_over : IsTypeOver (tables_of world) ask.dst) where
  abbrev s : Expanded
  s = source (tables_of world) ask

  abbrev t : Expanded
  t = target (tables_of world) ask

  abbrev A : ℕ → ℕ → Type 0
  A = Taken (tables_of world) ask

  abbrev known : (x u : ℕ) → Dec (A x u)
  known = taken-known world ask src_over dst_over

  abbrev bounded : (x u : ℕ) → A x u → x < taken_bound world ask src_over dst_over u
  bounded = taken-bounded world ask src_over dst_over

  abbrev Answered : Type 0
  Answered = (answer : Answer) × IsAnswer (tables_of world) ask answer

  abbrev Value : Word → Type 0
  Value = IsValue (tables_of world) ask

  abbrev Accepted : Word → Type 0
  Accepted = IsAccepted (tables_of world) ask

  abbrev RefusedAt : Word → ℕ → Type 0
  RefusedAt = IsRefusedAt (tables_of world) ask

  -- the values with a further fact are listed
  Listed-values : (P : Word → Type 0) → Listed (λ w. Value w × P w)
  Listed-values P = Listed-under (λ w. Value w × P w) (IsSourceWord s) (λ w h. h.0) (Listed-source s)

  RefusedAt-known : (w : Word) (o : ℕ) → Dec (RefusedAt w o)
  RefusedAt-known w o = RefusesAt-known A known (taken_bound world ask src_over dst_over) bounded ask.assume.safety t w o

  -- the least value that is accepted
  example : AreJudged (tables_of world) ask → ask.assume.validity ≡ true → (w : Word) → Value w → Accepted w → Answered
  example judged assumed w value accepted =
      go (least_word (λ v. Value v × Accepted v) (Listed-values Accepted) (λ v. Dec-and (IsSourceWord-known s v) (Fits-known A known ask.assume.safety t v)))
    where
      go : ((v : Word) × (Value v × Accepted v) × ((u : Word) → Value u × Accepted u → word_less u v ≡ false)) ⊎ ((v : Word) → ¬ (Value v × Accepted v)) → Answered
      go (inl (v, both, least)) = (
        YesBecause v,
        record {
          is_true = record { judged = judged; assumed = assumed; value = both.0; accepted = both.1 };
          is_least = λ u is_value is_accepted. least u (is_value, is_accepted);
        },
      )
      go (inr none) = absurd (none w (value, accepted))

  plain : AreJudged (tables_of world) ask → Casts (tables_of world) ask → (ask.assume.validity ≡ false) ⊎ IsUninhabited s → Answered
  plain judged casts because = (Yes, record { is_true = record { judged = judged; casts = casts; plain = because }; is_least = tt })

  when_casts : AreJudged (tables_of world) ask → Casts (tables_of world) ask → Answered
  when_casts judged (inl none) = plain judged (inl none) (inr none)
  when_casts judged (inr (inl (unassumed, every))) = plain judged (inr (inl (unassumed, every))) (inl unassumed)
  when_casts judged (inr (inr (assumed, (w, value, accepted)))) = example judged assumed w value accepted

  -- the least offset at which a value is refused, and the least value that is refused there
  least_refused : AreJudged (tables_of world) ask → ¬ Casts (tables_of world) ask → ask.assume.validity ≡ false → HasTargetWord (tables_of world) ask ask.assume.safety
      → (o : ℕ) → ((v : Word) (p : ℕ) → Value v → RefusedAt v p → o ≤ p)
      → (w : Word) → Value w → RefusedAt w o → ((v : Word) → Value v → RefusedAt v o → word_less v w ≡ false) → Answered
  least_refused judged refused unassumed has_word o least_offset w value refuses least_there =
      let (rule, fault, holds_rule, least_fault) = rule_of_no world ask src_over dst_over w o value refuses in (
        NoAt rule o w fault,
        record {
          is_true = record { judged = judged; refused = refused; unassumed = unassumed; has_word = has_word; value = value; offset = refuses; rule_holds = holds_rule };
          is_least = (
            λ v p is_value is_refused. (
              least_offset v p is_value is_refused,
              λ same. least_there v is_value (subst (λ (n : ℕ). RefusedAt v n) same is_refused),
            ),
            least_fault,
          );
        },
      )

  refused_at : AreJudged (tables_of world) ask → ¬ Casts (tables_of world) ask → ask.assume.validity ≡ false → HasTargetWord (tables_of world) ask ask.assume.safety
      → (w : Word) → Value w → (o : ℕ) → RefusedAt w o → Answered
  refused_at judged refused unassumed has_word w value o refuses =
      let (first, (v, (is_value, is_refused)), least) =
      least_number (λ n. (u : Word) × (Value u × RefusedAt u n)) (λ n. some_value-known s (λ u. RefusedAt u n) (λ u. RefusedAt-known u n)) o (w, (value, refuses)) in
      go first (λ u p is_value is_refused. least p (u, (is_value, is_refused))) v is_value is_refused
      (least_word (λ u. Value u × RefusedAt u first) (Listed-values (λ u. RefusedAt u first)) (λ u. Dec-and (IsSourceWord-known s u) (RefusedAt-known u first)))
    where
      go : (first : ℕ) → ((u : Word) (p : ℕ) → Value u → RefusedAt u p → first ≤ p) → (v : Word) → Value v → RefusedAt v first
          → ((u : Word) × (Value u × RefusedAt u first) × ((x : Word) → Value x × RefusedAt x first → word_less x u ≡ false)) ⊎ ((u : Word) → ¬ (Value u × RefusedAt u first)) → Answered
      go first least v is_value is_refused (inl (u, both, least_there)) =
          least_refused judged refused unassumed has_word first least u both.0 both.1 (λ x a b. least_there x (a, b))
      go first least v is_value is_refused (inr none) = absurd (none v (is_value, is_refused))

  -- a value that doesn't fit is refused at some offset
  when_unfit : AreJudged (tables_of world) ask → ¬ Casts (tables_of world) ask → ask.assume.validity ≡ false → HasTargetWord (tables_of world) ask ask.assume.safety
      → EveryWordFits A ask.assume.safety s t ⊎ ((w : Word) × IsSourceWord s w × (¬ Fits A ask.assume.safety t w)) → Answered
  when_unfit judged refused unassumed has_word (inl every) = absurd (refused (inr (inl (unassumed, every))))
  when_unfit judged refused unassumed has_word (inr (w, value, unfit)) =
      let closed = value-closed world ask src_over dst_over w value in
      let (o, inside, refuses) = (refused-where_unfit A ask.assume.safety t known (compatible-of_sources world ask.assume) w closed has_word).0 unfit in
      refused_at judged refused unassumed has_word w value o refuses

  HasTargetWord-known : (keep : Bool) → Dec (HasTargetWord (tables_of world) ask keep)
  HasTargetWord-known keep = HasWord-known A known (taken_bound world ask src_over dst_over) bounded keep t

  when_refused : AreJudged (tables_of world) ask → ¬ Casts (tables_of world) ask → Dec (HasTargetWord (tables_of world) ask true) → Dec (HasTargetWord (tables_of world) ask ask.assume.safety)
      → (validity : Bool) → ask.assume.validity ≡ validity → Answered
  when_refused judged refused (no none) has validity e = (No TargetUninhabited, record { is_true = record { judged = judged; refused = refused; rule_holds = none }; is_least = tt })
  when_refused judged refused (yes some) (no none) validity e = (No TargetPrivate, record { is_true = record { judged = judged; refused = refused; rule_holds = (some, none) }; is_least = tt })
  when_refused judged refused (yes some) (yes has) true e = (No NoCommonValue, record { is_true = record { judged = judged; refused = refused; rule_holds = (has, e) }; is_least = tt })
  when_refused judged refused (yes some) (yes has) false e = when_unfit judged refused e has (every_or_not A known ask.assume.safety s t)

  when_judged : AreJudged (tables_of world) ask → Dec (Casts (tables_of world) ask) → Answered
  when_judged judged (yes casts) = when_casts judged casts
  when_judged judged (no refused) = when_refused judged refused (HasTargetWord-known true) (HasTargetWord-known ask.assume.safety) ask.assume.validity refl

  by_target : IsJudged (tables_of world) ask.src → IsJudged (tables_of world) ask.dst ⊎ ReachesFault (tables_of world) ask.dst → Answered
  by_target source_judged (inl target_judged) =
      when_judged (record { source_judged = source_judged; target_judged = target_judged }) (Transmutes-known A known ask.assume s t)
  by_target source_judged (inr fault) =
      let (h, why, way, is_fault, least) = least_faulty (tables_of world) ask.dst fault in
      (Refused Target why h, record { is_true = record { named_side = source_judged; reached = way; at_fault = is_fault }; is_least = λ k other reached faulty. least k other reached faulty })

  by_source : IsJudged (tables_of world) ask.src ⊎ ReachesFault (tables_of world) ask.src → Answered
  by_source (inl judged) = by_target judged (judged_or_fault (tables_of world) ask.dst)
  by_source (inr fault) =
      let (h, why, way, is_fault, least) = least_faulty (tables_of world) ask.src fault in
      (Refused Source why h, record { is_true = record { named_side = tt; reached = way; at_fault = is_fault }; is_least = λ k other reached faulty. least k other reached faulty })

  -- the answer
  pub answer_to : (answer : Answer) × IsAnswer (tables_of world) ask answer
  answer_to = by_source (judged_or_fault (tables_of world) ask.src)
