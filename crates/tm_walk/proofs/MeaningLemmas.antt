-- What the two quantifiers seek.
use Rattle.std.proofs.Common.{◌≡◌, ◌≢◌, ℕ, zero, suc, ◌+◌, ◌<◌, ◌≤◌, inl, inr, ◌↔◌, Bool, true, false, [], ◌++◌, length, take, refl, sym, ap, ◌∙◌, subst, arith, eq-eqb}
use Rattle.std.specs.Prelude.{◌==◌}
use Rattle.std.proofs.lemmas.Bool.{cases_lt}
use Rattle.std.proofs.lemmas.List.{take_all}
use Rattle.tm_base.specs.Cells.{Word, fit}
use Rattle.tm_base.specs.Orders.{word_less}
use Rattle.tm_base.specs.Transmutes.{holds}
use Rattle.tm_auto.specs.Automata.{Automaton, IsViable, IsAutomaton, ReadsWords}
use Rattle.tm_auto.proofs.SetLemmas.{same_at}
use Rattle.tm_auto.proofs.StepLemmas.{both_true}
use Rattle.tm_walk.specs.Layers.{is_live}
use Rattle.tm_walk.specs.Meanings.{for_all_stops, for_all_skips, exists_stops, exists_skips, Fits, EachWordFits, NoWordFits, IsRefusedAt, IsFirstRefusal, IsLeastExample}
use Rattle.tm_walk.specs.Sought.{IsSourceWord, IsViableTo, StopsAt, SkipsAt, IsSought, NoneIsSought, IsViableLength, IsFound}
use Rattle.tm_walk.proofs.PaddedLemmas.{fit-padded, length-padded}
use Rattle.tm_walk.proofs.ViableLemmas.{either, target_at, tells_live, viable_earlier, viable_fits, fits_viable}

module _ (A : ℕ → ℕ → Bool) (src dst : Automaton) (hs : IsAutomaton src) (hd : IsAutomaton dst) (rd : ReadsWords dst) where
  -- ---- for all

  abbrev Refusal : Word → ℕ → Type 0
  Refusal w p = IsSought A src dst for_all_stops for_all_skips w p

  -- where it stops
  stopped_dead : (w : Word) (p : ℕ) → StopsAt A src dst for_all_stops for_all_skips w p → ¬ IsViableTo A dst w p
  stopped_dead w p s h = let live = s.tells.1 h in let dead = s.stops in cc

  dead_stops : (w : Word) (p : ℕ) → ¬ IsViableTo A dst w p → StopsAt A src dst for_all_stops for_all_skips w p
  dead_stops w p n = record { live = false; tells = (λ h. cc, λ h. absurd (n h)); stops = refl }

  never_skips : (w : Word) (p : ℕ) → ¬ SkipsAt A src dst for_all_stops for_all_skips w p
  never_skips w p s = let h = s.skips in cc

  -- a word that is viable to each earlier place, and not to this one, is sought here
  refusal : (w : Word) (p : ℕ) → IsSourceWord src w → p ≤ dst.size → ¬ IsViableTo A dst w p → ((q : ℕ) → q < p → IsViableTo A dst w q) → Refusal w p
  refusal w p word l n before = record {
    word = word;
    within = l;
    stops = dead_stops w p n;
    goes_on = λ q m. (λ s. stopped_dead w q s (before q m), never_skips w q);
  }

  -- where none is sought, each word is viable to each place
  all_viable : NoneIsSought A src dst for_all_stops for_all_skips → (w : Word) → IsSourceWord src w → (k : ℕ) → k ≤ dst.size → (p : ℕ) → p ≤ k → IsViableTo A dst w p
  all_viable none w word zero l p m =
      let z : p ≡ 0 = omega arith in
      elim (either (is_live (target_at A src dst hs hd rd w 0))) [
        | inl a ↦ subst (λ (n : ℕ). IsViableTo A dst w n) (sym z) ((tells_live A src dst hs hd rd w word 0 l).0 a)
        | inr a ↦ absurd (none w 0 (refusal w 0 word l (λ h. let b = (tells_live A src dst hs hd rd w word 0 l).1 h in cc) (λ q m2. absurd (omega arith))))
      ]
  all_viable none w word (suc k) l p m =
      let before = all_viable none w word k (omega arith) in
      elim (cases_lt k p) [
        | inr le ↦ before p le
        | inl lt ↦ (
            let z : p ≡ suc k = omega arith in
            elim (either (is_live (target_at A src dst hs hd rd w (suc k)))) [
              | inl a ↦ subst (λ (n : ℕ). IsViableTo A dst w n) (sym z) ((tells_live A src dst hs hd rd w word (suc k) l).0 a)
              | inr a ↦ absurd (none w (suc k) (refusal w (suc k) word l (λ h. let b = (tells_live A src dst hs hd rd w word (suc k) l).1 h in cc) (λ q m2. before q (omega arith))))
            ])
      ]

  pub for_all_none : NoneIsSought A src dst for_all_stops for_all_skips ↔ EachWordFits A src dst
  for_all_none = (
    λ none w word. viable_fits A src dst hs hd rd w word (all_viable none w word dst.size (omega arith) dst.size (omega arith)),
    λ each w p s. stopped_dead w p s.stops (viable_earlier A src dst hs hd rd w p dst.size s.within (omega arith) (fits_viable A src dst hs hd rd w (each w s.word))),
  )

  -- what is refused at an offset is sought behind it
  refused_sought : (v : Word) (k : ℕ) → IsSourceWord src v → IsRefusedAt A src dst v k → Refusal v (k + 1)
  refused_sought v k word r = elim (cases_lt k dst.size) [
    | inl lt ↦ refusal v (k + 1) word (omega arith) r.refused (λ q m. viable_earlier A src dst hs hd rd v q k (omega arith) (omega arith) r.viable)
    | inr ge ↦ (
        let whole : (n : ℕ) → dst.size ≤ n → take n (fit v dst.size) ≡ fit v dst.size = λ n l. take_all n (fit v dst.size) (let e = ap length (fit-padded v dst.size) ∙ length-padded v dst.size in omega arith) in
        let same : take k (fit v dst.size) ≡ take (k + 1) (fit v dst.size) = whole k ge ∙ sym (whole (k + 1) (omega arith)) in
        absurd (r.refused (subst (λ (z : Word). IsViable (holds A) dst z) same r.viable)))
  ]

  -- where the empty list is viable, a word that is found is refused at its offset
  found_at : (w : Word) (place offset : ℕ) → IsViable (holds A) dst [] → Refusal w place → IsViableLength A dst w place offset → (place ≡ offset + 1) × IsRefusedAt A src dst w offset
  found_at w zero offset some s v = absurd (stopped_dead w 0 s.stops some)
  found_at w (suc q) offset some s v =
      let viable : IsViableTo A dst w q = elim (either (is_live (target_at A src dst hs hd rd w q))) [
        | inl a ↦ (tells_live A src dst hs hd rd w s.word q (let l = s.within in omega arith)).0 a
        | inr a ↦ absurd ((s.goes_on q (omega arith)).0 (dead_stops w q (λ h. let b = (tells_live A src dst hs hd rd w s.word q (let l = s.within in omega arith)).1 h in cc)))
      ] in
      let low : q ≤ offset = v.longest q (omega arith) viable in
      let high : offset ≢ suc q = λ e. stopped_dead w (suc q) s.stops (subst (λ (n : ℕ). IsViableTo A dst w n) e (v.viable (λ z. omega arith))) in
      let within = v.within in
      let same : q ≡ offset = omega arith in
      let next : suc q ≡ offset + 1 = omega arith in (
        next,
        record {
          viable = subst (λ (n : ℕ). IsViableTo A dst w n) same viable;
          refused = λ h. stopped_dead w (suc q) s.stops (subst (λ (n : ℕ). IsViableTo A dst w n) (sym next) h);
        },
      )

  nothing_viable : (v : Word) (k : ℕ) → IsRefusedAt A src dst v k → IsViable (holds A) dst []
  nothing_viable v k r = let (u, word) = r.viable in (take k (fit v dst.size) ++ u, word)

  -- where not even the empty list is viable, no cell is, and each source word is sought at the first place
  offset_none : ¬ IsViable (holds A) dst [] → (w : Word) (place offset : ℕ) → IsViableLength A dst w place offset → offset ≡ 0
  offset_none none w place zero v = refl
  offset_none none w place (suc k) v = let (u, word) = v.viable (λ z. omega arith) in absurd (none (take (suc k) (fit w dst.size) ++ u, word))

  sought_at_once : ¬ IsViable (holds A) dst [] → (v : Word) → IsSourceWord src v → Refusal v 0
  sought_at_once none v word = refusal v 0 word (omega arith) none (λ q m. absurd (omega arith))

  least_of_all : ¬ IsViable (holds A) dst [] → (w : Word) (offset : ℕ) → IsFound A src dst for_all_stops for_all_skips w offset → (v : Word) → IsSourceWord src v → word_less v w ≡ false
  least_of_all none w offset f v word =
      let first = f.least.earliest v 0 (sought_at_once none v word) in
      let at : 0 ≡ f.place = omega arith in
      f.least.least v (subst (λ (n : ℕ). Refusal v n) at (sought_at_once none v word))

  pub for_all_found : (w : Word) (offset : ℕ) → IsFound A src dst for_all_stops for_all_skips w offset → IsFirstRefusal A src dst w offset
  for_all_found w offset f =
      let s = f.least.sought in
      record {
        word = s.word;
        misfit = λ h. stopped_dead w f.place s.stops (viable_earlier A src dst hs hd rd w f.place dst.size s.within (omega arith) (fits_viable A src dst hs hd rd w h));
        refused = λ some. (found_at w f.place offset some s f.viable).1;
        earliest = λ v other word r.
            let at = (found_at w f.place offset (nothing_viable v _ r) s f.viable).0 in
            let first = f.least.earliest v (other + 1) (refused_sought v other word r) in
            omega arith;
        least = λ v word r.
            let at = (found_at w f.place offset (nothing_viable v _ r) s f.viable).0 in
            f.least.least v (subst (λ (n : ℕ). Refusal v n) (sym at) (refused_sought v offset word r));
        without_words = λ none. (offset_none none w f.place offset f.viable, least_of_all none w offset f);
      }

  -- ---- exists

  abbrev Example : Word → ℕ → Type 0
  Example w p = IsSought A src dst exists_stops exists_skips w p

  -- what fits is sought at the target's end
  fitting_sought : (w : Word) → IsSourceWord src w → Fits A src dst w → Example w dst.size
  fitting_sought w word f =
      let viable : (p : ℕ) → p ≤ dst.size → IsViableTo A dst w p = λ p l. viable_earlier A src dst hs hd rd w p dst.size l (omega arith) (fits_viable A src dst hs hd rd w f) in
      record {
        word = word;
        within = omega arith;
        stops = record { live = true; tells = (λ h. viable dst.size (omega arith), λ h. refl); stops = eq-eqb dst.size dst.size refl };
        goes_on = λ p l. (
          λ s. (let end = (both_true s.live (p == dst.size) s.stops).1 in let same = same_at p dst.size end in omega arith),
          λ s. (let live = s.tells.1 (viable p (omega arith)) in let dead = s.skips in cc),
        );
      }

  -- where one is sought, it fits
  sought_fits : (w : Word) (p : ℕ) → Example w p → (p ≡ dst.size) × Fits A src dst w
  sought_fits w p s =
      let (live, end) = both_true s.stops.live (p == dst.size) s.stops.stops in
      let same = same_at p dst.size end in
      (same, viable_fits A src dst hs hd rd w s.word (subst (λ (n : ℕ). IsViableTo A dst w n) same (s.stops.tells.0 live)))

  pub exists_none : NoneIsSought A src dst exists_stops exists_skips ↔ NoWordFits A src dst
  exists_none = (
    λ none w word f. none w dst.size (fitting_sought w word f),
    λ no w p s. no w s.word (sought_fits w p s).1,
  )

  pub exists_found : (w : Word) (offset : ℕ) → IsFound A src dst exists_stops exists_skips w offset → IsLeastExample A src dst w offset
  exists_found w offset f =
      let s = f.least.sought in
      let (end, fits) = sought_fits w f.place s in
      record {
        word = s.word;
        fits = fits;
        least = λ v word g. f.least.least v (subst (λ (n : ℕ). Example v n) (sym end) (fitting_sought v word g));
        whole =
            let low = f.viable.longest dst.size (omega arith) (fits_viable A src dst hs hd rd w fits) in
            let high = f.viable.within in
            omega arith;
      }
