-- The least source word behind some cells: the least cell that may come next, again and again.
use Rattle.std.proofs.Common.{◌≡◌, ◌≢◌, ℕ, suc, ◌<◌, ◌≤◌, ◌⊎◌, inl, inr, ◌↔◌, true, false, List, [], ◌∷◌, ◌++◌, length, take, min, sym, ap, ◌∙◌, subst, arith, length-append, Contains}
use Rattle.std.proofs.lemmas.Bool.{cases_lt}
use Rattle.std.proofs.lemmas.List.{take-append-le, take_all}
use Rattle.tm_base.specs.declared.cell.Cell.{Cell}
use Rattle.tm_base.specs.Cells.{Word}
use Rattle.tm_base.specs.Orders.{cell_less, word_less}
use Rattle.tm_base.specs.Transmutes.{holds, is_itself}
use Rattle.tm_base.proofs.OrderLemmas.{cell_less-total, word_less-asym}
use Rattle.tm_base.proofs.JudgedLemmas.{Contains-none}
use Rattle.tm_auto.specs.Automata.{Automaton, AutoWord, IsAutomaton, ReadsWords, reached}
use Rattle.tm_auto.specs.Classes.{TakesFrom}
use Rattle.tm_auto.specs.Least.{IsLeastCell}
use Rattle.tm_auto.specs.Sets.{next, symbol_of}
use Rattle.tm_auto.proofs.ContainsLemmas.{some_among}
use Rattle.tm_auto.proofs.SetLemmas.{bool_cases}
use Rattle.tm_auto.proofs.StepLemmas.{passes_takes, next_to, to_next}
use Rattle.tm_walk.specs.Sought.{IsSourceWord}
use Rattle.tm_walk.specs.Words.{IsFront, IsLeastWord}
use Rattle.tm_walk.proofs.ChainLemmas.{reached_more, alike_earlier}
use Rattle.tm_walk.proofs.LessLemmas.{less_begins, less_behind, less_cell, word_less-irreflexive}
use Rattle.tm_walk.proofs.PaddedLemmas.{padded, cell_at, fit-padded, padded_more, padded_front, padded_self, padded_within, length-padded, take-padded}

-- some word that begins so has the cells, each word that begins so does, and each word that has them begins
-- so or is greater
pub record IsBegun (src : Automaton) (cells begun : Word) : Type 0 where
  pub within : length begun ≤ src.size
  pub whole : Word
  pub word : IsSourceWord src whole
  pub front : padded whole (length begun) ≡ begun
  pub enough : (v : Word) → IsSourceWord src v → padded v (length begun) ≡ begun → padded v (length cells) ≡ cells
  pub least : (v : Word) → IsSourceWord src v → padded v (length cells) ≡ cells → (padded v (length begun) ≡ begun) ⊎ (word_less begun (padded v (length begun)) ≡ true)

module _ (src : Automaton) (hs : IsAutomaton src) (rs : ReadsWords src) where
  taken : (from : List ℕ) (c : Cell) → TakesFrom src from c ↔ (next is_itself src.edges from (symbol_of c) ≢ [])
  taken from c = (
    λ (e, (ea, ef), t) none. Contains-none _ (subst (λ (z : List ℕ). Contains z e.to) none (to_next is_itself src.edges from (symbol_of c) e ea ef ((passes_takes is_itself e.label c).1 t))),
    λ some. (let (s, m) = some_among _ some in let (e, ea, ef, ep, eq) = next_to is_itself src.edges from (symbol_of c) s m in (e, (ea, ef), (passes_takes is_itself e.label c).0 ep)),
  )

  -- the next cell of a source word is taken where the cells before it lead
  pub next_taken : (w : Word) → IsSourceWord src w → (p : ℕ) → p < src.size → TakesFrom src (reached is_itself src (padded w p)) (cell_at w p)
  next_taken w word p l =
      let size = hs.sized is_itself w word in
      let (t, split) = padded_within w (suc p) (omega arith) in
      let some = (rs.source (padded w (suc p))).1 (t, subst (λ (z : Word). AutoWord (holds is_itself) src z) split word) in
      (taken (reached is_itself src (padded w p)) (cell_at w p)).1 (λ e. some (ap (reached is_itself src) (padded_more w p) ∙ reached_more is_itself src (padded w p) (cell_at w p) ∙ e))

  same_word : (v w : Word) → IsSourceWord src v → IsSourceWord src w → (n : ℕ) → src.size ≤ n → padded v n ≡ padded w n → v ≡ w
  same_word v w x y n l e =
      let a = hs.sized is_itself v x in
      let b = hs.sized is_itself w y in
      sym (padded_self v) ∙ ap (padded v) a ∙ alike_earlier v w n src.size l e ∙ ap (padded w) (sym b) ∙ padded_self w

  -- the cells, cut at the source's end
  pub begin : (cells begun : Word) → IsFront src cells → begun ≡ take (min (length cells) src.size) cells → IsBegun src cells begun
  begin cells begun (w, word, f) is =
      let front : padded w (length cells) ≡ cells = sym (fit-padded w (length cells)) ∙ f in
      let least : min (length cells) src.size ≤ length cells = omega arith in
      let cut : begun ≡ padded w (min (length cells) src.size) = is ∙ ap (take (min (length cells) src.size)) (sym front) ∙ take-padded w (min (length cells) src.size) (length cells) least in
      let long : length begun ≡ min (length cells) src.size = ap length cut ∙ length-padded w (min (length cells) src.size) in
      let at : padded w (length begun) ≡ begun = ap (padded w) long ∙ sym cut in
      record {
        within = omega arith;
        whole = w;
        word = word;
        front = at;
        enough = λ v x e. elim (cases_lt src.size (length cells)) [
          | inl lt ↦ (
              let n : length begun ≡ src.size = omega arith in
              let same : v ≡ w = same_word v w x word src.size (omega arith) (ap (padded v) (sym n) ∙ e ∙ sym at ∙ ap (padded w) n) in
              ap (λ (z : Word). padded z (length cells)) same ∙ front)
          | inr ge ↦ (
              let n : length begun ≡ length cells = omega arith in
              ap (padded v) (sym n) ∙ e ∙ sym at ∙ ap (padded w) n ∙ front)
        ];
        least = λ v x e. inl (alike_earlier v w (length cells) (length begun) (omega arith) (e ∙ sym front) ∙ at);
      }

  -- one cell more: the least that may come next
  pub go_on : (cells begun : Word) (c : Cell) → IsBegun src cells begun → length begun < src.size → IsLeastCell src (reached is_itself src begun) c → IsBegun src cells (begun ++ c ∷ [])
  go_on cells begun c b l least =
      let long : length (begun ++ c ∷ []) ≡ suc (length begun) = length-append begun (c ∷ []) ∙ (omega arith) in
      let some : reached is_itself src (begun ++ c ∷ []) ≢ [] = λ e. (taken (reached is_itself src begun) c).0 least.taken (sym (reached_more is_itself src begun c) ∙ e) in
      let (t, word) = (rs.source (begun ++ c ∷ [])).0 some in
      let w = (begun ++ c ∷ []) ++ t in
      let back : (v : Word) → padded v (length (begun ++ c ∷ [])) ≡ begun ++ c ∷ [] → padded v (length begun) ≡ begun = λ v e.
      sym (take-padded v (length begun) (length (begun ++ c ∷ [])) (omega arith)) ∙ ap (take (length begun)) e ∙ take-append-le (length begun) begun (c ∷ []) (omega arith) ∙ take_all (length begun) begun (omega arith) in
      record {
        within = omega arith;
        whole = w;
        word = word;
        front = padded_front (begun ++ c ∷ []) t;
        enough = λ v x e. b.enough v x (back v e);
        least = λ v x e.
            let more : padded v (length (begun ++ c ∷ [])) ≡ padded v (length begun) ++ cell_at v (length begun) ∷ [] = ap (padded v) long ∙ padded_more v (length begun) in
            elim (b.least v x e) [
              | inr less ↦ inr (rw more (less_begins begun (padded v (length begun)) (c ∷ []) (cell_at v (length begun) ∷ []) (sym (length-padded v (length begun))) less))
              | inl same ↦ (
                  let t : TakesFrom src (reached is_itself src begun) (cell_at v (length begun)) = subst (λ (z : Word). TakesFrom src (reached is_itself src z) (cell_at v (length begun))) same (next_taken v x (length begun) l) in
                  let not_less = least.least (cell_at v (length begun)) t in
                  elim (bool_cases (cell_less c (cell_at v (length begun)))) [
                    | inl lt ↦ inr (rw (more, same) (less_behind begun (c ∷ []) (cell_at v (length begun) ∷ []) ∙ less_cell c (cell_at v (length begun)) ∙ lt))
                    | inr ge ↦ (let d : cell_at v (length begun) ≡ c = cell_less-total (cell_at v (length begun)) c not_less ge in inl (more ∙ (λ i. same i ++ d i ∷ [])))
                  ])
            ];
      }

  pub finish : (cells begun : Word) → IsBegun src cells begun → src.size ≤ length begun → IsLeastWord src cells begun
  finish cells begun b l =
      let within = b.within in
      let n : length begun ≡ src.size = omega arith in
      let size = hs.sized is_itself b.whole b.word in
      let whole : b.whole ≡ begun = sym (padded_self b.whole) ∙ ap (padded b.whole) (size ∙ sym n) ∙ b.front in
      let word : IsSourceWord src begun = subst (IsSourceWord src) whole b.word in
      record {
        word = word;
        begins = fit-padded begun (length cells) ∙ b.enough begun word (padded_self begun);
        least = λ v x e.
            let long = hs.sized is_itself v x in
            let self : padded v (length begun) ≡ v = ap (padded v) (n ∙ sym long) ∙ padded_self v in
            elim (b.least v x (sym (fit-padded v (length cells)) ∙ e)) [
              | inl same ↦ (let q : v ≡ begun = sym self ∙ same in subst (λ (z : Word). word_less z begun ≡ false) (sym q) (word_less-irreflexive begun))
              | inr less ↦ word_less-asym begun v (subst (λ (z : Word). word_less begun z ≡ true) self less)
            ];
      }

  -- some cell may come next
  pub next_some : (cells begun : Word) → IsBegun src cells begun → length begun < src.size → (c : Cell) × TakesFrom src (reached is_itself src begun) c
  next_some cells begun b l =
      (cell_at b.whole (length begun), subst (λ (z : Word). TakesFrom src (reached is_itself src z) (cell_at b.whole (length begun))) b.front (next_taken b.whole b.word (length begun) l))
