-- What a walk knows at each place, and what it answers from that.
use Rattle.std.proofs.Common.{◌≡◌, ◌≢◌, ℕ, ◌+◌, ◌≤◌, Bool, List, [], ◌∷◌, length, map, refl, sym, ap, ◌∙◌, subst, arith, Contains}
use Rattle.std.specs.Prelude.{◌==◌}
use Rattle.tm_base.specs.Cells.{Word}
use Rattle.tm_auto.specs.Automata.{Automaton, IsAutomaton, ReadsWords, HasOneStateALayer}
use Rattle.tm_walk.specs.declared.way.Way.{Way}
use Rattle.tm_walk.specs.Layers.{Entry, IsStart, HasStates, NoneStops, IsFirstStop, IsNext, weights}
use Rattle.tm_walk.specs.Numbers.{way_of}
use Rattle.tm_walk.specs.Sought.{NoneIsSought, IsFound, HaltsWhereDead}
use Rattle.tm_walk.specs.Ways.{cells_to, LeadsBack}
use Rattle.tm_walk.specs.Words.{IsFront, IsLeastWord, live_length}
use Rattle.tm_walk.proofs.ChainLemmas.{IsChained, IsLeastFront, word_at, states, found, nothing, empty, long}
use Rattle.tm_walk.proofs.CostLemmas.{narrow}
use Rattle.tm_walk.proofs.FoundLemmas.{histories, cells_are, sought_stopped, found_is, leads_back, is_front}

-- The layers up to this one, at the place, follow one from another, nothing stopped before it, and their
-- ways are kept.
pub record IsWalked (A : ℕ → ℕ → Bool) (src dst : Automaton) (stop : Bool → Bool → Bool) (skip : Bool → Bool) (layer : List Entry) (history : List (List Way)) (place : ℕ) : Type 0 where
  pub older : List (List Entry)
  pub chained : IsChained A src dst stop skip older layer
  pub kept : history ≡ histories older layer
  pub long : length older ≡ place
  pub within : place ≤ dst.size

module _ (A : ℕ → ℕ → Bool) (src dst : Automaton) (hs : IsAutomaton src) (rs : ReadsWords src) (hd : IsAutomaton dst) (rd : ReadsWords dst) (stop : Bool → Bool → Bool) (skip : Bool → Bool) where
  abbrev Walked : List Entry → List (List Way) → ℕ → Type 0
  Walked layer history place = IsWalked A src dst stop skip layer history place

  pub walked_start : (layer : List Entry) (history : List (List Way)) → history ≡ [] → IsStart src dst layer → Walked layer history 0
  walked_start layer history e s = record { older = []; chained = s; kept = e; long = refl; within = omega arith }

  module _ (layer : List Entry) (history : List (List Way)) (place : ℕ) (w : IsWalked A src dst stop skip layer history place) where
    pub walked_states : (e : Entry) → Contains layer e → HasStates A src dst e
    walked_states = states A src dst hs rs stop skip hd w.older layer w.chained

    module _ (at_end : Bool) (end : at_end ≡ (place == dst.size)) where
      end_older : at_end ≡ (length w.older == dst.size)
      end_older = end ∙ ap (λ (n : ℕ). n == dst.size) (sym w.long)

      -- ---- it stops on a pair of the layer

      module _ (k : ℕ) (f : IsFirstStop stop at_end layer k) where
        least_front : IsLeastFront A src dst hs rs stop skip (cells_to history k) (length w.older)
        least_front =
            let within : length w.older ≤ dst.size = (let a = w.long in let b = w.within in omega arith) in
            let first = subst (λ (b : Bool). IsFirstStop stop b layer k) end_older f in
            let cells : word_at w.older layer k ≡ cells_to history k = sym (cells_are w.older layer k) ∙ ap (λ (z : List (List Way)). cells_to z k) (sym w.kept) in
            subst (λ (u : Word). IsLeastFront A src dst hs rs stop skip u (length w.older)) cells (found A src dst hs rs stop skip w.older layer k w.chained within first)

        pub walked_leads : LeadsBack history k
        walked_leads = subst (λ (z : List (List Way)). LeadsBack z k) (sym w.kept) (leads_back A src dst hs rs hd rd stop skip w.older layer k f.entry w.chained f.at)

        pub walked_front : IsFront src (cells_to history k)
        walked_front = is_front A src dst hs rs hd rd stop skip (cells_to history k) (length w.older) least_front

        pub walked_long : length (cells_to history k) ≡ place
        walked_long = ap (λ (z : List (List Way)). length (cells_to z k)) w.kept ∙ ap length (cells_are w.older layer k) ∙ long A src dst hs rs stop skip w.older layer w.chained k f.entry f.at ∙ w.long

        pub walked_found : (word : Word) (offset : ℕ) → IsLeastWord src (cells_to history k) word → offset ≡ live_length A dst dst.starts (cells_to history k) → IsFound A src dst stop skip word offset
        walked_found word offset l e = subst (λ (n : ℕ). IsFound A src dst stop skip word n) (sym e) (found_is A src dst hs rs hd rd stop skip (cells_to history k) word (length w.older) least_front l)

      -- ---- it stops on none

      module _ (none : NoneStops stop at_end layer) where
        none_older : NoneStops stop (length w.older == dst.size) layer
        none_older = subst (λ (b : Bool). NoneStops stop b layer) end_older none

        pub walked_end : place ≡ dst.size → NoneIsSought A src dst stop skip
        walked_end e v p s = nothing A src dst hs rs stop skip w.older layer w.chained none_older (w.long ∙ e) v p (sought_stopped A src dst hs rs hd rd stop skip v p s)

        pub walked_empty : layer ≡ [] → NoneIsSought A src dst stop skip
        walked_empty e v p s = empty A src dst hs rs stop skip w.older layer w.chained e v p (sought_stopped A src dst hs rs hd rd stop skip v p s)

        pub walked_on : (next : List Entry) (ways : List Way) → place ≢ dst.size → IsNext A src dst skip place layer (length layer) next → ways ≡ map way_of next → Walked next (ways ∷ history) (place + 1)
        walked_on next ways less n e = record {
          older = layer ∷ w.older;
          chained = (subst (λ (p : ℕ). IsNext A src dst skip p layer (length layer) next) (sym w.long) n, none_older, w.chained);
          kept = λ i. e i ∷ w.kept i;
          long = let l = w.long in omega arith;
          within = let l = w.within in omega arith;
        }

        pub walked_narrow : HasOneStateALayer src → HasOneStateALayer dst → HaltsWhereDead stop skip → weights skip layer ≤ 1
        walked_narrow one two halts = narrow A src dst hs rs hd rd stop skip w.older layer w.chained none_older one two halts
