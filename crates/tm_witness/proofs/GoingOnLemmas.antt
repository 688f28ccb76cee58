-- How words go on from the states that a list of cells reaches.
use Rattle.std.proofs.Common.{◌≡◌, ◌≢◌, ℕ, ◌↔◌, Bool, true, List, [], ◌∷◌, ◌++◌, refl, sym, ◌∙◌, subst, arith, Contains}
use Rattle.tm_base.specs.declared.cell.Cell.{Cell}
use Rattle.tm_base.specs.declared.cell.Cell.TheVariants.{Byte, Uninit}
use Rattle.tm_base.specs.Cells.{Word}
use Rattle.tm_base.specs.Transmutes.{holds}
use Rattle.tm_base.proofs.JudgedLemmas.{Contains-none}
use Rattle.tm_auto.specs.declared.edge.Label.{Label}
use Rattle.tm_auto.specs.declared.edge.Label.TheVariants.{Bytes, Free, Leaf}
use Rattle.tm_auto.specs.Automata.{Automaton, IsAutomaton, IsStep, ReadsWords, IsViable, reached}
use Rattle.tm_auto.specs.Joined.{JoinedAfter, IsJoined, HasNoOwn}
use Rattle.tm_auto.specs.Labels.{Takes, CanTake}
use Rattle.tm_auto.specs.Sets.{next, symbol_of}
use Rattle.tm_auto.proofs.ContainsLemmas.{some_among}
use Rattle.tm_auto.proofs.StepLemmas.{next_to, to_next, next-IsStrictlyIncreasing, passes_takes}
use Rattle.tm_witness.specs.GoingOn.{GoesOnByByte}
use Rattle.tm_witness.specs.Search.{takes_bytes}

joined-byte : (c : Cell) (w : Word) (b : ℕ) → JoinedAfter c w → JoinedAfter c (w ++ Byte b ∷ [])
joined-byte c [] b h = (tt, tt)
joined-byte c (d ∷ w) b (follows, h) = (follows, joined-byte d w b h)

closed-byte : (w : Word) (b : ℕ) → HasNoOwn w → HasNoOwn (w ++ Byte b ∷ [])
closed-byte [] b h = (tt, tt)
closed-byte (c ∷ w) b (here, h) = (here, closed-byte w b h)

-- a label that takes initialised bytes takes one
some_byte : (A : ℕ → ℕ → Type 0) (pointer : ℕ) (l : Label) → CanTake pointer l → takes_bytes l ≡ true → (b : ℕ) × Takes A l (Byte b)
some_byte A pointer (Bytes low high) can h = (low, (low, omega arith, can.0, refl))
some_byte A pointer Free can h = (0, omega arith)
some_byte A pointer (Leaf t k) can h = cc

takes-byte : (A : ℕ → ℕ → Type 0) (l : Label) (b : ℕ) → Takes A l (Byte b) → takes_bytes l ≡ true
takes-byte A (Bytes low high) b h = refl
takes-byte A Free b h = refl
takes-byte A (Leaf t k) b (x, a, e) = cc

module _ (auto : Automaton) (is : IsAutomaton auto) (reads : ReadsWords auto) (A : ℕ → ℕ → Bool) (w : Word) (joined : IsJoined w) (closed : HasNoOwn w) where
  abbrev states : List ℕ
  states = reached A auto w

  -- what one cell more reaches
  reached-more : (c : Cell) → reached A auto (w ++ c ∷ []) ≡ next A auto.edges states (symbol_of c)
  reached-more c = sym (reads.steps A w c (next A auto.edges states (symbol_of c)) step) where
    step : IsStep A auto states (symbol_of c) (next A auto.edges states (symbol_of c))
    step = record {
      rising = next-IsStrictlyIncreasing A auto.edges states (symbol_of c);
      states = λ s. (
        λ at. next_to A auto.edges states (symbol_of c) s at,
        λ (e, among, from, passes, to). subst (λ (n : ℕ). Contains (next A auto.edges states (symbol_of c)) n) to (to_next A auto.edges states (symbol_of c) e among from passes),
      );
    }

  byte-viable : (b : ℕ) → (reached A auto (w ++ Byte b ∷ []) ≢ []) ↔ IsViable (holds A) auto (w ++ Byte b ∷ [])
  byte-viable b = reads.viable A (w ++ Byte b ∷ []) (joined-byte Uninit w b joined) (closed-byte w b closed)

  -- an initialised byte is taken there exactly where some word goes on with one
  pub byte-goes_on : GoesOnByByte auto states ↔ ((b : ℕ) × IsViable (holds A) auto (w ++ Byte b ∷ []))
  byte-goes_on = (
    λ (e, among, from, h).
        let (b, taken) = some_byte (holds A) auto.pointer e.label (is.takes e among) h in
        let at = to_next A auto.edges states (symbol_of (Byte b)) e among from ((passes_takes A e.label (Byte b)).1 taken) in
        (b, (byte-viable b).0 (λ none. Contains-none _ (subst (λ (set : List ℕ). Contains set e.to) (sym (reached-more (Byte b)) ∙ none) at))),
    λ (b, viable).
        let (s, at) = some_among (reached A auto (w ++ Byte b ∷ [])) ((byte-viable b).1 viable) in
        let (e, among, from, passes, to) = next_to A auto.edges states (symbol_of (Byte b)) s (subst (λ (set : List ℕ). Contains set s) (reached-more (Byte b)) at) in
        (e, among, from, takes-byte (holds A) e.label b ((passes_takes A e.label (Byte b)).0 passes)),
  )
