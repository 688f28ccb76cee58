-- What follows from obligations of one target set, by symbols and by cells.
use Rattle.std.proofs.Common.{◌≡◌, ℕ, ◌+◌, ◌<◌, ◌≤◌, inl, inr, Bool, true, false, List, [], length, drop, get_or, refl, sym, ap, ◌∙◌, subst, arith, Contains}
use Rattle.tm_base.specs.declared.cell.Cell.{Cell}
use Rattle.tm_base.specs.declared.cell.Cell.TheVariants as cell
use Rattle.tm_base.specs.Transmutes.{is_itself}
use Rattle.tm_auto.specs.declared.edge.Edge.{Edge}
use Rattle.tm_auto.specs.declared.edge.Symbol.{Symbol}
use Rattle.tm_auto.specs.declared.edge.Symbol.TheVariants as symbol
use Rattle.tm_auto.specs.Automata.{Automaton}
use Rattle.tm_auto.specs.Classes.{HasCell, IsFormed, AreClasses}
use Rattle.tm_auto.specs.Sets.{next, passes, symbol_of}
use Rattle.tm_auto.proofs.NextLemmas.{among_from, from_among}
use Rattle.tm_auto.proofs.StepLemmas.{passes_takes}
use Rattle.tm_walk.specs.declared.obligation.Obligation.{Obligation}
use Rattle.tm_walk.specs.Obligations.{AreAdded, IsFirst, FollowsEdge, FollowsGroup, FollowsSome, Stays}
use Rattle.tm_walk.proofs.ExpandLemmas.{next_same}
use Rattle.tm_walk.proofs.AddedLemmas.{OfSome, added_none, added_same, added_turn}

-- a symbol has a cell
some_cell : (x : Symbol) → IsFormed x → (c : Cell) × HasCell x c
some_cell (symbol.Bytes first last) f = (cell.Byte first, (omega arith, f.0))
some_cell symbol.Uninit f = (cell.Uninit, refl)
some_cell (symbol.Ptr r k) f = (cell.Ptr r k, refl)

module _ (dst : Automaton) where
  -- one start of the source
  abbrev pub IsFirstOf : ℕ → Obligation → Type 0
  IsFirstOf s o = o ≡ record { state = s; target = dst.starts }

  -- one turn of a loop over starts
  pub first_turn : (xs : List ℕ) (i d : ℕ) → i < length xs → (before between after : List Obligation) (target : List ℕ) → target ≡ dst.starts
      → AreAdded (λ o. o ≡ record { state = get_or xs i d; target = target }) before between
      → AreAdded (OfSome IsFirstOf (drop (i + 1) xs)) between after → AreAdded (OfSome IsFirstOf (drop i xs)) before after
  first_turn xs i d l before between after target a added rest =
      let same : ◌≡◌ {A = Obligation} (record { state = get_or xs i d; target = target }) (record { state = get_or xs i d; target = dst.starts }) = rw a refl in
      added_turn IsFirstOf xs i d l before between after (subst (λ (z : Obligation). AreAdded (λ o. o ≡ z) before between) same added) rest

pub firsts_are : (src dst : Automaton) (layer : List Obligation) → AreAdded (OfSome (IsFirstOf dst) src.starts) [] layer → AreAdded (IsFirst src dst) [] layer
firsts_are src dst layer a = added_same _ _ [] layer
    (λ o (s, m, e). record { state = subst (λ (z : ℕ). Contains src.starts z) (sym (ap (λ (z : Obligation). z.state) e)) m; target = ap (λ (z : Obligation). z.target) e })
    (λ o f. (o.state, f.state, λ i. record { state = o.state; target = f.target i }))
    a

-- ---- loops over edges

module _ (x : Symbol) (target : List ℕ) (es : List Edge) (i : ℕ) (d : Edge) (l : i < length es) (before after : List Obligation) where
  pub edge_taken : (between : List Obligation) (set : List ℕ) → passes is_itself (get_or es i d).label x ≡ true → set ≡ target
      → AreAdded (λ q. q ≡ record { state = (get_or es i d).to; target = set }) before between → AreAdded (OfSome (FollowsEdge x target) (drop (i + 1) es)) between after → AreAdded (OfSome (FollowsEdge x target) (drop i es)) before after
  edge_taken between set h e added rest =
      let same : ◌≡◌ {A = Obligation} (record { state = (get_or es i d).to; target = set }) (record { state = (get_or es i d).to; target = target }) = rw e refl in
      added_turn (FollowsEdge x target) es i d l before between after
      (added_same _ _ before between (λ q k. (h, k ∙ same)) (λ q k. k.1 ∙ sym same) added) rest

  pub edge_left : passes is_itself (get_or es i d).label x ≡ false → AreAdded (OfSome (FollowsEdge x target) (drop (i + 1) es)) before after → AreAdded (OfSome (FollowsEdge x target) (drop i es)) before after
  edge_left h rest = added_turn (FollowsEdge x target) es i d l before before after (added_none (FollowsEdge x target (get_or es i d)) before (λ q k. (let z = k.0 in cc))) rest

-- ---- loops over obligations

-- one turn of one that keeps their states
pub stay_turn : (target : List ℕ) (os : List Obligation) (i : ℕ) (o : Obligation) → i < length os → o ≡ get_or os i o → (before between after : List Obligation) (set : List ℕ) → set ≡ target
    → AreAdded (λ q. q ≡ record { state = o.state; target = set }) before between → AreAdded (Stays target (drop (i + 1) os)) between after → AreAdded (Stays target (drop i os)) before after
stay_turn target os i o l is before between after set e added rest =
    let same : ◌≡◌ {A = Obligation} (record { state = o.state; target = set }) (record { state = (get_or os i o).state; target = target }) = λ j. record { state = (is j).state; target = e j } in
    added_turn (λ (o : Obligation) (p : Obligation). p ≡ record { state = o.state; target = target }) os i o l before between after
    (subst (λ (z : Obligation). AreAdded (λ q. q ≡ z) before between) same added) rest

-- ---- obligations of one target set

module _ (A : ℕ → ℕ → Bool) (src dst : Automaton) (place : ℕ) (os : List Obligation) (target : List ℕ) (one : (o : Obligation) → Contains os o → o.target ≡ target) where
  -- behind a symbol of a class, and behind each of its cells
  abbrev behind : Symbol → List ℕ
  behind x = next A dst.edges target x

  behind_own : (o : Obligation) (c : Cell) → Contains os o → next A dst.edges o.target (symbol_of c) ≡ behind (symbol_of c)
  behind_own o c m = ap (λ (z : List ℕ). next A dst.edges z (symbol_of c)) (one o m)

  module _ (within : place < src.size) (from : List ℕ) (has : (o : Obligation) → Contains os o → Contains from o.state) (xs : List Symbol) (c : AreClasses src from dst target xs) where
    here_too : (o : Obligation) (e : Edge) → Contains os o → e.from ≡ o.state → Contains from e.from
    here_too o e m f = subst (λ (s : ℕ). Contains from s) (sym f) (has o m)

    same : (x : Symbol) (d : Cell) → Contains xs x → HasCell x d → behind x ≡ behind (symbol_of d)
    same x d m h = next_same A dst.edges target x (symbol_of d) (λ e em ef. c.alike A x d e m h (inr (em, ef)))

    by_symbol : (p : Obligation) → OfSome (λ x. FollowsGroup src x (behind x) os) xs p → FollowsSome A src dst place os p
    by_symbol p (x, m, (o, mo, (e, em, (ep, q)))) =
        let (d, h) = some_cell x (c.formed x m) in
        let (ea, ef) = among_from o.state src.edges e em in
        let alike = c.alike is_itself x d e m h (inl (ea, here_too o e mo ef)) in
        let to : p.state ≡ e.to = ap (λ (z : Obligation). z.state) q in
        (o, mo, (d, inl (within, (e, ea, ef, (passes_takes is_itself e.label d).0 (sym alike ∙ ep), sym to)), ap (λ (z : Obligation). z.target) q ∙ same x d m h ∙ sym (behind_own o d mo)))

    by_cell : (p : Obligation) → FollowsSome A src dst place os p → OfSome (λ x. FollowsGroup src x (behind x) os) xs p
    by_cell p (o, mo, (d, inr (l, u, s), q)) = absurd (omega arith)
    by_cell p (o, mo, (d, inl (l, (e, ea, ef, t, to)), q)) =
        let (x, m, h) = (c.covers d).0 (e, (ea, here_too o e mo ef), t) in
        let alike = c.alike is_itself x d e m h (inl (ea, here_too o e mo ef)) in
        let set : p.target ≡ behind x = q ∙ behind_own o d mo ∙ sym (same x d m h) in
        (x, m, (o, mo, (e, from_among o.state src.edges e ea ef, (alike ∙ (passes_takes is_itself e.label d).1 t, λ i. record { state = sym to i; target = set i }))))

    pub follows_within : (before after : List Obligation) → AreAdded (OfSome (λ x. FollowsGroup src x (behind x) os) xs) before after → AreAdded (FollowsSome A src dst place os) before after
    follows_within before after a = added_same _ _ before after by_symbol by_cell a

  -- behind the source's end
  pub follows_behind : src.size ≤ place → (before after : List Obligation) → AreAdded (Stays (behind symbol.Uninit) os) before after → AreAdded (FollowsSome A src dst place os) before after
  follows_behind l before after a = added_same _ _ before after
      (λ p (o, m, q). (o, m, (cell.Uninit, inr (l, refl, ap (λ (z : Obligation). z.state) q), ap (λ (z : Obligation). z.target) q ∙ sym (behind_own o cell.Uninit m))))
      (λ p f. back p f)
      a
    where
      back : (p : Obligation) → FollowsSome A src dst place os p → Stays (behind symbol.Uninit) os p
      back p (o, mo, (d, inl (m, rest), q)) = absurd (omega arith)
      back p (o, mo, (d, inr (m, u, s), q)) =
          let set : p.target ≡ behind symbol.Uninit = q ∙ behind_own o d mo ∙ ap (λ (z : Cell). behind (symbol_of z)) u in
          (o, mo, λ i. record { state = s i; target = set i })
