-- What is known of a cell at which a target refuses a word, and which rule it gives.
use Rattle.std.proofs.Common.{◌≡◌, ℕ, zero, suc, ◌-◌, ◌<◌, ◌≤◌, inl, inr, ◌↔◌, refl, sym, ◌∙◌, ap, subst, Bool, true, List, [], ◌∷◌, ◌++◌, length, take, replicate, Option, Some, None, slice_get, arith, length-take}
use Rattle.std.specs.List.{All, Contains}
use Rattle.std.proofs.Math.ListN.{get_or-append}
use Rattle.std.proofs.lemmas.List.{take-append-le, take-take, get_or-take}
use Rattle.std.proofs.lemmas.List.Elements.{All-head, All-tail, All-take, All-contains}
use Rattle.std.proofs.lemmas.Option.{get_or_from_slice_get, slice_get-get_or, slice_get_within}
use Rattle.tm_base.specs.declared.answer.RefFault.{RefFault}
use Rattle.tm_base.specs.declared.answer.Rule.{Rule}
use Rattle.tm_base.specs.declared.answer.Rule.TheVariants.{TooBig, NeedsInit, ByteValue, BytesForReference, ReferenceForBytes}
use Rattle.tm_base.specs.declared.ask.Ask.{Ask}
use Rattle.tm_base.specs.declared.cell.Cell.{Cell}
use Rattle.tm_base.specs.declared.cell.Cell.TheVariants.{Byte, Uninit, Ptr}
use Rattle.tm_base.specs.declared.cell.RefId.{RefId}
use Rattle.tm_base.specs.declared.definition.RefRow.{RefRow}
use Rattle.tm_base.specs.declared.world.World.{World}
use Rattle.tm_base.specs.Answers.{IsLeastFault}
use Rattle.tm_base.specs.Cells.{Word, fit, own, OrOwn}
use Rattle.tm_base.specs.Expanded.{Expanded}
use Rattle.tm_base.specs.Layout.{size_of}
use Rattle.tm_base.specs.Reaches.{IsJudged}
use Rattle.tm_base.specs.Rules.{source, target, Taken, IsOpen, IsCellRule}
use Rattle.tm_base.specs.Tables.{Tables}
use Rattle.tm_base.specs.Transmutes.{Same, holds}
use Rattle.tm_base.specs.Viable.{StandsOpen, Viable}
use Rattle.tm_base.specs.Worlds.{tables_of}
use Rattle.tm_base.proofs.ValidLemmas.{Valid-length}
use Rattle.tm_laws.specs.WordLaws.{IsClosed, IsOfSources}
use Rattle.tm_laws.proofs.known.CellRuleLemmas.{value-closed}
use Rattle.tm_laws.proofs.refusals.StopLemmas.{fit-all, fit-length, refused-inside, refused-pointer-is-first, open-is-leaf, open-is-not-taken}
use Rattle.tm_laws.proofs.refusals.Moves.{All-middle}
use Rattle.tm_laws.proofs.refusals.Rows.{pointer-known, open-known}
use Rattle.tm_laws.proofs.refusals.Worlds.{leaves-known, compatible-of_sources}
use Rattle.tm_laws.proofs.whole.Leaves.{Leaf, leaves}
use Rattle.tm_laws.proofs.whole.Types.{expanded_in-for}
use Rattle.tm_laws.proofs.whole.Words.{IsCellOf, IsHeldBy, pointers-related}
use Rattle.tm_auto.specs.Automata.{Automaton, IsAutomaton, ReadsWords, IsViable, BeginsReference, reached}
use Rattle.tm_auto.specs.Joined.{IsJoined, HasNoOwn}
use Rattle.tm_auto.proofs.JoinedLemmas.{joined_left}
use Rattle.tm_refs.specs.declared.compat.Compat.{Compat}
use Rattle.tm_refs.specs.Local.{AreJudged}
use Rattle.tm_refs.specs.Looks.{has_leaf}
use Rattle.tm_refs.specs.Solved.{compatible_in}
use Rattle.tm_refs.proofs.MoveLemmas.{Valid-leaves}
use Rattle.tm_refs.proofs.ServesLemmas.{served-exact}
use Rattle.tm_witness.specs.GoingOn.{IsByteRule, IsLeastOpen, reference_answer, table_rule, table_fault}
use Rattle.tm_witness.specs.Refused.{IsRefused, IsRuleAt}
use Rattle.tm_witness.proofs.GoingOnLemmas.{byte-goes_on}
use Rattle.tm_witness.proofs.JudgedLeaves.{IsJudgedLeaf, judged-leaves}
use Rattle.tm_witness.proofs.RuleLemmas.{table_answer}
use Rattle.tm_witness.proofs.TypeAutomata.{viable-same}

closed_cells : (w : Word) → All IsClosed w → HasNoOwn w
closed_cells [] h = tt
closed_cells (Byte b ∷ w) h = (tt, closed_cells w (All-tail IsClosed (Byte b) w h))
closed_cells (Uninit ∷ w) h = (tt, closed_cells w (All-tail IsClosed Uninit w h))
closed_cells (Ptr r k ∷ w) h = (All-head IsClosed (Ptr r k) w h, closed_cells w (All-tail IsClosed (Ptr r k) w h))

-- the cells of a fit that are the word's
fit-take : (w : Word) (m o : ℕ) → o ≤ m → o ≤ length w → take o (fit w m) ≡ take o w
fit-take w m o in_m in_w =
    let long = length-take m w in
    take-append-le o (take m w) (replicate (m - length w) Uninit) (omega arith) ∙ take-take o m w in_m

fit-at : (w : Word) (m o : ℕ) → o < m → o < length w → slice_get (fit w m) o ≡ slice_get w o
fit-at w m o in_m in_w =
    let short = length-take m w in
    let long = fit-length w m in
    let in_front : o < length (take m w) = omega arith in
    slice_get-get_or (fit w m) o Uninit (omega arith)
    ∙ ap (λ (c : Cell). Some c) (get_or-append (take m w) (replicate (m - length w) Uninit) Uninit o in_front ∙ get_or-take m w o Uninit in_m)
    ∙ sym (slice_get-get_or w o Uninit in_w)

row_at : {X : Type 0} (xs : List X) (k : ℕ) → k < length xs → (x : X) × (slice_get xs k ≡ Some x)
row_at [] k h = absurd (omega arith)
row_at (x ∷ xs) zero h = (x, refl)
row_at (x ∷ xs) (suc k) h = row_at xs k (omega arith)

-- a reference that may stand somewhere in a value of a type is a leaf of it
open-leaf : (A : ℕ → ℕ → Type 0) → IsOfSources A → (keep : Bool) (t : Expanded) (p : Word) (u : ℕ) → StandsOpen A keep t p u → has_leaf t u ≡ true
open-leaf A sources keep t p u (rest, valid) =
    let W : ℕ → ℕ → Type 0 = λ x v. (has_leaf t v ≡ true) × OrOwn A x v in
    let open_cell : Cell = Ptr (record { 0 = own u }) 0 in
    let w : Word = (p ++ open_cell ∷ []) ++ rest in
    let cells = pointers-related W keep t w (Valid-leaves (OrOwn A) W keep t (λ x v leaf a. (leaf, a)) w valid) in
    let held : IsHeldBy W t (own u) = (All-middle (IsCellOf (IsHeldBy W t)) p open_cell rest cells).0 in
    by held.0.number held.2.0 held.2.1 where
      by : (v : ℕ) → has_leaf t v ≡ true → OrOwn A (own u) v → has_leaf t u ≡ true
      by v leaf (inl a) = let below = sources (own u) v a in absurd (omega arith)
      by v leaf (inr e) = let same : v ≡ u = omega arith in subst (λ (n : ℕ). has_leaf t n ≡ true) same leaf

module _ (world : World) (ask : Ask) (dst : Automaton) (compat : Compat) (size : ℕ) (w : Word) (o : ℕ) (h : IsRefused world ask dst compat size w o) where
  abbrev tables : Tables
  tables = tables_of world

  abbrev s : Expanded
  s = source tables ask

  abbrev t : Expanded
  t = target tables ask

  abbrev A : ℕ → ℕ → Type 0
  A = Taken tables ask

  abbrev keep : Bool
  keep = ask.assume.safety

  abbrev test : ℕ → ℕ → Bool
  test = compatible_in compat

  abbrev fitted : Word
  fitted = fit w (size_of t)

  abbrev before : Word
  before = take o fitted

  viable : (p : Word) → IsViable (holds test) dst p ↔ Viable A keep t p
  viable p = viable-same tables keep ask.dst dst h.automaton test A (served-exact tables ask.assume ask.dst compat h.serves) p

  long : length w ≡ size
  long = Valid-length Same true s w h.value ∙ sym h.sized

  inside : o < size_of t
  inside = refused-inside A keep t w o h.refused

  word-closed : All IsClosed w
  word-closed = value-closed world ask h.source_over h.target_over w h.value

  closed : HasNoOwn before
  closed = closed_cells before (All-take IsClosed o fitted (fit-all IsClosed tt w (size_of t) word-closed))

  joined : IsJoined before
  joined = let (v, word) = (viable before).1 h.refused.goes_to in joined_left Uninit before v word.joined

  -- past the source
  pub past-rule : size ≤ o → IsRuleAt tables ask w o TooBig None
  past-rule past = let same = h.sized in record { rule_holds = inl (omega arith, refl, refl); least = tt }

  module _ (in_source : o < size) where
    -- a cell of the word is there
    pub cell-there : ¬ (length w ≤ o)
    cell-there past = let l = long in omega arith

    in_word : o < length w
    in_word = let l = long in omega arith

    front : before ≡ take o w
    front = let i = inside in let j = in_word in fit-take w (size_of t) o (omega arith) (omega arith)

    module _ (c : Cell) (at : slice_get w o ≡ Some c) where
      at_fit : slice_get fitted o ≡ Some c
      at_fit = fit-at w (size_of t) o inside in_word ∙ at

      -- by the rule of the cell
      by_cell : (rule : Rule) (fault : Option RefFault) → IsCellRule tables ask before (Some c) rule fault → IsLeastFault tables ask before fault → IsRuleAt tables ask w o rule fault
      by_cell rule fault holds_rule least =
          let same = h.sized in
          record { rule_holds = inr (omega arith, subst (λ (x : Option Cell). IsCellRule tables ask before x rule fault) (sym at_fit) holds_rule); least = least }

    pub uninit-rule : slice_get w o ≡ Some Uninit → IsRuleAt tables ask w o NeedsInit None
    uninit-rule at = by_cell Uninit at NeedsInit None (refl, refl) tt

    module _ (is : IsAutomaton dst) (reads : ReadsWords dst) where
      at_front : (P : List ℕ → Type 0) → P (reached test dst (take o w)) → P (reached test dst before)
      at_front P p = subst (λ (u : Word). P (reached test dst u)) (sym front) p

      pub byte-rule : (b : ℕ) → slice_get w o ≡ Some (Byte b) → (rule : Rule) → IsByteRule dst (reached test dst (take o w)) rule → IsRuleAt tables ask w o rule None
      byte-rule b at rule by_byte = by_cell (Byte b) at rule None (by rule (at_front (λ states. IsByteRule dst states rule) by_byte)) tt where
        by : (rule : Rule) → IsByteRule dst (reached test dst before) rule → IsCellRule tables ask before (Some (Byte b)) rule None
        by ByteValue goes =
            let (c, v) = (byte-goes_on dst is reads test before joined closed).0 goes in
            inl (refl, (c, (viable (before ++ Byte c ∷ [])).0 v), refl)
        by BytesForReference stuck = inr (refl, λ (c, v). stuck ((byte-goes_on dst is reads test before joined closed).1 (c, (viable (before ++ Byte c ∷ [])).1 v)), refl)
        by _ none = absurd none

      sources : IsOfSources A
      sources = compatible-of_sources world ask.assume

      opens-same : (u : RefId) → BeginsReference dst (reached test dst before) u ↔ IsOpen tables ask before u.0
      opens-same u =
          let begins = reads.opens test before u (λ x v below a. sources x v (h.serves.sound x v a)) joined closed in
          let same = viable (before ++ Ptr (record { 0 = own u.0 }) 0 ∷ []) in
          (λ b. same.0 (begins.0 b), λ v. begins.1 (same.1 v))

      module _ (r : RefId) (k : ℕ) (at : slice_get w o ≡ Some (Ptr r k)) where
        first : k ≡ 0
        first = refused-pointer-is-first world.profile A keep t (expanded_in-for tables ask.dst) s (expanded_in-for tables ask.src) w o r k h.value h.refused (at_fit (Ptr r k) at)

        at_first : slice_get fitted o ≡ Some (Ptr r 0)
        at_first = subst (λ (j : ℕ). slice_get fitted o ≡ Some (Ptr r j)) first (at_fit (Ptr r k) at)

        -- the reference is one that the source holds
        held : (leaf : Leaf) × Contains (leaves s) leaf × (r.0 ≡ leaf.number)
        held =
            let cells = pointers-related Same true s w h.value in
            (subst (IsCellOf (IsHeldBy Same s)) (get_or_from_slice_get w o (Ptr r k) (Ptr r k) at) (cells o (Ptr r k) (slice_get_within w o (Ptr r k) at))).0

        source-judged : (a : RefRow) → slice_get world.refs r.0 ≡ Some a → IsJudged tables a.pointee
        source-judged a at_r =
            let (leaf, within, same) = held in
            All-contains (IsJudgedLeaf tables) (leaves s) leaf (judged-leaves tables ask.src h.judged.source_judged) within a (subst (λ (n : ℕ). slice_get world.refs n ≡ Some a) same at_r)

        module _ (u : RefId) (opens : IsOpen tables ask before u.0) where
          target-judged : (b : RefRow) → slice_get world.refs u.0 ≡ Some b → IsJudged tables b.pointee
          target-judged b at_u =
              let (leaf, within, same) = open-is-leaf A sources keep t before u.0 opens in
              All-contains (IsJudgedLeaf tables) (leaves t) leaf (judged-leaves tables ask.dst h.judged.target_judged) within b (subst (λ (n : ℕ). slice_get world.refs n ≡ Some b) (sym same) at_u)

          open-rule : ((v : RefId) → BeginsReference dst (reached test dst before) v → u.0 ≤ v.0) → IsRuleAt tables ask w o (table_rule compat r u) (Some (table_fault compat r u))
          open-rule least =
              let (a, at_r) = row_at world.refs r.0 (pointer-known world s (leaves-known world ask.src h.source_over) w h.value (size_of t) o r k (at_fit (Ptr r k) at)) in
              let (b, at_u) = row_at world.refs u.0 (open-known world A sources keep t (leaves-known world ask.dst h.target_over) before u.0 opens) in
              let judged : AreJudged tables a b = record { source = source-judged a at_r; target = target-judged b at_u } in
              let apart = open-is-not-taken A sources keep t w o r u.0 word-closed h.refused at_first opens in
              let (rule, depth) = table_answer tables ask r u a b at_r at_u judged apart compat h.serves (open-leaf A sources keep t before u.0 opens) in
              by_cell (Ptr r k) at (table_rule compat r u) (Some (table_fault compat r u)) (inr (table_fault compat r u, refl, refl, first, opens, rule))
              (λ v v_opens. least (record { 0 = v }) ((opens-same (record { 0 = v })).1 v_opens), depth)

        by_open : (least : Option RefId) → IsLeastOpen dst (reached test dst before) least → IsRuleAt tables ask w o (reference_answer compat r least).0 (reference_answer compat r least).1
        by_open None none = by_cell (Ptr r k) at ReferenceForBytes None (inl (refl, refl, λ u opens. none (record { 0 = u }) ((opens-same (record { 0 = u })).1 opens))) tt
        by_open (Some u) (begins, least) = open-rule u ((opens-same u).0 begins) least

        pub reference-rule : (least : Option RefId) → IsLeastOpen dst (reached test dst (take o w)) least → (answer : Rule × Option RefFault) → answer ≡ reference_answer compat r least → IsRuleAt tables ask w o answer.0 answer.1
        reference-rule least is_least answer e =
            subst (λ (a : Rule × Option RefFault). IsRuleAt tables ask w o a.0 a.1) (sym e) (by_open least (at_front (λ states. IsLeastOpen dst states least) is_least))
