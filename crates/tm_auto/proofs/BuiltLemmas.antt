-- What the builder made is an automaton of the tree.
use Rattle.std.proofs.Common.{◌≡◌, ℕ, zero, suc, ◌+◌, ◌^◌, ◌<◌, ◌≤◌, ◌⊎◌, inl, inr, ◌↔◌, Bool, true, List, [], ◌∷◌, ◌++◌, length, refl, sym, ap, ◌∙◌, subst, arith, append-nil, Contains}
use Rattle.std.proofs.lemmas.Bool.{cases_lt}
use Rattle.tm_base.specs.declared.tree.Tree.{Tree}
use Rattle.tm_base.specs.Cells.{Word}
use Rattle.tm_base.specs.Shapes.{leaves_of, HasNoPrivate, HasNoChoice, HasSize}
use Rattle.tm_base.specs.Transmutes.{holds}
use Rattle.tm_base.specs.Trees.{TreeWord}
use Rattle.tm_base.proofs.JudgedLemmas.{Contains-none, Contains-one}
use Rattle.tm_auto.specs.declared.build.Building.{Building}
use Rattle.tm_auto.specs.declared.edge.Edge.{Edge}
use Rattle.tm_auto.specs.declared.extent.Extent.{Extent}
use Rattle.tm_auto.specs.declared.extent.Extent.TheVariants.{Dead, Empty, Long}
use Rattle.tm_auto.specs.Automata.{Automaton, AutoWord, HasOneStateALayer, IsAutomaton}
use Rattle.tm_auto.specs.Builds.{of_tree, IsForward, IsReady, CanBegin, CanGrow, MakesTree, IsPlacedTree, IsSealed, HasNoLoose}
use Rattle.tm_auto.specs.Loose.{LooseWord}
use Rattle.tm_auto.specs.Paths.{SpellsTo, IsPath}
use Rattle.tm_auto.specs.Shapes.{extent_of}
use Rattle.tm_auto.proofs.ContainsLemmas.{here}
use Rattle.tm_auto.proofs.EvenLemmas.{sized_even}
use Rattle.tm_auto.proofs.ExtentLemmas.{IsExtent, extent_is, empty_alone}
use Rattle.tm_auto.proofs.JoinedLemmas.{words_are}
use Rattle.tm_auto.proofs.MakeLemmas.{placed_none, placed_some}
use Rattle.tm_auto.proofs.SetLemmas.{rises_increasing}
use Rattle.tm_auto.proofs.WholeLemmas.{tree_whole}

-- an automaton whose words are the tree's
pub record IsAutomatonOf (t : Tree) (auto : Automaton) : Type 0 where
  pub automaton : IsAutomaton auto
  pub words : (A : ℕ → ℕ → Bool) (keep : Bool) (w : Word) → TreeWord auto.pointer (holds A) keep t w ↔ AutoWord (holds A) auto w
  pub single : HasNoChoice t → HasOneStateALayer auto
  pub linear : length auto.edges ≤ leaves_of auto.pointer t

-- ---- the whole tree

module _ (t : Tree) (b : Building) (can : CanBegin t b) where
  no_edge : (e : Edge) → Contains b.edges.items e → ⊥
  no_edge e a = Contains-none _ (subst (λ (xs : List Edge). Contains xs e) can.edges a)

  -- there is the end alone
  ready : IsReady b 0
  ready = record {
    pointer = can.pointer;
    sound = record {
      some = let x = can.states in omega arith;
      from = λ e a. absurd (no_edge e a);
      down = λ e a. absurd (no_edge e a);
      ordered = rw can.edges tt;
      left = λ s lo hi. let x = can.states in absurd (omega arith);
      takes = λ e a. absurd (no_edge e a);
      joins = λ e f a c q. absurd (no_edge e a);
    };
    below = let x = can.states in omega arith;
    plain = λ e a s. absurd (no_edge e a);
  }

  pub begin_can : extent_of t ≡ Long → CanGrow t 0 b
  begin_can long = record { growable = record { public = can.public; long = long; even = can.even }; ready = ready; room = let x = can.states in let y = can.room in omega arith }

  pub begin_room : (c : Building) → MakesTree t 0 b c → c.states + 1 ≤ 2 ^ 31
  begin_room c h = let x = h.few in let y = can.states in let z = can.room in omega arith

  pub begin_long : (c d : Building) (state : ℕ) → MakesTree t 0 b c → IsSealed 0 0 c d state → IsPlacedTree t 0 b d state
  begin_long c d state h sealed = let none : 0 ≡ length b.head.items = sym (ap length can.head) in placed_some 0 d state h (subst (λ (z : ℕ). IsSealed z 0 c d state) none sealed)

  pub begin_empty : extent_of t ≡ Empty → IsPlacedTree t 0 b b 0
  begin_empty e = placed_none (of_tree b.pointer t 0) b b 0 (λ A w. (empty_alone b.pointer can.pointer.0 t e can.even A w, λ q. rw q (none A))) (record { pointer = refl; states = refl; edges = refl; head = refl }) refl ready ready.plain
    where
      none : IsExtent Empty (λ A. LooseWord b.pointer (holds A) t)
      none = subst (λ (z : Extent). IsExtent z (λ A. LooseWord b.pointer (holds A) t)) e (extent_is b.pointer can.pointer.0 t)

  pub begin_dead : extent_of t ≡ Dead → HasNoLoose b.pointer t
  begin_dead e = subst (λ (z : Extent). IsExtent z (λ A. LooseWord b.pointer (holds A) t)) e (extent_is b.pointer can.pointer.0 t)

-- ---- the automaton

end_only : (A : ℕ → ℕ → Type 0) (v : Word) (s : ℕ) → SpellsTo A [] v s 0 → v ≡ []
end_only A [] s h = refl
end_only A (c ∷ v) s (e, a, f, t, r) = absurd (Contains-none _ a)

forward_path : (es : List Edge) → IsForward es → (k a s t : ℕ) → IsPath es k a s → IsPath es k a t → s ≡ t
forward_path es f zero a s t p q = sym p ∙ q
forward_path es f (suc k) a s t (d, da, df, p) (e, ea, ef, q) =
    let same : d.to ≡ e.to = f d e da ea (df ∙ sym ef) in
    forward_path es f k e.to s t (subst (λ (z : ℕ). IsPath es k z s) same p) q

-- where no word begins
pub built_none : (t : Tree) (size pointer : ℕ) → (0 < pointer) × (pointer ≤ 8) → HasNoPrivate t → HasNoLoose pointer t → IsAutomatonOf t (record { states = 0; edges = []; starts = []; size = size; pointer = pointer })
built_none t size pointer small g none = record {
  automaton = record {
    small = small;
    down = λ e a. absurd (Contains-none _ a);
    ordered = tt;
    left = λ s lo hi. absurd (omega arith);
    entered = λ s l. absurd (omega arith);
    takes = λ e a. absurd (Contains-none _ a);
    joins = λ e f a b q. absurd (Contains-none _ a);
    begins = λ e a s. absurd (Contains-none _ a);
    rising = rises_increasing [] tt;
    one = λ s u a b. absurd (Contains-none _ a);
    below = λ s a. absurd (Contains-none _ a);
    sized = λ A w word. absurd (Contains-none _ word.reaches.among);
    whole = λ A w word. absurd (Contains-none _ word.reaches.among);
  };
  words = λ A keep w. (
    λ x. absurd (none A w ((words_are pointer (holds A) keep small.0 t g w).0 x).1),
    λ word. absurd (Contains-none _ word.reaches.among),
  );
  single = λ l k s t2 p q. absurd (Contains-none _ p.among);
  linear = omega arith;
}

pub built_some : (t : Tree) (size : ℕ) (b c : Building) (state : ℕ) → CanBegin t b → HasSize b.pointer size t → IsPlacedTree t 0 b c state → IsAutomatonOf t (record { states = c.states; edges = c.edges.items; starts = state ∷ []; size = size; pointer = b.pointer })
built_some t size b c state can sized h = record {
  automaton = record {
    small = can.pointer;
    down = λ e a. (h.extended.sound.down e a, h.extended.sound.from e a);
    ordered = h.extended.sound.ordered;
    left = h.extended.sound.left;
    entered = λ s l. elim (cases_lt 0 s) [
      | inl pos ↦ elim (h.into s (let x = can.states in omega arith) l) [ inl q ↦ inl (start s q) | inr e ↦ inr e ]
      | inr z ↦ (let e : 0 ≡ s = omega arith in elim h.covers [ inl q ↦ inl (start s (sym e ∙ q)) | inr (f, a, w) ↦ inr (f, a, w ∙ e) ])
    ];
    takes = rw h.extended.pointer at h.extended.sound.takes;
    joins = h.extended.sound.joins;
    begins = λ e a s. h.opens e a (sym (Contains-one state e.from s));
    rising = rises_increasing (state ∷ []) tt;
    one = λ s u a d. sym (Contains-one state s a) ∙ Contains-one state u d;
    below = λ s a. let e = sym (Contains-one state s a) in let x = h.below in omega arith;
    sized = λ A w word. sized A w ((words A true w).1 word);
    whole = λ A w word. tree_whole b.pointer (holds A) true t w ((words A true w).1 word);
  };
  words = words;
  single = λ l k s u p q.
      let f = h.forward l (λ d e a x w. absurd (Contains-none _ (subst (λ (xs : List Edge). Contains xs d) can.edges a))) in
      let one : p.start ≡ q.start = sym (Contains-one state p.start p.among) ∙ Contains-one state q.start q.among in
      forward_path c.edges.items f k q.start s u (subst (λ (z : ℕ). IsPath c.edges.items k z s) one p.path) q.path;
  linear = let x = h.linear in let y = ap length (h.extended.longer ∙ ap (λ (z : List Edge). z ++ h.extended.more) can.edges) in omega arith;
}
  where
    start : (s : ℕ) → s ≡ state → Contains (state ∷ []) s
    start s q = rw q (here [])

    words : (A : ℕ → ℕ → Bool) (keep : Bool) (w : Word) → TreeWord b.pointer (holds A) keep t w ↔ AutoWord (holds A) (record { states = c.states; edges = c.edges.items; starts = state ∷ []; size = size; pointer = b.pointer }) w
    words A keep w = (
      λ x. (
          let (j, loose) = (words_are b.pointer (holds A) keep can.pointer.0 t can.public w).0 x in
          let r = h.back A w [] loose refl in
          record { joined = j; reaches = record { state = state; among = here []; spells = subst (λ (z : Word). SpellsTo (holds A) c.edges.items z state 0) (append-nil w) r } }),
      λ word. (
          let r = word.reaches in
          let (u, v, e, x, k) = h.forth A w (subst (λ (z : ℕ). SpellsTo (holds A) c.edges.items w z 0) (sym (Contains-one state r.state r.among)) r.spells) in
          let q : w ≡ u = e ∙ ap (λ z. u ++ z) (end_only (holds A) v 0 (rw can.edges at k)) ∙ append-nil u in
          (words_are b.pointer (holds A) keep can.pointer.0 t can.public w).1 (word.joined, subst (λ (z : Word). LooseWord b.pointer (holds A) t z) (sym q) x)),
    )

-- ---- what is asked of the call

pub begin : (t : Tree) (b : Building) (size pointer : ℕ) → (pointer ≡ 4) ⊎ (pointer ≡ 8) → HasNoPrivate t → leaves_of pointer t < 2 ^ 31 → HasSize pointer size t → b.edges.items ≡ [] → b.states ≡ 1 → b.head.items ≡ [] → b.pointer ≡ pointer → CanBegin t b
begin t b size pointer which public leaves sized ee es eh ep = record {
  pointer = elim which [ inl q ↦ (omega arith, omega arith) | inr q ↦ (omega arith, omega arith) ];
  edges = ee;
  states = es;
  head = eh;
  public = public;
  even = rw ep (sized_even pointer size t sized);
  room = rw ep leaves;
}

pub of_none : (t : Tree) (b : Building) (size pointer : ℕ) (edges : List Edge) (starts : List ℕ) → CanBegin t b → b.pointer ≡ pointer → HasNoLoose b.pointer t → edges ≡ [] → starts ≡ [] → IsAutomatonOf t (record { states = 0; edges = edges; starts = starts; size = size; pointer = pointer })
of_none t b size pointer edges starts can ep none ee es = rw (ee, es, ← ep) (built_none t size b.pointer can.pointer can.public none)

pub of_some : (t : Tree) (b c : Building) (size pointer state : ℕ) (starts : List ℕ) → CanBegin t b → b.pointer ≡ pointer → HasSize pointer size t → IsPlacedTree t 0 b c state → starts ≡ state ∷ [] → IsAutomatonOf t (record { states = c.states; edges = c.edges.items; starts = starts; size = size; pointer = pointer })
of_some t b c size pointer state starts can ep sized h es = rw (es, ← ep) (built_some t size b c state can (rw (← ep) at sized) h)
