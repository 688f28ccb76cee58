-- What is built along a list of trees, turn by turn, and for a reference.
use Rattle.std.proofs.Common.{◌≡◌, ◌≢◌, ℕ, zero, suc, ◌+◌, ◌-◌, ◌^◌, ◌<◌, ◌≤◌, ◌⊎◌, inl, inr, Bool, List, [], ◌∷◌, ◌++◌, length, take, drop, get_or, refl, sym, ap, ◌∙◌, subst, arith, ◌↔◌, drop-cons, length-append, Result, Ok, Err, OnOk, Contains}
use Rattle.std.proofs.lemmas.Bool.{cases_lt}
use Rattle.std.proofs.lemmas.List.{take_all}
use Rattle.tm_base.specs.declared.cell.Cell.TheVariants.{Byte, Ptr}
use Rattle.tm_base.specs.declared.cell.RefId.{RefId}
use Rattle.tm_base.specs.declared.tree.Tree.{Tree, Range, Pad, Ref, Seq}
use Rattle.tm_base.specs.declared.memory.Memory.{Memory}
use Rattle.tm_base.specs.Cells.{Word}
use Rattle.tm_base.specs.Shapes.{leaves_of, all_leaves, HasNoPrivate, NonePrivate, NoneHasChoice}
use Rattle.tm_base.specs.Transmutes.{holds}
use Rattle.tm_auto.specs.declared.build.Building.{Building}
use Rattle.tm_auto.specs.declared.edge.Edge.{Edge}
use Rattle.tm_auto.specs.declared.edge.Label.{Label}
use Rattle.tm_auto.specs.declared.edge.Label.TheVariants.{Bytes, Free, Leaf}
use Rattle.tm_auto.specs.declared.extent.Extent.TheVariants.{Dead, Empty, Long}
use Rattle.tm_auto.specs.Builds.{Piece, of_tree, MayFollow, IsReady, IsGrowable, CanGrow, MakesBy, MakesTree, IsPlacedBy, IsAdded, IsSealed, AreEven, any}
use Rattle.tm_auto.specs.Labels.{CanTake, Begins}
use Rattle.tm_auto.specs.Loose.{LooseBytes, LooseWord, LooseInTurn}
use Rattle.tm_auto.specs.Shapes.{extent_of, in_turn}
use Rattle.tm_auto.proofs.ExtentLemmas.{IsExtent, extent_is, turn_is, empty_alone, live_at, even_at}
use Rattle.tm_auto.proofs.GrowLemmas.{Both, CellWords}
use Rattle.tm_auto.proofs.LooseLemmas.{LooseWord-Seq, LooseWord-Ref, LooseWord-Range, LooseWord-Pad}
use Rattle.tm_auto.proofs.MakeLemmas.{IsSame, begins_joins, makes_as, makes_way, makes_before, in_front, of_label, placed_none, placed_some}
use Rattle.tm_auto.proofs.ShapeLemmas.{extent_of-Seq, extent_of-no_range}
use Rattle.tm_base.proofs.ShapeLemmas.{leaves_of-Seq, HasNoChoice-Seq, HasNoPrivate-Seq}

-- What stands in front of the target: nothing yet, or the piece.
abbrev pub Front : Piece → Building → Building → ℕ → Type 0
Front p b c next = ((next ≡ p.target) × IsSame b c × ((A : ℕ → ℕ → Bool) (w : Word) → p.words A w ↔ (w ≡ []))) ⊎ MakesBy p b c

module _ (p : Piece) {b c : Building} {next : ℕ} where
  pub front_mark : (mark : ℕ) → mark ≡ length b.head.items → Front p b c next → mark ≤ length c.head.items
  front_mark mark e (inl (at, same, none)) = let x = ap length same.head in omega arith
  front_mark mark e (inr h) = let x = ap length h.head in let y = length-append b.head.items h.ways in omega arith

  pub front_room : (mark all : ℕ) → mark ≡ length b.head.items → p.room ≤ all → b.states + all ≤ 2 ^ 31 → Front p b c next → mark < length c.head.items → c.states + 1 ≤ 2 ^ 31
  front_room mark all e l r (inl (at, same, none)) more = let x = ap length same.head in absurd (omega arith)
  front_room mark all e l r (inr h) more = let x = h.few in omega arith

  -- once it is sealed
  pub front_placed : (mark : ℕ) (d : Building) (state : ℕ) → mark ≡ length b.head.items → IsReady b p.target → ((e : Edge) → Contains b.edges.items e → e.from ≡ p.target → p.opens e.label) → Front p b c next → IsSealed mark next c d state → IsPlacedBy p b d state
  front_placed mark d state em ready opens (inl (at, same, none)) sealed =
      let size : length c.head.items ≡ mark = ap length same.head ∙ sym em in
      let (ee, es, en) = sealed.none size in
      let head : d.head.items ≡ b.head.items = sealed.head ∙ ap (take mark) same.head ∙ take_all mark b.head.items (omega arith) in
      let same2 : IsSame b d = record { pointer = sealed.pointer ∙ same.pointer; states = es ∙ same.states; edges = ee ∙ same.edges; head = head } in
      placed_none p b d state none same2 (en ∙ at) ready opens
  front_placed mark d state em ready opens (inr h) sealed = placed_some next d state h (subst (λ (z : ℕ). IsSealed z next c d state) em sealed)

-- a state may be built in front of, where only labels that may stand first leave it
pub placed_ready : (p : Piece) {b d : Building} {state : ℕ} → ((l : Label) → p.opens l → Begins l) → IsReady b p.target → IsPlacedBy p b d state → IsReady d state
placed_ready p begin r h = record { pointer = rw h.extended.pointer r.pointer; sound = h.extended.sound; below = h.below; plain = λ e a f. begin e.label (h.opens e a f) }

-- ---- one cell

pub onto : {X : Type 0} (r : Result X Memory) (P Q : Type 0) → (P → Q) → OnOk r P → OnOk r Q
onto (Ok x) P Q f h = f h
onto (Err e) P Q f h = tt

range_long : (low high : ℕ) → extent_of (Range low high) ≡ Long → low ≤ high
range_long low high e = elim (cases_lt high low) [
  | inl l ↦ (let q : Dead ≡ Long = sym (extent_of-no_range low high l) ∙ e in cc)
  | inr l ↦ l
]

pub range_made : (low high target : ℕ) (b c : Building) → high < 256 → CanGrow (Range low high) target b → IsAdded (Bytes low high) target b c → MakesTree (Range low high) target b c
unfolding leaves_of
range_made low high target b c byte can added =
    let le = range_long low high can.growable.long in
    makes_as (of_label Begins (Bytes low high) target) (omega arith) (λ l. tt) (λ A w. (
      λ (x, (y, lo, hi, e), ew). (LooseWord-Range b.pointer (holds A) low high w).1 (y, lo, hi, ew ∙ ap (λ z. z ∷ []) e),
      λ h. let (y, lo, hi, ew) = (LooseWord-Range b.pointer (holds A) low high w).0 h in (Byte y, (y, lo, hi, refl), ew),
    )) (makes_way Begins Begins (Bytes low high) target b c (le, byte) tt (begins_joins (Bytes low high)) can.ready.sound can.ready.below can.ready.plain added)

pub pad_made : (target : ℕ) (b c : Building) → CanGrow Pad target b → IsAdded Free target b c → MakesTree Pad target b c
unfolding leaves_of
pad_made target b c can added =
    makes_as (of_label Begins Free target) (omega arith) (λ l. tt) (λ A w. let (x, y) = LooseWord-Pad b.pointer (holds A) w in (y, x)) (makes_way Begins Begins Free target b c tt tt (begins_joins Free) can.ready.sound can.ready.below can.ready.plain added)

-- ---- references

-- so many bytes of a reference from a place on
abbrev pub of_bytes : RefId → ℕ → ℕ → ℕ → Piece
of_bytes t place count target = record { words = λ A. LooseBytes (holds A) t.0 place count; target = target; opens = MayFollow t place; room = count; line = Unit {0} }

-- those from a place on stand
abbrev pub RefFront : RefId → ℕ → ℕ → Building → Building → ℕ → Type 0
RefFront t place target b c next = Front (of_bytes t place (b.pointer - place) target) b c next

pub ref_none : (t : RefId) (target : ℕ) (b c : Building) → IsSame b c → RefFront t b.pointer target b c target
ref_none t target b c same = let none : b.pointer - b.pointer ≡ 0 = omega arith in inl (refl, same, λ A w. rw none (λ h. h, λ h. h))

pub ref_turn : (t : RefId) (place target : ℕ) (b c d e : Building) (mark next state : ℕ) → 0 < place → place ≤ b.pointer → t.0 < 2 ^ 32 → mark ≡ length b.head.items → IsReady b target → RefFront t place target b c next → IsSealed mark next c d state → IsAdded (Leaf t (place - 1)) state d e → RefFront t (place - 1) target b e state
ref_turn t zero target b c d e mark next state pos le id em ready h sealed added = absurd (omega arith)
ref_turn t (suc k) target b c d e mark next state pos le id em ready h sealed added =
    let last : suc k - 1 ≡ k = omega arith in
    let size : suc (b.pointer - suc k) ≡ b.pointer - k = omega arith in
    let j : ℕ = b.pointer - suc k in
    let placed = front_placed (of_bytes t (suc k) j target) mark d state em ready (λ f a w. begins_joins (Leaf t k) f.label (ready.plain f a w)) h sealed in
    let point = placed.extended.pointer in
    let can : CanTake d.pointer (Leaf t k) = (id, omega arith) in
    let way = makes_way (MayFollow t (suc k)) (MayFollow t k) (Leaf t k) state d e can (mine k) (λ l x. x) placed.extended.sound placed.below placed.opens (subst (λ (z : ℕ). IsAdded (Leaf t z) state d e) last added) in
    let made : MakesBy (of_bytes t k (suc j) target) b e = makes_as (in_front (of_label (MayFollow t k) (Leaf t k) state) (of_bytes t (suc k) j target)) (omega arith) (λ l. (tt, tt)) (same j) (makes_before (of_label (MayFollow t k) (Leaf t k) state) placed way) in
    let made2 : MakesBy (of_bytes t k (b.pointer - k) target) b e = subst (λ (z : ℕ). MakesBy (of_bytes t k z target) b e) size made in
    rw last (inr made2)
  where
    mine : (k : ℕ) → MayFollow t k (Leaf t k)
    mine zero = tt
    mine (suc i) = refl

    same : (j : ℕ) (A : ℕ → ℕ → Bool) (w : Word) → Both (CellWords (Leaf t k)) (λ A. LooseBytes (holds A) t.0 (suc k) j) A w ↔ LooseBytes (holds A) t.0 k (suc j) w
    same j A w = (
      λ (u, v, e, (c, (x, a, ec), eu), more). (x, v, a, e ∙ ap (λ z. z ++ v) (eu ∙ ap (λ z. z ∷ []) ec), more),
      λ (x, v, a, e, more). (Ptr (record { 0 = x }) k ∷ [], v, e, (Ptr (record { 0 = x }) k, (x, a, refl), refl), more),
    )

pub ref_done : (t : RefId) (target : ℕ) (b c : Building) (next : ℕ) → IsReady b target → leaves_of b.pointer (Ref t) ≡ b.pointer → RefFront t 0 target b c next → MakesTree (Ref t) target b c
ref_done t target b c next ready leaves h =
    let all : b.pointer - 0 ≡ b.pointer = omega arith in
    elim (subst (λ (z : ℕ). Front (of_bytes t 0 z target) b c next) all h) [
      | inl (at, same, none) ↦ absurd (some b.pointer ready.pointer.0 none)
      | inr made ↦ makes_as (of_bytes t 0 b.pointer target) (omega arith) (λ l. tt) (λ A w. let (x, y) = LooseWord-Ref b.pointer (holds A) t w in (y, x)) made
    ]
  where
    some : (n : ℕ) → 0 < n → ((A : ℕ → ℕ → Bool) (w : Word) → LooseBytes (holds A) t.0 0 n w ↔ (w ≡ [])) → ⊥
    some zero pos none = omega arith
    some (suc n) pos none = let (x, v, a, e, more) = (none any []).1 refl in cc

-- ---- along a list of trees

pub public_at : (ts : List Tree) (i : ℕ) (d : Tree) → NonePrivate ts → i < length ts → HasNoPrivate (get_or ts i d)
public_at [] i d h l = absurd (omega arith)
public_at (t ∷ ts) zero d h l = h.0
public_at (t ∷ ts) (suc i) d h l = public_at ts i d h.1 (omega arith)

pub all_leaves-drop : (p : ℕ) (ts : List Tree) (i : ℕ) → all_leaves p (drop i ts) ≤ all_leaves p ts
all_leaves-drop p [] zero = omega arith
all_leaves-drop p [] (suc i) = omega arith
all_leaves-drop p (t ∷ ts) zero = omega arith
all_leaves-drop p (t ∷ ts) (suc i) = let h = all_leaves-drop p ts i in omega arith

pub all_leaves-take : (p : ℕ) (ts : List Tree) (i : ℕ) → all_leaves p (take i ts) ≤ all_leaves p ts
all_leaves-take p [] zero = omega arith
all_leaves-take p [] (suc i) = omega arith
all_leaves-take p (t ∷ ts) zero = omega arith
all_leaves-take p (t ∷ ts) (suc i) = let h = all_leaves-take p ts i in omega arith

pub all_leaves-more : (p : ℕ) (ts : List Tree) (t : Tree) → all_leaves p (ts ++ t ∷ []) ≡ all_leaves p ts + leaves_of p t
all_leaves-more p [] t = omega arith
all_leaves-more p (s ∷ ts) t = let e = all_leaves-more p ts t in omega arith

drop_one : (ts : List Tree) (at : ℕ) (t : Tree) → 0 < at → at ≤ length ts → t ≡ get_or ts (at - 1) t → drop (at - 1) ts ≡ t ∷ drop at ts
drop_one ts at t pos l e =
    let next : suc (at - 1) ≡ at = omega arith in
    drop-cons ts (at - 1) t (omega arith) ∙ ap (λ (z : Tree). z ∷ drop (suc (at - 1)) ts) (sym e) ∙ ap (λ (k : ℕ). t ∷ drop k ts) next

-- what a call of the builder tells, of trees with references of the size that they had before
pub said_before : (p : ℕ) (t : Tree) (target : ℕ) (d e : Building) → d.pointer ≡ p → MakesTree t target d e → MakesBy (of_tree p t target) d e
said_before p t target d e same h = subst (λ (z : ℕ). MakesBy (of_tree z t target) d e) same h

-- ---- one after another

-- the words of trees in turn
abbrev pub of_trees : ℕ → List Tree → ℕ → Piece
of_trees pointer ts target = record { words = λ A. LooseInTurn pointer (holds A) ts; target = target; opens = Begins; room = all_leaves pointer ts; line = NoneHasChoice ts }

-- the last trees stand
abbrev pub TurnFront : List Tree → ℕ → Building → Building → ℕ → Type 0
TurnFront ts target b c next = Front (of_trees b.pointer ts target) b c next

pub turn_none : (ts : List Tree) (target : ℕ) (b c : Building) → ts ≡ [] → IsSame b c → TurnFront ts target b c target
turn_none ts target b c e same = rw e (inl (refl, same, λ A w. (λ h. h, λ h. h)))

-- what is asked of trees that may be grown one after another
pub record AreGrowable (p : ℕ) (ts : List Tree) : Type 0 where
  pub public : NonePrivate ts
  pub long : in_turn ts ≡ Long
  pub even : AreEven (LooseInTurn p (holds any) ts)

pub turn_growable : (p : ℕ) (ts : List Tree) → IsGrowable p (Seq ts) → AreGrowable p ts
turn_growable p ts g = record {
  public = (HasNoPrivate-Seq ts).0 g.public;
  long = sym (extent_of-Seq ts) ∙ g.long;
  even = let (n, even) = g.even in (n, λ w h. even w ((LooseWord-Seq p (holds any) ts w).1 h));
}

live : (ts : List Tree) → in_turn ts ≡ Long → in_turn ts ≢ Dead
live ts e q = let z : Long ≡ Dead = sym e ∙ q in cc

module _ (ts : List Tree) (at : ℕ) (t : Tree) (target : ℕ) (b : Building) (pos : 0 < at) (within : at ≤ length ts) (et : t ≡ get_or ts (at - 1) t) (can : CanGrow (Seq ts) target b) where
  grow : AreGrowable b.pointer ts
  grow = turn_growable b.pointer ts can.growable

  leaves_left : all_leaves b.pointer (drop at ts) + leaves_of b.pointer t ≤ leaves_of b.pointer (Seq ts)
  leaves_left = let x = all_leaves-drop b.pointer ts (at - 1) in let y = ap (all_leaves b.pointer) (drop_one ts at t pos within et) in let z = leaves_of-Seq b.pointer ts in omega arith

  even_here : AreEven (LooseWord b.pointer (holds any) t)
  even_here = subst (λ (z : Tree). AreEven (LooseWord b.pointer (holds any) z)) (sym et) (even_at b.pointer can.ready.pointer.0 ts (at - 1) t (live ts grow.long) grow.even (omega arith))

  pub turn_room : (mark : ℕ) (c : Building) (next : ℕ) → mark ≡ length b.head.items → TurnFront (drop at ts) target b c next → mark < length c.head.items → c.states + 1 ≤ 2 ^ 31
  turn_room mark c next em h = let x = leaves_left in front_room (of_trees b.pointer (drop at ts) target) mark (leaves_of b.pointer (Seq ts)) em (omega arith) can.room h

  pub turn_placed : (mark : ℕ) (c d : Building) (next state : ℕ) → mark ≡ length b.head.items → TurnFront (drop at ts) target b c next → IsSealed mark next c d state → IsPlacedBy (of_trees b.pointer (drop at ts) target) b d state
  turn_placed mark c d next state em h sealed = front_placed (of_trees b.pointer (drop at ts) target) mark d state em can.ready can.ready.plain h sealed

  pub turn_can : (d : Building) (state : ℕ) → extent_of t ≡ Long → IsPlacedBy (of_trees b.pointer (drop at ts) target) b d state → CanGrow t state d
  turn_can d state long h =
      let x = leaves_left in
      let few = h.few in
      let room : d.states + leaves_of b.pointer t ≤ 2 ^ 31 = (let y = can.room in omega arith) in
      record {
        growable = rw h.extended.pointer (record { public = rw et (public_at ts (at - 1) t grow.public (omega arith)); long = long; even = even_here });
        ready = placed_ready (of_trees b.pointer (drop at ts) target) (λ l o. o) can.ready h;
        room = rw h.extended.pointer room;
      }

  pub turn_long : (d e : Building) (state : ℕ) → IsPlacedBy (of_trees b.pointer (drop at ts) target) b d state → MakesTree t state d e → TurnFront (drop (at - 1) ts) target b e state
  turn_long d e state placed h =
      let made : MakesBy (of_trees b.pointer (t ∷ drop at ts) target) b e = makes_before (of_tree b.pointer t state) placed (said_before b.pointer t state d e placed.extended.pointer h) in
      subst (λ (z : List Tree). TurnFront z target b e state) (sym (drop_one ts at t pos within et)) (inr made)

  pub turn_empty : (c : Building) (next : ℕ) → extent_of t ≡ Empty → TurnFront (drop at ts) target b c next → TurnFront (drop (at - 1) ts) target b c next
  turn_empty c next empty h = subst (λ (z : List Tree). TurnFront z target b c next) (sym (drop_one ts at t pos within et)) (elim h [
    | inl (st, same, none) ↦ inl (st, same, λ A w. (λ k. (none A w).0 ((words A w).1 k), λ k. (words A w).0 ((none A w).1 k)))
    | inr made ↦ inr (makes_as (of_trees b.pointer (drop at ts) target) {line = NoneHasChoice (t ∷ drop at ts)} {room = all_leaves b.pointer (t ∷ drop at ts)} {Q = λ A. LooseInTurn b.pointer (holds A) (t ∷ drop at ts)} (omega arith) (λ l. l.1) words made)
  ])
    where
      none_here : IsExtent Empty (λ A. LooseWord b.pointer (holds A) t)
      none_here = subst (λ z. IsExtent z (λ A. LooseWord b.pointer (holds A) t)) empty (extent_is b.pointer can.ready.pointer.0 t)

      words : (A : ℕ → ℕ → Bool) (w : Word) → LooseInTurn b.pointer (holds A) (drop at ts) w ↔ LooseInTurn b.pointer (holds A) (t ∷ drop at ts) w
      words A w = (
        λ k. ([], w, refl, none_here A, k),
        λ (u, v, e, a, k). (
            let eu = empty_alone b.pointer can.ready.pointer.0 t empty even_here A u a in
            let ew : w ≡ v = e ∙ ap (λ (z : Word). z ++ v) eu in
            subst (λ (z : Word). LooseInTurn b.pointer (holds A) (drop at ts) z) (sym ew) k),
      )

  pub turn_dead : extent_of t ≡ Dead → ⊥
  turn_dead dead = live_at b.pointer can.ready.pointer.0 ts (at - 1) t (live ts grow.long) (omega arith) (ap extent_of (sym et) ∙ dead)

pub turn_done : (ts : List Tree) (target : ℕ) (b c : Building) (next : ℕ) → CanGrow (Seq ts) target b → TurnFront ts target b c next → MakesTree (Seq ts) target b c
turn_done ts target b c next can (inl (at, same, none)) =
    let g = turn_growable b.pointer ts can.growable in
    let (d, w, h) = subst (λ z. IsExtent z (λ A. LooseInTurn b.pointer (holds A) ts)) g.long (turn_is b.pointer can.ready.pointer.0 ts) in
    let e : d ∷ w ≡ [] = (none any (d ∷ w)).0 h in
    cc
turn_done ts target b c next can (inr made) = let e = leaves_of-Seq b.pointer ts in makes_as (of_trees b.pointer ts target) (omega arith) (HasNoChoice-Seq ts).0 (λ A w. let (x, y) = LooseWord-Seq b.pointer (holds A) ts w in (y, x)) made
