-- What is built for a tree that is repeated, turn by turn.
use Rattle.std.proofs.Common.{◌≡◌, ◌≢◌, ℕ, suc, ◌+◌, ◌*◌, ◌^◌, ◌<◌, ◌≤◌, inl, inr, [], ◌∷◌, refl, sym, ◌∙◌, subst, arith, length}
use Rattle.tm_base.specs.declared.tree.Tree.{Tree, Repeat}
use Rattle.tm_base.specs.Cells.{Times}
use Rattle.tm_base.specs.Shapes.{leaves_of, HasNoChoice}
use Rattle.tm_base.specs.Transmutes.{holds}
use Rattle.tm_auto.specs.declared.build.Building.{Building}
use Rattle.tm_auto.specs.declared.extent.Extent.{Extent}
use Rattle.tm_auto.specs.declared.extent.Extent.TheVariants.{Dead, Empty, Long}
use Rattle.tm_auto.specs.Builds.{Piece, of_tree, IsGrowable, CanGrow, MakesBy, MakesTree, IsPlacedBy, IsSealed, any}
use Rattle.tm_auto.specs.Labels.{Begins}
use Rattle.tm_auto.specs.Loose.{LooseWord}
use Rattle.tm_auto.specs.Shapes.{extent_of}
use Rattle.tm_auto.proofs.CaseLemmas.{Front, front_room, front_placed, placed_ready, said_before}
use Rattle.tm_auto.proofs.ExtentLemmas.{IsExtent, extent_is, even_part}
use Rattle.tm_auto.proofs.LooseLemmas.{LooseWord-Repeat}
use Rattle.tm_auto.proofs.MakeLemmas.{IsSame, in_front, in_place, makes_as, makes_before}
use Rattle.tm_auto.proofs.ShapeLemmas.{extent_of-no_turn, extent_of-turns}
use Rattle.tm_base.proofs.ShapeLemmas.{leaves_of-Repeat, HasNoChoice-Repeat, HasNoPrivate-Repeat}

-- the words of so many turns
abbrev pub of_turns : ℕ → ℕ → Tree → ℕ → Piece
of_turns pointer k t target = record { words = λ A. Times k (LooseWord pointer (holds A) t); target = target; opens = Begins; room = k * leaves_of pointer t; line = HasNoChoice t }

-- so many turns stand
abbrev pub TimesFront : ℕ → Tree → ℕ → Building → Building → ℕ → Type 0
TimesFront k t target b c next = Front (of_turns b.pointer k t target) b c next

pub times_none : (t : Tree) (target : ℕ) (b c : Building) → IsSame b c → TimesFront 0 t target b c target
times_none t target b c same = inl (refl, same, λ A w. (λ h. h, λ h. h))

some_turn : (n : ℕ) (t : Tree) → extent_of (Repeat n t) ≡ Long → n ≢ 0
some_turn n t e z = let q : Empty ≡ Long = sym (extent_of-no_turn n t z) ∙ e in cc

one_more : (k l : ℕ) → l + k * l ≡ (k + 1) * l
one_more k l = grind arith

mul_right : (a b l : ℕ) → a ≤ b → a * l ≤ b * l
mul_right a b l h = grind arith

module _ (count : ℕ) (t : Tree) (target : ℕ) (b : Building) (can : CanGrow (Repeat count t) target b) where
  long : extent_of t ≡ Long
  long = sym (extent_of-turns count t (some_turn count t can.growable.long)) ∙ can.growable.long

  growable : IsGrowable b.pointer t
  growable = record {
    public = (HasNoPrivate-Repeat count t).0 can.growable.public;
    long = long;
    even =
        let (n, even) = can.growable.even in
        let some = some_turn count t can.growable.long in
        even_part b.pointer can.ready.pointer.0 count t (omega arith) (λ q. let z : Long ≡ Dead = sym long ∙ q in cc) (n, λ w h. even w ((LooseWord-Repeat b.pointer (holds any) count t w).1 h));
  }

  leaves_left : (k : ℕ) → k < count → k * leaves_of b.pointer t + leaves_of b.pointer t ≤ leaves_of b.pointer (Repeat count t)
  leaves_left k lt =
      let one = one_more k (leaves_of b.pointer t) in
      let most = mul_right (k + 1) count (leaves_of b.pointer t) (omega arith) in
      let all = leaves_of-Repeat b.pointer count t in
      omega arith

  pub times_room : (k mark : ℕ) (c : Building) (next : ℕ) → k < count → mark ≡ length b.head.items → TimesFront k t target b c next → mark < length c.head.items → c.states + 1 ≤ 2 ^ 31
  times_room k mark c next lt em h = let x = leaves_left k lt in front_room (of_turns b.pointer k t target) mark (leaves_of b.pointer (Repeat count t)) em (omega arith) can.room h

  pub times_placed : (k mark : ℕ) (c d : Building) (next state : ℕ) → mark ≡ length b.head.items → TimesFront k t target b c next → IsSealed mark next c d state → IsPlacedBy (of_turns b.pointer k t target) b d state
  times_placed k mark c d next state em h sealed = front_placed (of_turns b.pointer k t target) mark d state em can.ready can.ready.plain h sealed

  pub times_can : (k : ℕ) (d : Building) (state : ℕ) → k < count → IsPlacedBy (of_turns b.pointer k t target) b d state → CanGrow t state d
  times_can k d state lt h =
      let x = leaves_left k lt in
      let few = h.few in
      let room : d.states + leaves_of b.pointer t ≤ 2 ^ 31 = (let y = can.room in omega arith) in
      record { growable = rw h.extended.pointer growable; ready = placed_ready (of_turns b.pointer k t target) (λ l o. o) can.ready h; room = rw h.extended.pointer room }

  pub times_more : (k : ℕ) (d e : Building) (state : ℕ) → IsPlacedBy (of_turns b.pointer k t target) b d state → MakesTree t state d e → TimesFront (k + 1) t target b e state
  times_more k d e state placed h =
      let next : suc k ≡ k + 1 = omega arith in
      let one = one_more k (leaves_of b.pointer t) in
      let turn = of_tree b.pointer t state in
      let made : MakesBy (in_place (of_turns b.pointer k t target) (λ A. Times (suc k) (LooseWord b.pointer (holds A) t)) ((k + 1) * leaves_of b.pointer t) (HasNoChoice t)) b e =
      makes_as (in_front turn (of_turns b.pointer k t target)) (omega arith) (λ l. (l, l)) (λ A w. (λ h. h, λ h. h)) (makes_before turn placed (said_before b.pointer t state d e placed.extended.pointer h)) in
      inr (subst (λ (z : ℕ). MakesBy (in_place (of_turns b.pointer k t target) (λ A. Times z (LooseWord b.pointer (holds A) t)) ((k + 1) * leaves_of b.pointer t) (HasNoChoice t)) b e) next made)

  pub times_done : (c : Building) (next : ℕ) → TimesFront count t target b c next → MakesTree (Repeat count t) target b c
  times_done c next (inl (at, same, none)) =
      let (d, w, h) = subst (λ (z : Extent). IsExtent z (λ A. LooseWord b.pointer (holds A) (Repeat count t))) can.growable.long (extent_is b.pointer can.ready.pointer.0 (Repeat count t)) in
      let e : d ∷ w ≡ [] = (none any (d ∷ w)).0 ((LooseWord-Repeat b.pointer (holds any) count t (d ∷ w)).0 h) in
      cc
  times_done c next (inr made) = let e = leaves_of-Repeat b.pointer count t in makes_as (of_turns b.pointer count t target) (omega arith) (HasNoChoice-Repeat count t).0 (λ A w. let (x, y) = LooseWord-Repeat b.pointer (holds A) count t w in (y, x)) made
