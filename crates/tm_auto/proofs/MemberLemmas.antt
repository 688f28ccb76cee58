-- What is built for members of an alternative, one by one.
use Rattle.std.proofs.Common.{◌≡◌, ◌≢◌, ℕ, ◌+◌, ◌^◌, ◌<◌, ◌≤◌, ◌⊎◌, inl, inr, Bool, List, [], ◌∷◌, ◌++◌, length, take, get_or, refl, sym, ap, ◌∙◌, subst, arith, add-one, length-append}
use Rattle.std.proofs.Math.Seq.{take-suc}
use Rattle.tm_base.specs.declared.tree.Tree.{Tree, Alt}
use Rattle.tm_base.specs.Cells.{Word}
use Rattle.tm_base.specs.Shapes.{leaves_of, all_leaves, HasNoChoice, NoneHasChoice}
use Rattle.tm_base.specs.Transmutes.{holds}
use Rattle.tm_auto.specs.declared.build.Building.{Building}
use Rattle.tm_auto.specs.declared.extent.Extent.{Extent}
use Rattle.tm_auto.specs.declared.extent.Extent.TheVariants.{Dead, Empty, Long}
use Rattle.tm_auto.specs.Builds.{Piece, of_tree, IsGrowable, CanGrow, MakesBy, MakesTree, AreEven, any}
use Rattle.tm_auto.specs.Labels.{Begins}
use Rattle.tm_auto.specs.Loose.{LooseWord, LooseOneOf}
use Rattle.tm_auto.specs.Shapes.{extent_of}
use Rattle.tm_auto.proofs.CaseLemmas.{public_at, all_leaves-take, all_leaves-more, said_before}
use Rattle.tm_auto.proofs.ExtentLemmas.{IsExtent, extent_is, even_member, no_empty}
use Rattle.tm_auto.proofs.GrowLemmas.{Either}
use Rattle.tm_auto.proofs.LooseLemmas.{LooseWord-Alt, LooseOneOf-more}
use Rattle.tm_auto.proofs.MakeLemmas.{IsSame, in_place, makes_as, makes_from, makes_either, ready_still}
use Rattle.tm_auto.proofs.ShapeLemmas.{extent_of-Alt}
use Rattle.tm_base.proofs.ShapeLemmas.{leaves_of-Alt, HasNoChoice-Alt, HasNoPrivate-Alt}

-- what is told of the first members
abbrev Line : List Tree → Type 0
Line ts = (length ts ≤ 1) × NoneHasChoice ts

-- the words of one of some trees
abbrev pub of_members : ℕ → List Tree → ℕ → Piece
of_members pointer ts target = record { words = λ A. LooseOneOf pointer (holds A) ts; target = target; opens = Begins; room = all_leaves pointer ts; line = Line ts }

-- no word yet, and nothing was put; or ways stand
abbrev pub OneFront : List Tree → ℕ → Building → Building → Type 0
OneFront ts target b c =
    (IsSame b c × ((A : ℕ → ℕ → Bool) (w : Word) → LooseOneOf b.pointer (holds A) ts w → ⊥))
    ⊎ ((ts ≢ []) × MakesBy (of_members b.pointer ts target) b c)

pub one_none : (target : ℕ) (b c : Building) → IsSame b c → OneFront [] target b c
one_none target b c same = inl (same, λ A w h. h)

take_one : (ts : List Tree) (i : ℕ) (t : Tree) → i < length ts → t ≡ get_or ts i t → take (i + 1) ts ≡ take i ts ++ t ∷ []
take_one ts i t l e = rw add-one (take-suc ts i t l ∙ ap (λ (z : Tree). take i ts ++ z ∷ []) (sym e))

more_some : (ts : List Tree) (t : Tree) → (ts ++ t ∷ []) ≢ []
more_some [] t e = cc
more_some (s ∷ ts) t e = cc

less_line : (ts : List Tree) (t : Tree) → Line (ts ++ t ∷ []) → Line ts
less_line ts t (l, h) = (let x = length-append ts (t ∷ []) in omega arith, all ts h)
  where
    all : (ts : List Tree) → NoneHasChoice (ts ++ t ∷ []) → NoneHasChoice ts
    all [] h = tt
    all (s ∷ ts) h = (h.0, all ts h.1)

last_line : (ts : List Tree) (t : Tree) → Line (ts ++ t ∷ []) → HasNoChoice t
last_line ts t (l, h) = all ts h
  where
    all : (ts : List Tree) → NoneHasChoice (ts ++ t ∷ []) → HasNoChoice t
    all [] h = h.0
    all (s ∷ ts) h = all ts h.1

no_line : (ts : List Tree) (t : Tree) → ts ≢ [] → Line (ts ++ t ∷ []) → ⊥
no_line [] t some h = some refl
no_line (s ∷ ts) t some (l, h) = let x = length-append (s ∷ ts) (t ∷ []) in absurd (omega arith)

module _ (ts : List Tree) (i : ℕ) (t : Tree) (target : ℕ) (b c : Building) (lt : i < length ts) (et : t ≡ get_or ts i t) (can : CanGrow (Alt ts) target b) (h : OneFront (take i ts) target b c) where
  first : List Tree
  first = take i ts

  leaves_left : all_leaves b.pointer (take i ts) + leaves_of b.pointer t ≤ leaves_of b.pointer (Alt ts)
  leaves_left =
      let x = all_leaves-take b.pointer ts (i + 1) in
      let y = ap (all_leaves b.pointer) (take_one ts i t lt et) ∙ all_leaves-more b.pointer (take i ts) t in
      let z = leaves_of-Alt b.pointer ts in
      omega arith

  even : AreEven (LooseOneOf b.pointer (holds any) ts)
  even = let (n, even) = can.growable.even in (n, λ w k. even w ((LooseWord-Alt b.pointer (holds any) ts w).1 k))

  pub one_can : extent_of t ≡ Long → CanGrow t target c
  one_can long =
      let x = leaves_left in
      let r = can.room in
      let grow : IsGrowable b.pointer t = record {
        public = rw et (public_at ts i t ((HasNoPrivate-Alt ts).0 can.growable.public) lt);
        long = long;
        even = subst (λ (z : Tree). AreEven (LooseWord b.pointer (holds any) z)) (sym et) (even_member b.pointer can.ready.pointer.0 ts i t even lt);
      } in
      elim h [
        | inl (same, none) ↦ (
            let room : c.states + leaves_of b.pointer t ≤ 2 ^ 31 = (let s = same.states in omega arith) in
            record {
              growable = rw same.pointer grow;
              ready = record {
                pointer = rw same.pointer can.ready.pointer;
                sound = rw (same.pointer, same.edges, same.states) can.ready.sound;
                below = rw same.states can.ready.below;
                plain = rw same.edges can.ready.plain;
              };
              room = rw same.pointer room;
            })
        | inr (some, made) ↦ (
            let room : c.states + leaves_of b.pointer t ≤ 2 ^ 31 = (let s = made.few in omega arith) in
            record { growable = rw made.extended.pointer grow; ready = ready_still made.extended can.ready; room = rw made.extended.pointer room })
      ]

  onward : (d : Building) → OneFront (take i ts ++ t ∷ []) target b d → OneFront (take (i + 1) ts) target b d
  onward d k = subst (λ (z : List Tree). OneFront z target b d) (sym (take_one ts i t lt et)) k

  pub one_long : (d : Building) → MakesTree t target c d → OneFront (take (i + 1) ts) target b d
  one_long d made = onward d (elim h [
    | inl (same, none) ↦ (
        let one = makes_from same (said_before b.pointer t target c d same.pointer made) in
        let size = all_leaves-more b.pointer (take i ts) t in
        inr (
          more_some (take i ts) t,
          makes_as (of_tree b.pointer t target) (omega arith) (last_line (take i ts) t) (λ A w.
              let (x, y) = LooseOneOf-more b.pointer (holds A) (take i ts) t w in
              (λ k. y (inr k), λ k. elim (x k) [ inl z ↦ absurd (none A w z) | inr z ↦ z ])) one,
        ))
    | inr (some, before) ↦ (
        let firsts = of_members b.pointer (take i ts) target in
        let two = makes_either firsts can.ready before (said_before b.pointer t target c d before.extended.pointer made) in
        let size = all_leaves-more b.pointer (take i ts) t in
        inr (more_some (take i ts) t, makes_as (in_place firsts (Either firsts.words (λ A. LooseWord b.pointer (holds A) t)) (firsts.room + leaves_of b.pointer t) ⊥) (omega arith) (no_line (take i ts) t some) (λ A w. let (x, y) = LooseOneOf-more b.pointer (holds A) (take i ts) t w in (y, x)) two))
  ])

  pub one_dead : extent_of t ≡ Dead → OneFront (take (i + 1) ts) target b c
  one_dead dead =
      let never : IsExtent Dead (λ A. LooseWord b.pointer (holds A) t) = subst (λ (z : Extent). IsExtent z (λ A. LooseWord b.pointer (holds A) t)) dead (extent_is b.pointer can.ready.pointer.0 t) in
      onward c (elim h [
        | inl (same, none) ↦ inl (same, λ A w k. elim ((LooseOneOf-more b.pointer (holds A) (take i ts) t w).0 k) [ inl z ↦ none A w z | inr z ↦ never A w z ])
        | inr (some, before) ↦ (
            let size = all_leaves-more b.pointer (take i ts) t in
            inr (
              more_some (take i ts) t,
              makes_as (of_members b.pointer (take i ts) target) (omega arith) (less_line (take i ts) t) (λ A w.
                  let (x, y) = LooseOneOf-more b.pointer (holds A) (take i ts) t w in
                  (λ k. y (inl k), λ k. elim (x k) [ inl z ↦ z | inr z ↦ absurd (never A w z) ])) before,
            ))
      ])

  pub one_empty : extent_of t ≡ Empty → ⊥
  one_empty e = no_empty b.pointer can.ready.pointer.0 ts i t (sym (extent_of-Alt ts) ∙ can.growable.long) even lt (ap extent_of (sym et) ∙ e)

pub one_done : (ts : List Tree) (target : ℕ) (b c : Building) → CanGrow (Alt ts) target b → OneFront ts target b c → MakesTree (Alt ts) target b c
one_done ts target b c can (inl (same, none)) =
    let (d, w, h) = subst (λ (z : Extent). IsExtent z (λ A. LooseWord b.pointer (holds A) (Alt ts))) can.growable.long (extent_is b.pointer can.ready.pointer.0 (Alt ts)) in
    absurd (none any (d ∷ w) ((LooseWord-Alt b.pointer (holds any) ts (d ∷ w)).0 h))
one_done ts target b c can (inr (some, made)) = let e = leaves_of-Alt b.pointer ts in makes_as (of_members b.pointer ts target) (omega arith) (HasNoChoice-Alt ts).0 (λ A w. let (x, y) = LooseWord-Alt b.pointer (holds A) ts w in (y, x)) made
