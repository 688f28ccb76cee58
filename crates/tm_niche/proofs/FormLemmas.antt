-- Leaves, private parts and alternatives of what is made of some trees.
use Rattle.std.proofs.Common.{◌≡◌, ℕ, zero, suc, ◌+◌, ◌*◌, ◌≤◌, refl, sym, ap, subst, ◌∙◌, ◌==◌, Bool, true, false, ◌||◌, if◌then◌else◌, List, [], ◌∷◌, ◌++◌, arith, Result, Ok, Err, IfOk}
use Rattle.tm_base.specs.declared.tree.Tree.{Tree, Never, Range, Pad, Repeat}
use Rattle.tm_base.specs.Shapes.{leaves_of, all_leaves, HasNoPrivate, NonePrivate, HasNoChoice, NoneHasChoice}
use Rattle.tm_base.proofs.ShapeLemmas.{leaves_of-Seq, leaves_of-Alt, leaves_of-Repeat, HasNoPrivate-Seq, HasNoPrivate-Alt, HasNoPrivate-Repeat, HasNoChoice-Seq, HasNoChoice-Repeat}
use Rattle.tm_niche.specs.Forms.{is_never, some_never, living, sequence_of, alternative_of, joined, one_of, repeated}
use Rattle.tm_niche.proofs.WordLemmas.{never-is, one-is}

-- what holds of a tree holds of a result that is it
pub of-form : {E : Type 0} (r : Result Tree E) (t : Tree) (P : Tree → Type 0) → IfOk r (λ made. made ≡ t) → P t → IfOk r P
of-form (Ok made) t P e p = subst P (sym e) p
of-form (Err e) t P h p = tt

-- ---- leaves

module _ (pointer : ℕ) where
  pub all_leaves-append : (ts ss : List Tree) → all_leaves pointer (ts ++ ss) ≡ all_leaves pointer ts + all_leaves pointer ss
  all_leaves-append [] ss = omega arith
  all_leaves-append (t ∷ ts) ss = let e = all_leaves-append ts ss in omega arith

  never-leaves : (t : Tree) → is_never t ≡ true → leaves_of pointer t ≡ 0
  unfolding leaves_of
  never-leaves t e = ap (leaves_of pointer) (never-is t e)

  sequence_of-leaves : (ts : List Tree) → leaves_of pointer (sequence_of ts) ≡ all_leaves pointer ts
  sequence_of-leaves [] = leaves_of-Seq pointer []
  sequence_of-leaves (t ∷ []) = omega arith
  sequence_of-leaves (t ∷ s ∷ ts) = leaves_of-Seq pointer (t ∷ s ∷ ts)

  no_leaves-Never : leaves_of pointer Never ≡ 0
  unfolding leaves_of
  no_leaves-Never = refl

  joined-case : (ts : List Tree) (b : Bool) → leaves_of pointer (if b then Never else sequence_of ts) ≤ all_leaves pointer ts
  joined-case ts true = let e = no_leaves-Never in omega arith
  joined-case ts false = let e = sequence_of-leaves ts in omega arith

  pub joined-leaves : (ts : List Tree) → leaves_of pointer (joined ts) ≤ all_leaves pointer ts
  unfolding joined
  joined-leaves ts = joined-case ts (some_never ts)

  -- exactly theirs, where none is `Never`
  pub joined-all : (ts : List Tree) → some_never ts ≡ false → leaves_of pointer (joined ts) ≡ all_leaves pointer ts
  unfolding joined
  joined-all ts e = ap (λ b. leaves_of pointer (if b then Never else sequence_of ts)) e ∙ sequence_of-leaves ts

  living-case : (t : Tree) (ts : List Tree) (b : Bool) → is_never t ≡ b → all_leaves pointer (living ts) ≡ all_leaves pointer ts
      → all_leaves pointer (if b then living ts else (t ∷ living ts)) ≡ all_leaves pointer (t ∷ ts)
  living-case t ts true e h = let none = never-leaves t e in omega arith
  living-case t ts false e h = ap (λ (n : ℕ). leaves_of pointer t + n) h

  living-leaves : (ts : List Tree) → all_leaves pointer (living ts) ≡ all_leaves pointer ts
  living-leaves [] = refl
  living-leaves (t ∷ ts) = living-case t ts (is_never t) refl (living-leaves ts)

  alternative_of-leaves : (ts : List Tree) → leaves_of pointer (alternative_of ts) ≡ all_leaves pointer ts
  alternative_of-leaves [] = no_leaves-Never
  alternative_of-leaves (t ∷ []) = omega arith
  alternative_of-leaves (t ∷ s ∷ ts) = leaves_of-Alt pointer (t ∷ s ∷ ts)

  pub one_of-leaves : (ts : List Tree) → leaves_of pointer (one_of ts) ≡ all_leaves pointer ts
  unfolding one_of
  one_of-leaves ts = alternative_of-leaves (living ts) ∙ living-leaves ts

  turns-case : (n : ℕ) (t : Tree) (one dead : Bool) → (n == 1) ≡ one → is_never t ≡ dead → leaves_of pointer (if one || dead then t else Repeat n t) ≡ n * leaves_of pointer t
  turns-case n t true dead e d = let same : n ≡ 1 = one-is n e in rw same (omega arith)
  turns-case n t false true e d = let none : leaves_of pointer t ≡ 0 = never-leaves t d in rw none (omega arith)
  turns-case n t false false e d = leaves_of-Repeat pointer n t

  pub repeated-leaves : (n : ℕ) (t : Tree) → all_leaves pointer (repeated n t) ≡ n * leaves_of pointer t
  repeated-leaves zero t = omega arith
  repeated-leaves (suc n) t = let e = turns-case (suc n) t (suc n == 1) (is_never t) refl refl in omega arith

  pub one-Range : (low high : ℕ) → leaves_of pointer (Range low high) ≡ 1
  unfolding leaves_of
  one-Range low high = refl

  pub one-Pad : leaves_of pointer Pad ≡ 1
  unfolding leaves_of
  one-Pad = refl

-- ---- private parts

private-Never : HasNoPrivate Never
unfolding HasNoPrivate
private-Never = tt

pub private-Range : (low high : ℕ) → HasNoPrivate (Range low high)
unfolding HasNoPrivate
private-Range low high = tt

pub private-Pad : HasNoPrivate Pad
unfolding HasNoPrivate
private-Pad = tt

pub NonePrivate-append : (ts ss : List Tree) → NonePrivate ts → NonePrivate ss → NonePrivate (ts ++ ss)
NonePrivate-append [] ss h k = k
NonePrivate-append (t ∷ ts) ss h k = (h.0, NonePrivate-append ts ss h.1 k)

sequence_of-private : (ts : List Tree) → NonePrivate ts → HasNoPrivate (sequence_of ts)
sequence_of-private [] h = (HasNoPrivate-Seq []).1 h
sequence_of-private (t ∷ []) h = h.0
sequence_of-private (t ∷ s ∷ ts) h = (HasNoPrivate-Seq (t ∷ s ∷ ts)).1 h

pub joined-private : (ts : List Tree) → NonePrivate ts → HasNoPrivate (joined ts)
unfolding joined
joined-private ts h = elim (some_never ts) as (λ b. HasNoPrivate (if b then Never else sequence_of ts)) [ true ↦ private-Never | false ↦ sequence_of-private ts h ]

living-private : (ts : List Tree) → NonePrivate ts → NonePrivate (living ts)
living-private [] h = h
living-private (t ∷ ts) h =
    let others = living-private ts h.1 in
    elim (is_never t) as (λ b. NonePrivate (if b then living ts else (t ∷ living ts))) [ true ↦ others | false ↦ (h.0, others) ]

alternative_of-private : (ts : List Tree) → NonePrivate ts → HasNoPrivate (alternative_of ts)
alternative_of-private [] h = private-Never
alternative_of-private (t ∷ []) h = h.0
alternative_of-private (t ∷ s ∷ ts) h = (HasNoPrivate-Alt (t ∷ s ∷ ts)).1 h

pub one_of-private : (ts : List Tree) → NonePrivate ts → HasNoPrivate (one_of ts)
unfolding one_of
one_of-private ts h = alternative_of-private (living ts) (living-private ts h)

pub repeated-private : (n : ℕ) (t : Tree) → HasNoPrivate t → NonePrivate (repeated n t)
repeated-private zero t h = tt
repeated-private (suc n) t h =
    (elim ((suc n == 1) || is_never t) as (λ b. HasNoPrivate (if b then t else Repeat (suc n) t)) [ true ↦ h | false ↦ (HasNoPrivate-Repeat (suc n) t).1 h ], tt)

-- ---- alternatives

pub single-Never : HasNoChoice Never
unfolding HasNoChoice
single-Never = tt

pub single-Range : (low high : ℕ) → HasNoChoice (Range low high)
unfolding HasNoChoice
single-Range low high = tt

pub single-Pad : HasNoChoice Pad
unfolding HasNoChoice
single-Pad = tt

pub NoneHasChoice-append : (ts ss : List Tree) → NoneHasChoice ts → NoneHasChoice ss → NoneHasChoice (ts ++ ss)
NoneHasChoice-append [] ss h k = k
NoneHasChoice-append (t ∷ ts) ss h k = (h.0, NoneHasChoice-append ts ss h.1 k)

sequence_of-single : (ts : List Tree) → NoneHasChoice ts → HasNoChoice (sequence_of ts)
sequence_of-single [] h = (HasNoChoice-Seq []).1 h
sequence_of-single (t ∷ []) h = h.0
sequence_of-single (t ∷ s ∷ ts) h = (HasNoChoice-Seq (t ∷ s ∷ ts)).1 h

pub joined-single : (ts : List Tree) → NoneHasChoice ts → HasNoChoice (joined ts)
unfolding joined
joined-single ts h = elim (some_never ts) as (λ b. HasNoChoice (if b then Never else sequence_of ts)) [ true ↦ single-Never | false ↦ sequence_of-single ts h ]

-- an alternative of one tree at most is none
pub one_of-single : (t : Tree) → HasNoChoice t → HasNoChoice (one_of (t ∷ []))
unfolding one_of
one_of-single t h = elim (is_never t) as (λ b. HasNoChoice (alternative_of (if b then [] else (t ∷ [])))) [ true ↦ single-Never | false ↦ h ]

pub repeated-single : (n : ℕ) (t : Tree) → HasNoChoice t → NoneHasChoice (repeated n t)
repeated-single zero t h = tt
repeated-single (suc n) t h =
    (elim ((suc n == 1) || is_never t) as (λ b. HasNoChoice (if b then t else Repeat (suc n) t)) [ true ↦ h | false ↦ (HasNoChoice-Repeat (suc n) t).1 h ], tt)
