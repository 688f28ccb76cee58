-- The words of a sequence, an alternative and a repetition that are made of some trees.
use Rattle.std.proofs.Common.{◌≡◌, ℕ, zero, suc, ◌<◌, refl, sym, ap, subst, ◌∙◌, ◌==◌, Bool, true, false, ◌||◌, if◌then◌else◌, List, [], ◌∷◌, ◌++◌, length, replicate, ◌⊎◌, inl, inr, ⊎_elim, ◌↔◌, arith, append_assoc, append-nil, All}
use Rattle.std.proofs.lemmas.List.Elements.{All-head, All-tail, All-cons, All-nil}
use Rattle.std.proofs.lemmas.Bool.Decides.{nat_tests}
use Rattle.tm_base.specs.declared.cell.Cell.{Cell}
use Rattle.tm_base.specs.declared.cell.Cell.TheVariants.{Byte, Uninit, Ptr}
use Rattle.tm_base.specs.declared.tree.Tree.{Tree, Never, Range, Pad, Repeat}
use Rattle.tm_base.specs.Cells.{Word, IsByte, IsFree, Times}
use Rattle.tm_base.specs.Trees.{TreeWord, InTurn, OneOf}
use Rattle.tm_base.specs.Valid.{AreBytes, AreFree}
use Rattle.tm_base.proofs.TreeLemmas.{TreeWord-Seq, TreeWord-Alt, TreeWord-Repeat}
use Rattle.tm_niche.specs.Forms.{is_never, some_never, living, sequence_of, alternative_of, joined, one_of, repeated, turns}

pub or_split : (a b : Bool) → (a || b) ≡ true → (a ≡ true) ⊎ (b ≡ true)
or_split true b e = inl refl
or_split false b e = inr e

pub never-is : (t : Tree) → is_never t ≡ true → t ≡ Never
never-is Never e = refl
never-is t e = cc

pub one-is : (n : ℕ) → (n == 1) ≡ true → n ≡ 1
one-is n e = grind (arith, nat_tests)

-- pieces of one cell each
module _ (P : Word → Type 0) (Q : Cell → Type 0) where
  cells_from : ((u : Word) → P u → (c : Cell) × Q c × (u ≡ c ∷ [])) → (n : ℕ) (u : Word) → Times n P u → (length u ≡ n) × All Q u
  cells_from each zero u h = (rw h refl, rw h (All-nil Q))
  cells_from each (suc n) u (v, x, e, a, b) =
      let (c, q, ec) = each v a in
      let (l, r) = cells_from each n x b in
      (rw (e, ec) (omega arith), rw (e, ec) (All-cons Q c x q r))

  cells_to : ((c : Cell) → Q c → P (c ∷ [])) → (n : ℕ) (u : Word) → (length u ≡ n) × All Q u → Times n P u
  cells_to each zero [] h = refl
  cells_to each zero (c ∷ u) h = absurd (omega arith)
  cells_to each (suc n) [] h = absurd (omega arith)
  cells_to each (suc n) (c ∷ u) (l, a) = (c ∷ [], u, refl, each c (All-head Q c u a), cells_to each n u (omega arith, All-tail Q c u a))

module _ (pointer : ℕ) (A : ℕ → ℕ → Type 0) (keep : Bool) where
  pub none-Never : (w : Word) → TreeWord pointer A keep Never w → ⊥
  unfolding TreeWord
  none-Never w h = h

  -- what says that it has no word has none
  pub none-is : (t : Tree) (w : Word) → is_never t ≡ true → TreeWord pointer A keep t w → ⊥
  none-is t w e h = none-Never w (subst (λ s. TreeWord pointer A keep s w) (never-is t e) h)

  -- a word of trees behind others is one of those and then one of these
  pub InTurn-append : (ts ss : List Tree) (w : Word) → InTurn pointer A keep (ts ++ ss) w ↔ ((u : Word) × (v : Word) × (w ≡ u ++ v) × InTurn pointer A keep ts u × InTurn pointer A keep ss v)
  InTurn-append [] ss w = (λ h. ([], w, refl, refl, h), λ (u, v, e, p, q). subst (InTurn pointer A keep ss) (sym (e ∙ ap (λ x. x ++ v) p)) q)
  InTurn-append (t ∷ ts) ss w = (
    λ (u, v, e, p, q).
        let (x, y, e2, p2, q2) = (InTurn-append ts ss v).0 q in
        (u ++ x, y, e ∙ ap (λ z. u ++ z) e2 ∙ sym (append_assoc u x y), (u, x, refl, p, p2), q2),
    λ (u, v, e, (x, y, e2, p, p2), q).
        (x, y ++ v, e ∙ ap (λ z. z ++ v) e2 ∙ append_assoc x y v, p, (InTurn-append ts ss (y ++ v)).1 (y, v, refl, p2, q)),
  )

  pub InTurn-one : (t : Tree) (w : Word) → TreeWord pointer A keep t w ↔ InTurn pointer A keep (t ∷ []) w
  InTurn-one t w = (
    λ h. (w, [], sym (append-nil w), h, refl),
    λ (u, v, e, p, q). subst (TreeWord pointer A keep t) (sym (e ∙ ap (λ z. u ++ z) q ∙ append-nil u)) p,
  )

  some_never-none : (ts : List Tree) (w : Word) → some_never ts ≡ true → InTurn pointer A keep ts w → ⊥
  some_never-none [] w e h = cc
  some_never-none (t ∷ ts) w e (u, v, s, p, q) =
      ⊎_elim (λ dead. none-is t u dead p) (λ dead. some_never-none ts v dead q) (or_split (is_never t) (some_never ts) e)

  sequence_of-words : (ts : List Tree) (w : Word) → TreeWord pointer A keep (sequence_of ts) w ↔ InTurn pointer A keep ts w
  sequence_of-words [] w = TreeWord-Seq pointer A keep [] w
  sequence_of-words (t ∷ []) w = InTurn-one t w
  sequence_of-words (t ∷ s ∷ ts) w = TreeWord-Seq pointer A keep (t ∷ s ∷ ts) w

  joined-case : (ts : List Tree) (w : Word) (b : Bool) → some_never ts ≡ b → TreeWord pointer A keep (if b then Never else sequence_of ts) w ↔ InTurn pointer A keep ts w
  joined-case ts w true e = (λ h. absurd (none-Never w h), λ h. absurd (some_never-none ts w e h))
  joined-case ts w false e = sequence_of-words ts w

  -- the words of trees that are joined are a word of each in turn
  pub joined-words : (ts : List Tree) (w : Word) → TreeWord pointer A keep (joined ts) w ↔ InTurn pointer A keep ts w
  unfolding joined
  joined-words ts w = joined-case ts w (some_never ts) refl

  living-case : (t : Tree) (ts : List Tree) (w : Word) (b : Bool) → is_never t ≡ b → OneOf pointer A keep (living ts) w ↔ OneOf pointer A keep ts w
      → OneOf pointer A keep (if b then living ts else (t ∷ living ts)) w ↔ OneOf pointer A keep (t ∷ ts) w
  living-case t ts w true e (to, from) = (λ h. inr (to h), ⊎_elim (λ p. absurd (none-is t w e p)) from)
  living-case t ts w false e (to, from) = (⊎_elim (λ p. inl p) (λ h. inr (to h)), ⊎_elim (λ p. inl p) (λ h. inr (from h)))

  living-words : (ts : List Tree) (w : Word) → OneOf pointer A keep (living ts) w ↔ OneOf pointer A keep ts w
  living-words [] w = (λ h. h, λ h. h)
  living-words (t ∷ ts) w = living-case t ts w (is_never t) refl (living-words ts w)

  alternative_of-words : (ts : List Tree) (w : Word) → TreeWord pointer A keep (alternative_of ts) w ↔ OneOf pointer A keep ts w
  alternative_of-words [] w = (λ h. none-Never w h, λ h. absurd h)
  alternative_of-words (t ∷ []) w = (λ h. inl h, ⊎_elim (λ p. p) (λ h. absurd h))
  alternative_of-words (t ∷ s ∷ ts) w = TreeWord-Alt pointer A keep (t ∷ s ∷ ts) w

  -- the words of an alternative are those of each
  pub one_of-words : (ts : List Tree) (w : Word) → TreeWord pointer A keep (one_of ts) w ↔ OneOf pointer A keep ts w
  unfolding one_of
  one_of-words ts w =
      let outer = alternative_of-words (living ts) w in
      let inner = living-words ts w in
      (λ h. inner.0 (outer.0 h), λ h. outer.1 (inner.1 h))

  turns-case : (n : ℕ) (t : Tree) (w : Word) (one dead : Bool) → (n == 1) ≡ one → is_never t ≡ dead → 0 < n
      → TreeWord pointer A keep (if one || dead then t else Repeat n t) w ↔ Times n (TreeWord pointer A keep t) w
  turns-case n t w true dead e d some = let same : n ≡ 1 = one-is n e in subst (λ (k : ℕ). TreeWord pointer A keep t w ↔ Times k (TreeWord pointer A keep t) w) (sym same) (InTurn-one t w)
  turns-case zero t w false true e d some = absurd (omega arith)
  turns-case (suc n) t w false true e d some = (λ p. absurd (none-is t w d p), λ (u, v, s, p, q). absurd (none-is t u d p))
  turns-case n t w false false e d some = TreeWord-Repeat pointer A keep n t w

  -- the words of turns of a tree
  pub repeated-words : (n : ℕ) (t : Tree) (w : Word) → InTurn pointer A keep (repeated n t) w ↔ Times n (TreeWord pointer A keep t) w
  repeated-words zero t w = (λ h. h, λ h. h)
  repeated-words (suc n) t w =
      let outer = InTurn-one (turns (suc n) t) w in
      let inner = turns-case (suc n) t w (suc n == 1) (is_never t) refl refl (omega arith) in
      (λ h. inner.0 (outer.1 h), λ h. outer.0 (inner.1 h))

  pub pads-words : (n : ℕ) (w : Word) → InTurn pointer A keep (repeated n Pad) w ↔ AreFree n w
  unfolding TreeWord
  pads-words n w = (
    λ h. cells_from (TreeWord pointer A keep Pad) IsFree (λ v one. one) n w ((repeated-words n Pad w).0 h),
    λ h. (repeated-words n Pad w).1 (cells_to (TreeWord pointer A keep Pad) IsFree (λ c q. (c, q, refl)) n w h),
  )

  a_byte : (c : Cell) → IsByte c → TreeWord pointer A keep (Range 0 255) (c ∷ [])
  unfolding TreeWord
  a_byte (Byte b) h = (b, omega arith, omega arith, refl)
  a_byte Uninit h = elim h [ ]
  a_byte (Ptr r k) h = elim h [ ]

  pub bytes-words : (n : ℕ) (w : Word) → InTurn pointer A keep (repeated n (Range 0 255)) w ↔ AreBytes n w
  unfolding TreeWord
  bytes-words n w = (
    λ h. cells_from (TreeWord pointer A keep (Range 0 255)) IsByte (λ v (x, lo, hi, e). (Byte x, omega arith, e)) n w ((repeated-words n (Range 0 255) w).0 h),
    λ h. (repeated-words n (Range 0 255) w).1 (cells_to (TreeWord pointer A keep (Range 0 255)) IsByte a_byte n w h),
  )

  -- a range of one byte
  pub exact-words : (b : ℕ) (w : Word) → TreeWord pointer A keep (Range b b) w ↔ (w ≡ Byte b ∷ [])
  unfolding TreeWord
  exact-words b w = (λ (x, lo, hi, e). let same : x ≡ b = omega arith in e ∙ ap (λ n. Byte n ∷ []) same, λ e. (b, omega arith, omega arith, e))

  zeros-times : (n : ℕ) (w : Word) → Times n (TreeWord pointer A keep (Range 0 0)) w ↔ (w ≡ replicate n (Byte 0))
  zeros-times zero w = (λ h. h, λ h. h)
  zeros-times (suc n) w = (
    λ (u, v, e, p, q). e ∙ ap (λ z. z ++ v) ((exact-words 0 u).0 p) ∙ ap (λ z. Byte 0 ∷ z) ((zeros-times n v).0 q),
    λ e. (Byte 0 ∷ [], replicate n (Byte 0), e, (exact-words 0 (Byte 0 ∷ [])).1 refl, (zeros-times n (replicate n (Byte 0))).1 refl),
  )

  pub zeros-words : (n : ℕ) (w : Word) → InTurn pointer A keep (repeated n (Range 0 0)) w ↔ (w ≡ replicate n (Byte 0))
  zeros-words n w =
      let turns = repeated-words n (Range 0 0) w in
      let bytes = zeros-times n w in
      (λ h. bytes.0 (turns.0 h), λ h. turns.1 (bytes.1 h))
