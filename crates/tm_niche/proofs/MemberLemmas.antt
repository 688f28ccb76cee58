-- What is made step by step is what is described.
use Rattle.std.proofs.Common.{◌≡◌, ℕ, zero, suc, ◌+◌, ◌-◌, ◌<◌, ◌≤◌, ◌/◌, ◌%◌, refl, sym, ap, ◌∙◌, Bool, true, false, if◌then◌else◌, None, Some, List, [], ◌∷◌, ◌++◌, length, arith, append_assoc, append-nil}
use Rattle.tm_base.specs.declared.tree.Tree.{Tree, Never, Range, Seq, Alt}
use Rattle.tm_niche.specs.Forms.{is_never, some_never, living, only_of, sequence_of, alternative_of, joined, one_of, repeated, turns, first_nonzero, nonzero_ways, byte_forms, turned}

pub joined-never : (ts : List Tree) → some_never ts ≡ true → Never ≡ joined ts
unfolding joined
joined-never ts e = rw e refl

sequence-only : (ts : List Tree) (t : Tree) → Some t ≡ only_of ts → t ≡ sequence_of ts
sequence-only [] t e = cc
sequence-only (s ∷ []) t e = cc
sequence-only (s ∷ r ∷ ts) t e = cc

pub joined-only : (ts : List Tree) (t : Tree) → some_never ts ≡ false → Some t ≡ only_of ts → t ≡ joined ts
unfolding joined
joined-only ts t none e = rw none (sequence-only ts t e)

sequence-several : (ts : List Tree) → None ≡ only_of ts → Seq ts ≡ sequence_of ts
sequence-several [] e = refl
sequence-several (t ∷ []) e = cc
sequence-several (t ∷ s ∷ ts) e = refl

pub joined-several : (ts : List Tree) → some_never ts ≡ false → None ≡ only_of ts → Seq ts ≡ joined ts
unfolding joined
joined-several ts none e = rw none (sequence-several ts e)

pub one_of-none : (ts : List Tree) → length (living ts) ≡ 0 → Never ≡ one_of ts
unfolding one_of
one_of-none ts e = of_none (living ts) e where
  of_none : (ss : List Tree) → length ss ≡ 0 → Never ≡ alternative_of ss
  of_none [] e = refl
  of_none (s ∷ ss) e = absurd (omega arith)

pub one_of-only : (ts : List Tree) (t : Tree) → Some t ≡ only_of (living ts) → t ≡ one_of ts
unfolding one_of
one_of-only ts t e = of_one (living ts) e where
  of_one : (ss : List Tree) → Some t ≡ only_of ss → t ≡ alternative_of ss
  of_one [] e = cc
  of_one (s ∷ []) e = cc
  of_one (s ∷ r ∷ ss) e = cc

pub one_of-several : (ts : List Tree) → 0 < length (living ts) → None ≡ only_of (living ts) → Alt (living ts) ≡ one_of ts
unfolding one_of
one_of-several ts some e = of_several (living ts) some e where
  of_several : (ss : List Tree) → 0 < length ss → None ≡ only_of ss → Alt ss ≡ alternative_of ss
  of_several [] some e = absurd (omega arith)
  of_several (s ∷ []) some e = cc
  of_several (s ∷ r ∷ ss) some e = refl

-- the living among some trees and one more
pub living-next : (ts : List Tree) (t : Tree) → living (ts ++ (t ∷ [])) ≡ living ts ++ (if is_never t then [] else (t ∷ []))
living-next [] t = refl
living-next (s ∷ ts) t = elim (is_never s) as (λ b. (if b then living (ts ++ (t ∷ [])) else (s ∷ living (ts ++ (t ∷ [])))) ≡ (if b then living ts else (s ∷ living ts)) ++ (if is_never t then [] else (t ∷ []))) [
  | true ↦ living-next ts t
  | false ↦ ap (λ rest. s ∷ rest) (living-next ts t)
]

pub living-more : (ts : List Tree) (t : Tree) → is_never t ≡ false → living (ts ++ (t ∷ [])) ≡ living ts ++ (t ∷ [])
living-more ts t e = living-next ts t ∙ ap (λ b. living ts ++ (if b then [] else (t ∷ []))) e

pub living-same : (ts : List Tree) (t : Tree) → is_never t ≡ true → living (ts ++ (t ∷ [])) ≡ living ts
living-same ts t e = living-next ts t ∙ ap (λ b. living ts ++ (if b then [] else (t ∷ []))) e ∙ append-nil (living ts)

-- the turns are one tree, where there are any
pub repeated-some : (n : ℕ) (t : Tree) → 0 < n → repeated n t ≡ turns n t ∷ []
repeated-some zero t h = absurd (omega arith)
repeated-some (suc n) t h = refl

-- a step of the ways in which bytes aren't all 00
pub ways-step : (before size : ℕ) (ways : List Tree) → before < size
    → (ways ++ (first_nonzero before (size - 1 - before) ∷ [])) ++ nonzero_ways (before + 1) (size - (before + 1)) ≡ ways ++ nonzero_ways before (size - before)
ways-step before size ways h =
    let more : size - before ≡ suc (size - (before + 1)) = omega arith in
    let behind : size - 1 - before ≡ size - (before + 1) = omega arith in
    let next : before + 1 ≡ suc before = omega arith in
    rw (more, behind, next) (append_assoc ways (first_nonzero before (size - suc before) ∷ []) (nonzero_ways (suc before) (size - suc before)))

pub ways-end : (before size : ℕ) (ways : List Tree) → size ≤ before → ways ++ nonzero_ways before (size - before) ≡ nonzero_ways 0 size → ways ≡ nonzero_ways 0 size
ways-end before size ways h e =
    let none : size - before ≡ 0 = omega arith in
    sym (append-nil ways) ∙ ap (λ (n : ℕ). ways ++ nonzero_ways before n) (sym none) ∙ e

-- a step of the low bytes of a number
pub bytes-step : (negative : Bool) (size counter n byte : ℕ) (bytes : List Tree) → counter < size → byte ≡ turned negative (n % 256)
    → (bytes ++ (Range byte byte ∷ [])) ++ byte_forms negative (size - (counter + 1)) (n / 256) ≡ bytes ++ byte_forms negative (size - counter) n
bytes-step negative size counter n byte bytes h e =
    let more : size - counter ≡ suc (size - (counter + 1)) = omega arith in
    rw (more, e) (append_assoc bytes (Range (turned negative (n % 256)) (turned negative (n % 256)) ∷ []) (byte_forms negative (size - (counter + 1)) (n / 256)))
