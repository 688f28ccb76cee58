-- Casts of the worked rows that speak of all words of a type.
use Rattle.std.proofs.Common.{◌≡◌, ℕ, zero, suc, ◌⊎◌, inl, inr, refl, true, false, Bool, [], ◌∷◌, arith, sym, subst, ⊎_elim, ◌==◌}
use Rattle.std.proofs.lemmas.List.Elements.{All-head, All-cons, All-nil}
use Rattle.tm_base.specs.declared.profile.Profile.TheVariants.{Le64}
use Rattle.tm_base.specs.declared.assume.Assume.{Assume}
use Rattle.tm_base.specs.declared.cell.Cell.TheVariants.{Byte, Uninit, Ptr}
use Rattle.tm_base.specs.declared.ground.Primitive.TheVariants as p
use Rattle.tm_base.specs.Cells.{Word, IsByte}
use Rattle.tm_base.specs.Expanded.{never}
use Rattle.tm_base.specs.Layout.{layout_of}
use Rattle.tm_base.specs.Orders.{list_less}
use Rattle.tm_base.specs.Transmutes.{Transmutes, Fits, IsSourceWord, holds}
use Rattle.tm_base.specs.Valid.{Valid, PrimValid}
use Rattle.tm_base.specs.ValidTest.{valid_test}
use Rattle.tm_base.proofs.rows.Types.{the_bool, u8, closed, either_bit}
use Rattle.tm_base.proofs.ValidTestLemmas.{valid_test-exact}

abbrev pub nothing : Assume
nothing = record { alignment = false; lifetimes = false; safety = false; validity = false }

abbrev pub validity_alone : Assume
validity_alone = record { alignment = false; lifetimes = false; safety = false; validity = true }

-- no two numbers
abbrev never_taken : ℕ → ℕ → Bool
never_taken x t = false

-- one byte that is at most 1 is 00 or 01
pub bit_word : (w : Word) → PrimValid Le64 p.Bool w → (w ≡ Byte 0 ∷ []) ⊎ (w ≡ Byte 1 ∷ [])
bit_word [] ((size, bytes), low) = absurd (omega arith)
bit_word (Byte zero ∷ []) ((size, bytes), low) = inl refl
bit_word (Byte (suc zero) ∷ []) ((size, bytes), low) = inr refl
bit_word (Byte (suc (suc b)) ∷ []) ((size, bytes), low) = absurd (omega arith)
bit_word (Uninit ∷ []) ((size, bytes), low) = absurd (All-head IsByte Uninit [] bytes)
bit_word (Ptr r k ∷ []) ((size, bytes), low) = absurd (All-head IsByte (Ptr r k) [] bytes)
bit_word (c ∷ d ∷ w) ((size, bytes), low) = absurd (omega arith)

pub two_is_no_bool : PrimValid Le64 p.Bool (Byte 2 ∷ []) → ⊥
two_is_no_bool ((size, bytes), low) = absurd (omega arith)

-- each of the two words is one of a union of 0 and 1
either_takes_zero : Fits (holds never_taken) false either_bit (Byte 0 ∷ [])
unfolding valid_test layout_of list_less
either_takes_zero = (valid_test-exact never_taken false either_bit (Byte 0 ∷ [])).0 refl

either_takes_one : Fits (holds never_taken) false either_bit (Byte 1 ∷ [])
unfolding valid_test layout_of list_less
either_takes_one = (valid_test-exact never_taken false either_bit (Byte 1 ∷ [])).0 refl

-- A `bool` may be taken as a union of 0 and 1: no one field takes all its words.
pub bool_to_either : Transmutes (holds never_taken) nothing the_bool either_bit
unfolding Valid
bool_to_either = inr (inl (
  refl,
  λ w value.
      ⊎_elim
      (λ (e : w ≡ Byte 0 ∷ []). subst (Fits (holds never_taken) false either_bit) (sym e) either_takes_zero)
      (λ (e : w ≡ Byte 1 ∷ []). subst (Fits (holds never_taken) false either_bit) (sym e) either_takes_one)
      (bit_word w value),
))

-- a source without values may be taken as anything, here as a `bool`
never_to_bool : Transmutes (holds never_taken) nothing never the_bool
unfolding Valid
never_to_bool = inl (λ w value. value)

-- the word 00 is one of `u8`
pub zero_byte : IsSourceWord u8 (Byte 0 ∷ [])
unfolding Valid
zero_byte = (refl, All-cons IsByte (Byte 0) [] (omega arith) (All-nil IsByte))

-- and so is 02
pub two_byte : IsSourceWord u8 (Byte 2 ∷ [])
unfolding Valid
two_byte = (refl, All-cons IsByte (Byte 2) [] (omega arith) (All-nil IsByte))

-- Under `validity` a private type is still closed: no word of it is met.
pub byte_to_closed : ¬ Transmutes (holds never_taken) validity_alone u8 closed
unfolding Valid
byte_to_closed (inl none) = none (Byte 0 ∷ []) zero_byte
byte_to_closed (inr (inl (e, every))) = cc
byte_to_closed (inr (inr (e, (w, value, (size, (opened, fields)))))) = cc

-- Private types keep their words in the source: one of them is 02, which is no `bool`.
pub closed_to_bool : ¬ Transmutes (holds never_taken) nothing closed the_bool
unfolding Valid valid_test layout_of list_less
closed_to_bool (inl none) = none (Byte 2 ∷ []) ((valid_test-exact (λ x t. x == t) true closed (Byte 2 ∷ [])).0 refl)
closed_to_bool (inr (inl (e, every))) =
    two_is_no_bool (every (Byte 2 ∷ []) ((valid_test-exact (λ x t. x == t) true closed (Byte 2 ∷ [])).0 refl))
closed_to_bool (inr (inr (e, other))) = cc
