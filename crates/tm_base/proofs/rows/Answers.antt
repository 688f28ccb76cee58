-- Answers to worked questions, each shown to be the one to give.
use Rattle.std.proofs.Common.{◌≡◌, ℕ, zero, suc, ◌+◌, ◌⊎◌, inl, inr, refl, subst, false, None, [], ◌∷◌, take, arith}
use Rattle.std.proofs.lemmas.Bool.Decides.{nat_tests}
use Rattle.std.proofs.lemmas.List.Elements.{All-cons, All-nil}
use Rattle.tm_base.specs.declared.profile.Profile.TheVariants.{Le64}
use Rattle.tm_base.specs.declared.answer.Answer.TheVariants.{No, NoAt}
use Rattle.tm_base.specs.declared.answer.Rule.TheVariants.{ByteValue, TargetUninhabited}
use Rattle.tm_base.specs.declared.ask.Ask.{Ask}
use Rattle.tm_base.specs.declared.cell.Cell.TheVariants.{Byte, Uninit, Ptr}
use Rattle.tm_base.specs.declared.ground.Ground.{Ground, out-Ground, Prim, Never}
use Rattle.tm_base.specs.declared.ground.Primitive.TheVariants as p
use Rattle.tm_base.specs.Answers.{IsAnswer}
use Rattle.tm_base.specs.Cells.{Word, fit, IsByte}
use Rattle.tm_base.specs.Compatible.{Compatible}
use Rattle.tm_base.specs.Expanded.{expanded_within, never}
use Rattle.tm_base.specs.Faults.{fault_of, is_nullable}
use Rattle.tm_base.specs.Layout.{layout_of}
use Rattle.tm_base.specs.Orders.{list_less, word_less}
use Rattle.tm_base.specs.Parts.{some_part}
use Rattle.tm_base.specs.Reaches.{IsJudged, Enters}
use Rattle.tm_base.specs.Tables.{Tables, expanded_in}
use Rattle.tm_base.specs.Transmutes.{Transmutes}
use Rattle.tm_base.specs.Valid.{Valid, PrimValid}
use Rattle.tm_base.specs.Viable.{Viable}
use Rattle.tm_base.specs.Weight.{weight_of}
use Rattle.tm_base.proofs.JudgedLemmas.{IsJudged-from, Contains-none}
use Rattle.tm_base.proofs.rows.Casts.{nothing, two_byte, zero_byte}
use Rattle.tm_base.proofs.rows.References.{byte_to_bool}
use Rattle.tm_base.proofs.rows.Types.{u8, the_bool}

abbrev no_tables : Tables
no_tables = record { profile = Le64; defs = []; regions = []; bounds = []; named = []; refs = [] }

-- a type that holds nothing and isn't at fault
abbrev IsPlain : Ground → Type 0
IsPlain g = (g ≡ Prim p.U8) ⊎ (g ≡ Prim p.Bool) ⊎ (g ≡ Never)

plain-closed : (g h : Ground) → IsPlain g → Enters no_tables g h → IsPlain h
unfolding out-Ground denote.Hole.Carrier.out
plain-closed g h (inl e) step = absurd (Contains-none h (subst (λ (x : Ground). Enters no_tables x h) e step))
plain-closed g h (inr (inl e)) step = absurd (Contains-none h (subst (λ (x : Ground). Enters no_tables x h) e step))
plain-closed g h (inr (inr e)) step = absurd (Contains-none h (subst (λ (x : Ground). Enters no_tables x h) e step))

plain-sound : (g : Ground) → IsPlain g → fault_of (expanded_in no_tables g) ≡ None
unfolding expanded_within out-Ground denote.Hole.Carrier.out fault_of some_part is_nullable weight_of layout_of
plain-sound g (inl e) = rw e refl
plain-sound g (inr (inl e)) = rw e refl
plain-sound g (inr (inr e)) = rw e refl

plain-judged : (g : Ground) → IsPlain g → IsJudged no_tables g
plain-judged = IsJudged-from no_tables IsPlain plain-closed plain-sound

-- `ask u8 => bool`
abbrev byte_as_bool : Ask
byte_as_bool = record { src = Prim p.U8; dst = Prim p.Bool; assume = nothing }

bool_zero : PrimValid Le64 p.Bool (Byte 0 ∷ [])
bool_zero = ((refl, All-cons IsByte (Byte 0) [] (omega arith) (All-nil IsByte)), omega arith)

bool_one : PrimValid Le64 p.Bool (Byte 1 ∷ [])
bool_one = ((refl, All-cons IsByte (Byte 1) [] (omega arith) (All-nil IsByte)), omega arith)

no_bool_begins_with_two : (rest : Word) → PrimValid Le64 p.Bool (Byte 2 ∷ rest) → ⊥
no_bool_begins_with_two rest ((size, bytes), low) = absurd (omega arith)

-- a byte that no `bool` begins with isn't less than 02
not_below_two : (w : Word) → PrimValid Le64 p.U8 w → (Viable (Compatible no_tables nothing) false the_bool (take 1 (fit w 1)) → ⊥) → word_less w (Byte 2 ∷ []) ≡ false
unfolding list_less Valid
not_below_two [] (size, bytes) stops = absurd (omega arith)
not_below_two (Byte zero ∷ []) (size, bytes) stops = absurd (stops ([], bool_zero))
not_below_two (Byte (suc zero) ∷ []) (size, bytes) stops = absurd (stops ([], bool_one))
not_below_two (Byte (suc (suc b)) ∷ []) (size, bytes) stops = grind (arith, nat_tests)
not_below_two (Uninit ∷ []) (size, bytes) stops = refl
not_below_two (Ptr r k ∷ []) (size, bytes) stops = refl
not_below_two (c ∷ d ∷ w) (size, bytes) stops = absurd (omega arith)

pub byte_as_bool-answer : IsAnswer no_tables byte_as_bool (NoAt ByteValue 0 (Byte 2 ∷ []) None)
unfolding expanded_within out-Ground denote.Hole.Carrier.out layout_of Valid
byte_as_bool-answer = record {
  is_true = record {
    judged = record { source_judged = plain-judged (Prim p.U8) (inl refl); target_judged = plain-judged (Prim p.Bool) (inr (inl refl)) };
    refused = byte_to_bool (Compatible no_tables nothing);
    unassumed = refl;
    has_word = (Byte 0 ∷ [], bool_zero);
    value = two_byte;
    offset = record { goes_to = (Byte 0 ∷ [], bool_zero); stops = λ (rest, valid). no_bool_begins_with_two rest valid };
    rule_holds = inr (omega arith, inl (refl, (0, ([], bool_zero)), refl));
  };
  is_least = (
    λ v p value refused. (omega arith, λ e. not_below_two v value (subst (λ (n : ℕ). Viable (Compatible no_tables nothing) false the_bool (take (n + 1) (fit v 1)) → ⊥) e refused.stops)),
    tt,
  );
}

byte_to_never : (A : ℕ → ℕ → Type 0) → ¬ Transmutes A nothing u8 never
unfolding Valid layout_of
byte_to_never A (inl none) = none (Byte 0 ∷ []) zero_byte
byte_to_never A (inr (inl (e, every))) = every (Byte 0 ∷ []) zero_byte
byte_to_never A (inr (inr (e, other))) = cc

-- `ask u8 => !`
pub byte_as_never-answer : IsAnswer no_tables (record { src = Prim p.U8; dst = Never; assume = nothing }) (No TargetUninhabited)
unfolding expanded_within out-Ground denote.Hole.Carrier.out layout_of Valid
byte_as_never-answer = record {
  is_true = record {
    judged = record { source_judged = plain-judged (Prim p.U8) (inl refl); target_judged = plain-judged Never (inr (inr refl)) };
    refused = byte_to_never (Compatible no_tables nothing);
    rule_holds = λ (w, valid). valid;
  };
  is_least = tt;
}
