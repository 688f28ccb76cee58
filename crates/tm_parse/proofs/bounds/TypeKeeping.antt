-- What is kept of each type that is written in another.
use Rattle.std.proofs.Common.{◌≡◌, ◌≤◌, ℕ, zero, suc, sym, subst, Bool, true, Option, Some, None, IfSome, List, [], ◌∷◌, All}
use Rattle.std.proofs.lemmas.List.Elements.{All-nil, All-cons, All-append, All-head, All-tail}
use Rattle.std.specs.List.{flat_map}
use Rattle.tm_base.specs.declared.ground.Primitive.{Primitive}
use Rattle.tm_base.specs.declared.ground.Wrapper.{Wrapper}
use Rattle.tm_parse.proofs.bounds.EachType.{KeepsTypes}
use Rattle.tm_parse.proofs.bounds.KeptByParts.{Keeps, skipped, word_keeps, one_keeps, to_keeps, seq_keeps, or_keeps, mark_keeps, listed_keeps, optional_keeps, KeptTwo, kept-neither, lifetimes_then_keeps}
use Rattle.tm_parse.proofs.bounds.Lengths.{length_keeps}
use Rattle.tm_parse.proofs.limits.Least.{Spells}
use Rattle.tm_parse.proofs.bounds.WrittenLemmas.{written-Prim, written-Never, written-Tuple, written-Array, written-NonZero, written-Wrap, written-Named, written-Ref}
use Rattle.tm_parse.specs.Bounds.{EachWritten}
use Rattle.tm_parse.specs.Classes.{among}
use Rattle.tm_base.specs.Limits.{limit_number}
use Rattle.tm_parse.specs.Shapes.{or_neither}
use Rattle.tm_parse.specs.Types.{integer, alias, primitive_of, places, named_with, arguments, tuple_or_inner, behind_paren, plain_type, one_level, type_part, read_none, SpellsType}
use Rattle.tm_parse.specs.Written.{written}
use Rattle.tm_base.specs.declared.limit.LimitKind.TheVariants as limit
use Rattle.tm_parse.specs.declared.parsed.Expr.{Expr}
use Rattle.tm_parse.specs.declared.parsed.Expr.TheVariants as expr
use Rattle.tm_parse.specs.declared.terminal.Terminal.{Terminal}

-- what is kept of each kind of type, whatever is written in it
pub record KeepsKinds (Is : Terminal → Type 0) (K : Expr → Type 0) : Type 0 where
  pub prim : (p : Primitive) → K (expr.Prim p)
  pub never : K expr.Never
  pub tuple : (ts : List Expr) → K (expr.Tuple ts)
  pub array : (t : Expr) (n : ℕ) → n ≤ limit_number limit.ArrayLength → K (expr.Array t n)
  pub wrap : (w : Wrapper) (t : Expr) → K (expr.Wrap w t)
  pub ref : (t : Terminal) (unique : Bool) (inner : Expr) → Is t → K (expr.Ref t.place unique inner)
  pub nonzero : (t : Terminal) → among (integer ∷ []) t.class ≡ true → Is t → K (expr.NonZero (primitive_of t))
  pub aliased : (t : Terminal) → among (alias ∷ []) t.class ≡ true → Is t → K (expr.NonZero (primitive_of t))
  pub named : (t : Terminal) (lifetimes : List Terminal) (ts : List Expr) → Is t → All Is lifetimes → K (expr.Named t.place (places lifetimes) ts)

module _ (Is : Terminal → Type 0) (K : Expr → Type 0) (kinds : KeepsKinds Is K) where
  abbrev Each : Expr → Type 0
  Each = EachWritten K

  -- a type in which none is written but itself, and one around others
  alone : (t : Expr) → written t ≡ t ∷ [] → K t → Each t
  alone t e h = record { each = subst (All K) (sym e) (All-cons K t [] h (All-nil K)) }

  around : (t : Expr) (ts : List Expr) → written t ≡ t ∷ ts → K t → All K ts → Each t
  around t ts e h others = record { each = subst (All K) (sym e) (All-cons K t ts h others) }

  all-written : (ts : List Expr) → All Each ts → All K (flat_map written ts)
  all-written [] h = All-nil K
  all-written (t ∷ ts) h = All-append K (written t) (flat_map written ts) (All-head Each t ts h).each (all-written ts (All-tail Each t ts h))

  tuple : (ts : List Expr) → All Each ts → Each (expr.Tuple ts)
  tuple ts h = around (expr.Tuple ts) (flat_map written ts) (written-Tuple ts) (kinds.tuple ts) (all-written ts h)

  tuple-or : (t : Expr) (others : Option (Terminal × List Expr)) → Each t → IfSome others (λ v. Unit {0} × All Each v.1) → Each (tuple_or_inner t others)
  tuple-or t None h k = h
  tuple-or t (Some v) h k = tuple (t ∷ v.1) (All-cons Each t v.1 h k.1)

  nonzero : (t : Terminal) → K (expr.NonZero (primitive_of t)) → Each (expr.NonZero (primitive_of t))
  nonzero t h = alone (expr.NonZero (primitive_of t)) (written-NonZero (primitive_of t)) h

  named : (t : Terminal) (given : List Terminal × List Expr) → Is t → KeptTwo Is Each given → Each (named_with t given)
  named t given h k = around (named_with t given) (flat_map written given.1) (written-Named t.place (places given.0) given.1) (kinds.named t given.0 given.1 h k.0) (all-written given.1 k.1)

  module _ {S : Spells Expr} (inner : Keeps Is Each S) where
    behind-keeps : Keeps Is Each (behind_paren (type_part [] S read_none)).spells
    behind-keeps = or_keeps (to_keeps skipped (λ v k. tuple [] (All-nil Each)))
        (to_keeps (seq_keeps inner (seq_keeps (optional_keeps (seq_keeps skipped (listed_keeps inner))) skipped)) (λ v k. tuple-or v.0 v.1.0 k.0 k.1.0))

    arguments-keep : Keeps Is (KeptTwo Is Each) (arguments (type_part [] S read_none)).spells
    arguments-keep = to_keeps (seq_keeps skipped (seq_keeps (lifetimes_then_keeps word_keeps inner) skipped)) (λ v k. k.1.0)

    plain-keeps : Keeps Is Each (plain_type (type_part [] S read_none)).spells
    plain-keeps = or_keeps (to_keeps skipped (λ v k. alone _ (written-Prim _) (kinds.prim _))) (or_keeps (to_keeps skipped (λ v k. alone _ written-Never kinds.never))
        (or_keeps (to_keeps (seq_keeps skipped (seq_keeps inner (seq_keeps skipped (seq_keeps length_keeps skipped)))) (λ v k. around _ (written v.1.0) (written-Array v.1.0 _) (kinds.array v.1.0 _ k.1.1.1.0) k.1.0.each))
        (or_keeps (to_keeps (seq_keeps skipped (seq_keeps word_keeps (seq_keeps skipped inner))) (λ v k. around _ (written v.1.1.1) (written-Ref _ _ v.1.1.1) (kinds.ref v.1.0 _ v.1.1.1 k.1.0) k.1.1.1.each))
        (or_keeps (to_keeps (seq_keeps skipped (to_keeps {L = λ t. K (expr.NonZero (primitive_of t))} (seq_keeps skipped (seq_keeps (one_keeps (integer ∷ []) kinds.nonzero) skipped)) (λ v k. k.1.0))) (λ v k. nonzero v.1 k.1))
        (or_keeps (to_keeps (one_keeps (alias ∷ []) {K = λ t. K (expr.NonZero (primitive_of t))} kinds.aliased) nonzero)
        (or_keeps (to_keeps (seq_keeps skipped (to_keeps {L = Each} (seq_keeps skipped (seq_keeps inner skipped)) (λ v k. k.1.0))) (λ v k. around _ (written v.1) (written-Wrap _ v.1) (kinds.wrap _ v.1) k.1.each))
        (to_keeps (seq_keeps word_keeps (optional_keeps arguments-keep)) (λ v k. named v.0 (or_neither v.1) k.0 (kept-neither Is Each v.1 k.1)))))))))

    level-keeps : Keeps Is Each (one_level (type_part [] S read_none)).spells
    level-keeps = or_keeps (to_keeps (seq_keeps skipped behind-keeps) (λ v k. k.1)) plain-keeps

  type-keeps : (levels depth : ℕ) → Keeps Is Each (SpellsType depth levels)
  unfolding SpellsType
  type-keeps zero depth = record { kept = λ v e h good. absurd h }
  type-keeps (suc levels) depth = record { kept = (mark_keeps (level-keeps (type-keeps levels (suc depth)))).kept }

  pub keeps_written : KeepsTypes Is (EachWritten K)
  keeps_written = record {
    whole = λ levels. type-keeps levels 0;
    plain = λ levels. mark_keeps (plain-keeps (type-keeps levels 1));
    behind = λ levels. mark_keeps (behind-keeps (type-keeps levels 1));
  }
