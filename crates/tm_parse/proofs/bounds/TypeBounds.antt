-- In a type there are no more types than marks of types, and so no more than the limit allows.
use Rattle.std.proofs.Common.{◌≡◌, ℕ, zero, suc, ◌+◌, ◌-◌, ◌≤◌, refl, ap, subst, Bool, Option, Some, None, List, [], ◌∷◌, length, length-append, arith}
use Rattle.std.specs.List.{flat_map}
use Rattle.tm_base.specs.declared.ground.Primitive.{Primitive}
use Rattle.tm_base.specs.declared.ground.Wrapper.{Wrapper}
use Rattle.tm_parse.proofs.limits.Counters.{types, outermost, type_counter}
use Rattle.tm_parse.proofs.bounds.EachType.{KeepsTypes}
use Rattle.tm_parse.proofs.bounds.KeptByParts.{Keeps}
use Rattle.tm_parse.proofs.limits.Least.{Spells, AtLeast, total, total_if, any_least, fewer, to_least, seq_least, or_least, mark_least, listed_least, optional_least, lifetimes_then_least}
use Rattle.tm_parse.proofs.limits.Weights.{marked, behind_mark, counter_within}
use Rattle.tm_parse.proofs.limits.Without.{Without, behind_without, plain_without, level_without, type_without}
use Rattle.tm_parse.proofs.bounds.WrittenLemmas.{written-Prim, written-Never, written-Tuple, written-Array, written-NonZero, written-Wrap, written-Named, written-Ref}
use Rattle.tm_parse.specs.Bounds.{IsSmall}
use Rattle.tm_parse.specs.Combinators.{counts_as}
use Rattle.tm_parse.specs.Events.{a_type, Event, mark}
use Rattle.tm_parse.specs.Counting.{Within, count}
use Rattle.tm_parse.specs.Limits.{number_of}
use Rattle.tm_parse.specs.Shapes.{is_there, or_neither}
use Rattle.tm_parse.specs.Types.{wrapper_of, places, named_with, arguments, tuple_or_inner, behind_paren, plain_type, one_level, type_part, read_none, SpellsType}
use Rattle.tm_parse.specs.Written.{written}
use Rattle.tm_parse.specs.declared.counts.Counts.{Counts}
use Rattle.tm_parse.specs.declared.parsed.Expr.{Expr}
use Rattle.tm_parse.specs.declared.parsed.Expr.TheVariants as expr
use Rattle.tm_parse.specs.declared.terminal.Terminal.{Terminal}

abbrev nodes : Expr → ℕ
nodes t = length (written t)

-- those in a type, without itself
abbrev inside : Expr → ℕ
inside t = nodes t - 1

total-nodes : (ts : List Expr) → length (flat_map written ts) ≡ total nodes ts
total-nodes [] = refl
total-nodes (t ∷ ts) = let others = total-nodes ts in let all = length-append (written t) (flat_map written ts) in omega (arith, others, all)

inside-tuple : (ts : List Expr) → inside (expr.Tuple ts) ≤ total nodes ts
inside-tuple ts = let all = ap length (written-Tuple ts) in let same = total-nodes ts in omega (arith, all, same)

inside-paren : (t : Expr) (others : Option (Terminal × List Expr)) → inside (tuple_or_inner t others) ≤ nodes t + total_if (λ v. 0 + total nodes v.1) others
inside-paren t None = omega arith
inside-paren t (Some v) = let all = inside-tuple (t ∷ v.1) in omega (arith, all)

inside-prim : (p : Primitive) → inside (expr.Prim p) ≤ 0
inside-prim p = let all = ap length (written-Prim p) in omega (arith, all)

inside-never : inside expr.Never ≤ 0
inside-never = let all = ap length written-Never in omega (arith, all)

inside-array : (t : Expr) (n : ℕ) → inside (expr.Array t n) ≤ nodes t
inside-array t n = let all = ap length (written-Array t n) in omega (arith, all)

inside-ref : (lifetime : ℕ) (unique : Bool) (t : Expr) → inside (expr.Ref lifetime unique t) ≤ nodes t
inside-ref lifetime unique t = let all = ap length (written-Ref lifetime unique t) in omega (arith, all)

inside-nonzero : (p : Primitive) → inside (expr.NonZero p) ≤ 0
inside-nonzero p = let all = ap length (written-NonZero p) in omega (arith, all)

inside-wrap : (w : Wrapper) (t : Expr) → inside (expr.Wrap w t) ≤ nodes t
inside-wrap w t = let all = ap length (written-Wrap w t) in omega (arith, all)

inside-named : (t : Terminal) (given : List Terminal × List Expr) → inside (named_with t given) ≤ total nodes given.1
inside-named t given = let all = ap length (written-Named t.place (places given.0) given.1) in let same = total-nodes given.1 in omega (arith, all, same)

given-nodes : (given : Option (List Terminal × List Expr)) → total nodes (or_neither given).1 ≤ total_if (λ v. total nodes v.1) given
given-nodes None = omega arith
given-nodes (Some both) = omega arith

module _ {S : Spells Expr} (inner : AtLeast types nodes S) where
  behind-least : AtLeast types inside (behind_paren (type_part [] S read_none)).spells
  behind-least = or_least (to_least any_least (λ t. inside-tuple []))
      (to_least (seq_least inner (seq_least (optional_least (seq_least any_least (listed_least inner))) any_least)) (λ v. let all = inside-paren v.0 v.1.0 in omega (arith, all)))

  arguments-least : AtLeast types (λ v. total nodes v.1) (arguments (type_part [] S read_none)).spells
  arguments-least = to_least (seq_least any_least (seq_least (lifetimes_then_least {m = λ t. 0} any_least inner) any_least)) (λ v. omega arith)

  plain-least : AtLeast types inside (plain_type (type_part [] S read_none)).spells
  plain-least = or_least (to_least any_least (λ t. inside-prim _)) (or_least (to_least any_least (λ t. inside-never))
      (or_least (to_least (seq_least any_least (seq_least inner any_least)) (λ v. let all = inside-array v.1.0 (number_of v.1.1.1.0) in omega (arith, all)))
      (or_least (to_least (seq_least any_least (seq_least any_least (seq_least any_least inner))) (λ v. let all = inside-ref v.1.0.place (is_there v.1.1.0) v.1.1.1 in omega (arith, all)))
      (or_least (to_least any_least (λ v. inside-nonzero _)) (or_least (to_least any_least (λ t. inside-nonzero _))
      (or_least (to_least (seq_least any_least (to_least {n = nodes} (seq_least any_least (seq_least inner any_least)) (λ v. omega arith))) (λ v. let all = inside-wrap (wrapper_of v.0) v.1 in omega (arith, all)))
      (to_least (seq_least any_least (optional_least arguments-least)) (λ v. let all = inside-named v.0 (or_neither v.1) in let given = given-nodes v.1 in omega (arith, all, given)))))))))

  level-least : AtLeast types inside (one_level (type_part [] S read_none)).spells
  level-least = or_least (to_least (seq_least any_least behind-least) (λ v. omega arith)) plain-least

type-least : (n depth : ℕ) → AtLeast types nodes (SpellsType depth n)
unfolding SpellsType
type-least zero depth = record { least = λ v e h. absurd h }
type-least (suc n) depth = record { least = (fewer {n = nodes} (mark_least (level-least (type-least n (suc depth)))) (λ t. omega arith)).least }

-- an outermost type

deeper : (levels : ℕ) → Without outermost (SpellsType 1 levels)
deeper levels = type_without levels 1 below
  where
    below : (k : ℕ) → 1 ≤ k → outermost (a_type k) ≡ 0
    below zero l = absurd (omega arith)
    below (suc k) l = refl

module _ {Is : Terminal → Type 0} where
  outer : {P : Spells Expr} → AtLeast types inside P → Without outermost P → Keeps Is IsSmall (λ v e. (inner : List Event) × P v inner × (e ≡ mark (a_type 0) ∷ inner))
  outer {P = P} many none = record { kept = λ t e h good. small t h.0 good.before good.after h.1 (subst (λ e. count good.before e ≡ Within good.after) h.2 good.within) }
    where
      small : (t : Expr) (e : List Event) (c after : Counts) → P t e → count c (mark (a_type 0) ∷ e) ≡ Within after → IsSmall t
      small t e c after h within =
          let counts = behind_mark c after (a_type 0) e within in
          let all = many.least t e h in
          let few = counter_within type_counter (marked c (a_type 0)) after e counts.0 (none.none t e h) counts.1 in
          record { nodes = omega (arith, all, few) }

  module _ (levels : ℕ) where
    plain-small : Keeps Is IsSmall (counts_as (a_type 0) (plain_type (type_part [] (SpellsType 1 levels) read_none))).spells
    plain-small = outer (plain-least (type-least levels 1)) (plain_without (deeper levels))

    behind-small : Keeps Is IsSmall (counts_as (a_type 0) (behind_paren (type_part [] (SpellsType 1 levels) read_none))).spells
    behind-small = outer (behind-least (type-least levels 1)) (behind_without (deeper levels))

    level-small : Keeps Is IsSmall (counts_as (a_type 0) (one_level (type_part [] (SpellsType 1 levels) read_none))).spells
    level-small = outer (level-least (type-least levels 1)) (level_without (deeper levels))

  type-small : (levels : ℕ) → Keeps Is IsSmall (SpellsType 0 levels)
  unfolding SpellsType
  type-small zero = record { kept = λ v e h good. absurd h }
  type-small (suc levels) = record { kept = (level-small levels).kept }

  pub keeps_small : KeepsTypes Is IsSmall
  keeps_small = record { whole = type-small; plain = plain-small; behind = behind-small }
