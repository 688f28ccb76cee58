-- Reading a type, one level.
use Rattle.std.proofs.Common.{◌≡◌, ℕ, zero, suc, ◌+◌, ◌-◌, ◌<◌, ◌≤◌, refl, sym, ap, ◌∙◌, Bool, true, false, if◌then◌else◌, List, nat_lt, arith, lt-ltb, ltb-true, ltb-false}
use Rattle.tm_parse.specs.Combinators.{starts, read_marked}
use Rattle.tm_parse.specs.Events.{mark, a_type}
use Rattle.tm_parse.specs.Counting.{Fine, Passes, and_then, nodes_before, step, within}
use Rattle.tm_parse.specs.Parts.{Outcome, Stuck}
use Rattle.tm_parse.specs.Types.{type_at, type_first, type_part, SpellsType, read_type, one_level, too_deep}
use Rattle.tm_parse.specs.declared.counts.Counts.{Counts}
use Rattle.tm_base.specs.declared.limit.LimitKind.TheVariants as limit
use Rattle.tm_parse.specs.declared.parsed.Expr.{Expr}
use Rattle.tm_parse.specs.declared.terminal.Terminal.{Terminal}

-- a type with too many around it passes the limit
pub at_limit : (c : Counts) (depth : ℕ) → 32 ≤ depth → step c (mark (a_type depth)) ≡ Passes limit.Nesting
unfolding step
at_limit c depth l = ap (λ b. and_then (if b then Passes limit.Nesting else Fine c) (within limit.TypeNodes (nodes_before depth c + 1) (record c { nodes = nodes_before depth c + 1 })))
    (lt-ltb 32 (depth + 1) (omega arith))

pub type_fine : (c after : Counts) (depth : ℕ) → step c (mark (a_type depth)) ≡ Fine after → depth < 32
type_fine c after depth h = go (nat_lt depth 32) refl
  where
    go : (b : Bool) → nat_lt depth 32 ≡ b → depth < 32
    go true e = ltb-true depth 32 e
    go false e = absurd (let x = at_limit c depth (ltb-false depth 32 e) in cc)

-- no type begins
pub type_none : (d : ℕ) (n : Counts) (ts : List Terminal) → starts type_first ts ≡ false → (type_at d 0).read n ts ≡ Stuck ts
unfolding read_type
type_none d n ts h = go (32 - d)
  where
    go : (g : ℕ) → read_type d g n ts ≡ Stuck ts
    go zero = ap (λ b. too_deep b ts) h
    go (suc g) = ap (λ b. read_marked b (step n (mark (a_type d))) (one_level (type_part type_first (SpellsType (suc d) zero) (read_type (suc d) g))).read ts) h

-- a type begins, and what stands at its level is one level deeper
abbrev deeper : ℕ → ℕ → Counts → List Terminal → Outcome Expr
deeper d g n ts = read_marked true (step n (mark (a_type d))) (one_level (type_part type_first (SpellsType d zero) (read_type (d + 1) g))).read ts

pub type_here : (d : ℕ) (n : Counts) (ts : List Terminal) → starts type_first ts ≡ true
    → (type_at d 0).read n ts ≡ read_marked true (step n (mark (a_type d))) (one_level (type_at (d + 1) 0)).read ts
unfolding read_type
type_here d n ts h = go (32 - d) refl
  where
    go : (g : ℕ) → 32 - d ≡ g → read_type d g n ts ≡ deeper d (32 - (d + 1)) n ts
    go zero e = ap (λ b. too_deep b ts) h ∙ sym (ap (λ s. read_marked true s (one_level (type_at (d + 1) 0)).read ts) (at_limit n d (omega (arith, e))))
    go (suc g) e =
        let one_more : suc d ≡ d + 1 = omega arith in
        let less : g ≡ 32 - (d + 1) = omega (arith, e) in
        ap (λ b. read_marked b (step n (mark (a_type d))) (one_level (type_part type_first (SpellsType d zero) (read_type (suc d) g))).read ts) h
        ∙ ap (λ x. read_marked true (step n (mark (a_type d))) (one_level (type_part type_first (SpellsType d zero) (read_type x g))).read ts) one_more
        ∙ ap (λ y. deeper d y n ts) less
