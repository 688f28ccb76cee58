use Rattle.std.proofs.Common.{rules, ℕ, ◌≡◌, ◌∙◌, ◌<◌, ap, get_or, length, List, Option, None, Some, slice_get, refl, subst, sym}
use Rattle.std.proofs.lemmas.Option.{slice_get-get_or, slice_get_within}
use Rattle.tm_base.specs.declared.assume.Assume.{Assume}
use Rattle.tm_base.specs.Tables.{Tables}
use Rattle.tm_base.specs.Worlds.{tables_of}
use Rattle.tm_refs.specs.declared.compat.Compat.{Compat}
use Rattle.tm_refs.specs.Solved.{IsSolvedFor}
use Rattle.tm_refs.proofs.ServesLemmas.{solved-serves}
use Rattle.tm_run.specs.Courts.{IsTableFor}
use Rattle.tm_run.proofs.court.Court.answer.Goals as goal

-- a table stands at the place
within : (tables : Tables) (assume : Assume) (all : List Compat) (k : ℕ) (found : Option Compat) → slice_get all k ≡ found → IsTableFor tables assume found → k < length all
within tables assume all k None at is = absurd is
within tables assume all k (Some table) at is = slice_get_within all k table at

-- and it is the one that stands there
solved_at : (tables : Tables) (assume : Assume) (all : List Compat) (k : ℕ) (table : Compat) → table ≡ get_or all k table → IsTableFor tables assume (slice_get all k) → IsSolvedFor tables assume table
solved_at tables assume all k table at is =
    let below = within tables assume all k (slice_get all k) refl is in
    subst (IsTableFor tables assume) (slice_get-get_or all k table below ∙ ap (λ (t : Compat). Some t) (sym at)) is

pub judge_values-requires-clause-serves : goal.judge_values-requires-clause-serves
judge_values-requires-clause-serves g c =
    c.empty-empty.ensures (tables_of c.self.inside.world.now) c.args.ask.now.dst
    (λ holds. cc (c.holds_reference.ensures.1 holds, c.if-not-holds_reference.true))

pub index-requires : goal.index-requires
index-requires g c =
    let inside = within (tables_of c.self.inside.world.now) c.args.ask.now.assume c.place_for.new.solved.items c.in_ok-place.place _ refl c.in_ok-place.ensures.place in
    search rules

pub judge_values-requires-2-clause-serves : goal.judge_values-requires-2-clause-serves
judge_values-requires-2-clause-serves g c =
    let tables = tables_of c.self.inside.world.now in
    let assume = c.args.ask.now.assume in
    solved-serves tables assume c.args.ask.now.dst c.index.result.now
    (solved_at tables assume c.place_for.new.solved.items c.in_ok-place.place c.index.result.now c.index.ensures c.in_ok-place.ensures.place)
