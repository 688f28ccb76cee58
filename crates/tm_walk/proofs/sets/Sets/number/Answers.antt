use Rattle.std.proofs.Common.{◌∙◌, sym, inr}
use Rattle.tm_walk.proofs.NumberLemmas.{number_found, only_number, added_is, added_numbered, added_sets, added_number}
use Rattle.tm_walk.proofs.sets.Sets.number.Goals as goal

pub returns-in-Some-clause-number : goal.returns-in-Some-clause-number
returns-in-Some-clause-number c =
    let at = number_found c.self.inside.numbers.entries c.self.invariant c.args.set _ c.as_slice.ensures.states c.in-Some.number (sym c.get_index_of.ensures.index ∙ c.in-Some.is) in
    rw (← c.self.view_is) at

pub returns-in-Some-clause-only : goal.returns-in-Some-clause-only
returns-in-Some-clause-only c =
    let at = number_found c.self.inside.numbers.entries c.self.invariant c.args.set _ c.as_slice.ensures.states c.in-Some.number (sym c.get_index_of.ensures.index ∙ c.in-Some.is) in
    rw (← c.self.view_is) (λ k h. only_number c.self.inside.numbers.entries c.self.invariant k c.in-Some.number c.args.set h at)

pub invariant_of-self-2 : goal.invariant_of-self-2
invariant_of-self-2 c =
    let rows = c.self.inside.numbers.entries in
    let absent = sym c.get_index_of.ensures.index ∙ c.in-None.is in
    let key = c.in_ok-states.ensures.items ∙ c.as_slice-2.ensures.states ∙ sym c.as_slice.ensures.states in
    let e = c.in_ok-insert.ensures.entries ∙ added_is rows c.self.invariant c.args.set _ c.as_slice.ensures.states c.in_ok-states.states key absent in
    rw e (added_numbered rows c.self.invariant c.args.set _ c.as_slice.ensures.states c.in_ok-states.states key absent)

pub returns-clause-number : goal.returns-clause-number
returns-clause-number c =
    let rows = c.self.inside.numbers.entries in
    let absent = sym c.get_index_of.ensures.index ∙ c.in-None.is in
    let key = c.in_ok-states.ensures.items ∙ c.as_slice-2.ensures.states ∙ sym c.as_slice.ensures.states in
    let e = c.in_ok-insert.ensures.entries ∙ added_is rows c.self.invariant c.args.set _ c.as_slice.ensures.states c.in_ok-states.states key absent in
    rw (e, c.len-number.ensures.len) (added_number rows c.self.invariant c.args.set _ c.as_slice.ensures.states c.in_ok-states.states)

pub returns-clause-only : goal.returns-clause-only
returns-clause-only c =
    let rows = c.self.inside.numbers.entries in
    let absent = sym c.get_index_of.ensures.index ∙ c.in-None.is in
    let key = c.in_ok-states.ensures.items ∙ c.as_slice-2.ensures.states ∙ sym c.as_slice.ensures.states in
    let e = c.in_ok-insert.ensures.entries ∙ added_is rows c.self.invariant c.args.set _ c.as_slice.ensures.states c.in_ok-states.states key absent in
    let n = added_numbered rows c.self.invariant c.args.set _ c.as_slice.ensures.states c.in_ok-states.states key absent in
    let at = added_number rows c.self.invariant c.args.set _ c.as_slice.ensures.states c.in_ok-states.states in
    rw (e, c.len-number.ensures.len) (λ k h. only_number _ n k _ c.args.set h at)

pub returns-clause-grown : goal.returns-clause-grown
returns-clause-grown c =
    let rows = c.self.inside.numbers.entries in
    let absent = sym c.get_index_of.ensures.index ∙ c.in-None.is in
    let key = c.in_ok-states.ensures.items ∙ c.as_slice-2.ensures.states ∙ sym c.as_slice.ensures.states in
    let e = c.in_ok-insert.ensures.entries ∙ added_is rows c.self.invariant c.args.set _ c.as_slice.ensures.states c.in_ok-states.states key absent in
    inr (rw (e, ← c.self.view_is) (added_sets rows c.self.invariant c.args.set _ c.as_slice.ensures.states c.in_ok-states.states))
