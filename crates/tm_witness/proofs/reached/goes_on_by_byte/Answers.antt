use Rattle.std.proofs.Common.{sym, ap, ◌∙◌, subst, refl, get_or, ℕ, List, Contains}
use Rattle.std.proofs.lemmas.List.Elements.{Contains-get_or}
use Rattle.tm_witness.specs.Search.{some_takes_bytes}
use Rattle.tm_witness.proofs.SearchLemmas.{byte-found, byte-at, byte-none}
use Rattle.tm_witness.proofs.reached.goes_on_by_byte.Goals as goal

pub edges-requires : goal.edges-requires
edges-requires c =
    let items = c.as_slice-state-items.result.now in
    let at = c.loop-state.state-index in
    c.requires (get_or items at 0) (subst (λ (states : List ℕ). Contains states (get_or items at 0)) c.as_slice-state-items.ensures.states (Contains-get_or items at 0 c.loop-state-test.true))

pub returns-then-some_takes_bytes : goal.returns-then-some_takes_bytes
returns-then-some_takes_bytes c =
    let items = c.as_slice-state-items.result.now in
    let es = c.args.auto.now.edges in
    let here = byte-at es items c.loop-state.state-index c.loop-state-test.true (cc) in
    let all = sym (ap (some_takes_bytes es) c.as_slice-state-items.ensures.states) ∙ sym c.loop-state.invariant ∙ here in
    (λ _. (byte-found c.args.auto.now c.args.states.now).0 all, λ _. refl)

pub returns : goal.returns
returns c =
    let items = c.as_slice-state-items.result.now in
    let es = c.args.auto.now.edges in
    let none = byte-none es items c.loop-state.state-index c.loop-state-test.false in
    let all = sym (ap (some_takes_bytes es) c.as_slice-state-items.ensures.states) ∙ sym c.loop-state.invariant ∙ none in
    (λ h. cc, λ goes. cc (all, (byte-found c.args.auto.now c.args.states.now).1 goes))
