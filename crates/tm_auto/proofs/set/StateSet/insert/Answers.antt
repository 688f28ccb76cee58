use Rattle.std.proofs.Common.{◌≡◌, sym, subst, List, ℕ, Result, Ok, Err, OnOk, OnErr, insert}
use Rattle.std.specs.List.Sorted.{IsStrictlyIncreasing}
use Rattle.smallvec.specs.SmallVec.{SmallVec}
use Rattle.tm_auto.specs.Sets.{with_state}
use Rattle.tm_auto.proofs.SetLemmas.{with_state-IsStrictlyIncreasing}
use Rattle.tm_auto.proofs.set.StateSet.insert.Goals as goal

either : {T E : Type 0} (r : Result T E) (new old : SmallVec ℕ) (xs : List ℕ) → OnOk r (new.items ≡ xs) → OnErr r (new ≡ old) → IsStrictlyIncreasing xs → IsStrictlyIncreasing old.items → IsStrictlyIncreasing new.items
either (Ok x) new old xs e f p q = subst IsStrictlyIncreasing (sym e) p
either (Err x) new old xs e f p q = subst (λ (v : SmallVec ℕ). IsStrictlyIncreasing v.items) (sym f) q

pub invariant_of-self : goal.invariant_of-self
invariant_of-self c =
    let old = c.self.inside.states.items in
    let put : insert old c.in-Some.place c.args.state ≡ with_state c.args.state old = rw c.as_slice.ensures at c.in-Some.ensures.place in
    either c.insert.result c.insert.new.self c.self.inside.states (insert old c.in-Some.place c.args.state) c.insert.ensures.ok c.insert.ensures.err
    (subst IsStrictlyIncreasing (sym put) (with_state-IsStrictlyIncreasing c.args.state old c.self.invariant)) c.self.invariant
