-- Spellings of a part, at any greater depth.
use Rattle.std.proofs.Common.{ℕ, zero, suc, ◌+◌, subst, List, arith}
use Rattle.tm_parse.proofs.grammar.Lawful.{Form}
use Rattle.tm_parse.specs.Events.{Event}
use Rattle.tm_parse.specs.Parts.{Part}

module _ {V : Type 0} (P : ℕ → Part V) (p : Form P) (v : V) (e : List Event) where
  pub deeper : (n m : ℕ) → (P n).spells v e → (P (n + m)).spells v e
  deeper n zero h = subst (λ k. (P k).spells v e) (omega arith) h
  deeper n (suc m) h = subst (λ k. (P k).spells v e) (omega arith) (p.grow (n + m) v e (deeper n m h))

  pub deeper-too : (n m : ℕ) → (P m).spells v e → (P (n + m)).spells v e
  deeper-too n m h = subst (λ k. (P k).spells v e) (omega arith) (deeper m n h)
