-- The laws of a part with the same reader as another, which spells the same at some depth.
use Rattle.std.proofs.Common.{◌≡◌, ℕ, zero, sym, ◌∙◌, subst, true, false, List}
use Rattle.tm_parse.proofs.reading.AgreeingReaders.{mapped-same, spelling, begun, carried}
use Rattle.tm_parse.proofs.grammar.Lawful.{Clear, Form, IsRight, Laws}
use Rattle.tm_parse.specs.Classes.{among}
use Rattle.tm_parse.specs.Events.{Event}
use Rattle.tm_parse.specs.Parts.{Part}
use Rattle.tm_parse.specs.declared.counts.Counts.{Counts}
use Rattle.tm_parse.specs.declared.terminal.Terminal.{Terminal}

pub widened : {V : Type 0} (P Q : ℕ → Part V) → Laws P → Form Q
    → ((n : ℕ) (v : V) (e : List Event) → (P n).spells v e → (m : ℕ) × (Q m).spells v e)
    → ((n : ℕ) (v : V) (e : List Event) → (Q n).spells v e → (m : ℕ) × (P m).spells v e)
    → ((c : Counts) (ts : List Terminal) → (Q zero).read c ts ≡ (P zero).read c ts)
    → ((t : Terminal) → among (Q zero).first t.class ≡ true → among (P zero).first t.class ≡ true)
    → ((z : List Terminal) → Clear (Q zero).bars z → Clear (P zero).bars z)
    → (Q zero).empty ≡ false → Laws Q
widened P Q p form up down read first clear filled = record {
  form = form;
  some = spelling (λ v. v) P Q up p.some;
  none = λ h. absurd (let x : true ≡ false = sym h ∙ filled in cc);
  begins = λ t h. begun (λ v. v) P Q up t (p.begins t (first t h));
  reads = λ n v e c z h k. let d = down n v e h in read c _ ∙ p.reads d.0 v e c z d.1 (clear z k);
  right = λ c ts. subst (IsRight Q c ts) (mapped-same ((P zero).read c ts) ∙ sym (read c ts))
      (carried (λ v. v) P Q up c ts (λ o s. read c o ∙ sym (mapped-same ((P zero).read c o))) ((P zero).read c ts) (p.right c ts));
}
