-- Each definition has no more parts of each sort than the limits allow.
use Rattle.std.proofs.Common.{◌≡◌, ℕ, ◌≤◌, sym, ap, ◌∙◌, subst, Bool, Option, Some, None, List, [], ◌∷◌, ◌++◌, length, length-append, append-nil, arith, ◌⊎◌, inl, inr}
use Rattle.tm_base.specs.declared.definition.Kind.{Kind}
use Rattle.tm_base.specs.declared.definition.Kind.TheVariants as kind
use Rattle.tm_parse.proofs.limits.Counters.{definitions, parameters, type_parameters, fields, variants, parameter_counter, type_parameter_counter, field_counter, variant_counter}
use Rattle.tm_parse.proofs.limits.DefinitionMarks.{parameters_without, struct_without, union_without, enum_without}
use Rattle.tm_parse.proofs.bounds.KeptByParts.{Keeps, skipped, to_keeps, seq_keeps, or_keeps}
use Rattle.tm_parse.proofs.limits.Least.{Spells, AtLeast, total, total_if, total-one, total-places, any_least, fewer, to_least, seq_least, or_least, mark_least, listed_least, listed1_least, optional_least, lifetimes_then_least}
use Rattle.tm_parse.proofs.limits.Weights.{weigh, weigh-append, marked, behind_mark, counter_within}
use Rattle.tm_parse.proofs.limits.Without.{Without, one_without, seq_without}
use Rattle.tm_parse.specs.Bounds.{fields_of, HasFewParts}
use Rattle.tm_parse.specs.Definitions as d
use Rattle.tm_parse.specs.Events.{a_definition, Event, mark}
use Rattle.tm_parse.specs.Counting.{Within, count}
use Rattle.tm_parse.specs.Combinators.{◌>>◌}
use Rattle.tm_parse.specs.Parts.{Part}
use Rattle.tm_parse.specs.Shapes.{any, the, or_neither}
use Rattle.tm_parse.specs.Types.{definition_names, or_none, places}
use Rattle.tm_parse.specs.declared.class.Class.{Class}
use Rattle.tm_parse.specs.declared.class.Class.TheVariants as c
use Rattle.tm_parse.specs.declared.counts.Counts.{Counts}
use Rattle.tm_parse.specs.declared.parsed.Decl.{Decl}
use Rattle.tm_parse.specs.declared.parsed.DeclField.{DeclField}
use Rattle.tm_parse.specs.declared.parsed.DeclRepr.{DeclRepr}
use Rattle.tm_parse.specs.declared.parsed.DeclVariant.{DeclVariant}
use Rattle.tm_parse.specs.declared.terminal.Terminal.{Terminal}

-- parameters and fields are counted, each by a mark

length-or-none : {V : Type 0} (n : V → ℕ) (vs : Option (List V)) → ((vs : List V) → length vs ≤ total n vs) → length (or_none vs) ≤ total_if (total n) vs
length-or-none n None all = omega arith
length-or-none n (Some vs) all = all vs

ones : {V : Type 0} (vs : List V) → length vs ≤ total (λ v. 1) vs
ones vs = let all = total-one vs in omega (arith, all)

parameters-least : AtLeast parameters (λ v. length v.0) (d.parameters).spells
parameters-least = to_least (optional_least (to_least {n = λ v. total (λ t. 1) v.0} (seq_least any_least (seq_least (lifetimes_then_least {n = λ t. 0} (fewer {n = λ t. 1} (mark_least any_least) (λ t. omega arith)) any_least) any_least)) (λ v. omega arith))) some
  where
    some : (v : Option (List Terminal × List Terminal)) → length (places (or_neither v).0) ≤ total_if (λ v. total (λ t. 1) v.0) v
    some None = omega arith
    some (Some v) = let all = total-one v.0 in let same = total-places v.0 in omega (arith, all, same)

type-parameters-least : AtLeast type_parameters (λ v. length v.1) (d.parameters).spells
type-parameters-least = to_least (optional_least (to_least {n = λ v. total (λ t. 1) v.1} (seq_least any_least (seq_least (lifetimes_then_least {m = λ t. 0} any_least (fewer {n = λ t. 1} (mark_least any_least) (λ t. omega arith))) any_least)) (λ v. omega arith))) some
  where
    some : (v : Option (List Terminal × List Terminal)) → length (places (or_neither v).1) ≤ total_if (λ v. total (λ t. 1) v.1) v
    some None = omega arith
    some (Some v) = let all = total-one v.1 in let same = total-places v.1 in omega (arith, all, same)

fields-single : (fields : List DeclField) → length (fields_of (d.single fields)) ≤ total (λ f. 1) fields
fields-single fields = let all = total-one fields in let same = ap length (append-nil fields) in omega (arith, all, same)

fields-total : (vs : List DeclVariant) → length (fields_of vs) ≤ total (λ v. length v.fields) vs
fields-total [] = omega arith
fields-total (v ∷ vs) = let others = fields-total vs in let all = length-append v.fields (fields_of vs) in omega (arith, others, all)

variant-fields : (name : Terminal) (fields : Option (List DeclField)) (number : Option (Bool × ℕ)) → length (d.variant_of name fields number).fields ≤ total_if (total (λ f. 1)) fields
variant-fields name fields None = length-or-none (λ f. 1) fields ones
variant-fields name fields (Some n) = length-or-none (λ f. 1) fields ones

module _ (levels : ℕ) where
  field-least : AtLeast fields (λ f. 1) (d.field levels).spells
  field-least = fewer (mark_least any_least) (λ v. omega arith)

  place-least : AtLeast fields (λ f. 1) (d.place levels).spells
  place-least = fewer (mark_least any_least) (λ v. omega arith)

  variant-fields-least : AtLeast fields (total (λ f. 1)) (d.variant_fields levels).spells
  variant-fields-least = or_least (to_least (seq_least any_least (seq_least (listed_least {n = λ f. 1} (fewer (mark_least any_least) (λ v. omega arith))) any_least)) (λ v. omega arith))
      (to_least (seq_least any_least (seq_least (listed_least {n = λ f. 1} (fewer (mark_least any_least) (λ v. omega arith))) any_least)) (λ v. omega arith))

  variant-least : AtLeast fields (λ v. length v.fields) (d.variant levels).spells
  variant-least = fewer (mark_least (to_least {n = λ v. length v.fields} (seq_least any_least (seq_least (optional_least variant-fields-least) any_least)) (λ v. let all = variant-fields v.0 v.1.0 v.1.1 in omega (arith, all)))) (λ v. omega arith)

  struct-least : AtLeast fields (λ vs. length (fields_of vs)) (d.struct_body levels).spells
  struct-least = or_least (to_least any_least (λ v. fields-single []))
      (or_least (to_least (to_least {n = total (λ f. 1)} (seq_least any_least (seq_least (listed_least field-least) any_least)) (λ v. omega arith)) fields-single)
      (to_least (seq_least (to_least {n = total (λ f. 1)} (seq_least any_least (seq_least (listed_least place-least) any_least)) (λ v. omega arith)) any_least) (λ v. let all = fields-single v.0 in omega (arith, all))))

  union-least : AtLeast fields (λ vs. length (fields_of vs)) (d.union_body levels).spells
  union-least = to_least (to_least {n = total (λ f. 1)} (seq_least any_least (seq_least (listed1_least field-least) any_least)) (λ v. omega arith)) fields-single

  enum-least : AtLeast fields (λ vs. length (fields_of vs)) (d.enum_body levels).spells
  enum-least = to_least (seq_least any_least (seq_least (listed_least variant-least) any_least)) (λ v. let all = fields-total v.1.0 in omega (arith, all))

-- a body's variants are one, or they are counted, each by a mark
record Few {V : Type 0} (number : V → ℕ) (P : Spells V) : Type 0 where
  few : (v : V) (e : List Event) (n : ℕ) → P v e → 1 ≤ n → weigh variants e ≤ n → number v ≤ n

single-few : {A : Type 0} {P : Spells A} {fields : A → List DeclField} → Few length (λ w e. (v : A) × P v e × (w ≡ d.single (fields v)))
single-few = record { few = λ w e n h l k. let one = ap length h.2 in omega (arith, one, l) }

or-few : {V : Type 0} {number : V → ℕ} {P Q : Spells V} → Few number P → Few number Q → Few number (λ v e. P v e ⊎ Q v e)
or-few {V = V} {number = number} {P = P} {Q = Q} x y = record { few = either }
  where
    either : (v : V) (e : List Event) (n : ℕ) → P v e ⊎ Q v e → 1 ≤ n → weigh variants e ≤ n → number v ≤ n
    either v e n (inl h) l k = x.few v e n h l k
    either v e n (inr h) l k = y.few v e n h l k

second-few : {A B : Type 0} {number : B → ℕ} {Q : Spells B} (P : Spells A) → Few number Q → Few {V = A × B} (λ v. number v.1) (λ v e. (f : List Event) × (g : List Event) × P v.0 f × Q v.1 g × (e ≡ f ++ g))
second-few P x = record { few = λ v e n h l k. x.few v.1 h.1 n h.3 l (let all = ap (weigh variants) h.4 ∙ weigh-append variants h.0 h.1 in omega (arith, all, k)) }

module _ (levels : ℕ) where
  struct-few : Few length (d.struct_body levels).spells
  struct-few = or-few single-few (or-few single-few single-few)

  union-few : Few length (d.union_body levels).spells
  union-few = single-few

  enum-few : Few length (d.enum_body levels).spells
  enum-few = record { few = λ vs e n h l k. let all = enum.least vs e h in omega (arith, all, k) }
    where
      enum : AtLeast variants length (d.enum_body levels).spells
      enum = to_least (seq_least any_least (seq_least (listed_least {n = λ v. 1} (fewer (mark_least any_least) (λ v. omega arith))) any_least)) (λ v. let all = ones v.1.0 in omega (arith, all))

-- a definition's marks are counted from nothing

abbrev Headed : (List DeclRepr → Decl) → Type 0
Headed d = (reprs : List DeclRepr) → HasFewParts (d reprs)

module _ (Is : Terminal → Type 0) (what : Kind) (class : Class) (body : Part (List DeclVariant)) (none : Without definitions body.spells) (many : AtLeast fields (λ vs. length (fields_of vs)) body.spells) (few : Few length body.spells) where
  abbrev inner : Part (Terminal × (Terminal × ((List ℕ × List ℕ) × List DeclVariant)))
  inner = the class >> any definition_names >> d.parameters >> body

  inner-without : Without definitions inner.spells
  inner-without = seq_without one_without (seq_without one_without (seq_without parameters_without none))

  inner-parameters : AtLeast parameters (λ v. length v.1.1.0.0) inner.spells
  inner-parameters = fewer (seq_least any_least (seq_least any_least (seq_least parameters-least any_least))) (λ v. omega arith)

  inner-type-parameters : AtLeast type_parameters (λ v. length v.1.1.0.1) inner.spells
  inner-type-parameters = fewer (seq_least any_least (seq_least any_least (seq_least type-parameters-least any_least))) (λ v. omega arith)

  inner-fields : AtLeast fields (λ v. length (fields_of v.1.1.1)) inner.spells
  inner-fields = fewer (seq_least any_least (seq_least any_least (seq_least any_least many))) (λ v. omega arith)

  inner-few : Few (λ v. length v.1.1.1) inner.spells
  inner-few = second-few (the class).spells (second-few (any definition_names).spells (second-few (d.parameters).spells few))

  few-parts : (v : Terminal × (Terminal × ((List ℕ × List ℕ) × List DeclVariant))) (e : List Event) (c after : Counts) → inner.spells v e → count c (mark a_definition ∷ e) ≡ Within after → (reprs : List DeclRepr) → HasFewParts (d.defined what (v.0, v.1.0, v.1.1.0, v.1.1.1) reprs)
  few-parts v e c after h within reprs =
      let counts = (behind_mark c after a_definition e within).0 in
      let none = inner-without.none v e h in
      record {
        parameters = (let all = inner-parameters.least v e h in let most = counter_within parameter_counter (marked c a_definition) after e counts none (omega arith) in omega (arith, all, most));
        type_params = (let all = inner-type-parameters.least v e h in let most = counter_within type_parameter_counter (marked c a_definition) after e counts none (omega arith) in omega (arith, all, most));
        variants = inner-few.few v e 256 h (omega arith) (let most = counter_within variant_counter (marked c a_definition) after e counts none (omega arith) in omega (arith, most));
        fields = (let all = inner-fields.least v e h in let most = counter_within field_counter (marked c a_definition) after e counts none (omega arith) in omega (arith, all, most));
      }

  head : Keeps Is Headed (d.headed what (the class) body).spells
  head = record {
    kept = λ w e h good. subst Headed (sym h.1.2) (few-parts h.1.0 h.0 good.before good.after h.1.1 (subst (λ e. count good.before e ≡ Within good.after) h.2 good.within));
  }

module _ (Is : Terminal → Type 0) (levels : ℕ) where
  headed-parts : Keeps Is Headed (d.headed_any levels).spells
  headed-parts = or_keeps (head Is kind.Struct c.Struct (d.struct_body levels) (struct_without levels) (struct-least levels) (struct-few levels))
      (or_keeps (head Is kind.Union c.Union (d.union_body levels) (union_without levels) (union-least levels) (union-few levels))
      (head Is kind.Enum c.Enum (d.enum_body levels) (enum_without levels) (enum-least levels) (enum-few levels)))

  pub definition_parts : Keeps Is HasFewParts (d.definition levels).spells
  definition_parts = to_keeps (seq_keeps skipped (seq_keeps skipped headed-parts)) (λ v k. k.1.1 (d.together v.0))
