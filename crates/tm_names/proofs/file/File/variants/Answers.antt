use Rattle.std.proofs.Common.{◌≡◌, ◌∙◌, ◌+◌, ◌<◌, ℕ, suc, zero, true, false, refl, sym, ap, arith, Bool, Option, Some, None, List, [], ◌∷◌, ◌++◌, append_assoc, drop, get_or, length, map, of_z, to_z, rules}
use Rattle.std.proofs.Math.Seq.{drop-cons}
use Rattle.std.proofs.lemmas.Bool.{and_parts}
use Rattle.std.proofs.lemmas.Bool.Decides.{nat_tests}
use Rattle.std.specs.List.{list_all}
use mir.Syntax.{w128}
use Rattle.std.specs.Prelude.{ℤ, ◌+ℤ◌, pos}
use Rattle.tm_base.specs.declared.definition.Variant.{Variant}
use Rattle.tm_names.proofs.fault_laws.ValueLemmas.{one_up}
use Rattle.tm_names.specs.declared.value.Value.TheVariants.{AtLeastZero, BelowZero}
use Rattle.tm_names.specs.declared.value.Value.{Value}
use Rattle.tm_names.specs.Discriminants.{Valued, valued_from, value_of, written_or}
use Rattle.tm_names.specs.Narrow.{is_value_narrow}
use Rattle.tm_names.specs.Resolutions.{variant_of}
use Rattle.tm_names.specs.Source.{names_in}
use Rattle.tm_names.specs.Values.{int_of, next_of, written_value}
use Rattle.tm_parse.specs.declared.parsed.DeclVariant.{DeclVariant}
use Rattle.tm_names.proofs.file.File.variants.Goals as goal
use Rattle.tm_names.proofs.file.File.variants.Goals.{After-value_in-value}

-- what is written or implied, as a whole number
written : (implied : Value) (negative : Bool) (o : Option ℕ) → int_of (written_value implied negative o) ≡ written_or (int_of implied) negative o
written implied negative None = refl
written implied false (Some n) = refl
written implied true (Some zero) = refl
written implied true (Some (suc n)) = refl

-- behind a narrow value comes the next whole number
counted : (v : Value) → is_value_narrow (int_of v) ≡ true → int_of (next_of v) ≡ int_of v +ℤ pos 1
counted (AtLeastZero n) h = grind (arith, nat_tests)
counted (BelowZero zero) h = refl
counted (BelowZero (suc n)) h = one_up n

-- the variants from a place on, the first of them apart
from_place : (z : _) (vs : List DeclVariant) (i : ℕ) (v : DeclVariant) → i < length vs → v ≡ get_or vs i v
    → valued_from z (drop i vs) ≡ record { variant = v; value = value_of z v } ∷ valued_from (value_of z v +ℤ pos 1) (drop (i + 1) vs)
from_place z vs i v h e =
    let next : suc i ≡ i + 1 = omega arith in
    let first : drop i vs ≡ v ∷ drop (i + 1) vs = drop-cons vs i v h ∙ (ap (λ u. u ∷ drop (suc i) vs) (sym e) ∙ ap (λ n. v ∷ drop n vs) next) in
    ap (valued_from z) first

narrow_at : (z : _) (vs : List DeclVariant) (i : ℕ) (v : DeclVariant) → i < length vs → v ≡ get_or vs i v
    → list_all (λ u. is_value_narrow u.value) (valued_from z (drop i vs)) ≡ true
    → (is_value_narrow (value_of z v) ≡ true) × (list_all (λ u. is_value_narrow u.value) (valued_from (value_of z v +ℤ pos 1) (drop (i + 1) vs)) ≡ true)
narrow_at z vs i v h e all = and_parts _ _ (sym (ap (list_all (λ u. is_value_narrow u.value)) (from_place z vs i v h e)) ∙ all)

-- what the value of a turn's variant is, and that it is narrow
here_value : (c : After-value_in-value) → int_of c.value_in-value.result ≡ value_of (int_of c.loop-item.implied) c.item-item.result
here_value c = ap int_of c.value_in-value.ensures ∙ written c.loop-item.implied c.item-item.result.negative c.item-item.result.value

here_narrow : (c : After-value_in-value) → is_value_narrow (int_of c.value_in-value.result) ≡ true
here_narrow c =
    ap is_value_narrow (here_value c)
    ∙ (narrow_at (int_of c.loop-item.implied) c.args.declared.now c.loop-item.item-index c.item-item.result c.loop-item-test.true c.item-item.is c.loop-item.invariant.narrow).0

pub narrow-requires : goal.narrow-requires
narrow-requires c = here_narrow c

pub loop-item-preserved : goal.loop-item-preserved
loop-item-preserved c =
    let as_of = variant_of (names_in c.args.self.now.source) in
    let vs = c.args.declared.now in
    let i = c.loop-item.item-index in
    let v = c.item-item.result in
    let z = int_of c.loop-item.implied in
    let found = c.loop-item.variants in
    let value = here_value (goal.at.loop-item-preserved c).After-value_in-value in
    let narrow = here_narrow (goal.at.loop-item-preserved c).After-value_in-value in
    let after : int_of c.next-implied.result ≡ value_of z v +ℤ pos 1 =
    ap int_of c.next-implied.ensures ∙ (counted c.value_in-value.result narrow ∙ ap (λ w. w +ℤ pos 1) value) in
    let rest = valued_from (value_of z v +ℤ pos 1) (drop (i + 1) vs) in
    let one : Valued = record { variant = v; value = value_of z v } in
    let as_one : ℤ → Variant = λ w. as_of (record { variant = v; value = w }) in
    let read : to_z w128 (of_z w128 c.narrow.result) ≡ c.narrow.result = search rules in
    let put : c.add.new.list ≡ found ++ (as_of one ∷ []) =
    c.in_ok-add.ensures ∙ ap (λ u. found ++ (u ∷ [])) (c.in_ok-variant.ensures ∙ ap as_one (read ∙ (c.narrow.ensures ∙ value))) in
    record {
      all = ap (λ w. c.add.new.list ++ map as_of (valued_from w (drop (i + 1) vs))) after
          ∙ (ap (λ those. those ++ map as_of rest) put
          ∙ (append_assoc found (as_of one ∷ []) (map as_of rest)
          ∙ (ap (λ these. found ++ map as_of these) (sym (from_place z vs i v c.loop-item-test.true c.item-item.is)) ∙ c.loop-item.invariant.all)));
      narrow = ap (λ w. list_all (λ u. is_value_narrow u.value) (valued_from w (drop (i + 1) vs))) after
          ∙ (narrow_at z vs i v c.loop-item-test.true c.item-item.is c.loop-item.invariant.narrow).1;
    }
