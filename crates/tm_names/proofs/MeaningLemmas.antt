-- What a name means is among what there is.
use Rattle.std.proofs.Common.{◌≡◌, ℕ, sym, ap, arith, List}
use Rattle.std.specs.Prelude.{Option, Some, None, option_map}
use Rattle.std.specs.Option.{option_or}
use Rattle.std.proofs.lemmas.Option.{none-some, same_Some}
use Rattle.tm_names.proofs.KnownLemmas.{found_within}
use Rattle.tm_names.specs.declared.meaning.Meaning.{Meaning}
use Rattle.tm_names.specs.declared.meaning.Meaning.TheVariants.{Definition, Parameter}
use Rattle.tm_names.specs.Meanings.{IsAtPlace, first_named, meaning_of}
use Rattle.tm_names.specs.Written.{first_among, is_same}
use Rattle.tm_parse.specs.declared.parsed.Decl.{Decl}

abbrev number_of : Meaning → ℕ
number_of (Definition n) = n
number_of (Parameter n) = n

not_both : (j k : ℕ) → Parameter j ≡ Definition k → ⊥
not_both j k e = absurd cc

-- the definition or the parameter that is meant is the one that is found
pub definition_found : (a b : Option ℕ) (k : ℕ) → option_or (option_map Parameter a) (option_map Definition b) ≡ Some (Definition k) → b ≡ Some k
definition_found (Some p) b k e = absurd (not_both p k (same_Some (Parameter p) (Definition k) e))
definition_found None None k e = absurd (none-some (Definition k) e)
definition_found None (Some j) k e = ap Some (ap number_of (same_Some (Definition j) (Definition k) e))

pub parameter_found : (a b : Option ℕ) (k : ℕ) → option_or (option_map Parameter a) (option_map Definition b) ≡ Some (Parameter k) → a ≡ Some k
parameter_found (Some p) b k e = ap Some (ap number_of (same_Some (Parameter p) (Parameter k) e))
parameter_found None None k e = absurd (none-some (Parameter k) e)
parameter_found None (Some j) k e = absurd (not_both k j (sym (same_Some (Definition j) (Parameter k) e)))

module _ (name : ℕ → List ℕ) (decls : List Decl) where
  -- so it is there
  pub meant_within : (types : List ℕ) (place : ℕ) (x : Meaning) → meaning_of name decls types place ≡ Some x → IsAtPlace decls types x
  meant_within types place (Definition k) e =
      let found = definition_found (first_among name types place) (first_named name decls place) k e in
      let h = found_within (λ d. is_same name d.name place) 0 decls k found in omega (arith, h)
  meant_within types place (Parameter k) e =
      let found = parameter_found (first_among name types place) (first_named name decls place) k e in
      let h = found_within (λ p. is_same name p place) 0 types k found in omega (arith, h)
