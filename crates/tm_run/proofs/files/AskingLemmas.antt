-- What a file's names mean is in form also with the questions from its definitions to themselves.
use Rattle.std.proofs.Common.{◌≡◌, ℕ, ◌+◌, ◌<◌, ◌≤◌, refl, true, List, [], ◌∷◌, ◌++◌, flat_map, length, arith}
use Rattle.std.specs.List.{list_all}
use Rattle.std.proofs.lemmas.Bool.{lt-ltb}
use Rattle.tm_names.specs.InForm.{IsInForm, is_type_in_form}
use Rattle.tm_names.proofs.WrittenLemmas.{written-Named}
use Rattle.tm_names.specs.declared.resolved.Resolved.{Resolved}
use Rattle.tm_parse.specs.declared.parsed.Decl.{Decl}
use Rattle.tm_run.specs.Asking.{own_if_plain, own_questions, own_type}

own-few : (k : ℕ) (decls : List Decl) → length (own_questions k decls) ≤ length decls
own-few k [] = omega arith
own-few k (decl ∷ decls) = by decl.params decl.type_params (own-few (k + 1) decls)
  where
    by : (params types : List ℕ) → length (own_questions (k + 1) decls) ≤ length decls → length (own_if_plain k params types ++ own_questions (k + 1) decls) ≤ length (decl ∷ decls)
    by [] [] h = omega (arith, h)
    by [] (t ∷ types) h = omega (arith, h)
    by (p ∷ params) types h = omega (arith, h)

module _ (resolved : Resolved) where
  own-type-in-form : (k : ℕ) → k < length resolved.defs → is_type_in_form resolved (own_type k) ≡ true
  own-type-in-form k less = let e = lt-ltb k (length resolved.defs) less in rw (written-Named (record { 0 = k }) [] [], e) refl

  own-in-form : (k : ℕ) (decls : List Decl) → k + length decls ≤ length resolved.defs
      → list_all (is_type_in_form resolved) (flat_map (λ ask. ask.src ∷ ask.dst ∷ []) (own_questions k decls)) ≡ true
  own-in-form k [] few = refl
  own-in-form k (decl ∷ decls) few = by decl.params decl.type_params (own-in-form (k + 1) decls (omega (arith, few)))
    where
      by : (params types : List ℕ) → list_all (is_type_in_form resolved) (flat_map (λ ask. ask.src ∷ ask.dst ∷ []) (own_questions (k + 1) decls)) ≡ true
          → list_all (is_type_in_form resolved) (flat_map (λ ask. ask.src ∷ ask.dst ∷ []) (own_if_plain k params types ++ own_questions (k + 1) decls)) ≡ true
      by [] [] h = let e = own-type-in-form k (omega (arith, few)) in rw (e, h) refl
      by [] (t ∷ types) h = h
      by (p ∷ params) types h = h

pub own-questions-in-form : (resolved : Resolved) (decls : List Decl) → IsInForm resolved → length decls ≡ length resolved.defs
    → IsInForm (record { profile = resolved.profile; defs = resolved.defs; types = resolved.types; regions = resolved.regions; bounds = resolved.bounds; asks = own_questions 0 decls })
own-questions-in-form resolved decls form e = record {
  few_defs = form.few_defs;
  few_regions = form.few_regions;
  some_region = form.some_region;
  few_asks = let few : length resolved.defs ≤ 256 = form.few_defs in let own = own-few 0 decls in omega (arith, few, own, e);
  defs_in_form = form.defs_in_form;
  values_distinct = form.values_distinct;
  bounds_known = form.bounds_known;
  defs_typed = form.defs_typed;
  fields_in_form = form.fields_in_form;
  asks_in_form = own-in-form resolved 0 decls (omega (arith, e));
}
