-- What is kept by each file whose names are resolved.
use Rattle.std.proofs.Common.{◌≡◌, ◌≢◌, ◌<◌, ℕ, refl, subst, arith, true, List, [], ◌∷◌, length, map}
use Rattle.std.specs.Prelude.{ℤ, pos, ◌+ℤ◌, AllPairs}
use Rattle.std.proofs.lemmas.Bool.{and_from, eq-eqb}
use Rattle.std.proofs.lemmas.List.{length-map}
use Rattle.tm_base.specs.declared.definition.Def.{Def}
use Rattle.tm_base.specs.declared.profile.Profile.{Profile}
use Rattle.tm_base.specs.Whole.{AreValuesDistinct, are_defs_in_form, is_def_in_form}
use Rattle.tm_names.proofs.form_laws.DefFormLemmas.{def_in_form, values_distinct}
use Rattle.tm_names.proofs.KnownLemmas.{bounds_known}
use Rattle.tm_names.proofs.Members.{Member, from_map, member_from_get}
use Rattle.tm_names.proofs.form_laws.TypeFormLemmas.{asks_in_form, each_passes, fields_in_form}
use Rattle.tm_names.specs.Discriminants.{valued_from, value_of}
use Rattle.tm_names.specs.Faults.{HasNoFault}
use Rattle.tm_names.specs.InForm.{IsInForm, are_defs_typed, is_variant_typed}
use Rattle.tm_names.specs.Resolutions.{ask_of, decl_types, def_of, field_of, field_type, resolved_of, variant_of, variant_types}
use Rattle.tm_lex.specs.declared.token.Token.{Token}
use Rattle.tm_parse.proofs.bounds.IntegerTerminals.{terminals_carry}
use Rattle.tm_parse.proofs.bounds.PlaceBounds.{places_kept, terminals_placed}
use Rattle.tm_parse.specs.Places.{EachPlace}
use Rattle.tm_parse.proofs.bounds.WithinLimits.{within_limits}
use Rattle.tm_parse.specs.Bounds.{IsWithinLimits}
use Rattle.tm_parse.specs.Parsing.{SpellsFile}
use Rattle.tm_parse.specs.Spelling.{terminals_of}
use Rattle.tm_parse.specs.declared.parsed.Decl.{Decl}
use Rattle.tm_parse.specs.declared.parsed.DeclVariant.{DeclVariant}
use Rattle.tm_parse.specs.declared.parsed.Parsed.{Parsed}

-- what a text's tokens spell is within the limits
pub spelled_within : (text : List ℕ) (tokens : List Token) (file : Parsed) → SpellsFile (terminals_of text tokens) file → IsWithinLimits file
spelled_within text tokens file h = within_limits file (terminals_of text tokens) h (terminals_carry text tokens)

-- and its places are those of tokens
pub spelled_placed : (text : List ℕ) (tokens : List Token) (file : Parsed) → SpellsFile (terminals_of text tokens) file → EachPlace (λ place. place < length tokens) file
spelled_placed text tokens file h =
    places_kept (λ place. place < length tokens) file (terminals_of text tokens) h (terminals_placed text tokens)

module _ (profile : Profile) (name : ℕ → List ℕ) (file : Parsed) where
  -- each field has its type
  variants_typed : (d : Decl) (z : ℤ) (vs : List DeclVariant) → is_variant_typed (map (variant_of name) (valued_from z vs)) (map (variant_types name file.decls d) vs) ≡ true
  variants_typed d z [] = refl
  variants_typed d z (v ∷ vs) =
      and_from _ _ (eq-eqb (length (map (field_of name) v.fields)) (length (map (λ field. field_type name file.decls d field.ty) v.fields))
      (omega (arith, length-map v.fields (field_of name), length-map v.fields (λ field. field_type name file.decls d field.ty))))
      (variants_typed d (value_of z v +ℤ pos 1) vs)

  defs_typed : (ds : List Decl) → are_defs_typed (map (def_of name) ds) (map (decl_types name file.decls) ds) ≡ true
  defs_typed [] = refl
  defs_typed (d ∷ ds) = and_from _ _ (variants_typed d (pos 0) d.variants) (defs_typed ds)

  module _ (sound : HasNoFault profile name file) (within : IsWithinLimits file) where
    defs_in_form : are_defs_in_form profile (map (def_of name) file.decls) ≡ true
    unfolding are_defs_in_form
    defs_in_form = each_passes (is_def_in_form profile) (map (def_of name) file.decls) each
      where
        each : (def : Def) → Member def (map (def_of name) file.decls) → is_def_in_form profile def ≡ true
        each def m =
            let (d, among, same) = from_map (def_of name) def file.decls m in
            subst (λ def. is_def_in_form profile def ≡ true) same (def_in_form profile name file sound within d among)

    all_distinct : AreValuesDistinct (map (def_of name) file.decls)
    all_distinct = record {
      apart = λ i l def at.
          let (d, among, same) = from_map (def_of name) def file.decls (member_from_get def (map (def_of name) file.decls) i at) in
          subst (λ (def : Def). AllPairs (λ v u. v.value ≢ u.value) def.variants) same (values_distinct profile name file sound within d among);
    }

    pub resolved_in_form : IsInForm (resolved_of profile name file)
    resolved_in_form = record {
      few_defs = let few = within.items.definitions in omega (arith, length-map file.decls (def_of name));
      few_regions = let few = within.items.lifetimes in omega (arith, length-map file.lifetimes name);
      some_region = omega arith;
      few_asks = let few = within.items.questions in omega (arith, length-map file.questions (ask_of name file));
      defs_in_form = defs_in_form;
      values_distinct = all_distinct;
      bounds_known = bounds_known name file.lifetimes file.bounds;
      defs_typed = defs_typed file.decls;
      fields_in_form = fields_in_form profile name file sound within.types within.integers within.arrays;
      asks_in_form = asks_in_form profile name file sound within.types within.integers within.arrays;
    }
