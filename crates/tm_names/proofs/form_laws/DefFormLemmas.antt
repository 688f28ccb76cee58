-- A definition of a file without faults is resolved to one that is in form.
use Rattle.std.proofs.Common.{◌≡◌, ◌≢◌, ℕ, refl, sym, ap, ◌∙◌, subst, arith, inl, inr, ⊎_elim, true, false, ◌||◌, List, [], ◌∷◌, ◌++◌, length, map, All}
use Rattle.std.specs.Prelude.{ℤ, pos, ◌+ℤ◌, not, Some, None, Option, IsSome, AllPairs, ◌==◌}
use Rattle.std.proofs.lemmas.Bool.{and_from, le-leb, lt-ltb, ltb-true, false_from_ne_true, false≢true}
use Rattle.std.proofs.lemmas.List.{length-append}
use Rattle.tm_base.specs.declared.definition.Kind.{Kind}
use Rattle.tm_base.specs.declared.definition.Kind.TheVariants.{Struct, Union, Enum}
use Rattle.tm_base.specs.declared.ground.Primitive.{Primitive}
use Rattle.tm_base.specs.declared.ground.Primitive.TheVariants.{Bool as bool', Char, U8, U16, U32, U64, U128, Usize, I8, I16, I32, I64, I128, Isize, F32, F64}
use Rattle.tm_base.specs.declared.limit.NameWhy.TheVariants.{Discriminant}
use Rattle.tm_base.specs.declared.profile.Profile.{Profile}
use Rattle.tm_base.specs.declared.profile.Profile.TheVariants.{Le64, Be64, Le32}
use Rattle.tm_base.specs.Integers.{fits_integer}
use Rattle.tm_base.specs.Whole.{are_variants_in_form, field_total, is_def_in_form}
use Rattle.tm_names.proofs.Members.{Member, behind, contained}
use Rattle.tm_names.proofs.form_laws.ReprFormLemmas.{IsReprKept, items_go_together, repr_kept}
use Rattle.tm_names.proofs.form_laws.TypeFormLemmas.{of_member}
use Rattle.tm_names.proofs.form_laws.ValueFormLemmas.{AreRight, as_full, as_many, fields_within, values_apart, values_in_form, variants_within}
use Rattle.tm_names.proofs.fault_laws.ValueLemmas.{exact_wrong}
use Rattle.tm_names.specs.Discriminants.{Valued, valued, valued_from, value_of}
use Rattle.tm_names.specs.Faults.{HasNoFault}
use Rattle.tm_names.specs.Representations.{items_of, tag_of}
use Rattle.tm_names.specs.Resolutions.{def_of, repr_of, variant_of}
use Rattle.tm_parse.specs.Bounds.{AreVariantsOf, HasFewParts, HasItsVariants, IsWithinLimits}
use Rattle.tm_parse.specs.Definitions.{single}
use Rattle.tm_parse.specs.declared.parsed.Decl.{Decl}
use Rattle.tm_parse.specs.declared.parsed.DeclField.{DeclField}
use Rattle.tm_parse.specs.declared.parsed.DeclVariant.{DeclVariant}
use Rattle.tm_parse.specs.declared.parsed.Parsed.{Parsed}

-- each integer type holds 0
zero_fits : (profile : Profile) (p : Primitive) → fits_integer profile p (pos 0) ≡ true
zero_fits profile bool' = refl
zero_fits profile Char = refl
zero_fits profile U8 = refl
zero_fits profile U16 = refl
zero_fits profile U32 = refl
zero_fits profile U64 = refl
zero_fits profile U128 = refl
zero_fits Le64 Usize = refl
zero_fits Be64 Usize = refl
zero_fits Le32 Usize = refl
zero_fits profile I8 = refl
zero_fits profile I16 = refl
zero_fits profile I32 = refl
zero_fits profile I64 = refl
zero_fits profile I128 = refl
zero_fits Le64 Isize = refl
zero_fits Be64 Isize = refl
zero_fits Le32 Isize = refl
zero_fits profile F32 = refl
zero_fits profile F64 = refl

zero_right : (profile : Profile) (tag : Option Primitive) → exact_wrong profile tag [] (pos 0) ≡ false
zero_right profile None = refl
zero_right profile (Some p) = ap (λ b. not b || false) (zero_fits profile p)

-- so the only variant of a struct or a union is right
one_right : (profile : Profile) (tag : Option Primitive) (fields : List DeclField) → AreRight profile tag (valued (single fields))
one_right profile tag fields [] here after e =
    let same : pos 0 ≡ here.value = ap (λ vs. first_value vs) e in
    subst (λ z. exact_wrong profile tag [] z ≡ false) same (zero_right profile tag)
  where
    first_value : List Valued → ℤ
    first_value [] = pos 0
    first_value (v ∷ vs) = v.value
one_right profile tag fields (b ∷ bs) here after e = absurd (omega (arith, ap length e, length-append bs (here ∷ after)))

pub variant_among : (z : ℤ) (vs : List DeclVariant) (here : Valued) → Member here (valued_from z vs) → Member here.variant vs
variant_among z [] here m = m
variant_among z (v ∷ vs) here m = ⊎_elim (λ e. inl (ap (λ u. u.variant) e)) (λ n. inr (variant_among (value_of z v +ℤ pos 1) vs here n)) m

module _ (profile : Profile) (name : ℕ → List ℕ) where
  -- the variants that a definition has
  variants_in_form : (kind : Kind) (vs : List DeclVariant) → AreVariantsOf kind vs → are_variants_in_form kind (map (variant_of name) (valued vs)) ≡ true
  variants_in_form Struct vs (fields, e) = ap (λ vs. length (map (variant_of name) (valued vs)) == 1) e
  variants_in_form Union vs (fields, e, some) =
      let full : field_total (map (variant_of name) (valued (single fields))) ≡ length (fields ++ []) = as_full name (pos 0) (single fields) in
      ap (are_variants_in_form Union) (ap (λ vs. map (variant_of name) (valued vs)) e)
      ∙ lt-ltb 0 _ (omega (arith, full, some, length-append fields []))
  variants_in_form Enum vs h = refl

  module _ (file : Parsed) (sound : HasNoFault profile name file) (within : IsWithinLimits file) (d : Decl) (among : Member d file.decls) where
    named_right : All (λ v. IsSome v.name) d.variants → AreRight profile (tag_of d) (valued d.variants)
    named_right names before here after e = false_from_ne_true (exact_wrong profile (tag_of d) before here.value) (at here.variant.name refl has_name)
      where
        has_name : IsSome here.variant.name
        has_name =
            of_member (λ v. IsSome v.name) d.variants here.variant names
            (variant_among (pos 0) d.variants here (subst (Member here) (sym e) (behind here before (here ∷ after) (inl refl))))

        at : (o : Option ℕ) → here.variant.name ≡ o → IsSome o → exact_wrong profile (tag_of d) before here.value ≡ true → ⊥
        at None named some wrong = false≢true some
        at (Some place) named some wrong = sound.none Discriminant place (record {
          decl = d;
          declared = contained d file.decls among;
          before = before;
          here = here;
          after = after;
          listed = e;
          named = named;
          wrong = wrong;
        })

    abbrev its_variants : AreVariantsOf d.kind d.variants
    its_variants = (of_member HasItsVariants file.decls d within.variants among).variants

    -- no discriminant is at fault, since its variant has a name or is the only one
    pub values_right : AreRight profile (tag_of d) (valued d.variants)
    values_right = by d.kind its_variants
      where
        by : (kind : Kind) → AreVariantsOf kind d.variants → AreRight profile (tag_of d) (valued d.variants)
        by Struct (fields, e) = subst (λ vs. AreRight profile (tag_of d) (valued vs)) (sym e) (one_right profile (tag_of d) fields)
        by Union (fields, e, some) = subst (λ vs. AreRight profile (tag_of d) (valued vs)) (sym e) (one_right profile (tag_of d) fields)
        by Enum names = named_right names

    pub values_distinct : AllPairs (λ v u. v.value ≢ u.value) (def_of name d).variants
    values_distinct = values_apart name profile (tag_of d) (valued d.variants) values_right

    repr_kept_of : IsReprKept d.kind (def_of name d).variants (items_of d)
    repr_kept_of =
        repr_kept d.variants (def_of name d).variants
        (λ h. let some = ltb-true 0 (length d.variants) h in lt-ltb 0 _ (omega (arith, as_many name (pos 0) d.variants)))
        (λ h. let some = fields_within d.variants h in lt-ltb 0 _ (omega (arith, as_full name (pos 0) d.variants)))
        (λ h. let some = variants_within d.variants h in lt-ltb 0 _ (omega (arith, as_many name (pos 0) d.variants)))
        d.kind (items_of d) (items_go_together profile name file sound d among)

    pub def_in_form : is_def_in_form profile (def_of name d) ≡ true
    def_in_form =
        let kept = repr_kept_of in
        let few = of_member HasFewParts file.decls d within.parts among in
        and_from _ _ (and_from _ _ (and_from _ _ (and_from _ _ (and_from _ _ (and_from _ _ kept.form kept.packed) kept.align)
        (variants_in_form d.kind d.variants its_variants))
        (values_in_form name profile (repr_of (items_of d)).tag (valued d.variants) (subst (λ tag. AreRight profile tag (valued d.variants)) kept.tag values_right)))
        (le-leb _ 256 (let l = few.variants in omega (arith, as_many name (pos 0) d.variants))))
        (le-leb _ 256 (let l = few.fields in omega (arith, as_full name (pos 0) d.variants)))
