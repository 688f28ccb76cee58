-- Items of `repr` attributes that go together make a representation that is in form.
use Rattle.std.proofs.Common.{◌≡◌, ℕ, refl, ap, ◌∙◌, true, false, ◌||◌, if◌then◌else◌, List, [], ◌∷◌, length, map}
use Rattle.std.specs.Prelude.{Some, None, is_none, nat_lt}
use Rattle.std.specs.Option.{option_or}
use Rattle.std.proofs.lemmas.Bool.{and_parts, false≢true, true_from_ne_false}
use Rattle.tm_base.specs.declared.definition.Kind.{Kind}
use Rattle.tm_base.specs.declared.definition.Kind.TheVariants.{Struct, Union, Enum}
use Rattle.tm_base.specs.declared.definition.Variant.{Variant}
use Rattle.tm_base.specs.declared.ground.Primitive.{Primitive}
use Rattle.tm_base.specs.declared.limit.NameWhy.TheVariants.{BadRepr}
use Rattle.tm_base.specs.declared.profile.Profile.{Profile}
use Rattle.tm_base.specs.Integers.{is_tag_type}
use Rattle.tm_base.specs.Whole as whole
use Rattle.tm_base.specs.Whole.{field_total, is_absent_or, is_alignment}
use Rattle.tm_names.proofs.Members.{Member, contained}
use Rattle.tm_names.specs.Faults.{HasNoFault}
use Rattle.tm_names.specs.Representations.{has_field, is_enum_form, is_form, is_repr_in_form, is_struct_form, is_union_form, tag_in}
use Rattle.tm_names.specs.Resolutions.{repr_of}
use Rattle.tm_parse.specs.declared.parsed.Decl.{Decl}
use Rattle.tm_parse.specs.declared.parsed.DeclRepr.{DeclRepr}
use Rattle.tm_parse.specs.declared.parsed.DeclVariant.{DeclVariant}
use Rattle.tm_parse.specs.declared.parsed.Parsed.{Parsed}
use Rattle.tm_parse.specs.declared.parsed.ReprItem.{ReprItem}
use Rattle.tm_parse.specs.declared.parsed.ReprItem.TheVariants.{C, Transparent, Int, Packed, Align}

-- what is in form of a representation, and that its tag is the first integer among its items
pub record IsReprKept (kind : Kind) (variants : List Variant) (items : List ReprItem) : Type 0 where
  pub form : whole.is_repr_in_form kind (repr_of items) variants ≡ true
  pub packed : is_absent_or is_alignment (repr_of items).packed ≡ true
  pub align : is_absent_or is_alignment (repr_of items).align ≡ true
  pub tag : tag_in items ≡ (repr_of items).tag

-- what a union's items make
record IsPlain (items : List ReprItem) : Type 0 where
  pub no_tag : (repr_of items).tag ≡ None
  pub one : (is_none (repr_of items).packed || is_none (repr_of items).align) ≡ true
  pub plain : (repr_of items).transparent ≡ false
  pub packed : is_absent_or is_alignment (repr_of items).packed ≡ true
  pub align : is_absent_or is_alignment (repr_of items).align ≡ true
  pub tag : tag_in items ≡ (repr_of items).tag

union_plain : (items : List ReprItem) → is_union_form items ≡ true → IsPlain items
union_plain [] h = record { no_tag = refl; one = refl; plain = refl; packed = refl; align = refl; tag = refl }
union_plain (C ∷ []) h = record { no_tag = refl; one = refl; plain = refl; packed = refl; align = refl; tag = refl }
union_plain (Packed n ∷ []) h = record { no_tag = refl; one = refl; plain = refl; packed = h; align = refl; tag = refl }
union_plain (Align n ∷ []) h = record { no_tag = refl; one = refl; plain = refl; packed = refl; align = h; tag = refl }
union_plain (C ∷ Packed n ∷ []) h = record { no_tag = refl; one = refl; plain = refl; packed = h; align = refl; tag = refl }
union_plain (Packed n ∷ C ∷ []) h = record { no_tag = refl; one = refl; plain = refl; packed = h; align = refl; tag = refl }
union_plain (C ∷ Align n ∷ []) h = record { no_tag = refl; one = refl; plain = refl; packed = refl; align = h; tag = refl }
union_plain (Align n ∷ C ∷ []) h = record { no_tag = refl; one = refl; plain = refl; packed = refl; align = h; tag = refl }
union_plain items h = absurd (false≢true h)

plain_struct : (variants : List Variant) (items : List ReprItem) → IsPlain items → IsReprKept Struct variants items
plain_struct variants items p = record {
  form = rw (p.no_tag, p.one, p.plain) refl;
  packed = p.packed;
  align = p.align;
  tag = p.tag;
}

plain_union : (variants : List Variant) (items : List ReprItem) → IsPlain items → IsReprKept Union variants items
plain_union variants items p = record {
  form = rw (p.no_tag, p.one, p.plain) refl;
  packed = p.packed;
  align = p.align;
  tag = p.tag;
}

struct_kept : (variants : List Variant) (items : List ReprItem) → is_struct_form items ≡ true → IsReprKept Struct variants items
struct_kept variants (Transparent ∷ []) h = record { form = refl; packed = refl; align = refl; tag = refl }
struct_kept variants items h = plain_struct variants items (union_plain items h)

-- the tag of an integer that may be one
one_tag : (p : Primitive) → is_tag_type p ≡ true → tag_in (Int p ∷ []) ≡ Some p
one_tag p h = ap (λ b. option_or (if b then Some p else None) None) h

module _ (vs : List DeclVariant) (variants : List Variant) (as_many : nat_lt 0 (length vs) ≡ true → nat_lt 0 (length variants) ≡ true)
    (as_full : has_field vs ≡ true → nat_lt 0 (field_total variants) ≡ true) (has_one : has_field vs ≡ true → nat_lt 0 (length variants) ≡ true) where
  enum_kept : (items : List ReprItem) → is_enum_form vs items ≡ true → IsReprKept Enum variants items
  enum_kept [] h = record { form = refl; packed = refl; align = refl; tag = refl }
  enum_kept (C ∷ []) h = record { form = as_many h; packed = refl; align = refl; tag = refl }
  enum_kept (Int p ∷ []) h =
      let parts = and_parts (is_tag_type p) _ h in
      record { form = rw (parts.0, as_many parts.1) refl; packed = refl; align = refl; tag = one_tag p parts.0 }
  enum_kept (C ∷ Int p ∷ []) h =
      let parts = and_parts (is_tag_type p) _ h in
      record { form = rw (parts.0, as_full parts.1, has_one parts.1) refl; packed = refl; align = refl; tag = one_tag p parts.0 }
  enum_kept (Int p ∷ C ∷ []) h =
      let parts = and_parts (is_tag_type p) _ h in
      record { form = rw (parts.0, as_full parts.1, has_one parts.1) refl; packed = refl; align = refl; tag = one_tag p parts.0 }
  enum_kept items h = absurd (false≢true h)

  pub repr_kept : (kind : Kind) (items : List ReprItem) → is_form kind vs items ≡ true → IsReprKept kind variants items
  repr_kept Struct items h = struct_kept variants items h
  repr_kept Union items h = plain_union variants items (union_plain items h)
  repr_kept Enum items h = enum_kept items h

no_items : (kind : Kind) (vs : List DeclVariant) → is_form kind vs [] ≡ true
no_items Struct vs = refl
no_items Union vs = refl
no_items Enum vs = refl

-- where no fault stands, each definition's items go together
pub items_go_together : (profile : Profile) (name : ℕ → List ℕ) (file : Parsed) → HasNoFault profile name file → (d : Decl) → Member d file.decls → is_repr_in_form d ≡ true
items_go_together profile name file sound d among = go d.reprs refl
  where
    go : (reprs : List DeclRepr) → d.reprs ≡ reprs → is_repr_in_form d ≡ true
    go [] e = ap (λ reprs. is_form d.kind d.variants (map (λ repr. repr.item) reprs)) e ∙ no_items d.kind d.variants
    go (first ∷ others) e =
        true_from_ne_false (is_repr_in_form d) (λ wrong. sound.none BadRepr first.token (record {
          decl = d;
          declared = contained d file.decls among;
          first = first;
          others = others;
          reprs = e;
          here = refl;
          wrong = wrong;
        }))
