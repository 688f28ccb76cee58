-- Where no fault stands, the numbers of definitions are as narrow as they are kept.
use Rattle.std.proofs.Common.{◌≡◌, ℕ, ◌<◌, ◌≤◌, ◌^◌, refl, arith, ⊎_elim, true, List, [], ◌∷◌, map, All}
use Rattle.std.specs.Prelude.{ℤ, pos, negsuc, Option, Some, None, nat_lt, ◌==◌, ⊤}
use Rattle.std.specs.List.{list_all, list_any, range_with_len}
use Rattle.std.proofs.lemmas.Bool.{and_parts, eqb-true, false≢true, lt-ltb, ltb-true, or_cases}
use Rattle.std.proofs.lemmas.List.Elements.{All-cons, All-nil}
use Rattle.tm_base.specs.declared.definition.Kind.{Kind}
use Rattle.tm_base.specs.declared.definition.Kind.TheVariants.{Struct, Union, Enum}
use Rattle.tm_base.specs.declared.ground.Primitive.{Primitive}
use Rattle.tm_base.specs.declared.ground.Primitive.TheVariants.{Bool as bool', Char, U8, U16, U32, U64, U128, Usize, I8, I16, I32, I64, I128, Isize, F32, F64}
use Rattle.tm_base.specs.declared.profile.Profile.{Profile}
use Rattle.tm_base.specs.declared.profile.Profile.TheVariants.{Le64, Be64, Le32}
use Rattle.tm_base.specs.Integers.{fits_integer, is_tag_type}
use Rattle.tm_base.specs.Whole.{is_alignment}
use Rattle.tm_names.proofs.form_laws.DefFormLemmas.{values_right}
use Rattle.tm_names.proofs.Members.{Member}
use Rattle.tm_names.proofs.form_laws.ReprFormLemmas.{items_go_together}
use Rattle.tm_names.proofs.form_laws.TypeFormLemmas.{each_passes, of_member}
use Rattle.tm_names.proofs.form_laws.ValueFormLemmas.{all_of_members, in_range}
use Rattle.tm_names.proofs.fault_laws.ValueLemmas.{TagOk, tag_is_ok}
use Rattle.tm_names.specs.Discriminants.{Valued, is_in_range, valued}
use Rattle.tm_names.specs.Faults.{HasNoFault}
use Rattle.tm_names.specs.Narrow.{IsItemNarrow, IsNarrow, is_value_narrow}
use Rattle.tm_names.specs.Representations.{is_enum_form, is_form, is_struct_form, is_union_form, items_of, tag_of}
use Rattle.tm_parse.specs.Bounds.{HasFewParts, IsWithinLimits}
use Rattle.tm_parse.specs.declared.parsed.Decl.{Decl}
use Rattle.tm_parse.specs.declared.parsed.DeclRepr.{DeclRepr}
use Rattle.tm_parse.specs.declared.parsed.DeclVariant.{DeclVariant}
use Rattle.tm_parse.specs.declared.parsed.Parsed.{Parsed}
use Rattle.tm_parse.specs.declared.parsed.ReprItem.{ReprItem}
use Rattle.tm_parse.specs.declared.parsed.ReprItem.TheVariants.{C, Transparent, Int, Packed, Align}

wider : (n low high : ℕ) → low ≤ high → nat_lt n low ≡ true → nat_lt n high ≡ true
wider n low high h t = let below = ltb-true n low t in lt-ltb n high (omega (arith, h, below))

-- what an integer of at most 64 bits holds
narrow_in_type : (profile : Profile) (p : Primitive) → is_tag_type p ≡ true → (z : ℤ) → fits_integer profile p z ≡ true → is_value_narrow z ≡ true
narrow_in_type profile bool' ok z h = absurd (false≢true ok)
narrow_in_type profile Char ok z h = absurd (false≢true ok)
narrow_in_type profile U8 ok (pos n) h = wider n _ _ (omega arith) h
narrow_in_type profile U8 ok (negsuc n) h = absurd (false≢true h)
narrow_in_type profile U16 ok (pos n) h = wider n _ _ (omega arith) h
narrow_in_type profile U16 ok (negsuc n) h = absurd (false≢true h)
narrow_in_type profile U32 ok (pos n) h = wider n _ _ (omega arith) h
narrow_in_type profile U32 ok (negsuc n) h = absurd (false≢true h)
narrow_in_type profile U64 ok (pos n) h = wider n _ _ (omega arith) h
narrow_in_type profile U64 ok (negsuc n) h = absurd (false≢true h)
narrow_in_type profile U128 ok z h = absurd (false≢true ok)
narrow_in_type Le64 Usize ok (pos n) h = wider n _ _ (omega arith) h
narrow_in_type Be64 Usize ok (pos n) h = wider n _ _ (omega arith) h
narrow_in_type Le32 Usize ok (pos n) h = wider n _ _ (omega arith) h
narrow_in_type Le64 Usize ok (negsuc n) h = absurd (false≢true h)
narrow_in_type Be64 Usize ok (negsuc n) h = absurd (false≢true h)
narrow_in_type Le32 Usize ok (negsuc n) h = absurd (false≢true h)
narrow_in_type profile I8 ok (pos n) h = wider n _ _ (omega arith) h
narrow_in_type profile I8 ok (negsuc n) h = wider n _ _ (omega arith) h
narrow_in_type profile I16 ok (pos n) h = wider n _ _ (omega arith) h
narrow_in_type profile I16 ok (negsuc n) h = wider n _ _ (omega arith) h
narrow_in_type profile I32 ok (pos n) h = wider n _ _ (omega arith) h
narrow_in_type profile I32 ok (negsuc n) h = wider n _ _ (omega arith) h
narrow_in_type profile I64 ok (pos n) h = wider n _ _ (omega arith) h
narrow_in_type profile I64 ok (negsuc n) h = wider n _ _ (omega arith) h
narrow_in_type profile I128 ok z h = absurd (false≢true ok)
narrow_in_type Le64 Isize ok (pos n) h = wider n _ _ (omega arith) h
narrow_in_type Be64 Isize ok (pos n) h = wider n _ _ (omega arith) h
narrow_in_type Le32 Isize ok (pos n) h = wider n _ _ (omega arith) h
narrow_in_type Le64 Isize ok (negsuc n) h = wider n _ _ (omega arith) h
narrow_in_type Be64 Isize ok (negsuc n) h = wider n _ _ (omega arith) h
narrow_in_type Le32 Isize ok (negsuc n) h = wider n _ _ (omega arith) h
narrow_in_type profile F32 ok z h = absurd (false≢true ok)
narrow_in_type profile F64 ok z h = absurd (false≢true ok)

narrow_in_range : (profile : Profile) (tag : Option Primitive) → TagOk tag → (z : ℤ) → is_in_range profile tag z ≡ true → is_value_narrow z ≡ true
narrow_in_range profile None ok z h = narrow_in_type profile I64 refl z h
narrow_in_range profile (Some p) ok z h = narrow_in_type profile p ok z h

-- a number that is one of those below a bound
below_bound : (n bound : ℕ) (ks : List ℕ) → list_all (λ k. nat_lt (2 ^ k) bound) ks ≡ true → list_any (λ k. n == 2 ^ k) ks ≡ true → n < bound
below_bound n bound [] all some = absurd (false≢true some)
below_bound n bound (k ∷ ks) all some =
    let parts = and_parts (nat_lt (2 ^ k) bound) _ all in
    ⊎_elim (λ e. let same = eqb-true n (2 ^ k) e in let below = ltb-true (2 ^ k) bound parts.0 in omega (arith, same, below))
    (λ e. below_bound n bound ks parts.1 e) (or_cases _ _ some)

narrow_alignment : (n : ℕ) → is_alignment n ≡ true → n < 2 ^ 32
narrow_alignment n h = below_bound n (2 ^ 32) (range_with_len 0 30) refl h

abbrev EachNarrow : List ReprItem → Type 0
EachNarrow [] = ⊤
EachNarrow (item ∷ items) = IsItemNarrow item × EachNarrow items

union_narrow : (items : List ReprItem) → is_union_form items ≡ true → EachNarrow items
union_narrow [] h = tt
union_narrow (C ∷ []) h = (tt, tt)
union_narrow (Packed n ∷ []) h = (narrow_alignment n h, tt)
union_narrow (Align n ∷ []) h = (narrow_alignment n h, tt)
union_narrow (C ∷ Packed n ∷ []) h = (tt, (narrow_alignment n h, tt))
union_narrow (Packed n ∷ C ∷ []) h = (narrow_alignment n h, (tt, tt))
union_narrow (C ∷ Align n ∷ []) h = (tt, (narrow_alignment n h, tt))
union_narrow (Align n ∷ C ∷ []) h = (narrow_alignment n h, (tt, tt))
union_narrow items h = absurd (false≢true h)

struct_narrow : (items : List ReprItem) → is_struct_form items ≡ true → EachNarrow items
struct_narrow (Transparent ∷ []) h = (tt, tt)
struct_narrow items h = union_narrow items h

enum_narrow : (vs : List DeclVariant) (items : List ReprItem) → is_enum_form vs items ≡ true → EachNarrow items
enum_narrow vs [] h = tt
enum_narrow vs (C ∷ []) h = (tt, tt)
enum_narrow vs (Int p ∷ []) h = (tt, tt)
enum_narrow vs (C ∷ Int p ∷ []) h = (tt, (tt, tt))
enum_narrow vs (Int p ∷ C ∷ []) h = (tt, (tt, tt))
enum_narrow vs items h = absurd (false≢true h)

form_narrow : (kind : Kind) (vs : List DeclVariant) (items : List ReprItem) → is_form kind vs items ≡ true → EachNarrow items
form_narrow Struct vs items h = struct_narrow items h
form_narrow Union vs items h = union_narrow items h
form_narrow Enum vs items h = enum_narrow vs items h

placed_narrow : (reprs : List DeclRepr) → EachNarrow (map (λ repr. repr.item) reprs) → All (λ repr. IsItemNarrow repr.item) reprs
placed_narrow [] h = All-nil (λ repr. IsItemNarrow repr.item)
placed_narrow (r ∷ rs) h = All-cons (λ repr. IsItemNarrow repr.item) r rs h.0 (placed_narrow rs h.1)

module _ (profile : Profile) (name : ℕ → List ℕ) (file : Parsed) (sound : HasNoFault profile name file) (within : IsWithinLimits file) where
  decl_narrow : (d : Decl) → Member d file.decls → IsNarrow d
  decl_narrow d among = record {
    items = placed_narrow d.reprs (form_narrow d.kind d.variants (items_of d) (items_go_together profile name file sound d among));
    params = let few = (of_member HasFewParts file.decls d within.parts among).parameters in omega (arith, few);
    types = let few = (of_member HasFewParts file.decls d within.parts among).type_params in omega (arith, few);
    values = each_passes (λ v. is_value_narrow v.value) (valued d.variants) each;
  }
    where
      each : (v : Valued) → Member v (valued d.variants) → is_value_narrow v.value ≡ true
      each v m = narrow_in_range profile (tag_of d) (tag_is_ok (items_of d)) v.value (in_range profile (tag_of d) (valued d.variants) (values_right profile name file sound within d among) v m)

  pub decls_narrow : All IsNarrow file.decls
  decls_narrow = all_of_members IsNarrow file.decls decl_narrow
