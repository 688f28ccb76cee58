-- What the names of a file without faults mean: a name the first type parameter in sight or the first
-- definition that has it, a lifetime `'static` or the first parameter or declared lifetime.
use Rattle.std.specs.Prelude.{ℕ, ◌+◌, true, false, if◌then◌else◌, Option, Some, None, unwrap_or, List, [], ◌∷◌, map, codes, fold, option_map}
use Rattle.tm_base.specs.declared.definition.Bound.{Bound}
use Rattle.tm_base.specs.declared.definition.Def.{Def}
use Rattle.tm_base.specs.declared.definition.Field.{Field}
use Rattle.tm_base.specs.declared.definition.RegionId.{RegionId}
use Rattle.tm_base.specs.declared.definition.Repr.{Repr}
use Rattle.tm_base.specs.declared.definition.Variant.{Variant}
use Rattle.tm_base.specs.declared.profile.Profile.{Profile}
use Rattle.tm_names.specs.declared.meaning.Meaning.{Meaning}
use Rattle.tm_names.specs.declared.meaning.Meaning.TheVariants.{Definition, Parameter}
use Rattle.tm_names.specs.declared.resolved.Life.{Life}
use Rattle.tm_names.specs.declared.resolved.Life.TheVariants as life_is
use Rattle.tm_names.specs.declared.resolved.Open.{Open as Type', Prim, Never, Tuple, Array, NonZero, Wrap, Named, Ref, Param}
use Rattle.tm_names.specs.declared.resolved.OpenAsk.{OpenAsk}
use Rattle.tm_names.specs.declared.resolved.Resolved.{Resolved}
use Rattle.tm_names.specs.Discriminants.{Valued, valued}
use Rattle.tm_names.specs.Meanings.{meaning_of}
use Rattle.tm_names.specs.Representations.{items_of}
use Rattle.tm_names.specs.Written.{first_among, is_static}
use Rattle.tm_parse.specs.declared.parsed.Decl.{Decl}
use Rattle.tm_parse.specs.declared.parsed.DeclAsk.{DeclAsk}
use Rattle.tm_parse.specs.declared.parsed.DeclBound.{DeclBound}
use Rattle.tm_parse.specs.declared.parsed.DeclField.{DeclField}
use Rattle.tm_parse.specs.declared.parsed.DeclVariant.{DeclVariant}
use Rattle.tm_parse.specs.declared.parsed.Expr as expr
use Rattle.tm_parse.specs.declared.parsed.Expr.{Expr, Row_of-Expr, end_of-Expr, more_of-Expr, Tuple', Array', Wrap', Named', Ref'}
use Rattle.tm_parse.specs.declared.parsed.Parsed.{Parsed}
use Rattle.tm_parse.specs.declared.parsed.ReprItem.{ReprItem}
use Rattle.tm_parse.specs.declared.parsed.ReprItem.TheVariants as item

-- what each item of a `repr` attribute says
abbrev pub with_item : Repr → ReprItem → Repr
with_item repr item.C = record repr { c = true }
with_item repr item.Transparent = record repr { transparent = true }
with_item repr (item.Int p) = record repr { tag = Some p }
with_item repr (item.Packed n) = record repr { packed = Some n }
with_item repr (item.Align n) = record repr { align = Some n }

abbrev pub no_repr : Repr
no_repr = record { c = false; transparent = false; tag = None; packed = None; align = None }

abbrev pub repr_of : List ReprItem → Repr
repr_of = fold with_item no_repr

module _ (name : ℕ → List ℕ) where
  -- a name that is written, or the empty one
  abbrev pub text_or_none : Option ℕ → List ℕ
  text_or_none None = []
  text_or_none (Some place) = name place

  abbrev pub field_of : DeclField → Field
  field_of field = record { name = text_or_none field.name; public = field.public }

  abbrev pub variant_of : Valued → Variant
  variant_of v = record { name = text_or_none v.variant.name; value = v.value; fields = map field_of v.variant.fields }

  abbrev pub def_of : Decl → Def
  def_of d = record { name = name d.name; kind = d.kind; repr = repr_of (items_of d); variants = map variant_of (valued d.variants) }

  -- a lifetime, where `made` is what the number of one in sight is taken to be
  abbrev pub life_of : (ℕ → Life) → List ℕ → ℕ → Life
  life_of made sight place = if is_static name place then life_is.Static else unwrap_or (option_map made (first_among name sight place)) life_is.Static

  -- a parameter, and a declared lifetime, whose regions stand behind that of `'static`
  abbrev pub param_of : List ℕ → ℕ → Life
  param_of = life_of life_is.Param

  abbrev pub declared_of : List ℕ → ℕ → Life
  declared_of = life_of (λ k. life_is.Declared (k + 1))

-- a type that names something, with the lifetimes and the types that are given to it
abbrev pub named : Option Meaning → List Life → List Type' → Type'
named None lives types = Named (record { 0 = 0 }) lives types
named (Some (Definition number)) lives types = Named (record { 0 = number }) lives types
named (Some (Parameter number)) lives types = Param number

-- a type, where these say what a name and a lifetime at a place mean
module _ (meaning : ℕ → Option Meaning) (life : ℕ → Life) where
  unfoldable mutual
    pub type_of : Expr → Type'
    type_of (expr.Prim p) = Prim p
    type_of expr.Never = Never
    type_of (Tuple' shape row) = Tuple (row_types row)
    type_of (Array' shape row n) = Array (first_type row) n
    type_of (expr.NonZero p) = NonZero p
    type_of (Wrap' w shape row) = Wrap w (first_type row)
    type_of (Named' place lifetimes shape row) = named (meaning place) (map life lifetimes) (row_types row)
    type_of (Ref' place mutable shape row) = Ref (life place) mutable (first_type row)

    pub row_types : {m : _} → Row_of-Expr m → List Type'
    row_types end_of-Expr = []
    row_types (more_of-Expr e es) = type_of e ∷ row_types es

    pub first_type : {m : _} → Row_of-Expr m → Type'
    first_type end_of-Expr = Never
    first_type (more_of-Expr e es) = type_of e

module _ (name : ℕ → List ℕ) where
  -- a type in a definition's field, and one outside of definitions
  abbrev pub field_type : List Decl → Decl → Expr → Type'
  field_type decls d = type_of (meaning_of name decls d.type_params) (param_of name d.params)

  abbrev pub outer_type : Parsed → Expr → Type'
  outer_type file = type_of (meaning_of name file.decls []) (declared_of name file.lifetimes)

  -- the types of a definition's fields, and those of a question
  abbrev pub variant_types : List Decl → Decl → DeclVariant → List Type'
  variant_types decls d v = map (λ field. field_type decls d field.ty) v.fields

  abbrev pub decl_types : List Decl → Decl → List (List Type')
  decl_types decls d = map (variant_types decls d) d.variants

  abbrev pub ask_of : Parsed → DeclAsk → OpenAsk
  ask_of file ask = record { src = outer_type file ask.src; dst = outer_type file ask.dst; assume = ask.assume }

  -- a declared lifetime as a region; 0 is that of `'static`
  abbrev pub region_of : List ℕ → ℕ → RegionId
  region_of lifetimes place = record { 0 = if is_static name place then 0 else unwrap_or (option_map (λ k. k + 1) (first_among name lifetimes place)) 0 }

  abbrev pub bound_of : List ℕ → DeclBound → Bound
  bound_of lifetimes bound = record { longer = region_of lifetimes bound.longer; shorter = region_of lifetimes bound.shorter }

  abbrev pub regions_of : List ℕ → List (List ℕ)
  regions_of lifetimes = codes "'static" ∷ map name lifetimes

-- the whole file, for a profile
abbrev pub resolved_of : Profile → (ℕ → List ℕ) → Parsed → Resolved
resolved_of profile name file = record {
  profile = profile;
  defs = map (def_of name) file.decls;
  types = map (decl_types name file.decls) file.decls;
  regions = regions_of name file.lifetimes;
  bounds = map (bound_of name file.lifetimes) file.bounds;
  asks = map (ask_of name file) file.questions;
}
