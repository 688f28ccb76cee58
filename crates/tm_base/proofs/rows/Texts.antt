-- Canonical texts of small types.
use Rattle.std.proofs.Common.{◌≡◌, refl, true, [], ◌∷◌}
use Rattle.std.specs.Prelude.{codes}
use Rattle.std.specs.Fmt.{digits}
use Rattle.tm_base.specs.declared.profile.Profile.TheVariants.{Le64}
use Rattle.tm_base.specs.declared.definition.Kind.TheVariants.{Struct}
use Rattle.tm_base.specs.declared.ground.Ground.{Prim, Tuple, Array, Named, NonZero, Wrap, Ref}
use Rattle.tm_base.specs.declared.ground.Ground.TheBlock.{hidden-the_row-Ground-0, shape-the_row-Ground-0, hidden-the_row-Ground-1, shape-the_row-Ground-1}
use Rattle.tm_base.specs.declared.ground.Primitive.TheVariants as p
use Rattle.tm_base.specs.declared.ground.Wrapper.TheVariants.{Option as option}
use Rattle.tm_base.specs.Spelled.{spell, spelled_within}
use Rattle.tm_base.specs.Tables.{Tables}
use Rattle.tm_base.specs.Texts.{text_of, spelled_text}
use Rattle.tm_base.proofs.rows.Types.{repr_c}

-- The named type 0 is `P<'a, 'static>`, 1 is `P<u8>`, 2 is `P<'a, P<u8>, &'a mut P<'a, 'static>>`; the
-- reference 0 is `&'a mut P<'a, 'static>`.
abbrev tables : Tables
tables = record {
  profile = Le64;
  defs = record { name = codes "P"; kind = Struct; repr = repr_c; variants = [] } ∷ [];
  regions = codes "'static" ∷ codes "'a" ∷ [];
  bounds = [];
  named =
      record { def = record { 0 = 0 }; regions = record { 0 = 1 } ∷ record { 0 = 0 } ∷ []; args = []; types = [] }
      ∷ record { def = record { 0 = 0 }; regions = []; args = Prim p.U8 ∷ []; types = [] }
      ∷ record { def = record { 0 = 0 }; regions = record { 0 = 1 } ∷ []; args = Named (record { 0 = 1 }) ∷ Ref (record { 0 = 0 }) ∷ []; types = [] }
      ∷ [];
  refs = record { mutable = true; region = record { 0 = 1 }; pointee = Named (record { 0 = 0 }) } ∷ [];
}

option-text : text_of tables (Wrap option (Prim p.Bool)) ≡ codes "Option<bool>"
unfolding spell spelled_within spelled_text hidden-the_row-Ground-1 shape-the_row-Ground-1 denote.Hole.Carrier.hidden
option-text = refl

pair-text : text_of tables (Tuple (Prim p.U8 ∷ NonZero p.U16 ∷ [])) ≡ codes "(u8, NonZero<u16>)"
unfolding spell spelled_within spelled_text hidden-the_row-Ground-0 shape-the_row-Ground-0 denote.Hole.Carrier.hidden
pair-text = refl

single-text : text_of tables (Tuple (Prim p.U8 ∷ [])) ≡ codes "(u8,)"
unfolding spell spelled_within spelled_text hidden-the_row-Ground-0 shape-the_row-Ground-0 denote.Hole.Carrier.hidden
single-text = refl

array-text : text_of tables (Array (Prim p.U8) 65537) ≡ codes "[u8; 65537]"
unfolding spell spelled_within spelled_text digits hidden-the_row-Ground-1 shape-the_row-Ground-1 denote.Hole.Carrier.hidden
array-text = refl

reference-text : text_of tables (Ref (record { 0 = 0 })) ≡ codes "&'a mut P<'a, 'static>"
unfolding spell spelled_within spelled_text hidden-the_row-Ground-1 shape-the_row-Ground-1 denote.Hole.Carrier.hidden
reference-text = refl

argument-text : text_of tables (Named (record { 0 = 1 })) ≡ codes "P<u8>"
unfolding spell spelled_within spelled_text hidden-the_row-Ground-1 shape-the_row-Ground-1 denote.Hole.Carrier.hidden
argument-text = refl

-- regions first, and what stands in an argument is written out too
given-text : text_of tables (Named (record { 0 = 2 })) ≡ codes "P<'a, P<u8>, &'a mut P<'a, 'static>>"
unfolding spell spelled_within spelled_text hidden-the_row-Ground-1 shape-the_row-Ground-1 denote.Hole.Carrier.hidden
given-text = refl
