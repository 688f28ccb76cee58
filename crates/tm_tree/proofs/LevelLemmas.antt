-- The trees of a type by its one level, and how many bytes a primitive has.
use Rattle.std.proofs.Common.{◌≡◌, refl, sym, ◌∙◌, ap, inl, inr, Bool, []}
use Rattle.tm_base.specs.declared.ground.Ground.{Ground, out-Ground}
use Rattle.tm_base.specs.declared.ground.Ground.TheOpen.{Ground-F}
use Rattle.tm_base.specs.declared.ground.Primitive.{Primitive}
use Rattle.tm_base.specs.declared.ground.Primitive.TheVariants as primitive
use Rattle.tm_base.specs.declared.ground.Wrapper.{Wrapper}
use Rattle.tm_base.specs.declared.ground.Wrapper.TheVariants as wrapper
use Rattle.tm_base.specs.declared.profile.Profile.{Profile}
use Rattle.tm_base.specs.declared.profile.Profile.TheVariants.{Le64, Be64, Le32}
use Rattle.tm_base.specs.declared.world.World.{World}
use Rattle.tm_base.specs.Expanded.{Expanded, named, level}
use Rattle.tm_base.specs.Layout.{prim_size, size_of}
use Rattle.tm_base.specs.Tables.{expanded_in}
use Rattle.tm_base.specs.Worlds.{tables_of}
use Rattle.tm_layout.proofs.TableLemmas.{wrapped-other}
use Rattle.tm_niche.specs.Forms.{IsIntegerSize}
use Rattle.tm_layout.specs.LaidOut.{IsLaidOut}
use Rattle.tm_layout.proofs.LaidOutLemmas.{level-of}
use Rattle.tm_tree.specs.Parts.{parts_of, wrap_parts}

module _ (world : World) where
  abbrev part : Ground → Expanded
  part = expanded_in (tables_of world)

  abbrev one_level : Ground-F Ground → Expanded
  one_level = level part world.profile world.defs world.named

  -- a type has the trees of its one level
  pub level-parts : (g : Ground) (x : Ground-F Ground) → IsLaidOut (tables_of world) g → out-Ground g ≡ x → parts_of (one_level x) ≡ parts_of (part g)
  level-parts g x laid e = sym (ap parts_of (level-of world g x laid e))

  pub wrapped-parts : (g k : Ground) (w : Wrapper) → (w ≡ wrapper.PhantomData → ⊥) → IsLaidOut (tables_of world) g → out-Ground g ≡ Ground-F.Wrap w k → wrap_parts w (size_of (part k)) (parts_of (part k)) ≡ parts_of (part g)
  unfolding parts_of
  wrapped-parts g k w other laid e = sym (ap parts_of (level-of world g (Ground-F.Wrap w k) laid e ∙ wrapped-other (tables_of world) [] w k other))

-- a primitive has as many bytes as an integer may have
pub prim-integer : (profile : Profile) (p : Primitive) → IsIntegerSize (prim_size profile p)
prim-integer profile primitive.Bool = inl refl
prim-integer profile primitive.U8 = inl refl
prim-integer profile primitive.I8 = inl refl
prim-integer profile primitive.U16 = inr (inl refl)
prim-integer profile primitive.I16 = inr (inl refl)
prim-integer profile primitive.Char = inr (inr (inl refl))
prim-integer profile primitive.U32 = inr (inr (inl refl))
prim-integer profile primitive.I32 = inr (inr (inl refl))
prim-integer profile primitive.F32 = inr (inr (inl refl))
prim-integer profile primitive.U64 = inr (inr (inr (inl refl)))
prim-integer profile primitive.I64 = inr (inr (inr (inl refl)))
prim-integer profile primitive.F64 = inr (inr (inr (inl refl)))
prim-integer profile primitive.U128 = inr (inr (inr (inr refl)))
prim-integer profile primitive.I128 = inr (inr (inr (inr refl)))
prim-integer Le64 primitive.Usize = inr (inr (inr (inl refl)))
prim-integer Be64 primitive.Usize = inr (inr (inr (inl refl)))
prim-integer Le32 primitive.Usize = inr (inr (inl refl))
prim-integer Le64 primitive.Isize = inr (inr (inr (inl refl)))
prim-integer Be64 primitive.Isize = inr (inr (inr (inl refl)))
prim-integer Le32 primitive.Isize = inr (inr (inl refl))
