-- What begins a type by its one level, and how many bytes a primitive has.
use Rattle.std.proofs.Common.{◌≡◌, ℕ, ◌≤◌, sym, ◌∙◌, ap, Bool, ◌||◌, [], Option, None, Some, unwrap_or, arith}
use Rattle.tm_base.specs.declared.ground.Ground.{Ground, out-Ground}
use Rattle.tm_base.specs.declared.ground.Ground.TheOpen.{Ground-F}
use Rattle.tm_base.specs.declared.ground.Primitive.{Primitive}
use Rattle.tm_base.specs.declared.ground.Primitive.TheVariants as primitive
use Rattle.tm_base.specs.declared.ground.Wrapper.{Wrapper}
use Rattle.tm_base.specs.declared.ground.Wrapper.TheVariants as wrapper
use Rattle.tm_base.specs.declared.profile.Profile.{Profile}
use Rattle.tm_base.specs.declared.profile.Profile.TheVariants.{Le64, Be64, Le32}
use Rattle.tm_base.specs.declared.world.World.{World}
use Rattle.tm_base.specs.Cells.{Word}
use Rattle.tm_base.specs.Expanded.{Expanded, named, level}
use Rattle.tm_base.specs.Layout.{prim_size, size_of, tag_layout}
use Rattle.tm_base.specs.Tables.{expanded_in}
use Rattle.tm_base.specs.Worlds.{tables_of}
use Rattle.tm_layout.proofs.TableLemmas.{wrapped-other}
use Rattle.tm_check.specs.Begins.{begins, takes_besides}
use Rattle.tm_layout.specs.LaidOut.{IsLaidOut}
use Rattle.tm_layout.proofs.LaidOutLemmas.{level-of}

module _ (world : World) where
  abbrev part : Ground → Expanded
  part = expanded_in (tables_of world)

  abbrev one_level : Ground-F Ground → Expanded
  one_level = level part world.profile world.defs world.named

  -- what begins a type begins its one level
  pub level-begins : (A : ℕ → ℕ → Bool) (keep : Bool) (g : Ground) (x : Ground-F Ground) (w : Word) → IsLaidOut (tables_of world) g → out-Ground g ≡ x → begins A keep (one_level x) w ≡ begins A keep (part g) w
  level-begins A keep g x w laid e = ap (λ t. begins A keep t w) (sym (level-of world g x laid e))

  -- a wrapper begins with what it takes besides, or with what it holds
  pub wrapped-begins : (A : ℕ → ℕ → Bool) (keep : Bool) (g k : Ground) (w : Wrapper) (v : Word) → (w ≡ wrapper.PhantomData → ⊥) → IsLaidOut (tables_of world) g → out-Ground g ≡ Ground-F.Wrap w k
      → (takes_besides w (size_of (part k)) v || begins A keep (part k) v) ≡ begins A keep (part g) v
  unfolding begins
  wrapped-begins A keep g k w v other laid e = ap (λ t. begins A keep t v) (sym (level-of world g (Ground-F.Wrap w k) laid e ∙ wrapped-other (tables_of world) [] w k other))

-- how many bytes a primitive may have
pub prim-small : (profile : Profile) (p : Primitive) → prim_size profile p ≤ 16
prim-small Le64 primitive.Usize = omega arith
prim-small Be64 primitive.Usize = omega arith
prim-small Le32 primitive.Usize = omega arith
prim-small Le64 primitive.Isize = omega arith
prim-small Be64 primitive.Isize = omega arith
prim-small Le32 primitive.Isize = omega arith
prim-small profile p = omega arith

-- a tag has as many bytes as its type
pub tag-sized : (profile : Profile) (tag : Option Primitive) (p : Primitive) → p ≡ unwrap_or tag primitive.I32 → prim_size profile p ≡ (tag_layout profile tag).size
tag-sized profile None p e = ap (prim_size profile) e
tag-sized profile (Some q) p e = ap (prim_size profile) e
