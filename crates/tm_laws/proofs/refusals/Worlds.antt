-- The references of a world's types are the world's. So no word of a source has an open one.
use Rattle.std.proofs.Common.{◌≡◌, ℕ, zero, suc, ◌<◌, refl, true, List, [], ◌∷◌, ◌++◌, length, Option, Some, None, slice_get, arith}
use Rattle.std.specs.List.{All, list_all, flat_map}
use Rattle.std.proofs.lemmas.Bool.{and_parts}
use Rattle.std.proofs.lemmas.List.Elements.{All-nil, All-cons, All-append, All-weaker, All-contains}
use Rattle.tm_base.specs.declared.assume.Assume.{Assume}
use Rattle.tm_base.specs.declared.cell.Cell.{Cell}
use Rattle.tm_base.specs.declared.cell.Cell.TheVariants.{Byte, Uninit, Ptr}
use Rattle.tm_base.specs.declared.definition.NamedRow.{NamedRow}
use Rattle.tm_base.specs.declared.definition.RefRow.{RefRow}
use Rattle.tm_base.specs.declared.ground.Ground.{Ground, out-Ground}
use Rattle.tm_base.specs.declared.ground.Ground.TheOpen.{Ground-F}
use Rattle.tm_base.specs.declared.ground.Wrapper.{Wrapper}
use Rattle.tm_base.specs.declared.ground.Wrapper.TheVariants as wrapper
use Rattle.tm_base.specs.declared.world.World.{World}
use Rattle.tm_base.specs.Cells.{Word}
use Rattle.tm_base.specs.Compatible.{Compatible}
use Rattle.tm_base.specs.Expanded.{Expanded, expanded_within, depth_limit}
use Rattle.tm_base.specs.Reaches.{Enters, Reaches, argument_of, row_parts, row_pointee, parts_within, pointees_within, parts_of, pointees_of}
use Rattle.tm_base.specs.Tables.{expanded_in, pointee_in}
use Rattle.tm_base.specs.Transmutes.{Same, IsSourceWord}
use Rattle.tm_base.specs.Worlds.{tables_of, IsTypeOver}
use Rattle.tm_base.proofs.JudgedLemmas.{ChainIn-keeps}
use Rattle.tm_laws.specs.WordLaws.{IsClosed, IsOfSources}
use Rattle.tm_laws.proofs.known.CompatibleLemmas.{Compatible-rows}
use Rattle.tm_laws.proofs.refusals.Formed.{formed, PartsFormed, formed-level, IsFormed, row-formed, pointee-formed, over-formed, All-from_list_all}
use Rattle.tm_laws.proofs.whole.Leaves.{Leaf, leaves}
use Rattle.tm_laws.proofs.whole.Types.{HasParts, level-leaves}
use Rattle.tm_laws.proofs.whole.Words.{IsCellOf, IsHeldBy, cell-weaker, pointers-related}
use Rattle.tm_laws.proofs.known.WordSearchLemmas.{IsWithin}

module _ (world : World) where
  -- the number of a reference is below the number of the world's
  abbrev IsKnownLeaf : Leaf → Type 0
  IsKnownLeaf leaf = leaf.number < length world.refs

  -- the numbers of a type's references are
  abbrev pub HasKnownLeaves : Expanded → Type 0
  HasKnownLeaves t = All IsKnownLeaf (leaves t)

  formed_all : (gs : List Ground) → list_all (formed (length world.named) (length world.refs)) gs ≡ true → All (IsFormed world) gs
  formed_all gs h = All-from_list_all (formed (length world.named) (length world.refs)) (IsFormed world) (λ g e. e) gs h

  formed_parts : (x : Ground-F Ground) → PartsFormed (length world.named) (length world.refs) x → HasParts IsKnownLeaf (IsFormed world) world.profile world.named x
  formed_parts (Ground-F.Tuple gs) h = formed_all gs h
  formed_parts (Ground-F.Array g n) h = h
  formed_parts (Ground-F.Named id) h = λ row e. All-from_list_all (list_all (formed (length world.named) (length world.refs))) (All (IsFormed world)) formed_all row.types (row-formed world id.0 row e)
  formed_parts (Ground-F.Wrap w g) h = h
  formed_parts (Ground-F.Ref r) h = h
  formed_parts (Ground-F.Prim p) h = tt
  formed_parts Ground-F.Never h = tt
  formed_parts Ground-F.Unit h = tt
  formed_parts (Ground-F.NonZero p) h = tt

  formed-known_within : (n : ℕ) (g : Ground) → IsFormed world g → HasKnownLeaves (expanded_within world.profile n world.defs world.named g)
  unfolding expanded_within leaves
  formed-known_within zero g h = All-nil IsKnownLeaf
  formed-known_within (suc n) g h =
      level-leaves IsKnownLeaf (IsFormed world) world.profile (expanded_within world.profile n world.defs world.named) (λ k. formed-known_within n k)
      world.defs world.named (out-Ground g) (formed_parts (out-Ground g) (formed-level (length world.named) (length world.refs) g h))

  pub formed-known : (g : Ground) → IsFormed world g → HasKnownLeaves (expanded_in (tables_of world) g)
  formed-known g h = formed-known_within depth_limit g h

  -- it is so of each type over the world
  pub leaves-known : (g : Ground) → IsTypeOver (tables_of world) g → HasKnownLeaves (expanded_in (tables_of world) g)
  leaves-known g h = formed-known g (over-formed world g h)

  -- and of each pointee
  pub pointee-known : (k : ℕ) (row : RefRow) → slice_get world.refs k ≡ Some row → HasKnownLeaves (pointee_in (tables_of world) row)
  pointee-known k row e = formed-known row.pointee (pointee-formed world k row e)

  -- parts of a type over the world
  abbrev AreFormed : List Ground → Type 0
  AreFormed gs = All (IsFormed world) gs

  one_formed : (g : Ground) → IsFormed world g → AreFormed (g ∷ [])
  one_formed g h = All-cons (IsFormed world) g [] h (All-nil (IsFormed world))

  types_formed : (types : List (List Ground)) → list_all (list_all (formed (length world.named) (length world.refs))) types ≡ true → AreFormed (flat_map (λ gs. gs) types)
  types_formed [] h = All-nil (IsFormed world)
  types_formed (gs ∷ types) h =
      let both = and_parts (list_all (formed (length world.named) (length world.refs)) gs) (list_all (list_all (formed (length world.named) (length world.refs))) types) h in
      All-append (IsFormed world) gs (flat_map (λ gs. gs) types) (All-from_list_all (formed (length world.named) (length world.refs)) (IsFormed world) (λ g e. e) gs both.0) (types_formed types both.1)

  row_parts-formed : (row : Option NamedRow) → ((one : NamedRow) → row ≡ Some one → list_all (list_all (formed (length world.named) (length world.refs))) one.types ≡ true) → AreFormed (row_parts row)
  row_parts-formed None h = All-nil (IsFormed world)
  row_parts-formed (Some row) h = types_formed row.types (h row refl)

  row_pointee-formed : (row : Option RefRow) → ((one : RefRow) → row ≡ Some one → IsFormed world one.pointee) → AreFormed (row_pointee row)
  row_pointee-formed None h = All-nil (IsFormed world)
  row_pointee-formed (Some row) h = one_formed row.pointee (h row refl)

  argument-formed : (w : Wrapper) (g : Ground) → IsFormed world g → AreFormed (argument_of w g)
  argument-formed wrapper.PhantomData g h = All-nil (IsFormed world)
  argument-formed w g h = one_formed g h

  parts-formed : (x : Ground-F Ground) → PartsFormed (length world.named) (length world.refs) x → AreFormed (parts_within world.named x)
  parts-formed (Ground-F.Tuple gs) h = All-from_list_all (formed (length world.named) (length world.refs)) (IsFormed world) (λ g e. e) gs h
  parts-formed (Ground-F.Array g n) h = one_formed g h
  parts-formed (Ground-F.Named id) h = row_parts-formed (slice_get world.named id.0) (λ row e. row-formed world id.0 row e)
  parts-formed (Ground-F.Wrap w g) h = argument-formed w g h
  parts-formed x h = All-nil (IsFormed world)

  pointees-formed : (x : Ground-F Ground) → AreFormed (pointees_within world.refs x)
  pointees-formed (Ground-F.Ref r) = row_pointee-formed (slice_get world.refs r.0) (λ row e. pointee-formed world r.0 row e)
  pointees-formed x = All-nil (IsFormed world)

  -- no step leads out of the types whose numbers are the world's
  pub enters-formed : (g h : Ground) → IsFormed world g → Enters (tables_of world) g h → IsFormed world h
  enters-formed g h f step =
      let level_formed = formed-level (length world.named) (length world.refs) g f in
      All-contains (IsFormed world) (parts_of (tables_of world) g ++ pointees_of (tables_of world) g) h
      (All-append (IsFormed world) (parts_of (tables_of world) g) (pointees_of (tables_of world) g)
      (parts-formed (out-Ground g) level_formed) (pointees-formed (out-Ground g))) step

  -- the references of each type that a type over the world reaches are the world's
  pub reached-known : (g h : Ground) → IsTypeOver (tables_of world) g → Reaches (tables_of world) g h → HasKnownLeaves (expanded_in (tables_of world) h)
  reached-known g h over (n, way) = formed-known h (ChainIn-keeps (Enters (tables_of world)) (IsFormed world) enters-formed n g h (over-formed world g over) way)

  pub compatible-of_sources : (assume : Assume) → IsOfSources (Compatible (tables_of world) assume)
  compatible-of_sources assume x t h =
      let (below, other) = Compatible-rows (tables_of world) assume x t h in
      let few = world.few_refs in
      omega arith

  held-known : (s : Expanded) → HasKnownLeaves s → (x : ℕ) → IsHeldBy Same s x → x < length world.refs
  held-known s known x (leaf, inside, same) =
      let below : leaf.number < length world.refs = All-contains IsKnownLeaf (leaves s) leaf known inside in
      omega arith

  -- the references in a word of a source are the world's
  pub source-within : (s : Expanded) → HasKnownLeaves s → (w : Word) → IsSourceWord s w → All (IsWithin (length world.refs)) w
  source-within s known w h =
      All-weaker (IsCellOf (IsHeldBy Same s)) (IsWithin (length world.refs)) (cell-weaker (IsHeldBy Same s) (λ x. x < length world.refs) (held-known s known)) w
      (pointers-related Same true s w h)

  cell_closed : (c : Cell) → IsWithin (length world.refs) c → IsClosed c
  cell_closed (Byte b) h = tt
  cell_closed Uninit h = tt
  cell_closed (Ptr r k) (below, short) =
      let few = world.few_refs in
      omega arith

  -- no word of a source has an open reference
  pub source-closed : (s : Expanded) → HasKnownLeaves s → (w : Word) → IsSourceWord s w → All IsClosed w
  source-closed s known w h = All-weaker (IsWithin (length world.refs)) IsClosed cell_closed w (source-within s known w h)
