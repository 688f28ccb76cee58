-- A small file, closed by hand: which types occur, how deep one is, and what stands for one.
--
--     lifetime 'a;
--     struct Node<'x, T> { next: &'x Node<'x, T>, mark: PhantomData<(T,)> }
--     ask Node<'a, u8> => [u8; 2];
use Rattle.std.proofs.Common.{◌≡◌, ◌≢◌, ℕ, zero, suc, ◌<◌, false, true, refl, sym, subst, List, [], ◌∷◌, get_or, Contains, arith}
use Rattle.std.specs.Prelude.{codes}
use Rattle.tm_base.specs.declared.definition.Def.{Def}
use Rattle.tm_base.specs.declared.definition.DefId.{DefId}
use Rattle.tm_base.specs.declared.definition.NamedRow.{NamedRow}
use Rattle.tm_base.specs.declared.definition.RefRow.{RefRow}
use Rattle.tm_base.specs.declared.definition.RegionId.{RegionId}
use Rattle.tm_base.specs.declared.ground.Ground as ground_is
use Rattle.tm_base.specs.declared.ground.Primitive.TheVariants as primitive
use Rattle.tm_base.specs.declared.ground.Wrapper.TheVariants as wrapper
use Rattle.tm_base.specs.declared.profile.Profile.TheVariants.{Le64}
use Rattle.tm_names.specs.declared.resolved.Life.TheVariants as life
use Rattle.tm_names.specs.declared.resolved.Open.{Prim, Tuple, Array, Wrap, Named, Ref, Param}
use Rattle.tm_names.specs.declared.resolved.Open.TheBlock.{shape-the_row-Open-1, hidden-the_row-Open-1}
use Rattle.tm_names.specs.declared.resolved.Resolved.{Resolved}
use Rattle.tm_names.specs.ApartNames.{is_word_byte, is_own_name, HasApartNames}
use Rattle.tm_ground.specs.Belongs.{StandsFor}
use Rattle.tm_ground.specs.Closed.{Closed, prim, tuple, array, wrap, named, ref, no_elements, element, nodes, put_in}
use Rattle.tm_ground.specs.ClosedTexts.{closed_text}
use Rattle.tm_ground.specs.Limits.{depth_passes}
use Rattle.tm_ground.specs.Occurs.{asked_types, parts_of, Occurs, is_asked, is_part}
use Rattle.tm_ground.proofs.forms.OpenLemmas.{put_ins}

abbrev node : DefId
node = record { 0 = 0 }

abbrev region_a : RegionId
region_a = record { 0 = 1 }

abbrev file : Resolved
file = record {
  profile = Le64;
  defs = [];
  types = ((Ref (life.Param 0) false (Named node (life.Param 0 ∷ []) (Param 0 ∷ [])) ∷ Wrap wrapper.PhantomData (Tuple (Param 0 ∷ [])) ∷ []) ∷ []) ∷ [];
  regions = [];
  bounds = [];
  asks = record {
    src = Named node (life.Declared 1 ∷ []) (Prim primitive.U8 ∷ []);
    dst = Array (Prim primitive.U8) 2;
    assume = record { alignment = false; lifetimes = false; safety = false; validity = false };
  } ∷ [];
}

abbrev node_a : Closed
node_a = named node (region_a ∷ []) (element (prim primitive.U8) no_elements)

abbrev ref_node_a : Closed
ref_node_a = ref region_a false node_a

abbrev bytes : Closed
bytes = tuple (element (prim primitive.U8) no_elements)

-- both sides, with the declared lifetime as a region
asked : asked_types file ≡ node_a ∷ array (prim primitive.U8) 2 ∷ []
asked = simp put_ins

-- the argument and the fields, with the region and the argument in place of the parameters
parts : parts_of file node_a ≡ prim primitive.U8 ∷ ref_node_a ∷ wrap wrapper.PhantomData bytes ∷ []
parts = simp put_ins

-- the reference occurs, under the field of a named type
ref_occurs : Occurs file ref_node_a
unfolding nodes
ref_occurs =
    let first = is_asked node_a (subst (λ cs. Contains cs node_a) (sym asked) (0, omega arith, refl)) in
    is_part node_a ref_node_a first refl (subst (λ cs. Contains cs ref_node_a) (sym parts) (1, omega arith, refl))

-- a reference and `PhantomData` hold nothing by value: the struct has depth 2, though it leads to itself
depth_two : depth_passes file 1 node_a ≡ true
unfolding depth_passes put_in shape-the_row-Open-1 hidden-the_row-Open-1 denote.Hole.Carrier.hidden
depth_two = refl

not_deeper : depth_passes file 2 node_a ≡ false
unfolding depth_passes put_in shape-the_row-Open-1 hidden-the_row-Open-1 denote.Hole.Carrier.hidden
not_deeper = refl

-- the struct has a node for itself and one for its argument, and the reference one more
nodes_two : nodes node_a ≡ 2
unfolding nodes
nodes_two = refl

nodes_three : nodes ref_node_a ≡ 3
unfolding nodes
nodes_three = refl

-- its canonical text has the region first
text : (def : Def) → def.name ≡ codes "Node" → closed_text (record file { defs = def ∷ []; regions = codes "'static" ∷ codes "'a" ∷ [] }) ref_node_a ≡ codes "&'a Node<'a, u8>"
unfolding closed_text
text def e = rw e refl

-- the first named row and the first reference row stand for the two types
abbrev row : NamedRow
row = record { def = node; regions = region_a ∷ []; args = ground_is.Prim primitive.U8 ∷ []; types = [] }

abbrev ref_row : RefRow
ref_row = record { mutable = false; region = region_a; pointee = ground_is.Named (record { 0 = 0 }) }

stands : StandsFor (row ∷ []) (ref_row ∷ []) ref_node_a (ground_is.Ref (record { 0 = 0 }))
unfolding StandsFor
stands = (record { 0 = 0 }, refl, ref_row, refl, refl, refl, (record { 0 = 0 }, refl, row, refl, refl, refl, (refl, refl)))

-- the names of the whole file are apart, and no definition could have the name of a primitive
names_apart : (def : Def) → def.name ≡ codes "Node" → HasApartNames (record file { defs = def ∷ []; regions = codes "'static" ∷ codes "'a" ∷ [] })
unfolding is_own_name is_word_byte
names_apart def e = record {
  own_names = rw e refl;
  names_distinct = record { apart = λ i j d k l s. absurd (omega (arith, k, l)) };
  region_names = refl;
  regions_distinct = record { apart = two };
}
  where
    two : (i j : ℕ) (d : List ℕ) → i < j → j < 2 → get_or (codes "'static" ∷ codes "'a" ∷ []) i d ≢ get_or (codes "'static" ∷ codes "'a" ∷ []) j d
    two zero zero d k l s = omega (arith, k)
    two zero (suc zero) d k l s = cc
    two zero (suc (suc j)) d k l s = omega (arith, l)
    two (suc i) j d k l s = omega (arith, k, l)

name_taken : is_own_name (codes "u8") ≡ false
unfolding is_own_name is_word_byte
name_taken = refl
