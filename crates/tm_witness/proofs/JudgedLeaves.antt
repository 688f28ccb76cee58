-- What a reference in a judged type points to is judged.
use Rattle.std.proofs.Common.{◌≡◌, ℕ, zero, suc, refl, List, [], ◌∷◌, ◌++◌, Option, Some, slice_get, subst, sym, arith}
use Rattle.std.specs.List.{All, Contains, flat_map}
use Rattle.std.proofs.lemmas.List.Elements.{All-nil, All-weaker, All-cons, All-contains_itself, Contains-append_left, Contains-append_right}
use Rattle.tm_base.specs.declared.definition.NamedRow.{NamedRow}
use Rattle.tm_base.specs.declared.definition.RefRow.{RefRow}
use Rattle.tm_base.specs.declared.ground.Ground.{Ground, out-Ground}
use Rattle.tm_base.specs.declared.ground.Ground.TheOpen.{Ground-F}
use Rattle.tm_base.specs.declared.ground.Wrapper.TheVariants as wrapper
use Rattle.tm_base.specs.Expanded.{Expanded, expanded_within, depth_limit, level}
use Rattle.tm_base.specs.Reaches.{ChainIn, Enters, IsJudged, row_parts, parts_within, pointees_within, row_pointee}
use Rattle.tm_base.specs.Tables.{Tables, expanded_in}
use Rattle.tm_laws.proofs.whole.Leaves.{Leaf, leaves}
use Rattle.tm_laws.proofs.whole.Types.{HasParts, level-leaves}

module _ (tables : Tables) where
  -- what the reference points to is judged
  abbrev pub IsJudgedLeaf : Leaf → Type 0
  IsJudgedLeaf leaf = (row : RefRow) → slice_get tables.refs leaf.number ≡ Some row → IsJudged tables row.pointee

  -- what a judged type leads to in one step is judged
  enters-judged : (g h : Ground) → IsJudged tables g → Enters tables g h → IsJudged tables h
  unfolding ChainIn
  enters-judged g h judged enters = λ k (n, way). judged k (suc n, (h, enters, way))

  AllIn : (gs : List Ground) → ((h : Ground) → Contains gs h → IsJudged tables h) → All (IsJudged tables) gs
  AllIn gs each = All-weaker (Contains gs) (IsJudged tables) each gs (All-contains_itself gs)

  types_judged : (types : List (List Ground)) → ((h : Ground) → Contains (flat_map (λ gs. gs) types) h → IsJudged tables h) → All (All (IsJudged tables)) types
  types_judged [] each = All-nil (All (IsJudged tables))
  types_judged (gs ∷ types) each =
      All-cons (All (IsJudged tables)) gs types (AllIn gs (λ h at. each h (Contains-append_left gs (flat_map (λ gs. gs) types) h at)))
      (types_judged types (λ h at. each h (Contains-append_right gs (flat_map (λ gs. gs) types) h at)))

  abbrev EachIsJudged : List Ground → Type 0
  EachIsJudged gs = (h : Ground) → Contains gs h → IsJudged tables h

  row_judged : (row : NamedRow) (found : Option NamedRow) → found ≡ Some row → EachIsJudged (row_parts found ++ []) → All (All (IsJudged tables)) row.types
  row_judged row found e judged =
      types_judged row.types (λ h at. judged h (subst (λ (o : Option NamedRow). Contains (row_parts o ++ []) h) (sym e) (Contains-append_left (flat_map (λ gs. gs) row.types) [] h at)))

  pointee_judged : (row : RefRow) (found : Option RefRow) → found ≡ Some row → EachIsJudged ([] ++ row_pointee found) → IsJudged tables row.pointee
  pointee_judged row found e judged = judged row.pointee (subst (λ (o : Option RefRow). Contains ([] ++ row_pointee o) row.pointee) (sym e) (zero, omega arith, refl))

  module _ (n : ℕ) (each : (g : Ground) → IsJudged tables g → All IsJudgedLeaf (leaves (expanded_within tables.profile n tables.defs tables.named g))) where
    abbrev part : Ground → Expanded
    part = expanded_within tables.profile n tables.defs tables.named

    by_level : (x : Ground-F Ground) → HasParts IsJudgedLeaf (IsJudged tables) tables.profile tables.named x → All IsJudgedLeaf (leaves (level part tables.profile tables.defs tables.named x))
    by_level x h = level-leaves IsJudgedLeaf (IsJudged tables) tables.profile part each tables.defs tables.named x h

    -- one level of a type whose parts and pointee are judged
    level-judged : (x : Ground-F Ground) → EachIsJudged (parts_within tables.named x ++ pointees_within tables.refs x) → All IsJudgedLeaf (leaves (level part tables.profile tables.defs tables.named x))
    unfolding leaves
    level-judged (Ground-F.Wrap wrapper.PhantomData g) judged = All-nil IsJudgedLeaf
    level-judged (Ground-F.Wrap w g) judged = each g (judged g (zero, omega arith, refl))
    level-judged (Ground-F.Tuple gs) judged = by_level (Ground-F.Tuple gs) (AllIn gs (λ h at. judged h (Contains-append_left gs [] h at)))
    level-judged (Ground-F.Array g count) judged = each g (judged g (zero, omega arith, refl))
    level-judged (Ground-F.Named id) judged = by_level (Ground-F.Named id) (λ row e. row_judged row (slice_get tables.named id.0) e judged)
    level-judged (Ground-F.Ref r) judged = by_level (Ground-F.Ref r) (λ row e. pointee_judged row (slice_get tables.refs r.0) e judged)
    level-judged (Ground-F.Prim p) judged = All-nil IsJudgedLeaf
    level-judged Ground-F.Never judged = All-nil IsJudgedLeaf
    level-judged Ground-F.Unit judged = All-nil IsJudgedLeaf
    level-judged (Ground-F.NonZero p) judged = All-nil IsJudgedLeaf

  judged_within : (n : ℕ) (g : Ground) → IsJudged tables g → All IsJudgedLeaf (leaves (expanded_within tables.profile n tables.defs tables.named g))
  unfolding expanded_within leaves
  judged_within zero g judged = All-nil IsJudgedLeaf
  judged_within (suc n) g judged = level-judged n (λ k. judged_within n k) (out-Ground g) (λ h at. enters-judged g h judged at)

  pub judged-leaves : (g : Ground) → IsJudged tables g → All IsJudgedLeaf (leaves (expanded_in tables g))
  judged-leaves g judged = judged_within depth_limit g judged
