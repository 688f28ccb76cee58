-- A list that holds all types that a type reaches; and it is known whether one of these passes a test.
use Rattle.std.proofs.Common.{◌≡◌, ℕ, zero, suc, ◌⊎◌, inl, inr, ⊎_elim, refl, sym, ◌∙◌, subst, Bool, true, List, [], ◌∷◌, ◌++◌, map, slice_get}
use Rattle.std.specs.List.{flat_map}
use Rattle.tm_base.specs.declared.definition.NamedRow.{NamedRow}
use Rattle.tm_base.specs.declared.definition.RefRow.{RefRow}
use Rattle.tm_base.specs.declared.ground.Ground.{Ground, out-Ground, roll-Ground, roll-out-Ground, Row_of-Ground, end_of-Ground, more_of-Ground, Prim, Never, Unit as the_unit, Tuple, Array, Wrap, Tuple', Array', Named, NonZero, Wrap', Ref}
use Rattle.tm_base.specs.declared.ground.Ground.TheOpen.{Ground-F}
use Rattle.tm_base.specs.declared.ground.Ground.TheVariants.{rolls-Tuple, rolls-Array, rolls-Wrap}
use Rattle.tm_base.specs.declared.ground.Wrapper.{Wrapper}
use Rattle.tm_base.specs.declared.ground.Wrapper.TheVariants as wrapper
use Rattle.tm_base.specs.Reaches.{argument_of, row_parts, row_pointee, parts_within, pointees_within, parts_of, pointees_of, Enters, Reaches}
use Rattle.tm_base.specs.Tables.{Tables}
use Rattle.tm_base.specs.Whole.{written_types, row_types}
use Rattle.tm_base.proofs.GroundLemmas.{written_types-Tuple, written_types-Array, written_types-Wrap}
use Rattle.tm_base.proofs.JudgedLemmas.{ChainIn-keeps}
use Rattle.tm_laws.proofs.known.ListedLemmas.{IsIn, IsIn-left, IsIn-right, IsIn-append, IsIn-flat_map, flat_map-IsIn, IsIn-from_Contains, Contains-from_IsIn}
use Rattle.tm_laws.proofs.known.ReachLemmas.{LeadsTo-known}

-- what is written right inside a type
abbrev inner : Ground-F Ground → List Ground
inner (Ground-F.Tuple gs) = gs
inner (Ground-F.Array g n) = g ∷ []
inner (Ground-F.Wrap w g) = argument_of w g
inner _ = []

pub written-first : (g : Ground) → IsIn g (written_types g)
unfolding written_types
written-first (Tuple' shape row) = inl refl
written-first (Array' shape row n) = inl refl
written-first (Wrap' w shape row) = inl refl
written-first (Prim q) = inl refl
written-first Never = inl refl
written-first the_unit = inl refl
written-first (Named id) = inl refl
written-first (NonZero q) = inl refl
written-first (Ref r) = inl refl

argument-only : (w : Wrapper) (g b : Ground) → IsIn b (argument_of w g) → g ≡ b
argument-only wrapper.PhantomData g b h = absurd h
argument-only wrapper.Option g b h = ⊎_elim (λ e. e) (λ (n : ⊥). absurd n) h
argument-only wrapper.MaybeUninit g b h = ⊎_elim (λ e. e) (λ (n : ⊥). absurd n) h
argument-only wrapper.ManuallyDrop g b h = ⊎_elim (λ e. e) (λ (n : ⊥). absurd n) h
argument-only wrapper.Wrapping g b h = ⊎_elim (λ e. e) (λ (n : ⊥). absurd n) h
argument-only wrapper.Cell g b h = ⊎_elim (λ e. e) (λ (n : ⊥). absurd n) h
argument-only wrapper.UnsafeCell g b h = ⊎_elim (λ e. e) (λ (n : ⊥). absurd n) h

-- what is written right inside a type is one of those that are written in it
own-written : (g b : Ground) → IsIn b (inner (out-Ground g)) → IsIn b (written_types g)
own-written g b h = go (out-Ground g) (roll-out-Ground g) h where
  go : (x : Ground-F Ground) → roll-Ground x ≡ g → IsIn b (inner x) → IsIn b (written_types g)
  go (Ground-F.Prim p) e h = absurd h
  go Ground-F.Never e h = absurd h
  go Ground-F.Unit e h = absurd h
  go (Ground-F.Tuple gs) e h =
      let there : IsIn b (Tuple gs ∷ flat_map written_types gs) = inr (IsIn-flat_map written_types gs b b h (written-first b)) in
      subst (λ (u : Ground). IsIn b (written_types u)) (sym (rolls-Tuple gs) ∙ e) (subst (λ (l : List Ground). IsIn b l) (sym (written_types-Tuple gs)) there)
  go (Ground-F.Array k n) e (inl same) =
      let there : IsIn b (Array k n ∷ written_types k) = inr (subst (λ (u : Ground). IsIn b (written_types u)) (sym same) (written-first b)) in
      subst (λ (u : Ground). IsIn b (written_types u)) (sym (rolls-Array k n) ∙ e) (subst (λ (l : List Ground). IsIn b l) (sym (written_types-Array k n)) there)
  go (Ground-F.Array k n) e (inr h) = absurd h
  go (Ground-F.Named id) e h = absurd h
  go (Ground-F.NonZero p) e h = absurd h
  go (Ground-F.Wrap w k) e h =
      let there : IsIn b (Wrap w k ∷ written_types k) = inr (subst (λ (u : Ground). IsIn b (written_types u)) (sym (argument-only w k b h)) (written-first b)) in
      subst (λ (u : Ground). IsIn b (written_types u)) (sym (rolls-Wrap w k) ∙ e) (subst (λ (l : List Ground). IsIn b l) (sym (written_types-Wrap w k)) there)
  go (Ground-F.Ref r) e h = absurd h

at_itself : (g a b : Ground) → g ≡ a → IsIn b (inner (out-Ground a)) → IsIn b (written_types g)
at_itself g a b e h = own-written g b (subst (λ (u : Ground). IsIn b (inner (out-Ground u))) (sym e) h)

-- and so is what is written right inside one of those
mutual
  unfolding written_types

  inner-written : (g a b : Ground) → IsIn a (written_types g) → IsIn b (inner (out-Ground a)) → IsIn b (written_types g)
  inner-written (Tuple' shape row) a b (inl e) h = at_itself (Tuple' shape row) a b e h
  inner-written (Tuple' shape row) a b (inr at) h = inr (row-written row a b at h)
  inner-written (Array' shape row n) a b (inl e) h = at_itself (Array' shape row n) a b e h
  inner-written (Array' shape row n) a b (inr at) h = inr (row-written row a b at h)
  inner-written (Wrap' w shape row) a b (inl e) h = at_itself (Wrap' w shape row) a b e h
  inner-written (Wrap' w shape row) a b (inr at) h = inr (row-written row a b at h)
  inner-written (Prim q) a b (inl e) h = at_itself (Prim q) a b e h
  inner-written (Prim q) a b (inr n) h = absurd n
  inner-written Never a b (inl e) h = at_itself Never a b e h
  inner-written Never a b (inr n) h = absurd n
  inner-written the_unit a b (inl e) h = at_itself the_unit a b e h
  inner-written the_unit a b (inr n) h = absurd n
  inner-written (Named id) a b (inl e) h = at_itself (Named id) a b e h
  inner-written (Named id) a b (inr n) h = absurd n
  inner-written (NonZero q) a b (inl e) h = at_itself (NonZero q) a b e h
  inner-written (NonZero q) a b (inr n) h = absurd n
  inner-written (Ref r) a b (inl e) h = at_itself (Ref r) a b e h
  inner-written (Ref r) a b (inr n) h = absurd n

  row-written : {m : _} (row : Row_of-Ground m) (a b : Ground) → IsIn a (row_types row) → IsIn b (inner (out-Ground a)) → IsIn b (row_types row)
  row-written end_of-Ground a b at h = absurd at
  row-written (more_of-Ground g gs) a b at h =
      ⊎_elim
      (λ (first : IsIn a (written_types g)). IsIn-left (written_types g) (row_types gs) b (inner-written g a b first h))
      (λ (rest : IsIn a (row_types gs)). IsIn-right (written_types g) (row_types gs) b (row-written gs a b rest h))
      (IsIn-append (written_types g) (row_types gs) a at)

row_parts-IsIn : (named : List NamedRow) (k : ℕ) (b : Ground) → IsIn b (row_parts (slice_get named k)) → IsIn b (flat_map (λ row. flat_map (λ types. types) row.types) named)
row_parts-IsIn [] k b h = absurd h
row_parts-IsIn (row ∷ rows) zero b h = IsIn-left (flat_map (λ types. types) row.types) _ b h
row_parts-IsIn (row ∷ rows) (suc k) b h = IsIn-right (flat_map (λ types. types) row.types) _ b (row_parts-IsIn rows k b h)

row_pointee-IsIn : (refs : List RefRow) (k : ℕ) (b : Ground) → IsIn b (row_pointee (slice_get refs k)) → IsIn b (map (λ row. row.pointee) refs)
row_pointee-IsIn [] k b h = absurd h
row_pointee-IsIn (row ∷ rows) zero b (inl e) = inl e
row_pointee-IsIn (row ∷ rows) zero b (inr n) = absurd n
row_pointee-IsIn (row ∷ rows) (suc k) b h = inr (row_pointee-IsIn rows k b h)

module _ (tables : Tables) where
  -- the fields and the pointees of all rows
  abbrev row_roots : List Ground
  row_roots = flat_map (λ row. flat_map (λ types. types) row.types) tables.named ++ map (λ row. row.pointee) tables.refs

  field_root : (k : ℕ) (b : Ground) → IsIn b (row_parts (slice_get tables.named k)) → IsIn b row_roots
  field_root k b h = IsIn-left (flat_map (λ row. flat_map (λ types. types) row.types) tables.named) (map (λ row. row.pointee) tables.refs) b (row_parts-IsIn tables.named k b h)

  pointee_root : (k : ℕ) (b : Ground) → IsIn b (row_pointee (slice_get tables.refs k)) → IsIn b row_roots
  pointee_root k b h = IsIn-right (flat_map (λ row. flat_map (λ types. types) row.types) tables.named) (map (λ row. row.pointee) tables.refs) b (row_pointee-IsIn tables.refs k b h)

  nil_right : (gs : List Ground) (b : Ground) → IsIn b (gs ++ []) → IsIn b gs
  nil_right gs b h = ⊎_elim (λ (first : IsIn b gs). first) (λ (n : ⊥). absurd n) (IsIn-append gs [] b h)

  entered : (x : Ground-F Ground) (b : Ground) → IsIn b (parts_within tables.named x ++ pointees_within tables.refs x) → IsIn b (inner x) ⊎ IsIn b row_roots
  entered (Ground-F.Prim p) b h = absurd h
  entered Ground-F.Never b h = absurd h
  entered Ground-F.Unit b h = absurd h
  entered (Ground-F.Tuple gs) b h = inl (nil_right gs b h)
  entered (Ground-F.Array g n) b h = inl (nil_right (g ∷ []) b h)
  entered (Ground-F.Named id) b h = inr (field_root id.0 b (nil_right (row_parts (slice_get tables.named id.0)) b h))
  entered (Ground-F.NonZero p) b h = absurd h
  entered (Ground-F.Wrap w g) b h = inl (nil_right (argument_of w g) b h)
  entered (Ground-F.Ref r) b h = inr (pointee_root r.0 b h)

  -- all that is written in a type, in a field and in a pointee
  abbrev pub reachable : Ground → List Ground
  reachable g = written_types g ++ flat_map written_types row_roots

  -- what a type enters
  abbrev pub entries : Ground → List Ground
  entries g = parts_of tables g ++ pointees_of tables g

  from_root : (g b : Ground) → IsIn b row_roots → IsIn b (reachable g)
  from_root g b h = IsIn-right (written_types g) (flat_map written_types row_roots) b (IsIn-flat_map written_types row_roots b b h (written-first b))

  reachable-closed : (g a b : Ground) → IsIn a (reachable g) → IsIn b (entries a) → IsIn b (reachable g)
  reachable-closed g a b at h = go (IsIn-append (written_types g) (flat_map written_types row_roots) a at) (entered (out-Ground a) b h) where
    go : IsIn a (written_types g) ⊎ IsIn a (flat_map written_types row_roots) → IsIn b (inner (out-Ground a)) ⊎ IsIn b row_roots → IsIn b (reachable g)
    go side (inr root) = from_root g b root
    go (inl first) (inl inside) = IsIn-left (written_types g) (flat_map written_types row_roots) b (inner-written g a b first inside)
    go (inr rest) (inl inside) =
        let (root, of_root, written) = flat_map-IsIn written_types row_roots a rest in
        IsIn-right (written_types g) (flat_map written_types row_roots) b (IsIn-flat_map written_types row_roots root b of_root (inner-written root a b written inside))

  reachable-first : (g : Ground) → IsIn g (reachable g)
  reachable-first g = IsIn-left (written_types g) (flat_map written_types row_roots) g (written-first g)

  -- each type that a type reaches stands in the list
  pub Reaches-listed : (g h : Ground) → Reaches tables g h → IsIn h (reachable g)
  Reaches-listed g h (n, way) =
      ChainIn-keeps (Enters tables) (λ (k : Ground). IsIn k (reachable g)) (λ a b at step. reachable-closed g a b at (IsIn-from_Contains (entries a) b step)) n g h (reachable-first g) way

  -- it is known whether a type reaches one that passes a test
  pub Reaches-known : (test : Ground → Bool) (g : Ground) → Dec ((h : Ground) × Reaches tables g h × (test h ≡ true))
  Reaches-known test g =
      LeadsTo-known (Enters tables) entries (λ a b step. IsIn-from_Contains (entries a) b step) (λ a b at. Contains-from_IsIn (entries a) b at)
      test (reachable g) (reachable-closed g) g (reachable-first g)
