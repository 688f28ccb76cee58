-- What is listed as held is what is held.
use Rattle.std.proofs.Common.{◌≡◌, ℕ, zero, suc, ◌+◌, refl, sym, ap, ◌∙◌, subst, arith, inl, inr, ⊎_elim, if◌then◌else◌, Bool, true, false, List, [], map}
use Rattle.std.specs.Prelude.{slice_get, Option, Some, None, Contains}
use Rattle.std.proofs.lemmas.Bool.{false≢true}
use Rattle.std.proofs.lemmas.Option.{none-some, same_Some}
use Rattle.tm_base.specs.Reaches.{ChainIn}
use Rattle.tm_names.proofs.MeaningLemmas.{meant_within}
use Rattle.tm_names.proofs.Members.{Member, behind, contained, either, from_flat_map, from_map, front, into_flat_map, into_map, member}
use Rattle.tm_names.proofs.holding_laws.ThroughLemmas.{Way, way_of_step, ways}
use Rattle.tm_names.specs.declared.meaning.Meaning.{Meaning}
use Rattle.tm_names.specs.declared.meaning.Meaning.TheVariants.{Definition, Parameter}
use Rattle.tm_names.specs.Held.{arguments_held, bit_at, decl_held, held_in, is_open, row_at, row_held, variant_held, with_meaning}
use Rattle.tm_names.specs.Holding.{Holds, Means, TypeHolds, by_argument, by_definition, by_field, by_part, is_definition, is_parameter, arguments_of, is_holder, name_of, parts_of, types_of}
use Rattle.tm_names.specs.Meanings.{IsAtPlace, meaning_of}
use Rattle.tm_names.specs.Mentions.{row_items}
use Rattle.tm_parse.specs.declared.parsed.Decl.{Decl}
use Rattle.tm_parse.specs.declared.parsed.Expr.{Expr, Row_of-Expr, end_of-Expr, more_of-Expr, Prim, Never, Tuple', Array', NonZero, Wrap', Named', Ref'}

-- what is found behind a condition
conditioned : {X : Type 0} (b : Bool) (x : X) (xs : List X) → Member x (if b then xs else []) → (b ≡ true) × Member x xs
conditioned true x xs m = (refl, m)
conditioned false x xs m = absurd m

put_behind : {X : Type 0} (b : Bool) (x : X) (xs : List X) → b ≡ true → Member x xs → Member x (if b then xs else [])
put_behind true x xs e m = m
put_behind false x xs e m = absurd (false≢true e)

-- what a name means stands first, and what is held besides behind it
with_meaning_cases : (o : Option Meaning) (x : Meaning) (held : List Meaning) → Member x (with_meaning o held) → (P : Type 0)
    → (o ≡ Some x → P) → ((meaning : Meaning) → o ≡ Some meaning → Member x held → P) → P
with_meaning_cases None x held m P f g = absurd m
with_meaning_cases (Some meaning) x held m P f g = ⊎_elim (λ e. f (ap Some e)) (λ n. g meaning refl n) m

itself_first : (o : Option Meaning) (x : Meaning) (held : List Meaning) → o ≡ Some x → Member x (with_meaning o held)
itself_first None x held e = absurd (none-some x e)
itself_first (Some meaning) x held e = inl (same_Some meaning x e)

others_behind : (o : Option Meaning) (meaning x : Meaning) (held : List Meaning) → o ≡ Some meaning → Member x held → Member x (with_meaning o held)
others_behind None meaning x held e m = absurd (none-some meaning e)
others_behind (Some other) meaning x held e m = inr m

-- what a row of types holds, each of them holds
module _ (name : ℕ → List ℕ) (decls : List Decl) (own : List (List Bool)) (types : List ℕ) where
  in_row : {n : _} (row : Row_of-Expr n) (part : Expr) (x : Meaning) → Member part (row_items row) → Member x (held_in name decls own types part) → Member x (row_held name decls own types row)
  unfolding held_in
  in_row end_of-Expr part x among m = absurd among
  in_row (more_of-Expr e es) part x among m =
      ⊎_elim (λ same. front x (held_in name decls own types e) (row_held name decls own types es) (subst (λ u. Member x (held_in name decls own types u)) (sym same) m))
      (λ n. behind x (held_in name decls own types e) (row_held name decls own types es) (in_row es part x n m)) among

  in_arguments : {n : _} (o : Option Meaning) (k j : ℕ) (row : Row_of-Expr n) (argument : Expr) (x : Meaning) → slice_get (row_items row) j ≡ Some argument
      → is_open own o (k + j) ≡ true → Member x (held_in name decls own types argument) → Member x (arguments_held name decls own types o k row)
  unfolding held_in
  in_arguments o k j end_of-Expr argument x at opens m = absurd (none-some argument at)
  in_arguments o k zero (more_of-Expr e es) argument x at opens m =
      front x (if is_open own o k then held_in name decls own types e else []) (arguments_held name decls own types o (k + 1) es)
      (put_behind (is_open own o k) x (held_in name decls own types e) (subst (λ i. is_open own o i ≡ true) (let same : k + 0 ≡ k = omega arith in same) opens)
      (subst (λ u. Member x (held_in name decls own types u)) (sym (same_Some e argument at)) m))
  in_arguments o k (suc j) (more_of-Expr e es) argument x at opens m =
      behind x (if is_open own o k then held_in name decls own types e else []) (arguments_held name decls own types o (k + 1) es)
      (in_arguments o (k + 1) j es argument x at (subst (λ i. is_open own o i ≡ true) (let same : k + suc j ≡ k + 1 + j = omega arith in same) opens) m)

module _ (name : ℕ → List ℕ) (decls : List Decl) where
  -- what a type holds is there
  type_within : (types : List ℕ) (e : Expr) (x : Meaning) → TypeHolds name decls types e x → IsAtPlace decls types x
  type_within _ _ _ (is_parameter types e k means) = meant_within name decls types means.place (Parameter k) means.meant
  type_within _ _ _ (is_definition types e j means) = meant_within name decls types means.place (Definition j) means.meant
  type_within _ _ _ (by_part types e part x among h) = type_within types part x h
  type_within _ _ _ (by_argument types e argument j k x means h at g) = type_within types argument x g

  -- the fields' types of a definition
  field_listed : (own : List (List Bool)) (d : Decl) (e : Expr) (x : Meaning) → Contains (types_of d) e → Member x (held_in name decls own d.type_params e) → Member x (decl_held name decls own d)
  field_listed own d e x among m =
      let (v, within, here) = from_flat_map (λ v. map (λ field. field.ty) v.fields) e d.variants (member e (types_of d) among) in
      let (field, at, same) = from_map (λ field. field.ty) e v.fields here in
      into_flat_map (variant_held name decls own d.type_params) x v d.variants within
      (into_flat_map (λ field. held_in name decls own d.type_params field.ty) x field v.fields at
      (subst (λ ty. Member x (held_in name decls own d.type_params ty)) (sym same) m))

  field_of_held : (own : List (List Bool)) (d : Decl) (x : Meaning) → Member x (decl_held name decls own d)
      → (e : Expr) × Contains (types_of d) e × Member x (held_in name decls own d.type_params e)
  field_of_held own d x m =
      let (v, within, here) = from_flat_map (variant_held name decls own d.type_params) x d.variants m in
      let (field, at, held) = from_flat_map (λ field. held_in name decls own d.type_params field.ty) x v.fields here in
      (field.ty, contained field.ty (types_of d) (into_flat_map (λ v. map (λ field. field.ty) v.fields) field.ty v d.variants within (into_map (λ field. field.ty) field v.fields at)), held)

  module _ (own : List (List Bool)) where
    abbrev Bit : ℕ → ℕ → Type 0
    Bit i k = bit_at (row_at own i) k ≡ true

    module _ (sound : (i k : ℕ) → Bit i k → Holds name decls i (Parameter k)) (types : List ℕ) where
      abbrev Stands : Expr → Meaning → Type 0
      Stands = TypeHolds name decls types

      -- an argument that is held
      abbrev OfArgument : Option Meaning → ℕ → List Expr → Meaning → Type 0
      OfArgument o k es x = (n : ℕ) × (argument : Expr) × (slice_get es n ≡ Some argument) × (is_open own o (k + n) ≡ true) × Stands argument x

      by_meaning : (e : Expr) (x : Meaning) → Means name decls types e x → Stands e x
      by_meaning e (Definition j) means = is_definition types e j means
      by_meaning e (Parameter k) means = is_parameter types e k means

      by_open : (e : Expr) (place : ℕ) (o : Option Meaning) (x : Meaning) → name_of e ≡ Some place → meaning_of name decls types place ≡ o
          → OfArgument o 0 (arguments_of e) x → Stands e x
      by_open e place None x named meant (n, argument, at, opens, h) = absurd (false≢true opens)
      by_open e place (Some (Parameter j)) x named meant (n, argument, at, opens, h) = absurd (false≢true opens)
      by_open e place (Some (Definition j)) x named meant (n, argument, at, opens, h) =
          by_argument types e argument j n x (record { place = place; named = named; meant = meant }) (sound j n (subst (λ i. Bit j i) (let same : 0 + n ≡ n = omega arith in same) opens)) at h

      mutual
        unfolding held_in

        held_stands : (e : Expr) (x : Meaning) → Member x (held_in name decls own types e) → Stands e x
        held_stands (Prim p) x m = absurd m
        held_stands Never x m = absurd m
        held_stands (Tuple' shape row) x m =
            let (part, among, h) = row_stands row x m in by_part types (Tuple' shape row) part x (contained part (row_items row) among) h
        held_stands (Array' shape row n) x m =
            let (part, among, h) = row_stands row x m in by_part types (Array' shape row n) part x (contained part (row_items row) among) h
        held_stands (NonZero p) x m = absurd m
        held_stands (Wrap' w shape row) x m =
            let (holds, n) = conditioned (is_holder w) x (row_held name decls own types row) m in
            let (part, among, h) = row_stands row x n in
            by_part types (Wrap' w shape row) part x (contained part (if is_holder w then row_items row else []) (put_behind (is_holder w) part (row_items row) holds among)) h
        held_stands (Named' place lifetimes shape row) x m =
            with_meaning_cases (meaning_of name decls types place) x (arguments_held name decls own types (meaning_of name decls types place) 0 row) m (Stands (Named' place lifetimes shape row) x)
            (λ meant. by_meaning (Named' place lifetimes shape row) x (record { place = place; named = refl; meant = meant }))
            (λ meaning meant n. by_open (Named' place lifetimes shape row) place (meaning_of name decls types place) x refl refl
            (arguments_stand (meaning_of name decls types place) 0 row x n))
        held_stands (Ref' life mutable shape row) x m = absurd m

        row_stands : {n : _} (row : Row_of-Expr n) (x : Meaning) → Member x (row_held name decls own types row) → (part : Expr) × Member part (row_items row) × Stands part x
        row_stands end_of-Expr x m = absurd m
        row_stands (more_of-Expr e es) x m =
            ⊎_elim (λ n. (e, inl refl, held_stands e x n)) (λ n. let (part, among, h) = row_stands es x n in (part, inr among, h))
            (either x (held_in name decls own types e) (row_held name decls own types es) m)

        arguments_stand : {n : _} (o : Option Meaning) (k : ℕ) (row : Row_of-Expr n) (x : Meaning) → Member x (arguments_held name decls own types o k row) → OfArgument o k (row_items row) x
        arguments_stand o k end_of-Expr x m = absurd m
        arguments_stand o k (more_of-Expr e es) x m =
            ⊎_elim
            (λ n. let (opens, here) = conditioned (is_open own o k) x (held_in name decls own types e) n in
            (0, e, refl, subst (λ j. is_open own o j ≡ true) (let same : k ≡ k + 0 = omega arith in same) opens, held_stands e x here))
            (λ n. let (j, argument, at, opens, h) = arguments_stand o (k + 1) es x n in
            (suc j, argument, at, subst (λ i. is_open own o i ≡ true) (let same : k + 1 + j ≡ k + suc j = omega arith in same) opens, h))
            (either x (if is_open own o k then held_in name decls own types e else []) (arguments_held name decls own types o (k + 1) es) m)

    pub decl_stands : ((i k : ℕ) → Bit i k → Holds name decls i (Parameter k)) → (i : ℕ) (d : Decl) (x : Meaning) → slice_get decls i ≡ Some d
        → Member x (decl_held name decls own d) → Holds name decls i x
    decl_stands sound i d x at m =
        let (e, among, held) = field_of_held own d x m in by_field i d e x at among (held_stands sound d.type_params e x held)

    pub held_within : ((i k : ℕ) → Bit i k → Holds name decls i (Parameter k)) → (d : Decl) (x : Meaning) → Member x (decl_held name decls own d) → IsAtPlace decls d.type_params x
    held_within sound d x m = let (e, among, held) = field_of_held own d x m in type_within d.type_params e x (held_stands sound d.type_params e x held)

    -- one definition is among those that the types of another one's fields hold
    abbrev pub Edge : ℕ → ℕ → Type 0
    Edge i j = (d : Decl) × (slice_get decls i ≡ Some d) × Member (Definition j) (decl_held name decls own d)

    abbrev Kept : ℕ → Meaning → Type 0
    Kept i (Definition j) = Way Edge i j
    Kept i (Parameter k) = Bit i k

    module _ (closed : (i k : ℕ) (d : Decl) → slice_get decls i ≡ Some d → Member (Parameter k) (decl_held name decls own d) → Bit i k) where
      field_kept : (i : ℕ) (d : Decl) (x : Meaning) → slice_get decls i ≡ Some d → Member x (decl_held name decls own d) → Kept i x
      field_kept i d (Definition j) at m = way_of_step Edge i j (d, at, m)
      field_kept i d (Parameter k) at m = closed i k d at m

      part_listed : (types : List ℕ) (e part : Expr) (x : Meaning) → Member part (parts_of e) → Member x (held_in name decls own types part) → Member x (held_in name decls own types e)
      unfolding held_in
      part_listed types (Prim p) part x among m = absurd among
      part_listed types Never part x among m = absurd among
      part_listed types (Tuple' shape row) part x among m = in_row name decls own types row part x among m
      part_listed types (Array' shape row n) part x among m = in_row name decls own types row part x among m
      part_listed types (NonZero p) part x among m = absurd among
      part_listed types (Wrap' w shape row) part x among m =
          let (holds, n) = conditioned (is_holder w) part (row_items row) among in
          put_behind (is_holder w) x (row_held name decls own types row) holds (in_row name decls own types row part x n m)
      part_listed types (Named' place lifetimes shape row) part x among m = absurd among
      part_listed types (Ref' life mutable shape row) part x among m = absurd among

      name_listed : (types : List ℕ) (e : Expr) (x : Meaning) (place : ℕ) → name_of e ≡ Some place → meaning_of name decls types place ≡ Some x → Member x (held_in name decls own types e)
      unfolding held_in
      name_listed types (Prim p) x place named meant = absurd (none-some place named)
      name_listed types Never x place named meant = absurd (none-some place named)
      name_listed types (Tuple' shape row) x place named meant = absurd (none-some place named)
      name_listed types (Array' shape row n) x place named meant = absurd (none-some place named)
      name_listed types (NonZero p) x place named meant = absurd (none-some place named)
      name_listed types (Wrap' w shape row) x place named meant = absurd (none-some place named)
      name_listed types (Named' there lifetimes shape row) x place named meant =
          itself_first (meaning_of name decls types there) x (arguments_held name decls own types (meaning_of name decls types there) 0 row)
          (ap (meaning_of name decls types) (same_Some there place named) ∙ meant)
      name_listed types (Ref' life mutable shape row) x place named meant = absurd (none-some place named)

      argument_listed : (types : List ℕ) (e argument : Expr) (j k : ℕ) (x : Meaning) (place : ℕ) → name_of e ≡ Some place → meaning_of name decls types place ≡ Some (Definition j)
          → Bit j k → slice_get (arguments_of e) k ≡ Some argument → Member x (held_in name decls own types argument) → Member x (held_in name decls own types e)
      unfolding held_in
      argument_listed types (Prim p) argument j k x place named meant opens at m = absurd (none-some place named)
      argument_listed types Never argument j k x place named meant opens at m = absurd (none-some place named)
      argument_listed types (Tuple' shape row) argument j k x place named meant opens at m = absurd (none-some place named)
      argument_listed types (Array' shape row n) argument j k x place named meant opens at m = absurd (none-some place named)
      argument_listed types (NonZero p) argument j k x place named meant opens at m = absurd (none-some place named)
      argument_listed types (Wrap' w shape row) argument j k x place named meant opens at m = absurd (none-some place named)
      argument_listed types (Named' there lifetimes shape row) argument j k x place named meant opens at m =
          let here = ap (meaning_of name decls types) (same_Some there place named) ∙ meant in
          others_behind (meaning_of name decls types there) (Definition j) x (arguments_held name decls own types (meaning_of name decls types there) 0 row) here
          (subst (λ o. Member x (arguments_held name decls own types o 0 row)) (sym here)
          (in_arguments name decls own types (Some (Definition j)) 0 k row argument x at (subst (λ i. Bit j i) (let same : k ≡ 0 + k = omega arith in same) opens) m))
      argument_listed types (Ref' life mutable shape row) argument j k x place named meant opens at m = absurd (none-some place named)

      mutual
        pub kept : (i : ℕ) (x : Meaning) → Holds name decls i x → Kept i x
        kept _ _ (by_field i d e x at among h) = field_kept i d x at (field_listed own d e x among (type_listed d.type_params e x h))
        kept _ _ (by_definition i j k h g) = ways Edge i j k (kept i (Definition j) h) (kept j (Definition k) g)

        type_listed : (types : List ℕ) (e : Expr) (x : Meaning) → TypeHolds name decls types e x → Member x (held_in name decls own types e)
        type_listed _ _ _ (is_parameter types e k means) = name_listed types e (Parameter k) means.place means.named means.meant
        type_listed _ _ _ (is_definition types e j means) = name_listed types e (Definition j) means.place means.named means.meant
        type_listed _ _ _ (by_part types e part x among h) = part_listed types e part x (member part (parts_of e) among) (type_listed types part x h)
        type_listed _ _ _ (by_argument types e argument j k x means h at g) =
            argument_listed types e argument j k x means.place means.named means.meant (kept j (Parameter k) h) at (type_listed types argument x g)

    -- ways of such steps lead to what is held
    module _ (sound : (i k : ℕ) → Bit i k → Holds name decls i (Parameter k)) where
      edge_holds : (i j : ℕ) → Edge i j → Holds name decls i (Definition j)
      edge_holds i j (d, at, m) = decl_stands sound i d (Definition j) at m

      led : (n i m j : ℕ) → Holds name decls i (Definition m) → ChainIn Edge n m j → Holds name decls i (Definition j)
      unfolding ChainIn
      led zero i m j h e = subst (λ k. Holds name decls i (Definition k)) e h
      led (suc n) i m j h (next, s, more) = led n i next j (by_definition i m next h (edge_holds m next s)) more

      pub way_holds : (i j : ℕ) → Way Edge i j → Holds name decls i (Definition j)
      way_holds i j w = led w.rest.0 i w.next j (edge_holds i w.next w.first) w.rest.1
