-- Where the parts of a file are listed.
use Rattle.std.proofs.Common.{ℕ, sym, subst, ⊎_elim, Bool, List, [], ◌∷◌, ◌++◌, map}
use Rattle.std.specs.List.{flat_map}
use Rattle.tm_base.specs.declared.profile.Profile.{Profile}
use Rattle.tm_names.proofs.Members.{Member, behind, either, front, from_flat_map, from_map, into_flat_map}
use Rattle.tm_names.specs.declared.faults.least.NameFault.{NameFault}
use Rattle.tm_names.specs.declared.value.Value.TheVariants.{AtLeastZero}
use Rattle.tm_names.specs.Closures.{infinite_faults}
use Rattle.tm_names.specs.Faults.{decl_lists, lifetime_lists, name_lists}
use Rattle.tm_names.specs.FileFaults.{file_faults}
use Rattle.tm_names.specs.Found.{decl_faults, repeats, repr_faults, reserved, scope_faults, value_faults}
use Rattle.tm_names.specs.Representations.{tag_of}
use Rattle.tm_names.specs.Scopes.{Scope, decl_scope, outer_scope, scopes_of}
use Rattle.tm_parse.specs.declared.parsed.Decl.{Decl}
use Rattle.tm_parse.specs.declared.parsed.Parsed.{Parsed}

-- five lists in a row
module _ {X : Type 0} (x : X) (u v w y z : List X) where
  abbrev Row : List X
  Row = u ++ (v ++ (w ++ (y ++ z)))

  pub in_first : Member x u → Member x Row
  in_first m = front x u (v ++ (w ++ (y ++ z))) m

  pub in_second : Member x v → Member x Row
  in_second m = behind x u (v ++ (w ++ (y ++ z))) (front x v (w ++ (y ++ z)) m)

  pub in_third : Member x w → Member x Row
  in_third m = behind x u (v ++ (w ++ (y ++ z))) (behind x v (w ++ (y ++ z)) (front x w (y ++ z) m))

  pub in_fourth : Member x y → Member x Row
  in_fourth m = behind x u (v ++ (w ++ (y ++ z))) (behind x v (w ++ (y ++ z)) (behind x w (y ++ z) (front x y z m)))

  pub in_fifth : Member x z → Member x Row
  in_fifth m = behind x u (v ++ (w ++ (y ++ z))) (behind x v (w ++ (y ++ z)) (behind x w (y ++ z) (behind x y z m)))

  pub in_row : (P : Type 0) → (Member x u → P) → (Member x v → P) → (Member x w → P) → (Member x y → P) → (Member x z → P) → Member x Row → P
  in_row P a b c d e m =
      ⊎_elim a (λ n. ⊎_elim b (λ o. ⊎_elim c (λ p. ⊎_elim d e (either x y z p)) (either x w (y ++ z) o)) (either x v (w ++ (y ++ z)) n)) (either x u (v ++ (w ++ (y ++ z))) m)

module _ (profile : Profile) (name : ℕ → List ℕ) (file : Parsed) (infinite : ℕ → Bool) (f : NameFault) where
  abbrev Listed : Type 0
  Listed = Member f (file_faults profile name file infinite)

  abbrev names_part : List NameFault
  names_part = repeats name (map (λ d. d.name) file.decls)

  abbrev lifetimes_part : List NameFault
  lifetimes_part = repeats name file.lifetimes

  abbrev reserved_part : List NameFault
  reserved_part = reserved name file.lifetimes

  abbrev decls_part : List NameFault
  decls_part = flat_map (decl_faults profile name file.decls) file.decls

  abbrev outer_part : List NameFault
  outer_part = scope_faults name file.decls (outer_scope file)

  abbrev infinite_part : List NameFault
  infinite_part = infinite_faults infinite file.decls

  abbrev rest_part : List NameFault
  rest_part = outer_part ++ infinite_part

  -- five parts, of which the last is two
  abbrev past : Member f (lifetimes_part ++ (reserved_part ++ (decls_part ++ rest_part))) → Listed
  past m = behind f names_part (lifetimes_part ++ (reserved_part ++ (decls_part ++ rest_part))) m

  pub at_decl : (d : Decl) → Member d file.decls → Member f (decl_faults profile name file.decls d) → Listed
  at_decl d declared m = in_fourth f names_part lifetimes_part reserved_part decls_part rest_part (into_flat_map (decl_faults profile name file.decls) f d file.decls declared m)

  pub at_infinite : Member f infinite_part → Listed
  at_infinite m = in_fifth f names_part lifetimes_part reserved_part decls_part rest_part (behind f outer_part infinite_part m)

  -- the parts of a definition
  abbrev lists_of : Decl → List NameFault
  lists_of d = flat_map (repeats name) (decl_lists d)

  abbrev mentions_of : Decl → List NameFault
  mentions_of d = scope_faults name file.decls (decl_scope d)

  abbrev values_of : Decl → List NameFault
  values_of d = value_faults profile (tag_of d) [] (AtLeastZero 0) d.variants

  pub at_values : (d : Decl) → Member d file.decls → Member f (values_of d) → Listed
  at_values d declared m = at_decl d declared (in_fourth f (lists_of d) (reserved name d.params) (mentions_of d) (values_of d) (repr_faults d) m)

  pub at_repr : (d : Decl) → Member d file.decls → Member f (repr_faults d) → Listed
  at_repr d declared m = at_decl d declared (in_fifth f (lists_of d) (reserved name d.params) (mentions_of d) (values_of d) (repr_faults d) m)

  pub at_list : (places : List ℕ) → Member places (name_lists file) → Member f (repeats name places) → Listed
  at_list places listed m =
      ⊎_elim (λ e. in_first f names_part lifetimes_part reserved_part decls_part rest_part (subst (λ those. Member f (repeats name those)) (sym e) m))
      (⊎_elim (λ e. in_second f names_part lifetimes_part reserved_part decls_part rest_part (subst (λ those. Member f (repeats name those)) (sym e) m))
      (λ n. let (d, declared, here) = from_flat_map decl_lists places file.decls n in
      at_decl d declared (in_first f (lists_of d) (reserved name d.params) (mentions_of d) (values_of d) (repr_faults d)
      (into_flat_map (repeats name) f places (decl_lists d) here m)))) listed

  pub at_lifetimes : (places : List ℕ) → Member places (lifetime_lists file) → Member f (reserved name places) → Listed
  at_lifetimes places listed m =
      ⊎_elim (λ e. in_third f names_part lifetimes_part reserved_part decls_part rest_part (subst (λ those. Member f (reserved name those)) (sym e) m))
      (λ n. let (d, declared, same) = from_map (λ d. d.params) places file.decls n in
      at_decl d declared (in_second f (lists_of d) (reserved name d.params) (mentions_of d) (values_of d) (repr_faults d)
      (subst (λ those. Member f (reserved name those)) (sym same) m))) listed

  pub at_scope : (scope : Scope) → Member scope (scopes_of file) → Member f (scope_faults name file.decls scope) → Listed
  at_scope scope part m =
      ⊎_elim (λ n. let (d, declared, same) = from_map decl_scope scope file.decls n in
      at_decl d declared (in_third f (lists_of d) (reserved name d.params) (mentions_of d) (values_of d) (repr_faults d)
      (subst (λ those. Member f (scope_faults name file.decls those)) (sym same) m)))
      (⊎_elim (λ e. in_fifth f names_part lifetimes_part reserved_part decls_part rest_part
      (front f outer_part infinite_part (subst (λ those. Member f (scope_faults name file.decls those)) (sym e) m))) (λ n. absurd n))
      (either scope (map decl_scope file.decls) (outer_scope file ∷ []) part)
