-- The faults that are listed for a file are those that stand in it.
use Rattle.std.proofs.Common.{◌≡◌, ℕ, refl, sym, subst, arith, inl, inr, ⊎_elim, Bool, true, List, [], ◌∷◌, ◌++◌, map}
use Rattle.std.specs.Prelude.{Some, IsNone}
use Rattle.std.specs.List.{enumerate_from, flat_map}
use Rattle.std.proofs.lemmas.Option.{slice_get_within}
use Rattle.tm_base.specs.declared.limit.NameWhy.{NameWhy}
use Rattle.tm_base.specs.declared.limit.NameWhy.TheVariants.{Twice, Unknown, Arity, Lifetime, Discriminant, Infinite, BadRepr}
use Rattle.tm_base.specs.declared.profile.Profile.{Profile}
use Rattle.tm_names.proofs.fault_laws.DiscriminantLemmas.{value_listed, values_stand}
use Rattle.tm_names.proofs.fault_laws.ListedLemmas.{arity_listed, hidden_listed, repr_listed, reserved_listed, unknown_listed}
use Rattle.tm_names.proofs.Members.{Member, behind, either, from_flat_map, from_numbered, front, into_flat_map, into_map, member, numbered}
use Rattle.tm_names.proofs.fault_laws.PartLemmas.{fault, from_where, into_repeats, into_where}
use Rattle.tm_names.proofs.fault_laws.PlaceLemmas.{at_infinite, at_lifetimes, at_list, at_repr, at_scope, at_values, in_row}
use Rattle.tm_names.proofs.fault_laws.StandingLemmas.{Stands, repeats_stand, repr_stands, reserved_stand, scope_stands}
use Rattle.tm_names.specs.declared.faults.least.NameFault.{NameFault}
use Rattle.tm_names.specs.declared.faults.mentions.Mention.TheVariants.{Name, Life}
use Rattle.tm_names.specs.declared.value.Value.TheVariants.{AtLeastZero}
use Rattle.tm_names.specs.Closures.{TellsInfinite, infinite_fault, infinite_faults}
use Rattle.tm_names.specs.Faults.{IsNameFault, IsTwice, IsUnknown, IsArity, IsOutOfSight, IsReserved, IsDiscriminant, IsInfinite, IsBadRepr, decl_lists, lifetime_lists, name_lists}
use Rattle.tm_names.specs.FileFaults.{file_faults}
use Rattle.tm_names.specs.Found.{decl_faults, repeats, repr_faults, reserved, scope_faults, value_faults}
use Rattle.tm_names.specs.Meanings.{meaning_of}
use Rattle.tm_names.specs.Representations.{tag_of}
use Rattle.tm_names.specs.Scopes.{decl_scope, outer_scope, scopes_of}
use Rattle.tm_parse.specs.declared.parsed.Decl.{Decl}
use Rattle.tm_parse.specs.declared.parsed.Parsed.{Parsed}

module _ (profile : Profile) (name : ℕ → List ℕ) (file : Parsed) (infinite : ℕ → Bool) (told : TellsInfinite name file.decls infinite) where
  infinite_stand : (f : NameFault) → Member f (infinite_faults infinite file.decls) → Stands profile name file f
  infinite_stand f m =
      let (pair, listed, here) = from_flat_map (infinite_fault infinite) f (enumerate_from 0 file.decls) m in
      let (k, at, same) = from_numbered pair.0 pair.1 file.decls 0 listed in
      let number : pair.0 ≡ k = omega (arith, same) in
      from_where (Stands profile name file) (infinite pair.0) Infinite pair.1.name f
      (λ t. record {
        number = k;
        decl = pair.1;
        at = at;
        named = refl;
        holds = (told.tells k (slice_get_within file.decls k pair.1 at)).0 (subst (λ i. infinite i ≡ true) number t);
      }) here

  lists_stand : (d : Decl) → Member d file.decls → (f : NameFault) → Member f (flat_map (repeats name) (decl_lists d)) → Stands profile name file f
  lists_stand d declared f m =
      let (places, among, here) = from_flat_map (repeats name) f (decl_lists d) m in
      repeats_stand profile name file places (inr (inr (into_flat_map decl_lists places d file.decls declared among))) f here

  decl_stands : (f : NameFault) (d : Decl) → Member d file.decls → Member f (decl_faults profile name file.decls d) → Stands profile name file f
  decl_stands f d declared m =
      in_row f (flat_map (repeats name) (decl_lists d)) (reserved name d.params) (scope_faults name file.decls (decl_scope d))
      (value_faults profile (tag_of d) [] (AtLeastZero 0) d.variants) (repr_faults d) (Stands profile name file f)
      (lists_stand d declared f)
      (reserved_stand profile name file d.params (inr (into_map (λ d. d.params) d file.decls declared)) f)
      (scope_stands profile name file (decl_scope d) (front (decl_scope d) (map decl_scope file.decls) (outer_scope file ∷ []) (into_map decl_scope d file.decls declared)) f)
      (values_stand profile name file d declared f)
      (repr_stands profile name file d declared f) m

  decls_stand : (f : NameFault) → Member f (flat_map (decl_faults profile name file.decls) file.decls) → Stands profile name file f
  decls_stand f m = let (d, declared, here) = from_flat_map (decl_faults profile name file.decls) f file.decls m in decl_stands f d declared here

  outer_stands : (f : NameFault) → Member f (scope_faults name file.decls (outer_scope file)) → Stands profile name file f
  outer_stands f m =
      scope_stands profile name file (outer_scope file) (behind (outer_scope file) (map decl_scope file.decls) (outer_scope file ∷ []) (inl refl)) f m

  -- each fault that is listed stands in the file
  pub listed_stands : (f : NameFault) → Member f (file_faults profile name file infinite) → Stands profile name file f
  listed_stands f m =
      in_row f (repeats name (map (λ d. d.name) file.decls)) (repeats name file.lifetimes) (reserved name file.lifetimes)
      (flat_map (decl_faults profile name file.decls) file.decls)
      (scope_faults name file.decls (outer_scope file) ++ infinite_faults infinite file.decls) (Stands profile name file f)
      (repeats_stand profile name file (map (λ d. d.name) file.decls) (inl refl) f)
      (repeats_stand profile name file file.lifetimes (inr (inl refl)) f)
      (reserved_stand profile name file file.lifetimes (inl refl) f)
      (decls_stand f)
      (λ n. ⊎_elim (outer_stands f) (infinite_stand f) (either f (scope_faults name file.decls (outer_scope file)) (infinite_faults infinite file.decls) n)) m

  abbrev Listed : NameWhy → ℕ → Type 0
  Listed why place = Member (fault why place) (file_faults profile name file infinite)

  twice_listed : (place : ℕ) → IsTwice name file place → Listed Twice place
  twice_listed place h =
      let places = h.before ++ (place ∷ h.after) in
      at_list profile name file infinite (fault Twice place) places (member places (name_lists file) h.listed) (into_repeats name [] h.before h.after place h.again)

  unknown_is_listed : (place : ℕ) → IsUnknown name file place → Listed Unknown place
  unknown_is_listed place h =
      subst (λ p. Listed Unknown p) h.here
      (at_scope profile name file infinite (fault Unknown h.mention.place) h.scope (member h.scope (scopes_of file) h.mentioned.part)
      (unknown_listed name file.decls h.scope h.mention (member (Name h.mention) h.scope.mentions h.mentioned.mentioned)
      (subst (λ p. IsNone (meaning_of name file.decls h.scope.types p)) (sym h.here) h.unknown)))

  arity_is_listed : (place : ℕ) → IsArity name file place → Listed Arity place
  arity_is_listed place h =
      subst (λ p. Listed Arity p) h.here
      (at_scope profile name file infinite (fault Arity h.mention.place) h.scope (member h.scope (scopes_of file) h.mentioned.part)
      (arity_listed name file.decls h.scope h.mention h.meaning (member (Name h.mention) h.scope.mentions h.mentioned.mentioned)
      (subst (λ p. meaning_of name file.decls h.scope.types p ≡ Some h.meaning) (sym h.here) h.meant) h.differs))

  hidden_is_listed : (place : ℕ) → IsOutOfSight name file place → Listed Lifetime place
  hidden_is_listed place h =
      at_scope profile name file infinite (fault Lifetime place) h.scope (member h.scope (scopes_of file) h.mentioned.part)
      (hidden_listed name file.decls h.scope place (member (Life place) h.scope.mentions h.mentioned.mentioned) h.hidden)

  reserved_is_listed : (place : ℕ) → IsReserved name file place → Listed Lifetime place
  reserved_is_listed place h =
      at_lifetimes profile name file infinite (fault Lifetime place) h.places (member h.places (lifetime_lists file) h.listed)
      (reserved_listed name h.places place (member place h.places h.among) h.reserved)

  value_is_listed : (place : ℕ) → IsDiscriminant profile name file place → Listed Discriminant place
  value_is_listed place h =
      at_values profile name file infinite (fault Discriminant place) h.decl (member h.decl file.decls h.declared)
      (value_listed profile h.decl h.before h.after h.here place h.listed h.named h.wrong)

  infinite_is_listed : (place : ℕ) → IsInfinite name file place → Listed Infinite place
  infinite_is_listed place h =
      subst (λ p. Listed Infinite p) h.named
      (at_infinite profile name file infinite (fault Infinite h.decl.name)
      (into_flat_map (infinite_fault infinite) (fault Infinite h.decl.name) (h.number, h.decl) (enumerate_from 0 file.decls)
      (numbered h.decl file.decls h.number 0 h.number h.at (omega arith))
      (into_where (infinite h.number) Infinite h.decl.name
      ((told.tells h.number (slice_get_within file.decls h.number h.decl h.at)).1 h.holds))))

  repr_is_listed : (place : ℕ) → IsBadRepr name file place → Listed BadRepr place
  repr_is_listed place h =
      subst (λ p. Listed BadRepr p) h.here
      (at_repr profile name file infinite (fault BadRepr h.first.token) h.decl (member h.decl file.decls h.declared)
      (repr_listed h.decl h.first h.others h.reprs h.wrong))

  -- and each that stands in the file is listed
  pub standing_listed : (why : NameWhy) (place : ℕ) → IsNameFault profile name file why place → Listed why place
  standing_listed Twice place h = twice_listed place h
  standing_listed Unknown place h = unknown_is_listed place h
  standing_listed Arity place h = arity_is_listed place h
  standing_listed Lifetime place h = ⊎_elim (hidden_is_listed place) (reserved_is_listed place) h
  standing_listed Discriminant place h = value_is_listed place h
  standing_listed Infinite place h = infinite_is_listed place h
  standing_listed BadRepr place h = repr_is_listed place h
