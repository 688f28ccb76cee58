-- What holds of each place of a file holds of the place at which a fault stands.
use Rattle.std.proofs.Common.{ℕ, refl, sym, subst, inl, inr, ⊎_elim, List, [], ◌∷◌, ◌++◌, map, All}
use Rattle.std.specs.Prelude.{Option, Some, None, IfSome, pos, option_to_list}
use Rattle.std.specs.List.{flat_map}
use Rattle.std.proofs.lemmas.List.Elements.{All-head}
use Rattle.tm_base.specs.declared.limit.NameWhy.{NameWhy}
use Rattle.tm_base.specs.declared.limit.NameWhy.TheVariants.{Twice, Unknown, Arity, Lifetime, Discriminant, Infinite, BadRepr}
use Rattle.tm_base.specs.declared.profile.Profile.{Profile}
use Rattle.tm_names.proofs.form_laws.DefFormLemmas.{variant_among}
use Rattle.tm_names.proofs.Members.{Member, behind, either, from_flat_map, from_map, front, member, member_from_get}
use Rattle.tm_names.proofs.form_laws.TypeFormLemmas.{of_member}
use Rattle.tm_names.specs.declared.faults.mentions.Mention.{Mention}
use Rattle.tm_names.specs.declared.faults.mentions.Mention.TheVariants.{Name, Life}
use Rattle.tm_names.specs.Faults.{IsBadRepr, IsDiscriminant, IsMentioned, IsNameFault, IsReserved, IsTwice, decl_lists, field_names, lifetime_lists, name_lists, variant_names}
use Rattle.tm_names.specs.Mentions.{mentions_of, row_mentions}
use Rattle.tm_names.specs.Scopes.{Scope, ask_mentions, bound_mentions, decl_mentions, decl_scope, outer_scope, scopes_of, variant_mentions}
use Rattle.tm_parse.specs.Places.{EachPlace, PlacesOfBound, PlacesOfDefinition, PlacesOfField, PlacesOfQuestion, PlacesOfType, PlacesOfVariant, own_places}
use Rattle.tm_parse.specs.Written.{written, row_written}
use Rattle.tm_parse.specs.declared.parsed.Decl.{Decl}
use Rattle.tm_parse.specs.declared.parsed.DeclVariant.{DeclVariant}
use Rattle.tm_parse.specs.declared.parsed.Expr.{Expr, Row_of-Expr, end_of-Expr, more_of-Expr, Prim, Never, Tuple', Array', NonZero, Wrap', Named', Ref'}
use Rattle.tm_parse.specs.declared.parsed.Parsed.{Parsed}

-- where a mention stands
abbrev place_of : Mention → ℕ
place_of (Name mention) = mention.place
place_of (Life place) = place

module _ (IsPlace : ℕ → Type 0) where
  abbrev EachOf : List Expr → Type 0
  EachOf es = (x : Expr) → Member x es → All IsPlace (own_places x)

  own_placed : (place : ℕ) (places : List ℕ) → All IsPlace (place ∷ places) → (m : Mention) → Member m (map Life places) → IsPlace (place_of m)
  own_placed place places h m n =
      let (life, among, same) = from_map Life m places n in
      subst (λ u. IsPlace (place_of u)) same (of_member IsPlace (place ∷ places) life h (inr among))

  mutual
    unfolding mentions_of written

    mention_placed : (e : Expr) → EachOf (written e) → (m : Mention) → Member m (mentions_of e) → IsPlace (place_of m)
    mention_placed (Prim p) h m n = absurd n
    mention_placed Never h m n = absurd n
    mention_placed (Tuple' shape row) h m n = among_placed row (λ x k. h x (inr k)) m n
    mention_placed (Array' shape row l) h m n = among_placed row (λ x k. h x (inr k)) m n
    mention_placed (NonZero p) h m n = absurd n
    mention_placed (Wrap' w shape row) h m n = among_placed row (λ x k. h x (inr k)) m n
    mention_placed (Named' place places shape row) h m n =
        let own = h (Named' place places shape row) (inl refl) in
        ⊎_elim (λ e. subst (λ u. IsPlace (place_of u)) e (All-head IsPlace place places own))
        (λ k. ⊎_elim (own_placed place places own m) (among_placed row (λ x l. h x (inr l)) m) (either m (map Life places) (row_mentions row) k)) n
    mention_placed (Ref' life mutable shape row) h m n =
        ⊎_elim (λ e. subst (λ u. IsPlace (place_of u)) e (All-head IsPlace life [] (h (Ref' life mutable shape row) (inl refl))))
        (among_placed row (λ x k. h x (inr k)) m) n

    among_placed : {l : _} (row : Row_of-Expr l) → EachOf (row_written row) → (m : Mention) → Member m (row_mentions row) → IsPlace (place_of m)
    among_placed end_of-Expr h m n = absurd n
    among_placed (more_of-Expr e es) h m n =
        ⊎_elim (mention_placed e (λ x k. h x (front x (written e) (row_written es) k)) m)
        (among_placed es (λ x k. h x (behind x (written e) (row_written es) k)) m)
        (either m (mentions_of e) (row_mentions es) n)

  type_placed : (e : Expr) → PlacesOfType IsPlace e → (m : Mention) → Member m (mentions_of e) → IsPlace (place_of m)
  type_placed e h = mention_placed e (λ x k. of_member (λ inner. All IsPlace (own_places inner)) (written e) x h.each k)

  name_placed : (o : Option ℕ) → IfSome o IsPlace → (place : ℕ) → Member place (option_to_list o) → IsPlace place
  name_placed None h place m = absurd m
  name_placed (Some p) h place m = ⊎_elim (λ e. subst IsPlace e h) (λ n. absurd n) m

  module _ (profile : Profile) (name : ℕ → List ℕ) (file : Parsed) (placed : EachPlace IsPlace file) where
    decl_placed : (d : Decl) → Member d file.decls → PlacesOfDefinition IsPlace d
    decl_placed d among = of_member (PlacesOfDefinition IsPlace) file.decls d placed.definitions among

    variant_placed : (d : Decl) → Member d file.decls → (v : DeclVariant) → Member v d.variants → PlacesOfVariant IsPlace v
    variant_placed d among v within = of_member (PlacesOfVariant IsPlace) d.variants v (decl_placed d among).variants within

    -- a name that is listed
    field_name_placed : (v : DeclVariant) → PlacesOfVariant IsPlace v → (place : ℕ) → Member place (field_names v) → IsPlace place
    field_name_placed v h place m =
        let (field, here, at) = from_flat_map (λ field. option_to_list field.name) place v.fields m in
        name_placed field.name (of_member (PlacesOfField IsPlace) v.fields field h.fields here).name place at

    variant_name_placed : (d : Decl) → Member d file.decls → (place : ℕ) → Member place (variant_names d) → IsPlace place
    variant_name_placed d among place m =
        let (v, within, at) = from_flat_map (λ v. option_to_list v.name) place d.variants m in
        name_placed v.name (variant_placed d among v within).name place at

    in_decl_list : (d : Decl) → Member d file.decls → (places : List ℕ) → Member places (decl_lists d) → (place : ℕ) → Member place places → IsPlace place
    in_decl_list d among places m place here =
        ⊎_elim (λ e. of_member IsPlace d.params place (decl_placed d among).parameters (subst (Member place) (sym e) here))
        (λ o. ⊎_elim (λ e. of_member IsPlace d.type_params place (decl_placed d among).type_parameters (subst (Member place) (sym e) here))
        (λ n. ⊎_elim (λ e. variant_name_placed d among place (subst (Member place) (sym e) here))
        (λ k.
        let (v, within, e) = from_map field_names places d.variants k in
        field_name_placed v (variant_placed d among v within) place (subst (Member place) (sym e) here)) n) o) m

    definition_name_placed : (place : ℕ) → Member place (map (λ d. d.name) file.decls) → IsPlace place
    definition_name_placed place m =
        let (d, among, e) = from_map (λ d. d.name) place file.decls m in
        subst IsPlace e (decl_placed d among).name

    in_list : (places : List ℕ) → Member places (name_lists file) → (place : ℕ) → Member place places → IsPlace place
    in_list places m place here =
        ⊎_elim (λ e. definition_name_placed place (subst (Member place) (sym e) here))
        (λ n. ⊎_elim (λ e. of_member IsPlace file.lifetimes place placed.lifetimes (subst (Member place) (sym e) here))
        (λ k.
        let (d, among, at) = from_flat_map decl_lists places file.decls k in
        in_decl_list d among places at place here) n) m

    in_lifetimes : (places : List ℕ) → Member places (lifetime_lists file) → (place : ℕ) → Member place places → IsPlace place
    in_lifetimes places m place here =
        ⊎_elim (λ e. of_member IsPlace file.lifetimes place placed.lifetimes (subst (Member place) (sym e) here))
        (λ n.
        let (d, among, e) = from_map (λ d. d.params) places file.decls n in
        of_member IsPlace d.params place (decl_placed d among).parameters (subst (Member place) (sym e) here)) m

    -- a name or a lifetime that is mentioned
    in_decl_scope : (d : Decl) → Member d file.decls → (m : Mention) → Member m (decl_mentions d) → IsPlace (place_of m)
    in_decl_scope d among m n =
        let (v, within, k) = from_flat_map variant_mentions m d.variants n in
        let (field, here, at) = from_flat_map (λ field. mentions_of field.ty) m v.fields k in
        type_placed field.ty (of_member (PlacesOfField IsPlace) v.fields field (variant_placed d among v within).fields here).type m at

    in_bounds : (m : Mention) → Member m (flat_map bound_mentions file.bounds) → IsPlace (place_of m)
    in_bounds m n =
        let (bound, among, at) = from_flat_map bound_mentions m file.bounds n in
        let h = of_member (PlacesOfBound IsPlace) file.bounds bound placed.bounds among in
        ⊎_elim (λ e. subst (λ u. IsPlace (place_of u)) e h.longer)
        (λ k. ⊎_elim (λ e. subst (λ u. IsPlace (place_of u)) e h.shorter) (λ none. absurd none) k) at

    in_questions : (m : Mention) → Member m (flat_map ask_mentions file.questions) → IsPlace (place_of m)
    in_questions m n =
        let (ask, among, at) = from_flat_map ask_mentions m file.questions n in
        let h = of_member (PlacesOfQuestion IsPlace) file.questions ask placed.questions among in
        ⊎_elim (type_placed ask.src h.source m) (type_placed ask.dst h.target m) (either m (mentions_of ask.src) (mentions_of ask.dst) at)

    in_scope : (scope : Scope) → Member scope (scopes_of file) → (m : Mention) → Member m scope.mentions → IsPlace (place_of m)
    in_scope scope part m n =
        ⊎_elim
        (λ k.
        let (d, among, e) = from_map decl_scope scope file.decls k in
        in_decl_scope d among m (subst (λ s. Member m s.mentions) (sym e) n))
        (λ k. ⊎_elim
        (λ e.
        let here : Member m (outer_scope file).mentions = subst (λ s. Member m s.mentions) (sym e) n in
        ⊎_elim (in_bounds m) (in_questions m) (either m (flat_map bound_mentions file.bounds) (flat_map ask_mentions file.questions) here))
        (λ none. absurd none) k)
        (either scope (map decl_scope file.decls) (outer_scope file ∷ []) part)

    mentioned_placed : (scope : Scope) (m : Mention) → IsMentioned name file scope m → IsPlace (place_of m)
    mentioned_placed scope m h = in_scope scope (member scope (scopes_of file) h.part) m (member m scope.mentions h.mentioned)

    twice_placed : (place : ℕ) → IsTwice name file place → IsPlace place
    twice_placed place h =
        in_list (h.before ++ (place ∷ h.after)) (member (h.before ++ (place ∷ h.after)) (name_lists file) h.listed) place (behind place h.before (place ∷ h.after) (inl refl))

    reserved_placed : (place : ℕ) → IsReserved name file place → IsPlace place
    reserved_placed place h = in_lifetimes h.places (member h.places (lifetime_lists file) h.listed) place (member place h.places h.among)

    value_placed : (place : ℕ) → IsDiscriminant profile name file place → IsPlace place
    value_placed place h =
        let within = variant_among (pos 0) h.decl.variants h.here (subst (Member h.here) (sym h.listed) (behind h.here h.before (h.here ∷ h.after) (inl refl))) in
        let named = (variant_placed h.decl (member h.decl file.decls h.declared) h.here.variant within).name in
        subst (λ o. IfSome o IsPlace) h.named named

    repr_placed : (place : ℕ) → IsBadRepr name file place → IsPlace place
    repr_placed place h =
        let reprs = (decl_placed h.decl (member h.decl file.decls h.declared)).reprs in
        subst IsPlace h.here (All-head (λ repr. IsPlace repr.token) h.first h.others (subst (All (λ repr. IsPlace repr.token)) h.reprs reprs))

    pub fault_placed : (why : NameWhy) (place : ℕ) → IsNameFault profile name file why place → IsPlace place
    fault_placed Twice place h = twice_placed place h
    fault_placed Unknown place h = subst IsPlace h.here (mentioned_placed h.scope (Name h.mention) h.mentioned)
    fault_placed Arity place h = subst IsPlace h.here (mentioned_placed h.scope (Name h.mention) h.mentioned)
    fault_placed Lifetime place h = ⊎_elim (λ f. mentioned_placed f.scope (Life place) f.mentioned) (reserved_placed place) h
    fault_placed Discriminant place h = value_placed place h
    fault_placed Infinite place h = subst IsPlace h.named (decl_placed h.decl (member_from_get h.decl file.decls h.number h.at)).name
    fault_placed BadRepr place h = repr_placed place h
