-- A type that a file without faults writes is resolved to one in form.
use Rattle.std.proofs.Common.{◌≡◌, ◌^◌, ℕ, refl, sym, subst, arith, inl, inr, ⊎_elim, Bool, true, List, [], ◌∷◌, length, map, All}
use Rattle.std.specs.Prelude.{nat_lt, Option, Some, None, IsNone, ⊤}
use Rattle.std.specs.List.{list_all, flat_map}
use Rattle.std.proofs.lemmas.Bool.{and_from, le-leb, leb-true, lt-ltb}
use Rattle.std.proofs.lemmas.List.{length-map}
use Rattle.std.proofs.lemmas.List.Elements.{All-contains}
use Rattle.tm_base.specs.declared.limit.NameWhy.TheVariants.{Unknown}
use Rattle.tm_base.specs.declared.profile.Profile.{Profile}
use Rattle.tm_names.proofs.KnownLemmas.{declared_known, found_within, param_known}
use Rattle.tm_names.proofs.MeaningLemmas.{definition_found}
use Rattle.tm_names.proofs.Members.{Member, behind, contained, from_flat_map, from_map, front, into_flat_map, into_map}
use Rattle.tm_names.proofs.MentionedLemmas.{named_mentioned}
use Rattle.tm_names.proofs.WrittenLemmas.{no_more_written, written_from}
use Rattle.tm_names.specs.declared.meaning.Meaning.{Meaning}
use Rattle.tm_names.specs.declared.meaning.Meaning.TheVariants.{Definition, Parameter}
use Rattle.tm_names.specs.declared.faults.mentions.Mention.TheVariants.{Name}
use Rattle.tm_names.specs.declared.faults.mentions.NameMention.{NameMention}
use Rattle.tm_names.specs.declared.resolved.Life.{Life}
use Rattle.tm_names.specs.declared.resolved.Open.{Open}
use Rattle.tm_names.specs.declared.resolved.Resolved.{Resolved}
use Rattle.tm_names.specs.Faults.{HasNoFault}
use Rattle.tm_names.specs.Holding.{name_of}
use Rattle.tm_names.specs.Meanings.{first_named, meaning_of}
use Rattle.tm_names.specs.InForm.{asked_types, field_types, is_head_known, is_life_known, is_type_in_form, written}
use Rattle.tm_names.specs.Mentions.{mentions_of}
use Rattle.tm_names.specs.Resolutions.{ask_of, decl_types, declared_of, def_of, field_type, named, outer_type, param_of, resolved_of, row_types, type_of, variant_types}
use Rattle.tm_names.specs.Scopes.{Scope, ask_mentions, bound_mentions, decl_scope, outer_scope, scopes_of, variant_mentions}
use Rattle.tm_names.specs.Written.{first_among, is_same}
use Rattle.tm_parse.specs.Bounds.{EachType, HasIntegers, HasShortArrays, IsSmall, is_of_integer, is_short}
use Rattle.tm_parse.specs.Written as parsed
use Rattle.tm_parse.specs.declared.parsed.Decl.{Decl}
use Rattle.tm_parse.specs.declared.parsed.DeclAsk.{DeclAsk}
use Rattle.tm_parse.specs.declared.parsed.DeclField.{DeclField}
use Rattle.tm_parse.specs.declared.parsed.DeclVariant.{DeclVariant}
use Rattle.tm_parse.specs.declared.parsed.Expr.{Expr, Prim, Never, Tuple', Array', NonZero, Wrap', Named', Ref'}
use Rattle.tm_parse.specs.declared.parsed.Parsed.{Parsed}

-- what passes for each member passes for all
pub each_passes : {X : Type 0} (p : X → Bool) (xs : List X) → ((x : X) → Member x xs → p x ≡ true) → list_all p xs ≡ true
each_passes p [] each = refl
each_passes p (x ∷ xs) each = and_from _ _ (each x (inl refl)) (each_passes p xs (λ y m. each y (inr m)))

-- and what holds of all holds of each member
pub of_member : {X : Type 0} (P : X → Type 0) (xs : List X) (x : X) → All P xs → Member x xs → P x
of_member P xs x h m = All-contains P xs x h (contained x xs m)

of_field : (Is : Expr → Type 0) (file : Parsed) → EachType Is file → (d : Decl) → Member d file.decls → (v : DeclVariant) → Member v d.variants
    → (field : DeclField) → Member field v.fields → Is field.ty
of_field Is file h d among v within field here =
    let fields = of_member (λ v. All (λ f. Is f.ty) v.fields) d.variants v (of_member (λ d. All (λ v. All (λ f. Is f.ty) v.fields) d.variants) file.decls d h.fields among) within in
    of_member (λ f. Is f.ty) v.fields field fields here

module _ (profile : Profile) (name : ℕ → List ℕ) (file : Parsed) (sound : HasNoFault profile name file) where
  abbrev resolved : Resolved
  resolved = resolved_of profile name file

  -- it means something, and a definition's number is one
  abbrev IsKnown : Option Meaning → Type 0
  IsKnown None = ⊥
  IsKnown (Some (Definition k)) = nat_lt k (length resolved.defs) ≡ true
  IsKnown (Some (Parameter k)) = ⊤

  -- so does a name that is mentioned
  meant_known : (scope : Scope) → Member scope (scopes_of file) → (m : NameMention) → Member (Name m) scope.mentions → IsKnown (meaning_of name file.decls scope.types m.place)
  meant_known scope part m mentioned = go (meaning_of name file.decls scope.types m.place) refl
    where
      go : (o : Option Meaning) → meaning_of name file.decls scope.types m.place ≡ o → IsKnown o
      go None e = sound.none Unknown m.place (record {
        scope = scope;
        mention = m;
        mentioned = record { part = contained scope (scopes_of file) part; mentioned = contained (Name m) scope.mentions mentioned };
        here = refl;
        unknown = subst IsNone (sym e) refl;
      })
      go (Some (Definition k)) e =
          let found = definition_found (first_among name scope.types m.place) (first_named name file.decls m.place) k e in
          let h = found_within (λ d. is_same name d.name m.place) 0 file.decls k found in
          lt-ltb k _ (omega (arith, h, length-map file.decls (def_of name)))
      go (Some (Parameter k)) e = tt

  module _ (types : List ℕ) (life : ℕ → Life) (lives : (place : ℕ) → is_life_known (length resolved.regions) (life place) ≡ true) where
    lives_known : (places : List ℕ) → list_all (is_life_known (length resolved.regions)) (map life places) ≡ true
    lives_known [] = refl
    lives_known (p ∷ ps) = and_from _ _ (lives p) (lives_known ps)

    abbrev meant : Expr → Open
    meant = type_of (meaning_of name file.decls types) life

    named_known : (o : Option Meaning) (places : List ℕ) (ts : List Open) → IsKnown o
        → is_head_known (length resolved.defs) (length resolved.regions) (named o (map life places) ts) ≡ true
    named_known None places ts known = absurd known
    named_known (Some (Definition k)) places ts known = and_from _ _ known (lives_known places)
    named_known (Some (Parameter k)) places ts known = refl

    head_known : (e : Expr) → is_of_integer e ≡ true → is_short e ≡ true
        → ((place : ℕ) → name_of e ≡ Some place → IsKnown (meaning_of name file.decls types place))
        → is_head_known (length resolved.defs) (length resolved.regions) (meant e) ≡ true
    unfolding type_of
    head_known (Prim p) h l known = refl
    head_known Never h l known = refl
    head_known (Tuple' shape row) h l known = refl
    head_known (Array' shape row n) h l known = let most = leb-true n 4294967295 l in lt-ltb n (2 ^ 32) (omega (arith, most))
    head_known (NonZero p) h l known = h
    head_known (Wrap' w shape row) h l known = refl
    head_known (Named' place places shape row) h l known = named_known (meaning_of name file.decls types place) places (row_types (meaning_of name file.decls types) life row) (known place refl)
    head_known (Ref' place mutable shape row) h l known = lives place

  module _ (scope : Scope) (part : Member scope (scopes_of file)) (life : ℕ → Life) (lives : (place : ℕ) → is_life_known (length resolved.regions) (life place) ≡ true) where
    pub type_in_form : (e : Expr) → ((m : NameMention) → Member (Name m) (mentions_of e) → Member (Name m) scope.mentions)
        → IsSmall e → HasIntegers e → HasShortArrays e → is_type_in_form resolved (meant scope.types life lives e) ≡ true
    type_in_form e mentioned small integers short =
        and_from _ _
        (each_passes (is_head_known (length resolved.defs) (length resolved.regions)) (written (meant scope.types life lives e)) each)
        (le-leb _ 64 (let few = small.nodes in omega (arith, few, no_more_written (meaning_of name file.decls scope.types) life e)))
      where
        known : (t : Expr) → Member t (parsed.written e) → is_head_known (length resolved.defs) (length resolved.regions) (meant scope.types life lives t) ≡ true
        known t m = head_known scope.types life lives t (of_member (λ u. is_of_integer u ≡ true) (parsed.written e) t integers.each m)
            (of_member (λ u. is_short u ≡ true) (parsed.written e) t short.each m)
            (λ place named.
            let (mention, here, among) = named_mentioned place e t named m in
            subst (λ p. IsKnown (meaning_of name file.decls scope.types p)) here (meant_known scope part mention (mentioned mention among)))

        each : (u : Open) → Member u (written (meant scope.types life lives e)) → is_head_known (length resolved.defs) (length resolved.regions) u ≡ true
        each u m =
            let (t, among, same) = written_from (meaning_of name file.decls scope.types) life e u m in
            subst (λ v. is_head_known (length resolved.defs) (length resolved.regions) v ≡ true) same (known t among)

  -- the types of all fields
  module _ (small : EachType IsSmall file) (integers : EachType HasIntegers file) (short : EachType HasShortArrays file) where
    field_in_form : (d : Decl) → Member d file.decls → (v : DeclVariant) → Member v d.variants → (field : DeclField) → Member field v.fields
        → is_type_in_form resolved (field_type name file.decls d field.ty) ≡ true
    field_in_form d among v within field here =
        type_in_form (decl_scope d) (front (decl_scope d) (map decl_scope file.decls) (outer_scope file ∷ []) (into_map decl_scope d file.decls among))
        (param_of name d.params) (param_known name (length resolved.regions) d.params) field.ty
        (λ m mentioned. into_flat_map variant_mentions (Name m) v d.variants within (into_flat_map (λ f. mentions_of f.ty) (Name m) field v.fields here mentioned))
        (of_field IsSmall file small d among v within field here) (of_field HasIntegers file integers d among v within field here)
        (of_field HasShortArrays file short d among v within field here)

    in_variant : (d : Decl) → Member d file.decls → (v : DeclVariant) → Member v d.variants → (t : Open)
        → Member t (variant_types name file.decls d v) → is_type_in_form resolved t ≡ true
    in_variant d among v within t m =
        let (field, here, same) = from_map (λ f. field_type name file.decls d f.ty) t v.fields m in
        subst (λ u. is_type_in_form resolved u ≡ true) same (field_in_form d among v within field here)

    in_decl : (d : Decl) → Member d file.decls → (t : Open) → Member t (flat_map (λ types. types) (decl_types name file.decls d)) → is_type_in_form resolved t ≡ true
    in_decl d among t m =
        let (types, a, b) = from_flat_map (λ types. types) t (decl_types name file.decls d) m in
        let (v, within, same) = from_map (variant_types name file.decls d) types d.variants a in
        in_variant d among v within t (subst (Member t) (sym same) b)

    pub fields_in_form : list_all (is_type_in_form resolved) (field_types resolved) ≡ true
    fields_in_form = each_passes (is_type_in_form resolved) (field_types resolved) each
      where
        each : (t : Open) → Member t (field_types resolved) → is_type_in_form resolved t ≡ true
        each t m =
            let (types, a, b) = from_flat_map (λ variants. flat_map (λ types. types) variants) t resolved.types m in
            let (d, among, same) = from_map (decl_types name file.decls) types file.decls a in
            in_decl d among t (subst (λ variants. Member t (flat_map (λ ts. ts) variants)) (sym same) b)

    -- both types of a question
    asked_in_form : (ask : DeclAsk) → Member ask file.questions → (e : Expr)
        → ((m : NameMention) → Member (Name m) (mentions_of e) → Member (Name m) (ask_mentions ask)) → IsSmall e → HasIntegers e → HasShortArrays e
        → is_type_in_form resolved (outer_type name file e) ≡ true
    asked_in_form ask among e mentioned few of_integers of_arrays =
        type_in_form (outer_scope file) (behind (outer_scope file) (map decl_scope file.decls) (outer_scope file ∷ []) (inl refl))
        (declared_of name file.lifetimes) (declared_known name file.lifetimes) e
        (λ m here. behind (Name m) (flat_map bound_mentions file.bounds) (flat_map ask_mentions file.questions)
        (into_flat_map ask_mentions (Name m) ask file.questions among (mentioned m here)))
        few of_integers of_arrays

    pub asks_in_form : list_all (is_type_in_form resolved) (asked_types resolved) ≡ true
    asks_in_form = each_passes (is_type_in_form resolved) (asked_types resolved) each
      where
        each : (t : Open) → Member t (asked_types resolved) → is_type_in_form resolved t ≡ true
        each t m =
            let (asked, a, b) = from_flat_map (λ ask. ask.src ∷ ask.dst ∷ []) t resolved.asks m in
            let (ask, among, same) = from_map (ask_of name file) asked file.questions a in
            let few = of_member (λ question. IsSmall question.src × IsSmall question.dst) file.questions ask small.questions among in
            let of_integers = of_member (λ question. HasIntegers question.src × HasIntegers question.dst) file.questions ask integers.questions among in
            let of_arrays = of_member (λ question. HasShortArrays question.src × HasShortArrays question.dst) file.questions ask short.questions among in
            let is_one = subst (λ o. Member t (o.src ∷ o.dst ∷ [])) (sym same) b in
            ⊎_elim
            (λ e. subst (λ u. is_type_in_form resolved u ≡ true) e
            (asked_in_form ask among ask.src (λ m here. front (Name m) (mentions_of ask.src) (mentions_of ask.dst) here) few.0 of_integers.0 of_arrays.0))
            (λ rest. ⊎_elim
            (λ e. subst (λ u. is_type_in_form resolved u ≡ true) e
            (asked_in_form ask among ask.dst (λ m here. behind (Name m) (mentions_of ask.src) (mentions_of ask.dst) here) few.1 of_integers.1 of_arrays.1))
            (λ none. absurd none) rest)
            is_one
