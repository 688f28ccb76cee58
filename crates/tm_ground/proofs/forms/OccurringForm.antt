-- In a file in form each type that occurs is in form.
use Rattle.std.proofs.Common.{◌≡◌, ℕ, zero, suc, ◌^◌, Bool, true, ◌&&◌, refl, sym, ap, subst, ◌∙◌, ⊎_elim, List, [], ◌∷◌, ◌++◌, map, length, Contains, slice_get, unwrap_or, nat_lt, arith}
use Rattle.std.specs.List.{list_all, flat_map}
use Rattle.std.proofs.lemmas.Bool.{lt-ltb}
use Rattle.std.proofs.lemmas.List.{map-append}
use Rattle.std.proofs.lemmas.List.Elements.{All-contains, Contains-append_cases, Contains-append_left, Contains-append_right}
use Rattle.std.proofs.lemmas.List.Sums.{AllPass-from_list_all}
use Rattle.tm_base.specs.declared.definition.DefId.{DefId}
use Rattle.tm_base.specs.declared.definition.RegionId.{RegionId}
use Rattle.tm_names.specs.declared.resolved.Open.{Open}
use Rattle.tm_names.specs.declared.resolved.OpenAsk.{OpenAsk}
use Rattle.tm_names.specs.declared.resolved.Resolved.{Resolved}
use Rattle.tm_names.specs.InForm.{is_type_in_form, field_types, asked_types as sides, IsInForm}
use Rattle.tm_ground.specs.Closed.{Closed, Elements, prim, never, tuple, array, nonzero, wrap, named, ref, no_elements, element, closed, listed, put_in}
use Rattle.tm_ground.specs.Occurs.{fields_of, parts_in, parts_of, all_fields, written_fields, asked_in, asked_types, Occurs, is_asked, is_part}
use Rattle.tm_ground.proofs.finding.ContainsLemmas.{contains-nothing, contains-cons}
use Rattle.tm_ground.proofs.forms.FormLemmas.{first, second, is_region_known, is_known, are_known, known-listed, put_in-known}

-- what is in a list of types that are put in comes from one of them
from-map : (f : Open → Closed) (ts : List Open) (c : Closed) → Contains (map f ts) c → (t : Open) × (f t ≡ c) × Contains ts t
from-map f [] c h = absurd (contains-nothing c h)
from-map f (t ∷ ts) c (zero, l, e) = (t, e, (0, omega arith, refl))
from-map f (t ∷ ts) c (suc k, l, e) =
    let (u, s, j) = from-map f ts c (k, omega (arith, l), e) in
    (u, s, (suc j.0, omega (arith, j.1), j.2))

all_fields-map : (rs : List RegionId) (args : List Closed) (variants : List (List Open)) → all_fields rs args variants ≡ map (put_in rs args) (flat_map (λ ts. ts) variants)
all_fields-map rs args [] = refl
all_fields-map rs args (ts ∷ variants) =
    ap (λ others. map (put_in rs args) ts ++ others) (all_fields-map rs args variants) ∙ sym (map-append (put_in rs args) ts (flat_map (λ us. us) variants))

asked_in-map : (asks : List OpenAsk) → asked_in asks ≡ map closed (flat_map (λ ask. ask.src ∷ ask.dst ∷ []) asks)
asked_in-map [] = refl
asked_in-map (ask ∷ asks) = ap (λ others. closed ask.src ∷ closed ask.dst ∷ others) (asked_in-map asks)

-- a field of a definition is among those of all
written-field : (types : List (List (List Open))) (k : ℕ) (t : Open) → Contains (flat_map (λ ts. ts) (unwrap_or (slice_get types k) [])) t → Contains (flat_map (λ vs. flat_map (λ ts. ts) vs) types) t
written-field [] k t h = absurd (omega (arith, h.1))
written-field (vs ∷ types) zero t h = Contains-append_left (flat_map (λ ts. ts) vs) _ t h
written-field (vs ∷ types) (suc k) t h = Contains-append_right (flat_map (λ ts. ts) vs) _ t (written-field types k t h)

passes-at : (p : Open → Bool) (ts : List Open) (t : Open) → list_all p ts ≡ true → Contains ts t → p t ≡ true
passes-at p ts t h i = All-contains (λ x. p x ≡ true) ts t (AllPass-from_list_all p ts h) i

elements-known : (defs regions : ℕ) (cs : Elements) (d : Closed) → are_known defs regions cs ≡ true → Contains (listed cs) d → is_known defs regions d ≡ true
unfolding is_known
elements-known defs regions no_elements d h i = absurd (contains-nothing d i)
elements-known defs regions (element c cs) d h i =
    let rest = elements-known defs regions cs d (second (is_known defs regions c) _ h) in
    ⊎_elim (λ e. subst (λ x. is_known defs regions x ≡ true) e (first _ _ h)) rest (contains-cons c (listed cs) d i)

only-part : (P : Closed → Type 0) (c d : Closed) → P c → Contains (c ∷ []) d → P d
only-part P c d h i = ⊎_elim (λ e. subst P e h) (λ j. absurd (contains-nothing d j)) (contains-cons c [] d i)

part-known : (defs regions : ℕ) (c d : Closed) → is_known defs regions c ≡ true → Contains (parts_in c) d → is_known defs regions d ≡ true
unfolding is_known
part-known defs regions (tuple cs) d h i = elements-known defs regions cs d h i
part-known defs regions (array c n) d h i = only-part (λ x. is_known defs regions x ≡ true) c d (second (nat_lt n (2 ^ 32)) _ h) i
part-known defs regions (wrap w c) d h i = only-part (λ x. is_known defs regions x ≡ true) c d h i
part-known defs regions (ref r m c) d h i = only-part (λ x. is_known defs regions x ≡ true) c d (second (is_region_known regions r) _ h) i
part-known defs regions (prim p) d h i = absurd (contains-nothing d i)
part-known defs regions never d h i = absurd (contains-nothing d i)
part-known defs regions (nonzero p) d h i = absurd (contains-nothing d i)
part-known defs regions (named def rs args) d h i = absurd (contains-nothing d i)

module _ (resolved : Resolved) where
  -- its numbers are known
  abbrev pub IsFormed : Closed → Type 0
  IsFormed c = is_known (length resolved.defs) (length resolved.regions) c ≡ true

  -- those of a named type
  pub record IsNamedFormed (def : DefId) (rs : List RegionId) (args : Elements) : Type 0 where
    pub def_known : nat_lt def.0 (length resolved.defs) ≡ true
    pub regions_known : list_all (is_region_known (length resolved.regions)) rs ≡ true
    pub args_known : are_known (length resolved.defs) (length resolved.regions) args ≡ true

  pub named-formed : (def : DefId) (rs : List RegionId) (args : Elements) → IsFormed (named def rs args) → IsNamedFormed def rs args
  unfolding is_known
  named-formed def rs args f =
      let head : (nat_lt def.0 (length resolved.defs) && list_all (is_region_known (length resolved.regions)) rs) ≡ true = first _ _ f in
      let d : nat_lt def.0 (length resolved.defs) ≡ true = first _ _ head in
      record {
        def_known = d;
        regions_known = second (nat_lt def.0 (length resolved.defs)) _ head;
        args_known = second (nat_lt def.0 (length resolved.defs) && list_all (is_region_known (length resolved.regions)) rs) _ f;
      }

  module _ (form : IsInForm resolved) where
    -- a written type in form with known regions and arguments put in
    put_in-formed : (rs : List RegionId) (args : List Closed) (ts : List Open) (c : Closed) → list_all (is_region_known (length resolved.regions)) rs ≡ true
        → list_all (is_known (length resolved.defs) (length resolved.regions)) args ≡ true → Contains (map (put_in rs args) ts) c
        → ((t : Open) → Contains ts t → is_type_in_form resolved t ≡ true) → IsFormed c
    put_in-formed rs args ts c regions known i each =
        let (t, e, j) = from-map (put_in rs args) ts c i in
        let heads = first _ _ (each t j) in
        subst IsFormed e (put_in-known (length resolved.defs) (length resolved.regions) (lt-ltb 0 (length resolved.regions) form.some_region) rs regions args known t heads)

    asked-formed : (c : Closed) → Contains (asked_types resolved) c → IsFormed c
    asked-formed c i =
        put_in-formed [] [] (sides resolved) c refl refl (subst (λ xs. Contains xs c) (asked_in-map resolved.asks) i) (λ t j. passes-at (is_type_in_form resolved) (sides resolved) t form.asks_in_form j)

    field-formed : (def : DefId) (rs : List RegionId) (args : Elements) (c : Closed) → IsNamedFormed def rs args → Contains (fields_of resolved def rs (listed args)) c → IsFormed c
    field-formed def rs args c f i =
        put_in-formed rs (listed args) (flat_map (λ ts. ts) (written_fields resolved def)) c f.regions_known (known-listed _ _ args f.args_known)
        (subst (λ xs. Contains xs c) (all_fields-map rs (listed args) (written_fields resolved def)) i)
        (λ t j. passes-at (is_type_in_form resolved) (field_types resolved) t form.fields_in_form (written-field resolved.types def.0 t j))

    named-part : (def : DefId) (rs : List RegionId) (args : Elements) (c : Closed) → IsFormed (named def rs args) → Contains (parts_of resolved (named def rs args)) c → IsFormed c
    named-part def rs args c f i =
        let formed = named-formed def rs args f in
        ⊎_elim (λ j. elements-known _ _ args c formed.args_known j) (λ j. field-formed def rs args c formed j)
        (Contains-append_cases (listed args) (fields_of resolved def rs (listed args)) c i)

    pub occurring-formed : (c : Closed) → Occurs resolved c → IsFormed c
    occurring-formed c (is_asked _ h) = asked-formed c h
    occurring-formed c (is_part (named def rs args) _ o s h) = named-part def rs args c (occurring-formed (named def rs args) o) h
    occurring-formed c (is_part (prim p) _ o s h) = absurd (contains-nothing c h)
    occurring-formed c (is_part never _ o s h) = absurd (contains-nothing c h)
    occurring-formed c (is_part (tuple cs) _ o s h) = part-known _ _ (tuple cs) c (occurring-formed (tuple cs) o) h
    occurring-formed c (is_part (array d n) _ o s h) = part-known _ _ (array d n) c (occurring-formed (array d n) o) h
    occurring-formed c (is_part (nonzero p) _ o s h) = absurd (contains-nothing c h)
    occurring-formed c (is_part (wrap w d) _ o s h) = part-known _ _ (wrap w d) c (occurring-formed (wrap w d) o) h
    occurring-formed c (is_part (ref r m d) _ o s h) = part-known _ _ (ref r m d) c (occurring-formed (ref r m d) o) h
