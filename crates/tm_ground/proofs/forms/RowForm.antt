-- Rows of the types that occur are in form: their regions are known, and they have their fields' types.
use Rattle.std.proofs.Common.{◌≡◌, ℕ, zero, suc, ◌<◌, Bool, true, ◌==◌, refl, sym, ap, subst, ◌∙◌, List, [], ◌∷◌, map, length, Contains, slice_get, unwrap_or, nat_lt, arith}
use Rattle.std.specs.List.{AllZip, list_all}
use Rattle.std.proofs.lemmas.List.{length-map}
use Rattle.std.proofs.lemmas.List.Elements.{All-contains}
use Rattle.std.proofs.lemmas.Bool.{and_from}
use Rattle.std.proofs.lemmas.Bool.{ltb-true}
use Rattle.std.proofs.lemmas.Slice.Zip.{AllZip-long}
use Rattle.tm_base.specs.declared.definition.Def.{Def}
use Rattle.tm_base.specs.declared.definition.NamedRow.{NamedRow}
use Rattle.tm_base.specs.declared.definition.RefRow.{RefRow}
use Rattle.tm_base.specs.declared.definition.Variant.{Variant}
use Rattle.tm_base.specs.declared.ground.Ground.{Ground}
use Rattle.tm_base.specs.Whole.{has_its_types, is_row_of, are_rows_in_form, are_regions_known}
use Rattle.tm_names.specs.declared.resolved.Open.{Open}
use Rattle.tm_names.specs.declared.resolved.Resolved.{Resolved}
use Rattle.tm_names.specs.InForm.{is_variant_typed, are_defs_typed, IsInForm}
use Rattle.tm_ground.specs.Closed.{Closed, listed, put_in}
use Rattle.tm_ground.specs.Closing.{AreFound}
use Rattle.tm_ground.specs.Limits.{is_named, is_ref, OccursAs}
use Rattle.tm_ground.specs.Numbered.{IsNumbered}
use Rattle.tm_ground.specs.Rows.{IsNamedRow, IsRefRow}
use Rattle.tm_ground.proofs.finding.ContainsLemmas.{contains-first, contains-behind}
use Rattle.tm_ground.proofs.forms.FormLemmas.{first, second, is_known}
use Rattle.tm_ground.proofs.forms.OccurringForm.{IsFormed, IsNamedFormed, named-formed, occurring-formed}

-- what follows of each pair holds of all that stand for something
pub zip-all : {B : Type 0} (R : Closed → B → Type 0) (p : B → Bool) (xs : List Closed) (ys : List B) → AllZip R xs ys → ((x : Closed) (y : B) → Contains xs x → R x y → p y ≡ true) → list_all p ys ≡ true
zip-all R p [] [] h each = refl
zip-all R p [] (y ∷ ys) h each = absurd h
zip-all R p (x ∷ xs) [] h each = absurd h
zip-all R p (x ∷ xs) (y ∷ ys) h each =
    and_from _ _ (each x y (contains-first x xs) h.0) (zip-all R p xs ys h.1 (λ z w i r. each z w (contains-behind x xs z i) r))

-- types for each field of each variant, as many as are written
fields-typed : (P : Closed → Ground → Type 0) (f : Open → Closed) (variants : List Variant) (ts : List (List Open)) (gs : List (List Ground)) → is_variant_typed variants ts ≡ true → AllZip (AllZip P) (map (map f) ts) gs → has_its_types variants gs ≡ true
fields-typed P f [] [] [] h z = refl
fields-typed P f [] [] (g ∷ gs) h z = absurd z
fields-typed P f [] (t ∷ ts) gs h z = cc
fields-typed P f (v ∷ vs) [] gs h z = cc
fields-typed P f (v ∷ vs) (t ∷ ts) [] h z = absurd z
fields-typed P f (v ∷ vs) (t ∷ ts) (g ∷ gs) h z =
    let same : length t ≡ length g = sym (length-map t f) ∙ sym (AllZip-long P (map f t) g z.0) in
    and_from _ _ (ap (λ n. length v.fields == n) (sym same) ∙ first _ _ h) (fields-typed P f vs ts gs (second (length v.fields == length t) _ h) z.1)

row-typed : (P : Closed → Ground → Type 0) (f : Open → Closed) (defs : List Def) (types : List (List (List Open))) (k : ℕ) (row : NamedRow) → are_defs_typed defs types ≡ true → k < length defs → AllZip (AllZip P) (map (map f) (unwrap_or (slice_get types k) [])) row.types → is_row_of (slice_get defs k) row ≡ true
row-typed P f [] types k row h l z = absurd (omega (arith, l))
row-typed P f (d ∷ defs) [] k row h l z = cc
row-typed P f (d ∷ defs) (ts ∷ types) zero row h l z = fields-typed P f d.variants ts row.types (first _ _ h) z
row-typed P f (d ∷ defs) (ts ∷ types) (suc k) row h l z = row-typed P f defs types k row (second (is_variant_typed d.variants ts) _ h) (omega (arith, l)) z

module _ (resolved : Resolved) (form : IsInForm resolved) (types refs : List Closed) (whole : AreFound resolved types refs)
    (rows : List NamedRow) (ref_rows : List RefRow)
    (of_rows : AllZip (IsNamedRow types refs resolved) types rows) (of_refs : AllZip (IsRefRow types refs) refs ref_rows) where
  type-formed : (c : Closed) → Contains types c → IsFormed resolved c
  type-formed c h = occurring-formed resolved form c (All-contains (OccursAs is_named resolved) types c whole.rows.all.each h).occurs

  ref-formed : (c : Closed) → Contains refs c → IsFormed resolved c
  ref-formed c h = occurring-formed resolved form c (All-contains (OccursAs is_ref resolved) refs c whole.refs.all.each h).occurs

  row-formed : (c : Closed) (row : NamedRow) → Contains types c → (r : IsNamedRow types refs resolved c row) → IsNamedFormed resolved row.def row.regions r.args
  row-formed c row h r = named-formed resolved row.def row.regions r.args (subst (IsFormed resolved) r.type (type-formed c h))

  row-known : (c : Closed) (row : NamedRow) → Contains types c → IsNamedRow types refs resolved c row → list_all (λ region. nat_lt region.0 (length resolved.regions)) row.regions ≡ true
  row-known c row h r = (row-formed c row h r).regions_known

  ref-known : (c : Closed) (row : RefRow) → Contains refs c → IsRefRow types refs c row → nat_lt row.region.0 (length resolved.regions) ≡ true
  unfolding is_known
  ref-known c row h r = first _ _ (subst (IsFormed resolved) r.type (ref-formed c h))

  pub regions-in_form : are_regions_known (length resolved.regions) resolved.bounds rows ref_rows ≡ true
  unfolding are_regions_known
  regions-in_form = and_from _ _ (and_from _ _ form.bounds_known (zip-all _ _ types rows of_rows row-known)) (zip-all _ _ refs ref_rows of_refs ref-known)

  pub row-in_form : (c : Closed) (row : NamedRow) → Contains types c → IsNamedRow types refs resolved c row → is_row_of (slice_get resolved.defs row.def.0) row ≡ true
  row-in_form c row h r =
      row-typed (IsNumbered types refs) (put_in row.regions (listed r.args)) resolved.defs resolved.types row.def.0 row form.defs_typed (ltb-true row.def.0 (length resolved.defs) (row-formed c row h r).def_known) r.fields

  pub rows-in_form : are_rows_in_form resolved.defs rows ≡ true
  unfolding are_rows_in_form
  rows-in_form = zip-all _ _ types rows of_rows row-in_form
