-- Where no cell is of a reference, cells begin a value of a type whichever references it takes.
use Rattle.std.proofs.Common.{◌≡◌, ◌∙◌, ℕ, zero, suc, ◌+◌, ◌-◌, nat_le, Bool, true, false, ◌&&◌, ◌||◌, List, [], ◌∷◌, length, take, drop, refl, sym, ap}
use Rattle.std.specs.List.{list_all}
use Rattle.tm_base.specs.declared.cell.Cell.TheVariants.{Byte, Uninit, Ptr}
use Rattle.tm_base.specs.declared.definition.Kind.TheVariants.{Struct, Union, Enum}
use Rattle.tm_base.specs.declared.definition.Repr.{Repr}
use Rattle.tm_base.specs.declared.profile.Profile.{Profile}
use Rattle.tm_base.specs.Cells.{Word}
use Rattle.tm_base.specs.Expanded.{Expanded, Fields, Variants, too_deep, prim, never, unit, tuple, array, nonzero, phantom, wrap, ref, named, no_fields, field, no_variants, variant}
use Rattle.tm_base.specs.Layout.{field_layouts, size_of, tag_layout}
use Rattle.tm_base.specs.Places.{fields_place, variant_places}
use Rattle.tm_base.specs.Profiles.{pointer_size}
use Rattle.tm_base.specs.Valid.{all_public}
use Rattle.tm_base.specs.ValidTest.{is_free, first_ref}
use Rattle.tm_check.specs.Begins.{begins, fields_begin, ref_begins, some_field_begins, some_variant_begins, struct_begins, struct_places, takes_besides, times_begin, union_begins}
use Rattle.tm_check.specs.Numbers.{tag_begins}
use Rattle.tm_check.proofs.CutLemmas.{both, list_all-cut}

abbrev pub Free : Word → Type 0
Free w = list_all is_free w ≡ true

pub free-front : (k : ℕ) (w : Word) → Free w → Free (take k w)
free-front k w h = (both (list_all is_free (take k w)) (list_all is_free (drop k w)) (sym (list_all-cut is_free k w) ∙ h)).0

free-back : (k : ℕ) (w : Word) → Free w → Free (drop k w)
free-back k w h = (both (list_all is_free (take k w)) (list_all is_free (drop k w)) (sym (list_all-cut is_free k w) ∙ h)).1

and-alike : (a b c d : Bool) → a ≡ c → b ≡ d → (a && b) ≡ (c && d)
and-alike a b c d e f = rw (e, f) refl

or-alike : (a b c d : Bool) → a ≡ c → b ≡ d → (a || b) ≡ (c || d)
or-alike a b c d e f = rw (e, f) refl

never-both : (a b : Bool) → (a && false) ≡ (b && false)
never-both true true = refl
never-both true false = refl
never-both false true = refl
never-both false false = refl

times-alike : (n s : ℕ) (f g : Word → Bool) → ((w : Word) → Free w → f w ≡ g w) → (w : Word) → Free w → times_begin n s f w ≡ times_begin n s g w
times-alike zero s f g same w h = refl
times-alike (suc n) s f g same w h =
    and-alike (f (take s w)) (times_begin n s f (drop s w)) (g (take s w)) (times_begin n s g (drop s w))
    (same (take s w) (free-front s w h)) (times-alike n s f g same (drop s w) (free-back s w h))

ref-alike : (A B : ℕ → ℕ → Bool) (size t : ℕ) (w : Word) → Free w → ref_begins A size t w ≡ ref_begins B size t w
ref-alike A B size t [] h = refl
ref-alike A B size t (Byte b ∷ w) h = ap (λ (x : Bool). nat_le (length (Byte b ∷ w)) size && x) (never-both (A (first_ref (Byte b ∷ w)) t) (B (first_ref (Byte b ∷ w)) t))
ref-alike A B size t (Uninit ∷ w) h = ap (λ (x : Bool). nat_le (length (Uninit ∷ w)) size && x) (never-both (A (first_ref (Uninit ∷ w)) t) (B (first_ref (Uninit ∷ w)) t))
ref-alike A B size t (Ptr r k ∷ w) h = cc

module _ (A B : ℕ → ℕ → Bool) (keep : Bool) where
  mutual
    unfolding begins

    pub begins-alike : (t : Expanded) (w : Word) → Free w → begins A keep t w ≡ begins B keep t w
    begins-alike too_deep w h = refl
    begins-alike (prim profile p) w h = refl
    begins-alike never w h = refl
    begins-alike unit w h = refl
    begins-alike (tuple members) w h = refl
    begins-alike (array t n) w h = times-alike n (size_of t) (begins A keep t) (begins B keep t) (begins-alike t) w h
    begins-alike (nonzero profile p) w h = refl
    begins-alike phantom w h = refl
    begins-alike (wrap k t) w h = ap (λ (x : Bool). takes_besides k (size_of t) w || x) (begins-alike t w h)
    begins-alike (ref profile t) w h = ref-alike A B (pointer_size profile) t.0 w h
    begins-alike (named profile id Struct repr variants) w h = struct-alike repr variants w h
    begins-alike (named profile id Union repr variants) w h = union-alike variants w h
    begins-alike (named profile id Enum repr variants) w h = variants-alike profile repr (fields_place profile repr variants) variants w h

    struct-alike : (repr : Repr) (variants : Variants) (w : Word) → Free w → struct_begins A keep repr variants w ≡ struct_begins B keep repr variants w
    struct-alike repr no_variants w h = refl
    struct-alike repr (variant value members others) w h =
        ap (λ (x : Bool). (keep || all_public members) && x) (fields-alike 0 (struct_places repr (field_layouts members)) members w h)

    union-alike : (variants : Variants) (w : Word) → Free w → union_begins A keep variants w ≡ union_begins B keep variants w
    union-alike no_variants w h = refl
    union-alike (variant value members others) w h = ap (λ (x : Bool). (keep || all_public members) && x) (some-alike members w h)

    fields-alike : (at : ℕ) (ps : List ℕ) (fields : Fields) (w : Word) → Free w → fields_begin A keep at ps fields w ≡ fields_begin B keep at ps fields w
    fields-alike at ps no_fields w h = refl
    fields-alike at [] (field public t rest) w h = refl
    fields-alike at (place ∷ ps) (field public t rest) w h =
        let behind = free-back (place - at) w h in
        ap (λ (x : Bool). list_all is_free (take (place - at) w) && x)
        (and-alike
        (begins A keep t (take (size_of t) (drop (place - at) w))) (fields_begin A keep (place + size_of t) ps rest (drop (size_of t) (drop (place - at) w)))
        (begins B keep t (take (size_of t) (drop (place - at) w))) (fields_begin B keep (place + size_of t) ps rest (drop (size_of t) (drop (place - at) w)))
        (begins-alike t (take (size_of t) (drop (place - at) w)) (free-front (size_of t) (drop (place - at) w) behind))
        (fields-alike (place + size_of t) ps rest (drop (size_of t) (drop (place - at) w)) (free-back (size_of t) (drop (place - at) w) behind)))

    some-alike : (fields : Fields) (w : Word) → Free w → some_field_begins A keep fields w ≡ some_field_begins B keep fields w
    some-alike no_fields w h = refl
    some-alike (field public t rest) w h =
        or-alike
        (begins A keep t (take (size_of t) w) && list_all is_free (drop (size_of t) w)) (some_field_begins A keep rest w)
        (begins B keep t (take (size_of t) w) && list_all is_free (drop (size_of t) w)) (some_field_begins B keep rest w)
        (ap (λ (x : Bool). x && list_all is_free (drop (size_of t) w)) (begins-alike t (take (size_of t) w) (free-front (size_of t) w h)))
        (some-alike rest w h)

    variants-alike : (profile : Profile) (repr : Repr) (begin : ℕ) (variants : Variants) (w : Word) → Free w
        → some_variant_begins A keep profile repr begin variants w ≡ some_variant_begins B keep profile repr begin variants w
    variants-alike profile repr begin no_variants w h = refl
    variants-alike profile repr begin (variant value members rest) w h =
        let tag = (tag_layout profile repr.tag).size in
        let ps = variant_places profile repr begin (field_layouts members) in
        or-alike
        (tag_begins profile tag value (take tag w) && fields_begin A keep tag ps members (drop tag w)) (some_variant_begins A keep profile repr begin rest w)
        (tag_begins profile tag value (take tag w) && fields_begin B keep tag ps members (drop tag w)) (some_variant_begins B keep profile repr begin rest w)
        (ap (λ (x : Bool). tag_begins profile tag value (take tag w) && x) (fields-alike tag ps members (drop tag w) (free-back tag w h)))
        (variants-alike profile repr begin rest w h)
