-- Where the fields of a variant stand, by their layouts.
use Rattle.std.specs.Prelude.{ℕ, if◌then◌else◌, None, List, []}
use Rattle.tm_base.specs.declared.definition.Kind.{Kind}
use Rattle.tm_base.specs.declared.definition.Kind.TheVariants.{Struct, Union, Enum}
use Rattle.tm_base.specs.declared.definition.Repr.{Repr}
use Rattle.tm_base.specs.declared.profile.Profile.{Profile}
use Rattle.tm_base.specs.Layout.{Layout, greatest_align, places, round_up, structs, tag_layout}
use Rattle.tm_base.specs.Places.{at_front, variant_places}

-- where the fields of all variants of an enum begin, of which the fields have these layouts
abbrev pub begin_in : Profile → Kind → Repr → List (List Layout) → ℕ
begin_in profile Enum repr vs = if repr.c then round_up (tag_layout profile repr.tag).size (greatest_align None (structs [] vs)) else (tag_layout profile repr.tag).size
begin_in _ _ repr vs = 0

-- where each field of a variant stands
abbrev pub variant_places_in : Profile → Kind → Repr → ℕ → List Layout → List ℕ
variant_places_in profile Struct repr begin ls = (if repr.transparent then at_front else places repr.packed 0) ls
variant_places_in profile Union repr begin ls = at_front ls
variant_places_in profile Enum repr begin ls = variant_places profile repr begin ls
