-- Ways back: the cells along them, of layers and of what is kept of them.
use Rattle.std.proofs.Common.{◌≡◌, ℕ, ◌<◌, List, [], ◌∷◌, ◌++◌, map, reverse, length, Option, Some, slice_get, sym, ap, ◌∙◌, subst}
use Rattle.smallvec.specs.SmallVec.{SmallVec}
use Rattle.std.proofs.lemmas.List.{map-append, reverse-append}
use Rattle.std.proofs.lemmas.Option.{slice_get_within, same_Some}
use Rattle.tm_walk.specs.declared.way.Way.{Way}
use Rattle.tm_walk.specs.Ways.{newest_first, cells_by, cells_to, LeadsBack}

pub newest_more : (before : List (SmallVec Way)) (last : SmallVec Way) → newest_first (before ++ last ∷ []) ≡ last.items ∷ newest_first before
newest_more before last = ap reverse (map-append (λ (v : SmallVec Way). v.items) before (last ∷ [])) ∙ reverse-append (map (λ (v : SmallVec Way). v.items) before) (last.items ∷ [])

pub leads_within : (layers before : List (SmallVec Way)) (last : SmallVec Way) (at : ℕ) → layers ≡ before ++ last ∷ [] → LeadsBack (newest_first layers) at → at < length last.items
leads_within layers before last at e h =
    let (way, g, rest) = subst (λ (z : List (List Way)). LeadsBack z at) (ap newest_first e ∙ newest_more before last) h in
    slice_get_within last.items at way g

pub leads_on : (layers before : List (SmallVec Way)) (last : SmallVec Way) (at : ℕ) (way : Way) → layers ≡ before ++ last ∷ [] → slice_get last.items at ≡ Some way → LeadsBack (newest_first layers) at → LeadsBack (newest_first before) way.parent
leads_on layers before last at way e g h =
    let (x, at_x, rest) = subst (λ (z : List (List Way)). LeadsBack z at) (ap newest_first e ∙ newest_more before last) h in
    let same : x ≡ way = same_Some x way (sym at_x ∙ g) in
    subst (λ (z : Way). LeadsBack (newest_first before) z.parent) same rest

pub cells_on : (layers before : List (SmallVec Way)) (last : SmallVec Way) (at : ℕ) (way : Way) → layers ≡ before ++ last ∷ [] → slice_get last.items at ≡ Some way → cells_to (newest_first layers) at ≡ cells_to (newest_first before) way.parent ++ way.cell ∷ []
cells_on layers before last at way e g =
    ap (λ (z : List (List Way)). cells_to z at) (ap newest_first e ∙ newest_more before last) ∙ ap (λ (o : Option Way). cells_by o (cells_to (newest_first before))) g
