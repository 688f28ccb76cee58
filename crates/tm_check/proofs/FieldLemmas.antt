-- Places of fields as they are matched, and as the words of structs and enums have them.
use Rattle.std.proofs.Common.{◌≡◌, ℕ, ◌+◌, ◌-◌, ◌≤◌, refl, sym, ◌∙◌, ap, subst, Bool, true, false, ◌&&◌, List, [], ◌∷◌, take, drop, map, Option, None, arith}
use Rattle.std.specs.List.{list_all}
use Rattle.std.proofs.lemmas.List.{drop-drop}
use Rattle.tm_base.specs.Cells.{Word}
use Rattle.tm_base.specs.Expanded.{Fields, no_fields, field}
use Rattle.tm_base.specs.Layout.{field_layouts, layout_of, place_at, places, size_of}
use Rattle.tm_base.specs.Places.{at_front}
use Rattle.tm_base.specs.ValidTest.{is_free}
use Rattle.tm_check.specs.Begins.{begins, fields_begin}
use Rattle.tm_check.proofs.CutLemmas.{list_all-cut, taken-cut}
use Rattle.tm_layout.proofs.EndLemmas.{NoGap, place-above}

module _ (A : ℕ → ℕ → Bool) (keep : Bool) where
  -- a gap of equal length makes no difference
  gap-same : (g h : ℕ) (s : ℕ) (here behind : Word → Bool) (w : Word) → g ≡ h
      → (list_all is_free (take g w) && (here (take s (drop g w)) && behind (drop s (drop g w)))) ≡ (list_all is_free (take h w) && (here (take s (drop h w)) && behind (drop s (drop h w))))
  gap-same g h s here behind w e = ap (λ (k : ℕ). list_all is_free (take k w) && (here (take s (drop k w)) && behind (drop s (drop k w)))) e

  -- fields that all stand so much further, behind a place that does too
  pub fields-shifted : (b at : ℕ) (ps : List ℕ) (members : Fields) (w : Word) → fields_begin A keep (b + at) (map (λ p. b + p) ps) members w ≡ fields_begin A keep at ps members w
  unfolding begins
  fields-shifted b at ps no_fields w = refl
  fields-shifted b at [] (field public t rest) w = refl
  fields-shifted b at (p ∷ ps) (field public t rest) w =
      let further : b + p + size_of t ≡ b + (p + size_of t) = omega arith in
      let gap : (b + p) - (b + at) ≡ p - at = omega arith in
      let v = drop (size_of t) (drop ((b + p) - (b + at)) w) in
      ap (λ c. list_all is_free (take ((b + p) - (b + at)) w) && (begins A keep t (take (size_of t) (drop ((b + p) - (b + at)) w)) && c))
      (ap (λ (k : ℕ). fields_begin A keep k (map (λ q. b + q) ps) rest v) further ∙ fields-shifted b (p + size_of t) ps rest v)
      ∙ gap-same ((b + p) - (b + at)) (p - at) (size_of t) (begins A keep t) (fields_begin A keep (p + size_of t) ps rest) w gap

  -- fields that leave no gap may be said to stand at the front
  pub fields-bare : (packed : Option ℕ) (a at : ℕ) (members : Fields) (w : Word) → NoGap packed at (field_layouts members)
      → fields_begin A keep a (at_front (field_layouts members)) members w ≡ fields_begin A keep at (places packed at (field_layouts members)) members w
  unfolding begins layout_of NoGap
  fields-bare packed a at no_fields w bare = refl
  fields-bare packed a at (field public t rest) w (here, others) =
      let p = place_at packed at (layout_of t) in
      let left : 0 - a ≡ 0 = omega arith in
      let right : 0 ≡ p - at = omega arith in
      let next : at + size_of t ≡ p + size_of t = ap (λ (k : ℕ). k + size_of t) (sym here) in
      let v = drop (size_of t) (drop (0 - a) w) in
      ap (λ c. list_all is_free (take (0 - a) w) && (begins A keep t (take (size_of t) (drop (0 - a) w)) && c))
      (fields-bare packed (0 + size_of t) (p + size_of t) rest v (subst (λ (k : ℕ). NoGap packed k (field_layouts rest)) next others))
      ∙ gap-same (0 - a) (p - at) (size_of t) (begins A keep t) (fields_begin A keep (p + size_of t) (places packed (p + size_of t) (field_layouts rest)) rest) w (left ∙ right)

  -- free cells before a place at which or behind which the first field stands
  pub fields-behind : (b n begin first : ℕ) (members : Fields) (w : Word) → begin ≡ b + first → n ≤ begin
      → fields_begin A keep n (map (λ p. b + p) (places None first (field_layouts members))) members w
      ≡ (list_all is_free (take (begin - n) w) && fields_begin A keep begin (map (λ p. b + p) (places None first (field_layouts members))) members (drop (begin - n) w))
  unfolding begins layout_of
  fields-behind b n begin first no_fields w e less = list_all-cut is_free (begin - n) w
  fields-behind b n begin first (field public t rest) w e less =
      let p = b + place_at None first (layout_of t) in
      let above = place-above None first (layout_of t) in
      let k = begin - n in
      let j = p - begin in
      let sum : p - n ≡ k + j = omega arith in
      let here = begins A keep t in
      let behind = fields_begin A keep (p + size_of t) (map (λ q. b + q) (places None (place_at None first (layout_of t) + size_of t) (field_layouts rest))) rest in
      gap-same (p - n) (k + j) (size_of t) here behind w sum
      ∙ ap (λ c. c && (here (take (size_of t) (drop (k + j) w)) && behind (drop (size_of t) (drop (k + j) w)))) (taken-cut k j w)
      ∙ ap (λ v. (list_all is_free (take k w) && list_all is_free (take j (drop k w))) && (here (take (size_of t) v) && behind (drop (size_of t) v))) (sym (drop-drop j k w))
      ∙ assoc (list_all is_free (take k w)) (list_all is_free (take j (drop k w))) _ where
        assoc : (a c d : Bool) → ((a && c) && d) ≡ (a && (c && d))
        assoc true c d = refl
        assoc false c d = refl
