-- The words of the trees of `NonZero` and of a listed `Option`.
use Rattle.std.proofs.Common.{◌≡◌, ℕ, zero, suc, ◌+◌, ◌*◌, ◌<◌, ◌≤◌, refl, sym, ap, subst, ◌∙◌, Bool, [], ◌∷◌, ◌++◌, replicate, ◌⊎◌, inl, inr, ⊎_elim, ◌↔◌, arith, append_assoc}
use Rattle.std.proofs.lemmas.Grind.{replicate_next}
use Rattle.std.proofs.lemmas.List.Elements.{All-head, All-tail, All-cons}
use Rattle.tm_base.specs.declared.cell.Cell.TheVariants.{Byte}
use Rattle.tm_base.specs.declared.profile.Profile.{Profile}
use Rattle.tm_base.specs.declared.tree.Tree.{Tree, Range}
use Rattle.tm_base.specs.Cells.{Word, IsByte, byte_of, little_endian}
use Rattle.tm_base.specs.Profiles.{number_of}
use Rattle.tm_base.specs.Shapes.{leaves_of, all_leaves, HasNoPrivate, NonePrivate}
use Rattle.tm_base.specs.Trees.{TreeWord, OneOf}
use Rattle.tm_base.specs.Valid.{AreBytes}
use Rattle.tm_niche.specs.Forms.{first_nonzero, joined, nonzero_form, nonzero_ways, null_form, repeated, IsIntegerSize}
use Rattle.tm_niche.proofs.CharLemmas.{byte-is}
use Rattle.tm_niche.proofs.FormLemmas.{all_leaves-append, joined-leaves, joined-private, one_of-leaves, one_of-private, one-Range, NonePrivate-append, private-Range, repeated-leaves, repeated-private}
use Rattle.tm_niche.proofs.NumberLemmas.{some-number}
use Rattle.tm_niche.proofs.WordLemmas.{bytes-words, joined-words, one_of-words, zeros-words, InTurn-append}

-- some bytes of which one isn't 00, behind so many that are
abbrev SomeBehind : ℕ → ℕ → Word → Type 0
SomeBehind before size w = (v : Word) × (w ≡ replicate before (Byte 0) ++ v) × AreBytes size v × (0 < little_endian v)

-- and the first of them isn't
abbrev FirstBehind : ℕ → ℕ → Word → Type 0
FirstBehind before size w = (b : ℕ) × (v : Word) × (w ≡ replicate before (Byte 0) ++ (Byte b ∷ v)) × (1 ≤ b) × (b ≤ 255) × AreBytes size v

next-zero : (before : ℕ) (v : Word) → replicate (suc before) (Byte 0) ++ v ≡ replicate before (Byte 0) ++ (Byte 0 ∷ v)
next-zero before v =
    let next : suc before ≡ before + 1 = omega arith in
    ap (λ (n : ℕ). replicate n (Byte 0) ++ v) next ∙ ap (λ (u : Word). u ++ v) (replicate_next before (Byte 0)) ∙ append_assoc (replicate before (Byte 0)) (Byte 0 ∷ []) v

first-some : (before size : ℕ) (w : Word) → FirstBehind before size w → SomeBehind before (suc size) w
first-some before size w (b, v, e, low, high, (long, all)) =
    let small : b < 256 = omega arith in
    (Byte b ∷ v, e, (ap (λ (n : ℕ). suc n) long, All-cons IsByte (Byte b) v small all), omega arith)

later-some : (before size : ℕ) (w : Word) → SomeBehind (suc before) size w → SomeBehind before (suc size) w
later-some before size w (v, e, (long, all), some) =
    (Byte 0 ∷ v, e ∙ next-zero before v, (ap (λ (n : ℕ). suc n) long, All-cons IsByte (Byte 0) v (omega arith) all), omega arith)

byte-case : (before size b : ℕ) (w v : Word) → w ≡ replicate before (Byte 0) ++ (Byte b ∷ v) → b < 256 → AreBytes size v → 0 < b + 256 * little_endian v → FirstBehind before size w ⊎ SomeBehind (suc before) size w
byte-case before size zero w v e small are some = inr (v, e ∙ sym (next-zero before v), are, omega arith)
byte-case before size (suc b) w v e small are some = inl (suc b, v, e, omega arith, omega arith, are)

some-cases : (before size : ℕ) (w : Word) → SomeBehind before (suc size) w → FirstBehind before size w ⊎ SomeBehind (suc before) size w
some-cases before size w ([], e, (long, all), some) = absurd (omega arith)
some-cases before size w (c ∷ v, e, (long, all), some) =
    let (b, small, is) = byte-is c (All-head IsByte c v all) in
    byte-case before size b w v (e ∙ ap (λ d. replicate before (Byte 0) ++ (d ∷ v)) is) small (omega arith, All-tail IsByte c v all) (subst (λ d. 0 < byte_of d + 256 * little_endian v) is some)

module _ (pointer : ℕ) (A : ℕ → ℕ → Type 0) (keep : Bool) where
  first-words : (before size : ℕ) (w : Word) → TreeWord pointer A keep (first_nonzero before size) w ↔ FirstBehind before size w
  unfolding first_nonzero TreeWord
  first-words before size w =
      let outer = joined-words pointer A keep (repeated before (Range 0 0) ++ (Range 1 255 ∷ repeated size (Range 0 255))) w in
      let parts = InTurn-append pointer A keep (repeated before (Range 0 0)) (Range 1 255 ∷ repeated size (Range 0 255)) w in (
        λ h.
            let (u, v, e, zeros, (x, y, e2, (b, low, high, is), behind)) = parts.0 (outer.0 h) in
            (b, y, e ∙ ap (λ z. z ++ v) ((zeros-words pointer A keep before u).0 zeros) ∙ ap (λ z. replicate before (Byte 0) ++ z) (e2 ∙ ap (λ z. z ++ y) is), low, high, (bytes-words pointer A keep size y).0 behind),
        λ (b, v, e, low, high, are).
            outer.1 (parts.1 (
              replicate before (Byte 0),
              Byte b ∷ v,
              e,
              (zeros-words pointer A keep before (replicate before (Byte 0))).1 refl,
              (Byte b ∷ [], v, refl, (b, low, high, refl), (bytes-words pointer A keep size v).1 are),
            )),
      )

  ways-words : (before size : ℕ) (w : Word) → OneOf pointer A keep (nonzero_ways before size) w ↔ SomeBehind before size w
  ways-words before zero w = (λ h. absurd h, none) where
    none : SomeBehind before zero w → ⊥
    none ([], e, are, some) = omega arith
    none (c ∷ v, e, (long, all), some) = omega arith
  ways-words before (suc size) w =
      let first = first-words before size w in
      let others = ways-words (suc before) size w in (
        ⊎_elim (λ p. first-some before size w (first.0 p)) (λ q. later-some before size w (others.0 q)),
        λ h. ⊎_elim (λ p. inl (first.1 p)) (λ q. inr (others.1 q)) (some-cases before size w h),
      )

  pub nonzero-words : (profile : Profile) (size : ℕ) (w : Word) → TreeWord pointer A keep (nonzero_form size) w ↔ (AreBytes size w × (0 < number_of profile w))
  unfolding nonzero_form
  nonzero-words profile size w =
      let outer = one_of-words pointer A keep (nonzero_ways 0 size) w in
      let ways = ways-words 0 size w in
      let some = some-number profile w in (
        λ h. let (v, e, are, above) = ways.0 (outer.0 h) in
            (subst (AreBytes size) (sym e) are, some.0 (subst (λ (z : Word). 0 < little_endian z) (sym e) above)),
        λ (are, above). outer.1 (ways.1 (w, refl, are, some.1 above)),
      )

  pub null-words : (size : ℕ) (t : Tree) (w : Word) → TreeWord pointer A keep (null_form size t) w ↔ ((w ≡ replicate size (Byte 0)) ⊎ TreeWord pointer A keep t w)
  unfolding null_form
  null-words size t w =
      let outer = one_of-words pointer A keep (joined (repeated size (Range 0 0)) ∷ t ∷ []) w in
      let zeros = joined-words pointer A keep (repeated size (Range 0 0)) w in
      let bytes = zeros-words pointer A keep size w in (
        λ h. ⊎_elim (λ p. inl (bytes.0 (zeros.0 p))) (λ q. ⊎_elim (λ r. inr r) (λ r. absurd r) q) (outer.0 h),
        ⊎_elim (λ e. outer.1 (inl (zeros.1 (bytes.1 e)))) (λ r. outer.1 (inr (inl r))),
      )

-- ---- leaves

module _ (pointer : ℕ) where
  first-leaves : (before size : ℕ) → leaves_of pointer (first_nonzero before size) ≤ before + suc size
  unfolding first_nonzero
  first-leaves before size =
      let all = joined-leaves pointer (repeated before (Range 0 0) ++ (Range 1 255 ∷ repeated size (Range 0 255))) in
      let parts = all_leaves-append pointer (repeated before (Range 0 0)) (Range 1 255 ∷ repeated size (Range 0 255)) in
      let zeros = repeated-leaves pointer before (Range 0 0) ∙ ap (λ (n : ℕ). before * n) (one-Range pointer 0 0) in
      let behind = repeated-leaves pointer size (Range 0 255) ∙ ap (λ (n : ℕ). size * n) (one-Range pointer 0 255) in
      let one = one-Range pointer 1 255 in
      omega arith

  ways-leaves : (before size : ℕ) → all_leaves pointer (nonzero_ways before size) ≤ size * (before + size)
  ways-leaves before zero = omega arith
  ways-leaves before (suc size) =
      let first = first-leaves before size in
      let others = ways-leaves (suc before) size in
      let turn : suc size * (before + suc size) ≡ (before + suc size) + size * (before + suc size) = grind arith in
      let same : suc before + size ≡ before + suc size = omega arith in
      let most : size * (suc before + size) ≡ size * (before + suc size) = ap (λ (n : ℕ). size * n) same in
      omega arith

  square-small : (size : ℕ) → IsIntegerSize size → size * size ≤ 256
  square-small size (inl e) = rw e (omega arith)
  square-small size (inr (inl e)) = rw e (omega arith)
  square-small size (inr (inr (inl e))) = rw e (omega arith)
  square-small size (inr (inr (inr (inl e)))) = rw e (omega arith)
  square-small size (inr (inr (inr (inr e)))) = rw e (omega arith)

  pub nonzero-leaves-all : (size : ℕ) → leaves_of pointer (nonzero_form size) ≤ size * size
  unfolding nonzero_form
  nonzero-leaves-all size = let e = one_of-leaves pointer (nonzero_ways 0 size) in let most = ways-leaves 0 size in omega arith

  pub nonzero-leaves : (size : ℕ) → IsIntegerSize size → leaves_of pointer (nonzero_form size) ≤ 256
  nonzero-leaves size h = let most = nonzero-leaves-all size in let small = square-small size h in omega arith

  pub null-leaves : (size : ℕ) (t : Tree) → leaves_of pointer (null_form size t) ≤ leaves_of pointer t + size
  unfolding null_form
  null-leaves size t =
      let e = one_of-leaves pointer (joined (repeated size (Range 0 0)) ∷ t ∷ []) in
      let zeros = joined-leaves pointer (repeated size (Range 0 0)) in
      let each = repeated-leaves pointer size (Range 0 0) ∙ ap (λ (n : ℕ). size * n) (one-Range pointer 0 0) in
      omega arith

-- ---- private parts

first-private : (before size : ℕ) → HasNoPrivate (first_nonzero before size)
unfolding first_nonzero
first-private before size =
    joined-private (repeated before (Range 0 0) ++ (Range 1 255 ∷ repeated size (Range 0 255)))
    (NonePrivate-append (repeated before (Range 0 0)) (Range 1 255 ∷ repeated size (Range 0 255)) (repeated-private before (Range 0 0) (private-Range 0 0)) (private-Range 1 255, repeated-private size (Range 0 255) (private-Range 0 255)))

ways-private : (before size : ℕ) → NonePrivate (nonzero_ways before size)
ways-private before zero = tt
ways-private before (suc size) = (first-private before size, ways-private (suc before) size)

pub nonzero-private : (size : ℕ) → HasNoPrivate (nonzero_form size)
unfolding nonzero_form
nonzero-private size = one_of-private (nonzero_ways 0 size) (ways-private 0 size)

pub null-private : (size : ℕ) (t : Tree) → HasNoPrivate t → HasNoPrivate (null_form size t)
unfolding null_form
null-private size t h =
    one_of-private (joined (repeated size (Range 0 0)) ∷ t ∷ []) (joined-private (repeated size (Range 0 0)) (repeated-private size (Range 0 0) (private-Range 0 0)), (h, tt))
