-- In a word that has whole references each byte of a reference stands among the reference's others.
use Rattle.std.proofs.Common.{◌≡◌, ℕ, zero, suc, ◌+◌, ◌-◌, ◌<◌, ◌⊎◌, refl, sym, ◌∙◌, ap, subst, Bool, [], ◌∷◌, ◌++◌, length, inl, inr, arith, append_assoc}
use Rattle.std.proofs.lemmas.List.FromFn.{map-range_with_len_more}
use Rattle.tm_base.specs.declared.cell.Cell.{Cell}
use Rattle.tm_base.specs.declared.cell.Cell.TheVariants.{Byte, Uninit, Ptr}
use Rattle.tm_base.specs.declared.cell.RefId.{RefId}
use Rattle.tm_base.specs.declared.profile.Profile.{Profile}
use Rattle.tm_base.specs.Cells.{Word, pointer_of, HasWholeReferences, nothing_left, byte_first, uninit_first, reference_first}
use Rattle.tm_base.specs.Expanded.{Expanded}
use Rattle.tm_base.specs.Profiles.{pointer_size}
use Rattle.tm_base.specs.Valid.{Valid}
use Rattle.tm_laws.proofs.whole.Types.{IsFor}
use Rattle.tm_laws.proofs.whole.Words.{cells_from, whole-references}

cells_from-more : (x i n : ℕ) → 0 < n → cells_from x i n ≡ Ptr (record { 0 = x }) i ∷ cells_from x (i + 1) (n - 1)
cells_from-more x i zero h = absurd (omega arith)
cells_from-more x i (suc n) h =
    let e : n ≡ suc n - 1 = omega arith in
    ap (λ m. Ptr (record { 0 = x }) i ∷ cells_from x (i + 1) m) e

-- where the byte k of the reference r stands, which has so many, those beside it are its too
pub record StandsWhole (size : ℕ) (r : RefId) (k : ℕ) (before behind : Word) : Type 0 where
  pub is_byte_of : k < size
  pub goes_on : suc k < size → (others : Word) × (behind ≡ Ptr r (suc k) ∷ others)
  pub went_on : (j : ℕ) → k ≡ suc j → (others : Word) × (before ≡ others ++ Ptr r j ∷ [])

-- each byte of a reference stands among the reference's others
abbrev pub AllStandWhole : ℕ → Word → Type 0
AllStandWhole size w = (before behind : Word) (r : RefId) (k : ℕ) → w ≡ before ++ (Ptr r k ∷ behind) → StandsWhole size r k before behind

-- a cell of two joined words is one of the first or of the second
pub append-split : (u v p q : Word) (c : Cell) → u ++ v ≡ p ++ (c ∷ q)
    → ((rest : Word) × (u ≡ p ++ (c ∷ rest)) × (q ≡ rest ++ v)) ⊎ ((rest : Word) × (p ≡ u ++ rest) × (v ≡ rest ++ (c ∷ q)))
append-split [] v p q c e = inr (p, refl, e)
append-split (a ∷ u) v [] q c e = inl (u, cc, cc)
append-split (a ∷ u) v (b ∷ p) q c e =
    let tail : u ++ v ≡ p ++ (c ∷ q) = cc in
    let head : a ≡ b = cc in
    elim (append-split u v p q c tail) [
      | inl s ↦ let same = s.1 in inl (s.0, cc, s.2)
      | inr s ↦ let same = s.1 in inr (s.0, cc, s.2)
    ]

AllStandWhole-append : (size : ℕ) (u v : Word) → AllStandWhole size u → AllStandWhole size v → AllStandWhole size (u ++ v)
AllStandWhole-append size u v whole_u whole_v p q r k e = elim (append-split u v p q (Ptr r k) e) [
  | inl s ↦
      let stands = whole_u p s.0 r k s.1 in
      record {
        is_byte_of = stands.is_byte_of;
        goes_on = λ h. let next = stands.goes_on h in (next.0 ++ v, s.2 ∙ ap (λ (x : Word). x ++ v) next.1);
        went_on = stands.went_on;
      }
  | inr s ↦
      let stands = whole_v s.0 q r k s.2 in
      record {
        is_byte_of = stands.is_byte_of;
        goes_on = stands.goes_on;
        went_on = λ j h. let last = stands.went_on j h in (u ++ last.0, s.1 ∙ ap (λ (x : Word). u ++ x) last.1 ∙ sym (append_assoc u last.0 (Ptr r j ∷ [])));
      }
]

none_there : (c : Cell) (p q : Word) → [] ≡ p ++ (c ∷ q) → ⊥
none_there c [] q e = absurd cc
none_there c (a ∷ p) q e = absurd cc

-- a cell that is no reference's
AllStandWhole-one : (size : ℕ) (c : Cell) → ((r : RefId) (k : ℕ) → c ≡ Ptr r k → ⊥) → AllStandWhole size (c ∷ [])
AllStandWhole-one size c plain [] q r k e = absurd (plain r k cc)
AllStandWhole-one size c plain (b ∷ p) q r k e =
    let tail : [] ≡ p ++ (Ptr r k ∷ q) = cc in
    absurd (none_there (Ptr r k) p q tail)

-- where a cell stands in a run of a reference's bytes
record IsInRun (x i n : ℕ) (r : RefId) (k : ℕ) (p q : Word) : Type 0 where
  of : r ≡ record { 0 = x }
  at : k ≡ i + length p
  within : length p < n
  front : p ≡ cells_from x i (length p)
  back : q ≡ cells_from x (k + 1) (n - length p - 1)

in_run : (x i n : ℕ) (p q : Word) (r : RefId) (k : ℕ) → cells_from x i n ≡ p ++ (Ptr r k ∷ q) → IsInRun x i n r k p q
in_run x i zero p q r k e = absurd (none_there (Ptr r k) p q e)
in_run x i (suc n) [] q r k e =
    let here : k ≡ i = cc in
    let rest : q ≡ cells_from x (i + 1) n = cc in
    let left : n ≡ suc n - 0 - 1 = omega arith in
    record {
      of = cc;
      at = omega arith;
      within = omega arith;
      front = refl;
      back = rest ∙ ap (λ (m : ℕ). cells_from x (m + 1) n) (sym here) ∙ ap (λ (m : ℕ). cells_from x (k + 1) m) left;
    }
in_run x i (suc n) (b ∷ p) q r k e =
    let tail : cells_from x (i + 1) n ≡ p ++ (Ptr r k ∷ q) = cc in
    let head : b ≡ Ptr (record { 0 = x }) i = cc in
    let inside = in_run x (i + 1) n p q r k tail in
    let left : n - length p - 1 ≡ suc n - suc (length p) - 1 = omega arith in
    let front : p ≡ cells_from x (i + 1) (length p) = inside.front in
    let at : k ≡ i + 1 + length p = inside.at in
    let within : length p < n = inside.within in
    record {
      of = inside.of;
      at = omega arith;
      within = omega arith;
      front = cc;
      back = inside.back ∙ ap (λ (m : ℕ). cells_from x (k + 1) m) left;
    }

AllStandWhole-pointer : (size x : ℕ) → AllStandWhole size (pointer_of size x)
AllStandWhole-pointer size x p q r k e =
    let inside = in_run x 0 size p q r k e in
    let at : k ≡ 0 + length p = inside.at in
    let within : length p < size = inside.within in
    let back : q ≡ cells_from x (k + 1) (size - length p - 1) = inside.back in
    let front : p ≡ cells_from x 0 (length p) = inside.front in
    record {
      is_byte_of = omega arith;
      goes_on = λ h.
          let next : k + 1 ≡ suc k = omega arith in
          let first = back ∙ cells_from-more x (k + 1) (size - length p - 1) (omega arith) in
          (cells_from x (k + 1 + 1) (size - length p - 1 - 1), first ∙ ap (λ (y : RefId). Ptr y (k + 1) ∷ cells_from x (k + 1 + 1) (size - length p - 1 - 1)) (sym inside.of) ∙ ap (λ (m : ℕ). Ptr r m ∷ cells_from x (k + 1 + 1) (size - length p - 1 - 1)) next);
      went_on = λ j h.
          let long : length p ≡ j + 1 = omega arith in
          let last : cells_from x 0 (j + 1) ≡ cells_from x 0 j ++ Ptr (record { 0 = x }) j ∷ [] = map-range_with_len_more (λ m. Ptr (record { 0 = x }) m) 0 j j (omega arith) in
          (cells_from x 0 j, front ∙ ap (λ (m : ℕ). cells_from x 0 m) long ∙ last ∙ ap (λ (y : RefId). cells_from x 0 j ++ Ptr y j ∷ []) (sym inside.of));
    }

-- each byte of a reference stands among the reference's others
pub HasWholeReferences-runs : (size : ℕ) (w : Word) → HasWholeReferences size w → AllStandWhole size w
HasWholeReferences-runs size w (nothing_left _ e) = subst (AllStandWhole size) (sym e) (λ p q r k none. absurd (none_there (Ptr r k) p q none))
HasWholeReferences-runs size w (byte_first b _ rest e h) =
    subst (AllStandWhole size) (sym e) (AllStandWhole-append size (Byte b ∷ []) rest (AllStandWhole-one size (Byte b) (λ r k same. cc)) (HasWholeReferences-runs size rest h))
HasWholeReferences-runs size w (uninit_first _ rest e h) =
    subst (AllStandWhole size) (sym e) (AllStandWhole-append size (Uninit ∷ []) rest (AllStandWhole-one size Uninit (λ r k same. cc)) (HasWholeReferences-runs size rest h))
HasWholeReferences-runs size w (reference_first x _ rest e h) =
    subst (AllStandWhole size) (sym e) (AllStandWhole-append size (pointer_of size x) rest (AllStandWhole-pointer size x) (HasWholeReferences-runs size rest h))

-- so it is in a word of a type
pub stands-whole : (profile : Profile) (A : ℕ → ℕ → Type 0) (keep : Bool) (t : Expanded) → IsFor profile t → (w : Word) → Valid A keep t w → AllStandWhole (pointer_size profile) w
stands-whole profile A keep t for_it w h = HasWholeReferences-runs (pointer_size profile) w (whole-references profile A keep t for_it w h)
