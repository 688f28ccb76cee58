-- The words of the trees of types that hold no others.
use Rattle.std.proofs.Common.{◌≡◌, ℕ, ◌==◌, ◌<◌, ◌≤◌, refl, sym, ap, subst, ◌∙◌, Bool, true, false, ◌||◌, if◌then◌else◌, IsTrue, List, [], ◌∷◌, ◌++◌, length, inl, inr, ⊎_elim, ◌↔◌, arith, All, append-nil}
use Rattle.std.proofs.lemmas.List.Elements.{All-cons, All-head, All-nil}
use Rattle.tm_base.specs.declared.cell.Cell.TheVariants.{Byte}
use Rattle.tm_base.specs.declared.ground.Primitive.{Primitive}
use Rattle.tm_base.specs.declared.ground.Primitive.TheVariants as primitive
use Rattle.tm_base.specs.declared.ground.Wrapper.{Wrapper}
use Rattle.tm_base.specs.declared.ground.Wrapper.TheVariants as wrapper
use Rattle.tm_base.specs.declared.profile.Profile.{Profile}
use Rattle.tm_base.specs.declared.profile.Profile.TheVariants.{Le64, Be64, Le32}
use Rattle.tm_base.specs.declared.tree.Tree.{Tree, Never, Range, Private}
use Rattle.tm_base.specs.Cells.{Word, IsByte, Times}
use Rattle.tm_base.specs.Profiles.{number_of, pointer_size}
use Rattle.tm_base.specs.Trees.{TreeWord, InTurn}
use Rattle.tm_base.specs.Valid.{PrimValid, WrapValid}
use Rattle.tm_base.proofs.TreeLemmas.{TreeWord-Private}
use Rattle.tm_base.proofs.ValidLemmas.{Times-grows}
use Rattle.tm_niche.specs.Forms.{is_never, joined, repeated}
use Rattle.tm_niche.proofs.CharLemmas.{byte-is, char-words}
use Rattle.tm_niche.proofs.NonzeroLemmas.{null-words}
use Rattle.tm_niche.proofs.WordLemmas.{bytes-words, joined-words, none-is, none-Never, one-is, one_of-words, pads-words, repeated-words, InTurn-one}
use Rattle.tm_tree.specs.Parts.{guarded, hidden, pads, prim_parts, turns_of, wrap_parts}

-- a number of one byte is the byte
one_byte : (profile : Profile) (b : ℕ) → number_of profile (Byte b ∷ []) ≡ b
one_byte Le64 b = omega arith
one_byte Be64 b = omega arith
one_byte Le32 b = omega arith

module _ (pointer : ℕ) (A : ℕ → ℕ → Type 0) (keep : Bool) where
  pub never-words : (w : Word) → InTurn pointer A keep (Never ∷ []) w ↔ ⊥
  never-words w = (λ h. none-Never pointer A keep w ((InTurn-one pointer A keep Never w).1 h), λ h. absurd h)

  byte-forth : (profile : Profile) (w : Word) (b : ℕ) → b ≤ 1 → w ≡ Byte b ∷ [] → PrimValid profile primitive.Bool w
  byte-forth profile w b high e =
      let number : number_of profile w ≡ b = ap (number_of profile) e ∙ one_byte profile b in
      let small : b < 256 = omega arith in
      ((ap length e, subst (All IsByte) (sym e) (All-cons IsByte (Byte b) [] small (All-nil IsByte))), omega arith)

  byte-back : (profile : Profile) (w : Word) → PrimValid profile primitive.Bool w → (b : ℕ) × (b ≤ 1) × (w ≡ Byte b ∷ [])
  byte-back profile [] ((long, all), low) = absurd (omega arith)
  byte-back profile (c ∷ d ∷ w) ((long, all), low) = absurd (omega arith)
  byte-back profile (c ∷ []) ((long, all), low) =
      let (b, small, is) = byte-is c (All-head IsByte c [] all) in
      let e : c ∷ [] ≡ Byte b ∷ [] = ap (λ d. d ∷ []) is in
      let number : number_of profile (c ∷ []) ≡ b = ap (number_of profile) e ∙ one_byte profile b in
      (b, omega arith, e)

  bool-words : (profile : Profile) (w : Word) → InTurn pointer A keep (Range 0 1 ∷ []) w ↔ PrimValid profile primitive.Bool w
  unfolding TreeWord
  bool-words profile w =
      let one = InTurn-one pointer A keep (Range 0 1) w in (
        λ h. let (b, low, high, e) = one.1 h in byte-forth profile w b high e,
        λ h. let (b, high, e) = byte-back profile w h in one.0 (b, omega arith, high, e),
      )

  char-one : (profile : Profile) (w : Word) → InTurn pointer A keep (prim_parts profile primitive.Char) w ↔ PrimValid profile primitive.Char w
  char-one profile w =
      let one = InTurn-one pointer A keep _ w in
      let chars = char-words pointer A keep profile w in
      (λ h. chars.0 (one.1 h), λ h. one.0 (chars.1 h))

  pub prim-words : (profile : Profile) (p : Primitive) (w : Word) → InTurn pointer A keep (prim_parts profile p) w ↔ PrimValid profile p w
  prim-words profile primitive.Bool w = bool-words profile w
  prim-words profile primitive.Char w = char-one profile w
  prim-words profile primitive.U8 w = bytes-words pointer A keep 1 w
  prim-words profile primitive.U16 w = bytes-words pointer A keep 2 w
  prim-words profile primitive.U32 w = bytes-words pointer A keep 4 w
  prim-words profile primitive.U64 w = bytes-words pointer A keep 8 w
  prim-words profile primitive.U128 w = bytes-words pointer A keep 16 w
  prim-words profile primitive.Usize w = bytes-words pointer A keep (pointer_size profile) w
  prim-words profile primitive.I8 w = bytes-words pointer A keep 1 w
  prim-words profile primitive.I16 w = bytes-words pointer A keep 2 w
  prim-words profile primitive.I32 w = bytes-words pointer A keep 4 w
  prim-words profile primitive.I64 w = bytes-words pointer A keep 8 w
  prim-words profile primitive.I128 w = bytes-words pointer A keep 16 w
  prim-words profile primitive.Isize w = bytes-words pointer A keep (pointer_size profile) w
  prim-words profile primitive.F32 w = bytes-words pointer A keep 4 w
  prim-words profile primitive.F64 w = bytes-words pointer A keep 8 w

  one-turn : (P : Word → Type 0) (w : Word) → P w ↔ Times 1 P w
  one-turn P w = (λ p. (w, [], sym (append-nil w), p, refl), λ (u, v, e, p, q). subst P (sym (e ∙ ap (λ z. u ++ z) q ∙ append-nil u)) p)

  turns-case : (n : ℕ) (ts : List Tree) (P : Word → Type 0) (b : Bool) → (n == 1) ≡ b → ((u : Word) → InTurn pointer A keep ts u ↔ P u)
      → (w : Word) → InTurn pointer A keep (if b then ts else repeated n (joined ts)) w ↔ Times n P w
  turns-case n ts P true e each w =
      let one : n ≡ 1 = one-is n e in
      let turn = one-turn P w in
      (λ h. subst (λ (k : ℕ). Times k P w) (sym one) (turn.0 ((each w).0 h)), λ h. (each w).1 (turn.1 (subst (λ (k : ℕ). Times k P w) one h)))
  turns-case n ts P false e each w =
      let outer = repeated-words pointer A keep n (joined ts) w in (
        λ h. Times-grows n (TreeWord pointer A keep (joined ts)) P (λ u word. (each u).0 ((joined-words pointer A keep ts u).0 word)) w (outer.0 h),
        λ h. outer.1 (Times-grows n P (TreeWord pointer A keep (joined ts)) (λ u p. (joined-words pointer A keep ts u).1 ((each u).1 p)) w h),
      )

  pub turns-words : (n : ℕ) (ts : List Tree) (P : Word → Type 0) → ((u : Word) → InTurn pointer A keep ts u ↔ P u) → (w : Word) → InTurn pointer A keep (turns_of n ts) w ↔ Times n P w
  turns-words n ts P each w = turns-case n ts P (n == 1) refl each w

  hidden-case : (t : Tree) (w : Word) (b : Bool) → is_never t ≡ b → TreeWord pointer A keep (if b then t else Private t) w ↔ (IsTrue keep × TreeWord pointer A keep t w)
  hidden-case t w true e = (λ h. absurd (none-is pointer A keep t w e h), λ (k, h). h)
  hidden-case t w false e = TreeWord-Private pointer A keep t w

  open_if : (k public : Bool) → public ≡ false → IsTrue (k || public) → IsTrue k
  open_if true public e h = refl
  open_if false public e h = sym e ∙ h

  if_open : (k public : Bool) → IsTrue k → IsTrue (k || public)
  if_open true public h = refl
  if_open false public h = cc

  all_open : (k public : Bool) → public ≡ true → IsTrue (k || public)
  all_open true public e = refl
  all_open false public e = e

  guarded-case : (public : Bool) (ts : List Tree) (w : Word) (b : Bool) → public ≡ b
      → InTurn pointer A keep (if b then ts else (hidden (joined ts) ∷ [])) w ↔ (IsTrue (keep || public) × InTurn pointer A keep ts w)
  guarded-case public ts w true e = (λ h. (all_open keep public e, h), λ (o, h). h)
  guarded-case public ts w false e =
      let one = InTurn-one pointer A keep (hidden (joined ts)) w in
      let inside = hidden-case (joined ts) w (is_never (joined ts)) refl in
      let all = joined-words pointer A keep ts w in (
        λ h. let (k, word) = inside.0 (one.1 h) in (if_open keep public k, all.0 word),
        λ (o, h). one.0 (inside.1 (open_if keep public e o, all.1 h)),
      )

  pub guarded-words : (public : Bool) (ts : List Tree) (w : Word) → InTurn pointer A keep (guarded public ts) w ↔ (IsTrue (keep || public) × InTurn pointer A keep ts w)
  guarded-words public ts w = guarded-case public ts w public refl

  option-words : (n : ℕ) (ts : List Tree) (P : Word → Type 0) → ((u : Word) → InTurn pointer A keep ts u ↔ P u) → (w : Word) → InTurn pointer A keep (wrap_parts wrapper.Option n ts) w ↔ WrapValid wrapper.Option n P w
  option-words n ts P each w =
      let one = InTurn-one pointer A keep _ w in
      let both = null-words pointer A keep n (joined ts) w in
      let all = joined-words pointer A keep ts w in (
        λ h. ⊎_elim (λ e. inl e) (λ word. inr ((each w).0 (all.0 word))) (both.0 (one.1 h)),
        λ h. one.0 (both.1 (⊎_elim (λ e. inl e) (λ p. inr (all.1 ((each w).1 p))) h)),
      )

  uninit-words : (n : ℕ) (ts : List Tree) (P : Word → Type 0) → ((u : Word) → InTurn pointer A keep ts u ↔ P u) → (w : Word) → InTurn pointer A keep (wrap_parts wrapper.MaybeUninit n ts) w ↔ WrapValid wrapper.MaybeUninit n P w
  uninit-words n ts P each w =
      let one = InTurn-one pointer A keep _ w in
      let both = one_of-words pointer A keep (joined (pads n) ∷ joined ts ∷ []) w in
      let free = joined-words pointer A keep (pads n) w in
      let bytes = pads-words pointer A keep n w in
      let all = joined-words pointer A keep ts w in (
        λ h. ⊎_elim (λ word. inl (bytes.0 (free.0 word))) (⊎_elim (λ word. inr ((each w).0 (all.0 word))) (λ none. absurd none)) (both.0 (one.1 h)),
        λ h. one.0 (both.1 (⊎_elim (λ p. inl (free.1 (bytes.1 p))) (λ p. inr (inl (all.1 ((each w).1 p)))) h)),
      )

  pub wrap-words : (k : Wrapper) (n : ℕ) (ts : List Tree) (P : Word → Type 0) → ((u : Word) → InTurn pointer A keep ts u ↔ P u) → (w : Word) → InTurn pointer A keep (wrap_parts k n ts) w ↔ WrapValid k n P w
  wrap-words wrapper.Option n ts P each w = option-words n ts P each w
  wrap-words wrapper.MaybeUninit n ts P each w = uninit-words n ts P each w
  wrap-words wrapper.ManuallyDrop n ts P each w = each w
  wrap-words wrapper.Wrapping n ts P each w = each w
  wrap-words wrapper.Cell n ts P each w = each w
  wrap-words wrapper.UnsafeCell n ts P each w = each w
  wrap-words wrapper.PhantomData n ts P each w = each w
