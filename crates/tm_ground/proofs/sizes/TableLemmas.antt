-- What the tables say of a type, by its kind.
use Rattle.std.proofs.Common.{◌≡◌, ℕ, zero, suc, ◌+◌, ◌-◌, ◌<◌, ◌≤◌, Bool, true, false, ◌||◌, refl, sym, ap, ◌∙◌, ◌⊎◌, ⊎_elim, List, [], ◌∷◌, ◌++◌, length, length-append, get_or, take, arith}
use Rattle.std.specs.List.{flat_map, list_any}
use Rattle.std.proofs.lemmas.Bool.{or_from}
use Rattle.std.proofs.lemmas.List.{take_more}
use Rattle.std.proofs.lemmas.List.Folds.{list_any-append}
use Rattle.tm_base.specs.declared.ground.Ground.{Ground, out-Ground}
use Rattle.tm_base.specs.declared.ground.Ground as ground_is
use Rattle.tm_base.specs.declared.ground.Ground.{Tuple', Array', Wrap'}
use Rattle.tm_base.specs.declared.ground.Ground.TheOpen.{Ground-F}
use Rattle.tm_base.specs.declared.ground.Ground.TheVariants as level
use Rattle.tm_base.specs.declared.ground.Primitive.{Primitive}
use Rattle.tm_base.specs.declared.cell.RefId.{RefId}
use Rattle.tm_base.specs.declared.ground.Wrapper.{Wrapper}
use Rattle.tm_base.specs.Whole.{written_types, row_types}
use Rattle.tm_base.proofs.GroundLemmas.{written_types-Tuple, written_types-Array, written_types-Wrap}
use Rattle.tm_ground.specs.Depths.{flag_at, is_deep, passes_by, some_part}
use Rattle.tm_ground.specs.Limits.{depth_limit}

-- one that passes is among them
pub any-here : {X : Type 0} (p : X → Bool) (xs : List X) (i : ℕ) (x : X) → i < length xs → x ≡ get_or xs i x → p x ≡ true → list_any p xs ≡ true
any-here p [] i x l e h = absurd (omega (arith, l))
any-here p (y ∷ ys) zero x l e h = ap (λ b. b || list_any p ys) (ap p (sym e) ∙ h)
any-here p (y ∷ ys) (suc i) x l e h = by (p y) (any-here p ys i x (omega (arith, l)) e h)
  where
    by : (b : Bool) → list_any p ys ≡ true → (b || list_any p ys) ≡ true
    by true t = refl
    by false t = t

-- one more that doesn't pass
pub none-more : {X : Type 0} (p : X → Bool) (xs : List X) (i : ℕ) (x : X) → i < length xs → x ≡ get_or xs i x → list_any p (take i xs) ≡ false → p x ≡ false → list_any p (take (i + 1) xs) ≡ false
none-more p xs i x l e h n =
    ap (list_any p) (take_more xs i x l ∙ ap (λ z. take i xs ++ z ∷ []) (sym e)) ∙ list_any-append p (take i xs) (x ∷ []) ∙ or_from _ _ h (or_from _ _ n refl)

pub any-flat_map : {X Y : Type 0} (p : Y → Bool) (f : X → List Y) (xs : List X) → list_any p (flat_map f xs) ≡ list_any (λ x. list_any p (f x)) xs
any-flat_map p f [] = refl
any-flat_map p f (x ∷ xs) = list_any-append p (f x) (flat_map f xs) ∙ ap (λ r. list_any p (f x) || r) (any-flat_map p f xs)

module _ (tables : List (List Bool)) where
  pub passes-none : (n : ℕ) (g : Ground) → n ≡ 0 → passes_by tables n g ≡ true
  unfolding passes_by
  passes-none n g e = rw e refl

  -- its depth passes a number where that of one of its parts by value passes the one below
  pub passes-next : (n : ℕ) (g : Ground) (o : Ground-F Ground) → (n ≡ 0 → ⊥) → out-Ground g ≡ o → some_part (passes_by tables (n - 1)) (λ id. flag_at tables (n - 1) id.0) o ≡ passes_by tables n g
  unfolding passes_by
  passes-next zero g o e q = absurd (e refl)
  passes-next (suc m) g o e q = let same : suc m - 1 ≡ m = omega arith in rw (same, q) refl

  -- a type without parts passes none but 0
  pub passes-scalar : (n : ℕ) (g : Ground) → (n ≡ 0 → ⊥) → ((p : Primitive) × (g ≡ ground_is.Prim p)) ⊎ ((g ≡ ground_is.Never) ⊎ (g ≡ ground_is.Unit)) → false ≡ passes_by tables n g
  passes-scalar n g e s =
      ⊎_elim (λ p. passes-next n g _ e (ap out-Ground p.1 ∙ level.outs-Prim p.0))
      (⊎_elim (λ q. passes-next n g _ e (ap out-Ground q ∙ level.outs-Never)) (λ q. passes-next n g _ e (ap out-Ground q ∙ level.outs-Unit))) s

  pub passes-leaf : (n : ℕ) (g : Ground) → (n ≡ 0 → ⊥) → ((p : Primitive) × (g ≡ ground_is.NonZero p)) ⊎ ((r : RefId) × (g ≡ ground_is.Ref r)) → false ≡ passes_by tables n g
  passes-leaf n g e s =
      ⊎_elim (λ p. passes-next n g _ e (ap out-Ground p.1 ∙ level.outs-NonZero p.0)) (λ r. passes-next n g _ e (ap out-Ground r.1 ∙ level.outs-Ref r.0)) s

  abbrev passes : Ground → Bool
  passes = passes_by tables depth_limit

  pub deep-Tuple : (gs : List Ground) → is_deep tables (ground_is.Tuple gs) ≡ (passes (ground_is.Tuple gs) || list_any (is_deep tables) gs)
  deep-Tuple gs = ap (list_any passes) (written_types-Tuple gs) ∙ ap (λ b. passes (ground_is.Tuple gs) || b) (any-flat_map passes written_types gs)

  pub deep-Array : (g : Ground) (n : ℕ) → is_deep tables (ground_is.Array g n) ≡ (passes (ground_is.Array g n) || is_deep tables g)
  deep-Array g n = ap (list_any passes) (written_types-Array g n)

  pub deep-Wrap : (w : Wrapper) (g : Ground) → is_deep tables (ground_is.Wrap w g) ≡ (passes (ground_is.Wrap w g) || is_deep tables g)
  deep-Wrap w g = ap (list_any passes) (written_types-Wrap w g)

  pub deep-alone : (g : Ground) → written_types g ≡ g ∷ [] → is_deep tables g ≡ passes g
  deep-alone g e = ap (list_any passes) e ∙ none (passes g)
    where
      none : (b : Bool) → (b || false) ≡ b
      none true = refl
      none false = refl

  -- a type is written in itself
  first-of : (g : Ground) → (rest : List Ground) × (written_types g ≡ g ∷ rest)
  unfolding written_types
  first-of (Tuple' shape row) = (row_types row, refl)
  first-of (Array' shape row n) = (row_types row, refl)
  first-of (Wrap' w shape row) = (row_types row, refl)
  first-of (ground_is.Prim p) = ([], refl)
  first-of ground_is.Never = ([], refl)
  first-of ground_is.Unit = ([], refl)
  first-of (ground_is.Named id) = ([], refl)
  first-of (ground_is.NonZero p) = ([], refl)
  first-of (ground_is.Ref r) = ([], refl)

  pub deep-itself : (g : Ground) → passes g ≡ true → is_deep tables g ≡ true
  deep-itself g h = (let (rest, e) = first-of g in ap (list_any passes) e ∙ ap (λ b. b || list_any passes rest) h)

  -- what isn't too deep itself is so where what is written in it is
  pub deep-below : (h g : Ground) (rest : Bool) → h ≡ g → is_deep tables g ≡ (passes g || rest) → passes h ≡ false → rest ≡ is_deep tables h
  deep-below h g rest e d n = sym (ap (is_deep tables) e ∙ d ∙ ap (λ b. b || rest) (ap passes (sym e) ∙ n))

  pub deep-leaf : (h g : Ground) → h ≡ g → written_types g ≡ g ∷ [] → passes h ≡ false → false ≡ is_deep tables h
  deep-leaf h g e w n = sym (ap (is_deep tables) e ∙ deep-alone g w ∙ ap passes (sym e) ∙ n)

pub count-at : (gs : List Ground) (i : ℕ) (g : Ground) → i < length gs → g ≡ get_or gs i g → length (written_types g) ≤ length (flat_map written_types gs)
count-at [] i g l e = absurd (omega (arith, l))
count-at (h ∷ gs) zero g l e =
    let same : length (written_types g) ≡ length (written_types h) = ap (λ z. length (written_types z)) e in
    omega (arith, same, length-append (written_types h) (flat_map written_types gs))
count-at (h ∷ gs) (suc i) g l e =
    omega (arith, count-at gs i g (omega (arith, l)) e, length-append (written_types h) (flat_map written_types gs))
