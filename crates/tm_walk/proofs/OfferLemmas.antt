-- Pairs offered in rising order: what becomes of them.
use Rattle.std.proofs.Common.{◌≡◌, ◌≢◌, ℕ, true, false, zero, suc, ◌<◌, ◌⊎◌, inl, inr, List, [], ◌∷◌, ◌++◌, Some, slice_get, refl, sym, ap, ◌∙◌, subst, arith, append_assoc, Contains}
use Rattle.std.proofs.lemmas.List.{append-nil}
use Rattle.std.proofs.lemmas.List.Elements.{Contains-append_left, Contains-append_cases, Contains-push}
use Rattle.tm_base.specs.declared.cell.Cell.{Cell}
use Rattle.tm_base.proofs.JudgedLemmas.{Contains-none, Contains-one}
use Rattle.tm_auto.specs.Automata.{Automaton}
use Rattle.tm_auto.proofs.ContainsLemmas.{here, there, first_or_later}
use Rattle.tm_walk.specs.Layers.{is_live, Entry, IsStart, HaveSameSets, Precedes, AreRising, AreApart, IsHeld, IsOffered, AreOffered}
use Rattle.tm_walk.proofs.NumberLemmas.{get_among}

held_left : (e : Entry) (xs ys : List Entry) → IsHeld e xs → IsHeld e (xs ++ ys)
held_left e xs ys (f, m, s) = (f, Contains-append_left _ ys _ m, s)

-- the first offered pair of some sets, or one that was there
pub record HasEarly (before more : List Entry) (o : Entry) : Type 0 where
  pub entry : Entry
  pub same : HaveSameSets entry o
  pub where_ : Contains before entry ⊎ (Contains more entry × ((entry ≡ o) ⊎ Precedes entry o))

-- what is put behind those that were there
pub record Keeps (es before after : List Entry) : Type 0 where
  pub more : List Entry
  pub is : after ≡ before ++ more
  pub from : (f : Entry) → Contains more f → Contains es f
  pub fresh : (f : Entry) → Contains more f → ¬ IsHeld f before
  pub apart : AreApart more
  pub rising : AreRising more
  pub early : (o : Entry) → Contains es o → HasEarly before more o

pub keeps : (es before after : List Entry) → AreRising es → AreOffered es before after → Keeps es before after
keeps [] before after rise is = record {
  more = [];
  is = is ∙ sym (append-nil before);
  from = λ f m. m;
  fresh = λ f m. absurd (Contains-none _ m);
  apart = tt;
  rising = tt;
  early = λ o m. absurd (Contains-none _ m);
}
keeps (e ∷ es) before after (first, rise) (between, inl ((f, m, s), q), rest) =
    let k = keeps es before after rise (subst (λ (z : List Entry). AreOffered es z after) q rest) in
    record {
      more = k.more;
      is = k.is;
      from = λ g h. there _ _ (k.from g h);
      fresh = k.fresh;
      apart = k.apart;
      rising = k.rising;
      early = λ o h. elim (first_or_later _ _ h) [
        | inl z ↦ record { entry = f; same = (s.0 ∙ ap (λ (x : Entry). x.src) (sym z), s.1 ∙ ap (λ (x : Entry). x.dst) (sym z)); where_ = inl m }
        | inr n ↦ k.early o n
      ];
    }
keeps (e ∷ es) before after (first, rise) (between, inr (q, new), rest) =
    let k = keeps es (before ++ e ∷ []) after rise (subst (λ (z : List Entry). AreOffered es z after) q rest) in
    record {
      more = e ∷ k.more;
      is = k.is ∙ append_assoc before (e ∷ []) k.more;
      from = λ g h. elim (first_or_later _ _ h) [ inl z ↦ subst (λ (x : Entry). Contains (e ∷ es) x) (sym z) (here _) | inr n ↦ there _ _ (k.from g n) ];
      fresh = λ g h i. elim (first_or_later _ _ h) [
        | inl z ↦ new (subst (λ (x : Entry). IsHeld x before) z i)
        | inr n ↦ k.fresh g n (held_left g before (e ∷ []) i)
      ];
      apart = (λ g h s. k.fresh g h (e, Contains-push before e, s), k.apart);
      rising = (λ g h. first g (k.from g h), k.rising);
      early = λ o h. elim (first_or_later _ _ h) [
        | inl z ↦ record { entry = e; same = (ap (λ (x : Entry). x.src) (sym z), ap (λ (x : Entry). x.dst) (sym z)); where_ = inr (here _, inl (sym z)) }
        | inr n ↦ (let a = k.early o n in placed k.more o n a.entry a.same a.where_)
      ];
    }
  where
    placed : (more : List Entry) (o : Entry) → Contains es o → (f : Entry) → HaveSameSets f o → Contains (before ++ e ∷ []) f ⊎ (Contains more f × ((f ≡ o) ⊎ Precedes f o)) → HasEarly before (e ∷ more) o
    placed more o n f s (inr (m, p)) = record { entry = f; same = s; where_ = inr (there _ _ m, p) }
    placed more o n f s (inl m) = elim (Contains-append_cases before (e ∷ []) _ m) [
      | inl a ↦ record { entry = f; same = s; where_ = inl a }
      | inr a ↦ record { entry = f; same = s; where_ = inr (subst (λ (x : Entry). Contains (e ∷ more) x) (Contains-one e f a) (here _), inr (subst (λ (x : Entry). Precedes x o) (Contains-one e f a) (first o n))) }
    ]

-- ---- lists one behind the other

pub rising-append : (xs ys : List Entry) → AreRising xs → AreRising ys → ((e f : Entry) → Contains xs e → Contains ys f → Precedes e f) → AreRising (xs ++ ys)
rising-append [] ys a b h = b
rising-append (x ∷ xs) ys a b h = (
  λ f m. elim (Contains-append_cases xs ys _ m) [ inl k ↦ a.0 f k | inr k ↦ h x f (here _) k ],
  rising-append xs ys a.1 b (λ e f m n. h e f (there _ _ m) n),
)

pub apart-append : (xs ys : List Entry) → AreApart xs → AreApart ys → ((f : Entry) → Contains ys f → ¬ IsHeld f xs) → AreApart (xs ++ ys)
apart-append [] ys a b h = b
apart-append (x ∷ xs) ys a b h = (
  λ f m s. elim (Contains-append_cases xs ys _ m) [ inl k ↦ a.0 f k s | inr k ↦ h f k (x, here _, s) ],
  apart-append xs ys a.1 b (λ f m (g, n, s). h f m (g, there _ _ n, s)),
)

-- ---- by places

pub rising_at : (es : List Entry) → AreRising es → (j k : ℕ) (e f : Entry) → j < k → slice_get es j ≡ Some e → slice_get es k ≡ Some f → Precedes e f
rising_at [] r j k e f l a b = cc
rising_at (x ∷ es) r zero zero e f l a b = absurd (omega arith)
rising_at (x ∷ es) r zero (suc k) e f l a b = let q : x ≡ e = cc in subst (λ (z : Entry). Precedes z f) q (r.0 f (get_among es k f b))
rising_at (x ∷ es) r (suc j) zero e f l a b = absurd (omega arith)
rising_at (x ∷ es) r (suc j) (suc k) e f l a b = rising_at es r.1 j k e f (omega arith) a b

pub apart_at : (es : List Entry) → AreApart es → (j k : ℕ) (e f : Entry) → j < k → slice_get es j ≡ Some e → slice_get es k ≡ Some f → ¬ HaveSameSets e f
apart_at [] r j k e f l a b = cc
apart_at (x ∷ es) r zero zero e f l a b = absurd (omega arith)
apart_at (x ∷ es) r zero (suc k) e f l a b = let q : x ≡ e = cc in subst (λ (z : Entry). ¬ HaveSameSets z f) q (r.0 f (get_among es k f b))
apart_at (x ∷ es) r (suc j) zero e f l a b = absurd (omega arith)
apart_at (x ∷ es) r (suc j) (suc k) e f l a b = apart_at es r.1 j k e f (omega arith) a b

-- ---- the first layer

pub start_none : (src dst : Automaton) → src.starts ≡ [] → IsStart src dst []
start_none src dst e = record { each = λ k x h. cc; some = λ n. absurd (n e) }

pub start_one : (src dst : Automaton) (e : Entry) (layer : List Entry) → e.src ≡ src.starts → e.dst ≡ dst.starts → src.starts ≢ [] → IsOffered e [] layer → IsStart src dst layer
start_one src dst e layer a b n (inl ((f, m, s), q)) = absurd (Contains-none _ m)
start_one src dst e layer a b n (inr (q, new)) = subst (IsStart src dst) (sym q) (record { each = go; some = λ z. (e, refl) })
  where
    go : (k : ℕ) (x : Entry) → slice_get (e ∷ []) k ≡ Some x → (k ≡ 0) × (x.src ≡ src.starts) × (x.dst ≡ dst.starts) × (src.starts ≢ [])
    go zero x h = let z : e ≡ x = cc in (refl, ap (λ (y : Entry). y.src) (sym z) ∙ a, ap (λ (y : Entry). y.dst) (sym z) ∙ b, n)
    go (suc k) x h = cc

pub started : (src dst : Automaton) (from to : List ℕ) (parent : ℕ) (c : Cell) (layer : List Entry) → from ≡ src.starts → to ≡ dst.starts → is_live from ≡ true
    → (before : List Entry) → before ≡ [] → IsOffered (record { src = from; dst = to; parent = parent; cell = c }) before layer → IsStart src dst layer
started src dst from to parent c layer a b live before none o =
    start_one src dst (record { src = from; dst = to; parent = parent; cell = c }) layer a b (λ q. let z : is_live from ≡ false = ap is_live (a ∙ q) in cc)
    (subst (λ (z : List Entry). IsOffered (record { src = from; dst = to; parent = parent; cell = c }) z layer) none o)

pub unstarted : (src dst : Automaton) (from : List ℕ) (layer : List Entry) → from ≡ src.starts → is_live from ≡ false → layer ≡ [] → IsStart src dst layer
unstarted src dst from layer a dead none = subst (IsStart src dst) (sym none) (start_none src dst (sym a ∙ nothing from dead))
  where
    nothing : (xs : List ℕ) → is_live xs ≡ false → xs ≡ []
    nothing [] h = refl
    nothing (x ∷ xs) h = cc
