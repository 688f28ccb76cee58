-- Where a source word is viable in the target, told by the set of states that its cells reach.
use Rattle.std.proofs.Common.{◌≡◌, ◌≢◌, ℕ, ◌<◌, ◌≤◌, ◌⊎◌, inl, inr, ◌↔◌, Bool, true, false, IsTrue, ◌^◌, List, [], ◌∷◌, ◌++◌, length, refl, sym, ap, ◌∙◌, subst, arith, append_assoc, length-append, eq-eqb}
use Rattle.std.specs.Prelude.{◌==◌}
use Rattle.std.proofs.lemmas.Bool.{or_left, or_right}
use Rattle.std.proofs.lemmas.List.{append-nil, nil_from_length}
use Rattle.tm_base.specs.declared.cell.Cell.{Cell}
use Rattle.tm_base.specs.declared.cell.Cell.TheVariants.{Byte, Uninit, Ptr}
use Rattle.tm_base.specs.Cells.{Word, own, OrOwn, or_own}
use Rattle.tm_base.specs.Transmutes.{holds, is_itself}
use Rattle.tm_auto.specs.declared.edge.Edge.{Edge}
use Rattle.tm_auto.specs.declared.edge.Label.{Label}
use Rattle.tm_auto.specs.declared.edge.Label.TheVariants.{Bytes, Free, Leaf}
use Rattle.tm_auto.specs.Automata.{Automaton, AutoWord, IsViable, IsAutomaton, ReadsWords, reached}
use Rattle.tm_auto.specs.Joined.{IsNotOwn, HasNoOwn}
use Rattle.tm_auto.specs.Labels.{Takes, CanTake}
use Rattle.tm_auto.specs.Paths.{SpellsTo}
use Rattle.tm_auto.proofs.AutomatonLemmas.{leads_wider}
use Rattle.tm_auto.proofs.SetLemmas.{same_at}
use Rattle.tm_walk.specs.Layers.{is_live}
use Rattle.tm_walk.specs.Meanings.{Fits}
use Rattle.tm_walk.specs.Sought.{IsSourceWord, IsViableTo, StopsAt, SkipsAt}
use Rattle.tm_walk.proofs.PaddedLemmas.{padded, fit-padded, take-fit, length-padded, padded_split, joined-padded, no_own-padded}

pub same_test : (a b : Bool) → (IsTrue a → IsTrue b) → (IsTrue b → IsTrue a) → a ≡ b
same_test true b f g = sym (f refl)
same_test false true f g = g refl
same_test false false f g = refl

pub either : (b : Bool) → (b ≡ true) ⊎ (b ≡ false)
either true = inl refl
either false = inr refl

pub live_some : (xs : List ℕ) → IsTrue (is_live xs) ↔ (xs ≢ [])
live_some [] = (λ h q. cc, λ h. absurd (h refl))
live_some (x ∷ xs) = (λ h q. cc, λ h. refl)

-- ---- the cells of a source word are no target reference's own

not_own : (p : ℕ) (l : Label) (c : Cell) → CanTake p l → Takes (holds is_itself) l c → IsNotOwn c
not_own p (Bytes low high) c can (b, lo, hi, e) = subst IsNotOwn (sym e) tt
not_own p Free (Byte b) can h = tt
not_own p Free Uninit can h = tt
not_own p Free (Ptr r k) can h = absurd h
not_own p (Leaf t k) c can (x, a, e) =
    let same : x ≡ t.0 = same_at x t.0 a in
    let small : x < 2 ^ 32 = let l = can.0 in omega arith in
    subst IsNotOwn (sym e) small

own_free : (auto : Automaton) → IsAutomaton auto → (w : Word) (s t : ℕ) → SpellsTo (holds is_itself) auto.edges w s t → HasNoOwn w
own_free auto h [] s t l = tt
own_free auto h (c ∷ w) s t (e, m, f, k, l) = (not_own auto.pointer e.label c (h.takes e m) k, own_free auto h w e.to t l)

pub source_no_own : (src : Automaton) → IsAutomaton src → (w : Word) → IsSourceWord src w → HasNoOwn w
source_no_own src h w word = own_free src h w word.reaches.state 0 word.reaches.spells

-- ---- viable lists

takes_own : (A : ℕ → ℕ → Bool) (l : Label) (c : Cell) → IsNotOwn c → Takes (OrOwn (holds A)) l c → Takes (holds A) l c
takes_own A (Bytes low high) c n h = h
takes_own A Free c n h = h
takes_own A (Leaf t k) c n (x, inl a, e) = (x, a, e)
takes_own A (Leaf t k) c n (x, inr q, e) = let l : x < 2 ^ 32 = subst IsNotOwn e n in absurd (omega arith)

leads_own : (A : ℕ → ℕ → Bool) (es : List Edge) (w : Word) (s t : ℕ) → HasNoOwn w → SpellsTo (OrOwn (holds A)) es w s t → SpellsTo (holds A) es w s t
leads_own A es [] s t n l = l
leads_own A es (c ∷ w) s t (n, ns) (e, m, q, k, l) = (e, m, q, takes_own A e.label c n k, leads_own A es w e.to t ns l)

own_test : (A : ℕ → ℕ → Bool) (x t : ℕ) → OrOwn (holds A) x t → holds (or_own A) x t
own_test A x t (inl a) = or_left (A x t) (x == own t) a
own_test A x t (inr e) = or_right (A x t) (x == own t) (eq-eqb x (own t) e)

pub viable_prefix : (A : ℕ → ℕ → Type 0) (dst : Automaton) (u t : Word) → IsViable A dst (u ++ t) → IsViable A dst u
viable_prefix A dst u t (v, word) = (t ++ v, subst (λ (z : Word). AutoWord (OrOwn A) dst z) (append_assoc u t v) word)

module _ (A : ℕ → ℕ → Bool) (dst : Automaton) (hd : IsAutomaton dst) where
  -- a viable list of the size of a word is one
  pub viable_whole : (u : Word) → HasNoOwn u → length u ≡ dst.size → IsViable (holds A) dst u → AutoWord (holds A) dst u
  viable_whole u none size (v, word) =
      let x = word.reaches in
      let wide : AutoWord (holds (or_own A)) dst (u ++ v) = record {
        joined = word.joined;
        reaches = record { state = x.state; among = x.among; spells = leads_wider (OrOwn (holds A)) (holds (or_own A)) (own_test A) dst.edges (u ++ v) x.state 0 x.spells };
      } in
      let sized = hd.sized (or_own A) (u ++ v) wide in
      let nothing : v ≡ [] = nil_from_length v (omega (arith, length-append u v)) in
      let same : u ++ v ≡ u = ap (λ (z : Word). u ++ z) nothing ∙ append-nil u in
      let word2 : AutoWord (OrOwn (holds A)) dst u = subst (λ (z : Word). AutoWord (OrOwn (holds A)) dst z) same word in
      record {
        joined = word2.joined;
        reaches = record { state = word2.reaches.state; among = word2.reaches.among; spells = leads_own A dst.edges u word2.reaches.state 0 none word2.reaches.spells };
      }

  pub whole_viable : (u : Word) → AutoWord (holds A) dst u → IsViable (holds A) dst u
  whole_viable u word =
      let x = word.reaches in
      let wide : AutoWord (OrOwn (holds A)) dst u = record {
        joined = word.joined;
        reaches = record { state = x.state; among = x.among; spells = leads_wider (holds A) (OrOwn (holds A)) (λ y t h. inl h) dst.edges u x.state 0 x.spells };
      } in
      ([], subst (λ (z : Word). AutoWord (OrOwn (holds A)) dst z) (sym (append-nil u)) wide)

-- ---- source words in the target

module _ (A : ℕ → ℕ → Bool) (src dst : Automaton) (hs : IsAutomaton src) (hd : IsAutomaton dst) (rd : ReadsWords dst) where
  -- the target's set behind the cells up to a place
  abbrev pub target_at : Word → ℕ → List ℕ
  target_at w p = reached A dst (padded w p)

  pub viable_is : (w : Word) (p : ℕ) → p ≤ dst.size → IsViableTo A dst w p ↔ IsViable (holds A) dst (padded w p)
  viable_is w p l = (
    λ h. subst (λ (z : Word). IsViable (holds A) dst z) (take-fit w p dst.size l) h,
    λ h. subst (λ (z : Word). IsViable (holds A) dst z) (sym (take-fit w p dst.size l)) h,
  )

  pub tells_live : (w : Word) → IsSourceWord src w → (p : ℕ) → p ≤ dst.size → IsTrue (is_live (target_at w p)) ↔ IsViableTo A dst w p
  tells_live w word p l =
      let v = rd.viable A (padded w p) (joined-padded Uninit w p word.joined) (no_own-padded w p (source_no_own src hs w word)) in
      let s = live_some (target_at w p) in
      let i = viable_is w p l in
      (λ h. i.1 (v.0 (s.0 h)), λ h. s.1 (v.1 (i.0 h)))

  pub viable_earlier : (w : Word) (p q : ℕ) → p ≤ q → q ≤ dst.size → IsViableTo A dst w q → IsViableTo A dst w p
  viable_earlier w p q l m h =
      let (t, e) = padded_split w p q l in
      (viable_is w p (omega arith)).1 (viable_prefix (holds A) dst (padded w p) t (subst (λ (z : Word). IsViable (holds A) dst z) e ((viable_is w q m).0 h)))

  pub viable_fits : (w : Word) → IsSourceWord src w → IsViableTo A dst w dst.size → Fits A src dst w
  viable_fits w word h =
      let v = (viable_is w dst.size (omega arith)).0 h in
      subst (λ (z : Word). AutoWord (holds A) dst z) (sym (fit-padded w dst.size))
      (viable_whole A dst hd (padded w dst.size) (no_own-padded w dst.size (source_no_own src hs w word)) (length-padded w dst.size) v)

  pub fits_viable : (w : Word) → Fits A src dst w → IsViableTo A dst w dst.size
  fits_viable w f = (viable_is w dst.size (omega arith)).1 (whole_viable A dst hd (padded w dst.size) (subst (λ (z : Word). AutoWord (holds A) dst z) (fit-padded w dst.size) f))

  -- ---- where a quantifier stops and skips

  module _ (stop : Bool → Bool → Bool) (skip : Bool → Bool) where
    told : (w : Word) → IsSourceWord src w → (p : ℕ) → p ≤ dst.size → (live : Bool) → IsTrue live ↔ IsViableTo A dst w p → live ≡ is_live (target_at w p)
    told w word p l live t = let s = tells_live w word p l in same_test live (is_live (target_at w p)) (λ h. s.1 (t.0 h)) (λ h. t.1 (s.0 h))

    pub stops_are : (w : Word) → IsSourceWord src w → (p : ℕ) → p ≤ dst.size → StopsAt A src dst stop skip w p ↔ (stop (is_live (target_at w p)) (p == dst.size) ≡ true)
    stops_are w word p l = (
      λ h. subst (λ (b : Bool). stop b (p == dst.size) ≡ true) (told w word p l h.live h.tells) h.stops,
      λ h. record { live = is_live (target_at w p); tells = tells_live w word p l; stops = h },
    )

    pub skips_are : (w : Word) → IsSourceWord src w → (p : ℕ) → p ≤ dst.size → SkipsAt A src dst stop skip w p ↔ (skip (is_live (target_at w p)) ≡ true)
    skips_are w word p l = (
      λ h. subst (λ (b : Bool). skip b ≡ true) (told w word p l h.live h.tells) h.skips,
      λ h. record { live = is_live (target_at w p); tells = tells_live w word p l; skips = h },
    )
