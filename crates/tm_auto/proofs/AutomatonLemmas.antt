-- What follows from the facts of an automaton: where its paths lead, and which lists are viable.
use Rattle.std.proofs.Common.{◌≡◌, ◌≢◌, ℕ, zero, suc, ◌+◌, ◌^◌, ◌<◌, ◌≤◌, inl, inr, ◌↔◌, Bool, true, List, [], ◌∷◌, ◌++◌, length, refl, sym, ap, ◌∙◌, subst, arith, append_assoc, length-append, eq-eqb, Contains}
use Rattle.std.specs.Prelude.{◌==◌, ◌||◌}
use Rattle.std.proofs.lemmas.Bool.{cases_lt, or_left, or_right}
use Rattle.tm_base.specs.declared.cell.Cell.{Cell}
use Rattle.tm_base.specs.declared.cell.Cell.TheVariants.{Byte, Uninit, Ptr}
use Rattle.tm_base.specs.declared.cell.RefId.{RefId}
use Rattle.tm_base.specs.Cells.{Word, OrOwn, own}
use Rattle.tm_base.specs.Transmutes.{holds, is_itself}
use Rattle.tm_base.proofs.JudgedLemmas.{Contains-none}
use Rattle.tm_auto.specs.declared.edge.Edge.{Edge}
use Rattle.tm_auto.specs.declared.edge.Label.{Label}
use Rattle.tm_auto.specs.declared.edge.Label.TheVariants.{Bytes, Free, Leaf}
use Rattle.tm_auto.specs.declared.edge.Symbol.{Symbol}
use Rattle.tm_auto.specs.Automata.{Automaton, AutoWord, IsViable, IsInLayer, IsAutomaton, LiesOnWord, IsLayered, ReadsWords, IsStep, BeginsReference, IsOfReferences, reached}
use Rattle.tm_auto.specs.Joined.{Follows, JoinedAfter, IsJoined, IsNotOwn, HasNoOwn, IsUnbroken}
use Rattle.tm_auto.specs.Labels.{Takes, CanTake, Begins, Joins}
use Rattle.tm_auto.specs.Paths.{SpellsTo, IsPath}
use Rattle.tm_auto.specs.Sets.{next, reached_from, symbol_of}
use Rattle.tm_auto.proofs.ContainsLemmas.{some_among}
use Rattle.tm_auto.proofs.SetLemmas.{same_at, rises_same, increasing_rises}
use Rattle.tm_auto.proofs.JoinedLemmas.{joined_left}
use Rattle.tm_auto.proofs.StepLemmas.{id_at, place_at, next_to, to_next, next-IsStrictlyIncreasing, reached_to, to_reached}

abbrev last_of : Cell → Word → Cell
last_of p [] = p
last_of p (c ∷ w) = last_of c w

joined_on : (p : Cell) (w v : Word) → JoinedAfter p w → JoinedAfter (last_of p w) v → JoinedAfter p (w ++ v)
joined_on p [] v j k = k
joined_on p (c ∷ w) v (f, j) k = (f, joined_on c w v j k)

leads_on : (A : ℕ → ℕ → Type 0) (es : List Edge) (w v : Word) (a s t : ℕ) → SpellsTo A es w a s → SpellsTo A es v s t → SpellsTo A es (w ++ v) a t
leads_on A es [] v a s t l k = subst (λ (z : ℕ). SpellsTo A es v z t) (sym l) k
leads_on A es (c ∷ w) v a s t (e, m, f, h, l) k = (e, m, f, h, leads_on A es w v e.to s t l k)

leads_parts : (A : ℕ → ℕ → Type 0) (es : List Edge) (w v : Word) (a t : ℕ) → SpellsTo A es (w ++ v) a t → (s : ℕ) × SpellsTo A es w a s × SpellsTo A es v s t
leads_parts A es [] v a t h = (a, refl, h)
leads_parts A es (c ∷ w) v a t (e, m, f, h, r) = let (s, l, k) = leads_parts A es w v e.to t r in (s, (e, m, f, h, l), k)

-- under a wider relation
takes_wider : (A B : ℕ → ℕ → Type 0) → ((x t : ℕ) → A x t → B x t) → (l : Label) (c : Cell) → Takes A l c → Takes B l c
takes_wider A B f (Bytes low high) c h = h
takes_wider A B f Free c h = h
takes_wider A B f (Leaf t k) c (x, a, e) = (x, f x t.0 a, e)

pub leads_wider : (A B : ℕ → ℕ → Type 0) → ((x t : ℕ) → A x t → B x t) → (es : List Edge) (w : Word) (s t : ℕ) → SpellsTo A es w s t → SpellsTo B es w s t
leads_wider A B f es [] s t h = h
leads_wider A B f es (c ∷ w) s t (e, m, q, h, r) = (e, m, q, takes_wider A B f e.label c h, leads_wider A B f es w e.to t r)

takes_no_own : (A : ℕ → ℕ → Bool) (l : Label) (c : Cell) → IsNotOwn c → Takes (OrOwn (holds A)) l c → Takes (holds A) l c
takes_no_own A (Bytes low high) c n h = h
takes_no_own A Free c n h = h
takes_no_own A (Leaf t k) c n (x, inl a, e) = (x, a, e)
takes_no_own A (Leaf t k) c n (x, inr q, e) = let l : x < 2 ^ 32 = subst IsNotOwn e n in absurd (omega arith)

-- under the test of equal references what two labels take that meet may meet
joins_cell : (l m : Label) (c d : Cell) → Joins l m → Takes (holds is_itself) l c → Takes (holds is_itself) m d → Follows c d
joins_cell l (Bytes low high) c d j h (x, p, q, e) = subst (Follows c) (sym e) tt
joins_cell l Free c (Byte b) j h k = tt
joins_cell l Free c Uninit j h k = tt
joins_cell l Free c (Ptr r i) j h k = absurd k
joins_cell l (Leaf t zero) c d j h (x, p, e) = subst (Follows c) (sym e) tt
joins_cell l (Leaf t (suc k)) c d j h (y, q, f) =
    let (x, p, e) = subst (λ (z : Label). Takes (holds is_itself) z c) j h in
    let xy : x ≡ y = same_at x t.0 p ∙ sym (same_at y t.0 q) in
    subst (Follows c) (sym f) (e ∙ ap (λ (z : ℕ). Ptr (record { 0 = z }) k) xy)

begins_cell : (p : Cell) (m : Label) (d : Cell) → Begins m → Takes (holds is_itself) m d → Follows p d
begins_cell p (Bytes low high) d j (x, q, r, e) = subst (Follows p) (sym e) tt
begins_cell p Free (Byte b) j k = tt
begins_cell p Free Uninit j k = tt
begins_cell p Free (Ptr r i) j k = absurd k
begins_cell p (Leaf t zero) d j (x, q, e) = subst (Follows p) (sym e) tt
begins_cell p (Leaf t (suc k)) d j h = absurd j

-- the relation that adds Own, as a test
abbrev or_own : (ℕ → ℕ → Bool) → ℕ → ℕ → Bool
or_own A x t = A x t || (x == own t)

own_test : (A : ℕ → ℕ → Bool) (x t : ℕ) → OrOwn (holds A) x t → holds (or_own A) x t
own_test A x t (inl a) = or_left (A x t) (x == own t) a
own_test A x t (inr e) = or_right (A x t) (x == own t) (eq-eqb x (own t) e)

whole_at : (p : ℕ) (w v : Word) (r : RefId) (k : ℕ) → IsUnbroken p ((w ++ Ptr r k ∷ []) ++ v) → suc k < p → (u : Word) × (v ≡ Ptr r (suc k) ∷ u)
whole_at p [] v r k h l = h.0 l
whole_at p (c ∷ w) v r k h l = whole_at p w v r k h.1 l

last_id : (w : Word) (r : RefId) (k : ℕ) → HasNoOwn (w ++ Ptr r k ∷ []) → r.0 < 2 ^ 32
last_id [] r k n = n.0
last_id (c ∷ w) r k n = last_id w r k n.1

no_own_more : (w : Word) (r : RefId) (k : ℕ) → HasNoOwn w → r.0 < 2 ^ 32 → HasNoOwn (w ++ Ptr r k ∷ [])
no_own_more [] r k n l = (l, tt)
no_own_more (c ∷ w) r k n l = (n.0, no_own_more w r k n.1 l)

-- the first byte of a target reference that holds itself
abbrev own_byte : RefId → Cell
own_byte t = Ptr (record { 0 = own t.0 }) 0

-- it is taken as that reference alone
own_label : (A : ℕ → ℕ → Bool) (p : ℕ) → IsOfReferences A → (t : RefId) (l : Label) → CanTake p l → Takes (OrOwn (holds A)) l (own_byte t) → l ≡ Leaf t 0
own_label A p refs t (Bytes low high) can (x, lo, hi, e) = cc
own_label A p refs t Free can k = absurd k
own_label A p refs t (Leaf u k) can (x, inl a, e) =
    let l = refs x u.0 can.0 a in
    let q : own t.0 ≡ x = ap id_at e in
    absurd (omega arith)
own_label A p refs t (Leaf u k) can (x, inr o, e) =
    let q : own t.0 ≡ x = ap id_at e in
    let z : 0 ≡ k = ap place_at e in
    let same : u.0 ≡ t.0 = omega arith in
    let whole : u ≡ t = ap (λ (n : ℕ). record { 0 = n }) same in
    rw (whole, ← z) refl

module _ (auto : Automaton) (h : IsAutomaton auto) where
  path_below : (k s t : ℕ) → s < auto.states → IsPath auto.edges k s t → t < auto.states
  path_below zero s t l p = omega arith
  path_below (suc k) s t l (e, m, q, p) = let (x, y) = h.down e m in path_below k e.to t (omega arith) p

  leads_below : (A : ℕ → ℕ → Type 0) (w : Word) (s t : ℕ) → s < auto.states → SpellsTo A auto.edges w s t → t < auto.states
  leads_below A [] s t l p = omega arith
  leads_below A (c ∷ w) s t l (e, m, q, k, p) = let (x, y) = h.down e m in leads_below A w e.to t (omega arith) p

  -- every state leads to the end
  pub path_down : (k s : ℕ) → s < k → s < auto.states → (j : ℕ) × IsPath auto.edges j s 0
  path_down zero s lt l = absurd (omega arith)
  path_down (suc k) s lt l = elim (cases_lt 0 s) [
    | inl pos ↦ (
        let (e, m, q) = h.left s pos l in
        let (x, y) = h.down e m in
        let (j, p) = path_down k e.to (omega arith) (omega arith) in
        (suc j, (e, m, q, p)))
    | inr ge ↦ (0, omega arith)
  ]

  module _ (B : ℕ → ℕ → Type 0) (full : (t : ℕ) → (x : ℕ) × B x t) where
    -- some cell passes the second label after the first took one
    follow : (l m : Label) (c : Cell) → Joins l m → CanTake auto.pointer m → Takes B l c → (d : Cell) × Takes B m d × Follows c d
    follow l (Bytes low high) c j s k = (Byte low, (low, omega arith, s.0, refl), tt)
    follow l Free c j s k = (Uninit, tt, tt)
    follow l (Leaf t zero) c j s k = let (x, a) = full t.0 in (Ptr (record { 0 = x }) 0, (x, a, refl), tt)
    follow l (Leaf t (suc i)) c j s k = let (x, a, e) = subst (λ (z : Label). Takes B z c) j k in (Ptr (record { 0 = x }) (suc i), (x, a, refl), e)

    first : (m : Label) → Begins m → CanTake auto.pointer m → (d : Cell) × Takes B m d × Follows Uninit d
    first (Bytes low high) j s = (Byte low, (low, omega arith, s.0, refl), tt)
    first Free j s = (Uninit, tt, tt)
    first (Leaf t zero) j s = let (x, a) = full t.0 in (Ptr (record { 0 = x }) 0, (x, a, refl), tt)
    first (Leaf t (suc k)) j s = absurd j

    -- after the cell p each edge of the state passes some cell that may follow
    record Fits (p : Cell) (s : ℕ) : Type 0 where
      each : (f : Edge) → Contains auto.edges f → f.from ≡ s → (d : Cell) × Takes B f.label d × Follows p d

    fits_start : (s : ℕ) → Contains auto.starts s → Fits Uninit s
    fits_start s m = record { each = λ f a q. first f.label (h.begins f a (subst (λ (z : ℕ). Contains auto.starts z) (sym q) m)) (h.takes f a) }

    fits_next : (e : Edge) (c : Cell) → Contains auto.edges e → Takes B e.label c → Fits c e.to
    fits_next e c a k = record { each = λ f b q. follow e.label f.label c (h.joins e f a b (sym q)) (h.takes f b) k }

    fits_after : (w : Word) (p : Cell) (a s : ℕ) → Fits p a → SpellsTo B auto.edges w a s → Fits (last_of p w) s
    fits_after [] p a s g q = subst (λ (z : ℕ). Fits p z) q g
    fits_after (c ∷ w) p a s g (e, m, f, t, r) = fits_after w c e.to s (fits_next e c m t) r

    -- a joined list goes along each path
    along : (k s t : ℕ) (p : Cell) → Fits p s → IsPath auto.edges k s t → (w : Word) × (length w ≡ k) × SpellsTo B auto.edges w s t × JoinedAfter p w
    along zero s t p g q = ([], refl, q, tt)
    along (suc k) s t p g (e, m, f, q) =
        let (d, i, j) = g.each e m f in
        let (w, n, l, jw) = along k e.to t d (fits_next e d m i) q in
        (d ∷ w, omega arith, (e, m, f, i, l), (j, jw))

    -- a joined list that leads somewhere goes on to a word
    goes_on : (w : Word) (a s : ℕ) → Contains auto.starts a → IsJoined w → SpellsTo B auto.edges w a s → (v : Word) × SpellsTo B auto.edges v s 0 × IsJoined (w ++ v)
    goes_on w a s m j q =
        let (k, p) = path_down (suc s) s (omega arith) (leads_below B w a s (h.below a m) q) in
        let (v, n, l, jv) = along k s 0 (last_of Uninit w) (fits_after w Uninit a s (fits_start a m) q) p in
        (v, l, joined_on Uninit w v j jv)

    word_of : (w v : Word) (a s : ℕ) → Contains auto.starts a → SpellsTo B auto.edges w a s → SpellsTo B auto.edges v s 0 → IsJoined (w ++ v) → AutoWord B auto (w ++ v)
    word_of w v a s m l k j = record { joined = j; reaches = record { state = a; among = m; spells = leads_on B auto.edges w v a s 0 l k } }

    -- some joined list leads to each state
    record Comes (s : ℕ) : Type 0 where
      start : ℕ
      among : Contains auto.starts start
      word : Word
      leads : SpellsTo B auto.edges word start s
      joined : IsJoined word

    comes : (k s : ℕ) → auto.states ≤ s + k → s < auto.states → Comes s
    comes zero s le l = absurd (omega arith)
    comes (suc k) s le l = elim (h.entered s l) [
      | inl m ↦ record { start = s; among = m; word = []; leads = refl; joined = tt }
      | inr (e, m, q) ↦ (
          let (x, y) = h.down e m in
          let r = comes k e.from (omega arith) y in
          let (d, i, j) = (fits_after r.word Uninit r.start e.from (fits_start r.start r.among) r.leads).each e m refl in
          record {
            start = r.start;
            among = r.among;
            word = r.word ++ d ∷ [];
            leads = leads_on B auto.edges r.word (d ∷ []) r.start e.from s r.leads (e, m, refl, i, q);
            joined = joined_on Uninit r.word (d ∷ []) r.joined (j, tt);
          })
    ]

    lies_on : (s : ℕ) → s < auto.states → LiesOnWord B auto s
    lies_on s l =
        let c = comes auto.states s (omega arith) l in
        let (v, k, j) = goes_on c.word c.start s c.among c.joined c.leads in
        record { before = c.word; behind = v; start = c.start; among = c.among; leads = c.leads; spells = k; word = word_of c.word v c.start s c.among c.leads k j }

  -- ---- layers

  abbrev any : ℕ → ℕ → Bool
  any x t = true

  -- the way to a state and on to the end has the length of a word
  pub in_layer : (k j s : ℕ) → IsInLayer auto k s → IsPath auto.edges j s 0 → k + j ≡ auto.size
  in_layer k j s i p =
      let full : (t : ℕ) → (x : ℕ) × holds any x t = λ t. (0, refl) in
      let g = fits_start (holds any) full i.start i.among in
      let (w, n, l, jw) = along (holds any) full k i.start s Uninit g i.path in
      let (v, n2, l2, jv) = along (holds any) full j s 0 (last_of Uninit w) (fits_after (holds any) full w Uninit i.start s g l) p in
      let size = h.sized any (w ++ v) (word_of (holds any) full w v i.start s i.among l l2 (joined_on Uninit w v jw jv)) in
      omega (arith, length-append w v)

  pub layer_below : (k s : ℕ) → IsInLayer auto k s → s < auto.states
  layer_below k s i = path_below k i.start s (h.below i.start i.among) i.path

  pub layered : IsLayered auto
  layered = record {
    lies = λ A s l. lies_on (OrOwn (holds A)) (λ t. (own t, inr refl)) s l;
    one = λ s j k p q.
        let (d, r) = path_down (suc s) s (omega arith) (layer_below j s p) in
        let x = in_layer j d s p r in
        let y = in_layer k d s q r in
        omega arith;
    last = λ k s p. (
      λ e. (let x = in_layer k 0 s p e in omega arith),
      λ e. (
          let (d, r) = path_down (suc s) s (omega arith) (layer_below k s p) in
          let x = in_layer k d s p r in
          let z : d ≡ 0 = omega arith in
          subst (λ (n : ℕ). IsPath auto.edges n s 0) z r),
    );
  }

  -- ---- lists of cells

  pub path_of : (A : ℕ → ℕ → Type 0) (w : Word) (s t : ℕ) → SpellsTo A auto.edges w s t → IsPath auto.edges (length w) s t
  path_of A [] s t l = l
  path_of A (c ∷ w) s t (e, m, q, k, l) = (e, m, q, path_of A w e.to t l)

  no_own : (A : ℕ → ℕ → Bool) (w : Word) (s t : ℕ) → HasNoOwn w → SpellsTo (OrOwn (holds A)) auto.edges w s t → SpellsTo (holds A) auto.edges w s t
  no_own A [] s t n l = l
  no_own A (c ∷ w) s t (n, ns) (e, m, q, k, l) = (e, m, q, takes_no_own A e.label c n k, no_own A w e.to t ns l)

  viable_list : (A : ℕ → ℕ → Bool) (w : Word) → IsJoined w → HasNoOwn w → (reached A auto w ≢ []) ↔ IsViable (holds A) auto w
  viable_list A w j n = (
    λ ne. (
        let (s, m) = some_among (reached A auto w) ne in
        let (a, am, l) = reached_to A auto.edges auto.starts w s m in
        let wide = leads_wider (holds A) (OrOwn (holds A)) (λ x t p. inl p) auto.edges w a s l in
        let (v, k, jv) = goes_on (OrOwn (holds A)) (λ t. (own t, inr refl)) w a s am j wide in
        (v, word_of (OrOwn (holds A)) (λ t. (own t, inr refl)) w v a s am wide k jv)),
    λ (v, word) q. (
        let r = word.reaches in
        let (s, l, k) = leads_parts (OrOwn (holds A)) auto.edges w v r.state 0 r.spells in
        let m = to_reached A auto.edges auto.starts w r.state s r.among (no_own A w r.state s n l) in
        Contains-none _ (subst (λ (z : List ℕ). Contains z s) q m)),
  )

  -- where a target reference may begin
  opens_list : (A : ℕ → ℕ → Bool) (w : Word) (t : RefId) → IsOfReferences A → IsJoined w → HasNoOwn w → BeginsReference auto (reached A auto w) t ↔ IsViable (holds A) auto (w ++ Ptr (record { 0 = own t.0 }) 0 ∷ [])
  opens_list A w t refs j n = (
    λ (e, em, ef, el).
        let (a, am, l) = reached_to A auto.edges auto.starts w e.from ef in
        let wide = leads_wider (holds A) (OrOwn (holds A)) (λ x t p. inl p) auto.edges w a e.from l in
        let takes : Takes (OrOwn (holds A)) e.label (own_byte t) = subst (λ (z : Label). Takes (OrOwn (holds A)) z (own_byte t)) (sym el) (own t.0, inr refl, refl) in
        let more : SpellsTo (OrOwn (holds A)) auto.edges (w ++ own_byte t ∷ []) a e.to = leads_on (OrOwn (holds A)) auto.edges w (own_byte t ∷ []) a e.from e.to wide (e, em, refl, takes, refl) in
        let joined : IsJoined (w ++ own_byte t ∷ []) = joined_on Uninit w (own_byte t ∷ []) j (tt, tt) in
        let full : (t : ℕ) → (x : ℕ) × OrOwn (holds A) x t = λ t. (own t, inr refl) in
        let (v, k, jv) = goes_on (OrOwn (holds A)) full (w ++ own_byte t ∷ []) a e.to am joined more in
        (v, word_of (OrOwn (holds A)) full (w ++ own_byte t ∷ []) v a e.to am more k jv),
    λ (v, word).
        let r = word.reaches in
        let (s2, l, k) = leads_parts (OrOwn (holds A)) auto.edges (w ++ own_byte t ∷ []) v r.state 0 r.spells in
        let (s, l1, (e, em, ef, et, eq)) = leads_parts (OrOwn (holds A)) auto.edges w (own_byte t ∷ []) r.state s2 l in
        let m = to_reached A auto.edges auto.starts w r.state s r.among (no_own A w r.state s n l1) in
        (e, em, subst (λ (z : ℕ). Contains (reached A auto w) z) (sym ef) m, own_label A auto.pointer refs t e.label (h.takes e em) et),
  )

  -- ---- under the test of equal references

  chained : (w : Word) (p : Cell) (a s : ℕ) → ((f : Edge) (d : Cell) → Contains auto.edges f → f.from ≡ a → Takes (holds is_itself) f.label d → Follows p d) → SpellsTo (holds is_itself) auto.edges w a s → JoinedAfter p w
  chained [] p a s g q = tt
  chained (c ∷ w) p a s g (e, m, f, t, r) = (g e c m f t, chained w c e.to s (λ f2 d m2 q2 t2. joins_cell e.label f2.label c d (h.joins e f2 m m2 (sym q2)) t t2) r)

  source_joined : (w : Word) (a s : ℕ) → Contains auto.starts a → SpellsTo (holds is_itself) auto.edges w a s → IsJoined w
  source_joined w a s m q = chained w Uninit a s (λ f d fm ff t. begins_cell Uninit f.label d (h.begins f fm (subst (λ (z : ℕ). Contains auto.starts z) (sym ff) m)) t) q

  reached_joined : (w : Word) → reached is_itself auto w ≢ [] → IsJoined w
  reached_joined w ne =
      let (s, m) = some_among (reached is_itself auto w) ne in
      let (a, am, l) = reached_to is_itself auto.edges auto.starts w s m in
      source_joined w a s am l

  source_list : (w : Word) → (reached is_itself auto w ≢ []) ↔ ((v : Word) × AutoWord (holds is_itself) auto (w ++ v))
  source_list w = (
    λ ne. (
        let (s, m) = some_among (reached is_itself auto w) ne in
        let (a, am, l) = reached_to is_itself auto.edges auto.starts w s m in
        let full : (t : ℕ) → (x : ℕ) × holds is_itself x t = λ t. (t, eq-eqb t t refl) in
        let (v, k, jv) = goes_on (holds is_itself) full w a s am (source_joined w a s am l) l in
        (v, word_of (holds is_itself) full w v a s am l k jv)),
    λ (v, word) q. (
        let r = word.reaches in
        let (s, l, k) = leads_parts (holds is_itself) auto.edges w v r.state 0 r.spells in
        let m = to_reached is_itself auto.edges auto.starts w r.state s r.among l in
        Contains-none _ (subst (λ (z : List ℕ). Contains z s) q m)),
  )

  -- ---- references stay whole

  next_byte : (A : ℕ → ℕ → Bool) (w : Word) (r : RefId) (k : ℕ) → suc k < auto.pointer → IsJoined (w ++ Ptr r k ∷ []) → HasNoOwn (w ++ Ptr r k ∷ []) → reached A auto (w ++ Ptr r k ∷ []) ≢ [] → reached A auto ((w ++ Ptr r k ∷ []) ++ Ptr r (suc k) ∷ []) ≢ []
  next_byte A w r k lt j n ne =
      let base = w ++ Ptr r k ∷ [] in
      let (v, word) = (viable_list A base j n).0 ne in
      let x = word.reaches in
      let wide : AutoWord (holds (or_own A)) auto (base ++ v) = record {
        joined = word.joined;
        reaches = record { state = x.state; among = x.among; spells = leads_wider (OrOwn (holds A)) (holds (or_own A)) (own_test A) auto.edges (base ++ v) x.state 0 x.spells };
      } in
      let (u, e) = whole_at auto.pointer w v r k (h.whole (or_own A) (base ++ v) wide) lt in
      let same : base ++ v ≡ (base ++ Ptr r (suc k) ∷ []) ++ u = ap (λ (z : Word). base ++ z) e ∙ sym (append_assoc base (Ptr r (suc k) ∷ []) u) in
      let word2 : AutoWord (OrOwn (holds A)) auto ((base ++ Ptr r (suc k) ∷ []) ++ u) = subst (λ (z : Word). AutoWord (OrOwn (holds A)) auto z) same word in
      (viable_list A (base ++ Ptr r (suc k) ∷ []) (joined_left Uninit (base ++ Ptr r (suc k) ∷ []) u word2.joined) (no_own_more base r (suc k) n (last_id w r k n))).1 (u, word2)

  pub next_is : (A : ℕ → ℕ → Bool) (from : List ℕ) (x : Symbol) (set : List ℕ) → IsStep A auto from x set → set ≡ next A auto.edges from x
  next_is A from x set s = rises_same set (next A auto.edges from x) (increasing_rises set s.rising) (increasing_rises _ (next-IsStrictlyIncreasing A auto.edges from x))
      (λ t a. let (e, ea, ef, ep, eq) = (s.states t).0 a in subst (λ (z : ℕ). Contains (next A auto.edges from x) z) eq (to_next A auto.edges from x e ea ef ep))
      (λ t a. (s.states t).1 (next_to A auto.edges from x t a))

  reached_more : (A : ℕ → ℕ → Bool) (states : List ℕ) (w : Word) (c : Cell) → reached_from A auto.edges states (w ++ c ∷ []) ≡ next A auto.edges (reached_from A auto.edges states w) (symbol_of c)
  reached_more A states [] c = refl
  reached_more A states (d ∷ w) c = reached_more A (next A auto.edges states (symbol_of d)) w c

  pub reads : ReadsWords auto
  reads = record {
    begins = λ A. refl;
    steps = λ A w c set s. next_is A (reached A auto w) (symbol_of c) set s ∙ sym (reached_more A auto.starts w c);
    opens = opens_list;
    states = λ A w s. (λ m. reached_to A auto.edges auto.starts w s m, λ (a, am, l). to_reached A auto.edges auto.starts w a s am l);
    layer = λ A w s m. let (a, am, l) = reached_to A auto.edges auto.starts w s m in record { start = a; among = am; path = path_of (holds A) w a s l };
    viable = viable_list;
    source = source_list;
    joined = reached_joined;
    onward = next_byte;
  }
