-- What is built, case by case.
use Rattle.std.proofs.Common.{◌≡◌, ◌≢◌, ℕ, zero, suc, ◌+◌, ◌<◌, ◌≤◌, inl, inr, Bool, List, [], ◌∷◌, ◌++◌, length, take, drop, refl, sym, ap, ◌∙◌, subst, arith, ◌↔◌, append_assoc, append-nil, length-append, Contains}
use Rattle.std.proofs.Math.Seq.{take-append_seam, drop-append_seam}
use Rattle.std.proofs.lemmas.Bool.{cases_lt}
use Rattle.std.proofs.lemmas.List.Elements.{Contains-append_left, Contains-append_right, Contains-append_cases}
use Rattle.tm_base.specs.Cells.{Word}
use Rattle.tm_base.specs.Transmutes.{holds}
use Rattle.tm_base.proofs.JudgedLemmas.{Contains-none, Contains-one}
use Rattle.tm_auto.specs.declared.build.Building.{Building}
use Rattle.tm_auto.specs.declared.build.Way.{Way}
use Rattle.tm_auto.specs.declared.edge.Edge.{Edge}
use Rattle.tm_auto.specs.declared.edge.Label.{Label}
use Rattle.tm_auto.specs.declared.edge.Label.TheVariants.{Bytes, Free, Leaf}
use Rattle.tm_auto.specs.Builds.{Words, Piece, edges_by, IsLedTo, IsForward, IsSound, IsReady, IsWay, Grows, IsExtended, MakesBy, IsPlacedBy, IsAdded, IsSealed}
use Rattle.tm_auto.specs.Labels.{CanTake, Begins, Joins}
use Rattle.tm_auto.proofs.ContainsLemmas.{here, some_among, among_edges, edges_among, ordered-append, ordered-edges_by, length-edges_by}
use Rattle.tm_auto.proofs.GrowLemmas.{Kept, New, Both, Either, CellWords, grows_way, grows_before, grows_either, grows_same, sealed_forth, sealed_back}

pub begins_joins : (label l : Label) → Begins l → Joins label l
begins_joins label (Bytes low high) h = tt
begins_joins label Free h = tt
begins_joins label (Leaf t zero) h = tt
begins_joins label (Leaf t (suc k)) h = absurd h

pub length_some : (ways : List Way) → ways ≢ [] → 0 < length ways
length_some [] h = absurd (h refl)
length_some (way ∷ ways) h = omega arith

-- the same lists, numbers and places
pub record IsSame (b c : Building) : Type 0 where
  pub pointer : c.pointer ≡ b.pointer
  pub states : c.states ≡ b.states
  pub edges : c.edges.items ≡ b.edges.items
  pub head : c.head.items ≡ b.head.items

-- other words in the place of a piece
abbrev pub in_place : Piece → Words → ℕ → Type 0 → Piece
in_place p Q room line = record { words = Q; target = p.target; opens = p.opens; room = room; line = line }

module _ {b c : Building} where
  pub kept : IsExtended b c → Kept b.edges.items c.edges.items
  kept h e a = subst (λ (xs : List Edge). Contains xs e) (sym h.longer) (Contains-append_left _ h.more _ a)

  pub new : IsExtended b c → New b.states b.edges.items c.edges.items
  new h e a l = elim (Contains-append_cases b.edges.items h.more _ (subst (λ (xs : List Edge). Contains xs e) h.longer a)) [ inl d ↦ d | inr d ↦ (let k = h.fresh e d in absurd (omega arith)) ]

  -- said of other words that are the same
  pub makes_as : (p : Piece) {line : Type 0} {room : ℕ} {Q : Words} → p.room ≤ room → (line → p.line) → ((A : ℕ → ℕ → Bool) (u : Word) → p.words A u ↔ Q A u) → MakesBy p b c → MakesBy (in_place p Q room line) b c
  makes_as p le f same h = record {
    extended = h.extended;
    few = let x = h.few in omega arith;
    ways = h.ways;
    head = h.head;
    some = h.some;
    linear = let x = h.linear in omega arith;
    each = h.each;
    into = h.into;
    covers = h.covers;
    forward = λ l. h.forward (f l);
    grows = λ A. grows_same (holds A) (p.words A) _ b.edges.items c.edges.items h.ways p.target (λ u. (same A u).0) (λ u. (same A u).1) (h.grows A);
  }

  -- the target is still ready to be built in front of
  pub ready_still : {target : ℕ} → IsExtended b c → IsReady b target → IsReady c target
  ready_still h r = record {
    pointer = rw h.pointer r.pointer;
    sound = h.sound;
    below = let x = r.below in let y = h.later in omega arith;
    plain = λ e a f. r.plain e (new h e a (let x = r.below in omega arith)) f;
  }

-- nothing was put
extended_none : {b c : Building} → IsSame b c → IsSound b.pointer b.edges.items b.states → IsExtended b c
extended_none {b} {c} same sound = record {
  pointer = same.pointer;
  later = let x = same.states in omega arith;
  more = [];
  longer = same.edges ∙ sym (append-nil b.edges.items);
  fresh = λ e a. absurd (Contains-none _ a);
  sound = rw (same.pointer, same.edges, same.states) sound;
}

extended_both : {b c d : Building} → IsExtended b c → IsExtended c d → IsExtended b d
extended_both {b} h k = record {
  pointer = k.pointer ∙ h.pointer;
  later = let x = h.later in let y = k.later in omega arith;
  more = h.more ++ k.more;
  longer = k.longer ∙ ap (λ z. z ++ k.more) h.longer ∙ append_assoc b.edges.items h.more k.more;
  fresh = λ e a. elim (Contains-append_cases h.more k.more _ a) [ inl m ↦ h.fresh e m | inr m ↦ (let x = k.fresh e m in let y = h.later in omega arith) ];
  sound = k.sound;
}

-- what is built from the same
pub makes_from : {p : Piece} {a b c : Building} → IsSame a b → MakesBy p b c → MakesBy p a c
makes_from {p} {c = c} same h =
    let x = h.extended in
    record {
      extended = record {
        pointer = x.pointer ∙ same.pointer;
        later = let y = x.later in let z = same.states in omega arith;
        more = x.more;
        longer = x.longer ∙ ap (λ (z : List Edge). z ++ x.more) same.edges;
        fresh = λ e m. let y = x.fresh e m in let z = same.states in omega arith;
        sound = x.sound;
      };
      few = let y = h.few in let z = same.states in omega arith;
      ways = h.ways;
      head = h.head ∙ ap (λ (z : List Way). z ++ h.ways) same.head;
      some = h.some;
      linear = h.linear;
      each = h.each;
      into = λ s lo hi. h.into s (let y = same.states in omega arith) hi;
      covers = h.covers;
      forward = λ l f. h.forward l (rw same.edges f);
      grows = λ A. subst (λ (z : List Edge). Grows (holds A) (p.words A) z c.edges.items h.ways p.target) same.edges (h.grows A);
    }

-- ---- sealing

-- nothing was put: words go on at the target
pub placed_none : (p : Piece) (b c : Building) (state : ℕ) → ((A : ℕ → ℕ → Bool) (w : Word) → p.words A w ↔ (w ≡ [])) → IsSame b c → state ≡ p.target → IsReady b p.target
    → ((e : Edge) → Contains b.edges.items e → e.from ≡ p.target → p.opens e.label) → IsPlacedBy p b c state
unfolding extended_none
placed_none p b c state none same at ready opens = record {
  extended = extended_none same ready.sound;
  few = let x = same.states in omega arith;
  head = same.head;
  linear = omega arith;
  below = let x = same.states in let y = ready.below in omega arith;
  opens = λ e a f. opens e (subst (λ (xs : List Edge). Contains xs e) same.edges a) (f ∙ at);
  into = λ s lo hi. let x = same.states in absurd (omega arith);
  covers = inl (sym at);
  forward = λ l f. rw same.edges f;
  forth = λ A w r. ([], w, refl, (none A []).1 refl, rw (same.edges, at) at r);
  back = λ A u v h r. let e = (none A u).0 h in rw (same.edges, at, e) r;
}

-- the newest state has these ways
sealed_sound : (q : Label → Type 0) (c : Building) (ways : List Way) → IsSound c.pointer c.edges.items c.states → ways ≢ [] → ((way : Way) → Contains ways way → IsWay q c way) → IsSound c.pointer (c.edges.items ++ edges_by c.states ways) (c.states + 1)
sealed_sound q c ways sound some each = record {
  some = omega arith;
  from = λ e a. elim (Contains-append_cases es news _ a) [ inl b ↦ (let h = sound.from e b in omega arith) | inr b ↦ (let h = (among_edges n ways e b).1 in omega arith) ];
  down = λ e a. elim (Contains-append_cases es news _ a) [ inl b ↦ sound.down e b | inr b ↦ (let (m, f) = among_edges n ways e b in let x = (each _ m).below in omega arith) ];
  ordered = ordered-append es news n sound.ordered (λ e a. let h = sound.from e a in omega arith) (ordered-edges_by n ways) (λ f a. let h = (among_edges n ways f a).1 in omega arith);
  left = λ s pos hi. elim (cases_lt s n) [
    | inl lt ↦ (let (e, a, f) = sound.left s pos lt in (e, Contains-append_left _ news _ a, f))
    | inr ge ↦ (let (way, m) = some_among ways some in let w : n ≡ s = omega arith in (record { from = n; to = way.to; label = way.label }, Contains-append_right es _ _ (edges_among n way ways m), w))
  ];
  takes = λ e a. elim (Contains-append_cases es news _ a) [ inl b ↦ sound.takes e b | inr b ↦ (each _ (among_edges n ways e b).0).takes ];
  joins = λ e f a b w. elim (Contains-append_cases es news _ b) [
    | inl fb ↦ elim (Contains-append_cases es news _ a) [
      | inl eb ↦ sound.joins e f eb fb w
      | inr eb ↦ (each _ (among_edges n ways e eb).0).joins f fb w
    ]
    | inr fb ↦ (
        let g = (among_edges n ways f fb).1 in
        elim (Contains-append_cases es news _ a) [
          | inl eb ↦ (let x = sound.down e eb in let y = sound.from e eb in absurd (omega arith))
          | inr eb ↦ (let x = (each _ (among_edges n ways e eb).0).below in absurd (omega arith))
        ])
  ];
}
  where
    n : ℕ
    n = c.states

    es : List Edge
    es = c.edges.items

    news : List Edge
    news = edges_by n ways

sealed_forward : (q : Label → Type 0) (c : Building) (ways : List Way) → IsSound c.pointer c.edges.items c.states → length ways ≤ 1 → IsForward c.edges.items → IsForward (c.edges.items ++ edges_by c.states ways)
sealed_forward q c ways sound one f d e a b w = elim (Contains-append_cases c.edges.items (edges_by c.states ways) _ a) [
  | inl da ↦ elim (Contains-append_cases c.edges.items (edges_by c.states ways) _ b) [
    | inl eb ↦ f d e da eb w
    | inr eb ↦ (let x = sound.from d da in let y = (among_edges c.states ways e eb).1 in absurd (omega arith))
  ]
  | inr da ↦ elim (Contains-append_cases c.edges.items (edges_by c.states ways) _ b) [
    | inl eb ↦ (let x = sound.from e eb in let y = (among_edges c.states ways d da).1 in absurd (omega arith))
    | inr eb ↦ ap (λ (y : Way). y.to) (same ways one _ _ (among_edges c.states ways d da).0 (among_edges c.states ways e eb).0)
  ]
]
  where
    same : (ways : List Way) → length ways ≤ 1 → (x y : Way) → Contains ways x → Contains ways y → x ≡ y
    same [] l x y a b = absurd (Contains-none _ a)
    same (w ∷ []) l x y a b = sym (Contains-one w x a) ∙ Contains-one w y b
    same (w ∷ v ∷ ws) l x y a b = absurd (omega arith)

pub placed_some : {p : Piece} {b c : Building} (next : ℕ) (d : Building) (state : ℕ) → MakesBy p b c → IsSealed (length b.head.items) next c d state → IsPlacedBy p b d state
placed_some {p} {b} {c} next d state h sealed =
    let size : length c.head.items ≡ length b.head.items + length ways = ap length h.head ∙ length-append b.head.items ways in
    let pos = length_some ways h.some in
    let (ed0, sd, ss) = sealed.put (omega arith) in
    let behind : drop (length b.head.items) c.head.items ≡ ways = ap (drop (length b.head.items)) h.head ∙ drop-append_seam b.head.items ways in
    let ed : d.edges.items ≡ c.edges.items ++ news = ed0 ∙ ap (λ (z : List Way). c.edges.items ++ edges_by c.states z) behind in
    let front : d.head.items ≡ b.head.items = sealed.head ∙ ap (take (length b.head.items)) h.head ∙ take-append_seam b.head.items ways in
    let keep : Kept c.edges.items d.edges.items = (λ e a. subst (λ (xs : List Edge). Contains xs e) (sym ed) (Contains-append_left _ news _ a)) in
    let by_way : (way : Way) → Contains ways way → (e : Edge) × Contains d.edges.items e × (e.to ≡ way.to) = (λ way a. (record { from = c.states; to = way.to; label = way.label }, subst (λ (xs : List Edge). Contains xs (record { from = c.states; to = way.to; label = way.label })) (sym ed) (Contains-append_right c.edges.items _ _ (edges_among c.states way ways a)), refl)) in
    let led : (s : ℕ) → IsLedTo ways c.edges.items s → (e : Edge) × Contains d.edges.items e × (e.to ≡ s) = (λ s l. elim l [ inl (way, a, t) ↦ (let (e, m, f) = by_way way a in (e, m, f ∙ t)) | inr (e, a, t) ↦ (e, keep e a, t) ]) in
    let x = h.extended in
    let made = sealed_sound p.opens c ways x.sound h.some h.each in
    record {
      extended = record {
        pointer = sealed.pointer ∙ x.pointer;
        later = let y = x.later in omega arith;
        more = x.more ++ news;
        longer = ed ∙ ap (λ (z : List Edge). z ++ news) x.longer ∙ append_assoc b.edges.items x.more news;
        fresh = λ e a. elim (Contains-append_cases x.more news _ a) [ inl m ↦ x.fresh e m | inr m ↦ (let y = (among_edges c.states ways e m).1 in let z = x.later in omega arith) ];
        sound = rw (sealed.pointer, ed, sd) made;
      };
      few = let y = h.few in omega arith;
      head = front;
      linear = let y = h.linear in let z = length-append x.more news in let w = length-edges_by c.states ways in omega arith;
      below = omega arith;
      opens = λ e a f. elim (Contains-append_cases c.edges.items news _ (subst (λ (xs : List Edge). Contains xs e) ed a)) [
        | inl m ↦ (let y = x.sound.from e m in absurd (omega arith))
        | inr m ↦ (h.each _ (among_edges c.states ways e m).0).opens
      ];
      into = λ s lo hi. elim (cases_lt s c.states) [ inl lt ↦ inr (led s (h.into s lo lt)) | inr ge ↦ inl (omega arith) ];
      covers = inr (led p.target h.covers);
      forward = λ l f. let (f2, one) = h.forward l f in rw ed (sealed_forward p.opens c ways x.sound one f2);
      forth = λ A w r. (h.grows A).forth w (sealed_forth (holds A) c.edges.items c.states ways x.sound (λ way a. (h.each way a).below) w (rw (ed, ss) at r));
      back = λ A u v k r. rw (ed, ss) (sealed_back (holds A) c.edges.items c.states ways (u ++ v) ((h.grows A).back u v k r));
    }
  where
    ways : List Way
    ways = h.ways

    news : List Edge
    news = edges_by c.states ways

-- ---- one way

-- one cell that the label takes
abbrev pub of_label : (Label → Type 0) → Label → ℕ → Piece
of_label opens label target = record { words = CellWords label; target = target; opens = opens; room = 1; line = Unit {0} }

pub makes_way : (q r : Label → Type 0) (label : Label) (target : ℕ) (b c : Building) → CanTake b.pointer label → r label → ((l : Label) → q l → Joins label l) → IsSound b.pointer b.edges.items b.states → target < b.states
    → ((e : Edge) → Contains b.edges.items e → e.from ≡ target → q e.label) → IsAdded label target b c → MakesBy (of_label r label target) b c
makes_way q r label target b c can mine follow sound below opens added = record {
  extended = record {
    pointer = added.pointer;
    later = let x = added.states in omega arith;
    more = [];
    longer = added.edges ∙ sym (append-nil b.edges.items);
    fresh = λ e a. absurd (Contains-none _ a);
    sound = rw (added.pointer, added.edges, added.states) sound;
  };
  few = let x = added.states in omega arith;
  ways = way ∷ [];
  head = added.head;
  some = λ e. cc;
  linear = omega arith;
  each = λ y a. let e = sym (Contains-one way y a) in rw e (record {
    below = let x = added.states in omega arith;
    takes = rw added.pointer can;
    opens = mine;
    joins = λ f m w. follow f.label (opens f (subst (λ (xs : List Edge). Contains xs f) added.edges m) (sym w));
  });
  into = λ s lo hi. let x = added.states in absurd (omega arith);
  covers = inl (way, here [], refl);
  forward = λ l f. (rw added.edges f, omega arith);
  grows = λ A. rw added.edges (grows_way (holds A) b.edges.items label target);
}
  where
    way : Way
    way = record { label = label; to = target }

-- ---- one after another

-- the first in front of the second
abbrev pub in_front : Piece → Piece → Piece
in_front p r = record { words = Both p.words r.words; target = r.target; opens = p.opens; room = p.room + r.room; line = p.line × r.line }

pub makes_before : (p : Piece) {r : Piece} {b d e : Building} → IsPlacedBy r b d p.target → MakesBy p d e → MakesBy (in_front p r) b e
unfolding extended_both
makes_before p {r} {b} {d} {e} h k = record {
  extended = extended_both h.extended k.extended;
  few = let x = h.few in let y = k.few in omega arith;
  ways = k.ways;
  head = k.head ∙ ap (λ (z : List Way). z ++ k.ways) h.head;
  some = k.some;
  linear = let x = h.linear in let y = k.linear in let z = length-append h.extended.more k.extended.more in omega arith;
  each = k.each;
  into = λ s lo hi. elim (cases_lt s d.states) [
    | inl lt ↦ elim (h.into s lo lt) [ inl w ↦ subst (λ (z : ℕ). IsLedTo k.ways e.edges.items z) (sym w) k.covers | inr m ↦ onward s m ]
    | inr ge ↦ k.into s ge hi
  ];
  covers = elim h.covers [ inl w ↦ subst (λ (z : ℕ). IsLedTo k.ways e.edges.items z) (sym w) k.covers | inr m ↦ onward r.target m ];
  forward = λ (l1, l2) f. k.forward l1 (h.forward l2 f);
  grows = λ A. grows_before (holds A) (p.words A) (r.words A) b.edges.items d.edges.items e.edges.items k.ways r.target p.target (h.forth A) (h.back A) (k.grows A);
}
  where
    onward : (s : ℕ) → (f : Edge) × Contains d.edges.items f × (f.to ≡ s) → IsLedTo k.ways e.edges.items s
    onward s (f, a, w) = inr (f, kept k.extended f a, w)

-- ---- one or the other

pub makes_either : (p : Piece) {line : Type 0} {room : ℕ} {Q : Words} {b c d : Building} → IsReady b p.target → MakesBy p b c → MakesBy (in_place p Q room line) c d → MakesBy (in_place p (Either p.words Q) (p.room + room) ⊥) b d
unfolding extended_both
makes_either p {Q = Q} {b = b} {c = c} {d = d} ready h k = record {
  extended = extended_both h.extended k.extended;
  few = let x = h.few in let y = k.few in omega arith;
  ways = h.ways ++ k.ways;
  head = k.head ∙ ap (λ z. z ++ k.ways) h.head ∙ append_assoc b.head.items h.ways k.ways;
  some = λ e. let x = length_some h.ways h.some in let y = ap length e in let z = length-append h.ways k.ways in omega arith;
  linear = let x = h.linear in let y = k.linear in let z = length-append h.extended.more k.extended.more in let w = length-append h.ways k.ways in omega arith;
  each = λ way a. elim (Contains-append_cases h.ways k.ways _ a) [
    | inl m ↦ (
        let x = h.each way m in
        record {
          below = let y = x.below in let z = k.extended.later in omega arith;
          takes = rw k.extended.pointer x.takes;
          opens = x.opens;
          joins = λ e f w. x.joins e (new k.extended e f (let y = x.below in omega arith)) w;
        })
    | inr m ↦ k.each way m
  ];
  into = λ s lo hi. elim (cases_lt s c.states) [ inl lt ↦ left s (h.into s lo lt) | inr ge ↦ right s (k.into s ge hi) ];
  covers = left p.target h.covers;
  forward = λ l f. absurd l;
  grows = λ A. grows_either (holds A) (p.words A) (Q A) b.edges.items c.edges.items d.edges.items b.states c.states h.ways k.ways p.target ready.sound h.extended.sound ready.below (λ way a. (h.each way a).below) (kept h.extended) (new h.extended) (kept k.extended) (new k.extended) (h.grows A) (k.grows A);
}
  where
    left : (s : ℕ) → IsLedTo h.ways c.edges.items s → IsLedTo (h.ways ++ k.ways) d.edges.items s
    left s (inl (way, a, w)) = inl (way, Contains-append_left _ k.ways _ a, w)
    left s (inr (e, a, w)) = inr (e, kept k.extended e a, w)

    right : (s : ℕ) → IsLedTo k.ways d.edges.items s → IsLedTo (h.ways ++ k.ways) d.edges.items s
    right s (inl (way, a, w)) = inl (way, Contains-append_right h.ways _ _ a, w)
    right s (inr m) = inr m
