-- Finding a type itself, and then what is written in it.
use Rattle.std.proofs.Common.{◌≡◌, ℕ, ◌+◌, ◌≤◌, Bool, true, false, refl, sym, ap, subst, ◌∙◌, ⊎_elim, List, [], ◌∷◌, append-nil, get_or, Contains, filter, Result, Ok, Err, true≢false, arith}
use Rattle.std.proofs.lemmas.Bool.{le-leb, leb-true}
use Rattle.std.proofs.lemmas.List.Elements.{Contains-append_cases, Contains-get_or}
use Rattle.tm_names.specs.declared.resolved.Open.{Open}
use Rattle.tm_names.specs.declared.resolved.Resolved.{Resolved}
use Rattle.tm_ground.specs.declared.collector.Collector.{Collector}
use Rattle.tm_ground.specs.declared.stop.Stop.{Stop}
use Rattle.tm_ground.specs.declared.stop.Stop.TheVariants as stop
use Rattle.tm_ground.specs.Closed.{Closed, prim, never, tuple, array, nonzero, wrap, named, ref, nodes}
use Rattle.tm_ground.specs.Collecting.{AreSome, AreSmall, IsSound, IsSeen, Sees, Collecting, Finds, FindingIn, Finding}
use Rattle.tm_ground.specs.Growing.{IsWithin, Grows, Adds, Overflows, Adding}
use Rattle.tm_ground.specs.Limits.{is_named, is_ref, is_small_named, OccursAs, AreMoreThan, type_limit, ref_limit}
use Rattle.tm_ground.specs.Occurs.{Occurs, is_part, is_small, node_limit, parts_in}
use Rattle.tm_ground.specs.Sets.{closed_types}
use Rattle.tm_ground.specs.Written.{written_in}
use Rattle.tm_ground.proofs.finding.ContainsLemmas.{contains-nothing, contains-cons, contains-first, contains-filter, filter-contains, contains-flat_map}
use Rattle.tm_ground.proofs.finding.GrowLemmas.{within-self, grows-old}
use Rattle.tm_ground.proofs.finding.SeeingLemmas.{keeps-itself, keeps-then, named-kept}
use Rattle.tm_ground.proofs.sizes.SizeLemmas.{counts, nodes-parts}
use Rattle.tm_ground.proofs.finding.WrittenLemmas.{written_in-parts}

pub only-one : (c x : Closed) → Contains (c ∷ []) x → c ≡ x
only-one c x h = ⊎_elim (λ e. e) (λ i. absurd (contains-nothing x i)) (contains-cons c [] x h)

-- what grows out of types that are so is so
grown : (P : Closed → Type 0) (old xs new : List Closed) → ((c : Closed) → Contains old c → P c) → ((c : Closed) → Contains xs c → P c) → Grows old xs new → (c : Closed) → Contains new c → P c
grown P old xs new a b g c h =
    ⊎_elim (a c) (λ i. b c (g.from.within c i)) (Contains-append_cases old g.extra c (subst (λ ys. Contains ys c) g.grown h))

some-more : (limit : ℕ) (P : Closed → Type 0) (old xs new : List Closed) → AreSome limit P old → ((c : Closed) → Contains xs c → P c) → Adds limit old xs new → AreSome limit P new
some-more limit P old xs new s each a = record {
  each = grown P old xs new s.each each a.grows;
  distinct = a.grows.distinct s.distinct;
  few = a.within s.few;
}

too-many : (limit : ℕ) (P : Closed → Type 0) (old xs : List Closed) → AreSome limit P old → ((c : Closed) → Contains xs c → P c) → Overflows limit old xs → AreMoreThan limit P
too-many limit P old xs s each o = record {
  found = o.found;
  count = o.count;
  distinct = o.grows.distinct s.distinct;
  each = λ k d l. grown P old xs o.found s.each each o.grows (get_or o.found k d) (Contains-get_or o.found k d l);
}

pub not-both : {X : Type 0} {b : Bool} → b ≡ true → b ≡ false → X
not-both t f = absurd (true≢false (sym t ∙ f))

pub ref-not-named : (c : Closed) → is_ref c ≡ true → is_named c ≡ false
ref-not-named (ref r m d) t = refl
ref-not-named (named d rs args) t = cc
ref-not-named _ t = refl

module _ (resolved : Resolved) (old : Collector) (c : Closed) (sound : IsSound resolved old) (o : Occurs resolved c) where
  abbrev with-named : List Open → Collector
  with-named n = record { found = record { named = n; refs = old.found.refs }; big = old.big; many_refs = old.many_refs }

  abbrev with-refs : List Open → Bool → Collector
  with-refs n many = record { found = record { named = old.found.named; refs = n }; big = old.big; many_refs = many }

  one-kind : (kind : Closed → Bool) → kind c ≡ true → (x : Closed) → Contains (c ∷ []) x → OccursAs kind resolved x
  one-kind kind t x h = subst (OccursAs kind resolved) (only-one c x h) (record { of_kind = t; occurs = o })

  pub finds-named : (n : List Open) (r : Result Unit Stop) → is_named c ≡ true → is_ref c ≡ false → is_small c ≡ true → Adding type_limit (closed_types old.found.named) (c ∷ []) (closed_types n) r → FindingIn resolved c old (with-named n) r
  finds-named n (Ok u) t not_ref small a = record {
    sound = record {
      named = some-more type_limit (OccursAs is_small_named resolved) _ (c ∷ []) _ sound.named (one-kind is_small_named (rw (t, small) refl)) a;
      refs = sound.refs;
      big = sound.big;
      many_refs = sound.many_refs;
    };
    keeps = record { extra = a.grows.extra; named = a.grows.grown; refs = λ e. (e, within-self (closed_types old.found.refs)); big = λ e. e };
    named = λ s. a.has.within c (contains-first c []);
    refs = λ s e. not-both s not_ref;
  }
  finds-named n (Err stop.Full) t not_ref small a =
      too-many type_limit (OccursAs is_small_named resolved) _ (c ∷ []) sound.named (one-kind is_small_named (rw (t, small) refl)) a
  finds-named n (Err stop.Memory) t not_ref small a = tt

  pub finds-ref : (n : List Open) → is_ref c ≡ true → old.many_refs ≡ false → Adds ref_limit (closed_types old.found.refs) (c ∷ []) (closed_types n) → Finds resolved c old (with-refs n old.many_refs)
  finds-ref n t few a = record {
    sound = record {
      named = sound.named;
      refs = λ e. some-more ref_limit (OccursAs is_ref resolved) _ (c ∷ []) _ (sound.refs e) (one-kind is_ref t) a;
      big = sound.big;
      many_refs = sound.many_refs;
    };
    keeps = record { extra = []; named = sym (append-nil (closed_types old.found.named)); refs = λ e. (e, grows-old _ (c ∷ []) _ a.grows); big = λ e. e };
    named = λ s. not-both s (ref-not-named c t);
    refs = λ s e. a.has.within c (contains-first c []);
  }

  pub finds-many : (n : List Open) → is_ref c ≡ true → old.many_refs ≡ false → Overflows ref_limit (closed_types old.found.refs) (c ∷ []) → Finds resolved c old (with-refs n true)
  finds-many n t few a = record {
    sound = record {
      named = sound.named;
      refs = λ e. not-both refl e;
      big = sound.big;
      many_refs = λ e. too-many ref_limit (OccursAs is_ref resolved) _ (c ∷ []) (sound.refs few) (one-kind is_ref t) a;
    };
    keeps = record { extra = []; named = sym (append-nil (closed_types old.found.named)); refs = λ e. not-both refl e; big = λ e. e };
    named = λ s. not-both s (ref-not-named c t);
    refs = λ s e. not-both refl e;
  }

  pub finds-no_more : is_ref c ≡ true → old.many_refs ≡ true → Finds resolved c old old
  finds-no_more t many = record {
    sound = sound;
    keeps = keeps-itself old;
    named = λ s. not-both s (ref-not-named c t);
    refs = λ s e. not-both many e;
  }

  pub finds-none : is_named c ≡ false → is_ref c ≡ false → Finds resolved c old old
  finds-none not_named not_ref = record {
    sound = sound;
    keeps = keeps-itself old;
    named = λ s. not-both s not_named;
    refs = λ s e. not-both s not_ref;
  }

-- ---- what is written in a type

counts-at : (cs : List Closed) (d : Closed) → Contains cs d → nodes d ≤ counts cs
counts-at [] d h = absurd (contains-nothing d h)
counts-at (c ∷ cs) d h =
    ⊎_elim
    (λ e. (let same : nodes c ≡ nodes d = ap nodes e in let goal : nodes d ≤ nodes c + counts cs = omega (arith, same) in goal))
    (λ i. (let below = counts-at cs d i in let goal : nodes d ≤ nodes c + counts cs = omega (arith, below) in goal))
    (contains-cons c cs d h)

-- a part has no more nodes than the whole
pub part-small : (c d : Closed) → is_small c ≡ true → Contains (parts_in c) d → is_small d ≡ true
part-small c d small h = le-leb (nodes d) node_limit (omega (arith, leb-true (nodes c) node_limit small, nodes-parts c, counts-at (parts_in c) d h))

pub parts-small : (c : Closed) → is_small c ≡ true → AreSmall (parts_in c)
parts-small c small = record { each = λ d h. part-small c d small h }

pub part-occurs : (resolved : Resolved) (c d : Closed) → Occurs resolved c → is_small c ≡ true → Contains (parts_in c) d → Occurs resolved d
part-occurs resolved (prim p) d o small h = absurd (contains-nothing d h)
part-occurs resolved never d o small h = absurd (contains-nothing d h)
part-occurs resolved (tuple cs) d o small h = is_part (tuple cs) d o small h
part-occurs resolved (array c n) d o small h = is_part (array c n) d o small h
part-occurs resolved (nonzero p) d o small h = absurd (contains-nothing d h)
part-occurs resolved (wrap w c) d o small h = is_part (wrap w c) d o small h
part-occurs resolved (named def rs args) d o small h = absurd (contains-nothing d h)
part-occurs resolved (ref r m c) d o small h = is_part (ref r m c) d o small h

module _ (resolved : Resolved) (c : Closed) (old mid new : Collector) (small : is_small c ≡ true) (a : Finds resolved c old mid) (b : Sees resolved (parts_in c) mid new) where
  -- those of a kind that are written in the type are itself or written in its parts
  within-written : (kind : Closed → Bool) (all : List Closed) → (kind c ≡ true → Contains all c) → ((d : Closed) → Contains (parts_in c) d → IsWithin (filter kind (written_in d)) all) → IsWithin (filter kind (written_in c)) all
  within-written kind all own below = record {
    within = λ x h.
        let at = contains-filter kind (written_in c) x h in
        ⊎_elim
        (λ e. subst (λ y. Contains all y) e (own (ap kind e ∙ at.1)))
        (λ i. (let (d, j, k) = contains-flat_map written_in (parts_in c) x i in (below d j).within x (filter-contains kind (written_in d) x k at.1)))
        (contains-cons c _ x (subst (λ xs. Contains xs x) (written_in-parts c) at.0));
  }

  itself-seen : IsSeen c new
  itself-seen = record {
    named = λ s. within-written is_named (closed_types new.found.named) (λ t. (named-kept mid new b.keeps).within c (a.named t)) (λ d h. (b.seen d h).named (part-small c d small h));
    refs = λ s e.
        let kept = b.keeps.refs e in
        within-written is_ref (closed_types new.found.refs) (λ t. kept.1.within c (a.refs t kept.0)) (λ d h. (b.seen d h).refs (part-small c d small h) e);
    big = λ f. not-both small f;
  }

  pub sees-written : Sees resolved (c ∷ []) old new
  sees-written = record {
    sound = b.sound;
    keeps = keeps-then old mid new a.keeps b.keeps;
    seen = λ x h. subst (λ y. IsSeen y new) (only-one c x h) itself-seen;
  }

pub collecting-written : (c : Closed) (old mid new : Collector) (r : Result Unit Stop) → is_small c ≡ true → Finding c old mid (Ok tt) → Collecting (parts_in c) mid new r → Collecting (c ∷ []) old new r
collecting-written c old mid new (Ok u) small a b = λ resolved sound occur.
    let o = occur c (contains-first c []) in
    let first = a resolved sound o in
    sees-written resolved c old mid new small first (b resolved first.sound (λ d h. part-occurs resolved c d o small h))
collecting-written c old mid new (Err stop.Full) small a b = λ resolved sound occur.
    let o = occur c (contains-first c []) in
    let first = a resolved sound o in
    b resolved first.sound (λ d h. part-occurs resolved c d o small h)
collecting-written c old mid new (Err stop.Memory) small a b = λ resolved sound occur. tt

pub finding-stops : (c : Closed) (old new : Collector) (why : Stop) → Finding c old new (Err why) → Collecting (c ∷ []) old new (Err why)
finding-stops c old new stop.Full a = λ resolved sound occur. a resolved sound (occur c (contains-first c []))
finding-stops c old new stop.Memory a = λ resolved sound occur. tt

-- a type with too many nodes is noted
pub collecting-big : (c : Closed) (old : Collector) → is_small c ≡ false → Collecting (c ∷ []) old (record { found = old.found; big = true; many_refs = old.many_refs }) (Ok tt)
collecting-big c old big = λ resolved sound occur. record {
  sound = record {
    named = sound.named;
    refs = sound.refs;
    big = λ e. record { greatest = c; occurs = occur c (contains-first c []); passes = big };
    many_refs = sound.many_refs;
  };
  keeps = record { extra = []; named = sym (append-nil (closed_types old.found.named)); refs = λ e. (e, within-self (closed_types old.found.refs)); big = λ e. refl };
  seen = λ x h. subst (λ y. IsSeen y (record { found = old.found; big = true; many_refs = old.many_refs })) (only-one c x h) (record { named = λ s. not-both s big; refs = λ s e. not-both s big; big = λ e. refl });
}
