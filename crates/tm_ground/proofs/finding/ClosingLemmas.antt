-- The search for the types that occur, which goes through the list of named types that it fills.
use Rattle.std.proofs.Common.{◌≡◌, ℕ, zero, suc, ◌+◌, ◌<◌, ◌≤◌, ◌⊎◌, inl, inr, true, refl, sym, ap, subst, ◌∙◌, ⊎_elim, List, [], ◌∷◌, ◌++◌, length, Contains, get_or, Some, slice_get, arith, Ok, Err, map}
use Rattle.std.proofs.lemmas.Bool.{and_parts}
use Rattle.tm_names.specs.declared.resolved.Resolved.{Resolved}
use Rattle.tm_ground.specs.declared.collector.Collector.{Collector}
use Rattle.tm_ground.specs.declared.stop.Stop.{Stop}
use Rattle.tm_ground.specs.declared.stop.Stop.TheVariants as stop
use Rattle.tm_ground.specs.Closed.{Closed, prim, never, tuple, array, nonzero, wrap, named, ref, closed, region_of}
use Rattle.tm_base.specs.declared.definition.DefId.{DefId}
use Rattle.tm_names.specs.declared.resolved.Life.{Life}
use Rattle.tm_names.specs.declared.resolved.Open.{Open, Named}
use Rattle.tm_ground.proofs.forms.OpenLemmas.{put_in-Named, listed-as_elements}
use Rattle.tm_ground.specs.Collecting.{AreSome, IsSound, IsSeen, Collecting, IsEmpty, IsClosed, Closing}
use Rattle.tm_ground.specs.Limits.{is_named}
use Rattle.tm_ground.specs.Occurs.{parts_in, parts_of, inside_of, fields_of, asked_types, is_small, Occurs, is_asked, is_part}
use Rattle.tm_ground.specs.Sets.{closed_types}
use Rattle.tm_ground.specs.Limits.{is_ref}
use Rattle.tm_ground.proofs.finding.ContainsLemmas.{contains-nothing, contains-at}
use Rattle.tm_ground.proofs.finding.FindingLemmas.{not-both, part-small}
use Rattle.tm_ground.proofs.finding.GrowLemmas.{below-or-last, contains-from_get, within-trans}
use Rattle.tm_ground.proofs.finding.OccursLemmas.{kept-itself, kept-part}
use Rattle.tm_ground.proofs.finding.SeeingLemmas.{seen-kept}

none-some : (limit : ℕ) (P : Closed → Type 0) (found : List Closed) → found ≡ [] → AreSome limit P found
none-some limit P found e = subst (AreSome limit P) (sym e) (record {
  each = λ c h. absurd (contains-nothing c h);
  distinct = record { apart = λ i j d k l. absurd (omega (arith, l)) };
  few = omega arith;
})

pub empty-sound : (resolved : Resolved) (s : Collector) → IsEmpty s → IsSound resolved s
empty-sound resolved s e = record {
  named = none-some _ _ _ e.named;
  refs = λ f. none-some _ _ _ e.refs;
  big = λ t. not-both t e.big;
  many_refs = λ t. not-both t e.many_refs;
}

slice_get-append : (xs ys : List Closed) (k : ℕ) (c d : Closed) → slice_get (xs ++ ys) k ≡ Some c → k < length xs → slice_get xs k ≡ Some c
slice_get-append [] ys k c d h l = absurd (omega (arith, l))
slice_get-append (x ∷ xs) ys zero c d h l = h
slice_get-append (x ∷ xs) ys (suc k) c d h l = slice_get-append xs ys k c d h (omega (arith, l))

some-within : (xs : List Closed) (k : ℕ) (c : Closed) → slice_get xs k ≡ Some c → k < length xs
some-within [] k c h = cc
some-within (x ∷ xs) zero c h = omega arith
some-within (x ∷ xs) (suc k) c h = omega (arith, some-within xs k c h)

-- a part of a type that is no named one is a part that it is written with
part-or-inside : (resolved : Resolved) (whole c : Closed) → Contains (parts_of resolved whole) c → ((is_named whole ≡ true) × Contains (inside_of resolved whole) c) ⊎ Contains (parts_in whole) c
part-or-inside resolved (named d rs args) c h = inl (refl, h)
part-or-inside resolved (prim p) c h = inr h
part-or-inside resolved never c h = inr h
part-or-inside resolved (tuple cs) c h = inr h
part-or-inside resolved (array d n) c h = inr h
part-or-inside resolved (nonzero p) c h = inr h
part-or-inside resolved (wrap w d) c h = inr h
part-or-inside resolved (ref r m d) c h = inr h

inside-part : (resolved : Resolved) (whole c : Closed) → Contains (inside_of resolved whole) c → Contains (parts_of resolved whole) c
inside-part resolved (named d rs args) c h = h
inside-part resolved (prim p) c h = absurd (contains-nothing c h)
inside-part resolved never c h = absurd (contains-nothing c h)
inside-part resolved (tuple cs) c h = absurd (contains-nothing c h)
inside-part resolved (array d n) c h = absurd (contains-nothing c h)
inside-part resolved (nonzero p) c h = absurd (contains-nothing c h)
inside-part resolved (wrap w d) c h = absurd (contains-nothing c h)
inside-part resolved (ref r m d) c h = absurd (contains-nothing c h)

module _ (resolved : Resolved) where
  -- the arguments and the fields of the first named types are looked into
  pub record IsClosing (done : ℕ) (s : Collector) : Type 0 where
    pub sound : IsSound resolved s
    pub asked : (c : Closed) → Contains (asked_types resolved) c → IsSeen c s
    pub inside : (k : ℕ) (c : Closed) → k < done → slice_get (closed_types s.found.named) k ≡ Some c → (d : Closed) → Contains (inside_of resolved c) d → IsSeen d s

  pub closing-begins : (old new : Collector) → IsEmpty old → Collecting (asked_types resolved) old new (Ok tt) → IsClosing 0 new
  closing-begins old new empty a =
      let all = a resolved (empty-sound resolved old empty) (λ c h. is_asked c h) in
      record { sound = all.sound; asked = all.seen; inside = λ k c l e. absurd (omega (arith, l)) }

  pub closing-fails : (old new : Collector) (why : Stop) → IsEmpty old → Collecting (asked_types resolved) old new (Err why) → Closing resolved new (Err why)
  closing-fails old new stop.Full empty a = a resolved (empty-sound resolved old empty) (λ c h. is_asked c h)
  closing-fails old new stop.Memory empty a = tt

  named-small : (s : Collector) → IsSound resolved s → (c : Closed) → Contains (closed_types s.found.named) c → (is_named c ≡ true) × (is_small c ≡ true) × Occurs resolved c
  named-small s sound c h =
      let o = sound.named.each c h in
      let both = and_parts (is_named c) (is_small c) o.of_kind in
      (both.0, both.1, o.occurs)

  pub closing-named : (done : ℕ) (s : Collector) (c : Closed) → IsClosing done s → slice_get (closed_types s.found.named) done ≡ Some c → is_named c ≡ true
  closing-named done s c i at = (named-small s i.sound c (contains-from_get _ done c at)).0

  inside-occur : (s : Collector) → IsSound resolved s → (done : ℕ) (c : Closed) → slice_get (closed_types s.found.named) done ≡ Some c → (d : Closed) → Contains (inside_of resolved c) d → Occurs resolved d
  inside-occur s sound done c at d h =
      let o = named-small s sound c (contains-from_get _ done c at) in
      is_part c d o.2 o.1 (inside-part resolved c d h)

  pub closing-step : (done : ℕ) (s new : Collector) (c : Closed) → IsClosing done s → slice_get (closed_types s.found.named) done ≡ Some c → Collecting (inside_of resolved c) s new (Ok tt) → IsClosing (done + 1) new
  closing-step done s new c i at a =
      let all = a resolved i.sound (inside-occur s i.sound done c at) in
      let within = some-within (closed_types s.found.named) done c at in
      record {
        sound = all.sound;
        asked = λ d h. seen-kept d s new all.keeps (i.asked d h);
        inside = λ k x l e.
            let here = slice_get-append (closed_types s.found.named) all.keeps.extra k x x (subst (λ ys. slice_get ys k ≡ Some x) all.keeps.named e) (omega (arith, l, within)) in
            ⊎_elim
            (λ (below : k < done). (λ d h. seen-kept d s new all.keeps (i.inside k x below here d h)))
            (λ (same : k ≡ done).
            let one : Some x ≡ Some c = sym here ∙ ap (λ j. slice_get (closed_types s.found.named) j) same ∙ at in
            let equal : x ≡ c = cc in
            (λ d h. all.seen d (subst (λ y. Contains (inside_of resolved y) d) equal h)))
            (below-or-last k done l);
      }

  pub closing-stops : (done : ℕ) (s new : Collector) (c : Closed) (why : Stop) → IsClosing done s → slice_get (closed_types s.found.named) done ≡ Some c → Collecting (inside_of resolved c) s new (Err why) → Closing resolved new (Err why)
  closing-stops done s new c stop.Full i at a = a resolved i.sound (inside-occur s i.sound done c at)
  closing-stops done s new c stop.Memory i at a = tt

  -- a part of a type that is seen is seen
  part-seen : (s : Collector) (whole c : Closed) → is_small whole ≡ true → IsSeen whole s → Contains (parts_in whole) c → IsSeen c s
  part-seen s whole c small seen h = record {
    named = λ t. within-trans _ _ _ (kept-part is_named whole c h) (seen.named small);
    refs = λ t e. within-trans _ _ _ (kept-part is_ref whole c h) (seen.refs small e);
    big = λ f. not-both (part-small whole c small h) f;
  }

  pub closing-ends : (done : ℕ) (s : Collector) → IsClosing done s → length (closed_types s.found.named) ≤ done → IsClosed resolved s
  closing-ends done s i over = record { sound = i.sound; seen = all }
    where
      all : (c : Closed) → Occurs resolved c → IsSeen c s
      all c (is_asked _ h) = i.asked c h
      all c (is_part whole _ o small h) =
          let seen = all whole o in
          ⊎_elim
          (λ (t, inside).
          let (k, l, e) = contains-at (closed_types s.found.named) whole ((seen.named small).within whole (kept-itself is_named whole t)) in
          i.inside k whole (omega (arith, l, over)) e c inside)
          (λ part. part-seen s whole c small seen part)
          (part-or-inside resolved whole c h)

-- where a closed type stands
pub closed-get : (ts : List Open) (k : ℕ) (t : Open) → k < length ts → t ≡ get_or ts k t → slice_get (closed_types ts) k ≡ Some (closed t)
closed-get [] k t l e = absurd (omega (arith, l))
closed-get (u ∷ ts) zero t l e = ap (λ (v : Open). Some (closed v)) (sym e)
closed-get (u ∷ ts) (suc k) t l e = closed-get ts k t (omega (arith, l)) e

-- the arguments and the fields of a named type
module _ (resolved : Resolved) (ty : Open) (def : DefId) (lives : List Life) (args : List Open) (is : ty ≡ Named def lives args) where
  pub inside-named : closed_types args ++ fields_of resolved def (map (region_of []) lives) (closed_types args) ≡ inside_of resolved (closed ty)
  inside-named = rw (is, put_in-Named, listed-as_elements) refl
