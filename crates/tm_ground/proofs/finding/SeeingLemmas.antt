-- Looking into types one after another.
use Rattle.std.proofs.Common.{◌≡◌, ℕ, ◌+◌, ◌<◌, refl, sym, ap, subst, ◌∙◌, ⊎_elim, List, [], ◌∷◌, ◌++◌, append_assoc, append-nil, length, drop, take, get_or, map, Contains, Result, Ok, Err}
use Rattle.std.specs.List.{flat_map}
use Rattle.std.proofs.lemmas.List.{drop_more, map-append, take-append-drop}
use Rattle.std.proofs.lemmas.List.Elements.{Contains-append_left, Contains-append_right, Contains-append_cases}
use Rattle.tm_names.specs.declared.resolved.Open.{Open}
use Rattle.tm_names.specs.declared.resolved.Resolved.{Resolved}
use Rattle.tm_base.specs.declared.definition.RegionId.{RegionId}
use Rattle.tm_ground.specs.declared.collector.Collector.{Collector}
use Rattle.tm_ground.specs.declared.stop.Stop.{Stop}
use Rattle.tm_ground.specs.declared.stop.Stop.TheVariants as stop
use Rattle.tm_ground.specs.Closed.{Closed, put_in}
use Rattle.tm_ground.specs.Collecting.{IsSeen, Keeps, Sees, Collecting}
use Rattle.tm_ground.specs.Growing.{IsWithin}
use Rattle.tm_ground.specs.Occurs.{all_fields}
use Rattle.tm_ground.specs.Sets.{closed_types}
use Rattle.tm_ground.proofs.finding.ContainsLemmas.{contains-nothing, contains-first}
use Rattle.tm_ground.proofs.finding.GrowLemmas.{within-self, within-left, within-trans}

pub keeps-itself : (s : Collector) → Keeps s s
keeps-itself s = record {
  extra = [];
  named = sym (append-nil (closed_types s.found.named));
  refs = λ e. (e, within-self (closed_types s.found.refs));
  big = λ e. e;
}

pub keeps-then : (old mid new : Collector) → Keeps old mid → Keeps mid new → Keeps old new
keeps-then old mid new a b = record {
  extra = a.extra ++ b.extra;
  named = b.named ∙ ap (λ xs. xs ++ b.extra) a.named ∙ append_assoc (closed_types old.found.named) a.extra b.extra;
  refs = λ e.
      let later = b.refs e in
      let before = a.refs later.0 in
      (before.0, within-trans _ _ _ before.1 later.1);
  big = λ e. b.big (a.big e);
}

pub named-kept : (old new : Collector) → Keeps old new → IsWithin (closed_types old.found.named) (closed_types new.found.named)
named-kept old new k = subst (λ xs. IsWithin (closed_types old.found.named) xs) (sym k.named) (within-left _ k.extra)

pub seen-kept : (c : Closed) (old new : Collector) → Keeps old new → IsSeen c old → IsSeen c new
seen-kept c old new k s = record {
  named = λ small. within-trans _ _ _ (s.named small) (named-kept old new k);
  refs = λ small e. (let kept = k.refs e in within-trans _ _ _ (s.refs small kept.0) kept.1);
  big = λ e. k.big (s.big e);
}

pub sees-then : (resolved : Resolved) (xs ys : List Closed) (old mid new : Collector) → Sees resolved xs old mid → Sees resolved ys mid new → Sees resolved (xs ++ ys) old new
sees-then resolved xs ys old mid new a b = record {
  sound = b.sound;
  keeps = keeps-then old mid new a.keeps b.keeps;
  seen = λ c h. ⊎_elim (λ i. seen-kept c mid new b.keeps (a.seen c i)) (λ i. b.seen c i) (Contains-append_cases xs ys c h);
}

pub collecting-none : (s : Collector) → Collecting [] s s (Ok tt)
collecting-none s = λ resolved sound occur. record { sound = sound; keeps = keeps-itself s; seen = λ c h. absurd (contains-nothing c h) }

pub collecting-then : (xs ys : List Closed) (old mid new : Collector) (r : Result Unit Stop) → Collecting xs old mid (Ok tt) → Collecting ys mid new r → Collecting (xs ++ ys) old new r
collecting-then xs ys old mid new (Ok u) a b = λ resolved sound occur.
    let first = a resolved sound (λ c h. occur c (Contains-append_left xs ys c h)) in
    sees-then resolved xs ys old mid new first (b resolved first.sound (λ c h. occur c (Contains-append_right xs ys c h)))
collecting-then xs ys old mid new (Err stop.Full) a b = λ resolved sound occur.
    let first = a resolved sound (λ c h. occur c (Contains-append_left xs ys c h)) in
    b resolved first.sound (λ c h. occur c (Contains-append_right xs ys c h))
collecting-then xs ys old mid new (Err stop.Memory) a b = λ resolved sound occur. tt

pub collecting-stops : (xs ys : List Closed) (old mid new : Collector) (why : Stop) → Collecting xs old mid (Err why) → Collecting (xs ++ ys) old new (Err why)
collecting-stops xs ys old mid new stop.Full a = λ resolved sound occur. a resolved sound (λ c h. occur c (Contains-append_left xs ys c h))
collecting-stops xs ys old mid new stop.Memory a = λ resolved sound occur. tt

pub collecting-same : (xs ys : List Closed) (old new : Collector) (r : Result Unit Stop) → xs ≡ ys → Collecting xs old new r → Collecting ys old new r
collecting-same xs ys old new r e a = subst (λ zs. Collecting zs old new r) e a

-- looking into the rest from now on is looking into all from the start on
pub record GoesOn (start : Collector) (all : List Closed) (now : Collector) (rest : List Closed) : Type 0 where
  pub on : (new : Collector) (r : Result Unit Stop) → Collecting rest now new r → Collecting all start new r

pub goes-begin : (start : Collector) (all rest : List Closed) → rest ≡ all → GoesOn start all start rest
goes-begin start all rest e = record { on = λ new r a. collecting-same rest all start new r e a }

pub goes-step : (start : Collector) (all : List Closed) (now : Collector) (rest xs others : List Closed) (mid : Collector) → GoesOn start all now rest → rest ≡ xs ++ others → Collecting xs now mid (Ok tt) → GoesOn start all mid others
goes-step start all now rest xs others mid g e a = record {
  on = λ new r b. g.on new r (collecting-same (xs ++ others) rest now new r (sym e) (collecting-then xs others now mid new r a b));
}

pub goes-stop : (start : Collector) (all : List Closed) (now : Collector) (rest xs others : List Closed) (mid : Collector) (why : Stop) → GoesOn start all now rest → rest ≡ xs ++ others → Collecting xs now mid (Err why) → Collecting all start mid (Err why)
goes-stop start all now rest xs others mid why g e a =
    g.on mid (Err why) (collecting-same (xs ++ others) rest now mid (Err why) (sym e) (collecting-stops xs others now mid mid why a))

pub goes-end : (start : Collector) (all : List Closed) (now : Collector) (rest : List Closed) → GoesOn start all now rest → rest ≡ [] → Collecting all start now (Ok tt)
goes-end start all now rest g e = g.on now (Ok tt) (collecting-same [] rest now now (Ok tt) (sym e) (collecting-none now))

-- what the items from a place on give begins with what the item there gives
pub map-drop : {X : Type 0} (f : X → Closed) (xs : List X) (i : ℕ) (x : X) → i < length xs → x ≡ get_or xs i x → map f (drop i xs) ≡ (f x ∷ []) ++ map f (drop (i + 1) xs)
map-drop f xs i x l e = ap (map f) (drop_more xs i x l) ∙ ap (λ y. f y ∷ map f (drop (i + 1) xs)) (sym e)

pub flat_map-drop : {X : Type 0} (f : X → List Closed) (xs : List X) (i : ℕ) (x : X) → i < length xs → x ≡ get_or xs i x → flat_map f (drop i xs) ≡ f x ++ flat_map f (drop (i + 1) xs)
flat_map-drop f xs i x l e = ap (flat_map f) (drop_more xs i x l) ∙ ap (λ y. f y ++ flat_map f (drop (i + 1) xs)) (sym e)

pub all_fields-each : (regions : List RegionId) (args : List Closed) (variants : List (List Open)) → flat_map (λ ts. map (put_in regions args) ts) variants ≡ all_fields regions args variants
all_fields-each regions args [] = refl
all_fields-each regions args (ts ∷ variants) = ap (λ others. map (put_in regions args) ts ++ others) (all_fields-each regions args variants)

pub contains-item : {X : Type 0} (f : X → Closed) (xs : List X) (i : ℕ) (x : X) → i < length xs → x ≡ get_or xs i x → Contains (map f xs) (f x)
contains-item f xs i x l e =
    let there = Contains-append_right (map f (take i xs)) (map f (drop i xs)) (f x) (subst (λ ys. Contains ys (f x)) (sym (map-drop f xs i x l e)) (Contains-append_left (f x ∷ []) _ (f x) (contains-first (f x) []))) in
    subst (λ ys. Contains ys (f x)) (sym (map-append f (take i xs) (drop i xs)) ∙ ap (map f) (take-append-drop i xs)) there
