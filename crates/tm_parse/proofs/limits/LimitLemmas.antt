-- Limits as events are counted in a record are those that events pass.
use Rattle.std.proofs.Common.{length, append-nil, append_assoc, ◌≡◌, ◌≤◌, refl, sym, ap, ◌∙◌, subst, List, [], ◌∷◌, ◌++◌, arith}
use Rattle.tm_parse.specs.Events.{Event}
use Rattle.tm_parse.specs.Counting.{Step, Fine, Passes, within, step, Within, Beyond, counted, count, none_yet}
use Rattle.tm_parse.specs.Limits.{Exceeds, IsWithin, IsFirstPassed}
use Rattle.tm_base.specs.declared.limit.LimitKind.{LimitKind}
use Rattle.tm_base.specs.declared.limit.LimitKind.TheVariants as limit
use Rattle.tm_parse.specs.declared.counts.Counts.{Counts}
use Rattle.tm_parse.proofs.limits.LimitNumbers.{AreCounted, none-counted}
use Rattle.tm_parse.proofs.limits.LimitSteps.{Stepped, fine, passes, stepped}

-- no event is too much for a limit, behind a front and those before it
abbrev WithinBehind : List Event → List Event → Type 0
WithinBehind front events = (f : List Event) (x : Event) (back : List Event) → events ≡ f ++ (x ∷ back) → (kind : LimitKind) → ¬ Exceeds kind (front ++ f) x

within-first : (front events : List Event) (x : Event) → ((kind : LimitKind) → ¬ Exceeds kind front x) → WithinBehind (front ++ x ∷ []) events → WithinBehind front (x ∷ events)
within-first front events x now later [] y back e kind = let same : x ≡ y = cc in
    subst (λ (f : List Event). ¬ Exceeds kind f y) (sym (append-nil front)) (subst (λ (z : Event). ¬ Exceeds kind front z) same (now kind))
within-first front events x now later (z ∷ f) y back e kind =
    let same : x ≡ z = cc in let rest : events ≡ f ++ (y ∷ back) = cc in
    subst (λ (w : List Event). ¬ Exceeds kind w y) (append_assoc front (x ∷ []) f ∙ ap (λ w. front ++ (w ∷ f)) same) (later f y back rest kind)

within-later : (front events : List Event) (x : Event) → WithinBehind front (x ∷ events) → WithinBehind (front ++ x ∷ []) events
within-later front events x h f y back e kind =
    subst (λ (w : List Event). ¬ Exceeds kind w y) (sym (append_assoc front (x ∷ []) f)) (h (x ∷ f) y back (ap (λ w. x ∷ w) e) kind)

within-now : (front events : List Event) (x : Event) → WithinBehind front (x ∷ events) → (kind : LimitKind) → ¬ Exceeds kind front x
within-now front events x h kind = subst (λ (w : List Event). ¬ Exceeds kind w x) (append-nil front) (h [] x events refl kind)

-- what is left where a limit is passed is no more than the events
beyond-shorter : (c : Counts) (kind : LimitKind) (e g : List Event) → count c e ≡ Beyond kind g → length g ≤ length e
beyond-shorter c kind [] g h = absurd cc
beyond-shorter c kind (x ∷ e) g h = go (step c x) h (λ d. beyond-shorter d kind e g)
  where
    go : (s : Step) → counted s (x ∷ e) (λ d. count d e) ≡ Beyond kind g → ((d : Counts) → count d e ≡ Beyond kind g → length g ≤ length e) → length g ≤ length (x ∷ e)
    go (Fine d) h again = omega (arith, again d h)
    go (Passes other) h again = let a : x ∷ e ≡ g = cc in subst (λ w. length w ≤ length (x ∷ e)) a (omega arith)

module _ (front : List Event) (c : Counts) (are : AreCounted front c) where
  pub counted-within : (events : List Event) (d : Counts) → count c events ≡ Within d → WithinBehind front events × AreCounted (front ++ events) d
  counted-within = go front c are
    where
      go : (front : List Event) (c : Counts) → AreCounted front c → (events : List Event) (d : Counts) → count c events ≡ Within d → WithinBehind front events × AreCounted (front ++ events) d
      go front c are [] d h = (λ f x back e. absurd (empty f x back e), let same : c ≡ d = cc in subst (λ (w : List Event). AreCounted w d) (sym (append-nil front)) (subst (AreCounted front) same are))
        where
          empty : (f : List Event) (x : Event) (back : List Event) → [] ≡ f ++ (x ∷ back) → ⊥
          empty [] x back e = cc
          empty (y ∷ f) x back e = cc
      go front c are (x ∷ events) d h = case (stepped front c are x) (λ b more. go (front ++ x ∷ []) b more events d)
        where
          case : Stepped front c are x → ((b : Counts) → AreCounted (front ++ x ∷ []) b → count b events ≡ Within d → WithinBehind (front ++ x ∷ []) events × AreCounted ((front ++ x ∷ []) ++ events) d)
              → WithinBehind front (x ∷ events) × AreCounted (front ++ (x ∷ events)) d
          case (fine b e more none) again =
              let (later, all) = again b more (sym (ap (λ s. counted s (x ∷ events) (λ after. count after events)) e) ∙ h) in
              (within-first front events x none later, subst (λ (w : List Event). AreCounted w d) (append_assoc front (x ∷ []) events) all)
          case (passes kind e a b o) again = absurd (let g = sym (ap (λ s. counted s (x ∷ events) (λ after. count after events)) e) ∙ h in cc)

  pub within-counted : (events : List Event) → WithinBehind front events → (d : Counts) × (count c events ≡ Within d)
  within-counted = go front c are
    where
      go : (front : List Event) (c : Counts) → AreCounted front c → (events : List Event) → WithinBehind front events → (d : Counts) × (count c events ≡ Within d)
      go front c are [] h = (c, refl)
      go front c are (x ∷ events) h = case (stepped front c are x) (λ b more. go (front ++ x ∷ []) b more events (within-later front events x h))
        where
          case : Stepped front c are x → ((b : Counts) → AreCounted (front ++ x ∷ []) b → (d : Counts) × (count b events ≡ Within d)) → (d : Counts) × (count c (x ∷ events) ≡ Within d)
          case (fine b e more none) again = let (d, k) = again b more in (d, ap (λ s. counted s (x ∷ events) (λ after. count after events)) e ∙ k)
          case (passes kind e a b o) again = absurd (within-now front events x h kind a)

  -- a limit is passed at the first of some events exactly where it is too much for the limit
  abbrev IsPassed : LimitKind → Event → Type 0
  IsPassed kind x = Exceeds kind front x × (kind ≡ limit.TypeNodes → ¬ Exceeds limit.Nesting front x)

  pub counted-passed : (kind : LimitKind) (x : Event) (events : List Event) → count c (x ∷ events) ≡ Beyond kind (x ∷ events) → IsPassed kind x
  counted-passed kind x events h = case (stepped front c are x)
    where
      case : Stepped front c are x → IsPassed kind x
      case (fine b e more none) =
          let k = beyond-shorter b kind events (x ∷ events) (sym (ap (λ s. counted s (x ∷ events) (λ after. count after events)) e) ∙ h) in absurd (omega (arith, k))
      case (passes other e a b o) =
          let same : other ≡ kind = (let g = sym (ap (λ s. counted s (x ∷ events) (λ after. count after events)) e) ∙ h in cc) in
          subst (λ (k : LimitKind). IsPassed k x) same (a, b)

  pub passed-counted : (kind : LimitKind) (x : Event) (events : List Event) → IsPassed kind x → count c (x ∷ events) ≡ Beyond kind (x ∷ events)
  passed-counted kind x events h = case (stepped front c are x)
    where
      case : Stepped front c are x → count c (x ∷ events) ≡ Beyond kind (x ∷ events)
      case (fine b e more none) = absurd (none kind h.0)
      case (passes other e a b o) = ap (λ s. counted s (x ∷ events) (λ after. count after events)) e ∙ ap (λ k. Beyond k (x ∷ events)) (o kind h.0 h.1)

-- ---- of a file

pub is-within : (events : List Event) (d : Counts) → count none_yet events ≡ Within d → IsWithin events × AreCounted events d
is-within events d h = counted-within [] none_yet none-counted events d h

pub is-counted : (events : List Event) → IsWithin events → (d : Counts) × (count none_yet events ≡ Within d)
is-counted events h = within-counted [] none_yet none-counted events h

pub is-passed : (kind : LimitKind) (front back : List Event) (d : Counts) → count none_yet front ≡ Within d → count d back ≡ Beyond kind back → (x : Event) × (behind : List Event) × (back ≡ x ∷ behind) × IsFirstPassed kind front x
is-passed kind front [] d h g = absurd cc
is-passed kind front (x ∷ back) d h g =
    let (within, are) = is-within front d h in
    let (exceeds, nests) = counted-passed front d are kind x back g in
    (x, back, refl, record { within = within; exceeds = exceeds; nests = nests })

pub passes-counted : (kind : LimitKind) (front back : List Event) (x : Event) → IsFirstPassed kind front x → (d : Counts) × (count none_yet front ≡ Within d) × (count d (x ∷ back) ≡ Beyond kind (x ∷ back))
passes-counted kind front back x p =
    let (d, h) = is-counted front p.within in
    (d, h, passed-counted front d (is-within front d h).1 kind x back (p.exceeds, p.nests))
