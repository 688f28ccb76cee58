-- The least sets below a number, while they are found one after the other.
use Rattle.std.proofs.Common.{◌≡◌, ℕ, ◌+◌, ◌<◌, ◌≤◌, ◌⊎◌, inl, inr, sym, subst, Bool, true, false, if◌then◌else◌, List, [], ◌∷◌, ◌++◌, arith}
use Rattle.std.specs.Prelude.{AllPairs, Contains}
use Rattle.std.proofs.lemmas.Bool.{cases_lt}
use Rattle.std.proofs.lemmas.List.Elements.{Contains-append_left, Contains-append_right, Contains-append_cases}
use Rattle.tm_base.specs.declared.ask.Ask.{Ask}
use Rattle.tm_base.specs.declared.assume.Assume.{Assume}
use Rattle.tm_base.specs.declared.ground.Ground.{Ground}
use Rattle.tm_base.specs.Asked.{HoldsOf}
use Rattle.tm_base.specs.Assumptions.{Includes}
use Rattle.tm_base.specs.Tables.{Tables}
use Rattle.tm_base.proofs.JudgedLemmas.{Contains-none, Contains-one}
use Rattle.tm_needs.specs.Least.{AreLeast, HoldsUnder, IncludesSome, IsLeast, IsNew, LeastAreUnique}
use Rattle.tm_needs.specs.Numbers.{number_of}
use Rattle.tm_needs.proofs.NumberLemmas.{number-small, number-tells, subset-whole}
use Rattle.tm_needs.proofs.RisingLemmas.{AllPairs-more, Contains-here, rising-unique}

includes-itself : (a : Assume) → Includes a a
includes-itself a = record { alignment = λ h. h; lifetimes = λ h. h; safety = λ h. h; validity = λ h. h }

includes-through : (a b c : Assume) → Includes a b → Includes b c → Includes a c
includes-through a b c more less = record {
  alignment = λ h. more.alignment (less.alignment h);
  lifetimes = λ h. more.lifetimes (less.lifetimes h);
  safety = λ h. more.safety (less.safety h);
  validity = λ h. more.validity (less.validity h);
}

module _ (tables : Tables) (src dst : Ground) where
  -- the least sets with a number below this one; each such set with a yes includes one of them
  pub record Found (n : ℕ) (sets : List Assume) : Type 0 where
    pub least : (a : Assume) → Contains sets a → IsLeast tables src dst a
    pub below : (a : Assume) → Contains sets a → number_of a < n
    pub settled : (a : Assume) → number_of a < n → HoldsUnder tables src dst a → IncludesSome a sets
    pub rising : AllPairs (λ a b. number_of a < number_of b) sets

  pub Found-none : Found 0 []
  Found-none = record {
    least = λ a within. absurd (Contains-none a within);
    below = λ a within. absurd (Contains-none a within);
    settled = λ a below holds. absurd (omega arith);
    rising = λ i j d less below. absurd (omega arith);
  }

  module _ (n : ℕ) (sets : List Assume) (a : Assume) (found : Found n sets) (numbered : number_of a ≡ n) where
    -- the set needs no place: its answer is no, or it includes one found before
    pub Found-kept : (HoldsUnder tables src dst a → IncludesSome a sets) → Found (n + 1) sets
    Found-kept covered = record {
      least = found.least;
      below = λ b within. let less : number_of b < n = found.below b within in omega arith;
      settled = λ b below holds. go b holds (cases_lt (number_of b) n) below;
      rising = found.rising;
    } where
      go : (b : Assume) → HoldsUnder tables src dst b → (number_of b < n) ⊎ (n ≤ number_of b) → number_of b < n + 1 → IncludesSome b sets
      go b holds (inl less) below = found.settled b less holds
      go b holds (inr more) below =
          let same : a ≡ b = number-tells a b (omega arith) in
          subst (λ x. IncludesSome x sets) same (covered (subst (λ x. HoldsUnder tables src dst x) (sym same) holds))

    -- a set with a yes that includes none found before is least
    is_least : (IncludesSome a sets → ⊥) → HoldsUnder tables src dst a → IsLeast tables src dst a
    is_least apart holds = record { holds = holds; minimal = λ b includes less. go b includes less (cases_lt (number_of b) n) } where
      go : (b : Assume) → Includes a b → HoldsUnder tables src dst b → (number_of b < n) ⊎ (n ≤ number_of b) → b ≡ a
      go b includes less (inr more) = subset-whole a b includes (omega arith)
      go b includes less (inl below) =
          let (c, within, smaller) = found.settled b below less in
          absurd (apart (c, within, includes-through a b c includes smaller))

    pub Found-added : (IncludesSome a sets → ⊥) → HoldsUnder tables src dst a → Found (n + 1) (sets ++ a ∷ [])
    Found-added apart holds = record {
      least = λ b within. least_of b (Contains-append_cases sets (a ∷ []) b within);
      below = λ b within. below_of b (Contains-append_cases sets (a ∷ []) b within);
      settled = λ b below less. go b less (cases_lt (number_of b) n) below;
      rising = AllPairs-more (λ b c. number_of b < number_of c) sets a found.rising (λ b within. let less : number_of b < n = found.below b within in omega arith);
    } where
      least_of : (b : Assume) → Contains sets b ⊎ Contains (a ∷ []) b → IsLeast tables src dst b
      least_of b (inl within) = found.least b within
      least_of b (inr last) = subst (λ x. IsLeast tables src dst x) (Contains-one a b last) (is_least apart holds)

      below_of : (b : Assume) → Contains sets b ⊎ Contains (a ∷ []) b → number_of b < n + 1
      below_of b (inl within) = let less : number_of b < n = found.below b within in omega arith
      below_of b (inr last) = subst (λ x. number_of x < n + 1) (Contains-one a b last) (omega arith)

      go : (b : Assume) → HoldsUnder tables src dst b → (number_of b < n) ⊎ (n ≤ number_of b) → number_of b < n + 1 → IncludesSome b (sets ++ a ∷ [])
      go b less (inl before) below =
          let (c, within, smaller) = found.settled b before less in
          (c, Contains-append_left sets (a ∷ []) c within, smaller)
      go b less (inr more) below =
          let same : a ≡ b = number-tells a b (omega arith) in
          (a, Contains-append_right sets (a ∷ []) a (Contains-here a []), subst (λ x. Includes x a) same (includes-itself a))

  -- what a question says that is still the one between the two types, over the same world
  module _ (now : Tables) (ask : Ask) (world : now ≡ tables) (source : ask.src ≡ src) (target : ask.dst ≡ dst) where
    pub holds-here : HoldsOf now ask → HoldsUnder tables src dst ask.assume
    holds-here h =
        subst (λ t. HoldsUnder t src dst ask.assume) world (subst (λ y. HoldsUnder now src y ask.assume) target (subst (λ x. HoldsUnder now x ask.dst ask.assume) source h))

    pub holds-there : HoldsUnder tables src dst ask.assume → HoldsOf now ask
    holds-there h =
        subst (λ x. HoldsUnder now x ask.dst ask.assume) (sym source) (subst (λ y. HoldsUnder now src y ask.assume) (sym target) (subst (λ t. HoldsUnder t src dst ask.assume) (sym world) h))

  -- the next set joins those found, where it is new
  pub Found-next : (n : ℕ) (sets : List Assume) (now : Tables) (ask : Ask) → now ≡ tables → ask.src ≡ src → ask.dst ≡ dst → Found n sets → number_of ask.assume ≡ n
      → (new : Bool) → IsNew now ask sets new → Found (n + 1) (if new then sets ++ ask.assume ∷ [] else sets)
  Found-next n sets now ask world source target found numbered true (holds, apart) =
      Found-added n sets ask.assume found numbered apart (holds-here now ask world source target holds)
  Found-next n sets now ask world source target found numbered false covered =
      Found-kept n sets ask.assume found numbered (λ h. covered (holds-there now ask world source target h))

  pub Found-all : (sets : List Assume) → Found 16 sets → AreLeast tables src dst sets
  Found-all sets found = record { exact = λ a. (found.least a, all a); rising = found.rising } where
    all : (a : Assume) → IsLeast tables src dst a → Contains sets a
    all a least =
        let (b, within, smaller) = found.settled a (number-small a) least.holds in
        subst (λ x. Contains sets x) (least.minimal b smaller (found.least b within).holds) within

pub least-unique : LeastAreUnique
least-unique tables src dst sets others these those =
    rising-unique number_of sets others these.rising those.rising
    (λ a within. (those.exact a).1 ((these.exact a).0 within))
    (λ a within. (these.exact a).1 ((those.exact a).0 within))
