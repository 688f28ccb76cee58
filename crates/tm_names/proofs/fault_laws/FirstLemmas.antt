-- The earliest of the listed faults is the first fault of the file, and there is one where a fault stands.
use Rattle.std.proofs.Common.{◌≡◌, ℕ, ◌<◌, ◌≤◌, refl, sym, ap, ◌∙◌, arith, ◌⊎◌, if◌then◌else◌, Bool, Option, List}
use Rattle.std.specs.Prelude.{Some, None, ◌==◌}
use Rattle.tm_base.specs.declared.limit.NameWhy.{NameWhy}
use Rattle.tm_base.specs.declared.limit.NameWhy.TheVariants.{Twice, Unknown, Arity, Lifetime, Discriminant, Infinite, BadRepr}
use Rattle.tm_base.specs.declared.profile.Profile.{Profile}
use Rattle.tm_names.proofs.fault_laws.FileLemmas.{listed_stands, standing_listed}
use Rattle.tm_names.proofs.fault_laws.LeastLaws.{NoLater, earliest_is_least, no_earliest}
use Rattle.tm_names.proofs.fault_laws.PartLemmas.{fault}
use Rattle.tm_names.specs.declared.faults.least.NameFault.{NameFault}
use Rattle.tm_names.specs.Closures.{TellsInfinite}
use Rattle.tm_names.specs.Faults.{IsFirstFault}
use Rattle.tm_names.specs.FileFaults.{IsFirst, file_faults}
use Rattle.tm_names.specs.Least.{earliest}
use Rattle.tm_names.specs.Ranks.{rank}
use Rattle.tm_parse.specs.declared.parsed.Parsed.{Parsed}

module _ (profile : Profile) (name : ℕ → List ℕ) (file : Parsed) (infinite : ℕ → Bool) (told : TellsInfinite name file.decls infinite) where
  abbrev listed : List NameFault
  listed = file_faults profile name file infinite

  -- what is found first is the first that stands in the file
  pub first_found : (found : Option NameFault) → found ≡ earliest None listed → IsFirst profile name file found
  first_found None e = record {
    none = λ why place h. no_earliest listed (sym e) (fault why place) (standing_listed profile name file infinite told why place h);
  }
  first_found (Some f) e =
      let least = earliest_is_least listed f (sym e) in
      record {
        fault = listed_stands profile name file infinite told f least.among;
        first = λ other there h. least.least (fault other there) (standing_listed profile name file infinite told other there h);
      }

-- a kind is known by its number
kind_at : ℕ → NameWhy
kind_at n = if n == 0 then Twice else if n == 1 then Unknown else if n == 2 then Arity else if n == 3 then Lifetime
    else if n == 4 then Discriminant else if n == 5 then Infinite else BadRepr

kind_at_rank : (why : NameWhy) → kind_at (rank why) ≡ why
unfolding kind_at
kind_at_rank Twice = refl
kind_at_rank Unknown = refl
kind_at_rank Arity = refl
kind_at_rank Lifetime = refl
kind_at_rank Discriminant = refl
kind_at_rank Infinite = refl
kind_at_rank BadRepr = refl

-- two faults of which neither stands before the other are one
same_fault : (f g : NameFault) → NoLater f g → NoLater g f → (f.why ≡ g.why) × (f.place ≡ g.place)
same_fault f g a b =
    let places : f.place ≡ g.place = numbers f.place g.place (rank f.why) (rank g.why) a b in
    let ranks : rank f.why ≡ rank g.why = kinds f.place g.place (rank f.why) (rank g.why) a b in
    (sym (kind_at_rank f.why) ∙ (ap kind_at ranks ∙ kind_at_rank g.why), places)
  where
    numbers : (p q r s : ℕ) → (p < q) ⊎ ((p ≡ q) × (r ≤ s)) → (q < p) ⊎ ((q ≡ p) × (s ≤ r)) → p ≡ q
    numbers p q r s a b = grind arith

    kinds : (p q r s : ℕ) → (p < q) ⊎ ((p ≡ q) × (r ≤ s)) → (q < p) ⊎ ((q ≡ p) × (s ≤ r)) → r ≡ s
    kinds p q r s a b = grind arith

-- a file has one first fault
pub one_first : (profile : Profile) (name : ℕ → List ℕ) (file : Parsed) (why : NameWhy) (place : ℕ) → IsFirstFault profile name file why place
    → (f : NameFault) → IsFirstFault profile name file f.why f.place → (f.why ≡ why) × (f.place ≡ place)
one_first profile name file why place h f least =
    same_fault f (fault why place) (least.first why place h.fault) (h.first f.why f.place least.fault)
