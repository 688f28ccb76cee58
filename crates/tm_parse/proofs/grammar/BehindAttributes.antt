-- A definition behind its attributes and its visibility: three parts one after another, of which the third
-- makes a value out of what the first stands for.
use Rattle.std.proofs.Common.{◌≡◌, refl, ap, ◌∙◌, List}
use Rattle.tm_parse.specs.Combinators.{paired, followed, mapped}
use Rattle.tm_parse.specs.Parts.{Outcome, Done, Stuck, Passed, Reader}
use Rattle.tm_parse.specs.declared.counts.Counts.{Counts}
use Rattle.tm_parse.specs.declared.terminal.Terminal.{Terminal}

module _ {U A W B : Type 0} (stands : U → A) (second : Reader W) (third : Reader (A → B)) where
  -- the three together, where the first is read to this
  abbrev made : U × (W × (A → B)) → B
  made v = v.1.1 (stands v.0)

  abbrev pub all_three : Outcome U → Outcome B
  all_three o = mapped made (followed (λ n ts. followed third (second n ts)) o)

  abbrev behind_second : A → Outcome W → Outcome B
  behind_second a (Done w after rest) = mapped (λ make. make a) (third after rest)
  behind_second a (Stuck rest) = Stuck rest
  behind_second a (Passed kind rest) = Passed kind rest

  third-last : (u : U) (w : W) (o : Outcome (A → B)) → mapped made (paired u (paired w o)) ≡ mapped (λ make. make (stands u)) o
  third-last u w (Done make after rest) = refl
  third-last u w (Stuck rest) = refl
  third-last u w (Passed kind rest) = refl

  second-next : (u : U) (o : Outcome W) → mapped made (paired u (followed third o)) ≡ behind_second (stands u) o
  second-next u (Done w after rest) = third-last u w (third after rest)
  second-next u (Stuck rest) = refl
  second-next u (Passed kind rest) = refl

  -- the first is read
  first-read : (o : Outcome U) (a : A) (after : Counts) (rest : List Terminal) → mapped stands o ≡ Done a after rest → all_three o ≡ behind_second a (second after rest)
  first-read (Done u n ts) a after rest h = second-next u (second n ts) ∙ same (let x : stands u ≡ a = cc in x) (let x : n ≡ after = cc in x) (let x : ts ≡ rest = cc in x)
    where
      same : stands u ≡ a → n ≡ after → ts ≡ rest → behind_second (stands u) (second n ts) ≡ behind_second a (second after rest)
      same x y z = ap (λ b. behind_second b (second n ts)) x ∙ ap (λ m. behind_second a (second m ts)) y ∙ ap (λ r. behind_second a (second after r)) z
  first-read (Stuck ts) a after rest h = absurd cc
  first-read (Passed kind ts) a after rest h = absurd cc

  -- the first and the second are read
  pub both_read : (o : Outcome U) (a : A) (after later : Counts) (rest left : List Terminal) (w : W)
      → mapped stands o ≡ Done a after rest → second after rest ≡ Done w later left → all_three o ≡ mapped (λ make. make a) (third later left)
  both_read o a after later rest left w h g = first-read o a after rest h ∙ ap (behind_second a) g
