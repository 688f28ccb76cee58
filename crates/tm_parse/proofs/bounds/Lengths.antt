-- The length of an array that is counted within the limits.
use Rattle.std.proofs.Common.{◌≡◌, ◌≤◌, refl, subst, Bool, true, false, if◌then◌else◌, nat_lt, [], ◌∷◌}
use Rattle.std.proofs.lemmas.Bool.{ltb-false}
use Rattle.tm_base.specs.declared.limit.LimitKind.TheVariants as limit
use Rattle.tm_base.specs.Limits.{limit_number}
use Rattle.tm_parse.proofs.bounds.KeptByParts.{Keeps}
use Rattle.tm_parse.specs.Combinators.{one}
use Rattle.tm_parse.specs.Events.{array_length, terminal}
use Rattle.tm_parse.specs.Counting.{Within, Fine, Passes, and_then, count, counted, name_bytes, step}
use Rattle.tm_parse.specs.Limits.{number_of}
use Rattle.tm_parse.specs.Types.{number}
use Rattle.tm_parse.specs.declared.counts.Counts.{Counts}
use Rattle.tm_parse.specs.declared.terminal.Terminal.{Terminal}

short : (t : Terminal) (c d : Counts) → count c (terminal array_length t ∷ []) ≡ Within d → number_of t ≤ limit_number limit.ArrayLength
unfolding step
short t c d h = go (nat_lt (limit_number limit.ArrayLength) (number_of t)) refl h
  where
    go : (b : Bool) → nat_lt (limit_number limit.ArrayLength) (number_of t) ≡ b
        → counted (and_then (if b then Passes limit.ArrayLength else Fine c) (name_bytes c t)) (terminal array_length t ∷ []) (λ after. Within after) ≡ Within d
        → number_of t ≤ limit_number limit.ArrayLength
    go true e h = absurd cc
    go false e h = ltb-false (limit_number limit.ArrayLength) (number_of t) e

pub length_keeps : {Is : Terminal → Type 0} → Keeps Is (λ t. number_of t ≤ limit_number limit.ArrayLength) (one array_length (number ∷ [])).spells
length_keeps = record { kept = λ t e h good. short t good.before good.after (subst (λ e. count good.before e ≡ Within good.after) h.1 good.within) }
