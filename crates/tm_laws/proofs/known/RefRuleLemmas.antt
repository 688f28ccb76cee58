-- The rule for which one reference isn't taken as another, and the least depth at which that shows.
use Rattle.std.proofs.Common.{◌≡◌, ℕ, zero, suc, ◌<◌, ◌≤◌, ◌⊎◌, inl, inr, refl, List, [], ◌∷◌, length, Option, Some, slice_get, arith}
use Rattle.std.proofs.lemmas.List.Elements.{All-nil, All-cons}
use Rattle.tm_base.specs.declared.answer.LocalRule.{LocalRule}
use Rattle.tm_base.specs.declared.answer.LocalRule.TheVariants.{MoreUnique, TooBig as too_big, Alignment, Interior, Lifetime}
use Rattle.tm_base.specs.declared.answer.RefFault.{RefFault}
use Rattle.tm_base.specs.declared.answer.Rule.{Rule}
use Rattle.tm_base.specs.declared.answer.Rule.TheVariants.{RefPointee}
use Rattle.tm_base.specs.declared.ask.Ask.{Ask}
use Rattle.tm_base.specs.declared.cell.RefId.{RefId}
use Rattle.tm_base.specs.declared.definition.RefRow.{RefRow}
use Rattle.tm_base.specs.Compatible.{Keeps, KeepsAll, IsLocalFault, CompatibleTo, Compatible}
use Rattle.tm_base.specs.Rules.{rule_of, BreaksLocally, BreaksBelow, IsRefRule}
use Rattle.tm_base.specs.Tables.{Tables, OnRows}
use Rattle.tm_laws.proofs.known.CompatibleLemmas.{Keeps-known, KeepsAll-known, CompatibleTo-known, Compatible-from_last, last_depth}
use Rattle.tm_laws.proofs.known.DecideLemmas.{Dec-not}
use Rattle.tm_laws.proofs.known.LeastLemmas.{least_number}

row_at : {X : Type 0} (xs : List X) (k : ℕ) → k < length xs → (x : X) × (slice_get xs k ≡ Some x)
row_at [] k h = absurd (omega arith)
row_at (x ∷ xs) zero h = (x, refl)
row_at (x ∷ xs) (suc k) h = row_at xs k (omega arith)

on_rows : (o p : Option RefRow) (P : RefRow → RefRow → Type 0) (r t : RefRow) → o ≡ Some r → p ≡ Some t → P r t → OnRows o p P
on_rows o p P r t e f h = rw (e, f) h

module _ (tables : Tables) (ask : Ask) where
  -- of the local rules that two references don't all keep, the first that they break
  first_broken : (r t : RefRow) → ¬ KeepsAll tables ask.assume r t → (rule : LocalRule) × IsLocalFault tables ask.assume r t rule
  first_broken r t fails =
      by (Keeps-known tables ask.assume r t MoreUnique) (Keeps-known tables ask.assume r t too_big) (Keeps-known tables ask.assume r t Alignment)
      (Keeps-known tables ask.assume r t Interior) (Keeps-known tables ask.assume r t Lifetime)
    where
      by : Dec (Keeps tables ask.assume r t MoreUnique) → Dec (Keeps tables ask.assume r t too_big) → Dec (Keeps tables ask.assume r t Alignment) → Dec (Keeps tables ask.assume r t Interior) → Dec (Keeps tables ask.assume r t Lifetime) → (rule : LocalRule) × IsLocalFault tables ask.assume r t rule
      by (no f) b c d e = (MoreUnique, record { kept = All-nil (Keeps tables ask.assume r t); broken = f })
      by (yes a) (no f) c d e = (too_big, record { kept = All-cons (Keeps tables ask.assume r t) MoreUnique [] a (All-nil (Keeps tables ask.assume r t)); broken = f })
      by (yes a) (yes b) (no f) d e = (Alignment, record { kept = All-cons (Keeps tables ask.assume r t) MoreUnique (too_big ∷ []) a (All-cons (Keeps tables ask.assume r t) too_big [] b (All-nil (Keeps tables ask.assume r t))); broken = f })
      by (yes a) (yes b) (yes c) (no f) e = (
        Interior,
        record { kept = All-cons (Keeps tables ask.assume r t) MoreUnique (too_big ∷ Alignment ∷ []) a (All-cons (Keeps tables ask.assume r t) too_big (Alignment ∷ []) b (All-cons (Keeps tables ask.assume r t) Alignment [] c (All-nil (Keeps tables ask.assume r t)))); broken = f },
      )
      by (yes a) (yes b) (yes c) (yes d) (no f) = (
        Lifetime,
        record {
          kept = All-cons (Keeps tables ask.assume r t) MoreUnique (too_big ∷ Alignment ∷ Interior ∷ []) a (All-cons (Keeps tables ask.assume r t) too_big (Alignment ∷ Interior ∷ []) b (All-cons (Keeps tables ask.assume r t) Alignment (Interior ∷ []) c (All-cons (Keeps tables ask.assume r t) Interior [] d (All-nil (Keeps tables ask.assume r t)))));
          broken = f;
        },
      )
      by (yes a) (yes b) (yes c) (yes d) (yes e) = absurd (fails (record { more_unique = a; too_big = b; alignment = c; interior = d; lifetime = e }))

  abbrev pub fault_at : RefId → ℕ → ℕ → RefFault
  fault_at r t depth = record { source = r; target = record { 0 = t }; depth = depth }

  -- the rule and the least depth
  abbrev pub RuleFound : RefId → ℕ → Type 0
  RuleFound r t =
      (rule : Rule) × (depth : ℕ) × IsRefRule tables ask rule (fault_at r t depth)
      × ((n : ℕ) → ¬ CompatibleTo tables ask.assume n r.0 t → depth ≤ n)

  abbrev Breaks : RefId → ℕ → Rule → ℕ → RefRow → RefRow → Type 0
  Breaks r t rule depth a b = BreaksLocally tables ask rule (fault_at r t depth) a b ⊎ BreaksBelow tables ask rule (fault_at r t depth) a b

  pub ref_rule : (r : RefId) (t : ℕ) → r.0 < length tables.refs → t < length tables.refs → ¬ Compatible tables ask.assume r.0 t → RuleFound r t
  ref_rule r t below_r below_t fails =
      let (a, at_r) = row_at tables.refs r.0 below_r in
      let (b, at_t) = row_at tables.refs t below_t in
      go a b at_r at_t (KeepsAll-known tables ask.assume a b)
    where
      go : (a b : RefRow) → slice_get tables.refs r.0 ≡ Some a → slice_get tables.refs t ≡ Some b → Dec (KeepsAll tables ask.assume a b) → RuleFound r t
      go a b at_r at_t (no f) =
          let (broken, fault) = first_broken a b f in
          (rule_of broken, 0, on_rows (slice_get tables.refs r.0) (slice_get tables.refs t) (Breaks r t (rule_of broken) 0) a b at_r at_t (inl (broken, fault, refl, refl)), λ n h. omega arith)
      go a b at_r at_t (yes keeps) =
          let (depth, stops, least) =
          least_number (λ n. ¬ CompatibleTo tables ask.assume n r.0 t) (λ n. Dec-not (CompatibleTo-known tables ask.assume n r.0 t)) (last_depth tables ask.assume)
          (λ h. fails (Compatible-from_last tables ask.assume r.0 t h)) in
          (RefPointee, depth, on_rows (slice_get tables.refs r.0) (slice_get tables.refs t) (Breaks r t RefPointee depth) a b at_r at_t (inr (keeps, refl, stops)), least)
