-- Clap's walk over words that write options finds the uses that the words are.
use Rattle.std.proofs.Common.{◌≡◌, ◌∙◌, ◌⊎◌, inl, inr, ℕ, ◌==◌, Bool, cond, true, false, not, ◌&&◌, ◌||◌, true≢false, Option, Some, None, is_some, option_map, option_and_then, option_to_list, List, [], ◌∷◌, codes, refl, sym, ap, subst, eqb-true, ne_eqb, nat_eq, nat_lt}
use Rattle.std.specs.Prelude.{⊤}
use Rattle.std.specs.List.{fold, list_any}
use Rattle.std.specs.Str.{bytes_eq}
use Rattle.std.proofs.Math.Bool.{or-true}
use Rattle.std.proofs.lemmas.Bool.{or_parts}
use Rattle.std.proofs.lemmas.Slice.Eq.{bytes_eq-Decides}
use Rattle.clap.specs.Faults.{long_fault, settle_fault, step_fault, turn_fault, use_fault, walk_fault}
use Rattle.clap.specs.Kinds.{Kinds, or_else}
use Rattle.clap.specs.Lexer.{long_of, short_of}
use Rattle.clap.specs.Walk.{Held, Row, Rule, Step, Text, Waiting, Walk, after_flag, after_step, arg_by_long, idle, long_met, option, settled, used, walked}
use Rattle.tm_run.specs.Commands.{is_stray}
use Rattle.tm_run.specs.Uses.{Use, before_uses, begins_with, first_use, name_and_value, option_named, uses_of, with_use, with_uses}
use Rattle.tm_run.proofs.options.ClapFacts.{Meets, adds, built_rule, built_rules, built_shape, by-id, by-index, by-long, fails, named-same, rows_for, then}

-- ---- a word that isn't stray begins with no `-`, or with two and something behind them

pub record IsPlain (word : List ℕ) : Type 0 where
  pub not_long : long_of word ≡ None
  pub not_short : short_of word ≡ None
  pub bare : bytes_eq word (45 ∷ 45 ∷ []) ≡ false
  pub one : begins_with (codes "-") word ≡ false
  pub two : begins_with (codes "--") word ≡ false

abbrev pub IsLong : List ℕ → Type 0
IsLong word = (x : ℕ) × (xs : List ℕ) × (word ≡ 45 ∷ 45 ∷ x ∷ xs)

symmetric : (a b : ℕ) → (a == b) ≡ false → (b == a) ≡ false
symmetric a b e = ne_eqb b a (λ same. true≢false (sym (subst (λ x. (a == x) ≡ true) (sym same) (Rattle.std.proofs.Common.eq-eqb a a refl)) ∙ e))

form : (word : List ℕ) → is_stray word ≡ false → IsPlain word ⊎ IsLong word
form [] e = inl (record { not_long = refl; not_short = refl; bare = refl; one = refl; two = refl })
form (a ∷ rest) e = first (a == 45) refl e
  where
    behind : (rest : List ℕ) → is_stray (45 ∷ rest) ≡ false → IsLong (45 ∷ rest)
    behind [] e = absurd (true≢false e)
    behind (b ∷ more) e = second (b == 45) refl e
      where
        third : (more : List ℕ) → is_stray (45 ∷ 45 ∷ more) ≡ false → IsLong (45 ∷ 45 ∷ more)
        third [] e = absurd (true≢false e)
        third (x ∷ xs) e = (x, xs, refl)

        second : (h : Bool) → (b == 45) ≡ h → is_stray (45 ∷ b ∷ more) ≡ false → IsLong (45 ∷ b ∷ more)
        second true same e =
            let is : b ≡ 45 = eqb-true b 45 same in
            subst (λ c. IsLong (45 ∷ c ∷ more)) (sym is) (third more (subst (λ c. is_stray (45 ∷ c ∷ more) ≡ false) is e))
        second false other e = absurd (true≢false (sym stray ∙ e))
          where
            stray : is_stray (45 ∷ b ∷ more) ≡ true
            stray = rw (symmetric b 45 other) (or-true (bytes_eq (45 ∷ b ∷ more) (codes "--")))

    first : (h : Bool) → (a == 45) ≡ h → is_stray (a ∷ rest) ≡ false → IsPlain (a ∷ rest) ⊎ IsLong (a ∷ rest)
    first true same e =
        let is : a ≡ 45 = eqb-true a 45 same in
        inr (subst (λ c. IsLong (c ∷ rest)) (sym is) (behind rest (subst (λ c. is_stray (c ∷ rest) ≡ false) is e)))
    first false other e = inl (record { not_long = rw other refl; not_short = rw other refl; bare = rw other refl; one = rw (symmetric a 45 other) refl; two = rw (symmetric a 45 other) refl })

-- ---- the walk

abbrev held : List Row → Option (Text × List Text) → Held
held rows pending = record { rows = rows; pending = pending; skip = 0 }

abbrev pub at : List Row → Option (Text × List Text) → Waiting → Walk
at rows pending waiting = record { held = held rows pending; waiting = waiting; position = 1; is_trailing = false; stopped = None }

abbrev ended : Walk → List Text → Held
ended w words = (fold (walked built_rules []) w words).held

abbrev settling : Held → Kinds
settling = settle_fault built_rules false

abbrev rows_settled : Held → List Row
rows_settled h = (settled built_rules h).rows

abbrev turn : Walk → Text → Kinds
turn = turn_fault built_shape []

-- what the rest of a parse fails by, and the rows that it finds
abbrev pub faults : Walk → List Text → Kinds
faults w words = or_else (walk_fault built_shape [] w words) (settling (ended w words))

abbrev pub found : Walk → List Text → List Row
found w words = rows_settled (ended w words)

or_else-assoc : (a b c : Kinds) → or_else (or_else a b) c ≡ or_else a (or_else b c)
or_else-assoc [] b c = refl
or_else-assoc (k ∷ a) b c = refl

pub or_else-nil : (a : Kinds) → or_else a [] ≡ a
or_else-nil [] = refl
or_else-nil (k ∷ a) = refl

fails-first : (a b : Kinds) → fails a ≡ true → fails (or_else a b) ≡ true
fails-first [] b e = absurd (true≢false (sym e))
fails-first (k ∷ a) b e = refl

-- one word more
step : (w next : Walk) (word : Text) (words : List Text) (kinds : Kinds) (o : Option (List Use)) → turn w word ≡ kinds → walked built_rules [] w word ≡ next
    → Meets (or_else kinds (faults next words)) (found next words) o → Meets (faults w (word ∷ words)) (found w (word ∷ words)) o
unfolding walk_fault
step w next word words kinds o k n m =
    let after : Meets (or_else kinds (faults (walked built_rules [] w word) words)) (found (walked built_rules [] w word) words) o =
    subst (λ (x : Walk). Meets (or_else kinds (faults x words)) (found x words) o) (sym n) m in
    let here : Meets (or_else (turn w word) (faults (walked built_rules [] w word) words)) (found (walked built_rules [] w word) words) o =
    subst (λ (x : Kinds). Meets (or_else x (faults (walked built_rules [] w word) words)) (found (walked built_rules [] w word) words) o) (sym k) after in
    subst (λ (x : Kinds). Meets x (found (walked built_rules [] w word) words) o) (sym (or_else-assoc (turn w word) _ _)) here

-- a word at which the parse fails
refused : (w : Walk) (word : Text) (words : List Text) (o : Option (List Use)) → fails (turn w word) ≡ true → o ≡ None → Meets (faults w (word ∷ words)) (found w (word ∷ words)) o
unfolding walk_fault
refused w word words o fail none = rw none (by (turn w word) fail)
  where
    by : (kinds : Kinds) → fails kinds ≡ true → fails (or_else (or_else kinds (walk_fault built_shape [] (walked built_rules [] w word) words)) (settling (ended (walked built_rules [] w word) words))) ≡ true
    by [] e = absurd (true≢false (sym e))
    by (k ∷ kinds) e = refl

-- ---- a value that is read and not yet put down

abbrev pub with_pending : Option (Text × Text) → List Use → Option (List Use)
with_pending None uses = Some uses
with_pending (Some p) uses = with_use uses (p.0, Some p.1)

abbrev pub pending_for : Option (Text × Text) → Option (Text × List Text)
pending_for = option_map (λ p. (p.0, p.1 ∷ []))

abbrev pub IsKnown : Option (Text × Text) → Type 0
IsKnown None = ⊤
IsKnown (Some p) = option_named p.0 ≡ Some (p.0, true)

settles : (uses : List Use) (p : Option (Text × Text)) → IsKnown p
    → Meets (settling (held (rows_for uses) (pending_for p))) (rows_settled (held (rows_for uses) (pending_for p))) (with_pending p uses)
settles uses None known = (refl, refl)
settles uses (Some (name, value)) known = rw (by-id name, known) (adds name true (Some value) uses refl)

-- an option that waits for a value has none yet
unsettled : (rows : List Row) (name : Text) → option_named name ≡ Some (name, true) → fails (settling (held rows (Some (name, [])))) ≡ true
unsettled rows name known = rw (by-id name, known) refl

-- ---- the words

pub uses-first : (uses : List Use) (one : Use) (behind : Option (List Use))
    → option_and_then (λ more. option_and_then (with_uses more) behind) (with_use uses one) ≡ option_and_then (with_uses uses) (before_uses one behind)
unfolding with_uses
uses-first uses one None = by (with_use uses one)
  where
    by : (o : Option (List Use)) → option_and_then (λ more. option_and_then (with_uses more) None) o ≡ None
    by None = refl
    by (Some more) = refl
uses-first uses one (Some others) = refl

nothing-then : (o : Option (List Use)) → option_and_then (λ uses. option_and_then (with_uses uses) None) o ≡ None
nothing-then None = refl
nothing-then (Some uses) = refl

-- what an idle parse is to make of words
abbrev IdleMeets : List Text → Type 0
IdleMeets words = (uses : List Use) (p : Option (Text × Text)) → IsKnown p
    → Meets (faults (at (rows_for uses) (pending_for p) idle) words) (found (at (rows_for uses) (pending_for p) idle) words)
    (option_and_then (λ all. option_and_then (with_uses all) (uses_of None words)) (with_pending p uses))

-- and one in which an option waits for its value
abbrev WaitingMeets : List Text → Type 0
WaitingMeets words = (uses : List Use) (name : Text) → option_named name ≡ Some (name, true)
    → Meets (faults (at (rows_for uses) (Some (name, [])) (option name)) words) (found (at (rows_for uses) (Some (name, [])) (option name)) words)
    (option_and_then (with_uses uses) (uses_of (Some name) words))

idle-ends : IdleMeets []
unfolding walk_fault with_uses uses_of
idle-ends uses p known = by (with_pending p uses) (settles uses p known)
  where
    by : (o : Option (List Use)) → Meets (settling (held (rows_for uses) (pending_for p))) (rows_settled (held (rows_for uses) (pending_for p))) o
        → Meets (settling (held (rows_for uses) (pending_for p))) (rows_settled (held (rows_for uses) (pending_for p))) (option_and_then (λ all. Some all) o)
    by None m = m
    by (Some all) m = m

waiting-ends : WaitingMeets []
unfolding walk_fault with_uses uses_of
waiting-ends uses name known = unsettled (rows_for uses) name known

idle-plain : (word : Text) (words : List Text) → IsPlain word → IdleMeets (word ∷ words)
unfolding uses_of
idle-plain word words plain uses p known =
    refused (at (rows_for uses) (pending_for p) idle) word words _ (rw (plain.bare, plain.not_long, plain.not_short, by-index Rattle.tm_run.specs.Uses.options 1) refl) (rw plain.two (nothing-then (with_pending p uses)))

waiting-plain : (word : Text) (words : List Text) → IsPlain word → IdleMeets words → WaitingMeets (word ∷ words)
unfolding uses_of walked
waiting-plain word words plain rest uses name known =
    step (at (rows_for uses) (Some (name, [])) (option name)) (at (rows_for uses) (Some (name, word ∷ [])) idle) word words [] _
    (rw (plain.bare, plain.not_long, plain.not_short) refl)
    (rw (plain.bare, plain.not_long, plain.not_short, by-id name, known, (bytes_eq-Decides name name).1 refl) refl)
    (rw plain.one (subst (λ o. Meets (faults (at (rows_for uses) (Some (name, word ∷ [])) idle) words) (found (at (rows_for uses) (Some (name, word ∷ [])) idle) words) o)
    (uses-first uses (name, Some word) (uses_of None words)) (rest uses (Some (name, word)) known)))

-- what clap makes of `--name` and of `--name=value`
module _ (x : ℕ) (xs : List ℕ) (words : List Text) where
  abbrev word : Text
  word = 45 ∷ 45 ∷ x ∷ xs

  abbrev name : Text
  name = (name_and_value (x ∷ xs)).0

  abbrev value : Option Text
  value = (name_and_value (x ∷ xs)).1

  -- clap's rule of the name
  known-rule : (valued : Bool) → option_named name ≡ Some (name, valued) → arg_by_long built_rules name ≡ Some (built_rule (name, valued))
  known-rule valued known = by-long name ∙ ap (option_map built_rule) known

  -- by whether there is such an option, and what it takes
  by_option : {P : Type 0} → (option_named name ≡ None → P) → ((valued : Bool) → option_named name ≡ Some (name, valued) → P) → P
  by_option {P = P} none some = go (option_named name) refl
    where
      go : (o : Option (Text × Bool)) → option_named name ≡ o → P
      go None e = none e
      go (Some (known, valued)) e = some valued (subst (λ other. option_named name ≡ Some (other, valued)) (named-same name known valued e) e)

  -- what the word does, by clap's rule and the value
  abbrev met : Option Rule → Option Text → Waiting → Held → Held × Step
  met rule given waiting h = after_flag built_rules waiting word (long_met built_rules rule given h).0 (long_met built_rules rule given h).1

  abbrev turn_by : Option Rule → Option Text → Waiting → Held → Kinds
  turn_by rule given waiting h = or_else (long_fault built_rules false rule given h) (step_fault built_shape 1 (met rule given waiting h).0 (met rule given waiting h).1)

  abbrev next_by : Option Rule → Option Text → List Row → Option (Text × List Text) → Waiting → Walk
  next_by rule given rows pending waiting =
      after_step built_rules word (at rows pending waiting) (met rule given waiting (held rows pending)).0 (met rule given waiting (held rows pending)).1

  unknown : (given : Option Text) (waiting : Waiting) (h : Held) → option_named name ≡ None → fails (turn_by (arg_by_long built_rules name) given waiting h) ≡ true
  unknown given waiting h e = rw (by-long name, e) refl

  -- an option that waits for its value gets none
  waiting-long : WaitingMeets (word ∷ words)
  unfolding uses_of
  waiting-long uses waiter waits =
      refused (at (rows_for uses) (Some (waiter, [])) (option waiter)) word words _ (by_option
      (λ e. unknown value (option waiter) h e)
      (λ valued e. subst (λ rule. fails (turn_by rule value (option waiter) h) ≡ true) (sym (known-rule valued e)) (fail valued value))) refl
    where
      h : Held
      h = held (rows_for uses) (Some (waiter, []))

      bad : fails (settling h) ≡ true
      bad = unsettled (rows_for uses) waiter waits

      fail : (valued : Bool) (given : Option Text) → fails (turn_by (Some (built_rule (name, valued))) given (option waiter) h) ≡ true
      fail false (Some given) = refl
      fail false None = fails-first _ _ (fails-first (settling h) _ bad)
      fail true (Some given) = fails-first _ _ (fails-first (settling h) _ bad)
      fail true None = fails-first (settling h) _ bad

  -- behind what is settled
  module _ (rest : IdleMeets words) (behind : WaitingMeets words) (uses : List Use) (p : Option (Text × Text)) (fine : IsKnown p) where
    abbrev h : Held
    h = held (rows_for uses) (pending_for p)

    abbrev those : Option (List Use) → Option (List Use)
    those all = option_and_then (λ earlier. option_and_then (with_uses earlier) all) (with_pending p uses)

    abbrev is_used_by : Bool → Option Text → List Row → List Row
    is_used_by valued given rows = used (built_rule (name, valued)) (option_to_list given) rows

    abbrev use_fails : Bool → Option Text → List Row → Kinds
    use_fails valued given rows = use_fault false (built_rule (name, valued)) (option_to_list given) rows

    goes-on : (valued : Bool) (given : Option Text) → is_some given ≡ valued
        → Meets (or_else (or_else (or_else (settling h) (use_fails valued given (rows_settled h))) []) (faults (at (is_used_by valued given (rows_settled h)) None idle) words))
        (found (at (is_used_by valued given (rows_settled h)) None idle) words) (those (before_uses (name, given) (uses_of None words)))
    goes-on valued given e =
        let after : List Row → Walk = λ rows. at rows None idle in
        let last = faults (after (is_used_by valued given (rows_settled h))) words in
        let both = then (settling h) (rows_settled h) (with_pending p uses) (λ rows. or_else (use_fails valued given rows) (faults (after (is_used_by valued given rows)) words))
        (λ rows. found (after (is_used_by valued given rows)) words) _ (settles uses p fine)
        (λ earlier. then (use_fails valued given (rows_for earlier)) (is_used_by valued given (rows_for earlier)) (with_use earlier (name, given)) (λ rows. faults (after rows) words)
        (λ rows. found (after rows) words) (λ more. option_and_then (with_uses more) (uses_of None words)) (adds name valued given earlier e) (λ more. rest more None tt)) in
        let kinds : or_else (or_else (or_else (settling h) (use_fails valued given (rows_settled h))) []) last ≡ or_else (settling h) (or_else (use_fails valued given (rows_settled h)) last) =
        ap (λ k. or_else k last) (or_else-nil _) ∙ or_else-assoc _ _ last in
        subst (λ k. Meets k (found (after (is_used_by valued given (rows_settled h))) words) (those (before_uses (name, given) (uses_of None words)))) (sym kinds)
        (subst (λ o. Meets (or_else (settling h) (or_else (use_fails valued given (rows_settled h)) last)) (found (after (is_used_by valued given (rows_settled h))) words) o)
        (λ i. option_and_then (λ earlier. uses-first earlier (name, given) (uses_of None words) i) (with_pending p uses)) both)

    by_value : (valued : Bool) (given : Option Text) → option_named name ≡ Some (name, valued)
        → Meets (or_else (turn_by (Some (built_rule (name, valued))) given idle h) (faults (next_by (Some (built_rule (name, valued))) given (rows_for uses) (pending_for p) idle) words))
        (found (next_by (Some (built_rule (name, valued))) given (rows_for uses) (pending_for p) idle) words)
        (those (first_use (Some (name, valued)) (name, given) (uses_of None words) (uses_of (Some name) words)))
    by_value false None known = goes-on false None refl
    by_value true (Some given) known = goes-on true (Some given) refl
    by_value false (Some given) known = rw (nothing-then (with_pending p uses)) refl
    by_value true None known =
        rw (or_else-nil (settling h)) (then (settling h) (rows_settled h) (with_pending p uses) (λ rows. faults (at rows (Some (name, [])) (option name)) words)
        (λ rows. found (at rows (Some (name, [])) (option name)) words) _ (settles uses p fine) (λ earlier. behind earlier name known))

    idle-long : Meets (faults (at (rows_for uses) (pending_for p) idle) (word ∷ words)) (found (at (rows_for uses) (pending_for p) idle) (word ∷ words)) (those (uses_of None (word ∷ words)))
    unfolding uses_of walked
    idle-long = by_option
        (λ e. refused (at (rows_for uses) (pending_for p) idle) word words _ (unknown value idle h e) (rw e (nothing-then (with_pending p uses))))
        (λ valued e. step (at (rows_for uses) (pending_for p) idle) (next_by (arg_by_long built_rules name) value (rows_for uses) (pending_for p) idle) word words
        (turn_by (arg_by_long built_rules name) value idle h) _ refl refl
        (rw (known-rule valued e, e) (by_value valued value e)))

-- so clap finds what the words are, from each place
mutual
  idle-meets : (words : List Text) → list_any is_stray words ≡ false → IdleMeets words
  idle-meets [] e = idle-ends
  idle-meets (word ∷ words) e =
      let (fine, others) = or_parts (is_stray word) _ e in
      elim (form word fine) [
        | inl plain ↦ idle-plain word words plain
        | inr long ↦ subst (λ w. IdleMeets (w ∷ words)) (sym long.2) (λ uses p known. idle-long long.0 long.1 words (idle-meets words others) (waiting-meets words others) uses p known)
      ]

  waiting-meets : (words : List Text) → list_any is_stray words ≡ false → WaitingMeets words
  waiting-meets [] e = waiting-ends
  waiting-meets (word ∷ words) e =
      let (fine, others) = or_parts (is_stray word) _ e in
      elim (form word fine) [
        | inl plain ↦ waiting-plain word words plain (idle-meets words others)
        | inr long ↦ subst (λ w. WaitingMeets (w ∷ words)) (sym long.2) (waiting-long long.0 long.1 words)
      ]

-- and from the start
abbrev pub start : Walk
start = at [] None idle

pub walk-meets : (words : List Text) → list_any is_stray words ≡ false → Meets (faults start words) (found start words) (option_and_then (with_uses []) (uses_of None words))
walk-meets words e = idle-meets words e [] None tt
