-- What a run keeps, by what it did.
use Rattle.std.proofs.Common.{◌≡◌, ◌∙◌, ℕ, ◌+◌, ◌<◌, ◌≤◌, refl, sym, ap, subst, true, false, is_some, not, Option, Some, None, List, [], length, drop, replicate, arith, length-drop}
use Rattle.std.proofs.lemmas.List.{length-replicate, nil_from_length}
use Rattle.tm_base.specs.Limits.{limit_number}
use Rattle.tm_io.specs.Told.{TakesAll, TakesPast}
use Rattle.tm_report.specs.FaultLines.{line_of}
use Rattle.tm_report.specs.declared.fault.FileFault.TheVariants.{Passed}
use Rattle.tm_run.specs.Inputs.{input_limit}
use Rattle.tm_run.specs.Outcomes.{IsInputIfTold, IsInputOf, usage_line}
use Rattle.tm_run.specs.Runs.{Answered, DecidesInput, Did, FailedToRead, GetsInput, LackedMemory, Misused, Overflowed, misused, failed_to_read, lacked_memory, overflowed, answered}
use Rattle.tm_run.specs.Words.{is_read}
use Rattle.tm_run.specs.declared.words.options.Options.{Options}
use Rattle.tm_run.specs.declared.status.Status.{Status}
use Rattle.tm_run.specs.declared.status.Status.TheVariants.{Usage, Limit, ReadFault, Memory}
use Rattle.tm_run.proofs.runs.DoneLemmas.{read-so}
use Rattle.tm_run.proofs.runs.InputLemmas.{long-decides}
use Rattle.tm_run.proofs.runs.KeepLemmas.{Keeps, finished, nothing_written}

-- a list that is longer than a number says
longer : (n : ℕ) → n < length (replicate {A = ℕ} (n + 1) 0)
longer n = let e = length-replicate {A = ℕ} (n + 1) 0 in omega (arith, e)

drop-short : (n : ℕ) (xs : List ℕ) → length xs ≤ n → drop n xs ≡ []
drop-short n xs h = nil_from_length (drop n xs) (omega (arith, length-drop n xs))

none-some : (options : Options) → None ≡ Some options → ⊥
none-some options e = cc

some-same : (one other : Options) → Some one ≡ Some other → one ≡ other
some-same one other e = cc

-- an input that is too long: the input that is told, or else some such input
module _ (left' : Option (List ℕ)) (most : ℕ) where
  abbrev some_input : (left : Option (List ℕ)) → TakesPast left left' most → List ℕ
  some_input (Some input) past = input
  some_input None past = replicate (most + 1) 0

  some-is : (left : Option (List ℕ)) (past : TakesPast left left' most) (told : List ℕ) → left ≡ Some told → some_input left past ≡ told
  some-is (Some input) past told e = cc
  some-is None past told e = cc

  some-long : (left : Option (List ℕ)) (past : TakesPast left left' most) → most < length (some_input left past)
  some-long (Some input) past = past.0
  some-long None past = longer most

-- the input that a run got is the one that is asked for
module _ (most : ℕ) (left left' : Option (List ℕ)) (input : List ℕ) where
  got-all : (told : List ℕ) → left ≡ Some told → TakesAll left left' input → (input ≡ told) × (left' ≡ Some [])
  got-all told e takes = subst (λ (l : Option (List ℕ)). TakesAll l left' input) e takes

  got-told : (number : Option ℕ) → GetsInput most number left left' input → IsInputIfTold number left input
  got-told (Some number) (same, left_is) = same
  got-told None (takes, short) = λ told e. (got-all told e takes).0

  got-same : (number : Option ℕ) → GetsInput most number left left' input → (other : List ℕ) → IsInputOf number left other → input ≡ other
  got-same (Some number) (same, left_is) other is = same ∙ sym is
  got-same None (takes, short) other is = (got-all other is takes).0

  got-unread : (number : Option ℕ) → GetsInput most number left left' input → not (is_some number) ≡ false → left' ≡ left
  got-unread (Some number) (same, left_is) e = left_is
  got-unread None gets e = cc

  got-taken : (number : Option ℕ) → GetsInput most number left left' input → not (is_some number) ≡ true → (told : List ℕ) → left ≡ Some told → left' ≡ Some (drop (most + 1) told)
  got-taken (Some number) gets e told is = cc
  got-taken None (takes, short) e told is =
      let (same, none) = got-all told is takes in
      let few : length told ≤ most + 1 = subst (λ (x : List ℕ). length x ≤ most + 1) same (omega (arith, short)) in
      none ∙ ap Some (sym (drop-short (most + 1) told few))

module _ (left left' : Option (List ℕ)) (reads reads' : ℕ) (written written' : Option (List ℕ)) (writes writes' : ℕ) (result : Status) where
  abbrev Kept : Option Options → Status → Type 0
  Kept asked = Keeps asked left left' reads reads' written written' writes writes'

  misused-keeps : (asked : Option Options) → Misused asked left left' reads reads' written written' writes writes' result → Kept asked result
  misused-keeps asked m = subst (λ (a : Option Options). Kept a result) (sym m.out_of_form) (finished None left left' reads reads' written written' writes writes' Usage usage_line result
      (record {
        settled = tt;
        usage = (λ e. refl, λ h. refl);
        input = [];
        input_is = tt;
        outcome = (refl, refl);
        decides = λ options input in_form is. absurd (none-some options in_form);
        unrisen = m.reads_are;
        unread = λ h. m.left_is;
        taken = λ input e told. cc;
      }) m.finishes)

  failed-keeps : (asked : Option Options) → FailedToRead asked left left' reads reads' written written' writes writes' result → Kept asked result
  failed-keeps asked f = subst (Kept asked) (sym f.is) (nothing_written asked left left' reads reads' written written' writes writes' ReadFault
      (record {
        unsettled = λ s. s;
        no_write = λ e. cc;
        unread = λ h. let so = f.to_read in cc;
        unrisen = λ h. let so = f.to_read in cc;
        read = λ e. f.rose;
        risen = λ r. refl;
        gives_up = λ a b. a refl;
        silent = f.silent;
      }))

  lacked-keeps : (asked : Option Options) → LackedMemory asked left left' reads reads' written written' writes writes' result → Kept asked result
  lacked-keeps asked l = subst (Kept asked) (sym l.is) (nothing_written asked left left' reads reads' written written' writes writes' Memory
      (record {
        unsettled = λ s. s;
        no_write = λ e. cc;
        unread = l.unread;
        unrisen = λ h. l.reads_are;
        read = λ e. cc;
        risen = λ r. let same = l.reads_are in absurd (omega arith);
        gives_up = λ a b. b refl;
        silent = l.silent;
      }))

  overflowed-keeps : (asked : Option Options) → Overflowed asked left left' reads reads' written written' writes writes' result → Kept asked result
  overflowed-keeps asked o = subst (λ (a : Option Options). Kept a result) (sym o.in_form)
      (finished (Some o.options) left left' reads reads' written written' writes writes' Limit (line_of (Passed (input_limit o.options) None)) result
      (record {
        settled = tt;
        usage = (λ e. cc, λ h. cc);
        input = some_input left' most left o.past;
        input_is = subst (λ (number : Option ℕ). IsInputIfTold number left (some_input left' most left o.past)) (sym o.to_read) (λ told e. some-is left' most left o.past told e);
        outcome = (decided (some_input left' most left o.past) (some-long left' most left o.past)).outcome;
        decides = λ options input same is. subst (λ (x : Options). DecidesInput x input Limit (line_of (Passed (input_limit o.options) None))) (some-same o.options options same)
            (decided input (at input (told-by options input same is)).0);
        unrisen = o.reads_are;
        unread = λ h. absurd (to-read h);
        taken = λ input e told. (at input told).1;
      }) o.finishes)
    where
      most : ℕ
      most = limit_number (input_limit o.options)

      at : (input : List ℕ) → left ≡ Some input → (most < length input) × (left' ≡ Some (drop (most + 1) input))
      at input told = subst (λ (l : Option (List ℕ)). TakesPast l left' most) told o.past

      decided : (input : List ℕ) → most < length input → DecidesInput o.options input Limit (line_of (Passed (input_limit o.options) None))
      decided input long = long-decides o.options input long

      told-by : (options : Options) (input : List ℕ) → Some o.options ≡ Some options → IsInputOf options.generate left input → left ≡ Some input
      told-by options input same is = subst (λ (number : Option ℕ). IsInputOf number left input) o.to_read
          (subst (λ (x : Options). IsInputOf x.generate left input) (sym (some-same o.options options same)) is)

      to-read : is_read (Some o.options) ≡ false → ⊥
      to-read h = let so = read-so o.options.generate o.to_read in cc

  answered-keeps : (asked : Option Options) → Answered asked left left' reads reads' written written' writes writes' result → Kept asked result
  answered-keeps asked a = subst (λ (x : Option Options). Kept x result) (sym a.in_form)
      (finished (Some a.options) left left' reads reads' written written' writes writes' a.settles.status a.settles.text result
      (record {
        settled = a.settles.decides.settled;
        usage = (λ e. absurd (a.settles.decides.used e), λ h. cc);
        input = a.input;
        input_is = got-told (limit_number (input_limit a.options)) left left' a.input a.options.generate a.gets;
        outcome = a.settles.decides.outcome;
        decides = λ options input same is. subst (λ (x : List ℕ). DecidesInput options x a.settles.status a.settles.text) (input-by options input same is)
            (subst (λ (x : Options). DecidesInput x a.input a.settles.status a.settles.text) (some-same a.options options same) a.settles.decides);
        unrisen = a.reads_are;
        unread = got-unread (limit_number (input_limit a.options)) left left' a.input a.options.generate a.gets;
        taken = λ input e told. got-taken (limit_number (input_limit a.options)) left left' a.input a.options.generate a.gets e input told;
      }) a.settles.finishes)
    where
      input-by : (options : Options) (input : List ℕ) → Some a.options ≡ Some options → IsInputOf options.generate left input → a.input ≡ input
      input-by options input same is = got-same (limit_number (input_limit a.options)) left left' a.input a.options.generate a.gets input
          (subst (λ (x : Options). IsInputOf x.generate left input) (sym (some-same a.options options same)) is)

  pub did-keeps : (asked : Option Options) → Did asked left left' reads reads' written written' writes writes' result → Kept asked result
  did-keeps asked (misused m) = misused-keeps asked m
  did-keeps asked (failed_to_read f) = failed-keeps asked f
  did-keeps asked (lacked_memory l) = lacked-keeps asked l
  did-keeps asked (overflowed o) = overflowed-keeps asked o
  did-keeps asked (answered a) = answered-keeps asked a
