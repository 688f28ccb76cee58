-- What a run keeps, by what it wrote.
use Rattle.std.proofs.Common.{◌≡◌, ◌≢◌, ◌∙◌, ℕ, ◌+◌, ◌<◌, ◌⊎◌, inl, inr, ◌↔◌, refl, sym, subst, true, false, Option, Some, None, List, drop, arith}
use Rattle.tm_io.specs.Faults.{Rose}
use Rattle.tm_io.specs.Told.{AddsAll, AddsPrefix}
use Rattle.tm_report.specs.declared.fault.FileFault.{FileFault}
use Rattle.tm_run.specs.Held.{EachHolds, SomeDoesNot}
use Rattle.tm_run.specs.Files.{IsAccepted}
use Rattle.tm_run.specs.Inputs.{HasInputFault, IsFaultyInput, OfInput, most_read}
use Rattle.tm_run.specs.Outcomes.{IsInput, IsInputOf, IsInputReport, IsOutcome, IsRunOn, HasOutcome, WritesFault, WritesOutcome, WritesPrefix, WritesReport}
use Rattle.tm_run.specs.Runs.{DecidesInput, Finishes, IsSilent}
use Rattle.tm_run.specs.Words.{is_read}
use Rattle.tm_run.specs.declared.words.options.Options.{Options}
use Rattle.tm_run.specs.declared.status.Status.{Status}
use Rattle.tm_run.specs.declared.status.Status.TheVariants.{AllYes, Mixed, Usage, BadText, Limit, ReadFault, WriteFault, Memory, IllFormed, NoQuestion}

pub settled_status : (status : Status) → HasOutcome status → (status ≢ ReadFault) × (status ≢ WriteFault) × (status ≢ Memory)
settled_status AllYes h = (λ e. cc, λ e. cc, λ e. cc)
settled_status Mixed h = (λ e. cc, λ e. cc, λ e. cc)
settled_status Usage h = (λ e. cc, λ e. cc, λ e. cc)
settled_status BadText h = (λ e. cc, λ e. cc, λ e. cc)
settled_status Limit h = (λ e. cc, λ e. cc, λ e. cc)
settled_status IllFormed h = (λ e. cc, λ e. cc, λ e. cc)
settled_status NoQuestion h = (λ e. cc, λ e. cc, λ e. cc)
settled_status ReadFault h = absurd h
settled_status WriteFault h = absurd h
settled_status Memory h = absurd h

module _ (asked : Option Options) (left left' : Option (List ℕ)) (reads reads' : ℕ) (written written' : Option (List ℕ)) (writes writes' : ℕ) where
  -- what a run keeps, by its status
  pub record Keeps (status : Status) : Type 0 where
    pub headline : (options : Options) (input : List ℕ) → IsRunOn asked left options input status → OfInput IsAccepted options input → WritesReport options input status written written'
    pub only_report : (options : Options) (input : List ℕ) → IsRunOn asked left options input status → (other : Status) (text : List ℕ) → IsInputReport options input other text → (other ≡ status) × AddsAll written written' text
    pub outcome : HasOutcome status → WritesOutcome asked left status written written'
    pub part : status ≡ WriteFault → WritesPrefix asked left written written'
    pub silent_fault : status ≡ ReadFault → written' ≡ written
    pub silent_memory : status ≡ Memory → written' ≡ written
    pub fault : (options : Options) (input : List ℕ) → IsRunOn asked left options input status → (fault : FileFault) → HasInputFault options input fault → WritesFault fault status written written'
    pub all_yes : (options : Options) (input : List ℕ) → IsRunOn asked left options input status → (status ≡ AllYes ↔ OfInput EachHolds options input)
    pub mixed : (options : Options) (input : List ℕ) → IsRunOn asked left options input status → (status ≡ Mixed ↔ OfInput SomeDoesNot options input)
    pub usage : HasOutcome status → (status ≡ Usage ↔ asked ≡ None)
    pub bad_text : (options : Options) (input : List ℕ) → IsRunOn asked left options input status → (status ≡ BadText ↔ IsFaultyInput options input BadText)
    pub limit : (options : Options) (input : List ℕ) → IsRunOn asked left options input status → (status ≡ Limit ↔ IsFaultyInput options input Limit)
    pub ill_formed : (options : Options) (input : List ℕ) → IsRunOn asked left options input status → (status ≡ IllFormed ↔ IsFaultyInput options input IllFormed)
    pub no_question : (options : Options) (input : List ℕ) → IsRunOn asked left options input status → (status ≡ NoQuestion ↔ IsFaultyInput options input NoQuestion)
    pub read_fault : status ≡ ReadFault → Rose reads reads'
    pub read_risen : reads < reads' → status ≡ ReadFault
    pub write_fault : status ≡ WriteFault → Rose writes writes'
    pub write_risen : writes < writes' → status ≡ WriteFault
    pub unread : is_read asked ≡ false → (left' ≡ left) × (reads' ≡ reads)
    pub taken : (input : List ℕ) → is_read asked ≡ true → left ≡ Some input → status ≢ ReadFault → status ≢ Memory → left' ≡ Some (drop (most_read asked + 1) input)

  -- what a run that comes to writing knows by then
  pub record Writes (status : Status) (text : List ℕ) : Type 0 where
    pub settled : HasOutcome status
    pub usage : status ≡ Usage ↔ asked ≡ None
    pub input : List ℕ
    pub input_is : IsInput asked left input
    pub outcome : IsOutcome asked input status text
    pub decides : (options : Options) (input : List ℕ) → asked ≡ Some options → IsInputOf options.generate left input → DecidesInput options input status text
    pub unrisen : reads' ≡ reads
    pub unread : is_read asked ≡ false → left' ≡ left
    pub taken : (input : List ℕ) → is_read asked ≡ true → left ≡ Some input → left' ≡ Some (drop (most_read asked + 1) input)

  all_written : (status : Status) (text : List ℕ) → Writes status text → AddsAll written written' text → (writes < writes' → status ≡ WriteFault) → Keeps status
  all_written status text w adds risen =
      let (no_read, no_write, no_memory) = settled_status status w.settled in record {
        headline = λ options input r a. (text, (w.decides options input r.in_form r.input_is).accepted a, adds);
        only_report = λ options input r other line report. let (s, t) = (w.decides options input r.in_form r.input_is).only other line report in
            (s, subst (λ (line : List ℕ). AddsAll written written' line) (sym t) adds);
        outcome = λ s. record { input = w.input; input_is = w.input_is; text = text; outcome = w.outcome; adds = adds };
        part = λ e. absurd (no_write e);
        silent_fault = λ e. absurd (no_read e);
        silent_memory = λ e. absurd (no_memory e);
        fault = λ options input r fault h. let (s, t) = (w.decides options input r.in_form r.input_is).faulted fault h in
            (s, subst (λ (line : List ℕ). AddsAll written written' line) t adds);
        all_yes = λ options input r. (w.decides options input r.in_form r.input_is).all_yes;
        mixed = λ options input r. (w.decides options input r.in_form r.input_is).mixed;
        usage = λ s. w.usage;
        bad_text = λ options input r. (w.decides options input r.in_form r.input_is).bad_text;
        limit = λ options input r. (w.decides options input r.in_form r.input_is).limit;
        ill_formed = λ options input r. (w.decides options input r.in_form r.input_is).ill_formed;
        no_question = λ options input r. (w.decides options input r.in_form r.input_is).no_question;
        read_fault = λ e. absurd (no_read e);
        read_risen = λ r. let same = w.unrisen in absurd (omega arith);
        write_fault = λ e. absurd (no_write e);
        write_risen = risen;
        unread = λ h. (w.unread h, w.unrisen);
        taken = λ input h told a b. w.taken input h told;
      }

  write_failed : (status : Status) (text : List ℕ) → Writes status text → AddsPrefix written written' text → Rose writes writes' → Keeps WriteFault
  write_failed status text w part rose = record {
    headline = λ options input r a. absurd r.settled;
    only_report = λ options input r other line report. absurd r.settled;
    outcome = λ s. absurd s;
    part = λ e. record { input = w.input; input_is = w.input_is; status = status; text = text; outcome = w.outcome; adds = part };
    silent_fault = λ e. cc;
    silent_memory = λ e. cc;
    fault = λ options input r fault h. absurd r.settled;
    all_yes = λ options input r. absurd r.settled;
    mixed = λ options input r. absurd r.settled;
    usage = λ s. absurd s;
    bad_text = λ options input r. absurd r.settled;
    limit = λ options input r. absurd r.settled;
    ill_formed = λ options input r. absurd r.settled;
    no_question = λ options input r. absurd r.settled;
    read_fault = λ e. cc;
    read_risen = λ r. let same = w.unrisen in absurd (omega arith);
    write_fault = λ e. rose;
    write_risen = λ h. refl;
    unread = λ h. (w.unread h, w.unrisen);
    taken = λ input h told a b. w.taken input h told;
  }

  pub finished : (status : Status) (text : List ℕ) (result : Status) → Writes status text → Finishes written written' writes writes' status text result → Keeps result
  finished status text result w f = by f.ends
    where
      by : ((result ≡ status) × AddsAll written written' text) ⊎ ((result ≡ WriteFault) × Rose writes writes') → Keeps result
      by (inl (e, adds)) = subst (λ (s : Status). Keeps s) (sym e) (all_written status text w adds (λ r. sym e ∙ f.risen r))
      by (inr (e, rose)) = subst (λ (s : Status). Keeps s) (sym e) (write_failed status text w f.part rose)

  -- nothing was written: reading failed, or memory was wanting
  pub record WritesNothing (status : Status) : Type 0 where
    pub unsettled : ¬ HasOutcome status
    pub no_write : status ≢ WriteFault
    pub unread : is_read asked ≡ false → left' ≡ left
    pub unrisen : is_read asked ≡ false → reads' ≡ reads
    pub read : status ≡ ReadFault → Rose reads reads'
    pub risen : reads < reads' → status ≡ ReadFault
    pub gives_up : (status ≢ ReadFault) → (status ≢ Memory) → ⊥
    pub silent : IsSilent written written' writes writes'

  pub nothing_written : (status : Status) → WritesNothing status → Keeps status
  nothing_written status w = record {
    headline = λ options input r a. absurd (w.unsettled r.settled);
    only_report = λ options input r other line report. absurd (w.unsettled r.settled);
    outcome = λ s. absurd (w.unsettled s);
    part = λ e. absurd (w.no_write e);
    silent_fault = λ e. w.silent.written_is;
    silent_memory = λ e. w.silent.written_is;
    fault = λ options input r fault h. absurd (w.unsettled r.settled);
    all_yes = λ options input r. absurd (w.unsettled r.settled);
    mixed = λ options input r. absurd (w.unsettled r.settled);
    usage = λ s. absurd (w.unsettled s);
    bad_text = λ options input r. absurd (w.unsettled r.settled);
    limit = λ options input r. absurd (w.unsettled r.settled);
    ill_formed = λ options input r. absurd (w.unsettled r.settled);
    no_question = λ options input r. absurd (w.unsettled r.settled);
    read_fault = w.read;
    read_risen = w.risen;
    write_fault = λ e. absurd (w.no_write e);
    write_risen = λ h. let same = w.silent.faults_are in absurd (omega arith);
    unread = λ h. (w.unread h, w.unrisen h);
    taken = λ input h told a b. absurd (w.gives_up a b);
  }
