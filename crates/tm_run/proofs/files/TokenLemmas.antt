-- What lexing and parsing answer to a file: the one fault that the answer names, or that there is none.
use Rattle.std.proofs.Common.{◌≡◌, ◌∙◌, ℕ, ◌<◌, ◌≤◌, ◌⊎◌, inl, inr, refl, sym, ap, subst, Some, None, Option, List, ◌∷◌, length, arith, slice_get, get_or, length-append}
use Rattle.std.proofs.lemmas.List.{length-map}
use Rattle.std.proofs.lemmas.List.FromFn.{length-enumerate_from}
use Rattle.std.proofs.lemmas.Option.{slice_get_cases, slice_get_past}
use Rattle.tm_base.specs.declared.limit.LimitKind.{LimitKind}
use Rattle.tm_base.specs.declared.limit.NameWhy.{NameWhy}
use Rattle.tm_lex.specs.Lexes.{IsFault, Tokenizes}
use Rattle.tm_lex.specs.declared.fault.LexErr.TheVariants as lex_err
use Rattle.tm_lex.specs.declared.fault.LexWhy.{LexWhy}
use Rattle.tm_lex.specs.declared.token.Token.{Token}
use Rattle.tm_names.specs.Faults.{IsFirstFault}
use Rattle.tm_names.specs.Written.{name_at}
use Rattle.tm_names.specs.Resolutions.{resolved_of}
use Rattle.tm_names.specs.declared.fault.NameErr.TheVariants as name_err
use Rattle.tm_names.specs.declared.resolved.Resolved.{Resolved}
use Rattle.tm_parse.specs.Parsing.{PassesLimitAt, SpellsFile, StopsAt}
use Rattle.tm_parse.specs.Spelling.{terminals_of}
use Rattle.tm_parse.specs.declared.parsed.Parsed.{Parsed}
use Rattle.tm_parse.specs.declared.parsing.ParseErr.TheVariants as parse_err
use Rattle.tm_report.specs.declared.fault.At.{At}
use Rattle.tm_report.specs.declared.fault.FileFault.TheVariants.{Unexpected, EndOfFile, Passed, Names}
use Rattle.tm_run.specs.Asking.{with_questions}
use Rattle.tm_run.specs.Examined.{AreTokensOf, IsLateFault, IsMeaningOf, IsOnlyFault, IsParsedOf, IsResolvedOf, fault_at, no_token_at}
use Rattle.tm_run.specs.Faults.{BeginsAt, HasFault, LacksToken, start_of}
use Rattle.tm_run.specs.Files.{HasSoundNames, IsResolved, IsSpelled}
use Rattle.tm_run.specs.Places.{at_byte}
use Rattle.tm_run.specs.Words.{profile_for}
use Rattle.tm_run.specs.declared.words.options.Options.{Options}
use Rattle.tm_run.proofs.files.FaultLemmas.{by_tokens, lacks_only, resolved_by, sound_by}

-- the lexer's fault
pub lexer_fault : (options : Options) (file : List ℕ) (byte : ℕ) (why : LexWhy) → LacksToken file byte why
    → ((tokens : List Token) → Tokenizes file tokens → lex_err.At byte why ≡ lex_err.Memory)
    → ((other : ℕ) (because : LexWhy) → IsFault file other because → (lex_err.At byte why ≡ lex_err.At other because) ⊎ (lex_err.At byte why ≡ lex_err.Memory))
    → IsOnlyFault options file (no_token_at (at_byte file byte) why)
lexer_fault options file byte why lacks tokens faults = lacks_only options file byte why lacks
    (λ found h. let e = tokens found h in cc) (λ other because h. same other because (faults other because h))
  where
    same : (other : ℕ) (because : LexWhy) → (lex_err.At byte why ≡ lex_err.At other because) ⊎ (lex_err.At byte why ≡ lex_err.Memory) → (other ≡ byte) × (because ≡ why)
    same other because (inl e) = (cc, cc)
    same other because (inr e) = (cc, cc)

length-terminals_of : (file : List ℕ) (tokens : List Token) → length (terminals_of file tokens) ≡ length tokens
length-terminals_of file tokens = simp (length-map, length-enumerate_from)

-- a token that passes a limit is one of the tokens
pub passing_within : (file : List ℕ) (tokens : List Token) (kind : LimitKind) (place : ℕ) → PassesLimitAt (terminals_of file tokens) kind place → place < length tokens
passing_within file tokens kind place h =
    let e = length-terminals_of file tokens in let s = ap length h.splits in let long = h.long in
    omega (arith, length-append h.front (h.next ∷ h.rest))

-- where no token follows, the tokens stop at their end
stopping_end : (file : List ℕ) (tokens : List Token) (place : ℕ) → StopsAt (terminals_of file tokens) place → length tokens ≤ place → place ≡ length tokens
stopping_end file tokens place h past =
    let e = length-terminals_of file tokens in let s = ap length h.splits in let long = h.long in
    omega (arith, length-append h.front h.rest)

module _ (options : Options) (file : List ℕ) (tokens : List Token) (are : AreTokensOf file tokens) where
  -- the place where a token begins
  abbrev pub here : ℕ → At
  here place = at_byte file (start_of file (slice_get tokens place))

  begins_at : (place byte : ℕ) → BeginsAt tokens place byte → byte ≡ start_of file (slice_get tokens place)
  begins_at place byte begins = sym begins.start ∙ ap (start_of file) (sym begins.is)

  begins_within : (place : ℕ) → place < length tokens → BeginsAt tokens place (start_of file (slice_get tokens place))
  begins_within place within = by (slice_get_cases tokens place).1
    where
      by : ((token : Token) × (place < length tokens) × (slice_get tokens place ≡ Some token) × (get_or tokens place token ≡ token)) ⊎ ((length tokens ≤ place) × (slice_get tokens place ≡ None))
          → BeginsAt tokens place (start_of file (slice_get tokens place))
      by (inl (token, less, e, same)) = record { token = token; is = e; start = ap (start_of file) (sym e) }
      by (inr (past, e)) = absurd (omega arith)

  has_stop : (place : ℕ) → StopsAt (terminals_of file tokens) place → HasFault options file (fault_at file (slice_get tokens place))
  has_stop place stops = by (slice_get_cases tokens place).1
    where
      by : ((token : Token) × (place < length tokens) × (slice_get tokens place ≡ Some token) × (get_or tokens place token ≡ token)) ⊎ ((length tokens ≤ place) × (slice_get tokens place ≡ None))
          → HasFault options file (fault_at file (slice_get tokens place))
      by (inl (token, within, e, same)) = subst (λ (found : Option Token). HasFault options file (fault_at file found)) (sym e)
          (refl, record { tokens = tokens; lexed = are.lexed; place = place; begins = record { token = token; is = e; start = refl }; stops = stops })
      by (inr (past, e)) = subst (λ (found : Option Token). HasFault options file (fault_at file found)) (sym e)
          (refl, record { tokens = tokens; lexed = are.lexed; stops = subst (λ (n : ℕ). StopsAt (terminals_of file tokens) n) (stopping_end file tokens place stops past) stops })

  -- the parser's fault at a token or at the end
  pub parser_fault : (place : ℕ) → StopsAt (terminals_of file tokens) place
      → ((v : Parsed) → SpellsFile (terminals_of file tokens) v → parse_err.At place ≡ parse_err.Memory)
      → ((p : ℕ) → StopsAt (terminals_of file tokens) p → (parse_err.At place ≡ parse_err.At p) ⊎ (parse_err.At place ≡ parse_err.Memory))
      → ((kind : LimitKind) (p : ℕ) → PassesLimitAt (terminals_of file tokens) kind p → (parse_err.At place ≡ parse_err.Limit kind p) ⊎ (parse_err.At place ≡ parse_err.Memory))
      → IsOnlyFault options file (fault_at file (slice_get tokens place))
  parser_fault place stops files faults limits = record {
    has = has_stop place stops;
    only = by_tokens options file tokens are (λ other. other ≡ fault_at file (slice_get tokens place)) (record {
      stops = λ byte p begins h. at_token byte p begins (same p (faults p h));
      ends = λ h. at_end (same (length tokens) (faults (length tokens) h));
      passes = λ kind byte p begins h. absurd (neither kind p (limits kind p h));
      names = λ why p v h first. absurd (none v h);
      limits = λ kind h. absurd (none h.names.parsed (resolved_by options file tokens are h.resolved h.names));
      asked = λ number h. absurd (none h.names.parsed (resolved_by options file tokens are h.resolved h.names));
    });
    refused = λ h. absurd (none h.answerable.names.parsed (resolved_by options file tokens are h.resolved h.answerable.names));
  }
    where
      none : (v : Parsed) → SpellsFile (terminals_of file tokens) v → ⊥
      none v h = let m = files v h in cc

      same : (p : ℕ) → (parse_err.At place ≡ parse_err.At p) ⊎ (parse_err.At place ≡ parse_err.Memory) → place ≡ p
      same p (inl e) = cc
      same p (inr e) = cc

      neither : (kind : LimitKind) (p : ℕ) → (parse_err.At place ≡ parse_err.Limit kind p) ⊎ (parse_err.At place ≡ parse_err.Memory) → ⊥
      neither kind p (inl e) = cc
      neither kind p (inr e) = cc

      at_token : (byte p : ℕ) → BeginsAt tokens p byte → place ≡ p → Unexpected (at_byte file byte) ≡ fault_at file (slice_get tokens place)
      at_token byte p begins e =
          ap (λ b. Unexpected (at_byte file b)) (sym begins.start) ∙ ap (fault_at file) (sym begins.is ∙ ap (slice_get tokens) (sym e))

      at_end : place ≡ length tokens → EndOfFile (at_byte file (length file)) ≡ fault_at file (slice_get tokens place)
      at_end e = ap (fault_at file) (sym (slice_get_past tokens place (omega arith)))

  -- the parser's limit
  pub parser_limit : (kind : LimitKind) (place : ℕ) → PassesLimitAt (terminals_of file tokens) kind place
      → ((v : Parsed) → SpellsFile (terminals_of file tokens) v → parse_err.Limit kind place ≡ parse_err.Memory)
      → ((p : ℕ) → StopsAt (terminals_of file tokens) p → (parse_err.Limit kind place ≡ parse_err.At p) ⊎ (parse_err.Limit kind place ≡ parse_err.Memory))
      → ((k : LimitKind) (p : ℕ) → PassesLimitAt (terminals_of file tokens) k p → (parse_err.Limit kind place ≡ parse_err.Limit k p) ⊎ (parse_err.Limit kind place ≡ parse_err.Memory))
      → IsOnlyFault options file (Passed kind (Some (here place)))
  parser_limit kind place passes files faults limits = record {
    has = (refl, record { tokens = tokens; lexed = are.lexed; place = place; begins = begins_within place (passing_within file tokens kind place passes); passes = passes });
    only = by_tokens options file tokens are (λ other. other ≡ Passed kind (Some (here place))) (record {
      stops = λ byte p begins h. absurd (neither p (faults p h));
      ends = λ h. absurd (neither (length tokens) (faults (length tokens) h));
      passes = λ k byte p begins h. at_token k byte p begins (limits k p h);
      names = λ why p v h first. absurd (none v h);
      limits = λ kind h. absurd (none h.names.parsed (resolved_by options file tokens are h.resolved h.names));
      asked = λ number h. absurd (none h.names.parsed (resolved_by options file tokens are h.resolved h.names));
    });
    refused = λ h. absurd (none h.answerable.names.parsed (resolved_by options file tokens are h.resolved h.answerable.names));
  }
    where
      none : (v : Parsed) → SpellsFile (terminals_of file tokens) v → ⊥
      none v h = let m = files v h in cc

      neither : (p : ℕ) → (parse_err.Limit kind place ≡ parse_err.At p) ⊎ (parse_err.Limit kind place ≡ parse_err.Memory) → ⊥
      neither p (inl e) = cc
      neither p (inr e) = cc

      at_token : (k : LimitKind) (byte p : ℕ) → BeginsAt tokens p byte → (parse_err.Limit kind place ≡ parse_err.Limit k p) ⊎ (parse_err.Limit kind place ≡ parse_err.Memory)
          → Passed k (Some (at_byte file byte)) ≡ Passed kind (Some (here place))
      at_token k byte p begins (inl e) =
          let place_is : p ≡ place = cc in let kind_is : k ≡ kind = cc in
          ap (λ x. Passed x (Some (at_byte file byte))) kind_is ∙ ap (λ b. Passed kind (Some (at_byte file b))) (begins_at p byte begins) ∙ ap (λ q. Passed kind (Some (here q))) place_is
      at_token k byte p begins (inr e) = cc

  module _ (parsed : Parsed) (is : IsParsedOf file tokens parsed) where
    abbrev spelled : IsSpelled file parsed
    spelled = record { tokens = tokens; lexed = are.lexed; spelled = is.spelled }

    -- the first name fault of what the tokens spell is that of this
    first_in : (why : NameWhy) (place : ℕ) (v : Parsed) → SpellsFile (terminals_of file tokens) v → IsFirstFault (profile_for options) (name_at file tokens) v why place
        → IsFirstFault (profile_for options) (name_at file tokens) parsed why place
    first_in why place v h = subst (λ (v : Parsed). IsFirstFault (profile_for options) (name_at file tokens) v why place) (is.only v h)

    sound_in : (v : Parsed) → SpellsFile (terminals_of file tokens) v → HasSoundNames options file tokens v → HasSoundNames options file tokens parsed
    sound_in v h = subst (λ (v : Parsed). HasSoundNames options file tokens v) (is.only v h)

    -- the first name fault is the one fault
    pub name_fault : (why : NameWhy) (place : ℕ) → IsFirstFault (profile_for options) (name_at file tokens) parsed why place
        → ((other : NameWhy) (there : ℕ) → IsFirstFault (profile_for options) (name_at file tokens) parsed other there
        → (name_err.Fault why place ≡ name_err.Fault other there) ⊎ (name_err.Fault why place ≡ name_err.Memory))
        → IsOnlyFault options file (Names why (here place))
    name_fault why place first faults = record {
      has = (refl, record { parsed = parsed; spelled = spelled; place = place; first = first; begins = refl });
      only = by_tokens options file tokens are (λ other. other ≡ Names why (here place)) (record {
        stops = λ byte p begins h. absurd (is.goes_on p h);
        ends = λ h. absurd (is.goes_on (length tokens) h);
        passes = λ kind byte p begins h. absurd (is.within kind p h);
        names = λ other there v h f. same other there (faults other there (first_in other there v h f));
        limits = λ kind h. absurd (unsound h.resolved h.names);
        asked = λ number h. absurd (unsound h.resolved h.names);
      });
      refused = λ h. absurd (unsound h.resolved h.answerable.names);
    }
      where
        unsound : (resolved : Resolved) → IsResolved options file resolved → ⊥
        unsound resolved h = (sound_in h.parsed (resolved_by options file tokens are resolved h) (sound_by options file tokens are resolved h)).none why place first.fault

        same : (other : NameWhy) (there : ℕ) → (name_err.Fault why place ≡ name_err.Fault other there) ⊎ (name_err.Fault why place ≡ name_err.Memory)
            → Names other (here there) ≡ Names why (here place)
        same other there (inl e) =
            let why_is : other ≡ why = cc in let place_is : there ≡ place = cc in
            ap (λ w. Names w (here there)) why_is ∙ ap (λ p. Names why (here p)) place_is
        same other there (inr e) = cc

    module _ (resolved : Resolved) (means : IsResolvedOf options file tokens parsed resolved) where
      abbrev names : IsResolved options file resolved
      names = record { parsed = parsed; spelled = spelled; sound = means.sound; means = means.means }

      no_name_fault : (why : NameWhy) (place : ℕ) (v : Parsed) → SpellsFile (terminals_of file tokens) v → IsFirstFault (profile_for options) (name_at file tokens) v why place → ⊥
      no_name_fault why place v h first = means.sound.none why place (first_in why place v h first).fault

      same_meaning : (other : Resolved) → IsResolved options file other → other ≡ resolved
      same_meaning other h =
          h.means ∙ ap (λ ts. with_questions options.mode h.parsed (resolved_of (profile_for options) (name_at file ts) h.parsed)) (are.only h.spelled.tokens h.spelled.lexed.tokenizes)
          ∙ ap (λ v. with_questions options.mode v (resolved_of (profile_for options) (name_at file tokens) v)) (is.only h.parsed (resolved_by options file tokens are other h)) ∙ sym means.means

      -- what the file's names mean
      pub meaning : IsMeaningOf options file resolved
      meaning = record {
        names = names;
        only = same_meaning;
        faultless = by_tokens options file tokens are (IsLateFault options file) (record {
          stops = λ byte p begins h. is.goes_on p h;
          ends = λ h. is.goes_on (length tokens) h;
          passes = λ kind byte p begins h. is.within kind p h;
          names = no_name_fault;
          limits = λ kind h. h;
          asked = λ number h. h;
        });
      }
