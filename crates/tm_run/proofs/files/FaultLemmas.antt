-- Each fault by its cause, and that a file has one fault only.
use Rattle.std.proofs.Common.{◌≡◌, ◌∙◌, ℕ, ◌<◌, inl, inr, refl, sym, ap, subst, Some, None, Result, Ok, Err, IfErr, IsErrAnd, List, length, slice_get, arith}
use Rattle.std.proofs.lemmas.Str.{utf8_valid_len-IsValidUpTo}
use Rattle.tm_base.specs.declared.limit.LimitKind.{LimitKind}
use Rattle.tm_base.specs.declared.limit.LimitKind.TheVariants.{FileBytes}
use Rattle.tm_base.specs.declared.limit.NameWhy.{NameWhy}
use Rattle.tm_lex.specs.Lexes.{IsFault, Tokenizes}
use Rattle.tm_lex.specs.declared.fault.LexWhy.{LexWhy}
use Rattle.tm_lex.specs.declared.fault.LexWhy.TheVariants as why
use Rattle.tm_lex.specs.declared.token.Token.{Token}
use Rattle.tm_names.specs.Faults.{IsFirstFault}
use Rattle.tm_names.specs.Written.{name_at}
use Rattle.tm_names.specs.declared.resolved.Resolved.{Resolved}
use Rattle.tm_parse.specs.Parsing.{PassesLimitAt, SpellsFile, StopsAt}
use Rattle.tm_parse.specs.Spelling.{terminals_of}
use Rattle.tm_parse.specs.declared.parsed.Parsed.{Parsed}
use Rattle.tm_report.specs.declared.fault.At.{At}
use Rattle.tm_report.specs.declared.fault.FileFault.{FileFault}
use Rattle.tm_report.specs.declared.fault.FileFault.TheVariants.{NotUtf8, NoToken, BadNumber, OpenComment, Unexpected, EndOfFile, Passed, Names, BadRefutation, NoQuestion}
use Rattle.tm_run.specs.Examined.{AreTokensOf, IsOnlyFault, no_token_at}
use Rattle.tm_run.specs.Faults.{BeginsAt, EndsTooSoon, HasFault, HasNameFaultAt, IsNotUtf8, LacksQuestion, LacksToken, PassesLimitAtToken, PassesLimitOnTypes, StopsAtToken, start_of}
use Rattle.tm_run.specs.Files.{HasSoundNames, IsResolved, IsSpelled, file_bytes}
use Rattle.tm_run.specs.Places.{at_byte}
use Rattle.tm_run.specs.Words.{profile_for}
use Rattle.tm_run.specs.declared.words.options.Options.{Options}

-- an error that is passed on as it is
pub passed_on : {A E : Type 0} (P : E → Type 0) (result : Result A E) (err : E) → IsErrAnd result (λ passed. passed ≡ err) → P err → IfErr result P
passed_on P (Ok a) err e h = tt
passed_on P (Err passed) err e h = subst P (sym e) h

-- what holds of the fault of each cause holds of each fault
module _ (options : Options) (file : List ℕ) (P : FileFault → Type 0) where
  pub record ByCause : Type 0 where
    pub not_utf8 : (byte : ℕ) → IsNotUtf8 file byte → P (NotUtf8 (at_byte file byte))
    pub lacks : (byte : ℕ) (why : LexWhy) → LacksToken file byte why → P (no_token_at (at_byte file byte) why)
    pub stops : (byte : ℕ) → StopsAtToken file byte → P (Unexpected (at_byte file byte))
    pub ends : EndsTooSoon file → P (EndOfFile (at_byte file (length file)))
    pub passes : (kind : LimitKind) (byte : ℕ) → PassesLimitAtToken file kind byte → P (Passed kind (Some (at_byte file byte)))
    pub long : file_bytes < length file → P (Passed FileBytes None)
    pub names : (why : NameWhy) (byte : ℕ) → HasNameFaultAt options file why byte → P (Names why (at_byte file byte))
    pub limits : (kind : LimitKind) → PassesLimitOnTypes options file kind → P (Passed kind None)
    pub asked : (number : ℕ) → LacksQuestion options file number → P (NoQuestion number)

  pub by_cause : ByCause → (fault : FileFault) → HasFault options file fault → P fault
  by_cause by (NotUtf8 at) (place, h) = subst (λ (at : At). P (NotUtf8 at)) (sym place) (by.not_utf8 at.byte h)
  by_cause by (NoToken at) (place, h) = subst (λ (at : At). P (NoToken at)) (sym place) (by.lacks at.byte why.NoToken h)
  by_cause by (BadNumber at) (place, h) = subst (λ (at : At). P (BadNumber at)) (sym place) (by.lacks at.byte why.BadNumber h)
  by_cause by (OpenComment at) (place, h) = subst (λ (at : At). P (OpenComment at)) (sym place) (by.lacks at.byte why.OpenComment h)
  by_cause by (Unexpected at) (place, h) = subst (λ (at : At). P (Unexpected at)) (sym place) (by.stops at.byte h)
  by_cause by (EndOfFile at) (place, h) = subst (λ (at : At). P (EndOfFile at)) (sym place) (by.ends h)
  by_cause by (Passed kind None) (inl (k, h)) = subst (λ (kind : LimitKind). P (Passed kind None)) (sym k) (by.long h)
  by_cause by (Passed kind None) (inr h) = by.limits kind h
  by_cause by (Passed kind (Some at)) (place, h) = subst (λ (at : At). P (Passed kind (Some at))) (sym place) (by.passes kind at.byte h)
  by_cause by (Names why at) (place, h) = subst (λ (at : At). P (Names why at)) (sym place) (by.names why at.byte h)
  by_cause by (BadRefutation line) h = absurd h
  by_cause by (NoQuestion number) h = by.asked number h

-- the fault of each cause is one that the file has
pub has_lacks : (options : Options) (file : List ℕ) (byte : ℕ) (why : LexWhy) → LacksToken file byte why → HasFault options file (no_token_at (at_byte file byte) why)
has_lacks options file byte why.NoToken h = (refl, h)
has_lacks options file byte why.BadNumber h = (refl, h)
has_lacks options file byte why.OpenComment h = (refl, h)

-- too many bytes are the one fault
pub long_only : (options : Options) (file : List ℕ) → file_bytes < length file → IsOnlyFault options file (Passed FileBytes None)
long_only options file long = record {
  has = inl (refl, long);
  only = by_cause options file (λ other. other ≡ Passed FileBytes None) (record {
    not_utf8 = λ byte h. absurd (omega arith);
    lacks = λ byte why h. absurd (omega arith);
    stops = λ byte h. let lexed = h.lexed in absurd (omega arith);
    ends = λ h. let lexed = h.lexed in absurd (omega arith);
    passes = λ kind byte h. let lexed = h.lexed in absurd (omega arith);
    long = λ h. refl;
    names = λ why byte h. let lexed = h.spelled.lexed in absurd (omega arith);
    limits = λ kind h. let lexed = h.names.spelled.lexed in absurd (omega arith);
    asked = λ number h. let lexed = h.names.spelled.lexed in absurd (omega arith);
  });
  refused = λ h. let lexed = h.answerable.names.spelled.lexed in absurd (omega arith);
}

-- bytes that aren't UTF-8 are the one fault
pub broken_only : (options : Options) (file : List ℕ) (byte : ℕ) → IsNotUtf8 file byte → IsOnlyFault options file (NotUtf8 (at_byte file byte))
broken_only options file byte broken = record {
  has = (refl, broken);
  only = by_cause options file (λ other. other ≡ NotUtf8 (at_byte file byte)) (record {
    not_utf8 = λ found h. ap (λ b. NotUtf8 (at_byte file b))
        (sym (utf8_valid_len-IsValidUpTo file found h.front) ∙ utf8_valid_len-IsValidUpTo file byte broken.front);
    lacks = λ byte why h. absurd (broken.broken h.utf8);
    stops = λ byte h. absurd (broken.broken h.lexed.utf8);
    ends = λ h. absurd (broken.broken h.lexed.utf8);
    passes = λ kind byte h. absurd (broken.broken h.lexed.utf8);
    long = λ h. let short = broken.short in absurd (omega arith);
    names = λ why found h. absurd (broken.broken h.spelled.lexed.utf8);
    limits = λ kind h. absurd (broken.broken h.names.spelled.lexed.utf8);
    asked = λ number h. absurd (broken.broken h.names.spelled.lexed.utf8);
  });
  refused = λ h. absurd (broken.broken h.answerable.names.spelled.lexed.utf8);
}

-- a byte at which no token begins is the one fault
pub lacks_only : (options : Options) (file : List ℕ) (byte : ℕ) (why : LexWhy) → LacksToken file byte why → ((tokens : List Token) → Tokenizes file tokens → ⊥)
    → ((other : ℕ) (because : LexWhy) → IsFault file other because → (other ≡ byte) × (because ≡ why)) → IsOnlyFault options file (no_token_at (at_byte file byte) why)
lacks_only options file byte why lacks no_tokens same = record {
  has = has_lacks options file byte why lacks;
  only = by_cause options file (λ other. other ≡ no_token_at (at_byte file byte) why) (record {
    not_utf8 = λ found h. absurd (h.broken lacks.utf8);
    lacks = λ found because h. let (b, w) = same found because h.fault in
        ap (λ b. no_token_at (at_byte file b) because) b ∙ ap (no_token_at (at_byte file byte)) w;
    stops = λ found h. absurd (no_tokens h.tokens h.lexed.tokenizes);
    ends = λ h. absurd (no_tokens h.tokens h.lexed.tokenizes);
    passes = λ kind found h. absurd (no_tokens h.tokens h.lexed.tokenizes);
    long = λ h. let short = lacks.short in absurd (omega arith);
    names = λ because found h. absurd (no_tokens h.spelled.tokens h.spelled.lexed.tokenizes);
    limits = λ kind h. absurd (no_tokens h.names.spelled.tokens h.names.spelled.lexed.tokenizes);
    asked = λ number h. absurd (no_tokens h.names.spelled.tokens h.names.spelled.lexed.tokenizes);
  });
  refused = λ h. absurd (no_tokens h.answerable.names.spelled.tokens h.answerable.names.spelled.lexed.tokenizes);
}

-- what a file spells, and that no name is at fault, is so by its tokens
module _ (options : Options) (file : List ℕ) (tokens : List Token) (are : AreTokensOf file tokens) where
  pub spelled_by : (parsed : Parsed) → IsSpelled file parsed → SpellsFile (terminals_of file tokens) parsed
  spelled_by parsed h = subst (λ (ts : List Token). SpellsFile (terminals_of file ts) parsed) (are.only h.tokens h.lexed.tokenizes) h.spelled

  pub resolved_by : (resolved : Resolved) (h : IsResolved options file resolved) → SpellsFile (terminals_of file tokens) h.parsed
  resolved_by resolved h = spelled_by h.parsed h.spelled

  pub sound_by : (resolved : Resolved) (h : IsResolved options file resolved) → HasSoundNames options file tokens h.parsed
  sound_by resolved h = subst (λ (ts : List Token). HasSoundNames options file ts h.parsed) (are.only h.spelled.tokens h.spelled.lexed.tokenizes) h.sound

-- what holds of each fault of a file's tokens holds of each of its faults
module _ (options : Options) (file : List ℕ) (tokens : List Token) (are : AreTokensOf file tokens) (P : FileFault → Type 0) where
  pub record ByTokens : Type 0 where
    pub stops : (byte place : ℕ) → BeginsAt tokens place byte → StopsAt (terminals_of file tokens) place → P (Unexpected (at_byte file byte))
    pub ends : StopsAt (terminals_of file tokens) (length tokens) → P (EndOfFile (at_byte file (length file)))
    pub passes : (kind : LimitKind) (byte place : ℕ) → BeginsAt tokens place byte → PassesLimitAt (terminals_of file tokens) kind place
        → P (Passed kind (Some (at_byte file byte)))
    pub names : (why : NameWhy) (place : ℕ) (parsed : Parsed) → SpellsFile (terminals_of file tokens) parsed → IsFirstFault (profile_for options) (name_at file tokens) parsed why place
        → P (Names why (at_byte file (start_of file (slice_get tokens place))))
    pub limits : (kind : LimitKind) → PassesLimitOnTypes options file kind → P (Passed kind None)
    pub asked : (number : ℕ) → LacksQuestion options file number → P (NoQuestion number)

  pub by_tokens : ByTokens → (fault : FileFault) → HasFault options file fault → P fault
  by_tokens by = by_cause options file P (record {
    not_utf8 = λ byte h. absurd (h.broken are.lexed.utf8);
    lacks = λ byte why h. absurd (are.faultless byte why h.fault);
    stops = λ byte h. let e = are.only h.tokens h.lexed.tokenizes in
        by.stops byte h.place (subst (λ (ts : List Token). BeginsAt ts h.place byte) e h.begins)
        (subst (λ (ts : List Token). StopsAt (terminals_of file ts) h.place) e h.stops);
    ends = λ h. by.ends (subst (λ (ts : List Token). StopsAt (terminals_of file ts) (length ts)) (are.only h.tokens h.lexed.tokenizes) h.stops);
    passes = λ kind byte h. let e = are.only h.tokens h.lexed.tokenizes in
        by.passes kind byte h.place (subst (λ (ts : List Token). BeginsAt ts h.place byte) e h.begins)
        (subst (λ (ts : List Token). PassesLimitAt (terminals_of file ts) kind h.place) e h.passes);
    long = λ h. let short = are.lexed.short in absurd (omega arith);
    names = λ why byte h. let e = are.only h.spelled.tokens h.spelled.lexed.tokenizes in
        subst (λ (b : ℕ). P (Names why (at_byte file b))) h.begins
        (subst (λ (ts : List Token). P (Names why (at_byte file (start_of file (slice_get ts h.place))))) (sym e)
        (by.names why h.place h.parsed (spelled_by options file tokens are h.parsed h.spelled)
        (subst (λ (ts : List Token). IsFirstFault (profile_for options) (name_at file ts) h.parsed why h.place) e h.first)));
    limits = by.limits;
    asked = by.asked;
  })
