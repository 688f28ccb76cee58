-- The text read piece by piece: what is read so far, and what follows once it is read to its end.
use Rattle.std.proofs.Common.{◌≡◌, ◌==◌, ℕ, ◌+◌, ◌-◌, ◌<◌, ◌≤◌, inl, inr, refl, sym, ap, ◌∙◌, subst, if◌then◌else◌, List, [], ◌∷◌, ◌++◌, length, append_assoc, length-append, arith}
use Rattle.std.specs.Prelude.{encode_utf8}
use Rattle.std.specs.Str.{chars, encode_utf8_all, IsUtf8}
use Rattle.std.proofs.lemmas.Bool.{cases_Bool, eqb-true}
use Rattle.std.proofs.lemmas.List.{append-nil}
use Rattle.std.proofs.lemmas.Str.{encodes-append, encodes-chars, length-encode}
use Rattle.tm_lex.specs.declared.token.Token.{Token}
use Rattle.tm_lex.specs.declared.token.TokenKind.{TokenKind}
use Rattle.tm_lex.specs.declared.fault.LexWhy.{LexWhy}
use Rattle.tm_lex.specs.Characters.{bytes_of}
use Rattle.tm_lex.specs.Gaps.{IsGap}
use Rattle.tm_lex.specs.Tokens.{IsToken}
use Rattle.tm_lex.specs.Lexes.{token_at, Lexes, nothing, gap, token, unmarked, mark_bytes, Tokenizes, IsFault}
use Rattle.tm_lex.specs.Pieces.{Fronts}
use Rattle.tm_lex.proofs.ClassLemmas.{gap_first, token_first}
use Rattle.tm_lex.proofs.NothingLemmas.{FaultHere}

-- What is read so far: whatever tokens the rest goes on with, the text has them behind those.
pub record ReadsTo (text : List ℕ) (tokens : List Token) (rest : List ℕ) : Type 0 where
  pub within : bytes_of rest ≤ length text
  pub goes_on : (place : ℕ) (more : List Token) (end : List ℕ) → place + bytes_of rest ≡ length text
      → Lexes place rest more end
      → Lexes (mark_bytes (chars text)) (unmarked (chars text)) (tokens ++ more) end

pub bytes_of-append : (xs ys : List ℕ) → bytes_of (xs ++ ys) ≡ bytes_of xs + bytes_of ys
bytes_of-append xs ys = ap length (encodes-append xs ys) ∙ length-append (encode_utf8_all xs) (encode_utf8_all ys)

pub bytes_of-chars : (text : List ℕ) → IsUtf8 text → bytes_of (chars text) ≡ length text
bytes_of-chars text utf8 = ap length (encodes-chars text utf8)

-- a byte order mark has three bytes
pub marked : (cs : List ℕ) → mark_bytes cs + bytes_of (unmarked cs) ≡ bytes_of cs
marked [] = refl
marked (c ∷ cs) = elim (cases_Bool (c == 0xFEFF)) [
  | inl t ↦
      let mark : bytes_of (0xFEFF ∷ cs) ≡ 3 + bytes_of cs =
      length-append (encode_utf8 0xFEFF) (encode_utf8_all cs) ∙ ap (λ n. n + bytes_of cs) (length-encode 0xFEFF) in
      ap (λ b. (if b then 3 else 0) + bytes_of (if b then cs else c ∷ cs)) t ∙ sym mark
      ∙ ap (λ x. bytes_of (x ∷ cs)) (sym (eqb-true c 0xFEFF t))
  | inr t ↦ ap (λ b. (if b then 3 else 0) + bytes_of (if b then cs else c ∷ cs)) t ∙ omega arith
]

pub reads_nothing : (text rest : List ℕ) → IsUtf8 text → rest ≡ unmarked (chars text) → ReadsTo text [] rest
reads_nothing text rest utf8 e =
    let whole : mark_bytes (chars text) + bytes_of rest ≡ length text =
    ap (λ r. mark_bytes (chars text) + bytes_of r) e ∙ marked (chars text) ∙ bytes_of-chars text utf8 in
    record {
      within = omega arith;
      goes_on = λ place more end h l.
          let same : place ≡ mark_bytes (chars text) = omega arith in
          subst (λ r. Lexes (mark_bytes (chars text)) r more end) e (subst (λ p. Lexes p rest more end) same l);
    }

pub reads_gap : (text rest after : List ℕ) (tokens : List Token) → ReadsTo text tokens rest → Fronts IsGap rest after → ReadsTo text tokens after
reads_gap text rest after tokens read front =
    let size = ap bytes_of front.splits ∙ bytes_of-append front.piece after in
    let within = read.within in
    record {
      within = omega arith;
      goes_on = λ place more end h l.
          let start = start_of rest after front.piece text place size h within in
          read.goes_on start.0 more end start.2
          (gap start.0 rest front.piece after end more front.splits front.holds (subst (λ p. Lexes p after more end) start.1 l));
    }
  where
    start_of : (rest after piece text : List ℕ) (place : ℕ) → bytes_of rest ≡ bytes_of piece + bytes_of after → place + bytes_of after ≡ length text
        → bytes_of rest ≤ length text
        → (start : ℕ) × (place ≡ start + bytes_of piece) × (start + bytes_of rest ≡ length text)
    start_of rest after piece text place size h within = (length text - bytes_of rest, omega arith, omega arith)

pub reads_token : (text rest after : List ℕ) (tokens : List Token) (kind : TokenKind) (start end : ℕ)
    → ReadsTo text tokens rest → Fronts (IsToken kind) rest after
    → start + bytes_of rest ≡ length text → end + bytes_of after ≡ length text
    → ReadsTo text (tokens ++ record { kind = kind; start = start; end = end } ∷ []) after
reads_token text rest after tokens kind start end read front at behind =
    let size = ap bytes_of front.splits ∙ bytes_of-append front.piece after in
    let within = read.within in
    let place : start + bytes_of front.piece ≡ end = omega arith in
    record {
      within = omega arith;
      goes_on = λ p more last h l.
          let here : p ≡ start + bytes_of front.piece = omega arith in
          let first : Token = record { kind = kind; start = start; end = end } in
          subst (λ ts. Lexes (mark_bytes (chars text)) (unmarked (chars text)) ts last) (sym (append_assoc tokens (first ∷ []) more))
          (subst (λ e. Lexes (mark_bytes (chars text)) (unmarked (chars text)) (tokens ++ record { kind = kind; start = start; end = e } ∷ more) last) place
          (read.goes_on start (token_at kind start (bytes_of front.piece) ∷ more) last at
          (token start rest front.piece after last kind more front.splits front.holds (subst (λ q. Lexes q after more last) here l))));
    }

-- what is left is shorter
pub gap_shortens : (rest after : List ℕ) → Fronts IsGap rest after → length after < length rest
gap_shortens rest after front =
    let first = gap_first front.piece after front.holds in
    let whole = ap length (front.splits ∙ ap (λ p. p ++ after) first.2) in
    let sum = length-append first.1 after in omega arith

pub token_shortens : (kind : TokenKind) (rest after : List ℕ) → Fronts (IsToken kind) rest after → length after < length rest
token_shortens kind rest after front =
    let first = token_first kind front.piece after front.holds in
    let whole = ap length (front.splits ∙ ap (λ p. p ++ after) first.2) in
    let sum = length-append first.1 after in omega arith

pub reads_all : (text rest : List ℕ) (tokens : List Token) → ReadsTo text tokens rest → rest ≡ [] → Tokenizes text tokens
reads_all text rest tokens read e =
    let within = read.within in let none = ap bytes_of e in
    record {
      lexes = subst (λ ts. Lexes (mark_bytes (chars text)) (unmarked (chars text)) ts []) (append-nil tokens)
          (read.goes_on (length text) [] [] (omega arith) (nothing (length text) rest [] e));
    }

pub reads_fault : (text rest : List ℕ) (tokens : List Token) (place : ℕ) (why : LexWhy)
    → ReadsTo text tokens rest → place + bytes_of rest ≡ length text → FaultHere why rest → IsFault text place why
reads_fault text rest tokens place why read at fault = record {
  before = tokens;
  rest = rest;
  lexes = subst (λ ts. Lexes (mark_bytes (chars text)) (unmarked (chars text)) ts rest) (append-nil tokens)
      (read.goes_on place [] rest at (nothing place rest rest refl));
  goes_on = fault.0;
  nothing = fault.1;
  at_place = at;
  cause = fault.2;
}

-- what is left is no longer than the text
pub fronts_within : (P : List ℕ → List ℕ → Type 0) (rest after : List ℕ) (size : ℕ) → bytes_of rest ≤ size → Fronts P rest after
    → bytes_of after ≤ size
fronts_within P rest after size h front = let whole = ap bytes_of front.splits ∙ bytes_of-append front.piece after in omega arith
