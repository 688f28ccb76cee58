-- Where the tokens of a text stand in it, and that they are no more than its bytes.
use Rattle.std.proofs.Common.{◌≡◌, ℕ, ◌+◌, ◌-◌, ◌<◌, ◌≤◌, zero, suc, subst, ◌∙◌, Ok, Some, List, [], ◌∷◌, length, slice_get, slice_index_or, arith}
use Rattle.std.proofs.lemmas.List.{length-map}
use Rattle.std.proofs.lemmas.List.FromFn.{length-enumerate_from}
use Rattle.std.specs.List.{enumerate_from}
use Rattle.std.specs.Str.{IsUtf8}
use Rattle.tm_lex.specs.declared.token.Token.{Token}
use Rattle.tm_lex.specs.Lexes.{Tokenizes, InOrder}
use Rattle.tm_parse.specs.Spelling.{terminal_of, terminals_of}
use Rattle.tm_lex.proofs.PlaceLemmas.{answers_in_order}

-- a token that begins behind so many bytes or more, and ends within the text
pub record Spans (before : ℕ) (token : Token) (last : ℕ) : Type 0 where
  pub counts : before ≤ token.start
  pub ordered : token.start ≤ token.end
  pub within : token.end ≤ last

-- no place lies behind the last one
reaches : (place last : ℕ) (tokens : List Token) → InOrder place tokens last → place ≤ last
reaches place last [] h = h
reaches place last (t ∷ ts) h = let rest = reaches t.end last ts h.2 in let order = h.0 in let some = h.1 in omega arith

-- before each token there are as many bytes as tokens, at least
each_spans : (place last : ℕ) (tokens : List Token) → InOrder place tokens last
    → (k : ℕ) (d : Token) → k < length tokens → Spans (place + k) (slice_index_or tokens k d) last
each_spans place last [] h k d l = absurd (omega arith)
each_spans place last (t ∷ ts) h zero d l =
    let order = h.0 in let some = h.1 in let rest = reaches t.end last ts h.2 in
    record { counts = omega arith; ordered = omega arith; within = rest }
each_spans place last (t ∷ ts) h (suc k) d l =
    let order = h.0 in let some = h.1 in
    let later = each_spans t.end last ts h.2 k d (omega arith) in let counts = later.counts in
    record { counts = omega arith; ordered = later.ordered; within = later.within }

in_order : (text : List ℕ) (tokens : List Token) → IsUtf8 text → Tokenizes text tokens → InOrder 0 tokens (length text)
in_order text tokens utf8 h = answers_in_order text (λ v. v) {E = Unit {0}} (Ok tokens) utf8 h

pub token_spans : (text : List ℕ) (tokens : List Token) → IsUtf8 text → Tokenizes text tokens
    → (k : ℕ) (d : Token) → k < length tokens → Spans k (slice_index_or tokens k d) (length text)
token_spans text tokens utf8 h k d l =
    let spans = each_spans 0 (length text) tokens (in_order text tokens utf8 h) k d l in let counts = spans.counts in
    record { counts = omega arith; ordered = spans.ordered; within = spans.within }

-- a token ends behind as many bytes as there are tokens up to it, at least
each_ends : (place last : ℕ) (tokens : List Token) → InOrder place tokens last
    → (k : ℕ) (t : Token) → slice_get tokens k ≡ Some t → place + (k + 1) ≤ t.end
each_ends place last [] h k t e = absurd cc
each_ends place last (x ∷ ts) h zero t e = let same : x ≡ t = cc in let order = h.0 in let some = h.1 in subst (λ y. place + 1 ≤ y.end) same (omega arith)
each_ends place last (x ∷ ts) h (suc k) t e =
    let order = h.0 in let some = h.1 in let later = each_ends x.end last ts h.2 k t e in omega arith

pub tokens_end : (text : List ℕ) (tokens : List Token) → IsUtf8 text → Tokenizes text tokens
    → (t : Token) → slice_get tokens (length tokens - 1) ≡ Some t → length tokens ≤ t.end
tokens_end text tokens utf8 h t e =
    let ends = each_ends 0 (length text) tokens (in_order text tokens utf8 h) (length tokens - 1) t e in omega arith

-- there is one terminal for each token
pub terminals_length : (text : List ℕ) (tokens : List Token) → length (terminals_of text tokens) ≡ length tokens
terminals_length text tokens = length-map (enumerate_from 0 tokens) (terminal_of text) ∙ length-enumerate_from 0 tokens
