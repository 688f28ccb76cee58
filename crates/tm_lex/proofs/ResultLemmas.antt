-- The tokens or the fault of a text are the only ones, and what the tokens are in it.
use Rattle.std.proofs.Common.{◌≡◌, ℕ, ◌⊎◌, inl, inr, refl, sym, ap, ◌∙◌, Result, Ok, Err, List, [], ◌∷◌, ◌++◌, arith}
use Rattle.std.specs.Prelude.{IfOk, IfErr, MatchResult}
use Rattle.std.specs.Str.{chars}
use Rattle.tm_lex.specs.declared.token.Token.{Token}
use Rattle.tm_lex.specs.declared.fault.LexWhy.{LexWhy}
use Rattle.tm_lex.specs.declared.fault.LexErr.{LexErr}
use Rattle.tm_lex.specs.declared.fault.LexErr.TheVariants.{At, Memory}
use Rattle.tm_lex.specs.Characters.{bytes_of}
use Rattle.tm_lex.specs.Lexes.{unmarked, mark_bytes, Tokenizes, why_nothing, IsFault, HasCause}
use Rattle.tm_lex.proofs.ClassLemmas.{gap_first, token_first}
use Rattle.tm_lex.proofs.UniqueLemmas.{Halts, one_reading}

halts_at_end : Halts []
halts_at_end = (
  λ piece after e g. let first = gap_first piece after g in
      let f : [] ≡ first.0 ∷ (first.1 ++ after) = e ∙ ap (λ p. p ++ after) first.2 in cc,
  λ kind piece after e t. let first = token_first kind piece after t in
      let f : [] ≡ first.0 ∷ (first.1 ++ after) = e ∙ ap (λ p. p ++ after) first.2 in cc,
)

halts_at_fault : (text : List ℕ) (place : ℕ) (why : LexWhy) (fault : IsFault text place why) → Halts fault.rest
halts_at_fault text place why fault = (fault.nothing.no_gap, fault.nothing.no_token)

-- a text tokenizes to one list of tokens
pub one_tokenizing : (text : List ℕ) (s t : List Token) → Tokenizes text s → Tokenizes text t → s ≡ t
one_tokenizing text s t h k =
    (one_reading (mark_bytes (chars text)) (unmarked (chars text)) s t [] [] h.lexes k.lexes halts_at_end halts_at_end).0

-- a text that tokenizes has no fault
pub not_both : (text : List ℕ) (s : List Token) (place : ℕ) (why : LexWhy) → Tokenizes text s → IsFault text place why → ⊥
not_both text s place why h fault = fault.goes_on (sym
    (one_reading (mark_bytes (chars text)) (unmarked (chars text)) s fault.before [] fault.rest h.lexes fault.lexes halts_at_end
    (halts_at_fault text place why fault)).1)

-- a text has one fault
pub one_fault : (text : List ℕ) (p q : ℕ) (v w : LexWhy) → IsFault text p v → IsFault text q w → (p ≡ q) × (v ≡ w)
one_fault text p q v w h k =
    let same : h.rest ≡ k.rest =
    (one_reading (mark_bytes (chars text)) (unmarked (chars text)) h.before k.before h.rest k.rest h.lexes k.lexes
    (halts_at_fault text p v h) (halts_at_fault text q w k)).1 in
    let bytes = ap bytes_of same in let a = h.at_place in let b = k.at_place in
    (omega arith, h.cause ∙ ap why_nothing same ∙ sym k.cause)

-- an answer of the tokens or of a fault, where the text tokenizes
pub where_tokenized : {X : Type 0} (text : List ℕ) (view : X → List Token) (r : Result X LexErr)
    → IfOk r (λ v. Tokenizes text (view v)) → IfErr r (HasCause text)
    → (tokens : List Token) → Tokenizes text tokens → MatchResult r (λ v. view v ≡ tokens) (λ err. err ≡ Memory)
where_tokenized text view (Ok v) ok err tokens h = one_tokenizing text (view v) tokens ok h
where_tokenized text view (Err Memory) ok err tokens h = refl
where_tokenized text view (Err (At place why)) ok err tokens h = absurd (not_both text tokens place why h err)

-- and where it has a fault
pub where_faulty : {X : Type 0} (text : List ℕ) (view : X → List Token) (r : Result X LexErr)
    → IfOk r (λ v. Tokenizes text (view v)) → IfErr r (HasCause text)
    → (place : ℕ) (why : LexWhy) → IsFault text place why → MatchResult r (λ v. ⊥) (λ err. (err ≡ At place why) ⊎ (err ≡ Memory))
where_faulty text view (Ok v) ok err place why h = not_both text (view v) place why ok h
where_faulty text view (Err Memory) ok err place why h = inr refl
where_faulty text view (Err (At p w)) ok err place why h =
    let same = one_fault text p place w why err h in inl (ap (λ x. At x w) same.0 ∙ ap (At place) same.1)
