-- How a gap or a token at the front of a text is made of its characters.
use Rattle.std.proofs.Common.{◌≡◌, ◌==◌, ℕ, refl, sym, ap, ◌∙◌, subst, true, Some, List, [], ◌∷◌, ◌++◌}
use Rattle.std.specs.Char.{is_ascii_digit}
use Rattle.std.proofs.lemmas.Bool.{both_ways}
use Rattle.tm_lex.specs.declared.token.TokenKind.TheVariants.{Word, Lifetime, Number, Punct, Arrow}
use Rattle.tm_lex.specs.Characters.{IsRun, Stops, run_of}
use Rattle.tm_lex.specs.Marks.{behind_bodies}
use Rattle.tm_lex.specs.Gaps.{is_white_space, is_in_line, IsGap, white_space, line_comment, block_comment}
use Rattle.tm_lex.specs.Words.{begins_word, continues_word}
use Rattle.tm_lex.specs.Numbers.{number_of, IsDigitRun}
use Rattle.tm_lex.specs.Tokens.{is_punct, IsToken}
use Rattle.tm_lex.specs.Pieces.{Fronts, BeginsWithDigit}
use Rattle.tm_lex.proofs.CommentLemmas.{body_found}
use Rattle.tm_lex.proofs.RunLemmas.{run_of-run}
use Rattle.tm_lex.proofs.ClassLemmas.{digit_continues}

pub space_gap : (text rest : List ℕ) (c : ℕ) → text ≡ c ∷ rest → is_white_space c ≡ true → Fronts IsGap text rest
space_gap text rest c e h = record { piece = c ∷ []; splits = e; holds = white_space c refl h }

pub line_gap : (text rest after : List ℕ) → text ≡ 47 ∷ 47 ∷ rest → Fronts (IsRun is_in_line) rest after → Fronts IsGap text after
line_gap text rest after e run = record {
  piece = 47 ∷ 47 ∷ run.piece;
  splits = e ∙ ap (λ t. 47 ∷ 47 ∷ t) run.splits;
  holds = line_comment run.piece refl run.holds;
}

pub block_gap : (rest after : List ℕ) → behind_bodies 0 rest ≡ Some after → Fronts IsGap (47 ∷ 42 ∷ rest) after
block_gap rest after h = let body = body_found rest after h in record {
  piece = 47 ∷ 42 ∷ body.0;
  splits = ap (λ t. 47 ∷ 42 ∷ t) body.2;
  holds = block_comment body.0 refl body.1;
}

pub word_token : (text rest after : List ℕ) (c : ℕ) → text ≡ c ∷ rest → begins_word c ≡ true
    → Fronts (IsRun continues_word) rest after → Fronts (IsToken Word) text after
word_token text rest after c e h run = record {
  piece = c ∷ run.piece;
  splits = e ∙ ap (λ t. c ∷ t) run.splits;
  holds = (h, run.holds);
}

pub lifetime_token : (text rest after : List ℕ) (c : ℕ) → text ≡ c ∷ rest → begins_word c ≡ true
    → Fronts (IsRun continues_word) rest after → Fronts (IsToken Lifetime) (39 ∷ text) after
lifetime_token text rest after c e h run = record {
  piece = 39 ∷ c ∷ run.piece;
  splits = ap (λ t. 39 ∷ t) (e ∙ ap (λ t. c ∷ t) run.splits);
  holds = (c ∷ run.piece, refl, (h, run.holds));
}

pub arrow_token : (text rest : List ℕ) → text ≡ 61 ∷ 62 ∷ rest → Fronts (IsToken Arrow) text rest
arrow_token text rest e = record { piece = 61 ∷ 62 ∷ []; splits = e; holds = refl }

pub punct_token : (text rest : List ℕ) (c : ℕ) → text ≡ c ∷ rest → is_punct c ≡ true → (c ≡ 61 → Stops (λ d. d == 62) rest)
    → Fronts (IsToken (Punct c)) text rest
punct_token text rest c e h last = record { piece = c ∷ []; splits = e; holds = (refl, h, last) }

-- a run at a digit begins with that digit
pub digit_run : (text piece after : List ℕ) → text ≡ piece ++ after → IsRun continues_word piece after → BeginsWithDigit text
    → IsDigitRun piece after
digit_run [] piece after e run h = absurd h
digit_run (c ∷ more) [] [] e run h = absurd cc
digit_run (c ∷ more) [] (d ∷ after) e run h =
    let same : c ≡ d = cc in absurd (both_ways (continues_word d) run.1 (digit_continues d (subst (λ x. is_ascii_digit x ≡ true) same h)))
digit_run (c ∷ more) (d ∷ piece) after e run h =
    let same : c ≡ d = cc in (subst (λ x. is_ascii_digit x ≡ true) same h, run)

pub number_token : (text after : List ℕ) (value : ℕ) → BeginsWithDigit text → number_of (run_of continues_word text) ≡ Some value
    → Fronts (IsRun continues_word) text after → Fronts (IsToken (Number value)) text after
number_token text after value h n run = record {
  piece = run.piece;
  splits = run.splits;
  holds = (
    digit_run text run.piece after run.splits run.holds h,
    ap number_of (sym (ap (run_of continues_word) run.splits ∙ run_of-run continues_word run.piece after run.holds)) ∙ n,
  );
}
