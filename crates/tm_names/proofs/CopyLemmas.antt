-- A token of a text is a piece of it.
use Rattle.std.proofs.Common.{◌≡◌, ℕ, ◌<◌, sym, subst, List, Ok, length, get_or}
use Rattle.std.specs.Str.{IsUtf8}
use Rattle.tm_lex.proofs.PlaceLemmas.{answers_pieces}
use Rattle.tm_lex.specs.declared.token.Token.{Token}
use Rattle.tm_lex.specs.Lexes.{IsPieceOf, Tokenizes}

pub token_is_piece : (text : List ℕ) (tokens : List Token) → IsUtf8 text → Tokenizes text tokens
    → (place : ℕ) (token : Token) → place < length tokens → token ≡ get_or tokens place token → IsPieceOf text token
token_is_piece text tokens utf8 h place token within e =
    subst (IsPieceOf text) (sym e) (answers_pieces text (λ v. v) {E = Unit {0}} (Ok tokens) utf8 h place token within)
