-- Words: names and keywords. The Rust Reference, "Identifiers", without its raw identifiers.
use Rattle.std.specs.Prelude.{◌≡◌, ◌==◌, ℕ, Bool, true, ◌||◌, List, [], ◌∷◌}
use Rattle.unicode_ident.specs.Ident.{is_xid_start, is_xid_continue}
use Rattle.tm_lex.specs.Characters.{IsRun}

abbrev pub begins_word : ℕ → Bool
begins_word c = is_xid_start c || c == 95

abbrev pub continues_word : ℕ → Bool
continues_word c = is_xid_continue c

-- a character that begins a word, and behind it as many that continue one as there are before the rest
abbrev pub IsWord : List ℕ → List ℕ → Type 0
IsWord [] rest = ⊥
IsWord (c ∷ more) rest = (begins_word c ≡ true) × IsRun continues_word more rest
