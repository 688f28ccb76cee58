-- How the marks inside a block comment are read.
use Rattle.std.specs.Prelude.{◌≡◌, ℕ, zero, suc, ◌+◌, Bool, true, false, Option, Some, None, List, [], ◌∷◌, length}
use Rattle.std.specs.Str.{chars}
use Rattle.tm_lex.specs.declared.gaps.Mark.{Mark}
use Rattle.tm_lex.specs.declared.gaps.Mark.TheVariants as m
use Rattle.tm_lex.specs.Comments.{is_opening, is_closing}

-- What stands behind the bodies of depth + 1 comments, one in another: a closing mark ends the innermost,
-- and an opening one begins another.
abbrev pub behind_mark : Bool → Bool → ℕ → List ℕ → (ℕ → Option (List ℕ)) → Option (List ℕ) → Option (List ℕ)
behind_mark true o zero rest again more = Some rest
behind_mark true o (suc depth) rest again more = again depth
behind_mark false true depth rest again more = again (suc depth)
behind_mark false false depth rest again more = more

unfoldable pub behind_bodies : ℕ → List ℕ → Option (List ℕ)
behind_bodies depth [] = None
behind_bodies depth (c ∷ []) = None
behind_bodies depth (c ∷ d ∷ rest) =
    behind_mark (is_closing c d) (is_opening c d) depth rest (λ deep. behind_bodies deep rest) (behind_bodies depth (d ∷ rest))

-- what the front of a text inside a comment is, and what that does to the comments that stand open
abbrev pub IsMark : Mark → List ℕ → Type 0
IsMark m.End text = (depth : ℕ) → behind_bodies depth text ≡ None
IsMark (m.Close rest) text =
    (behind_bodies 0 text ≡ Some (chars rest.now))
    × ((depth : ℕ) → behind_bodies (depth + 1) text ≡ behind_bodies depth (chars rest.now))
    × (length text ≡ length (chars rest.now) + 2)
IsMark (m.Open rest) text =
    ((depth : ℕ) → behind_bodies depth text ≡ behind_bodies (depth + 1) (chars rest.now))
    × (length text ≡ length (chars rest.now) + 2)
IsMark (m.Other rest) text =
    ((depth : ℕ) → behind_bodies depth text ≡ behind_bodies depth (chars rest.now))
    × (length text ≡ length (chars rest.now) + 1)
