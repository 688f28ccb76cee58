-- What closes the comments that stand open in what is left closes the outermost in the whole.
use denote.Shadow.{shadow}
use denote.Text.{Utf8}
use Rattle.std.proofs.Common.{◌≡◌, ◌+◌, ◌≤◌, length}
use Rattle.std.specs.Str.{chars}
use Rattle.tm_lex.specs.Marks.{behind_bodies}
use Rattle.tm_lex.proofs.gaps.comment_end.Given as goal

abbrev pub invariant-marks : goal.invariant-marks
invariant-marks l =
    shadow (Utf8 l.rest)
    × (behind_bodies l.depth (chars l.rest) ≡ behind_bodies 0 (chars l.fn.text))
    × (l.depth + length (chars l.rest) ≤ length (chars l.fn.text))

abbrev pub decreases-marks : goal.decreases-marks
decreases-marks l = length (chars l.rest)
