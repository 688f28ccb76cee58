-- Worked lines of reports.
use Rattle.std.proofs.Common.{◌≡◌, refl, replicate, None, Some, [], ◌∷◌, ◌++◌}
use Rattle.std.specs.Prelude.{codes}
use Rattle.std.specs.Fmt.{digits}
use Rattle.tm_base.specs.declared.answer.Answer.TheVariants.{YesBecause, NoAt}
use Rattle.tm_base.specs.declared.answer.Rule.TheVariants.{NeedsInit, RefAlignment, RefPointee}
use Rattle.tm_base.specs.declared.cell.Cell.TheVariants.{Byte, Uninit}
use Rattle.tm_base.specs.Cells.{pointer_of}
use Rattle.tm_base.specs.Tables.{Tables}
use Rattle.tm_report.specs.AnswerLines.{answer_line, summary_line}
use Rattle.tm_report.specs.FaultLines.{line_end}
use Rattle.tm_report.specs.WordTexts.{word_text}

joined : word_text (Byte 0 ∷ Uninit ∷ replicate 6 (Byte 0)) ≡ codes "00 -- 00*6"
unfolding digits
joined = refl

three-apart : word_text (replicate 3 Uninit ++ replicate 5 (Byte 0xAB)) ≡ codes "-- -- -- ab*5"
unfolding digits
three-apart = refl

references-apart : word_text (replicate 8 (Byte 0) ++ pointer_of 8 1 ++ pointer_of 8 1) ≡ codes "00*8 &1 &1"
unfolding digits
references-apart = refl

an-example : (tables : Tables) → answer_line 2 tables (YesBecause []) ≡ codes "2: yes, example empty" ++ line_end
unfolding digits
an-example tables = refl

bytes-of-a-no : (tables : Tables) → answer_line 26 tables (NoAt NeedsInit 5 (replicate 5 (Byte 0) ++ Uninit ∷ Byte 0 ∷ Byte 0 ∷ []) None) ≡ codes "26: no, needs-init at 5, bytes 00*5 -- 00 00" ++ line_end
unfolding digits
bytes-of-a-no tables = refl

a-local-fault : (tables : Tables) → answer_line 12 tables (NoAt RefAlignment 0 (pointer_of 8 1) (Some (record { source = record { 0 = 1 }; target = record { 0 = 0 }; depth = 0 }))) ≡ codes "12: no, ref-alignment at 0 (&1 to &0), bytes &1" ++ line_end
unfolding digits
a-local-fault tables = refl

a-deep-fault : (tables : Tables) → answer_line 1 tables (NoAt RefPointee 8 (replicate 8 (Byte 0) ++ pointer_of 8 1) (Some (record { source = record { 0 = 1 }; target = record { 0 = 0 }; depth = 1 }))) ≡ codes "1: no, ref-pointee at 8 (&1 to &0, depth 1), bytes 00*8 &1" ++ line_end
unfolding digits
a-deep-fault tables = refl

counts : summary_line 5 6 1 ≡ codes "5 yes, 6 no, 1 refused" ++ line_end
unfolding digits
counts = refl
