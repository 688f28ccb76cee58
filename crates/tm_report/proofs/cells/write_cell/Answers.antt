use Rattle.std.proofs.Common.{rules, false, ◌<◌, arith}
use Rattle.std.proofs.lemmas.Fmt.{hex_byte}
use Rattle.tm_report.proofs.cells.write_cell.Goals as goal

pub returns-in-Byte : goal.returns-in-Byte
returns-in-Byte c =
    let small : c.in-Byte.byte < 256 = omega arith in
    let two = hex_byte false c.in-Byte.byte small in
    let h = c.write.ensures.bytes in
    rw c.in-Byte.is (search (rules, two))
