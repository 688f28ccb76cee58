use Rattle.std.proofs.Common.{rules, ◌≡◌, ◌<◌, ◌^◌, ◌==◌, nat_lt, ℕ, sym, ap, ◌∙◌, Some, length, true, arith}
use Rattle.std.proofs.lemmas.Bool.{lt-ltb}
use Rattle.tm_base.specs.Profiles.{number_of}
use Rattle.tm_base.specs.Valid.{twos_complement}
use Rattle.tm_check.specs.Numbers.{first_bytes, may_be_bytes, number_within}
use Rattle.tm_check.specs.Runs.{word_of}
use Rattle.tm_check.proofs.NumberLemmas.{power-fits}
use Rattle.tm_check.proofs.RunLemmas.{all-three, all-told, within-bytes, within-number, within-told}
use Rattle.tm_check.proofs.number.tag.Goals as goal

pub pow-requires : goal.pow-requires
pow-requires c = power-fits c.args.size c.requires.few

pub returns-then-whole-pow : goal.returns-then-whole-pow
returns-then-whole-pow c =
    let w = word_of c.args.run in
    let profile = c.args.profile in
    let size = c.args.size in
    let whole : c.twos_complement-whole.result ≡ twos_complement size c.args.value = search (rules, c.twos_complement-whole.ensures) in
    let is : number_within profile size w ≡ Some c.in-Some.number = sym c.number_within.ensures ∙ c.in-Some.is in
    let bytes : may_be_bytes size w ≡ true = within-bytes profile size w c.in-Some.number is in
    let told : w ≡ c.args.run.told.now = all-told c.args.run.told.now c.args.run.uninit (within-told profile size c.args.run.uninit c.in-Some.number c.args.run.told.now is) in
    let long : length c.args.run.told.now ≡ length w = sym (ap length told) in
    let number : c.in-Some.number ≡ number_of profile w = within-number profile size w c.in-Some.number is in
    let first : c.first_bytes.result ≡ first_bytes profile size (length w) (twos_complement size c.args.value) =
    c.first_bytes.ensures ∙ ap (λ (k : ℕ). first_bytes profile size k c.twos_complement-whole.result) long ∙ ap (first_bytes profile size (length w)) whole in
    let power : c.pow.result ≡ 256 ^ size = c.pow.ensures in
    let below : twos_complement size c.args.value < 256 ^ size = omega (arith, c.if-whole-pow.true) in
    ap (λ (n : ℕ). n == c.first_bytes.result) number ∙ ap (λ (n : ℕ). number_of profile w == n) first
    ∙ all-three (may_be_bytes size w) (nat_lt (twos_complement size c.args.value) (256 ^ size)) (number_of profile w == first_bytes profile size (length w) (twos_complement size c.args.value)) bytes (lt-ltb (twos_complement size c.args.value) (256 ^ size) below)
