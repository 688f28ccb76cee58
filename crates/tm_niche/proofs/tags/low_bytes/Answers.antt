use Rattle.std.proofs.Common.{ap, ◌∙◌, ◌+◌, ◌-◌, ◌/◌, ◌++◌}
use Rattle.tm_niche.specs.Forms.{byte_forms}
use Rattle.tm_niche.proofs.MemberLemmas.{bytes-step}
use Rattle.tm_niche.proofs.tags.low_bytes.Goals as goal

pub loop-preserved : goal.loop-preserved
loop-preserved c =
    ap (λ ts. ts ++ byte_forms c.args.negative (c.args.size - (c.loop.counter + 1)) (c.loop.rest / 256)) c.in_ok-push.ensures
    ∙ bytes-step c.args.negative c.args.size c.loop.counter c.loop.rest c.low_byte-byte.result c.loop.bytes c.loop-test.true c.low_byte-byte.ensures
    ∙ c.loop.invariant
