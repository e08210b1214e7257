use Rattle.std.proofs.Common.{sym, ◌∙◌}
use Rattle.profile_lines.proofs.SpelledLemmas.{pair_step}
use Rattle.profile_lines.proofs.hex.hex_bytes.Goals as goal

pub loop-rest-preserved : goal.loop-rest-preserved
loop-rest-preserved c =
    rw c.in_ok-push.ensures.ok (
    pair_step c.loop-rest.bytes c.loop-rest.rest.now c.in-Some.byte c.in-len2-up.len_at_least (sym c.lower_byte.ensures ∙ c.in-Some.is)
    ∙ c.loop-rest.invariant
    )
