use Rattle.std.proofs.Common.{sym, ◌∙◌}
use Rattle.std.proofs.lemmas.List.{take_rest}
use Rattle.profile_lines.proofs.SpelledLemmas.{escape_step, plain_step}
use Rattle.profile_lines.proofs.name.unquoted.Goals as goal

pub loop-rest-preserved-then-first-eq92 : goal.loop-rest-preserved-then-first-eq92
loop-rest-preserved-then-first-eq92 c =
    rw c.in_ok-push.ensures.ok (
    escape_step c.loop-rest.name c.loop-rest.rest.now _ c.in-Some.byte (take_rest c.loop-rest.rest.now 1) c.in-len1-up.len_at_least c.in-len2-up.len_at_least c.if-first-eq92.true (sym c.hex_byte.ensures ∙ c.in-Some.is)
    ∙ c.loop-rest.invariant
    )

pub loop-rest-preserved : goal.loop-rest-preserved
loop-rest-preserved c =
    rw c.in_ok-push-2.ensures.ok (
    plain_step c.loop-rest.name c.loop-rest.rest.now c.in-len1-up.len_at_least (sym c.is_name_byte.ensures ∙ c.if-is_name_byte.true)
    ∙ c.loop-rest.invariant
    )
