use Rattle.std.proofs.Common.{◌<◌, length, get_or, arith}
use Rattle.std.proofs.lemmas.List.{get_or_default}
use Rattle.std.proofs.lemmas.List.Edits.{map_over_more}
use Rattle.shadow_codes.specs.Codes.{reset_code}
use Rattle.shadow_codes.proofs.codes.reset_each.Goals as goal

pub loop-code-preserved : goal.loop-code-preserved
loop-code-preserved c =
    let below : c.loop-code.code-index < length c.args.codes.now = omega arith in
    rw c.after_period.ensures (map_over_more reset_code c.args.codes.now c.loop-code.codes c.loop-code.code-index (get_or c.loop-code.codes c.loop-code.code-index 0) below c.loop-code.invariant (get_or_default c.loop-code.codes c.loop-code.code-index 0 _ (omega arith)))
