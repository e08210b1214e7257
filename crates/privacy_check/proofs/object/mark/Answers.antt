use Rattle.std.proofs.Common.{◌<◌, length, get_or, arith}
use Rattle.std.proofs.lemmas.List.{get_or_default}
use Rattle.std.proofs.lemmas.List.Edits.{map_over_more}
use Rattle.privacy_check.specs.Shadows.{next_code}
use Rattle.privacy_check.proofs.Ranges.{left_below}
use Rattle.privacy_check.proofs.object.mark.Goals as goal

pub next-requires-clause-known : goal.next-requires-clause-known
next-requires-clause-known c = left_below (next_code c.args.access c.args.beta) c.args.codes.now c.loop-code.codes c.loop-code.code-index c.args.beta c.loop-code.invariant (omega arith) c.requires.stamps

pub loop-code-preserved : goal.loop-code-preserved
loop-code-preserved c =
    let below : c.loop-code.code-index < length c.args.codes.now = omega arith in
    rw c.next.ensures (map_over_more (next_code c.args.access c.args.beta) c.args.codes.now c.loop-code.codes c.loop-code.code-index (get_or c.loop-code.codes c.loop-code.code-index 0) below c.loop-code.invariant (get_or_default c.loop-code.codes c.loop-code.code-index 0 _ (omega arith)))
