use Rattle.std.proofs.Common.{map}
use Rattle.ir_tree.specs.Naming.{name_at}
use Rattle.ir_tree.specs.Shown.{shown}
use Rattle.ir_text.specs.Named.{known_of, layout_in}
use Rattle.ir_text.proofs.LaidOut.{laid_later}
use Rattle.ir_instr.specs.Instructions.{assignment_at, effect_at}
use Rattle.ir_instr.proofs.Kept.{same_table}
use Rattle.ir_instr.proofs.Openings.{results_none, taken}
use Rattle.ir_instr.proofs.Consuming.{assigned, effected}
use Rattle.ir_instr.proofs.instructions.instruction.Goals as goal

pub returns-then-sees_local-clause-shorter : goal.returns-then-sees_local-clause-shorter
returns-then-sees_local-clause-shorter c =
    let t = c.assignment.new.names in
    let known = known_of t c.args.known.now in
    let defined = map (name_at t) c.args.defined.now in
    taken (shown t) (assignment_at known c.args.next defined) c.args.cursor.now c.assignment.new.cursor c.assignment.result (assigned known c.args.next defined) (c.assignment.ensures.reads t (same_table t))

pub returns-clause-shorter : goal.returns-clause-shorter
returns-clause-shorter c =
    let t = c.effect.new.names in
    let known = known_of t c.args.known.now in
    taken (shown t) (effect_at known) c.args.cursor.now c.effect.new.cursor c.effect.result (effected known) (c.effect.ensures.reads t (same_table t))

pub returns-clause-result : goal.returns-clause-result
returns-clause-result c = results_none c.effect.new.names c.args.defined.now c.effect.result c.effect.ensures.result

pub returns-clause-laid : goal.returns-clause-laid
returns-clause-laid c = laid_later c.args.names.now c.effect.new.names c.is_table.ensures c.effect.ensures.grows (layout_in c.args.known.now) c.args.layouts.now c.requires.laid
