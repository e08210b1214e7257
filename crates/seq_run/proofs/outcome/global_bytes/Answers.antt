use Rattle.std.proofs.Common.{◌∙◌, false}
use Rattle.ir_tree.specs.declared.items.Global.{Global as Variable}
use Rattle.seq_run.proofs.Globals.{constant_more, global_more}
use Rattle.seq_run.proofs.outcome.global_bytes.Goals as goal
use Rattle.seq_run.proofs.outcome.global_bytes.Goals.{then-not-variable+in_ok-bytes+in_ok-push, else-not-variable}

pub loop-number-preserved : goal.loop-number-preserved
loop-number-preserved c =
    let none : Variable _ _ _ = record { name = 0; of = 0; constant = false; init = 0 } in
    elim c.if-not-variable.branch [
      | then-not-variable+in_ok-bytes+in_ok-push w ↦ w.all-is ∙ global_more c.args.memory.now.objects c.args.globals.now c.loop-number.number none c.loop-number.all w.push.new.self w.in_ok-bytes.bytes c.loop-number-test.true w.if-not-variable.true c.loop-number.invariant w.in_ok-bytes.ensures w.in_ok-push.ensures.ok
      | else-not-variable w ↦ w.all-is ∙ constant_more c.args.memory.now.objects c.args.globals.now c.loop-number.number none c.loop-number.all c.loop-number-test.true w.if-not-variable.false c.loop-number.invariant
    ]
