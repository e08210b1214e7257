use Rattle.std.proofs.Common.{refl}
use Rattle.seq_machine.specs.Acts.{next}
use Rattle.seq_machine.specs.Step.{stands}
use Rattle.seq_machine.proofs.Kept.{more_fits}
use Rattle.machine_calls.proofs.Changes.{changed_is, passed, state_changed, frame_next}
use Rattle.machine_calls.proofs.change.skip.Goals as goal

pub next-requires-clause-place : goal.next-requires-clause-place
next-requires-clause-place g c = λ f e. more_fits c.args.code.now f c.requires.code (c.requires.more f e)

pub returns-clause-skipped : goal.returns-clause-skipped
returns-clause-skipped g c =
    passed c.args.state.now c.next.new.frames (changed_is next c.args.state.now.frames c.next.new.frames c.requires.state.frames.filled c.next.ensures)

pub returns-clause-kept : goal.returns-clause-kept
returns-clause-kept g c =
    state_changed c.args.code.now (stands g.M.Mem.image c.args.state.now) c.next.new.frames _ next c.requires.state
    (changed_is next c.args.state.now.frames c.next.new.frames c.requires.state.frames.filled c.next.ensures)
    (λ f. refl) (λ f. refl) (λ f t ok. frame_next c.args.code.now f ok (c.requires.more f t))
