use Rattle.std.proofs.Common.{◌∙◌, ap}
use Rattle.seq_machine.specs.Acts.{types_of, function_at, with_top, put_result}
use Rattle.seq_machine.proofs.Kept.{kept_resumed, resumed_is, more_fits, result_there}
use Rattle.seq_machine.proofs.acts.resume.Goals as goal

pub put_result-requires-clause-place : goal.put_result-requires-clause-place
put_result-requires-clause-place c = λ f e. more_fits c.args.code.now f c.requires.code (c.requires.waits f e).0

pub put_result-requires-clause-to : goal.put_result-requires-clause-to
put_result-requires-clause-to c = λ f e.
    rw (c.call_register-to.ensures f e) (result_there f (types_of (function_at c.args.code.now f)) _ c.args.value (c.requires.frames.each _ f e).registers (c.requires.waits f e).1)

pub returns-clause-frames : goal.returns-clause-frames
returns-clause-frames c =
    resumed_is c.args.code.now c.args.frames.now c.put_result.new.frames c.args.value c.requires.frames.filled
    (λ f e. c.put_result.ensures f e ∙ ap (λ r. with_top c.args.frames.now (put_result f r c.args.value)) (c.call_register-to.ensures f e))

pub returns-clause-kept : goal.returns-clause-kept
returns-clause-kept c =
    let e = resumed_is c.args.code.now c.args.frames.now c.put_result.new.frames c.args.value c.requires.frames.filled
    (λ f e. c.put_result.ensures f e ∙ ap (λ r. with_top c.args.frames.now (put_result f r c.args.value)) (c.call_register-to.ensures f e)) in
    rw e (kept_resumed c.args.code.now c.args.frames.now c.args.value c.requires.frames c.requires.waits)
