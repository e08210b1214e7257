use Rattle.std.proofs.Common.{arith}
use Rattle.std.proofs.lemmas.Result.{err_from_is_err_and}
use Rattle.ir_tree.proofs.Showing.{grows_then}
use Rattle.ir_text.specs.Named.{known_of}
use Rattle.ir_text.proofs.ConstantTurns.{popped, popped_fails, pushed, pushed_fails, stack_more, stack_pushed, stack_popped, stepped, stepped_fails}
use Rattle.ir_text.proofs.nested_constants.read_constant.Goals as goal

pub steps-preserved : goal.steps-preserved
steps-preserved c =
    let grew = c.in_ok-state-in-Some.ensures.grows in
    let is = c.in-Some.ensures.items in
    record {
      so_far = λ later grows.
          let so_far = rw c.in-Done.is at c.steps.invariant.so_far later (grows_then _ _ _ grew grows) in
          popped (known_of later c.args.known.now) later c.in-Some.open _ _ _ _ _ is so_far (c.in_ok-state-in-Some.ensures.steps later grows);
      within = stack_more _ _ _ grew (stack_popped c.steps.names _ _ _ is c.steps.invariant.within).0;
      state_within = c.in_ok-state-in-Some.ensures.within;
      grows = grows_then _ _ _ c.steps.invariant.grows grew;
      shorter = let less = c.in_ok-state-in-Some.ensures.shorter in let before = c.steps.invariant.shorter in omega arith;
    }

pub returns-in_err-state-in-Some-clause-reads : goal.returns-in_err-state-in-Some-clause-reads
returns-in_err-state-in-Some-clause-reads c = λ later grows.
    let p = err_from_is_err_and c.from_residual-in_err-state-in-Some.result c.from_residual-in_err-state-in-Some.ensures.1 in
    let so_far = rw c.in-Done.is at c.steps.invariant.so_far later (grows_then _ _ _ c.in_err-state-in-Some.ensures.grows grows) in
    rw (p.1, p.2) (popped_fails (known_of later c.args.known.now) later c.in-Some.open _ c.in_err-state-in-Some.field-0.0 _ _ _ c.in-Some.ensures.items so_far (c.in_err-state-in-Some.ensures.steps later grows))

pub steps-preserved-in_ok-state-in-Opened : goal.steps-preserved-in_ok-state-in-Opened
steps-preserved-in_ok-state-in-Opened c =
    let grew = c.in_ok-state-in-Opened.ensures.grows in
    let is = c.in_ok-push-in-Opened.ensures.items in
    let within = rw c.in-Opened.is at c.steps.invariant.state_within in
    record {
      so_far = λ later grows.
          let so_far = rw c.in-Opened.is at c.steps.invariant.so_far later (grows_then _ _ _ grew grows) in
          pushed (known_of later c.args.known.now) later c.in-Opened.open _ _ _ _ _ is so_far (c.in_ok-state-in-Opened.ensures.steps later grows);
      within = stack_pushed c.steps.names _ _ _ c.in-Opened.open grew is c.steps.invariant.within within.0;
      state_within = c.in_ok-state-in-Opened.ensures.within;
      grows = grows_then _ _ _ c.steps.invariant.grows grew;
      shorter = let less = c.in_ok-state-in-Opened.ensures.shorter in let before = c.steps.invariant.shorter in omega arith;
    }

pub returns-in_err-state-in-Opened-clause-reads : goal.returns-in_err-state-in-Opened-clause-reads
returns-in_err-state-in-Opened-clause-reads c = λ later grows.
    let p = err_from_is_err_and c.from_residual-in_err-state-in-Opened.result c.from_residual-in_err-state-in-Opened.ensures.1 in
    let so_far = rw c.in-Opened.is at c.steps.invariant.so_far later (grows_then _ _ _ c.in_err-state-in-Opened.ensures.grows grows) in
    rw (p.1, p.2) (pushed_fails (known_of later c.args.known.now) later c.in-Opened.open _ c.in_err-state-in-Opened.field-0.0 c.steps.stack.items _ so_far (c.in_err-state-in-Opened.ensures.steps later grows))

pub steps-preserved-in_ok-state-in-Going : goal.steps-preserved-in_ok-state-in-Going
steps-preserved-in_ok-state-in-Going c =
    let grew = c.in_ok-state-in-Going.ensures.grows in
    record {
      so_far = λ later grows.
          let so_far = rw c.in-Going.is at c.steps.invariant.so_far later (grows_then _ _ _ grew grows) in
          stepped (known_of later c.args.known.now) later _ c.steps.stack.items _ _ so_far (c.in_ok-state-in-Going.ensures.steps later grows);
      within = stack_more _ _ _ grew c.steps.invariant.within;
      state_within = c.in_ok-state-in-Going.ensures.within;
      grows = grows_then _ _ _ c.steps.invariant.grows grew;
      shorter = let less = c.in_ok-state-in-Going.ensures.shorter in let before = c.steps.invariant.shorter in omega arith;
    }

pub returns-in_err-state-in-Going-clause-reads : goal.returns-in_err-state-in-Going-clause-reads
returns-in_err-state-in-Going-clause-reads c = λ later grows.
    let p = err_from_is_err_and c.from_residual-in_err-state-in-Going.result c.from_residual-in_err-state-in-Going.ensures.1 in
    let so_far = rw c.in-Going.is at c.steps.invariant.so_far later (grows_then _ _ _ c.in_err-state-in-Going.ensures.grows grows) in
    rw (p.1, p.2) (stepped_fails (known_of later c.args.known.now) later _ c.in_err-state-in-Going.field-0.0 c.steps.stack.items _ so_far (c.in_err-state-in-Going.ensures.steps later grows))
