use Rattle.std.proofs.Common.{map, sym, ◌∙◌}
use Rattle.std.proofs.lemmas.Result.{err_from_is_err_and}
use Rattle.std.proofs.lemmas.List.{map_push}
use Rattle.ir_tree.specs.Shown.{shown_arm}
use Rattle.ir_tree.proofs.Showing.{grows_then}
use Rattle.ir_text.specs.Tokens.{is_mark}
use Rattle.ir_text.specs.Named.{known_of}
use Rattle.ir_text.specs.Trailing.{comma_item, still}
use Rattle.ir_instr.specs.Scalars.{type_of}
use Rattle.ir_instr.specs.Selecting.{arm_at}
use Rattle.ir_instr.proofs.Shrinking.{comma_item_less, arm_less}
use Rattle.ir_instr.proofs.KeptTurns.{kept_some, kept_none, kept_fails, kept_ends, kept_starts}
use Rattle.ir_instr.proofs.selecting.further_arms.Goals as goal

pub returns-in_err-arm-clause-reads : goal.returns-in_err-arm-clause-reads
returns-in_err-arm-clause-reads c = λ later grows.
    let p = err_from_is_err_and c.from_residual.result c.from_residual.ensures.1 in
    let of = type_of c.args.of in
    let known = known_of later c.args.known.now in
    rw (p.1, p.2, ← kept_starts (map (shown_arm later) c.args.first) _)
    (kept_fails (is_mark 44) (comma_item (is_mark 91) (arm_at known of)) still (λ more. comma_item_less (is_mark 91) (arm_at known of) (arm_less known of) more) c.arms.may_stand c.arms.cursor _ _
    (c.arms.invariant.so_far later (grows_then _ _ _ c.in_err-arm.ensures.grows grows)) c.in_err-arm.field-0.0 (sym c.sees.ensures ∙ c.arms-test.true) (c.in_err-arm.ensures.reads later grows))

pub arms-preserved-in-Continue-branch-3 : goal.arms-preserved-in-Continue-branch-3
arms-preserved-in-Continue-branch-3 c = record {
  so_far = λ later grows.
      let of = type_of c.args.of in
      let known = known_of later c.args.known.now in
      let read = rw c.in-Some.is at c.in_ok-arm.ensures.reads later grows in
      rw (c.in_ok-push-in-Some.ensures.ok, map_push)
      (kept_some (is_mark 44) (comma_item (is_mark 91) (arm_at known of)) still (λ more. comma_item_less (is_mark 91) (arm_at known of) (arm_less known of) more) c.arms.may_stand c.arms.cursor _ _
      (c.arms.invariant.so_far later (grows_then _ _ _ c.in_ok-arm.ensures.grows grows)) (shown_arm later c.in-Some.arm) c.further_arm.new.cursor (sym c.sees.ensures ∙ c.arms-test.true) read);
  grows = grows_then _ _ _ c.arms.invariant.grows c.in_ok-arm.ensures.grows;
}

pub arms-preserved : goal.arms-preserved
arms-preserved c = record {
  so_far = λ later grows.
      let of = type_of c.args.of in
      let known = known_of later c.args.known.now in
      let read = rw c.in-None.is at c.in_ok-arm.ensures.reads later grows in
      kept_none (is_mark 44) (comma_item (is_mark 91) (arm_at known of)) still (λ more. comma_item_less (is_mark 91) (arm_at known of) (arm_less known of) more) c.arms.may_stand c.arms.cursor _ _
      (c.arms.invariant.so_far later (grows_then _ _ _ c.in_ok-arm.ensures.grows grows)) c.further_arm.new.cursor (sym c.sees.ensures ∙ c.arms-test.true) read;
  grows = grows_then _ _ _ c.arms.invariant.grows c.in_ok-arm.ensures.grows;
}

pub returns-clause-reads : goal.returns-clause-reads
returns-clause-reads c = λ later grows.
    let of = type_of c.args.of in
    let known = known_of later c.args.known.now in
    sym (kept_starts (map (shown_arm later) c.args.first) _)
    ∙ kept_ends (is_mark 44) (comma_item (is_mark 91) (arm_at known of)) still (λ more. comma_item_less (is_mark 91) (arm_at known of) (arm_less known of) more) c.arms.may_stand c.arms.cursor _ _
    (c.arms.invariant.so_far later grows) (sym c.sees.ensures ∙ c.arms-test.false)
