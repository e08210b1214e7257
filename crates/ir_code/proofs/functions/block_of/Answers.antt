use Rattle.std.specs.Prelude.{fold, []}
use Rattle.std.proofs.Common.{◌≡◌, ◌≤◌, length, ap, ◌∙◌, arith}
use Rattle.std.specs.List.{flat_map}
use Rattle.ir_code.specs.Blocks.{exits_of, joins_of, targets_of, with_exit}
use Rattle.ir_code.proofs.Opening.{joins_within}
use Rattle.ir_code.proofs.Fits.{ops_counted}
use Rattle.ir_code.proofs.Assembling.{own_added, own_counted, block_right}
use Rattle.ir_code.proofs.functions.block_of.Goals as goal

pub overflow_cast-exits : goal.overflow_cast-exits
overflow_cast-exits c =
    let own = own_added c.args.lookups.now c.args.scope.now c.args.block.now.label (flat_map exits_of c.as_slice-instructions.result.now) c.args.edges.now c.add_edges.new.edges c.in_ok-targets.targets c.in_ok-targets.ensures in
    let count = own_counted _ _ _ _ own in
    omega arith

pub invariant_of-exits : goal.invariant_of-exits
invariant_of-exits c =
    let own = own_added c.args.lookups.now c.args.scope.now c.args.block.now.label (flat_map exits_of c.as_slice-instructions.result.now) c.args.edges.now c.add_edges.new.edges c.in_ok-targets.targets c.in_ok-targets.ensures in
    let count = own_counted _ _ _ _ own in
    omega arith

pub overflow_cast-result-2 : goal.overflow_cast-result-2
overflow_cast-result-2 c =
    let count : c.len-count.result ≡ length (joins_of c.as_slice-instructions.result.now) = c.len-count.ensures ∙ ap length c.in_ok-joins.ensures in
    let within : length (joins_of c.as_slice-instructions.result.now) ≤ length c.as_slice-instructions.result.now = joins_within c.as_slice-instructions.result.now in
    omega arith

pub returns-clause-code : goal.returns-clause-code
returns-clause-code c =
    let own = own_added c.args.lookups.now c.args.scope.now c.args.block.now.label (flat_map exits_of c.as_slice-instructions.result.now) c.args.edges.now c.add_edges.new.edges c.in_ok-targets.targets c.in_ok-targets.ensures in
    block_right c.args.module.now c.args.lookups.now c.args.scope.now c.args.first c.args.block.now c.len-count.result c.len-first_edge.result (length c.args.edges.now) c.in_ok-targets.targets c.as_slice-instructions.result.now c.in_ok-ops.ops
    c.as_slice-instructions.ensures
    (c.len-count.ensures ∙ ap length c.in_ok-joins.ensures)
    c.len-first_edge.ensures
    (own.targets_is ∙ ap (λ l. targets_of (fold (with_exit c.args.lookups.now c.args.scope.now c.args.block.now.label) [] (flat_map exits_of l))) c.as_slice-instructions.ensures)
    c.in_ok-ops.ensures

pub returns-clause-fits : goal.returns-clause-fits
returns-clause-fits c =
    let count = ops_counted c.args.module.now c.args.lookups.now c.args.scope.now (record { first = c.len-first_edge.result; targets = c.in_ok-targets.targets }) c.as_slice-instructions.result.now c.in_ok-ops.ops c.in_ok-ops.ensures in
    omega arith
