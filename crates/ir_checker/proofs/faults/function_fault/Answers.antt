use Rattle.std.proofs.Common.{refl, ◌∙◌}
use Rattle.ir_tree.specs.Shown.{shown_block}
use Rattle.ir_checker.proofs.ScanLemmas.{empty_shown}
use Rattle.ir_checker.proofs.faults.function_fault.Goals as goal

pub returns : goal.returns
returns c = c.in_ok-found.ensures ∙ rw (c.lacks_block-lack.ensures, c.as_slice-blocks.ensures, empty_shown (shown_block c.args.tree.now.names) c.args.function.now.blocks) refl
