use Rattle.std.proofs.Common.{◌≡◌, ◌++◌, drop}
use Rattle.ir_tree.specs.Written.{shown_module}
use Rattle.run_report.specs.Report.{global_lines}
use Rattle.run_report.proofs.report.put_globals.Given as goal

abbrev pub invariant-loop-global : goal.invariant-loop-global
invariant-loop-global l = l.to ++ global_lines (shown_module l.tree) (drop l.global-index l.globals) ≡ l.fn.to ++ global_lines (shown_module l.fn.tree) l.globals
