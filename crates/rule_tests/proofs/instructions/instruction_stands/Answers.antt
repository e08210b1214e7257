use Rattle.std.proofs.Common.{sym}
use Rattle.ir_tree.specs.Modules.{types_of}
use Rattle.rule_tests.proofs.ReadingLemmas.{instruction_is}
use Rattle.rule_tests.proofs.instructions.instruction_stands.Goals as goal

pub returns : goal.returns
returns c =
    rw (c.are_registers-registers.ensures, c.answer_stands-answer.ensures, c.memory_stands-memory.ensures, c.in_ok-cases.ensures, c.in_ok-inside.ensures, c.as_slice.ensures, c.in_ok-types.ensures, c.names-names.ensures)
    (sym (instruction_is c.args.tree.now.names (types_of c.args.tree.now) c.args.instruction.now))
