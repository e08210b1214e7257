use Rattle.std.proofs.Common.{sym, subst}
use Rattle.ir_text.specs.declared.indices.Wanted.{Wanted}
use Rattle.ir_text.specs.OpenConstants.{WantedWithin}
use Rattle.ir_text.proofs.LaidOut.{no_node}
use Rattle.ir_text.proofs.IndexLaws.{wanted_within}
use Rattle.ir_text.proofs.indices.shape.Goals as goal

pub returns-in-Some-clause-within : goal.returns-in-Some-clause-within
returns-in-Some-clause-within c = subst (λ (w : Wanted). WantedWithin c.args.names.now w) (sym c.node_wanted.ensures) (wanted_within c.args.names.now c.args.of c.in-Some.node.now c.is_table.ensures (sym c.in-Some.ensures))

pub returns-in-None-clause-is : goal.returns-in-None-clause-is
returns-in-None-clause-is c = absurd (no_node c.args.names.now.types c.args.of c.in-None.ensures c.requires)
