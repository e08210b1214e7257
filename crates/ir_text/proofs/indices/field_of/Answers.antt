use Rattle.std.proofs.Common.{ℕ, Option, sym, subst}
use Rattle.ir_text.specs.OpenConstants.{TypeWithin}
use Rattle.ir_text.proofs.LaidOut.{no_node}
use Rattle.ir_text.proofs.IndexLaws.{field_within}
use Rattle.ir_text.proofs.indices.field_of.Goals as goal

pub returns-in-Some-clause-within : goal.returns-in-Some-clause-within
returns-in-Some-clause-within c = subst (λ (o : Option ℕ). TypeWithin c.args.names.now o) (sym c.node_field.ensures) (field_within c.args.names.now c.args.of c.args.number c.in-Some.node.now c.is_table.ensures (sym c.in-Some.ensures))

pub returns-in-None-clause-is : goal.returns-in-None-clause-is
returns-in-None-clause-is c = absurd (no_node c.args.names.now.types c.args.of c.in-None.ensures c.requires)
