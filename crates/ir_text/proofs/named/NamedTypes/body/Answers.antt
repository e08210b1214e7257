use Rattle.std.proofs.Common.{ap, ◌∙◌}
use Rattle.pv_base.specs.contracts.name.NamePartialEq.TheImpl.{eq-value}
use Rattle.ir_tree.specs.Table.{same_name}
use Rattle.ir_tree.proofs.Tables.{spelled}
use Rattle.ir_text.specs.Named.{body_in}
use Rattle.ir_text.proofs.Looking.{lookup_same}
use Rattle.ir_text.proofs.named.NamedTypes.body.Goals as goal

pub returns : goal.returns
returns c = c.copied.ensures ∙ c.get.ensures.value ∙ lookup_same (eq-value.it c.args.name.now) (same_name c.args.name.now) c.self.inside.bodies.entries (spelled c.args.name.now) ∙ ap (λ bodies. body_in bodies c.args.name.now) c.self.view_is
