use Rattle.std.proofs.Common.{◌≡◌, ◌<◌, List, [], ◌∷◌, ◌++◌, length, Option, sym, ap, subst, ◌∙◌, arith}
use Rattle.std.specs.Prelude.{OnOk, OnErr}
use Rattle.ir_tree.specs.declared.layout.Layout.{Layout}
use Rattle.ir_tree.specs.Naming.{name_at}
use Rattle.ir_tree.specs.Filling.{answer_at, node_layout}
use Rattle.ir_text.specs.Named.{layout_in}
use Rattle.ir_text.proofs.LaidOut.{step_ends, no_node}
use Rattle.ir_text.proofs.layouts.TypeLayouts.step.Goals as goal

pub returns-in-Some-clause-laid : goal.returns-in-Some-clause-laid
returns-in-Some-clause-laid c =
    step_ends (layout_in c.args.known.now) c.args.names.now c.args.self.now c.push.new.self c.push.result c.len.result c.in-Some.node.now c.node_layout-layout.result c.requires.laid c.is_table.ensures c.is_bounded.ensures
    (c.len.ensures ∙ ap length c.self.view_is) (sym c.in-Some.ensures) c.requires.more
    (c.node_layout-layout.ensures ∙ ap (λ (found : List (Option Layout)). node_layout (answer_at found) (λ x. layout_in c.args.known.now (name_at c.args.names.now x)) c.in-Some.node.now) (c.as_slice.ensures ∙ c.self.view_is))
    (subst (λ (found : List (Option Layout)). OnOk c.push.result (c.push.new.self ≡ found ++ c.node_layout-layout.result ∷ [])) c.self.view_is c.push.ensures.ok)
    (subst (λ (found : List (Option Layout)). OnErr c.push.result (c.push.new.self ≡ found)) c.self.view_is c.push.ensures.err)

pub returns-in-None-clause-further : goal.returns-in-None-clause-further
returns-in-None-clause-further c =
    let k_is : c.len.result ≡ length c.args.self.now = c.len.ensures ∙ ap length c.self.view_is in
    let more : length c.args.self.now < length c.args.names.now.types = c.requires.more in
    absurd (no_node c.args.names.now.types c.len.result c.in-None.ensures (omega arith))
