use Rattle.std.proofs.Common.{◌≡◌, ◌∙◌, sym, ap, subst, Option, arith}
use Rattle.std.specs.Prelude.{IfOk}
use Rattle.ir_tree.specs.Trees.{PtrV}
use Rattle.ir_tree.specs.Naming.{constant_at}
use Rattle.std.proofs.lemmas.Option.{slice_get-get_or}
use Rattle.ir_tree.specs.declared.nodes.ConstantNode.TheVariants as constant
use Rattle.ir_code.specs.declared.op.Fixed.{Fixed}
use Rattle.ir_code.specs.Fixed.{fixed_of}
use Rattle.ir_code.specs.Walking.{node_fixed}
use Rattle.ir_code.proofs.Values.{constant_is, node_right}
use Rattle.ir_code.proofs.fixed.next_fixed.Goals as goal

pub returns-in-Some : goal.returns-in-Some
returns-in-Some c =
    let m = c.args.tree.now in
    let table = rw c.names-names.ensures at c.is_table.ensures in
    let known = rw c.names-names.ensures at (sym c.in-Some.ensures) in
    let same : node_fixed m c.args.items.now c.args.found.now c.in-Some.node.now ≡ fixed_of m PtrV (constant_at m.names c.args.number) =
    node_right m c.args.items.now c.args.found.now c.args.number c.in-Some.node.now table c.requires.items (omega arith)
    (λ j lt. c.requires.found.each j (omega arith)) (table.constants c.args.number c.in-Some.node.now known)
    ∙ ap (fixed_of m PtrV) (sym (constant_is m.names c.args.number c.in-Some.node.now table known)) in
    subst (λ (v : Option Fixed). IfOk c.node_fixed.result (λ r. r ≡ v)) same c.node_fixed.ensures

pub returns-in-None : goal.returns-in-None
returns-in-None c =
    let there = slice_get-get_or c.args.tree.now.names.constants c.args.number constant.Null c.requires.known in
    let missing = rw c.names-names.ensures at c.in-None.ensures in
    absurd cc
