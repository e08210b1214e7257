use Rattle.std.proofs.Common.{◌≡◌, ◌∙◌, length, ap, replicate, None}
use Rattle.std.proofs.lemmas.List.{length-replicate}
use Rattle.ir_code.proofs.Items.{named_items}
use Rattle.ir_code.proofs.fixed.items_by_name.Goals as goal

pub returns : goal.returns
returns c =
    let m = c.args.tree.now in
    let count : c.name_count.result ≡ length m.names.names = c.name_count.ensures ∙ ap (λ t. length t.names) c.names-2.ensures in
    let start = c.in_ok-items.ensures ∙ ap (λ n. replicate n None) count in
    named_items m c.in_ok-items.items c.put_functions.new.items c.put_globals.new.items (rw c.names.ensures at c.is_table.ensures) start (ap length start ∙ length-replicate (length m.names.names) None)
    (rw c.functions-functions.ensures at c.put_functions.ensures) (rw c.globals-globals.ensures at c.put_globals.ensures)
