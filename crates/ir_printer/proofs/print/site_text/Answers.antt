use Rattle.std.proofs.Common.{◌≡◌, ◌<◌, ℕ, length, get_or, Some, sym, ap, ◌∙◌}
use Rattle.std.proofs.lemmas.Option.{slice_get-get_or}
use Rattle.ir_tree.specs.declared.items.Function.{Function}
use Rattle.ir_printer.proofs.Sites.{site_written}
use Rattle.ir_printer.proofs.print.site_text.Goals as goal

pub returns : goal.returns
returns c =
    let m = c.args.module.now in
    let f = c.index-functions-at.result in
    let within : c.args.at.function < length m.functions = c.requires in
    let here : get_or m.functions c.args.at.function f ≡ f = sym (rw c.functions.ensures at c.index-functions-at.is) in
    site_written m c.args.at f c.put_global.new.to c.append.new.self c.put_decimal.new.to (slice_get-get_or m.functions c.args.at.function f within ∙ ap (λ (x : Function ℕ ℕ ℕ). Some x) here)
    (rw (c.names.ensures, c.new-text.ensures) at c.in_ok-put_global.ensures) c.in_ok-append.ensures.ok (rw c.from.ensures at c.in_ok-put_decimal.ensures)
