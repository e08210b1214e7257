use Rattle.std.proofs.Common.{ap, ◌∙◌}
use Rattle.ir_text.specs.Tokens.{tokens_of}
use Rattle.ir_grammar.specs.NamedTypes.{definitions, named_only, types_in, bodies_in, known_in}
use Rattle.ir_grammar.specs.Texts.{without_records, first_fault, unless_wrong, module_in}
use Rattle.ir_tree.specs.Staying.{StaysSame}
use Rattle.ir_reader.proofs.Settling.{read_is, kept_ok}
use Rattle.ir_reader.proofs.whole.read_module.Goals as goal

pub returns-clause-reading : goal.returns-clause-reading
unfolding bodies_in
returns-clause-reading c =
    let text = c.args.text.now in
    let left = c.as_slice-left.result.now in
    let ts = tokens_of text left in
    let is = c.as_slice-left.ensures ∙ c.in_ok-kept.ensures.kept ∙ ap (without_records text) c.as_slice.ensures in
    rw (read_is text c.in_ok-lexed.lexed left c.in_ok-lexed.ensures.lexed is)
    (c.settle.ensures.reading (unless_wrong (first_fault ts) (module_in ts))
    (c.module_of-read.ensures.reads (types_in ts) (named_only (definitions ts)) (known_in ts) c.in_ok-named.ensures.types (record { names = c.in_ok-named.ensures.only; bodies = c.in_ok-named.ensures.known })))

pub returns-clause-stays : goal.returns-clause-stays
returns-clause-stays c =
    let ts = tokens_of c.args.text.now c.as_slice-left.result.now in
    kept_ok StaysSame c.module_of-read.result c.settle.result c.settle.ensures.kept (c.module_of-read.ensures.stays (types_in ts) (named_only (definitions ts)) (known_in ts) c.in_ok-named.ensures.types
    (record { names = c.in_ok-named.ensures.only; bodies = c.in_ok-named.ensures.known }))
