use Rattle.std.proofs.Common.{refl}
use Rattle.std.proofs.lemmas.Result.{err_from_is_err_and}
use Rattle.ir_tree.specs.Naming.{type_at}
use Rattle.ir_tree.proofs.Showing.{grows_then, type_within_more}
use Rattle.ir_text.specs.Named.{known_of}
use Rattle.ir_text.proofs.NestedSteps.{bind_fails}
use Rattle.ir_text.proofs.ConstantFuel.{start_keeps}
use Rattle.ir_text.proofs.nested_constants.address_start.Goals as goal

pub returns-in_err-pointer-clause-reads : goal.returns-in_err-pointer-clause-reads
returns-in_err-pointer-clause-reads c = λ later grows.
    let p = err_from_is_err_and c.from_residual-in_err-pointer.result c.from_residual-in_err-pointer.ensures.1 in
    let of = c.in_ok-of.ensures.reads later (grows_then _ _ _ c.in_err-pointer.ensures.grows grows) in
    rw (p.1, p.2, c.address_words.ensures.reads, c.in_ok-mark.ensures.reads, of, c.in_ok-mark-2.ensures.reads) (bind_fails _ _ _ c.in_err-pointer.ensures.reads)

pub returns-clause-reads : goal.returns-clause-reads
returns-clause-reads c = λ later grows.
    let of = c.in_ok-of.ensures.reads later (grows_then _ _ _ c.in_ok-pointer.ensures.grows grows) in
    rw (c.address_words.ensures.reads, c.in_ok-mark.ensures.reads, of, c.in_ok-mark-2.ensures.reads, c.in_ok-pointer.ensures.reads) refl

pub returns-clause-within : goal.returns-clause-within
returns-clause-within c = type_within_more _ _ _ c.in_ok-pointer.ensures.grows c.in_ok-of.ensures.within

pub returns-clause-no_longer : goal.returns-clause-no_longer
returns-clause-no_longer c =
    let last = c.pointer.new.names in
    let of = c.in_ok-of.ensures.reads last c.in_ok-pointer.ensures.grows in
    start_keeps (known_of last c.args.known.now) c.args.cursor.now c.pointer.new.cursor (type_at last c.in_ok-of.of)
    (rw (c.address_words.ensures.reads, c.in_ok-mark.ensures.reads, of, c.in_ok-mark-2.ensures.reads, c.in_ok-pointer.ensures.reads) refl)
