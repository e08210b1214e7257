use Rattle.std.proofs.Common.{refl}
use Rattle.std.proofs.lemmas.Result.{err_from_is_err_and}
use Rattle.ir_tree.proofs.Showing.{grows_then, type_within_more}
use Rattle.ir_instr.proofs.addresses.inner_index.Goals as goal

pub returns-in_err-index-in-Fields-clause-reads : goal.returns-in_err-index-in-Fields-clause-reads
returns-in_err-index-in-Fields-clause-reads c = λ later grows.
    let p = err_from_is_err_and c.from_residual-in_err-index-in-Fields.result c.from_residual-in_err-index-in-Fields.ensures.1 in
    rw (p.1, p.2, c.in-Fields.ensures.is later (grows_then _ _ _ c.in_err-index-in-Fields.ensures.grows grows)) (c.in_err-index-in-Fields.ensures.reads later grows)

pub returns-in_ok-integer_argument-in-Elements-clause-next : goal.returns-in_ok-integer_argument-in-Elements-clause-next
returns-in_ok-integer_argument-in-Elements-clause-next c = λ later grows. rw (c.in-Elements.ensures.is later (grows_then _ _ _ c.in_ok-integer_argument-in-Elements.ensures.grows grows)) refl

pub returns-in_ok-integer_argument-in-Elements-clause-within : goal.returns-in_ok-integer_argument-in-Elements-clause-within
returns-in_ok-integer_argument-in-Elements-clause-within c = type_within_more _ _ _ c.in_ok-integer_argument-in-Elements.ensures.grows c.in-Elements.ensures.within

pub returns-in_ok-index-in-Fields-clause-reads : goal.returns-in_ok-index-in-Fields-clause-reads
returns-in_ok-index-in-Fields-clause-reads c = λ later grows. rw (c.in-Fields.ensures.is later (grows_then _ _ _ c.in_ok-index-in-Fields.ensures.grows grows)) (c.in_ok-index-in-Fields.ensures.reads later grows)

pub returns-in_ok-index-in-Fields-clause-next : goal.returns-in_ok-index-in-Fields-clause-next
returns-in_ok-index-in-Fields-clause-next c = λ later grows. rw (c.in-Fields.ensures.is later (grows_then _ _ _ c.in_ok-index-in-Fields.ensures.grows grows), c.in_ok-index-in-Fields.ensures.into later grows) refl
