use Rattle.std.proofs.Common.{◌∙◌, ◌+ℤ◌, Ok, ap, sym, rules}
use Rattle.std.specs.Prelude.{FitsSigned}
use Rattle.std.specs.Int.{w64, int_wrap}
use Rattle.std.proofs.lemmas.Int.{wrapping_add_is}
use Rattle.mem_image.specs.declared.object.Pointer.TheVariants.{Obj}
use Rattle.seq_effects.specs.Accesses.{exact}
use Rattle.seq_effects.proofs.Wraps.{moved_offset, stays}
use Rattle.seq_effects.proofs.addresses.moved.Goals as goal

pub returns-in-Obj : goal.returns-in-Obj
returns-in-Obj c =
    let f : FitsSigned w64 c.in-Obj.offset = search rules in
    let g : FitsSigned w64 c.wrapped-by.result = search rules in
    rw c.in-Obj.is
    (ap (λ o. Ok (Obj c.in-Obj.name o))
    (wrapping_add_is w64 c.in-Obj.offset c.wrapped-by.result f g ∙ ap (λ w. int_wrap w64 (c.in-Obj.offset +ℤ w)) c.wrapped-by.ensures ∙ sym (moved_offset c.in-Obj.offset (exact c.args.by))))

pub returns-then-by-eq0 : goal.returns-then-by-eq0
returns-then-by-eq0 c = stays c.args.pointer (exact c.args.by) c.wrapped-by.result c.in_default.not-Obj c.wrapped-by.ensures c.if-by-eq0.true
