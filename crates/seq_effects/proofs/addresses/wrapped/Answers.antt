use Rattle.std.proofs.Common.{rules}
use Rattle.std.specs.Prelude.{FitsSigned}
use Rattle.std.specs.Int.{w64, w128}
use Rattle.seq_effects.proofs.Wraps.{wrapped_of}
use Rattle.seq_effects.proofs.addresses.wrapped.Goals as goal

pub returns : goal.returns
returns c =
    let f : FitsSigned w128 c.args.sum.low = search rules in
    let g : FitsSigned w128 c.rem_euclid-low.result = search rules in
    let h : FitsSigned w64 c.cast_signed.result = search rules in
    wrapped_of c.args.sum.low c.args.sum.turns c.rem_euclid-low.result c.cast_signed.result f c.rem_euclid-low.ensures.value g c.cast_signed.ensures h
