use Rattle.std.proofs.Common.{◌≡◌, ◌-◌, length, arith, sym, suc}
use Rattle.mem_image.specs.declared.object.Byte.TheVariants.{Unset}
use Rattle.seq_effects.proofs.WordLoops.{byte_fits, byte_more, number_more, no_number}
use Rattle.seq_effects.proofs.words.number_of.Goals as goal

pub with_low_byte-number-requires : goal.with_low_byte-number-requires
with_low_byte-number-requires c = byte_fits (length c.args.bytes.now - c.loop-i.i) c.loop-i.number (omega arith) c.loop-i.invariant.2

pub loop-i-preserved : goal.loop-i-preserved
loop-i-preserved c =
    let same : c.loop-i.i ≡ suc (c.loop-i.i - 1) = omega arith in
    let gap : length c.args.bytes.now - (c.loop-i.i - 1) ≡ suc (length c.args.bytes.now - c.loop-i.i) = omega arith in (
      omega arith,
      rw c.with_low_byte-number.ensures (number_more c.args.bytes.now c.loop-i.i (c.loop-i.i - 1) c.in-Num.byte c.loop-i.number Unset same c.loop-i.invariant.0 c.in-Num.is c.loop-i.invariant.1),
      rw (c.with_low_byte-number.ensures, gap) (byte_more (length c.args.bytes.now - c.loop-i.i) c.loop-i.number c.in-Num.byte c.loop-i.invariant.2 (omega arith)),
    )

pub returns-in_default : goal.returns-in_default
returns-in_default c = sym (no_number c.args.bytes.now (c.loop-i.i - 1) _ (omega arith) c.in_default.not-Num)
