-- The tree of every instruction fits.
use Rattle.std.proofs.lemmas.List.Elements.{recursion_from_All}
use Rattle.ir_code.specs.declared.op.Op.TheVariants as op
use Rattle.seq_effects.specs.Numbers.{calculated, converted, frozen, compared, selected}
use Rattle.seq_effects.specs.Flow.{branched, called, called_through, switched}
use Rattle.seq_machine.specs.Meaning.{meaning}
use Rattle.keeping_laws.specs.Keeping.{IsByte}
use Rattle.keeping_laws.specs.Trees.{EffectFits}
use Rattle.keeping_laws.specs.Laws.{InstructionsFit}
use Rattle.keeping_laws.proofs.Trees.{tell_fits}
use Rattle.keeping_laws.proofs.Numbers.{calculated_fits, converted_fits, frozen_fits, compared_fits, selected_fits}
use Rattle.keeping_laws.proofs.Accesses.{load_fits, store_fits, alloca_fits, address_fits}
use Rattle.keeping_laws.proofs.Flow.{branched_fits, switched_fits, called_fits, through_fits, returned_fits}
use Rattle.keeping_laws.proofs.Externals.{external_fits}

pub instructions_fit : InstructionsFit
unfolding meaning
instructions_fit next h (op.Binary to o flags left right) f k b =
    tell_fits EffectFits next (calculated h.function.registers h.frame to o flags left right) (calculated_fits next h.function.registers h.frame to o flags left right f k.0 k.1)
instructions_fit next h (op.Cast to o flags value width) f k b =
    tell_fits EffectFits next (converted h.function.registers h.frame to o flags value width) (converted_fits next h.function.registers h.frame to o flags value width f k)
instructions_fit next h (op.Freeze to value) f k b = tell_fits EffectFits next (frozen h.function.registers h.frame to value) (frozen_fits next h.function.registers h.frame to value f k)
instructions_fit next h (op.Compare to pred left right) f k b =
    tell_fits EffectFits next (compared h.function.registers h.frame to pred left right) (compared_fits next h.function.registers h.frame to pred left right)
instructions_fit next h (op.Select to c x y) f k b =
    tell_fits EffectFits next (selected h.function.registers h.frame to c x y) (selected_fits next h.function.registers h.frame to c x y f k.0 k.1)
instructions_fit next h op.Phi f k b = tt
instructions_fit next h (op.Alloca to size) f k b = alloca_fits next h.function.registers h.site to size
instructions_fit next h (op.Load to t p) f k b = load_fits next h.function.registers h.frame h.site to t p f k
instructions_fit next h (op.Store t v p) f k b = store_fits next h.frame h.site t v p f k.0 k.1
instructions_fit next h (op.Address to inbounds base indices) f k b = address_fits next h.function.registers h.frame to inbounds base indices f k
instructions_fit next h (op.Call to j arguments) f k b =
    tell_fits EffectFits next (called h.code h.function.registers h.frame to j arguments) (called_fits next h.code h.function.registers h.frame to j arguments f k)
instructions_fit next h (op.CallPointer to p result parameters arguments) f k b =
    tell_fits EffectFits next (called_through h.code h.function.registers h.frame to p result parameters arguments) (through_fits next h.code h.function.registers h.frame to p result parameters arguments f k)
instructions_fit next h (op.CallExternal to e arguments) f k b =
    external_fits next h.function.registers h.frame h.site h.input h.place to arguments f k (recursion_from_All IsByte h.input b) e
instructions_fit next h (op.Return value) f k b = returned_fits next h.function h.frame value f k
instructions_fit next h (op.Jump edge) f k b = tt
instructions_fit next h (op.Branch c x y) f k b = tell_fits EffectFits next (branched h.frame c x y) (branched_fits next h.frame c x y)
instructions_fit next h (op.Switch v d cases) f k b = tell_fits EffectFits next (switched h.frame v d cases) (switched_fits next h.frame v d cases)
instructions_fit next h op.Unreachable f k b = tt
instructions_fit next h op.Stuck f k b = tt
