-- The first state of a program.
use Rattle.std.specs.Prelude.{ℕ, List, [], ◌∷◌, slice_get, Option, None, Some}
use Rattle.int_num.specs.Operations.{of_bits}
use Rattle.ir_tree.specs.Modules.{Items}
use Rattle.ir_code.specs.declared.op.Scalar.{Scalar}
use Rattle.ir_code.specs.declared.code.FunctionCode.{FunctionCode}
use Rattle.ir_code.specs.declared.code.Code.{Code}
use Rattle.ir_code.specs.Coding.{code_of}
use Rattle.ir_bytes.specs.Initial.{first_picture}
use Rattle.mem_image.specs.declared.object.Pointer.TheVariants.{Null}
use Rattle.mem_image.specs.Picture.{Picture}
use Rattle.seq_effects.specs.declared.state.Value.{Value}
use Rattle.seq_effects.specs.declared.state.Value.TheVariants.{Int, Pointer}
use Rattle.seq_effects.specs.declared.state.Frame.{Frame}
use Rattle.seq_machine.specs.declared.state.State.{State}
use Rattle.seq_effects.specs.Flow.{entry_registers}
use Rattle.seq_machine.specs.Acts.{entered}

-- `main` is given nothing, or 0 and null
abbrev pub main_arguments : List Scalar → List Value
main_arguments [] = []
main_arguments (t ∷ ts) = Int (of_bits 32 0) ∷ Pointer Null ∷ []

abbrev pub main_registers : Option FunctionCode → List (Option Value)
main_registers None = []
main_registers (Some g) = entry_registers g (main_arguments g.parameters)

-- one frame, at the first instruction of the function behind the phis of its entry block
abbrev pub first_frames : Code → Option ℕ → List Frame
first_frames code None = []
first_frames code (Some k) = entered code k (main_registers (slice_get code.functions k)) ∷ []

-- the globals with their first bytes, a frame of `main`, nothing read, nothing printed, and no steps taken
abbrev pub first_state : Items → State Picture
first_state m = record { frames = first_frames (code_of m) (code_of m).main; memory = first_picture m; input_place = 0; output = []; steps = 0 }
