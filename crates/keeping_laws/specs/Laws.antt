-- What a program keeps of its state, from its first state through every step.
use Rattle.std.specs.Prelude.{ℕ, ◌≡◌, ◌≤◌, Ok, All}
use Rattle.pv_base.specs.Outside.{Text}
use Rattle.ir_tree.specs.Modules.{Items}
use Rattle.ir_code.specs.Coding.{code_of}
use Rattle.ir_code.specs.declared.op.Op.{Op}
use Rattle.ir_code.specs.declared.code.Code.{Code}
use Rattle.mem_image.specs.Picture.{Picture}
use Rattle.seq_effects.specs.declared.state.Effect.{Effect}
use Rattle.seq_effects.specs.Script.{Script, outcome}
use Rattle.seq_machine.specs.declared.state.State.{State}
use Rattle.seq_machine.specs.Meaning.{Here, meaning}
use Rattle.seq_machine.specs.Step.{step as one_step, steps_from}
use Rattle.seq_run.specs.First.{first_state}
use Rattle.keeping_laws.specs.Keeping.{Keeps, FrameFits, PictureFits, IsByte}
use Rattle.keeping_laws.specs.Constants.{OpFits, ConstantsFit}
use Rattle.keeping_laws.specs.Modules.{NodesFit}
use Rattle.keeping_laws.specs.Trees.{TreeFits, EffectFits}

-- a tree that fits leaves a memory that fits, which takes no name back, and gives an effect that fits
abbrev pub TreesKeep : Type 0
TreesKeep = (tree : Script Effect) (m n : Picture) (e : Effect) → TreeFits EffectFits m.next tree → PictureFits m → outcome tree m ≡ (Ok e, n) → EffectFits n.next e × PictureFits n × (m.next ≤ n.next)

-- the tree of an instruction whose constants fit, in a frame that fits
abbrev pub InstructionsFit : Type 0
InstructionsFit = (next : ℕ) (h : Here) (o : Op) → FrameFits next h.frame → OpFits next o → All IsByte h.input → TreeFits EffectFits next (meaning h o)

-- a step keeps it, and takes no name back
abbrev pub StepKeeps : Type 0
StepKeeps = (code : Code) (input : Text) (s : State Picture) → ConstantsFit s.memory.next code → All IsByte input → Keeps s → Keeps (one_step code input s).1 × (s.memory.next ≤ (one_step code input s).1.memory.next)

-- so does a run of any number of steps
abbrev pub RunKeeps : Type 0
RunKeeps = (code : Code) (input : Text) (s : State Picture) (n : ℕ) → ConstantsFit s.memory.next code → All IsByte input → Keeps s → Keeps (steps_from code input s n).1

-- the constants in the code of a module are in bounds from the first state of its program on
abbrev pub CodesFit : Type 0
CodesFit = (m : Items) → NodesFit m → ConstantsFit (first_state m).memory.next (code_of m)

-- that state has it
abbrev pub FirstKeeps : Type 0
FirstKeeps = (m : Items) → NodesFit m → Keeps (first_state m)

-- and so has every state of its run
abbrev pub ProgramKeeps : Type 0
ProgramKeeps = (m : Items) (input : Text) (n : ℕ) → NodesFit m → All IsByte input → Keeps (steps_from (code_of m) input (first_state m) n).1
