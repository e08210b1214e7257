-- What reading an instruction promises, by how it is spelled.
use Rattle.std.proofs.Common.{refl}
use Rattle.instr_laws.proofs.InstructionLaws.{instruction_laws}
use Rattle.read_laws.specs.Laws.{RegistersStand, AnswersStand, MemoryStands, CasesStand, IndicesStand, ConstantsStand, InstructionsStand}
use Rattle.read_laws.proofs.Forms.{registers, answers, numbers, memory, indices_within}
use Rattle.read_laws.proofs.Operands.{constants}

pub registers_stand : RegistersStand
registers_stand types i r =
    let t = (instruction_laws 0 r.known r.next r.defined).sound r.tokens (i, r.rest) r.read in
    registers r.known r.next r.defined i t.front t.spelled

pub answers_stand : AnswersStand
answers_stand types i r =
    let t = (instruction_laws 0 r.known r.next r.defined).sound r.tokens (i, r.rest) r.read in
    answers r.known r.next r.defined i t.front t.spelled

pub memory_stands : MemoryStands
memory_stands types i r =
    let t = (instruction_laws 0 r.known r.next r.defined).sound r.tokens (i, r.rest) r.read in
    memory r.known r.next r.defined types r.describes i t.front t.spelled

pub cases_stand : CasesStand
cases_stand types i r =
    let t = (instruction_laws 0 r.known r.next r.defined).sound r.tokens (i, r.rest) r.read in
    numbers r.known r.next r.defined i t.front t.spelled

pub indices_inside : IndicesStand
indices_inside types i r =
    let t = (instruction_laws 0 r.known r.next r.defined).sound r.tokens (i, r.rest) r.read in
    indices_within r.known r.next r.defined types r.describes i t.front t.spelled

pub constants_stand : ConstantsStand
constants_stand types i r =
    let t = (instruction_laws 0 r.known r.next r.defined).sound r.tokens (i, r.rest) r.read in
    constants r.known types r.describes r.next r.defined i t.front t.spelled

pub instructions_stand : InstructionsStand
instructions_stand types i r =
    let one = registers_stand types i r in
    let two = answers_stand types i r in
    let three = memory_stands types i r in
    let four = cases_stand types i r in
    let five = indices_inside types i r in
    rw (one, two, three, four, five) refl
