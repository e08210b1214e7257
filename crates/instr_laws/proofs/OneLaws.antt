-- Tokens spell at most one instruction.
use Rattle.std.proofs.Common.{◌≡◌, ℕ, ◌+◌, length, arith, List, [], ◌++◌, Ok, refl, sym, ap, ◌∙◌}
use Rattle.std.proofs.lemmas.List.{append_cancel_right}
use Rattle.ir_text.specs.Tokens.{TokenV}
use Rattle.ir_text.specs.Reading.{Outcome, next_is}
use Rattle.ir_text.specs.Passed.{AfterWord, AfterPassed}
use Rattle.ir_instr.specs.Instructions.{instruction_at}
use Rattle.instr_laws.specs.Behind.{BehindInstruction}
use Rattle.instr_laws.specs.Laws.{OneInstruction, OneEnd}
use Rattle.instr_laws.proofs.DispatchLaws.{Instr}
use Rattle.instr_laws.proofs.InstructionLaws.{instruction_laws}

abbrev done : Instr × List TokenV → Outcome Instr
done x = Ok x

same_read : (x y : Instr × List TokenV) → done x ≡ done y → (x.0 ≡ y.0) × (x.1 ≡ y.1)
same_read x y e = let p : x ≡ y = cc in (ap (λ (z : Instr × List TokenV). z.0) p, ap (λ (z : Instr × List TokenV). z.1) p)

pub one_end : OneEnd
one_end known next defined a b ws vs after others s t f g parts =
    let n : ℕ = length ws + length vs in
    let laws = instruction_laws n known next defined in
    let first : instruction_at known next defined (ws ++ after) ≡ Ok (a, after) = laws.complete a ws after (omega arith) s f in
    let second : instruction_at known next defined (vs ++ others) ≡ Ok (b, others) = laws.complete b vs others (omega arith) t g in
    let r = same_read (a, after) (b, others) (sym first ∙ ap (instruction_at known next defined) parts ∙ second) in
    (r.0, append_cancel_right ws vs others (ap (λ (u : List TokenV). ws ++ u) (sym r.1) ∙ parts))

behind_none : BehindInstruction []
unfolding next_is AfterPassed AfterWord
behind_none = record { none = refl; fits = record { none = refl; fits = record { none = refl; fits = record { none = refl; fits = record { none = refl; fits = record { none = refl; fits = tt } } } } } }

pub one_instruction : OneInstruction
one_instruction known next defined a b ws s t = (one_end known next defined a b ws ws [] [] s t behind_none behind_none refl).0
