-- The first words of instructions.
use Rattle.std.proofs.Common.{◌≡◌, ℕ, ◌<◌, ◌+◌, ◌≤◌, length, arith, List, ◌∷◌, Some, None, Result, Ok, Err}
use Rattle.std.specs.Prelude.{IfOk, IfSome, OnOk}
use Rattle.ir_tree.specs.declared.instruction.Instruction.{Instruction}
use Rattle.ir_tree.specs.Table.{Table}
use Rattle.ir_tree.specs.Naming.{Grows}
use Rattle.ir_tree.proofs.Showing.{name_within_more}
use Rattle.ir_text.specs.declared.fault.ReadEnd.{ReadEnd}
use Rattle.ir_text.specs.Tokens.{TokenV}
use Rattle.ir_text.specs.Reading.{Reader, Reads}
use Rattle.ir_text.proofs.Agreeing.{Shortens}
use Rattle.ir_instr.specs.Defined.{IsNew}
use Rattle.ir_instr.specs.Results.{result_of}

pub some_tokens : (ts rest : List TokenV) (t : TokenV) → ts ≡ t ∷ rest → 0 < length ts
some_tokens ts rest t is = rw is (omega arith)

-- what was read took tokens
pub taken : {X A : Type 0} (view : X → A) (read : Reader A) (ts new : List TokenV) (r : Result X ReadEnd) → Shortens read → Reads view new r (read ts) → OnOk r (length new < length ts)
taken view read ts new (Ok x) less h = let fewer : 1 + length new ≤ length ts = less ts (view x, new) h in omega arith
taken view read ts new (Err e) less h = tt

-- ---- what is defined

pub new_later : (a b : Table) (ks : List ℕ) (k : ℕ) → Grows a b → IsNew a ks k → IsNew b ks k
new_later a b ks k grows new = record { within = name_within_more a b k grows new.within; is_new = new.is_new }

pub results_new : (t : Table) (ks : List ℕ) (to : ℕ) (r : Result (Instruction ℕ ℕ ℕ) ReadEnd) → IfOk r (λ i. result_of i ≡ Some to) → IsNew t ks to → IfOk r (λ i. IfSome (result_of i) (IsNew t ks))
results_new t ks to (Ok i) e new = rw e new
results_new t ks to (Err e) h new = tt

pub results_none : (t : Table) (ks : List ℕ) (r : Result (Instruction ℕ ℕ ℕ) ReadEnd) → IfOk r (λ i. result_of i ≡ None) → IfOk r (λ i. IfSome (result_of i) (IsNew t ks))
results_none t ks (Ok i) e = rw e tt
results_none t ks (Err e) h = tt
