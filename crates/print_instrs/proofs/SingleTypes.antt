-- Printed types of one token, of which a form allows only some.
use Rattle.std.proofs.Common.{eqb-true, eq-eqb, ◌≡◌, Bool, true, false, cond, Option, Some, None, Result, Ok, Err, refl, sym, ap, subst, ◌∙◌}
use Rattle.std.specs.Prelude.{is_some}
use Rattle.pv_base.specs.declared.name.Name.{Name}
use Rattle.ir_lex.specs.declared.token.Cause.{Cause}
use Rattle.ir_lex.specs.declared.token.Cause.TheVariants as causes
use Rattle.ir_tree.specs.Layouts.{layout_with}
use Rattle.ir_tree.specs.Trees.{TypeV, IntV, PtrV}
use Rattle.ir_text.specs.Spelled.{one_token}
use Rattle.ir_text.specs.Types.{register_type}
use Rattle.ir_instr.specs.Parts.{same_register, that_type, fixed_type, integer_only, integer_type, no_names, with_layout, stored_type}
use Rattle.ir_instr.specs.Calls.{answer_type}
use Rattle.ir_printer.specs.Operands.{type_pieces}
use Rattle.print_values.specs.Laws.{RegisterTypesReadBack, ResultTypesReadBack}
use Rattle.print_values.proofs.Composing.{printed_as}
use Rattle.print_instrs.proofs.Printing.{Prints}

-- what a test of a register's type lets through
record Passes {B : Type 0} (test : Result TypeV Cause → Result B Cause) (b : B) (of : TypeV) (r : Result TypeV Cause) : Type 0 where
  found : r ≡ Ok of
  again : test (Ok of) ≡ Ok b

same_registers : (a b : TypeV) → same_register a b ≡ true → (b ≡ a) × (same_register a a ≡ true)
same_registers (IntV v) (IntV w) e = (ap IntV (sym (eqb-true v w e)), eq-eqb v v refl)
same_registers PtrV PtrV e = (refl, refl)
same_registers a b e = absurd cc

abbrev met : Result (Unit {0}) Cause
met = Ok tt

that_one : (of found : TypeV) (b : Bool) → same_register of found ≡ b → cond b met (Err causes.Operand) ≡ Ok tt → Passes (that_type of) tt of (Ok found)
that_one of found true is e = let same = same_registers of found is in record { found = ap Ok same.0; again = rw same.1 refl }
that_one of found false is e = absurd cc

that_passes : (of : TypeV) (r : Result TypeV Cause) → that_type of r ≡ Ok tt → Passes (that_type of) tt of r
that_passes of (Ok found) e = that_one of found (same_register of found) refl e
that_passes of (Err cause) e = absurd cc

integer_passes : (of : TypeV) (r : Result TypeV Cause) → integer_only r ≡ Ok of → Passes integer_only of of r
integer_passes of (Ok (IntV w)) e = record { found = e; again = subst (λ (x : Result TypeV Cause). integer_only x ≡ x) e refl }
integer_passes of (Ok other) e = absurd cc
integer_passes of (Err cause) e = absurd cc

laid_one : (of found : TypeV) (b : Bool) → is_some (layout_with no_names found) ≡ b → cond b (Ok found) (Err causes.Layout) ≡ Ok of → Passes with_layout of of (Ok found)
laid_one of found true is e =
    let same : with_layout (Ok found) ≡ Ok found = rw is refl in
    record { found = e; again = subst (λ (x : Result TypeV Cause). with_layout x ≡ x) e same }
laid_one of found false is e = absurd cc

laid_passes : (of : TypeV) (r : Result TypeV Cause) → with_layout r ≡ Ok of → Passes with_layout of of r
laid_passes of (Ok found) e = laid_one of found (is_some (layout_with no_names found)) refl e
laid_passes of (Err cause) e = absurd cc

module _ (registers_back : RegisterTypesReadBack) where
  tested_type : {B : Type 0} (test : Result TypeV Cause → Result B Cause) (b : B) (of : TypeV) → ((r : Result TypeV Cause) → test r ≡ Ok b → Passes test b of r) → Prints (one_token (λ t. test (register_type t)) b) (type_pieces of)
  tested_type test b of passes = record {
    back = λ ws sound s.
        let one = passes (register_type s.token) s.is in
        let p = registers_back of ws (record { token = s.token; parts = s.parts; is = one.found }) in
        printed_as (type_pieces of) (λ us o. record { token = o.token; parts = o.parts; is = ap test o.is ∙ one.again }) p;
  }

  pub register_printed : (of : TypeV) → Prints (one_token register_type of) (type_pieces of)
  register_printed of = record { back = λ ws sound s. registers_back of ws s }

  pub fixed_printed : (of : TypeV) → Prints (one_token (fixed_type of) tt) (type_pieces of)
  fixed_printed of = tested_type (that_type of) tt of (that_passes of)

  pub integer_printed : (of : TypeV) → Prints (one_token integer_type of) (type_pieces of)
  integer_printed of = tested_type integer_only of of (integer_passes of)

  pub stored_printed : (of : TypeV) → Prints (one_token stored_type of) (type_pieces of)
  stored_printed of = tested_type with_layout of of (laid_passes of)

  module _ (results_back : ResultTypesReadBack) where
    pub answer_printed : (to : Option Name) (of : TypeV) → Prints (one_token (answer_type to) of) (type_pieces of)
    answer_printed (Some to) of = register_printed of
    answer_printed None of = record { back = λ ws sound s. results_back of ws s }
