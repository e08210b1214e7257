-- Each instruction takes tokens.
use Rattle.std.proofs.Common.{ℕ, zero, suc, ◌+◌, ◌≤◌, length, arith, Bool, true, false, cond, List, [], ◌∷◌, Option, Some, None, Ok, ap, subst}
use Rattle.std.specs.Prelude.{codes, not}
use Rattle.pv_base.specs.declared.name.Name.{Name}
use Rattle.ir_lex.specs.declared.token.TokenKind.{TokenKind}
use Rattle.ir_lex.specs.declared.token.TokenKind.TheVariants as kind
use Rattle.ir_lex.specs.declared.token.Cause.TheVariants as causes
use Rattle.int_num.specs.declared.ops.BinOp.{BinOp}
use Rattle.int_num.specs.declared.ops.CastOp.{CastOp}
use Rattle.ir_tree.specs.declared.instruction.Argument.{Argument}
use Rattle.ir_tree.specs.declared.instruction.Instruction.{Instruction}
use Rattle.ir_tree.specs.declared.instruction.Instruction.TheVariants as instruction
use Rattle.ir_tree.specs.Trees.{TypeV, IntV, PtrV, VoidV, ArrayV, StructV, NamedV, ConstantV}
use Rattle.ir_text.specs.Tokens.{TokenV, is_mark, is_word, same, among}
use Rattle.ir_text.specs.Reading.{Outcome, Reader, ◌>>=◌, next_is, token_by, wrong}
use Rattle.ir_text.specs.Leaves.{mark_at}
use Rattle.ir_text.specs.Lists.{after_comma, listed_at, mark_for, filled_at, list_at}
use Rattle.ir_text.specs.Passed.{may_pass, passed_at, passed_unless, words_at, stops}
use Rattle.ir_text.specs.Repeated.{repeated_to, repeated_under, repeated}
use Rattle.ir_text.specs.Tails.{tails_at}
use Rattle.ir_text.specs.Trailing.{comma_item, still, trailing_at}
use Rattle.ir_text.specs.Types.{Known, type_at}
use Rattle.ir_text.specs.MemoryTypes.{has_layout, memory_type_at}
use Rattle.ir_text.specs.Operands.{is_local}
use Rattle.ir_text.proofs.Agreeing.{Shortens}
use Rattle.ir_text.proofs.Persisting.{shortens}
use Rattle.ir_text.proofs.PassedLaws.{passed_laws, passed_opens}
use Rattle.ir_text.proofs.TypeFuel.{at_less}
use Rattle.ir_instr.specs.Words.{is_among, meaning_of, operations, casts, resultless, opcodes}
use Rattle.ir_instr.specs.Flags.{one_of, words_of, flags_at, flags_for, cast_flags_for}
use Rattle.ir_instr.specs.Parts.{pointer_at}
use Rattle.ir_instr.specs.Arithmetic.{binary_at}
use Rattle.ir_instr.specs.Casts.{cast_at, freeze_at}
use Rattle.ir_instr.specs.Comparing.{comparing_words, compare_at}
use Rattle.ir_instr.specs.Selecting.{select_at, arm_at, phi_at}
use Rattle.ir_instr.specs.Memory.{begins_tail, uncounted, counted, behind_comma, count_at, alloca_at, load_at, store_at}
use Rattle.ir_instr.specs.Addresses as addresses
use Rattle.ir_instr.specs.Addresses.{address_words, indices_at, address_at}
use Rattle.ir_instr.specs.Calls.{argument_at, written_at, variadic_at, bundle, unbundled, call_at}
use Rattle.ir_instr.specs.Control.{returned_at, return_at, jump_at, branch_at, jump_or_branch_at, case_at, with_case, switch_at}
use Rattle.ir_instr.specs.Instructions.{with_tails, marked_call, call_from, other_at, cast_or_other, binary_or_other, resulting_by, resulting_at, needs_result, effect_of, effect_by, effect_at, assignment_at, instruction_at}
use Rattle.ir_instr.proofs.Shrinking.{Less, Most, Keeps, then_less, most_less, most_most, less_most, choose_less, choose_most, less_of, most_of, still_less, shortens_by, token_less, operand_less, tail_keeps, tails_keep, comma_item_less, target_less, arm_less, case_less}
use Rattle.ir_instr.proofs.AttributeTurns.{repeated_keeps, skipped_keeps}
use Rattle.ir_instr.proofs.ArgumentTurns.{argument_less, comma_argument_less}
use Rattle.ir_instr.proofs.IndexTurns.{integer_less, comma_index_less}

abbrev Read : Type 0
Read = Instruction Name TypeV ConstantV

-- ---- rows of readings

module _ {S A : Type 0} (test : TokenV → Bool) (item : S → Reader A) (next : S → A → S) (less : (s : S) → Shortens (item s)) where
  turns_most : (k n : ℕ) (s : S) (ts : List TokenV) → length ts ≤ n → Most n (repeated_to test item next k s ts)
  unfolding repeated_to
  turns_most zero n s ts few = few
  turns_most (suc k) n s ts few =
      let front : A × List TokenV → Outcome (List A) = λ x. repeated_to test item next k (next s x.0) x.1 >>= λ others. Ok (x.0 ∷ others.0, others.1) in
      choose_most {A = List A} n (next_is test ts) (item s ts >>= front) (Ok ([], ts))
      (most_most n (item s ts) front (less_most n (item s ts) (less_of n (item s) ts (less s) few)) (λ x h.
      most_most n (repeated_to test item next k (next s x.0) x.1) (λ others. Ok (x.0 ∷ others.0, others.1)) (turns_most k n (next s x.0) x.1 h) (λ y g. g))) few

  under_keeps : (s : S) → Keeps (repeated_under test item next s)
  unfolding repeated_under
  under_keeps s ts x e = subst (Most (length ts)) e (turns_most (length ts) (length ts) s ts (omega arith))

words_keep : (stop : TokenV → Bool) → Keeps (words_at stop)
words_keep stop = skipped_keeps (may_pass stop) (passed_at stop) (λ ts x e. shortens 0 _ (passed_at stop) (passed_unless stop) (passed_laws 0 stop) (λ a ws s. let o = passed_opens stop a ws s in omega (arith, ap length o.parts)) ts x e)

flags_keep : (words : List (List ℕ)) → Keeps (words_of words)
flags_keep words = repeated_keeps (is_among words) (token_by (one_of words)) (shortens_by (token_by (one_of words)) (token_less (one_of words)))

flags_most : (words : List (List ℕ)) (n : ℕ) (ts : List TokenV) → length ts ≤ n → Most n (flags_at words ts)
flags_most words n ts few = most_most n (words_of words ts) _ (most_of n (words_of words) ts (flags_keep words) few) (λ x h. h)

tailed : (form : Reader Read) (n : ℕ) (ts : List TokenV) → Less n (form ts) → Less n (with_tails form ts)
tailed form n ts few = then_less n (form ts) _ few (λ a la. then_less n _ _ (still_less n tails_at a.1 tails_keep la) (λ b lb. lb))

-- ---- forms

module _ (known : Known) where
  pointer_less : (n : ℕ) (ts : List TokenV) → length ts ≤ n → Less n (pointer_at known ts)
  pointer_less n ts few = then_less n _ _ (token_less _ n ts few) (λ a la. operand_less known PtrV n a.1 (omega arith))

  if_laid : (n : ℕ) (t : TokenV) (x : TypeV × List TokenV) (b : Bool) → 1 + length x.1 ≤ n → Less n (cond b (let p : Outcome TypeV = Ok x in p) (wrong t causes.Layout))
  if_laid n t x true h = h
  if_laid n t x false h = tt

  memory_type_less : (n : ℕ) (ts : List TokenV) → length ts ≤ n → Less n (memory_type_at known ts)
  unfolding memory_type_at
  memory_type_less n [] few = tt
  memory_type_less n (t ∷ rest) few = then_less n (type_at known (t ∷ rest)) _ (less_of n (type_at known) (t ∷ rest) (at_less known) few) (λ x h. if_laid n t x (has_layout known x.0) h)

  binary_less : (to : Name) (op : BinOp) (n : ℕ) (ts : List TokenV) → length ts ≤ n → Less n (binary_at known to op ts)
  binary_less to op n ts few =
      most_less n _ _ (flags_most (flags_for op) n ts few) (λ a la.
      then_less n _ _ (token_less _ n a.1 la) (λ b lb.
      then_less n _ _ (operand_less known b.0 n b.1 (omega arith)) (λ c lc.
      then_less n _ _ (token_less _ n c.1 (omega arith)) (λ d ld.
      then_less n _ _ (operand_less known b.0 n d.1 (omega arith)) (λ e le. le)))))

  cast_less : (to : Name) (op : CastOp) (n : ℕ) (ts : List TokenV) → length ts ≤ n → Less n (cast_at known to op ts)
  cast_less to op n ts few =
      most_less n _ _ (flags_most (cast_flags_for op) n ts few) (λ a la.
      then_less n _ _ (token_less _ n a.1 la) (λ b lb.
      then_less n _ _ (operand_less known b.0 n b.1 (omega arith)) (λ c lc.
      then_less n _ _ (token_less _ n c.1 (omega arith)) (λ d ld.
      then_less n _ _ (token_less _ n d.1 (omega arith)) (λ e le. le)))))

  freeze_less : (to : Name) (n : ℕ) (ts : List TokenV) → length ts ≤ n → Less n (freeze_at known to ts)
  freeze_less to n ts few =
      then_less n _ _ (token_less _ n ts few) (λ a la.
      then_less n _ _ (operand_less known a.0 n a.1 (omega arith)) (λ b lb. lb))

  compare_less : (to : Name) (n : ℕ) (ts : List TokenV) → length ts ≤ n → Less n (compare_at known to ts)
  compare_less to n ts few =
      most_less n _ _ (most_of n (words_of comparing_words) ts (flags_keep comparing_words) few) (λ a la.
      then_less n _ _ (token_less _ n a.1 la) (λ b lb.
      then_less n _ _ (token_less _ n b.1 (omega arith)) (λ c lc.
      then_less n _ _ (operand_less known c.0 n c.1 (omega arith)) (λ d ld.
      then_less n _ _ (token_less _ n d.1 (omega arith)) (λ e le.
      then_less n _ _ (operand_less known c.0 n e.1 (omega arith)) (λ f lf. lf))))))

  select_less : (to : Name) (n : ℕ) (ts : List TokenV) → length ts ≤ n → Less n (select_at known to ts)
  select_less to n ts few =
      then_less n _ _ (token_less _ n ts few) (λ a la.
      then_less n _ _ (operand_less known (IntV 1) n a.1 (omega arith)) (λ b lb.
      then_less n _ _ (token_less _ n b.1 (omega arith)) (λ c lc.
      then_less n _ _ (token_less _ n c.1 (omega arith)) (λ d ld.
      then_less n _ _ (operand_less known d.0 n d.1 (omega arith)) (λ e le.
      then_less n _ _ (token_less _ n e.1 (omega arith)) (λ f lf.
      then_less n _ _ (token_less _ n f.1 (omega arith)) (λ g lg.
      then_less n _ _ (operand_less known d.0 n g.1 (omega arith)) (λ h lh. lh))))))))

  phi_less : (to : Name) (n : ℕ) (ts : List TokenV) → length ts ≤ n → Less n (phi_at known to ts)
  phi_less to n ts few =
      then_less n _ _ (token_less _ n ts few) (λ a la.
      then_less n _ _ (arm_less known a.0 n a.1 (omega arith)) (λ b lb.
      then_less n _ _ (trailing_less a.0 n b.1 lb) (λ c lc. lc)))
    where
      trailing_less : (of : TypeV) (n : ℕ) (ts : List TokenV) → 1 + length ts ≤ n → Less n (trailing_at (is_mark 91) (arm_at known of) ts)
      trailing_less of n ts few =
          then_less n _ _ (still_less n (repeated_under (is_mark 44) (comma_item (is_mark 91) (arm_at known of)) still true) ts
          (under_keeps (is_mark 44) (comma_item (is_mark 91) (arm_at known of)) still (comma_item_less (is_mark 91) (arm_at known of) (arm_less known of)) true) few) (λ x h. h)

  abbrev Count : Type 0
  Count = Option (Argument Name TypeV ConstantV)

  count_less : (n : ℕ) (ts : List TokenV) → 1 + length ts ≤ n → Less n (count_at known ts)
  count_less n ts few =
      choose_less {A = Count} n (next_is (is_mark 44) ts) (behind_comma known ts) (Ok (None, ts))
      (then_less n (mark_at 44 ts) _ (token_less _ n ts (omega arith)) (λ a la.
      choose_less {A = Count} n (next_is begins_tail a.1) (uncounted known a.1) (counted known a.1)
      (then_less n _ _ (still_less n _ a.1 tail_keeps la) (λ b lb. then_less n _ _ (still_less n tails_at b.1 tails_keep lb) (λ c lc. lc)))
      (then_less n _ _ (integer_less known n a.1 (omega arith)) (λ b lb. then_less n _ _ (still_less n tails_at b.1 tails_keep lb) (λ c lc. lc))))) few

  alloca_less : (to : Name) (n : ℕ) (ts : List TokenV) → length ts ≤ n → Less n (alloca_at known to ts)
  alloca_less to n ts few =
      then_less n _ _ (memory_type_less n ts few) (λ a la.
      then_less n _ _ (count_less n a.1 la) (λ b lb. lb))

  load_less : (to : Name) (n : ℕ) (ts : List TokenV) → length ts ≤ n → Less n (load_at known to ts)
  load_less to n ts few =
      then_less n _ _ (token_less _ n ts few) (λ a la.
      then_less n _ _ (token_less _ n a.1 (omega arith)) (λ b lb.
      then_less n _ _ (pointer_less n b.1 (omega arith)) (λ c lc. lc)))

  store_less : (n : ℕ) (ts : List TokenV) → length ts ≤ n → Less n (store_at known ts)
  store_less n ts few =
      then_less n _ _ (token_less _ n ts few) (λ a la.
      then_less n _ _ (operand_less known a.0 n a.1 (omega arith)) (λ b lb.
      then_less n _ _ (token_less _ n b.1 (omega arith)) (λ c lc.
      then_less n _ _ (pointer_less n c.1 (omega arith)) (λ d ld. ld))))

  indices_less : (of : TypeV) (n : ℕ) (ts : List TokenV) → length ts ≤ n → Less n (indices_at known of ts)
  indices_less of n ts few =
      then_less n _ _ (token_less _ n ts few) (λ a la.
      then_less n _ _ (integer_less known n a.1 (omega arith)) (λ b lb.
      then_less n _ _ (still_less n (repeated_under (is_mark 44) (addresses.behind_comma known) (addresses.still_into known) (Some (addresses.Inside of))) b.1
      (under_keeps (is_mark 44) (addresses.behind_comma known) (addresses.still_into known) (comma_index_less known) (Some (addresses.Inside of))) lb) (λ c lc. lc)))

  address_less : (to : Name) (n : ℕ) (ts : List TokenV) → length ts ≤ n → Less n (address_at known to ts)
  address_less to n ts few =
      most_less n _ _ (most_of n (words_of address_words) ts (flags_keep address_words) few) (λ a la.
      then_less n _ _ (memory_type_less n a.1 la) (λ b lb.
      then_less n _ _ (token_less _ n b.1 (omega arith)) (λ c lc.
      then_less n _ _ (pointer_less n c.1 (omega arith)) (λ d ld.
      then_less n _ _ (indices_less b.0 n d.1 (omega arith)) (λ e le. le)))))

  -- ---- calls

  list_less : (n : ℕ) (ts : List TokenV) → length ts ≤ n → Less n (list_at 41 (argument_at known) ts)
  unfolding list_at
  list_less n ts few =
      choose_less {A = List (Argument Name TypeV ConstantV)} n (next_is (is_mark 41) ts) (mark_for 41 [] ts) (filled_at 41 (argument_at known) ts)
      (then_less n (mark_at 41 ts) _ (token_less _ n ts few) (λ a la. la))
      (then_less n (listed_at (argument_at known) ts) _ (listed_less n ts few) (λ a la. then_less n (mark_at 41 a.1) _ (token_less _ n a.1 (omega arith)) (λ b lb. lb)))
    where
      listed_less : (n : ℕ) (ts : List TokenV) → length ts ≤ n → Less n (listed_at (argument_at known) ts)
      listed_less n ts few =
          then_less n _ _ (argument_less known n ts few) (λ a la.
          then_less n _ _ (still_less n (repeated (is_mark 44) (after_comma (argument_at known))) a.1 (repeated_keeps (is_mark 44) (after_comma (argument_at known)) (comma_argument_less known)) la) (λ b lb. lb))

  variadic_less : (n : ℕ) (ts : List TokenV) → 1 + length ts ≤ n → Less n (variadic_at ts)
  variadic_less n ts few =
      choose_less {A = Bool} n (next_is (is_mark 40) ts) (written_at ts) (Ok (false, ts))
      (then_less n _ _ (token_less _ n ts (omega arith)) (λ a la.
      then_less n _ _ (token_less _ n a.1 (omega arith)) (λ b lb.
      then_less n _ _ (token_less _ n b.1 (omega arith)) (λ c lc.
      then_less n _ _ (token_less _ n c.1 (omega arith)) (λ d ld.
      then_less n _ _ (token_less _ n d.1 (omega arith)) (λ e le. le)))))) few

  unbundled_less : (n : ℕ) (ts : List TokenV) → 1 + length ts ≤ n → Less n (unbundled ts)
  unbundled_less n ts few = choose_less {A = Unit {0}} n (next_is (is_mark 91) ts) (token_by bundle ts) (Ok (tt, ts)) (token_less bundle n ts (omega arith)) few

  call_less : (to : Option Name) (n : ℕ) (ts : List TokenV) → length ts ≤ n → Less n (call_at known to ts)
  call_less to n ts few =
      most_less n _ _ (most_of n (words_at (stops [] true)) ts (words_keep (stops [] true)) few) (λ a la.
      then_less n _ _ (token_less _ n a.1 la) (λ b lb.
      then_less n _ _ (variadic_less n b.1 lb) (λ c lc.
      then_less n _ _ (token_less _ n c.1 (omega arith)) (λ d ld.
      then_less n _ _ (token_less _ n d.1 (omega arith)) (λ e le.
      then_less n _ _ (list_less n e.1 (omega arith)) (λ f lf.
      then_less n _ _ (still_less n (words_at (stops opcodes false)) f.1 (words_keep (stops opcodes false)) lf) (λ g lg.
      then_less n _ _ (unbundled_less n g.1 lg) (λ h lh. lh))))))))

  marked_less : (to : Option Name) (t : TokenV) (n : ℕ) (ts : List TokenV) → length ts ≤ n → Less n (marked_call known to t ts)
  unfolding marked_call
  marked_less to t n [] few = tt
  marked_less to t n (u ∷ rest) few =
      choose_less {A = Read} n (is_word (codes "call") u) (with_tails (call_at known to) rest) (wrong t causes.Instruction) (tailed (call_at known to) n rest (call_less to n rest (omega arith))) tt

  from_less : (to : Option Name) (t : TokenV) (n : ℕ) (ts : List TokenV) → length ts ≤ n → Less n (call_from known to t ts)
  from_less to t n ts few = most_less n _ _ (most_of n (words_at (stops opcodes false)) ts (words_keep (stops opcodes false)) few) (λ a la. marked_less to t n a.1 la)

  -- ---- control

  returned_less : (of : TypeV) (n : ℕ) (ts : List TokenV) → 1 + length ts ≤ n → Less n (returned_at known of ts)
  returned_less VoidV n ts few = few
  returned_less (IntV w) n ts few = then_less n _ _ (operand_less known (IntV w) n ts (omega arith)) (λ a la. la)
  returned_less PtrV n ts few = then_less n _ _ (operand_less known PtrV n ts (omega arith)) (λ a la. la)
  returned_less (ArrayV c of) n ts few = then_less n _ _ (operand_less known (ArrayV c of) n ts (omega arith)) (λ a la. la)
  returned_less (StructV p fs) n ts few = then_less n _ _ (operand_less known (StructV p fs) n ts (omega arith)) (λ a la. la)
  returned_less (NamedV name) n ts few = then_less n _ _ (operand_less known (NamedV name) n ts (omega arith)) (λ a la. la)

  return_less : (n : ℕ) (ts : List TokenV) → length ts ≤ n → Less n (return_at known ts)
  return_less n ts few =
      then_less n _ _ (token_less _ n ts few) (λ a la.
      then_less n _ _ (returned_less a.0 n a.1 la) (λ b lb. lb))

  branch_less : (n : ℕ) (ts : List TokenV) → length ts ≤ n → Less n (branch_at known ts)
  branch_less n ts few =
      then_less n _ _ (token_less _ n ts few) (λ a la.
      then_less n _ _ (operand_less known (IntV 1) n a.1 (omega arith)) (λ b lb.
      then_less n _ _ (token_less _ n b.1 (omega arith)) (λ c lc.
      then_less n _ _ (target_less n c.1 (omega arith)) (λ d ld.
      then_less n _ _ (token_less _ n d.1 (omega arith)) (λ e le.
      then_less n _ _ (target_less n e.1 (omega arith)) (λ f lf. lf))))))

  jump_less : (n : ℕ) (ts : List TokenV) → length ts ≤ n → Less n (jump_or_branch_at known ts)
  jump_less n ts few =
      choose_less {A = Read} n (next_is (is_word (codes "label")) ts) (jump_at ts) (branch_at known ts)
      (then_less n _ _ (target_less n ts few) (λ a la. la)) (branch_less n ts few)

  switch_less : (n : ℕ) (ts : List TokenV) → length ts ≤ n → Less n (switch_at known ts)
  switch_less n ts few =
      then_less n _ _ (token_less _ n ts few) (λ a la.
      then_less n _ _ (operand_less known a.0 n a.1 (omega arith)) (λ b lb.
      then_less n _ _ (token_less _ n b.1 (omega arith)) (λ c lc.
      then_less n _ _ (target_less n c.1 (omega arith)) (λ d ld.
      then_less n _ _ (token_less _ n d.1 (omega arith)) (λ e le.
      then_less n _ _ (still_less n (repeated_under (λ t. not (is_mark 93 t)) (case_at known a.0) with_case []) e.1
      (under_keeps (λ t. not (is_mark 93 t)) (case_at known a.0) with_case (case_less known a.0) []) le) (λ f lf.
      then_less n _ _ (token_less _ n f.1 (omega arith)) (λ g lg. lg)))))))

  -- ---- first words

  module _ (n : ℕ) (t : TokenV) (rest : List TokenV) (few : 1 + length rest ≤ n) where
    other_less : (to : Name) → Less n (other_at known to t rest)
    other_less to =
        choose_less {A = Read} n (same t.text (codes "freeze")) _ _ (tailed (freeze_at known to) n rest (freeze_less to n rest (omega arith)))
        (choose_less {A = Read} n (same t.text (codes "icmp")) _ _ (tailed (compare_at known to) n rest (compare_less to n rest (omega arith)))
        (choose_less {A = Read} n (same t.text (codes "select")) _ _ (tailed (select_at known to) n rest (select_less to n rest (omega arith)))
        (choose_less {A = Read} n (same t.text (codes "phi")) _ _ (phi_less to n rest (omega arith))
        (choose_less {A = Read} n (same t.text (codes "alloca")) _ _ (alloca_less to n rest (omega arith))
        (choose_less {A = Read} n (same t.text (codes "load")) _ _ (tailed (load_at known to) n rest (load_less to n rest (omega arith)))
        (choose_less {A = Read} n (same t.text (codes "getelementptr")) _ _ (address_less to n rest (omega arith))
        (choose_less {A = Read} n (among resultless t.text) (wrong t causes.Instruction) (call_from known (Some to) t (t ∷ rest)) tt (from_less (Some to) t n (t ∷ rest) (omega arith)))))))))

    cast_other_less : (to : Name) (o : Option CastOp) → Less n (cast_or_other known o to t rest)
    cast_other_less to (Some op) = tailed (cast_at known to op) n rest (cast_less to op n rest (omega arith))
    cast_other_less to None = other_less to

    binary_other_less : (to : Name) (o : Option BinOp) → Less n (binary_or_other known o to t rest)
    binary_other_less to (Some op) = tailed (binary_at known to op) n rest (binary_less to op n rest (omega arith))
    binary_other_less to None = cast_other_less to (meaning_of casts t.text)

    by_less : (to : Name) (k : TokenKind) → Less n (resulting_by known k to t rest)
    by_less to kind.Word = binary_other_less to (meaning_of operations t.text)
    by_less to kind.GlobalName = tt
    by_less to kind.LocalName = tt
    by_less to kind.Label = tt
    by_less to kind.Integer = tt
    by_less to kind.Text = tt
    by_less to kind.Punct = tt

    of_less : Less n (effect_of known t rest)
    of_less =
        choose_less {A = Read} n (same t.text (codes "store")) _ _ (tailed (store_at known) n rest (store_less n rest (omega arith)))
        (choose_less {A = Read} n (same t.text (codes "ret")) _ _ (tailed (return_at known) n rest (return_less n rest (omega arith)))
        (choose_less {A = Read} n (same t.text (codes "br")) _ _ (tailed (jump_or_branch_at known) n rest (jump_less n rest (omega arith)))
        (choose_less {A = Read} n (same t.text (codes "switch")) _ _ (tailed (switch_at known) n rest (switch_less n rest (omega arith)))
        (choose_less {A = Read} n (same t.text (codes "unreachable")) _ _ (tailed (λ us. Ok (instruction.Unreachable, us)) n rest few)
        (choose_less {A = Read} n (needs_result known t.text) (wrong t causes.Instruction) (call_from known None t (t ∷ rest)) tt (from_less None t n (t ∷ rest) (omega arith)))))))

    effect_by_less : (k : TokenKind) → Less n (effect_by known k t rest)
    effect_by_less kind.Word = of_less
    effect_by_less kind.GlobalName = tt
    effect_by_less kind.LocalName = tt
    effect_by_less kind.Label = tt
    effect_by_less kind.Integer = tt
    effect_by_less kind.Text = tt
    effect_by_less kind.Punct = tt

  resulting_less : (to : Name) (n : ℕ) (ts : List TokenV) → length ts ≤ n → Less n (resulting_at known to ts)
  unfolding resulting_at
  resulting_less to n [] few = tt
  resulting_less to n (t ∷ rest) few = by_less n t rest (omega arith) to t.kind

  effect_less : (n : ℕ) (ts : List TokenV) → length ts ≤ n → Less n (effect_at known ts)
  unfolding effect_at
  effect_less n [] few = tt
  effect_less n (t ∷ rest) few = effect_by_less n t rest (omega arith) t.kind

  assignment_less : (next : ℕ) (defined : List Name) (n : ℕ) (ts : List TokenV) → length ts ≤ n → Less n (assignment_at known next defined ts)
  assignment_less next defined n ts few =
      then_less n _ _ (token_less _ n ts few) (λ a la.
      then_less n _ _ (token_less _ n a.1 (omega arith)) (λ b lb. resulting_less a.0 n b.1 (omega arith)))

  pub assigned : (next : ℕ) (defined : List Name) → Shortens (assignment_at known next defined)
  assigned next defined = shortens_by (assignment_at known next defined) (assignment_less next defined)

  pub effected : Shortens (effect_at known)
  effected = shortens_by (effect_at known) effect_less

  pub instruction_less : (next : ℕ) (defined : List Name) → Shortens (instruction_at known next defined)
  instruction_less next defined = shortens_by (instruction_at known next defined) (λ n ts few. choose_less {A = Read} n (next_is is_local ts) (assignment_at known next defined ts) (effect_at known ts) (assignment_less next defined n ts few) (effect_less n ts few))
