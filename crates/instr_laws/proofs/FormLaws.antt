-- The laws of the forms.
use Rattle.std.proofs.Common.{◌≡◌, ℕ, Bool, true, false, List, ◌++◌, Ok, refl}
use Rattle.std.specs.Prelude.{codes, not, is_some}
use Rattle.std.specs.List.{list_any}
use Rattle.pv_base.specs.declared.name.Name.{Name}
use Rattle.int_num.specs.declared.ops.BinOp.{BinOp}
use Rattle.int_num.specs.declared.ops.BinOp.TheVariants as op
use Rattle.int_num.specs.declared.ops.CastOp.{CastOp}
use Rattle.int_num.specs.declared.ops.CastOp.TheVariants as cast
use Rattle.int_num.specs.declared.ops.Flags.{Flags}
use Rattle.int_num.specs.declared.ops.Pred.{Pred}
use Rattle.ir_tree.specs.declared.instruction.Instruction.TheVariants as instruction
use Rattle.ir_tree.specs.Trees.{TypeV, IntV, PtrV}
use Rattle.ir_text.specs.Tokens.{TokenV}
use Rattle.ir_text.specs.Reading.{Meaning}
use Rattle.ir_text.specs.Lawful.{Behind, anything, Lawful}
use Rattle.ir_text.specs.Leaves.{local, mark, word}
use Rattle.ir_text.specs.Passed.{is_type_word, is_int_word}
use Rattle.ir_text.specs.Repeated.{Both}
use Rattle.ir_text.specs.Spelled.{one_token}
use Rattle.ir_text.specs.Types.{Known, register_type}
use Rattle.ir_text.proofs.Choices.{token_laws}
use Rattle.ir_text.proofs.OperandLaws.{operand_laws}
use Rattle.ir_instr.specs.Words.{is_among, worded, predicates, meaning_of}
use Rattle.ir_instr.specs.Parts.{fixed_type, integer_type, stored_type, pointer_at, target_at}
use Rattle.ir_instr.specs.Flags.{flags_of, flags_for, cast_flags_for}
use Rattle.ir_instr.specs.Arithmetic.{binary_at}
use Rattle.ir_instr.specs.Casts.{cast_at, freeze_at}
use Rattle.ir_instr.specs.Comparing.{comparing_words, compare_at}
use Rattle.ir_instr.specs.Selecting.{select_at}
use Rattle.ir_instr.specs.Memory.{load_at, store_at}
use Rattle.ir_instr.specs.Control.{jump_at}
use Rattle.ir_instr.specs.InstructionSpelled.{a_target, a_pointer}
use Rattle.instr_laws.specs.Forms.{Value, a_binary, a_cast, a_freeze, a_compare, a_select, a_load, a_store, a_jump}
use Rattle.instr_laws.proofs.Rows.{last, whole, itself, before, then, pass}
use Rattle.instr_laws.proofs.Opening.{word_of, unopened, one_opens, both_opens, not_among, integer_word, worded_word}
use Rattle.instr_laws.proofs.Said.{says_laws, unsaid}

-- ---- what stands behind words of a list

-- a word that passes where none of the list does
word_behind : {A : Type 0} (p : List ℕ → Bool) (words : List (List ℕ)) → list_any p words ≡ false → (means : Meaning A) → ((t : TokenV) (a : A) → means t ≡ Ok a → word_of p t ≡ true)
    → (a : A) (others : List TokenV → Type 0) (ws rest : List TokenV) → Both (one_token means a) others ws → Behind (is_among words) anything (ws ++ rest)
word_behind p words none means passes a others ws rest b = record {
  none = unopened (is_among words) ws rest (both_opens (λ t. not (is_among words t)) (one_token means a) others ws (λ us s. one_opens (λ t. not (is_among words t)) means a us (λ t e. not_among p words none t (passes t a e)) s) b);
  fits = tt;
}

no_type_flag : (operation : BinOp) → list_any is_type_word (flags_for operation) ≡ false
unfolding is_int_word
no_type_flag op.Add = refl
no_type_flag op.Sub = refl
no_type_flag op.Mul = refl
no_type_flag op.Shl = refl
no_type_flag op.Udiv = refl
no_type_flag op.Sdiv = refl
no_type_flag op.Lshr = refl
no_type_flag op.Ashr = refl
no_type_flag op.Or = refl
no_type_flag op.Urem = refl
no_type_flag op.Srem = refl
no_type_flag op.And = refl
no_type_flag op.Xor = refl

no_type_cast : (operation : CastOp) → list_any is_type_word (cast_flags_for operation) ≡ false
unfolding is_int_word
no_type_cast cast.Trunc = refl
no_type_cast cast.Zext = refl
no_type_cast cast.Sext = refl

no_predicate : list_any (λ w. is_some (meaning_of predicates w)) comparing_words ≡ false
unfolding meaning_of
no_predicate = refl

module _ (n : ℕ) (known : Known) where
  -- ---- parts

  pub target_laws : Lawful n anything target_at a_target
  target_laws = itself (pass (token_laws n (word (codes "label"))) (whole (token_laws n local)))

  pub pointer_laws : Lawful n anything (pointer_at known) (a_pointer known)
  pointer_laws = itself (pass (token_laws n (fixed_type PtrV)) (whole (operand_laws n known PtrV)))

  -- ---- forms

  pub binary_laws : (to : Name) (operation : BinOp) → Lawful n anything (binary_at known to operation) (a_binary known to operation)
  binary_laws to operation =
      before (says_laws n (flags_for operation) flags_of)
      (λ (flags : Flags). then (token_laws n integer_type) (λ (of : TypeV). then (operand_laws n known of) (λ (a : Value). pass (token_laws n (mark 44)) (last (λ (b : Value). instruction.Binary to operation flags of a b) (operand_laws n known of)))))
      (λ flags p ws rest s h. word_behind is_type_word (flags_for operation) (no_type_flag operation) integer_type integer_word p.0 _ ws rest s)

  pub cast_laws : (to : Name) (operation : CastOp) → Lawful n anything (cast_at known to operation) (a_cast known to operation)
  cast_laws to operation =
      before (says_laws n (cast_flags_for operation) flags_of)
      (λ (flags : Flags). then (token_laws n integer_type) (λ (of : TypeV). then (operand_laws n known of) (λ (a : Value). pass (token_laws n (word (codes "to"))) (last (λ (target : TypeV). instruction.Cast to operation flags of a target) (token_laws n integer_type)))))
      (λ flags p ws rest s h. word_behind is_type_word (cast_flags_for operation) (no_type_cast operation) integer_type integer_word p.0 _ ws rest s)

  pub freeze_laws : (to : Name) → Lawful n anything (freeze_at known to) (a_freeze known to)
  freeze_laws to = then (token_laws n register_type) (λ (of : TypeV). last (λ (value : Value). instruction.Freeze to of value) (operand_laws n known of))

  pub compare_laws : (to : Name) → Lawful n anything (compare_at known to) (a_compare known to)
  compare_laws to =
      unsaid n comparing_words anything _ _ _
      (then (token_laws n (worded predicates)) (λ (pred : Pred). then (token_laws n register_type) (λ (of : TypeV). then (operand_laws n known of) (λ (a : Value).
      pass (token_laws n (mark 44)) (last (λ (b : Value). instruction.Compare to pred of a b) (operand_laws n known of))))))
      (λ p ws rest s h. word_behind (λ w. is_some (meaning_of predicates w)) comparing_words no_predicate (worded predicates) (worded_word predicates) p.0 _ ws rest s)

  pub select_laws : (to : Name) → Lawful n anything (select_at known to) (a_select known to)
  select_laws to =
      pass (token_laws n (fixed_type (IntV 1))) (then (operand_laws n known (IntV 1)) (λ (condition : Value).
      pass (token_laws n (mark 44)) (then (token_laws n register_type) (λ (of : TypeV). then (operand_laws n known of) (λ (a : Value).
      pass (token_laws n (mark 44)) (pass (token_laws n (fixed_type of)) (last (λ (b : Value). instruction.Select to condition of a b) (operand_laws n known of))))))))

  pub load_laws : (to : Name) → Lawful n anything (load_at known to) (a_load known to)
  load_laws to = then (token_laws n stored_type) (λ (of : TypeV). pass (token_laws n (mark 44)) (last (λ (p : Value). instruction.Load to of p) pointer_laws))

  pub store_laws : Lawful n anything (store_at known) (a_store known)
  store_laws = then (token_laws n stored_type) (λ (of : TypeV). then (operand_laws n known of) (λ (a : Value). pass (token_laws n (mark 44)) (last (λ (p : Value). instruction.Store of a p) pointer_laws)))

  pub jump_laws : Lawful n anything jump_at (a_jump known)
  jump_laws = last (λ (target : Name). instruction.Jump target) target_laws
