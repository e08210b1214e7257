-- The value of an index that names a field.
use Rattle.std.proofs.Common.{◌≡◌, ℕ, ◌<◌, length, true, false, List, [], ◌∷◌, Option, Some, None, slice_get, Ok, Err, refl, sym, ap, ◌∙◌, get_or, arith}
use Rattle.std.specs.Prelude.{option_map}
use Rattle.std.proofs.lemmas.Option.{slice_get_within, get_or_from_slice_get}
use Rattle.pv_base.specs.declared.name.Name.{Name}
use Rattle.ir_lex.specs.declared.token.TokenKind.{TokenKind}
use Rattle.ir_lex.specs.declared.token.TokenKind.TheVariants as kind
use Rattle.ir_lex.specs.declared.token.Cause.TheVariants as causes
use Rattle.ir_tree.specs.declared.instruction.Operand.{Operand}
use Rattle.ir_tree.specs.declared.instruction.Operand.TheVariants as operand
use Rattle.ir_tree.specs.declared.nodes.TypeNode.{TypeNode}
use Rattle.ir_tree.specs.declared.nodes.TypeNode.TheVariants as node
use Rattle.ir_tree.specs.Table.{Table, IsTable}
use Rattle.ir_tree.specs.Trees.{TypeV, TypesV, IntV, ConstantV}
use Rattle.ir_tree.specs.Layouts.{field_type}
use Rattle.ir_tree.specs.Naming.{Grows, type_at, types_at}
use Rattle.ir_tree.proofs.Showing.{type_within_more}
use Rattle.ir_text.specs.declared.fault.Fault.TheVariants.{Ended}
use Rattle.ir_text.specs.declared.fault.ReadEnd.{ReadEnd}
use Rattle.ir_text.specs.declared.fault.ReadEnd.TheVariants as ends
use Rattle.ir_text.specs.Tokens.{TokenV, IsBlamed}
use Rattle.ir_text.specs.Reading.{Outcome, ◌>>=◌, next_is, wrong, meant, token_by, Fails}
use Rattle.ir_text.specs.Leaves.{spelled_name}
use Rattle.ir_text.specs.Types.{Known}
use Rattle.ir_text.specs.Operands.{constant_at, kind_is_local, is_local, register, register_by, operand_at}
use Rattle.ir_text.proofs.NestedSteps.{bind_fails, fails_is}
use Rattle.ir_instr.specs.Addresses.{constant_field, field_number, field_of, field_checked, field_value_at}
use Rattle.ir_instr.specs.Placing.{fields_of}
use Rattle.ir_instr.proofs.Contents.{field_type_at, node_stays}

by_kind : (t : TokenV) (rest : List TokenV) (k : TokenKind) → kind_is_local k ≡ true → meant (register_by k t) t rest ≡ Ok (operand.Register (spelled_name t), rest)
by_kind t rest kind.LocalName e = refl
by_kind t rest kind.GlobalName e = absurd cc
by_kind t rest kind.Label e = absurd cc
by_kind t rest kind.Integer e = absurd cc
by_kind t rest kind.Word e = absurd cc
by_kind t rest kind.Text e = absurd cc
by_kind t rest kind.Punct e = absurd cc

pub field_none : (known : Known) (fields : TypesV) (ts : List TokenV) → ts ≡ [] → field_value_at known fields ts ≡ Err Ended
unfolding field_value_at
field_none known fields ts is = rw is refl

fails_at : (t : TokenV) (o : Outcome (Operand Name ConstantV)) (cause : _) (e : ReadEnd) → o ≡ wrong t cause → IsBlamed t cause e → Fails e o
fails_at t o cause ends.Memory is h = tt
fails_at t o cause (ends.Bad fault) is h = is ∙ rw h refl

module _ (known : Known) (fields : TypesV) (ts rest : List TokenV) (t : TokenV) (is : ts ≡ t ∷ rest) where
  value_is : field_value_at known fields ts ≡ (operand_at known (IntV 32) ts >>= λ x. field_checked fields t x (field_number x.0))
  unfolding field_value_at
  value_is = rw is refl

  local_is : next_is is_local ts ≡ true → kind_is_local t.kind ≡ true
  unfolding next_is
  local_is e = sym (ap (next_is is_local) is) ∙ e

  register_is : next_is is_local ts ≡ true → token_by register ts ≡ Ok (operand.Register (spelled_name t), rest)
  unfolding token_by
  register_is e = ap (token_by register) is ∙ by_kind t rest t.kind (local_is e)

  pub field_local : next_is is_local ts ≡ true → (e : ReadEnd) → IsBlamed t causes.Operand e → Fails e (field_value_at known fields ts)
  field_local here e h = fails_at t _ causes.Operand e (value_is ∙ rw (here, register_is here) refl) h

  module _ (apart : next_is is_local ts ≡ false) where
    pub field_fails : (e : ReadEnd) → Fails e (constant_at known 32 ts) → Fails e (field_value_at known fields ts)
    field_fails e h = fails_is e (field_value_at known fields ts) ((constant_at known 32 ts >>= λ c. Ok (operand.Constant c.0, c.1)) >>= λ x. field_checked fields t x (field_number x.0)) (value_is ∙ rw apart refl)
        (bind_fails e (constant_at known 32 ts >>= λ c. Ok (operand.Constant c.0, c.1)) (λ x. field_checked fields t x (field_number x.0)) (bind_fails e (constant_at known 32 ts) (λ c. Ok (operand.Constant c.0, c.1)) h))

    module _ (x : ConstantV × List TokenV) (read : constant_at known 32 ts ≡ Ok x) where
      checked : field_value_at known fields ts ≡ field_checked fields t (operand.Constant x.0, x.1) (constant_field x.0)
      checked = value_is ∙ rw (apart, read) refl

      pub field_unnumbered : constant_field x.0 ≡ None → (e : ReadEnd) → IsBlamed t causes.Operand e → Fails e (field_value_at known fields ts)
      field_unnumbered none e h = fails_at t _ causes.Operand e (checked ∙ rw none refl) h

      pub field_outside : (i : ℕ) → constant_field x.0 ≡ Some i → field_type fields i ≡ None → (e : ReadEnd) → IsBlamed t causes.Number e → Fails e (field_value_at known fields ts)
      field_outside i some none e h = fails_at t _ causes.Number e (checked ∙ rw some (rw none refl)) h

      pub field_inside : (i : ℕ) (of : TypeV) → constant_field x.0 ≡ Some i → field_type fields i ≡ Some of → field_value_at known fields ts ≡ Ok (operand.Constant x.0, x.1)
      field_inside i of some there = checked ∙ rw some (rw there refl)

pub field_into : (fields : TypesV) (c : ConstantV) (i : ℕ) (of : TypeV) → constant_field c ≡ Some i → field_type fields i ≡ Some of → field_of fields (operand.Constant c) ≡ Some of
field_into fields c i of some there = rw some there

-- ---- by number

module _ (old new later : Table) (s : ℕ) (grew : Grows old new) (lt : s < length old.types) (i : ℕ) where
  found : (o : Option ℕ) → o ≡ slice_get (fields_of (slice_get new.types s)) i → slice_get (fields_of (slice_get old.types s)) i ≡ o
  found o e = sym (e ∙ ap (λ (n : Option TypeNode). slice_get (fields_of n) i) (node_stays old new s grew lt))

  pub field_there : (k : ℕ) → Some k ≡ slice_get (fields_of (slice_get new.types s)) i → field_type (types_at later (fields_of (slice_get old.types s))) i ≡ Some (type_at later k)
  field_there k e = field_type_at (type_at later) (fields_of (slice_get old.types s)) i ∙ ap (option_map (type_at later)) (found (Some k) e)

  pub field_missing : None ≡ slice_get (fields_of (slice_get new.types s)) i → field_type (types_at later (fields_of (slice_get old.types s))) i ≡ None
  field_missing e = field_type_at (type_at later) (fields_of (slice_get old.types s)) i ∙ ap (option_map (type_at later)) (found None e)

  below : (n : Option TypeNode) (k : ℕ) → slice_get old.types s ≡ n → IsTable old → slice_get (fields_of n) i ≡ Some k → k < length old.types
  below None k is table at = absurd cc
  below (Some (node.Int w)) k is table at = absurd cc
  below (Some node.Ptr) k is table at = absurd cc
  below (Some node.Void) k is table at = absurd cc
  below (Some (node.Array c of)) k is table at = absurd cc
  below (Some (node.Named x)) k is table at = absurd cc
  below (Some (node.Struct packed ks)) k is table at =
      let all = table.types s (node.Struct packed ks) is in
      let less : get_or ks i k < s = all i k (slice_get_within ks i k at) in
      let same : get_or ks i k ≡ k = get_or_from_slice_get ks i k k at in
      omega arith

  pub field_within : (k : ℕ) → Some k ≡ slice_get (fields_of (slice_get new.types s)) i → IsTable old → k < length new.types
  field_within k e table = type_within_more old new k grew (below (slice_get old.types s) k refl table (found (Some k) e))
