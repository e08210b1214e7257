-- The laws of operands.
use Rattle.std.proofs.Common.{◌≡◌, ℕ, Bool, true, false, List, [], ◌++◌, Ok, refl, ap, ◌∙◌}
use Rattle.std.specs.Prelude.{not}
use Rattle.pv_base.specs.declared.name.Name.{Name}
use Rattle.ir_lex.specs.declared.token.TokenKind.{TokenKind}
use Rattle.ir_lex.specs.declared.token.TokenKind.TheVariants as kind
use Rattle.ir_tree.specs.declared.instruction.Operand.{Operand}
use Rattle.ir_tree.specs.declared.instruction.Operand.TheVariants as operand
use Rattle.ir_tree.specs.Trees.{TypeV, ConstantV}
use Rattle.ir_text.specs.Tokens.{TokenV}
use Rattle.ir_text.specs.Reading.{◌>>=◌, next_is, token_by}
use Rattle.ir_text.specs.Spelled.{InTurn, one_token, nothing}
use Rattle.ir_text.specs.Lawful.{anything, Lawful}
use Rattle.ir_text.specs.Choice.{Opens}
use Rattle.ir_text.specs.Types.{Known, register_type}
use Rattle.ir_text.specs.Constants.{width_of}
use Rattle.ir_text.specs.Operands.{constant_at, a_constant, is_local, kind_is_local, register, register_by, operand_at, argument_at, constant_operand, an_operand, an_argument}
use Rattle.ir_text.proofs.Laws.{nothing_laws}
use Rattle.ir_text.proofs.Choices.{in_turn, token_laws}
use Rattle.ir_text.proofs.ConstantLaws.{constant_opens}
use Rattle.ir_text.proofs.ConstantFuel.{constant_laws}
use Rattle.ir_text.proofs.ChoiceLaws.{choice, opens_more}

register_local : (k : TokenKind) (t : TokenV) (o : Operand Name ConstantV) → register_by k t ≡ Ok o → kind_is_local k ≡ true
register_local kind.LocalName t o e = refl
register_local kind.GlobalName t o e = absurd cc
register_local kind.Label t o e = absurd cc
register_local kind.Integer t o e = absurd cc
register_local kind.Word t o e = absurd cc
register_local kind.Text t o e = absurd cc
register_local kind.Punct t o e = absurd cc

register_opens : (o : Operand Name ConstantV) (ws : List TokenV) → one_token register o ws → Opens is_local ws
register_opens o ws s = record { token = s.token; rest = []; parts = s.parts; is = register_local s.token.kind s.token o s.is }

not_true : (b : Bool) → not b ≡ true → b ≡ false
not_true true e = absurd cc
not_true false e = refl

module _ (n : ℕ) (known : Known) where
  constant_operand_laws : (type : TypeV) → Lawful n anything (λ ts. constant_at known (width_of type) ts >>= λ c. Ok (operand.Constant c.0, c.1)) (constant_operand known type)
  constant_operand_laws type = in_turn n anything (constant_at known (width_of type)) (λ c ts. Ok (operand.Constant c, ts)) _ (λ c. nothing (operand.Constant c)) (constant_laws known n (width_of type)) (λ c. nothing_laws n anything (operand.Constant c))

  not_register : (type : TypeV) (o : Operand Name ConstantV) (ws rest : List TokenV) → constant_operand known type o ws → anything rest → next_is is_local (ws ++ rest) ≡ false
  unfolding next_is
  not_register type o ws rest s b =
      let f = opens_more (λ t. not (is_local t)) (a_constant known (width_of type)) (λ c. nothing (operand.Constant c)) (constant_opens known (width_of type)) o ws s in
      ap (λ (u : List TokenV). next_is is_local (u ++ rest)) f.parts ∙ not_true (is_local f.token) f.is

  pub operand_laws : (type : TypeV) → Lawful n anything (operand_at known type) (an_operand known type)
  operand_laws type = choice n is_local anything anything anything (token_by register) (λ ts. constant_at known (width_of type) ts >>= λ c. Ok (operand.Constant c.0, c.1)) (one_token register) (constant_operand known type) (token_laws n register) (constant_operand_laws type) register_opens (not_register type) (λ rest b. b) (λ rest b. b)

  pub argument_laws : Lawful n anything (argument_at known) (an_argument known)
  argument_laws = in_turn n anything (token_by register_type) (λ type ts. operand_at known type ts >>= λ value. Ok (record { of = type; value = value.0 }, value.1)) _ (λ type. InTurn (an_operand known type) (λ value. nothing (record { of = type; value = value }))) (token_laws n register_type)
      (λ type. in_turn n anything (operand_at known type) (λ value ts. Ok (record { of = type; value = value }, ts)) _ (λ value. nothing (record { of = type; value = value })) (operand_laws type) (λ value. nothing_laws n anything (record { of = type; value = value })))
