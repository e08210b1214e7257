-- What the types of one token keep.
use Rattle.std.proofs.Common.{◌≡◌, ℕ, Bool, true, false, cond, List, Option, Some, None, Result, Ok, Err, refl, subst, arith}
use Rattle.std.proofs.lemmas.Bool.Decides.{nat_tests}
use Rattle.std.specs.Prelude.{◌&&◌, nat_le, is_some, codes, drop}
use Rattle.pv_base.specs.declared.name.Name.{Name}
use Rattle.ir_lex.specs.Spelling.{number}
use Rattle.ir_lex.specs.declared.token.TokenKind.{TokenKind}
use Rattle.ir_lex.specs.declared.token.TokenKind.TheVariants as kind
use Rattle.ir_lex.specs.declared.token.Cause.{Cause}
use Rattle.ir_lex.specs.declared.token.Cause.TheVariants as causes
use Rattle.ir_tree.specs.declared.layout.Layout.{Layout}
use Rattle.ir_tree.specs.Layouts.{layout_with}
use Rattle.ir_tree.specs.Trees.{TypeV, IntV, PtrV, VoidV, ArrayV, StructV, NamedV}
use Rattle.ir_text.specs.Tokens.{TokenV, same}
use Rattle.ir_text.specs.Passed.{is_int_word}
use Rattle.ir_text.specs.Types.{register_type, register_by, result_type, result_by, word_type, int_type}
use Rattle.ir_instr.specs.Parts.{integer_only, integer_type, no_names, with_layout, stored_type}
use Rattle.ir_instr.specs.Calls.{answer_type}
use Rattle.ir_rules.specs.Reading.{is_register, is_answer}

-- ---- registers

width_stands : (w : ℕ) → (nat_le 1 w && nat_le w 64) ≡ true → is_register (IntV w) ≡ true
width_stands w is = grind (arith, nat_tests)

int_by : (b : Bool) (w : ℕ) (of : TypeV) → (nat_le 1 w && nat_le w 64) ≡ b → cond b (Ok (IntV w)) (Err causes.Width) ≡ Ok of → is_register of ≡ true
int_by true w of is e = let s : IntV w ≡ of = cc in subst (λ (x : TypeV). is_register x ≡ true) s (width_stands w is)
int_by false w of is e = absurd cc

int_stands : (digits : List ℕ) (of : TypeV) → int_type digits ≡ Ok of → is_register of ≡ true
unfolding int_type
int_stands digits of e = int_by (nat_le 1 (number digits) && nat_le (number digits) 64) (number digits) of refl e

word_by : (text : List ℕ) (p q : Bool) (of : TypeV) → cond p (Ok PtrV) (cond q (int_type (drop 1 text)) (Err causes.BadType)) ≡ Ok of → is_register of ≡ true
word_by text true q of e = let s : PtrV ≡ of = cc in subst (λ (x : TypeV). is_register x ≡ true) s refl
word_by text false true of e = int_stands (drop 1 text) of e
word_by text false false of e = absurd cc

pub word_stands : (text : List ℕ) (of : TypeV) → word_type text ≡ Ok of → is_register of ≡ true
unfolding word_type
word_stands text of e = word_by text (same text (codes "ptr")) (is_int_word text) of e

register_of : (k : TokenKind) (t : TokenV) (of : TypeV) → register_by k t ≡ Ok of → is_register of ≡ true
register_of kind.Word t of e = word_stands t.text of e
register_of kind.Punct t of e = absurd cc
register_of kind.GlobalName t of e = absurd cc
register_of kind.LocalName t of e = absurd cc
register_of kind.Label t of e = absurd cc
register_of kind.Integer t of e = absurd cc
register_of kind.Text t of e = absurd cc

-- the type of a register
pub register_stands : (t : TokenV) (of : TypeV) → register_type t ≡ Ok of → is_register of ≡ true
register_stands t of e = register_of t.kind t of e

integer_is : (r : Result TypeV Cause) (of : TypeV) → integer_only r ≡ Ok of → r ≡ Ok of
integer_is (Ok (IntV w)) of e = e
integer_is (Ok PtrV) of e = absurd cc
integer_is (Ok VoidV) of e = absurd cc
integer_is (Ok (ArrayV n type)) of e = absurd cc
integer_is (Ok (StructV packed fields)) of e = absurd cc
integer_is (Ok (NamedV name)) of e = absurd cc
integer_is (Err cause) of e = absurd cc

-- that of an integer
pub integer_stands : (t : TokenV) (of : TypeV) → integer_type t ≡ Ok of → is_register of ≡ true
integer_stands t of e = register_stands t of (integer_is (register_type t) of e)

-- ---- answers

answer_of : (of : TypeV) → is_register of ≡ true → is_answer of ≡ true
answer_of (IntV w) h = h
answer_of PtrV h = h
answer_of VoidV h = refl
answer_of (ArrayV n of) h = h
answer_of (StructV packed fields) h = h
answer_of (NamedV name) h = h

result_of : (k : TokenKind) (t : TokenV) (b : Bool) (of : TypeV) → same t.text (codes "void") ≡ b → result_by k t ≡ Ok of → is_answer of ≡ true
result_of kind.Word t true of is e = let s : VoidV ≡ of = let f : Ok VoidV ≡ Ok of = rw is at e in cc in subst (λ (x : TypeV). is_answer x ≡ true) s refl
result_of kind.Word t false of is e = answer_of of (word_stands t.text of (rw is at e))
result_of kind.Punct t b of is e = absurd cc
result_of kind.GlobalName t b of is e = absurd cc
result_of kind.LocalName t b of is e = absurd cc
result_of kind.Label t b of is e = absurd cc
result_of kind.Integer t b of is e = absurd cc
result_of kind.Text t b of is e = absurd cc

-- the type of a result
pub result_stands : (t : TokenV) (of : TypeV) → result_type t ≡ Ok of → is_answer of ≡ true
result_stands t of e = result_of t.kind t (same t.text (codes "void")) of refl e

-- that of a call
pub answer_stands : (to : Option Name) (t : TokenV) (of : TypeV) → answer_type to t ≡ Ok of → is_answer of ≡ true
answer_stands (Some to) t of e = answer_of of (register_stands t of e)
answer_stands None t of e = result_stands t of e

-- ---- memory

pub record Stored (r : Result TypeV Cause) (of : TypeV) : Type 0 where
  pub is : r ≡ Ok of
  pub laid_out : is_some (layout_with no_names of) ≡ true

stored_by : (type of : TypeV) (b : Bool) → is_some (layout_with no_names type) ≡ b → cond b (Ok type) (Err causes.Layout) ≡ Ok of → Stored (Ok type) of
stored_by type of true is e = let s : type ≡ of = cc in record { is = e; laid_out = subst (λ (x : TypeV). is_some (layout_with no_names x) ≡ true) s is }
stored_by type of false is e = absurd cc

stored_in : (r : Result TypeV Cause) (of : TypeV) → with_layout r ≡ Ok of → Stored r of
stored_in (Ok type) of e = stored_by type of (is_some (layout_with no_names type)) refl e
stored_in (Err cause) of e = absurd cc

-- the type of a register that memory can hold
pub stored_stands : (t : TokenV) (of : TypeV) → stored_type t ≡ Ok of → is_register of ≡ true
stored_stands t of e = register_stands t of (stored_in (register_type t) of e).is

-- the layout of a register's type is the same among any named types
register_laid : (named : Name → Option Layout) (of : TypeV) → is_register of ≡ true → is_some (layout_with no_names of) ≡ true → is_some (layout_with named of) ≡ true
register_laid named (IntV w) is h = h
register_laid named PtrV is h = h
register_laid named VoidV is h = h
register_laid named (ArrayV n of) is h = absurd (let e : false ≡ true = is in cc)
register_laid named (StructV packed fields) is h = absurd (let e : false ≡ true = is in cc)
register_laid named (NamedV name) is h = absurd (let e : false ≡ true = is in cc)

pub stored_laid : (named : Name → Option Layout) (t : TokenV) (of : TypeV) → stored_type t ≡ Ok of → is_some (layout_with named of) ≡ true
stored_laid named t of e =
    let s : Stored (register_type t) of = stored_in (register_type t) of e in
    register_laid named of (register_stands t of s.is) s.laid_out
