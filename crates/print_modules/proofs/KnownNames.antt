-- Types are spelled alike where the same names are known.
use Rattle.std.proofs.Common.{◌≡◌, Bool, true, false, cond, List, Ok, Err, refl, sym, ap, ◌∙◌}
use Rattle.std.specs.Prelude.{is_some}
use Rattle.pv_base.specs.declared.name.Name.{Name}
use Rattle.ir_lex.specs.declared.token.TokenKind.{TokenKind}
use Rattle.ir_lex.specs.declared.token.TokenKind.TheVariants as kind
use Rattle.ir_lex.specs.declared.token.Cause.TheVariants as causes
use Rattle.ir_tree.specs.Trees.{TypeV, IntV, PtrV, VoidV, ArrayV, StructV, NamedV, TypesV, NoneV, MoreV}
use Rattle.ir_text.specs.Tokens.{TokenV}
use Rattle.ir_text.specs.Leaves.{spelled_name}
use Rattle.ir_text.specs.Repeated.{Both}
use Rattle.ir_text.specs.Spelled.{one_token}
use Rattle.ir_text.specs.Types.{Known, simple_by, simple}
use Rattle.ir_text.specs.TypeSpelled.{a_type, some_fields, more_fields}

pub both_as : {a b c d : List TokenV → Type 0} (ws : List TokenV) → ((us : List TokenV) → a us → c us) → ((us : List TokenV) → b us → d us) → Both a b ws → Both c d ws
both_as ws f g s = record { front = s.front; rest = s.rest; parts = s.parts; first_spells = f s.front s.first_spells; rest_spells = g s.rest s.rest_spells }

module _ (known other : Known) (same : (name : Name) → is_some (known name) ≡ is_some (other name)) where
  simple_same : (k : TokenKind) (t : TokenV) → simple_by known k t ≡ simple_by other k t
  simple_same kind.LocalName t = ap (λ (b : Bool). cond b (Ok (NamedV (spelled_name t))) (Err causes.BadType)) (same (spelled_name t))
  simple_same kind.Word t = refl
  simple_same kind.Punct t = refl
  simple_same kind.GlobalName t = refl
  simple_same kind.Label t = refl
  simple_same kind.Integer t = refl
  simple_same kind.Text t = refl

  one_same : (of : TypeV) (ws : List TokenV) → one_token (simple known) of ws → one_token (simple other) of ws
  one_same of ws s = record { token = s.token; parts = s.parts; is = sym (simple_same s.token.kind s.token) ∙ s.is }

  mutual
    pub type_same : (of : TypeV) (ws : List TokenV) → a_type known of ws → a_type other of ws
    type_same (IntV w) ws s = one_same (IntV w) ws s
    type_same PtrV ws s = one_same PtrV ws s
    type_same VoidV ws s = s
    type_same (NamedV name) ws s = one_same (NamedV name) ws s
    type_same (ArrayV n of) ws s = both_as ws (λ us a. a) (λ us a. both_as us (λ vs b. b) (λ vs b. both_as vs (λ xs c. c) (λ xs c. both_as xs (λ ys d. type_same of ys d) (λ ys d. d) c) b) a) s
    type_same (StructV false fields) ws s = both_as ws (λ us a. a) (λ us a. fields_same fields us a) s
    type_same (StructV true fields) ws s = both_as ws (λ us a. a) (λ us a. both_as us (λ vs b. b) (λ vs b. both_as vs (λ xs c. fields_same fields xs c) (λ xs c. c) b) a) s

    fields_same : (fields : TypesV) (ws : List TokenV) → some_fields known fields ws → some_fields other fields ws
    fields_same NoneV ws s = s
    fields_same (MoreV of rest) ws s = both_as ws (λ us a. type_same of us a) (λ us a. more_same rest us a) s

    more_same : (fields : TypesV) (ws : List TokenV) → more_fields known fields ws → more_fields other fields ws
    more_same NoneV ws s = s
    more_same (MoreV of rest) ws s = both_as ws (λ us a. a) (λ us a. both_as us (λ vs b. type_same of vs b) (λ vs b. more_same rest vs b) a) s
