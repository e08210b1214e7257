-- Types that are spelled stand at each level.
use Rattle.std.proofs.Common.{◌≡◌, Bool, true, false, cond, Ok, Err, refl, sym, subst, ◌∙◌}
use Rattle.std.specs.Prelude.{not, List, is_some}
use Rattle.pv_base.specs.declared.name.Name.{Name}
use Rattle.ir_lex.specs.declared.token.TokenKind.{TokenKind}
use Rattle.ir_lex.specs.declared.token.TokenKind.TheVariants as kind
use Rattle.ir_lex.specs.declared.token.Cause.TheVariants as causes
use Rattle.ir_tree.specs.declared.items.NamedType.{NamedType}
use Rattle.ir_tree.specs.Trees.{TypeV, IntV, PtrV, VoidV, ArrayV, StructV, NamedV, TypesV, NoneV, MoreV}
use Rattle.ir_text.specs.Tokens.{TokenV}
use Rattle.ir_text.specs.Leaves.{spelled_name}
use Rattle.ir_text.specs.Types.{Known, simple, simple_by}
use Rattle.ir_text.specs.TypeSpelled.{a_type, some_fields, more_fields}
use Rattle.ir_rules.specs.Reading.{is_void, none_void, is_register, is_known_type, type_stands, all_stand}
use Rattle.read_laws.proofs.Tokens.{word_stands}

-- ---- nothing is void

pub type_no_void : (known : Known) (of : TypeV) (ws : List TokenV) → a_type known of ws → not (is_void of) ≡ true
type_no_void known (IntV w) ws s = refl
type_no_void known PtrV ws s = refl
type_no_void known VoidV ws s = absurd s
type_no_void known (ArrayV n of) ws s = refl
type_no_void known (StructV packed fields) ws s = refl
type_no_void known (NamedV name) ws s = refl

more_no_void : (known : Known) (fields : TypesV) (ws : List TokenV) → more_fields known fields ws → none_void fields ≡ true
more_no_void known NoneV ws s = refl
more_no_void known (MoreV of rest) ws s =
    let first = type_no_void known of s.rest_spells.front s.rest_spells.first_spells in
    let others = more_no_void known rest s.rest_spells.rest s.rest_spells.rest_spells in
    rw (first, others) refl

fields_no_void : (known : Known) (fields : TypesV) (ws : List TokenV) → some_fields known fields ws → none_void fields ≡ true
fields_no_void known NoneV ws s = refl
fields_no_void known (MoreV of rest) ws s =
    let first = type_no_void known of s.front s.first_spells in
    let others = more_no_void known rest s.rest s.rest_spells in
    rw (first, others) refl

-- ---- types of one token

module _ (known : Known) (types : List (NamedType Name TypeV)) (names : (name : Name) → is_some (known name) ≡ is_known_type types name) where
  pub register_type_stands : (of : TypeV) → is_register of ≡ true → type_stands types of ≡ true
  unfolding type_stands
  register_type_stands (IntV w) h = h
  register_type_stands PtrV h = refl
  register_type_stands VoidV h = refl
  register_type_stands (ArrayV n of) h = absurd (let e : false ≡ true = h in cc)
  register_type_stands (StructV packed fields) h = absurd (let e : false ≡ true = h in cc)
  register_type_stands (NamedV name) h = absurd (let e : false ≡ true = h in cc)

  known_by : (name : Name) (b : Bool) (of : TypeV) → is_some (known name) ≡ b → cond b (Ok (NamedV name)) (Err causes.BadType) ≡ Ok of → type_stands types of ≡ true
  unfolding type_stands
  known_by name true of is e =
      let s : NamedV name ≡ of = cc in
      let here : type_stands types (NamedV name) ≡ true = sym (names name) ∙ is in
      subst (λ (x : TypeV). type_stands types x ≡ true) s here
  known_by name false of is e = absurd cc

  simple_of : (k : TokenKind) (t : TokenV) (of : TypeV) → simple_by known k t ≡ Ok of → type_stands types of ≡ true
  simple_of kind.Word t of e = register_type_stands of (word_stands t.text of e)
  simple_of kind.Punct t of e = absurd cc
  simple_of kind.GlobalName t of e = absurd cc
  simple_of kind.LocalName t of e = known_by (spelled_name t) (is_some (known (spelled_name t))) of refl e
  simple_of kind.Label t of e = absurd cc
  simple_of kind.Integer t of e = absurd cc
  simple_of kind.Text t of e = absurd cc

  simple_stands : (t : TokenV) (of : TypeV) → simple known t ≡ Ok of → type_stands types of ≡ true
  simple_stands t of e = simple_of t.kind t of e

  mutual
    unfolding type_stands

    pub spelled_type : (of : TypeV) (ws : List TokenV) → a_type known of ws → type_stands types of ≡ true
    spelled_type (IntV w) ws s = simple_stands s.token (IntV w) s.is
    spelled_type PtrV ws s = refl
    spelled_type VoidV ws s = absurd s
    spelled_type (NamedV name) ws s = simple_stands s.token (NamedV name) s.is
    spelled_type (ArrayV n of) ws s =
        let o = s.rest_spells.rest_spells.rest_spells in
        let level = type_no_void known of o.front o.first_spells in
        let inner = spelled_type of o.front o.first_spells in
        rw (level, inner) refl
    spelled_type (StructV false fields) ws s =
        let level = fields_no_void known fields s.rest s.rest_spells in
        let inner = spelled_fields fields s.rest s.rest_spells in
        rw (level, inner) refl
    spelled_type (StructV true fields) ws s =
        let o = s.rest_spells.rest_spells in
        let level = fields_no_void known fields o.front o.first_spells in
        let inner = spelled_fields fields o.front o.first_spells in
        rw (level, inner) refl

    spelled_fields : (fields : TypesV) (ws : List TokenV) → some_fields known fields ws → all_stand types fields ≡ true
    spelled_fields NoneV ws s = refl
    spelled_fields (MoreV of rest) ws s =
        let first = spelled_type of s.front s.first_spells in
        let others = spelled_more rest s.rest s.rest_spells in
        rw (first, others) refl

    spelled_more : (fields : TypesV) (ws : List TokenV) → more_fields known fields ws → all_stand types fields ≡ true
    spelled_more NoneV ws s = refl
    spelled_more (MoreV of rest) ws s =
        let o = s.rest_spells in
        let first = spelled_type of o.front o.first_spells in
        let others = spelled_more rest o.rest o.rest_spells in
        rw (first, others) refl
