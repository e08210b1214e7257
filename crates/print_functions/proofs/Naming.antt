-- Names that are defined, and what is printed of them.
use Rattle.std.proofs.Common.{◌≡◌, ℕ, Bool, true, false, cond, List, [], ◌∷◌, Ok, Err, refl, ap, subst, ◌∙◌}
use Rattle.std.specs.Prelude.{not}
use Rattle.std.proofs.lemmas.List.Elements.{All-nil, All-cons}
use Rattle.pv_base.specs.declared.name.Name.{Name}
use Rattle.ir_lex.specs.declared.token.TokenKind.{TokenKind}
use Rattle.ir_lex.specs.declared.token.TokenKind.TheVariants as kind
use Rattle.ir_lex.specs.declared.token.Cause.TheVariants as causes
use Rattle.ir_lex.specs.Spelling.{IsNameKind}
use Rattle.ir_tree.specs.Table.{name_among}
use Rattle.ir_text.specs.Tokens.{TokenV}
use Rattle.ir_text.specs.Leaves.{spelled_name}
use Rattle.ir_text.specs.Reading.{Meaning}
use Rattle.ir_text.specs.Spelled.{one_token}
use Rattle.ir_instr.specs.Instructions.{is_counted, definable, defined_by, defined_name}
use Rattle.ir_grammar.specs.Scopes.{Scope}
use Rattle.ir_grammar.specs.Headers.{unique, new_global, new_global_by}
use Rattle.ir_grammar.specs.Bodies.{new_label, new_label_by}
use Rattle.ir_printer.specs.Pieces.{Piece, Global, Local, Label, spelled}
use Rattle.print_tokens.specs.Tokens.{tokens_from}
use Rattle.print_tokens.specs.Standing.{PieceFits, NameFits}
use Rattle.print_values.specs.Printed.{IsSound, AreSound}
use Rattle.print_values.specs.Laws.{NamesFit, NamesReadBack}
use Rattle.print_functions.specs.Lines.{PrintedLines}
use Rattle.print_functions.proofs.Composing.{sound_one}

-- a name that can be defined here, within the limits
pub record Definable (scope : Scope) (name : Name) : Type 0 where
  pub may : definable scope.next scope.defined name ≡ Ok name
  pub fits : NameFits name

definable_by : (b c : Bool) (x name : Name) → cond (not b) (Err causes.Name) (cond c (Err causes.Duplicate) (Ok x)) ≡ Ok name → x ≡ name
definable_by true true x name e = absurd cc
definable_by true false x name e = cc
definable_by false c x name e = absurd cc

definable_is : (scope : Scope) (x name : Name) → definable scope.next scope.defined x ≡ Ok name → x ≡ name
definable_is scope x name e = definable_by (is_counted scope.next x) (name_among x scope.defined) x name e

unique_by : (c : Bool) (x name : Name) → cond c (Err causes.Duplicate) (Ok x) ≡ Ok name → x ≡ name
unique_by true x name e = absurd cc
unique_by false x name e = cc

local_kind : (scope : Scope) (k : TokenKind) (t : TokenV) (name : Name) → defined_by scope.next scope.defined k t ≡ Ok name → IsNameKind k × (definable scope.next scope.defined (spelled_name t) ≡ Ok name)
local_kind scope kind.LocalName t name e = (tt, e)
local_kind scope kind.Word t name e = absurd cc
local_kind scope kind.Punct t name e = absurd cc
local_kind scope kind.GlobalName t name e = absurd cc
local_kind scope kind.Label t name e = absurd cc
local_kind scope kind.Integer t name e = absurd cc
local_kind scope kind.Text t name e = absurd cc

label_kind : (scope : Scope) (k : TokenKind) (t : TokenV) (name : Name) → new_label_by scope k t ≡ Ok name → IsNameKind k × (definable scope.next scope.defined (spelled_name t) ≡ Ok name)
label_kind scope kind.Label t name e = (tt, e)
label_kind scope kind.Word t name e = absurd cc
label_kind scope kind.Punct t name e = absurd cc
label_kind scope kind.GlobalName t name e = absurd cc
label_kind scope kind.LocalName t name e = absurd cc
label_kind scope kind.Integer t name e = absurd cc
label_kind scope kind.Text t name e = absurd cc

global_kind : (values : List Name) (k : TokenKind) (t : TokenV) (name : Name) → new_global_by values k t ≡ Ok name → IsNameKind k × (spelled_name t ≡ name)
global_kind values kind.GlobalName t name e = (tt, unique_by (name_among (spelled_name t) values) (spelled_name t) name e)
global_kind values kind.Word t name e = absurd cc
global_kind values kind.Punct t name e = absurd cc
global_kind values kind.Label t name e = absurd cc
global_kind values kind.LocalName t name e = absurd cc
global_kind values kind.Integer t name e = absurd cc
global_kind values kind.Text t name e = absurd cc

-- one piece that is a token
pub one_piece : {A : Type 0} (means : Meaning A) (a : A) (p : Piece) → PieceFits p → ((line : ℕ) → one_token means a (tokens_from line (p ∷ []))) → PrintedLines (one_token means a) (p ∷ [])
one_piece means a p fits is = record { spelled = is; fits = All-cons PieceFits p [] fits (All-nil PieceFits) }

module _ (names_fit : NamesFit) (names_back : NamesReadBack) where
  spelled_fits : (scope : Scope) (t : TokenV) (name : Name) → IsSound t → IsNameKind t.kind → definable scope.next scope.defined (spelled_name t) ≡ Ok name → Definable scope name
  spelled_fits scope t name sound is e =
      let same : spelled_name t ≡ name = definable_is scope (spelled_name t) name e in
      record {
        may = subst (λ (x : Name). definable scope.next scope.defined x ≡ Ok name) same e;
        fits = subst NameFits same (names_fit t sound is);
      }

  -- a name that was written
  pub local_fits : (scope : Scope) (name : Name) (ws : List TokenV) → AreSound ws → one_token (defined_name scope.next scope.defined) name ws → Definable scope name
  local_fits scope name ws sound s = let k = local_kind scope s.token.kind s.token name s.is in spelled_fits scope s.token name (sound_one s.token ws s.parts sound) k.0 k.1

  pub label_fits : (scope : Scope) (name : Name) (ws : List TokenV) → AreSound ws → one_token (new_label scope) name ws → Definable scope name
  label_fits scope name ws sound s = let k = label_kind scope s.token.kind s.token name s.is in spelled_fits scope s.token name (sound_one s.token ws s.parts sound) k.0 k.1

  pub global_fits : (values : List Name) (name : Name) (ws : List TokenV) → AreSound ws → one_token (new_global values) name ws → NameFits name
  global_fits values name ws sound s = let k = global_kind values s.token.kind s.token name s.is in subst NameFits k.1 (names_fit s.token (sound_one s.token ws s.parts sound) k.0)

  -- and is printed
  pub local_printed : (scope : Scope) (name : Name) → Definable scope name → PrintedLines (one_token (defined_name scope.next scope.defined) name) (Local name ∷ [])
  local_printed scope name d = one_piece (defined_name scope.next scope.defined) name (Local name) d.fits (λ line. record {
    token = record { kind = kind.LocalName; text = spelled (Local name); line = line };
    parts = refl;
    is = ap (definable scope.next scope.defined) ((names_back name d.fits).local line) ∙ d.may;
  })

  pub label_printed : (scope : Scope) (name : Name) → Definable scope name → PrintedLines (one_token (new_label scope) name) (Label name ∷ [])
  label_printed scope name d = one_piece (new_label scope) name (Label name) d.fits (λ line. record {
    token = record { kind = kind.Label; text = spelled (Label name); line = line };
    parts = refl;
    is = ap (definable scope.next scope.defined) ((names_back name d.fits).label line) ∙ d.may;
  })

  is_unique : (values : List Name) (name : Name) → name_among name values ≡ false → unique values name ≡ Ok name
  is_unique values name new = rw new refl

  pub global_printed : (values : List Name) (name : Name) → NameFits name → name_among name values ≡ false → PrintedLines (one_token (new_global values) name) (Global name ∷ [])
  global_printed values name fits new = one_piece (new_global values) name (Global name) fits (λ line. record {
    token = record { kind = kind.GlobalName; text = spelled (Global name); line = line };
    parts = refl;
    is = ap (unique values) ((names_back name fits).global line) ∙ is_unique values name new;
  })
