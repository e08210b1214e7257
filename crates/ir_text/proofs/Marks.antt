-- Marks that differ.
use Rattle.std.proofs.Common.{◌≡◌, ℕ, Bool, true, false, List, [], ◌∷◌, ◌++◌, Ok, refl, ap}
use Rattle.std.specs.Prelude.{not}
use lib.Pointwise.{bytes_decides}
use Rattle.ir_lex.specs.declared.token.TokenKind.{TokenKind}
use Rattle.ir_lex.specs.declared.token.TokenKind.TheVariants as kind
use Rattle.ir_lex.specs.declared.token.Cause.TheVariants as causes
use Rattle.ir_text.specs.Tokens.{TokenV, is_mark, punct_is}
use Rattle.ir_text.specs.Choice.{Opens}
use Rattle.ir_text.specs.Leaves.{tested}
use Rattle.ir_text.specs.TypeSpelled.{a_mark}

apart_by : (b c : ℕ) (k : TokenKind) (text : List ℕ) → punct_is (c ∷ []) kind.Punct (b ∷ []) ≡ false → punct_is (b ∷ []) k text ≡ true → punct_is (c ∷ []) k text ≡ false
apart_by b c kind.Punct text other e = let is : text ≡ b ∷ [] = (bytes_decides text (b ∷ [])).0 e in rw is other
apart_by b c kind.GlobalName text other e = absurd cc
apart_by b c kind.LocalName text other e = absurd cc
apart_by b c kind.Label text other e = absurd cc
apart_by b c kind.Integer text other e = absurd cc
apart_by b c kind.Word text other e = absurd cc
apart_by b c kind.Text text other e = absurd cc

pub apart : (b c : ℕ) (t : TokenV) → punct_is (c ∷ []) kind.Punct (b ∷ []) ≡ false → is_mark b t ≡ true → is_mark c t ≡ false
apart b c t other e = apart_by b c t.kind t.text other e

-- one mark
pub marked : (b : ℕ) (t : TokenV) → is_mark b t ≡ true → a_mark b (t ∷ [])
marked b t e = record { token = t; parts = refl; is = rw e refl }

tested_is : (b : Bool) → tested b causes.Operand ≡ Ok tt → b ≡ true
tested_is true e = refl
tested_is false e = absurd cc

pub is_marked : (b : ℕ) (ws : List TokenV) (s : a_mark b ws) → is_mark b s.token ≡ true
is_marked b ws s = tested_is (is_mark b s.token) s.is

pub mark_opens : (b : ℕ) (ws : List TokenV) → a_mark b ws → Opens (is_mark b) ws
mark_opens b ws s = record { token = s.token; rest = []; parts = s.parts; is = is_marked b ws s }

-- no other mark opens it
pub mark_opens_not : (b c : ℕ) (ws rest : List TokenV) → punct_is (c ∷ []) kind.Punct (b ∷ []) ≡ false → a_mark b ws → Opens (λ t. not (is_mark c t)) (ws ++ rest)
mark_opens_not b c ws rest other s =
    let no : is_mark c s.token ≡ false = apart b c s.token other (is_marked b ws s) in
    record { token = s.token; rest = rest; parts = ap (λ (u : List TokenV). u ++ rest) s.parts; is = rw no refl }
