-- The definitions in the tokens of printed items: the lines of named types, and no others.
use Rattle.std.proofs.Common.{◌≡◌, ℕ, ◌+◌, Bool, true, false, cond, not, ◌&&◌, List, [], ◌∷◌, ◌++◌, map, length, Option, Some, None, Ok, refl, sym, ap, subst, ◌∙◌, append_assoc, arith}
use Rattle.std.specs.Prelude.{All, codes, is_some}
use Rattle.std.specs.List.{list_all}
use Rattle.std.specs.Map.{lookup}
use Rattle.std.proofs.lemmas.Bool.{and_parts, and_from, and_right}
use Rattle.std.proofs.lemmas.List.{append-nil}
use Rattle.std.proofs.lemmas.List.Elements.{All-head, All-tail}
use Rattle.pv_base.specs.declared.name.Name.{Name}
use Rattle.ir_lex.specs.declared.token.TokenKind.{TokenKind}
use Rattle.ir_tree.specs.declared.items.NamedType.{NamedType}
use Rattle.ir_tree.specs.Layouts.{type_named}
use Rattle.ir_tree.specs.Table.{same_name}
use Rattle.ir_tree.specs.Trees.{TypeV}
use Rattle.ir_text.specs.Tokens.{TokenV, is_mark, is_word}
use Rattle.ir_text.specs.Operands.{is_local}
use Rattle.ir_text.specs.Types.{Known}
use Rattle.ir_printer.specs.Pieces.{Piece, Blank, LineEnd, Word, Mark, Dots, Global, Local, Label, Number, Quote, spelled, joined}
use Rattle.ir_printer.specs.Operands.{type_pieces}
use Rattle.ir_printer.specs.Items.{named_pieces}
use Rattle.ir_grammar.specs.Items.{named_body_at}
use Rattle.ir_grammar.specs.NamedTypes.{says_type, definitions, bodies_read}
use Rattle.module_laws.specs.TextLaws.{all_sound}
use Rattle.module_laws.proofs.GlobalLaws.{named_body_laws}
use Rattle.print_tokens.specs.Tokens.{kind_of, with_token, tokens_on, line_behind, tokens_from}
use Rattle.print_tokens.specs.Standing.{is_line_end, is_type_word}
use Rattle.print_values.specs.Laws.{NamesReadBack, TypesStand}
use Rattle.print_modules.proofs.Distinct.{named}
use Rattle.print_modules.proofs.Bodies.{TypeFits, bodies_by}

-- ---- tokens without the word `type`

abbrev plain : TokenV → Bool
plain t = not (is_word (codes "type") t)

-- nor is the word the next token or the one behind that
abbrev clear : List TokenV → Bool
clear [] = true
clear (t ∷ []) = plain t
clear (t ∷ u ∷ rest) = plain t && plain u

not_false : (b : Bool) → not b ≡ true → b ≡ false
not_false true e = absurd cc
not_false false e = refl

says_none : (us : List TokenV) → clear us ≡ true → says_type us ≡ false
says_none [] e = refl
says_none (t ∷ []) e = refl
says_none (t ∷ u ∷ rest) e = and_right (is_mark 61 t) (is_word (codes "type") u) (not_false (is_word (codes "type") u) (and_parts (plain t) (plain u) e).1)

clear_before : (ws rest : List TokenV) → list_all plain ws ≡ true → clear rest ≡ true → clear (ws ++ rest) ≡ true
clear_before [] rest e h = h
clear_before (t ∷ []) [] e h = (and_parts (plain t) true e).0
clear_before (t ∷ []) (u ∷ []) e h = and_from (plain t) (plain u) (and_parts (plain t) true e).0 h
clear_before (t ∷ []) (u ∷ v ∷ rest) e h = and_from (plain t) (plain u) (and_parts (plain t) true e).0 (and_parts (plain u) (plain v) h).0
clear_before (t ∷ u ∷ ws) rest e h =
    let p = and_parts (plain t) (plain u && list_all plain ws) e in
    and_from (plain t) (plain u) p.0 (and_parts (plain u) (list_all plain ws) p.1).0

clear_all : (ws : List TokenV) → list_all plain ws ≡ true → clear ws ≡ true
clear_all ws e = subst (λ (us : List TokenV). clear us ≡ true) (append-nil ws) (clear_before ws [] e refl)

passed_over : (ws rest : List TokenV) → list_all plain ws ≡ true → clear rest ≡ true → definitions (ws ++ rest) ≡ definitions rest
unfolding definitions
passed_over [] rest e h = refl
passed_over (t ∷ ws) rest e h =
    let p = and_parts (plain t) (list_all plain ws) e in
    let none : (is_local t && says_type (ws ++ rest)) ≡ false = and_right (is_local t) (says_type (ws ++ rest)) (says_none (ws ++ rest) (clear_before ws rest p.1 h)) in
    rw none (passed_over ws rest p.1 h)

none_defined : (ws : List TokenV) → list_all plain ws ≡ true → definitions ws ≡ []
unfolding definitions
none_defined ws e = ap definitions (sym (append-nil ws)) ∙ passed_over ws [] e refl

-- ---- the tokens of pieces

abbrev pub untyped : List Piece → Bool
untyped ps = list_all (λ p. not (is_type_word p)) ps

plain_before : (p : Piece) (line : ℕ) (ts : List TokenV) → not (is_type_word p) ≡ true → list_all plain ts ≡ true → list_all plain (with_token (kind_of p) (spelled p) line ts) ≡ true
plain_before Blank line ts e h = h
plain_before LineEnd line ts e h = h
plain_before (Word bs) line ts e h = and_from (not (is_type_word (Word bs))) (list_all plain ts) e h
plain_before (Mark b) line ts e h = h
plain_before Dots line ts e h = h
plain_before (Global n) line ts e h = h
plain_before (Local n) line ts e h = h
plain_before (Label n) line ts e h = h
plain_before (Number z) line ts e h = h
plain_before (Quote bs) line ts e h = h

plain_on : (line : ℕ) (ps : List Piece) → untyped ps ≡ true → list_all plain (tokens_on line ps) ≡ true
plain_on line [] e = refl
plain_on line (p ∷ ps) e = let u = and_parts (not (is_type_word p)) (untyped ps) e in plain_before p line (tokens_on line ps) u.0 (plain_on line ps u.1)

plain_from : (line : ℕ) (ps : List Piece) → untyped ps ≡ true → list_all plain (tokens_from line ps) ≡ true
plain_from line [] e = refl
plain_from line (p ∷ ps) e = let u = and_parts (not (is_type_word p)) (untyped ps) e in plain_before p line (tokens_from (line_behind line p) ps) u.0 (plain_from (line_behind line p) ps u.1)

with_before : (p : Piece) (line : ℕ) (ts us : List TokenV) → with_token (kind_of p) (spelled p) line (ts ++ us) ≡ with_token (kind_of p) (spelled p) line ts ++ us
with_before p line ts us = by_kind (kind_of p)
  where
    by_kind : (k : Option TokenKind) → with_token k (spelled p) line (ts ++ us) ≡ with_token k (spelled p) line ts ++ us
    by_kind None = refl
    by_kind (Some k) = refl

same_line : (line : ℕ) (p : Piece) → not (is_line_end p) ≡ true → line_behind line p ≡ line
same_line line LineEnd e = absurd cc
same_line line Blank e = refl
same_line line (Word bs) e = refl
same_line line (Mark b) e = refl
same_line line Dots e = refl
same_line line (Global n) e = refl
same_line line (Local n) e = refl
same_line line (Label n) e = refl
same_line line (Number z) e = refl
same_line line (Quote bs) e = refl

-- what stands on one line, and the lines behind it
line_and : (line : ℕ) (ps qs : List Piece) → list_all (λ p. not (is_line_end p)) ps ≡ true → tokens_from line (ps ++ LineEnd ∷ qs) ≡ tokens_on line ps ++ tokens_from (line + 1) qs
line_and line [] qs e = refl
line_and line (p ∷ ps) qs e =
    let u = and_parts (not (is_line_end p)) (list_all (λ q. not (is_line_end q)) ps) e in
    ap (λ (n : ℕ). with_token (kind_of p) (spelled p) line (tokens_from n (ps ++ LineEnd ∷ qs))) (same_line line p u.0)
    ∙ (ap (with_token (kind_of p) (spelled p) line) (line_and line ps qs u.1) ∙ with_before p line (tokens_on line ps) (tokens_from (line + 1) qs))

-- ---- definitions of these types

abbrev pub Defines : Known → List (Name × List TokenV) → List (NamedType Name TypeV) → Type 0
Defines known [] [] = Unit {0}
Defines known [] (n ∷ ns) = ⊥
Defines known (d ∷ ds) [] = ⊥
Defines known (d ∷ ds) (n ∷ ns) = (d.0 ≡ n.name) × ((rest : List TokenV) × (named_body_at known d.1 ≡ Ok (n.of, rest))) × Defines known ds ns

abbrev type_lines : List (NamedType Name TypeV) → List Piece → List Piece
type_lines types rest = joined (map named_pieces types) ++ rest

clear_lines : (types : List (NamedType Name TypeV)) (rest : List Piece) (line : ℕ) → untyped rest ≡ true → clear (tokens_from line (type_lines types rest)) ≡ true
clear_lines [] rest line e = clear_all (tokens_from line rest) (plain_from line rest e)
clear_lines (n ∷ types) rest line e = refl

module _ (names_back : NamesReadBack) (types_stand : TypesStand) (known : Known) (rest : List Piece) (no_type : untyped rest ≡ true) where
  -- behind `= type`: the tokens of the type, and the lines behind it
  body_tokens : (n : NamedType Name TypeV) (types : List (NamedType Name TypeV)) (line : ℕ)
      → tokens_from line (((type_pieces n.of ++ LineEnd ∷ []) ++ joined (map named_pieces types)) ++ rest) ≡ tokens_on line (type_pieces n.of) ++ tokens_from (line + 1) (type_lines types rest)
  body_tokens n types line =
      ap (tokens_from line) (ap (λ (ps : List Piece). ps ++ rest) (append_assoc (type_pieces n.of) (LineEnd ∷ []) (joined (map named_pieces types))) ∙ append_assoc (type_pieces n.of) (LineEnd ∷ joined (map named_pieces types)) rest)
      ∙ line_and line (type_pieces n.of) (type_lines types rest) (types_stand n.of).one_line

  body_read : (n : NamedType Name TypeV) (types : List (NamedType Name TypeV)) (line : ℕ) → TypeFits known n
      → named_body_at known (tokens_from line (((type_pieces n.of ++ LineEnd ∷ []) ++ joined (map named_pieces types)) ++ rest)) ≡ Ok (n.of, tokens_from (line + 1) (type_lines types rest))
  body_read n types line fits =
      let ws = tokens_on line (type_pieces n.of) in
      let spelled = fits.printed.spelled line in
      ap (named_body_at known) (body_tokens n types line)
      ∙ (named_body_laws (length ws) known).complete n.of ws (tokens_from (line + 1) (type_lines types rest)) (omega arith) (spelled, fits.opens ws spelled) tt

  pub lines_define : (types : List (NamedType Name TypeV)) (line : ℕ) → All (TypeFits known) types → Defines known (definitions (tokens_from line (type_lines types rest))) types
  unfolding definitions
  lines_define [] line h = subst (λ (ds : List (Name × List TokenV)). Defines known ds []) (sym (none_defined (tokens_from line rest) (plain_from line rest no_type))) tt
  lines_define (n ∷ types) line h =
      let fits = All-head (TypeFits known) n types h in
      let behind = tokens_from line (((type_pieces n.of ++ LineEnd ∷ []) ++ joined (map named_pieces types)) ++ rest) in
      let passed : definitions behind ≡ definitions (tokens_from (line + 1) (type_lines types rest)) =
      ap definitions (body_tokens n types line) ∙ passed_over (tokens_on line (type_pieces n.of)) (tokens_from (line + 1) (type_lines types rest)) (plain_on line (type_pieces n.of) (types_stand n.of).untyped) (clear_lines types rest (line + 1) no_type) in (
        (names_back n.name fits.name).local line,
        (tokens_from (line + 1) (type_lines types rest), body_read n types line fits),
        subst (λ (ds : List (Name × List TokenV)). Defines known ds types) (sym passed) (lines_define types (line + 1) (All-tail (TypeFits known) n types h)),
      )

-- ---- what such definitions say

pub defines_read : (known : Known) (ds : List (Name × List TokenV)) (ns : List (NamedType Name TypeV)) → Defines known ds ns → bodies_read known ds ≡ all_sound
unfolding bodies_read
defines_read known [] [] h = refl
defines_read known [] (n ∷ ns) h = absurd h
defines_read known (d ∷ ds) [] h = absurd h
defines_read known (d ∷ ds) (n ∷ ns) h = let first = h.1.1 in rw first (defines_read known ds ns h.2)

pub defines_bodies : (known : Known) (ds : List (Name × List TokenV)) (ns : List (NamedType Name TypeV)) → Defines known ds ns → bodies_by known ds ≡ named ns
defines_bodies known [] [] h = refl
defines_bodies known [] (n ∷ ns) h = absurd h
defines_bodies known (d ∷ ds) [] h = absurd h
defines_bodies known (d ∷ ds) (n ∷ ns) h =
    let first = h.1.1 in
    let name = h.0 in
    rw first (rw name (ap (λ (bs : List (Name × Option TypeV)). (n.name, Some n.of) ∷ bs) (defines_bodies known ds ns h.2)))

pub defines_names : (known : Known) (ds : List (Name × List TokenV)) (ns : List (NamedType Name TypeV)) (name : Name) → Defines known ds ns → is_some (lookup (same_name name) ds) ≡ is_some (type_named ns name)
defines_names known [] [] name h = refl
defines_names known [] (n ∷ ns) name h = absurd h
defines_names known (d ∷ ds) [] name h = absurd h
defines_names known (d ∷ ds) (n ∷ ns) name h =
    ap (λ (x : Name). is_some (cond (same_name name x) (Some d.1) (lookup (same_name name) ds))) h.0
    ∙ by_test (same_name name n.name) (defines_names known ds ns name h.2)
  where
    by_test : (b : Bool) → is_some (lookup (same_name name) ds) ≡ is_some (type_named ns name)
        → is_some (cond b (Some d.1) (lookup (same_name name) ds)) ≡ is_some (cond b (Some n.of) (type_named ns name))
    by_test true e = refl
    by_test false e = e
