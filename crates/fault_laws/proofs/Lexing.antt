-- Lexical faults of texts.
use Rattle.std.proofs.Common.{◌≡◌, ℕ, ◌+◌, ◌<◌, List, [], ◌∷◌, ◌++◌, length, take, drop, refl, sym, ap, subst, ◌∙◌, arith, take-append-drop, length-append}
use Rattle.std.proofs.lemmas.List.{length-take-le, take-take, drop_at}
use Rattle.ir_lex.specs.declared.token.Token.{Token}
use Rattle.ir_lex.specs.declared.token.Lexed.{Lexed}
use Rattle.ir_lex.specs.declared.token.ReadError.{ReadError}
use Rattle.ir_lex.specs.declared.token.Cause.{Cause}
use Rattle.ir_lex.specs.declared.token.Cause.TheVariants as cause
use Rattle.ir_lex.specs.declared.token.Form.{Form}
use Rattle.ir_lex.specs.declared.token.Form.TheVariants as form
use Rattle.ir_lex.specs.declared.token.Piece.TheVariants as piece
use Rattle.ir_lex.specs.Classes.{is_blank}
use Rattle.ir_lex.specs.Lexing.{piece_of, with_token, faulty, line_after, lexed_from, lexed}
use Rattle.ir_lex.specs.Cut.{Blank, IsForm, Part, joined, AreLongest, newlines, token_at, tokens_at, Cut}
use Rattle.ir_lex.specs.Faults.{BeginsNever, IsBegun, PassesLimit, IsCause}
use Rattle.ir_lex.proofs.Steps.{gap_front, token_front, bad_front}
use Rattle.ir_lex.proofs.Newlines.{newlines_join, gap_line, token_line}
use Rattle.ir_lex.proofs.Cuts.{shape_some, longest_found}
use Rattle.ir_lex.proofs.Wholes.{faults_named}
use Rattle.fault_laws.specs.Lexical.{CutAlike, LexicalFault, LexicalFaultsStay}
use Rattle.fault_laws.proofs.Deciding.{Ends, never_bad}
use Rattle.fault_laws.proofs.Least.{least}
use Rattle.fault_laws.proofs.Limits.{limit_bad}

-- ---- the tokens of pieces, and what stands behind them

abbrev with_part : Form → ℕ → ℕ → ℕ → Lexed → Lexed
with_part f at to line x = record { tokens = token_at f at to line x.tokens; fault = x.fault }

behind_part : (f : Form) (bytes rest : List ℕ) (at line : ℕ) → IsForm f bytes → piece_of (bytes ++ rest) ≡ piece.Found f (length bytes)
    → lexed_from (bytes ++ rest) 0 at line ≡ with_part f at (at + length bytes) line (lexed_from rest 0 (at + length bytes) (line + newlines bytes))
behind_part f [] rest at line shape is = absurd (let h = shape_some f [] shape in omega arith)
behind_part form.Gap (b ∷ bs) rest at line shape is =
    let n = length (b ∷ bs) in
    gap_front b n at line (bs ++ rest) is (omega arith) ∙ ap (λ (x : List ℕ). lexed_from x 0 (at + n) (line_after line b)) (drop_at (b ∷ bs) rest n refl) ∙ ap (λ (l : ℕ). lexed_from rest 0 (at + n) l) (sym (gap_line (b ∷ bs) line shape))
behind_part (form.Token k) (b ∷ bs) rest at line shape is =
    let n = length (b ∷ bs) in
    let t : Token = record { kind = k; from = at; to = at + n; line = line } in
    token_front b n at line (bs ++ rest) k is (omega arith) ∙ ap (λ (x : List ℕ). with_token t (lexed_from x 0 (at + n) line)) (drop_at (b ∷ bs) rest n refl) ∙ ap (λ (l : ℕ). with_token t (lexed_from rest 0 (at + n) l)) (sym (token_line k (b ∷ bs) line shape))

-- where a fault stands behind pieces, it is that of the text
pub behind_parts : (ps : List Part) (rest : List ℕ) (at line : ℕ) (why : Cause) → 0 < length rest → AreLongest ps rest → piece_of rest ≡ piece.Bad why
    → lexed_from (joined ps rest) 0 at line ≡ faulty (tokens_at at line ps) (line + newlines (joined ps [])) why
behind_parts [] [] at line why some longest bad = absurd (omega arith)
behind_parts [] (b ∷ bs) at line why some longest bad =
    let e : line ≡ line + newlines [] = omega arith in
    bad_front b at line bs why bad ∙ ap (λ (l : ℕ). faulty [] l why) e
behind_parts (p ∷ ps) rest at line why some longest bad =
    let here = behind_part p.form p.bytes (joined ps rest) at line longest.0.is (longest_found p (joined ps rest) longest.0) in
    let there = behind_parts ps rest (at + length p.bytes) (line + newlines p.bytes) why some longest.1 bad in
    here ∙ ap (with_part p.form at (at + length p.bytes) line) there
    ∙ ap (λ (l : ℕ). faulty (tokens_at at line (p ∷ ps)) l why) (lines p.bytes (joined ps []) line)
  where
    lines : (xs ys : List ℕ) (line : ℕ) → (line + newlines xs) + newlines ys ≡ line + newlines (xs ++ ys)
    lines xs ys line = omega (arith, newlines_join xs ys)

-- ---- a fault stays in each text that is cut alike

module _ (text : List ℕ) (e : ReadError) (parts : List Part) (through : List ℕ) (some : 0 < length through) (cut : CutAlike parts through text) (tokens : tokens_at 0 1 parts ≡ (lexed text).tokens)
    (before : (n : ℕ) → 0 < n → n < length through → IsBegun (take n through)) (bad : (more : List ℕ) → Ends through more → piece_of (through ++ more) ≡ piece.Bad e.cause) where
  faulty_at : (other : List ℕ) → CutAlike parts through other → lexed other ≡ faulty (tokens_at 0 1 parts) (1 + newlines (joined parts [])) e.cause
  unfolding lexed
  faulty_at other c =
      ap (λ (x : List ℕ). lexed_from x 0 0 1) c.whole ∙ behind_parts parts (through ++ c.more) 0 1 e.cause (let l = length-append through c.more in omega arith) c.longest (bad c.more c.ends)

  fault_stays : LexicalFault text e
  fault_stays = record { parts = parts; through = through; cut = cut; tokens = tokens; before = before; met = λ other c. faulty_at other c ∙ sym (faulty_at text cut) }

-- no bytes are the front of a blank
never_some : (text : List ℕ) → BeginsNever text → 0 < length text
unfolding is_blank
never_some [] never = absurd (never (32 ∷ []) form.Gap (32 ∷ []) [] (Blank 32 refl refl) refl)
never_some (b ∷ bs) never = omega arith

module _ (text : List ℕ) (e : ReadError) (rest : List ℕ) (c : Cut text (lexed text).tokens rest) where
  of_token : BeginsNever rest → e.cause ≡ cause.Token → LexicalFault text e
  of_token never why =
      let l = least rest (never_some rest never) never in
      let whole = take-append-drop l.count rest in
      let size : length (take l.count rest) ≡ l.count = length-take-le l.count rest l.fits in
      fault_stays text e c.parts (take l.count rest) (omega arith)
      (record {
        more = drop l.count rest;
        whole = sym c.whole ∙ ap (joined c.parts) (sym whole);
        longest = subst (AreLongest c.parts) (sym whole) c.longest;
        ends = λ f t after is same. absurd (l.never (drop l.count rest) f t after is same);
      })
      c.among
      (λ n pos lt. let same : take n (take l.count rest) ≡ take n rest = take-take n l.count rest (omega arith) in subst IsBegun (sym same) (l.before n pos (omega arith)))
      (λ more ends. subst (λ (w : Cause). piece_of (take l.count rest ++ more) ≡ piece.Bad w) (sym why) (never_bad (take l.count rest) more (omega arith) l.never))

  of_limit : PassesLimit e.cause rest → LexicalFault text e
  of_limit p =
      fault_stays text e c.parts p.piece (shape_some p.form p.piece p.is)
      (record {
        more = p.after;
        whole = sym c.whole ∙ ap (joined c.parts) (sym p.whole);
        longest = subst (AreLongest c.parts) (sym p.whole) c.longest;
        ends = λ f t after is same. p.longest f t after is (same ∙ p.whole);
      })
      c.among
      (λ n pos lt. record { form = p.form; more = drop n p.piece; is = subst (IsForm p.form) (sym (take-append-drop n p.piece)) p.is })
      (λ more ends. limit_bad p.form p.piece more e.cause p.is p.passes ends)

  by_cause : (why : Cause) → e.cause ≡ why → IsCause why rest → (e.cause ≡ cause.End → ⊥) → LexicalFault text e
  by_cause cause.Token is h not_end = of_token h is
  by_cause cause.End is h not_end = absurd (not_end is)
  by_cause cause.Number is h not_end = of_limit (subst (λ (w : Cause). PassesLimit w rest) (sym is) h)
  by_cause cause.TooLong is h not_end = of_limit (subst (λ (w : Cause). PassesLimit w rest) (sym is) h)
  by_cause _ is h not_end = absurd h

pub lexical_faults_stay : LexicalFaultsStay
lexical_faults_stay text e is not_end =
    let f = faults_named text e is in
    by_cause text e f.0 f.1 e.cause refl f.2 not_end
