-- A whole text: its pieces, its tokens, and where they stand.
use Rattle.std.proofs.Common.{◌≡◌, ℕ, zero, suc, ◌+◌, ◌-◌, ◌≤◌, ◌↔◌, List, [], ◌∷◌, ◌++◌, length, take, drop, Option, None, refl, sym, ap, subst, ◌∙◌, arith, append_assoc, length-append, take-append-drop}
use Rattle.std.specs.Prelude.{slice_range, MatchOption}
use Rattle.std.proofs.lemmas.List.{append-nil, take_at, drop_at, length-take-le, length-drop}
use Rattle.ir_lex.specs.declared.token.Token.{Token}
use Rattle.ir_lex.specs.declared.token.TokenKind.{TokenKind}
use Rattle.ir_lex.specs.declared.token.Cause.{Cause}
use Rattle.ir_lex.specs.declared.token.Form.{Form}
use Rattle.ir_lex.specs.declared.token.Form.TheVariants as form
use Rattle.ir_lex.specs.declared.token.Piece.{Piece}
use Rattle.ir_lex.specs.declared.token.Piece.TheVariants as piece
use Rattle.ir_lex.specs.declared.token.Lexed.{Lexed}
use Rattle.ir_lex.specs.declared.token.ReadError.{ReadError}
use Rattle.ir_lex.specs.Lexing.{piece_of, with_token, line_after, lexed_from, lexed}
use Rattle.ir_lex.specs.Cut.{IsGap, IsForm, Part, joined, AreLongest, IsStuck, newlines, token_at, tokens_at, Cut, AreGaps, NoGap, OneMore, Stands, InOrder}
use Rattle.ir_lex.proofs.Steps.{gap_front, token_front, bad_front}
use Rattle.ir_lex.proofs.Newlines.{newlines_join, gap_line, token_line}
use Rattle.ir_lex.specs.Faults.{IsCause, FaultsAreNamed}
use Rattle.ir_lex.proofs.Cuts.{shape_some, longest_found, found_longest}
use Rattle.ir_lex.proofs.Causes.{bad_cause}

-- the pieces of a text

pub record CutFrom (text : List ℕ) (at line : ℕ) : Type 0 where
  pub parts : List Part
  pub rest : List ℕ
  pub whole : joined parts rest ≡ text
  pub longest : AreLongest parts rest
  pub among : tokens_at at line parts ≡ (lexed_from text 0 at line).tokens
  pub over : MatchOption (lexed_from text 0 at line).fault (rest ≡ []) (λ e. (e.line ≡ line + newlines (joined parts [])) × IsStuck rest)
  pub named : MatchOption (lexed_from text 0 at line).fault (Unit {0}) (λ e. IsCause e.cause rest)

cut_end : (at line : ℕ) → CutFrom [] at line
unfolding lexed_from
cut_end at line = record { parts = []; rest = []; whole = refl; longest = tt; among = refl; over = refl; named = tt }

cut_part : (f : Form) (b : ℕ) (xs : List ℕ) (n at line : ℕ) → piece_of (b ∷ xs) ≡ piece.Found f (suc n)
    → (lexed_from (b ∷ xs) 0 at line).tokens ≡ token_at f at (at + suc n) line (lexed_from (drop (suc n) (b ∷ xs)) 0 (at + suc n) (line + newlines (take (suc n) (b ∷ xs)))).tokens
    → (lexed_from (b ∷ xs) 0 at line).fault ≡ (lexed_from (drop (suc n) (b ∷ xs)) 0 (at + suc n) (line + newlines (take (suc n) (b ∷ xs)))).fault
    → CutFrom (drop (suc n) (b ∷ xs)) (at + suc n) (line + newlines (take (suc n) (b ∷ xs))) → CutFrom (b ∷ xs) at line
cut_part f b xs n at line is tokens fault go =
    let text = b ∷ xs in
    let p : Part = record { form = f; bytes = take (suc n) text } in
    let found = found_longest text f (suc n) (omega arith) is in
    let size : length (take (suc n) text) ≡ suc n = length-take-le (suc n) text found.fits in
    let lines : line + newlines (take (suc n) text ++ joined go.parts []) ≡ line + newlines (take (suc n) text) + newlines (joined go.parts []) = omega (arith, newlines_join (take (suc n) text) (joined go.parts [])) in
    record {
      parts = p ∷ go.parts;
      rest = go.rest;
      whole = ap (λ (x : List ℕ). take (suc n) text ++ x) go.whole ∙ take-append-drop (suc n) text;
      longest = (rw go.whole found.longest, go.longest);
      among = ap (λ (k : ℕ). token_at f at (at + k) line (tokens_at (at + k) (line + newlines (take (suc n) text)) go.parts)) size ∙ ap (token_at f at (at + suc n) line) go.among ∙ sym tokens;
      over = subst (λ (x : Option ReadError). MatchOption x (go.rest ≡ []) (λ e. (e.line ≡ line + newlines (take (suc n) text ++ joined go.parts [])) × IsStuck go.rest)) (sym fault) (rw lines go.over);
      named = subst (λ (x : Option ReadError). MatchOption x (Unit {0}) (λ e. IsCause e.cause go.rest)) (sym fault) go.named;
    }

bad_found : {p : Piece} {why : Cause} {f : Form} {n : ℕ} → p ≡ piece.Bad why → p ≡ piece.Found f n → ⊥
bad_found bad found = cc

stuck : (b : ℕ) (xs : List ℕ) (why : Cause) → piece_of (b ∷ xs) ≡ piece.Bad why → IsStuck (b ∷ xs)
stuck b xs why bad p after longest whole = bad_found bad (ap piece_of (sym whole) ∙ longest_found p after longest)

cut_piece : (fuel b : ℕ) (xs : List ℕ) (at line : ℕ) → length xs ≤ fuel → ((text : List ℕ) (at line : ℕ) → length text ≤ fuel → CutFrom text at line) → (p : Piece) → piece_of (b ∷ xs) ≡ p → CutFrom (b ∷ xs) at line
cut_piece fuel b xs at line le go (piece.Bad why) is =
    let e = bad_front b at line xs why is in
    let lines : line ≡ line + newlines [] = omega arith in
    record {
      parts = [];
      rest = b ∷ xs;
      whole = refl;
      longest = tt;
      among = sym (ap (λ (x : Lexed). x.tokens) e);
      over = subst (λ (x : Option ReadError). MatchOption x (b ∷ xs ≡ []) (λ e. (e.line ≡ line + newlines []) × IsStuck (b ∷ xs))) (sym (ap (λ (x : Lexed). x.fault) e)) (lines, stuck b xs why is);
      named = subst (λ (x : Option ReadError). MatchOption x (Unit {0}) (λ e. IsCause e.cause (b ∷ xs))) (sym (ap (λ (x : Lexed). x.fault) e)) (bad_cause b xs why is);
    }
cut_piece fuel b xs at line le go (piece.Found f zero) is = absurd (let h = (found_longest (b ∷ xs) f zero (omega arith) is).some in omega arith)
cut_piece fuel b xs at line le go (piece.Found form.Gap (suc n)) is =
    let text = b ∷ xs in
    let found = found_longest text form.Gap (suc n) (omega arith) is in
    let behind : line + newlines (take (suc n) text) ≡ line_after line b = gap_line (take (suc n) text) line found.longest.is in
    let e = gap_front b (suc n) at line xs is (omega arith) ∙ ap (λ (l : ℕ). lexed_from (drop (suc n) text) 0 (at + suc n) l) (sym behind) in
    cut_part form.Gap b xs n at line is (ap (λ (x : Lexed). x.tokens) e) (ap (λ (x : Lexed). x.fault) e) (go (drop (suc n) text) (at + suc n) (line + newlines (take (suc n) text)) (omega (arith, length-drop n xs)))
cut_piece fuel b xs at line le go (piece.Found (form.Token k) (suc n)) is =
    let text = b ∷ xs in
    let found = found_longest text (form.Token k) (suc n) (omega arith) is in
    let behind : line + newlines (take (suc n) text) ≡ line = token_line k (take (suc n) text) line found.longest.is in
    let t : Token = record { kind = k; from = at; to = at + suc n; line = line } in
    let e = token_front b (suc n) at line xs k is (omega arith) ∙ ap (λ (l : ℕ). with_token t (lexed_from (drop (suc n) text) 0 (at + suc n) l)) (sym behind) in
    cut_part (form.Token k) b xs n at line is (ap (λ (x : Lexed). x.tokens) e) (ap (λ (x : Lexed). x.fault) e) (go (drop (suc n) text) (at + suc n) (line + newlines (take (suc n) text)) (omega (arith, length-drop n xs)))

cut_from : (fuel : ℕ) (text : List ℕ) (at line : ℕ) → length text ≤ fuel → CutFrom text at line
cut_from fuel [] at line le = cut_end at line
cut_from zero (b ∷ xs) at line le = absurd (omega arith)
cut_from (suc fuel) (b ∷ xs) at line le = cut_piece fuel b xs at line (omega arith) (cut_from fuel) (piece_of (b ∷ xs)) refl

pub cut_whole : (text : List ℕ) → (rest : List ℕ) × (c : Cut text (lexed text).tokens rest) × MatchOption (lexed text).fault (rest ≡ []) (λ e. (e.line ≡ 1 + newlines (joined c.parts [])) × IsStuck rest)
unfolding lexed
cut_whole text =
    let g = cut_from (length text) text 0 1 (omega arith) in
    (g.rest, record { parts = g.parts; whole = g.whole; longest = g.longest; among = g.among }, g.over)

-- what the cause of the fault says of the rest
pub faults_named : FaultsAreNamed
unfolding lexed
faults_named text e is =
    let g = cut_from (length text) text 0 1 (omega arith) in
    (g.rest, record { parts = g.parts; whole = g.whole; longest = g.longest; among = g.among }, subst (λ (x : Option ReadError). MatchOption x (Unit {0}) (λ e. IsCause e.cause g.rest)) is g.named)

-- a text of longest pieces

lexed_part : (f : Form) (bytes rest : List ℕ) (at line : ℕ) (ts : List Token) → IsForm f bytes → piece_of (bytes ++ rest) ≡ piece.Found f (length bytes)
    → lexed_from rest 0 (at + length bytes) (line + newlines bytes) ≡ record { tokens = ts; fault = None }
    → lexed_from (bytes ++ rest) 0 at line ≡ record { tokens = token_at f at (at + length bytes) line ts; fault = None }
lexed_part f [] rest at line ts shape is go = absurd (let h = shape_some f [] shape in omega arith)
lexed_part form.Gap (b ∷ bs) rest at line ts shape is go =
    let n = length (b ∷ bs) in
    gap_front b n at line (bs ++ rest) is (omega arith) ∙ ap (λ (x : List ℕ). lexed_from x 0 (at + n) (line_after line b)) (drop_at (b ∷ bs) rest n refl) ∙ ap (λ (l : ℕ). lexed_from rest 0 (at + n) l) (sym (gap_line (b ∷ bs) line shape)) ∙ go
lexed_part (form.Token k) (b ∷ bs) rest at line ts shape is go =
    let n = length (b ∷ bs) in
    let t : Token = record { kind = k; from = at; to = at + n; line = line } in
    token_front b n at line (bs ++ rest) k is (omega arith) ∙ ap (λ (x : List ℕ). with_token t (lexed_from x 0 (at + n) line)) (drop_at (b ∷ bs) rest n refl) ∙ ap (λ (l : ℕ). with_token t (lexed_from rest 0 (at + n) l)) (sym (token_line k (b ∷ bs) line shape)) ∙ ap (with_token t) go

lexed_parts : (ps : List Part) (at line : ℕ) → AreLongest ps [] → lexed_from (joined ps []) 0 at line ≡ record { tokens = tokens_at at line ps; fault = None }
unfolding lexed_from
lexed_parts [] at line longest = refl
lexed_parts (p ∷ ps) at line longest =
    lexed_part p.form p.bytes (joined ps []) at line (tokens_at (at + length p.bytes) (line + newlines p.bytes) ps) longest.0.is (longest_found p (joined ps []) longest.0)
    (lexed_parts ps (at + length p.bytes) (line + newlines p.bytes) longest.1)

pub one_cut : (text : List ℕ) (ts : List Token) → Cut text ts [] ↔ (lexed text ≡ record { tokens = ts; fault = None })
unfolding lexed
one_cut text ts = (
  (λ (c : Cut text ts []). ap (λ (x : List ℕ). lexed_from x 0 0 1) (sym c.whole) ∙ lexed_parts c.parts 0 1 c.longest ∙ ap (λ (x : List Token). record { tokens = x; fault = None }) c.among),
  (λ (e : lexed text ≡ record { tokens = ts; fault = None }).
      let g = cut_from (length text) text 0 1 (omega arith) in
      let over : g.rest ≡ [] = subst (λ (x : Option ReadError). MatchOption x (g.rest ≡ []) (λ e. (e.line ≡ 1 + newlines (joined g.parts [])) × IsStuck g.rest)) (ap (λ (x : Lexed). x.fault) e) g.over in
      record { parts = g.parts; whole = rw over at g.whole; longest = rw over at g.longest; among = g.among ∙ ap (λ (x : Lexed). x.tokens) e }),
)

-- where tokens stand

-- a part of a text, by where it stands
part : (before word rest : List ℕ) (i j : ℕ) → i ≡ length before → j ≡ i + length word → slice_range (before ++ (word ++ rest)) i j ≡ word
part before word rest i j at to =
    let n : j - i ≡ length word = omega arith in
    rw (n, drop_at before (word ++ rest) i (sym at)) (take_at word rest (length word) refl)

-- what is known of a place: the text before the last token, the gaps behind it, and the line
record Here (text before pend behind : List ℕ) (at here line : ℕ) : Type 0 where
  whole : text ≡ (before ++ pend) ++ behind
  last : at ≡ length before
  place : here ≡ length (before ++ pend)
  gaps : AreGaps pend
  lines : line ≡ 1 + newlines (before ++ pend)

gap_here : (text before pend bytes behind : List ℕ) (at here line : ℕ) → Here text before pend (bytes ++ behind) at here line → IsGap bytes
    → Here text before (pend ++ bytes) behind at (here + length bytes) (line + newlines bytes)
gap_here text before pend bytes behind at here line h gap = record {
  whole = h.whole ∙ sym (append_assoc (before ++ pend) bytes behind) ∙ ap (λ (x : List ℕ). x ++ behind) (append_assoc before pend bytes);
  last = h.last;
  place = omega (arith, h.place, length-append before pend, length-append before (pend ++ bytes), length-append pend bytes);
  gaps = OneMore pend bytes h.gaps gap;
  lines = omega (arith, h.lines, newlines_join before pend, newlines_join before (pend ++ bytes), newlines_join pend bytes);
}

token_here : (text before pend bytes behind : List ℕ) (at here line : ℕ) → Here text before pend (bytes ++ behind) at here line
    → Here text ((before ++ pend) ++ bytes) [] behind (here + length bytes) (here + length bytes) (line + newlines bytes)
token_here text before pend bytes behind at here line h = record {
  whole = h.whole ∙ sym (append_assoc (before ++ pend) bytes behind) ∙ ap (λ (x : List ℕ). x ++ behind) (sym (append-nil ((before ++ pend) ++ bytes)));
  last = omega (arith, h.place, length-append (before ++ pend) bytes);
  place = omega (arith, h.place, length-append (before ++ pend) bytes, ap length (append-nil ((before ++ pend) ++ bytes)));
  gaps = NoGap;
  lines = omega (arith, h.lines, newlines_join (before ++ pend) bytes, ap newlines (append-nil ((before ++ pend) ++ bytes)));
}

token_stands : (text before pend bytes behind : List ℕ) (at here line : ℕ) (k : TokenKind) → Here text before pend (bytes ++ behind) at here line → IsForm (form.Token k) bytes
    → Stands text at (record { kind = k; from = here; to = here + length bytes; line = line })
token_stands text before pend bytes behind at here line k h is =
    let some = shape_some (form.Token k) bytes is in
    let between : slice_range text at here ≡ pend = ap (λ (x : List ℕ). slice_range x at here) (h.whole ∙ append_assoc before pend (bytes ++ behind)) ∙ part before pend (bytes ++ behind) at here h.last (omega (arith, h.last, h.place, length-append before pend)) in
    let slice : slice_range text here (here + length bytes) ≡ bytes = ap (λ (x : List ℕ). slice_range x here (here + length bytes)) h.whole ∙ part (before ++ pend) bytes behind here (here + length bytes) h.place refl in
    let front : take here text ≡ before ++ pend = ap (take here) h.whole ∙ take_at (before ++ pend) (bytes ++ behind) here (sym h.place) in
    record {
      behind = omega (arith, h.last, h.place, length-append before pend);
      some = omega arith;
      within = omega (arith, h.place, ap length h.whole, length-append (before ++ pend) (bytes ++ behind), length-append bytes behind);
      between = rw between h.gaps;
      is = rw slice is;
      line = omega (arith, h.lines, ap newlines front);
    }

order_part : (f : Form) (bytes behind text before pend : List ℕ) (at here line : ℕ) (ps : List Part) → IsForm f bytes → Here text before pend (bytes ++ behind) at here line
    → ((before pend : List ℕ) (at here line : ℕ) → Here text before pend behind at here line → InOrder text at (tokens_at here line ps))
    → InOrder text at (token_at f here (here + length bytes) line (tokens_at (here + length bytes) (line + newlines bytes) ps))
order_part form.Gap bytes behind text before pend at here line ps is h go =
    go before (pend ++ bytes) at (here + length bytes) (line + newlines bytes) (gap_here text before pend bytes behind at here line h is)
order_part (form.Token k) bytes behind text before pend at here line ps is h go =
    (token_stands text before pend bytes behind at here line k h is, go ((before ++ pend) ++ bytes) [] (here + length bytes) (here + length bytes) (line + newlines bytes) (token_here text before pend bytes behind at here line h))

order : (ps : List Part) (rest text before pend : List ℕ) (at here line : ℕ) → AreLongest ps rest → Here text before pend (joined ps rest) at here line → InOrder text at (tokens_at here line ps)
order [] rest text before pend at here line longest h = tt
order (p ∷ ps) rest text before pend at here line longest h =
    order_part p.form p.bytes (joined ps rest) text before pend at here line ps longest.0.is h (λ before pend at here line h. order ps rest text before pend at here line longest.1 h)

pub in_order : (text : List ℕ) → InOrder text 0 (lexed text).tokens
in_order text =
    let c = (cut_whole text).1 in
    let start : Here text [] [] (joined c.parts (cut_whole text).0) 0 0 1 = record { whole = sym c.whole; last = refl; place = refl; gaps = NoGap; lines = refl } in
    rw (← c.among) (order c.parts (cut_whole text).0 text [] [] 0 0 1 c.longest start)
