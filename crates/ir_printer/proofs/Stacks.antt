-- What is written, and what is left on the stack.
use Rattle.std.proofs.Common.{◌≡◌, ℕ, ◌+◌, ◌*◌, ◌<◌, ◌≤◌, List, [], ◌∷◌, ◌++◌, length, append_assoc, length-append, Result, refl, sym, ap, subst, ◌∙◌, arith}
use Rattle.std.specs.Prelude.{OnOk}
use Rattle.std.proofs.lemmas.List.{append-nil}
use Rattle.std.proofs.lemmas.Result.{on_ok_weaker}
use Rattle.pv_base.specs.declared.want.Memory.{Memory}
use Rattle.ir_tree.specs.Table.{Table}
use Rattle.ir_printer.specs.declared.nested.Show.{Show}
use Rattle.ir_printer.specs.Pieces.{Piece, bytes_of}
use Rattle.ir_printer.specs.Nesting.{show_pieces, stacked, Writes}

-- one item more
pub stacked_push : (t : Table) (stack : List Show) (s : Show) → stacked t (stack ++ s ∷ []) ≡ bytes_of (show_pieces t s) ++ stacked t stack
unfolding stacked
stacked_push t [] s = sym (append-nil (bytes_of (show_pieces t s)))
stacked_push t (x ∷ rest) s = ap (λ (bs : List ℕ). bs ++ bytes_of (show_pieces t x)) (stacked_push t rest s) ∙ append_assoc (bytes_of (show_pieces t s)) (stacked t rest) (bytes_of (show_pieces t x))

-- these bytes lie on a stack above what lay there, in so many items
pub record Lies (t : Table) (before after : List Show) (bytes : List ℕ) (count : ℕ) : Type 0 where
  pub text : stacked t after ≡ bytes ++ stacked t before
  pub len : length after ≡ length before + count

pub lies_none : (t : Table) (stack : List Show) → Lies t stack stack [] 0
lies_none t stack = record { text = refl; len = omega arith }

pub lies_more : (t : Table) (before after more : List Show) (bytes : List ℕ) (count : ℕ) (s : Show) → Lies t before after bytes count → more ≡ after ++ s ∷ []
    → Lies t before more (bytes_of (show_pieces t s) ++ bytes) (count + 1)
lies_more t before after more bytes count s lies e = record {
  text = rw e (stacked_push t after s ∙ ap (λ (bs : List ℕ). bytes_of (show_pieces t s) ++ bs) lies.text ∙ sym (append_assoc (bytes_of (show_pieces t s)) bytes (stacked t before)));
  len = rw e (let len = lies.len in omega (arith, length-append after (s ∷ [])));
}

-- some bytes are written, and the others lie on the stack
pub writes : (t : Table) (old new text : List ℕ) (before after : List Show) (bytes : List ℕ) (count : ℕ) (pieces : List Piece) → new ≡ old ++ text → Lies t before after bytes count
    → count ≤ 4 * length text → text ++ bytes ≡ bytes_of pieces → Writes t old new before after pieces
writes t old new text before after bytes count pieces e lies few is = record {
  text =
      let same : new ++ stacked t after ≡ (old ++ text) ++ (bytes ++ stacked t before) = rw (e, lies.text) refl in
      let parts : (old ++ text) ++ (bytes ++ stacked t before) ≡ old ++ ((text ++ bytes) ++ stacked t before) = simp append_assoc in
      same ∙ parts ∙ ap (λ (bs : List ℕ). old ++ (bs ++ stacked t before)) is;
  bound = rw e (let len = lies.len in omega (arith, length-append old text));
}

-- all bytes are written
pub writes_none : (t : Table) (old new text : List ℕ) (stack : List Show) (pieces : List Piece) → new ≡ old ++ text → text ≡ bytes_of pieces → Writes t old new stack stack pieces
writes_none t old new text stack pieces e is = writes t old new text stack stack [] 0 pieces e (lies_none t stack) (omega arith) (append-nil text ∙ is)

pub put_none : (t : Table) (old new text : List ℕ) (stack : List Show) (pieces : List Piece) (r : Result (Unit {0}) Memory) → OnOk r (new ≡ old ++ text) → text ≡ bytes_of pieces → OnOk r (Writes t old new stack stack pieces)
put_none t old new text stack pieces r ok is = on_ok_weaker r (λ e. writes_none t old new text stack pieces e is) ok

pub writes_one : (t : Table) (old new text : List ℕ) (before after : List Show) (s : Show) (pieces : List Piece) → new ≡ old ++ text → after ≡ before ++ s ∷ [] → 0 < length text
    → text ++ (bytes_of (show_pieces t s) ++ []) ≡ bytes_of pieces → Writes t old new before after pieces
writes_one t old new text before after s pieces e p some is =
    writes t old new text before after _ 1 pieces e (lies_more t before before after [] 0 s (lies_none t before) p) (omega arith) is

pub writes_two : (t : Table) (old new text : List ℕ) (before one after : List Show) (r s : Show) (pieces : List Piece) → new ≡ old ++ text → one ≡ before ++ r ∷ [] → after ≡ one ++ s ∷ [] → 0 < length text
    → text ++ (bytes_of (show_pieces t s) ++ (bytes_of (show_pieces t r) ++ [])) ≡ bytes_of pieces → Writes t old new before after pieces
writes_two t old new text before one after r s pieces e p q some is =
    writes t old new text before after _ 2 pieces e (lies_more t before one after _ 1 s (lies_more t before before one [] 0 r (lies_none t before) p) q) (omega arith) is

pub writes_four : (t : Table) (old new text : List ℕ) (before one two three after : List Show) (p q r s : Show) (pieces : List Piece) → new ≡ old ++ text
    → one ≡ before ++ p ∷ [] → two ≡ one ++ q ∷ [] → three ≡ two ++ r ∷ [] → after ≡ three ++ s ∷ [] → 0 < length text
    → text ++ (bytes_of (show_pieces t s) ++ (bytes_of (show_pieces t r) ++ (bytes_of (show_pieces t q) ++ (bytes_of (show_pieces t p) ++ [])))) ≡ bytes_of pieces → Writes t old new before after pieces
writes_four t old new text before one two three after p q r s pieces e first second third fourth some is =
    writes t old new text before after _ 4 pieces e
    (lies_more t before three after _ 3 s (lies_more t before two three _ 2 r (lies_more t before one two _ 1 q (lies_more t before before one [] 0 p (lies_none t before) first) second) third) fourth) (omega arith) is

-- the same pieces
pub as_pieces : (t : Table) (old new : List ℕ) (before after : List Show) (ps qs : List Piece) (r : Result (Unit {0}) Memory) → ps ≡ qs → OnOk r (Writes t old new before after ps) → OnOk r (Writes t old new before after qs)
as_pieces t old new before after ps qs r e ok = let P : List Piece → Type 0 = λ xs. OnOk r (Writes t old new before after xs) in subst P e ok

pub at_table : (t : Table) (old new : List ℕ) (before after : List Show) (ps : Table → List Piece) (qs : List Piece) (r : Result (Unit {0}) Memory) → ps t ≡ qs → OnOk r ((u : Table) → Writes u old new before after (ps u)) → OnOk r (Writes t old new before after qs)
at_table t old new before after ps qs r e ok = as_pieces t old new before after (ps t) qs r e (on_ok_weaker r (λ h. h t) ok)

-- ---- an item is taken off, and its beginning is written

pub taken : (t : Table) (to more whole : List ℕ) (stack rest after : List Show) (s : Show) → stack ≡ rest ++ s ∷ [] → Writes t to more rest after (show_pieces t s) → to ++ stacked t stack ≡ whole → more ++ stacked t after ≡ whole
taken t to more whole stack rest after s e wrote so =
    let all : stacked t stack ≡ bytes_of (show_pieces t s) ++ stacked t rest = rw e (stacked_push t rest s) in
    wrote.text ∙ ap (λ (bs : List ℕ). to ++ bs) (sym all) ∙ so

pub smaller : (t : Table) (to more : List ℕ) (stack rest after : List Show) (s : Show) → stack ≡ rest ++ s ∷ [] → Writes t to more rest after (show_pieces t s)
    → 4 * length (stacked t after) + length after < 4 * length (stacked t stack) + length stack
smaller t to more stack rest after s e wrote =
    let all : stacked t stack ≡ bytes_of (show_pieces t s) ++ stacked t rest = rw e (stacked_push t rest s) in
    let same : more ++ stacked t after ≡ to ++ stacked t stack = wrote.text ∙ ap (λ (bs : List ℕ). to ++ bs) (sym all) in
    let lens : length more + length (stacked t after) ≡ length to + length (stacked t stack) =
    sym (length-append more (stacked t after)) ∙ ap length same ∙ length-append to (stacked t stack) in
    let one : length stack ≡ length rest + 1 = rw e (length-append rest (s ∷ [])) in
    let bound = wrote.bound in
    omega arith

pub taken_all : (t : Table) (to whole : List ℕ) (stack : List Show) → stack ≡ [] → to ++ stacked t stack ≡ whole → to ≡ whole
unfolding stacked
taken_all t to whole stack e so = sym (append-nil to) ∙ (rw e at so)
