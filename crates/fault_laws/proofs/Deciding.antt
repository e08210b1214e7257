-- The bytes at which a lexical fault is decided.
use Rattle.std.proofs.Common.{◌≡◌, ℕ, ◌<◌, ◌≤◌, List, [], ◌∷◌, ◌++◌, length, take, drop, refl, sym, ap, subst, ◌∙◌, arith, append_assoc, take-append-drop}
use Rattle.std.proofs.lemmas.List.{append-nil}
use Rattle.ir_lex.specs.declared.token.Cause.{Cause}
use Rattle.ir_lex.specs.declared.token.Cause.TheVariants as cause
use Rattle.ir_lex.specs.declared.token.Form.{Form}
use Rattle.ir_lex.specs.declared.token.Piece.{Piece}
use Rattle.ir_lex.specs.declared.token.Piece.TheVariants as piece
use Rattle.ir_lex.specs.Lexing.{piece_of}
use Rattle.ir_lex.specs.Cut.{IsForm}
use Rattle.ir_lex.specs.Faults.{BeginsNever, IsBegun, PassesLimit, IsCause}
use Rattle.ir_lex.proofs.Cuts.{found_longest}
use Rattle.ir_lex.proofs.Causes.{bad_cause}

-- no piece that begins at these bytes goes on behind them
abbrev pub Ends : List ℕ → List ℕ → Type 0
Ends through more = (f : Form) (t after : List ℕ) → IsForm f t → t ++ after ≡ through ++ more → length t ≤ length through

-- ---- no piece begins

-- a piece at the front of what goes on with other bytes
never_found : (text more : List ℕ) (f : Form) (n : ℕ) → BeginsNever text → 0 < length (text ++ more) → piece_of (text ++ more) ≡ piece.Found f n → ⊥
never_found text more f n never some is =
    let found = found_longest (text ++ more) f n some is in
    never more f (take n (text ++ more)) (drop n (text ++ more)) found.longest.is (take-append-drop n (text ++ more))

never_passes : (text more : List ℕ) (why : Cause) → BeginsNever text → PassesLimit why (text ++ more) → ⊥
never_passes text more why never p = never more p.form p.piece p.after p.is p.whole

never_begun : (text more : List ℕ) → BeginsNever text → IsBegun (text ++ more) → ⊥
never_begun text more never b =
    never (more ++ b.more) b.form ((text ++ more) ++ b.more) [] b.is (append-nil ((text ++ more) ++ b.more) ∙ append_assoc text more b.more)

-- the cause is then Token
never_cause : (text more : List ℕ) (why : Cause) → BeginsNever text → IsCause why (text ++ more) → why ≡ cause.Token
never_cause text more cause.Token never is = refl
never_cause text more cause.End never is = absurd (never_begun text more never is.1)
never_cause text more cause.Number never is = absurd (never_passes text more cause.Number never is)
never_cause text more cause.TooLong never is = absurd (never_passes text more cause.TooLong never is)
never_cause text more _ never is = absurd is

never_piece : (text more : List ℕ) (b : ℕ) (bs : List ℕ) → text ++ more ≡ b ∷ bs → BeginsNever text → (p : Piece) → piece_of (b ∷ bs) ≡ p → p ≡ piece.Bad cause.Token
never_piece text more b bs e never (piece.Found f n) is = absurd (never_found text more f n never (let l = ap length e in omega arith) (ap piece_of e ∙ is))
never_piece text more b bs e never (piece.Bad why) is = ap piece.Bad (never_cause text more why never (subst (IsCause why) (sym e) (bad_cause b bs why is)))

-- where no piece begins whatever follows, none is found, and the cause is Token
pub never_bad : (text more : List ℕ) → 0 < length text → BeginsNever text → piece_of (text ++ more) ≡ piece.Bad cause.Token
never_bad [] more some never = absurd (omega arith)
never_bad (b ∷ bs) more some never = never_piece (b ∷ bs) more b (bs ++ more) refl never (piece_of (b ∷ (bs ++ more))) refl
