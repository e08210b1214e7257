-- Printed flags: the words that are set, in one order, say what was said.
use Rattle.std.proofs.Common.{◌≡◌, ℕ, Bool, true, false, cond, List, [], ◌∷◌, ◌++◌, Ok, Err, refl, sym, ap, subst, ◌∙◌, inl, inr}
use Rattle.std.specs.Prelude.{codes}
use Rattle.std.specs.List.{list_any}
use Rattle.std.proofs.lemmas.Bool.{cases_Bool, or_from}
use lib.Pointwise.{bytes_decides}
use Rattle.ir_lex.specs.declared.token.TokenKind.{TokenKind}
use Rattle.ir_lex.specs.declared.token.TokenKind.TheVariants as kind
use Rattle.ir_lex.specs.declared.token.Cause.TheVariants as causes
use Rattle.int_num.specs.declared.ops.BinOp.{BinOp}
use Rattle.int_num.specs.declared.ops.BinOp.TheVariants as op
use Rattle.int_num.specs.declared.ops.CastOp.{CastOp}
use Rattle.int_num.specs.declared.ops.CastOp.TheVariants as cast
use Rattle.int_num.specs.declared.ops.Flags.{Flags}
use Rattle.ir_text.specs.Tokens.{TokenV, same, among}
use Rattle.ir_text.specs.Spelled.{one_token}
use Rattle.ir_text.specs.Repeated.{each}
use Rattle.ir_instr.specs.Words.{word_among_by}
use Rattle.ir_instr.specs.Flags.{one_of, flags_of, wrapping, flags_for, cast_flags_for}
use Rattle.ir_instr.specs.Comparing.{comparing_words}
use Rattle.ir_instr.specs.Addresses.{address_words}
use Rattle.ir_instr.specs.InstructionSpelled.{Says, some_flags, passed_words}
use Rattle.ir_printer.specs.Pieces.{Piece, Blank, Word}
use Rattle.ir_printer.specs.Instructions.{flag, range_flags, operation_flags, cast_flags}
use Rattle.print_values.specs.Printed.{Printed}
use Rattle.print_values.proofs.Composing.{printed_both, printed_as, printed_blank, printed_none}
use Rattle.print_instrs.proofs.Printing.{Prints, nothing}
use Rattle.print_instrs.proofs.Tokens.{is_small_word, word_for}

-- ---- words of a list

listed_text : (words : List (List ℕ)) (text v : List ℕ) (b : Bool) → among words text ≡ b → cond b (Ok text) (Err causes.Operand) ≡ Ok v → (text ≡ v) × (among words text ≡ true)
listed_text words text v true is e = let same_text : text ≡ v = cc in (same_text, is)
listed_text words text v false is e = absurd cc

listed_by : (words : List (List ℕ)) (k : TokenKind) (text v : List ℕ) → cond (word_among_by words k text) (Ok text) (Err causes.Operand) ≡ Ok v → (text ≡ v) × (among words text ≡ true)
listed_by words kind.Word text v e = listed_text words text v (among words text) refl e
listed_by words kind.Punct text v e = absurd cc
listed_by words kind.GlobalName text v e = absurd cc
listed_by words kind.LocalName text v e = absurd cc
listed_by words kind.Label text v e = absurd cc
listed_by words kind.Integer text v e = absurd cc
listed_by words kind.Text text v e = absurd cc

one_listed : (words : List (List ℕ)) (t : TokenV) (v : List ℕ) → one_of words t ≡ Ok v → among words v ≡ true
one_listed words t v e = let l = listed_by words t.kind t.text v e in subst (λ (u : List ℕ). among words u ≡ true) l.0 l.1

-- a word that is not of the list is not said
unsaid : (words : List (List ℕ)) (w : List ℕ) (written : List (List ℕ)) (ws : List TokenV) → among words w ≡ false → each (one_token (one_of words)) written ws → among written w ≡ false
unfolding among
unsaid words w [] ws other s = refl
unsaid words w (v ∷ all) ws other s =
    or_from (same w v) (list_any (same w) all)
    (elim (cases_Bool (same w v)) [
      | inl e ↦ let here : w ≡ v = (bytes_decides w v).0 e in let clash : among words w ≡ true = subst (λ (u : List ℕ). among words u ≡ true) (sym here) (one_listed words s.first_spells.token v s.first_spells.is) in absurd cc
      | inr e ↦ e
    ])
    (unsaid words w all s.rest other s.rest_spells)

-- a word, and others behind it
module _ (words : List (List ℕ)) where
  no_words : Printed (each (one_token (one_of words)) []) []
  no_words = printed_none refl

  more_words : (w : List ℕ) (all : List (List ℕ)) (ps : List Piece) → is_small_word w ≡ true → among words w ≡ true → Printed (each (one_token (one_of words)) all) ps → Printed (each (one_token (one_of words)) (w ∷ all)) (Blank ∷ Word w ∷ ps)
  more_words w all ps small listed others = printed_blank (Word w ∷ ps) (printed_both (Word w ∷ []) ps (word_for (one_of words) w w small (λ line. rw listed refl)) others)

  said : {A : Type 0} (meaning : List (List ℕ) → A) (a : A) (written : List (List ℕ)) (ps : List Piece) → meaning written ≡ a → Printed (each (one_token (one_of words)) written) ps → Printed (Says words meaning a) ps
  said meaning a written ps is p = printed_as ps (λ us s. record { written = written; spelled = s; is = is }) p

-- ---- flags

range_said : (nsw nuw exact disjoint nneg : Bool) → exact ≡ false → disjoint ≡ false → nneg ≡ false
    → Printed (some_flags wrapping (record { nsw = nsw; nuw = nuw; exact = exact; disjoint = disjoint; nneg = nneg })) (flag nuw (codes "nuw") ++ flag nsw (codes "nsw"))
unfolding among
range_said nsw nuw true disjoint nneg p q r = absurd cc
range_said nsw nuw false true nneg p q r = absurd cc
range_said nsw nuw false false true p q r = absurd cc
range_said false false false false false p q r = said wrapping flags_of _ [] _ refl (no_words wrapping)
range_said false true false false false p q r = said wrapping flags_of _ (codes "nuw" ∷ []) _ refl (more_words wrapping (codes "nuw") [] _ refl refl (no_words wrapping))
range_said true false false false false p q r = said wrapping flags_of _ (codes "nsw" ∷ []) _ refl (more_words wrapping (codes "nsw") [] _ refl refl (no_words wrapping))
range_said true true false false false p q r = said wrapping flags_of _ (codes "nuw" ∷ codes "nsw" ∷ []) _ refl (more_words wrapping (codes "nuw") (codes "nsw" ∷ []) _ refl refl (more_words wrapping (codes "nsw") [] _ refl refl (no_words wrapping)))

exact_said : (nsw nuw exact disjoint nneg : Bool) → nsw ≡ false → nuw ≡ false → disjoint ≡ false → nneg ≡ false
    → Printed (some_flags (codes "exact" ∷ []) (record { nsw = nsw; nuw = nuw; exact = exact; disjoint = disjoint; nneg = nneg })) (flag exact (codes "exact"))
unfolding among
exact_said true nuw exact disjoint nneg o p q r = absurd cc
exact_said false true exact disjoint nneg o p q r = absurd cc
exact_said false false exact true nneg o p q r = absurd cc
exact_said false false exact false true o p q r = absurd cc
exact_said false false false false false o p q r = said (codes "exact" ∷ []) flags_of _ [] _ refl (no_words (codes "exact" ∷ []))
exact_said false false true false false o p q r = said (codes "exact" ∷ []) flags_of _ (codes "exact" ∷ []) _ refl (more_words (codes "exact" ∷ []) (codes "exact") [] _ refl refl (no_words (codes "exact" ∷ [])))

disjoint_said : (nsw nuw exact disjoint nneg : Bool) → nsw ≡ false → nuw ≡ false → exact ≡ false → nneg ≡ false
    → Printed (some_flags (codes "disjoint" ∷ []) (record { nsw = nsw; nuw = nuw; exact = exact; disjoint = disjoint; nneg = nneg })) (flag disjoint (codes "disjoint"))
unfolding among
disjoint_said true nuw exact disjoint nneg o p q r = absurd cc
disjoint_said false true exact disjoint nneg o p q r = absurd cc
disjoint_said false false true disjoint nneg o p q r = absurd cc
disjoint_said false false false disjoint true o p q r = absurd cc
disjoint_said false false false false false o p q r = said (codes "disjoint" ∷ []) flags_of _ [] _ refl (no_words (codes "disjoint" ∷ []))
disjoint_said false false false true false o p q r = said (codes "disjoint" ∷ []) flags_of _ (codes "disjoint" ∷ []) _ refl (more_words (codes "disjoint" ∷ []) (codes "disjoint") [] _ refl refl (no_words (codes "disjoint" ∷ [])))

nneg_said : (nsw nuw exact disjoint nneg : Bool) → nsw ≡ false → nuw ≡ false → exact ≡ false → disjoint ≡ false
    → Printed (some_flags (codes "nneg" ∷ []) (record { nsw = nsw; nuw = nuw; exact = exact; disjoint = disjoint; nneg = nneg })) (flag nneg (codes "nneg"))
unfolding among
nneg_said true nuw exact disjoint nneg o p q r = absurd cc
nneg_said false true exact disjoint nneg o p q r = absurd cc
nneg_said false false true disjoint nneg o p q r = absurd cc
nneg_said false false false true nneg o p q r = absurd cc
nneg_said false false false false false o p q r = said (codes "nneg" ∷ []) flags_of _ [] _ refl (no_words (codes "nneg" ∷ []))
nneg_said false false false false true o p q r = said (codes "nneg" ∷ []) flags_of _ (codes "nneg" ∷ []) _ refl (more_words (codes "nneg" ∷ []) (codes "nneg") [] _ refl refl (no_words (codes "nneg" ∷ [])))

none_said : (nsw nuw exact disjoint nneg : Bool) → nsw ≡ false → nuw ≡ false → exact ≡ false → disjoint ≡ false → nneg ≡ false
    → Printed (some_flags [] (record { nsw = nsw; nuw = nuw; exact = exact; disjoint = disjoint; nneg = nneg })) []
unfolding among
none_said true nuw exact disjoint nneg o p q r v = absurd cc
none_said false true exact disjoint nneg o p q r v = absurd cc
none_said false false true disjoint nneg o p q r v = absurd cc
none_said false false false true nneg o p q r v = absurd cc
none_said false false false false true o p q r v = absurd cc
none_said false false false false false o p q r v = said [] flags_of _ [] _ refl (no_words [])

-- a flag that the list does not have is not set
unset : (words : List (List ℕ)) (w : List ℕ) (of : Flags → Bool) → ((written : List (List ℕ)) → of (flags_of written) ≡ among written w) → among words w ≡ false → (f : Flags) (ws : List TokenV) → some_flags words f ws → of f ≡ false
unset words w of is other f ws s = ap of (sym s.is) ∙ is s.written ∙ unsaid words w s.written ws other s.spelled

module _ (words : List (List ℕ)) (f : Flags) (ws : List TokenV) (s : some_flags words f ws) where
  no_nsw : among words (codes "nsw") ≡ false → f.nsw ≡ false
  no_nsw other = unset words (codes "nsw") (λ g. g.nsw) (λ written. refl) other f ws s

  no_nuw : among words (codes "nuw") ≡ false → f.nuw ≡ false
  no_nuw other = unset words (codes "nuw") (λ g. g.nuw) (λ written. refl) other f ws s

  no_exact : among words (codes "exact") ≡ false → f.exact ≡ false
  no_exact other = unset words (codes "exact") (λ g. g.exact) (λ written. refl) other f ws s

  no_disjoint : among words (codes "disjoint") ≡ false → f.disjoint ≡ false
  no_disjoint other = unset words (codes "disjoint") (λ g. g.disjoint) (λ written. refl) other f ws s

  no_nneg : among words (codes "nneg") ≡ false → f.nneg ≡ false
  no_nneg other = unset words (codes "nneg") (λ g. g.nneg) (λ written. refl) other f ws s

range_printed : (f : Flags) → Prints (some_flags wrapping f) (range_flags f)
unfolding among
range_printed f = record { back = λ ws sound s. range_said f.nsw f.nuw f.exact f.disjoint f.nneg (no_exact wrapping f ws s refl) (no_disjoint wrapping f ws s refl) (no_nneg wrapping f ws s refl) }

exact_printed : (f : Flags) → Prints (some_flags (codes "exact" ∷ []) f) (flag f.exact (codes "exact"))
unfolding among
exact_printed f = record { back = λ ws sound s. exact_said f.nsw f.nuw f.exact f.disjoint f.nneg (no_nsw _ f ws s refl) (no_nuw _ f ws s refl) (no_disjoint _ f ws s refl) (no_nneg _ f ws s refl) }

disjoint_printed : (f : Flags) → Prints (some_flags (codes "disjoint" ∷ []) f) (flag f.disjoint (codes "disjoint"))
unfolding among
disjoint_printed f = record { back = λ ws sound s. disjoint_said f.nsw f.nuw f.exact f.disjoint f.nneg (no_nsw _ f ws s refl) (no_nuw _ f ws s refl) (no_exact _ f ws s refl) (no_nneg _ f ws s refl) }

nneg_printed : (f : Flags) → Prints (some_flags (codes "nneg" ∷ []) f) (flag f.nneg (codes "nneg"))
unfolding among
nneg_printed f = record { back = λ ws sound s. nneg_said f.nsw f.nuw f.exact f.disjoint f.nneg (no_nsw _ f ws s refl) (no_nuw _ f ws s refl) (no_exact _ f ws s refl) (no_disjoint _ f ws s refl) }

none_printed : (f : Flags) → Prints (some_flags [] f) []
unfolding among
none_printed f = record { back = λ ws sound s. none_said f.nsw f.nuw f.exact f.disjoint f.nneg (no_nsw _ f ws s refl) (no_nuw _ f ws s refl) (no_exact _ f ws s refl) (no_disjoint _ f ws s refl) (no_nneg _ f ws s refl) }

-- ---- the flags of operations and of changes of width

pub operation_flags_printed : (o : BinOp) (f : Flags) → Prints (some_flags (flags_for o) f) (operation_flags o f)
operation_flags_printed op.Add f = range_printed f
operation_flags_printed op.Sub f = range_printed f
operation_flags_printed op.Mul f = range_printed f
operation_flags_printed op.Shl f = range_printed f
operation_flags_printed op.Udiv f = exact_printed f
operation_flags_printed op.Sdiv f = exact_printed f
operation_flags_printed op.Lshr f = exact_printed f
operation_flags_printed op.Ashr f = exact_printed f
operation_flags_printed op.Or f = disjoint_printed f
operation_flags_printed op.Urem f = none_printed f
operation_flags_printed op.Srem f = none_printed f
operation_flags_printed op.And f = none_printed f
operation_flags_printed op.Xor f = none_printed f

pub cast_flags_printed : (o : CastOp) (f : Flags) → Prints (some_flags (cast_flags_for o) f) (cast_flags o f)
cast_flags_printed cast.Trunc f = range_printed f
cast_flags_printed cast.Zext f = nneg_printed f
cast_flags_printed cast.Sext f = none_printed f

-- ---- other words

pub inbounds_printed : (inbounds : Bool) → Prints (Says address_words (λ written. among written (codes "inbounds")) inbounds) (flag inbounds (codes "inbounds"))
unfolding among
inbounds_printed false = record { back = λ ws sound s. said address_words (λ written. among written (codes "inbounds")) false [] [] refl (no_words address_words) }
inbounds_printed true = record { back = λ ws sound s. said address_words (λ written. among written (codes "inbounds")) true (codes "inbounds" ∷ []) _ refl (more_words address_words (codes "inbounds") [] [] refl refl (no_words address_words)) }

pub compared_words_printed : Prints (passed_words comparing_words) []
compared_words_printed = nothing (record { written = []; spelled = refl; is = refl })
