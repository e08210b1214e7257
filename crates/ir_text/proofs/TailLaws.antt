-- What stands behind an instruction or a global keeps the laws.
use Rattle.std.proofs.Common.{ℕ, Bool, true, false, cond, List, Ok, refl, ◌⊎◌, inl, inr}
use Rattle.std.specs.Prelude.{codes}
use Rattle.ir_lex.specs.declared.token.Cause.TheVariants as causes
use Rattle.ir_text.specs.Tokens.{TokenV, is_mark, is_word}
use Rattle.ir_text.specs.Reading.{token_by, wrong}
use Rattle.ir_text.specs.Spelled.{Spelling, one_token, nothing, by_test, when}
use Rattle.ir_text.specs.Lawful.{Behind, anything, Lawful, Refuses}
use Rattle.ir_text.specs.Choice.{Opens}
use Rattle.ir_text.specs.Leaves.{mark}
use Rattle.ir_text.specs.Passed.{some_integer, some_string, some_word}
use Rattle.ir_text.specs.Lists.{after_comma, with_comma}
use Rattle.ir_text.specs.Tails.{note_behind, note_at, notes_at, tail_at, tails_at, behind_sign, a_note, some_notes, tail_led, a_tail, some_tails}
use Rattle.ir_text.proofs.Laws.{nothing_laws}
use Rattle.ir_text.proofs.Choices.{in_turn, led, token_laws}
use Rattle.ir_text.proofs.ChoiceLaws.{token_opens, opens_more}
use Rattle.ir_text.proofs.PassedLaws.{skipped_laws, refusing_here}

pub behind_sign_laws : (n : ℕ) → Lawful n anything note_behind behind_sign
behind_sign_laws n = in_turn n anything _ _ _ _ (token_laws n some_word) (λ _. in_turn n anything _ _ _ _ (token_laws n (mark 33)) (λ _. token_laws n some_integer))

pub note_laws : (n : ℕ) → Lawful n anything note_at a_note
note_laws n = in_turn n anything _ _ _ _ (token_laws n (mark 33)) (λ _. behind_sign_laws n)

pub notes_laws : (n : ℕ) → Lawful n (Behind (is_mark 33) anything) notes_at some_notes
notes_laws n = skipped_laws n (is_mark 33) note_at a_note anything (note_laws n) (opens_more (is_mark 33) (one_token (mark 33)) (λ _. behind_sign) (token_opens (is_mark 33) (λ _. causes.Operand))) (λ a ws rest s. tt)

tail_each : (n : ℕ) (a s c m : Bool) (t : TokenV)
    → Lawful n anything (λ rest. cond a (token_by some_integer rest) (cond s (token_by some_string rest) (cond c (Ok (tt, rest)) (cond m (note_behind rest) (wrong t causes.Operand)))))
    (by_test a (one_token some_integer) (by_test s (one_token some_string) (by_test c (nothing tt) (when m behind_sign))))
    ⊎ Refuses (λ rest. cond a (token_by some_integer rest) (cond s (token_by some_string rest) (cond c (Ok (tt, rest)) (cond m (note_behind rest) (wrong t causes.Operand)))))
    (by_test a (one_token some_integer) (by_test s (one_token some_string) (by_test c (nothing tt) (when m behind_sign)))) t
tail_each n true s c m t = inl (token_laws n some_integer)
tail_each n false true c m t = inl (token_laws n some_string)
tail_each n false false true m t = inl (nothing_laws n anything tt)
tail_each n false false false true t = inl (behind_sign_laws n)
tail_each n false false false false t = inr (refusing_here t)

pub tail_laws : (n : ℕ) → Lawful n anything tail_at a_tail
unfolding tail_at
tail_laws n = led n anything tail_at _ tail_led refl (λ t rest. refl) (λ t. tail_each n (is_word (codes "align") t) (is_word (codes "section") t) (is_word (codes "comdat") t) (is_mark 33 t) t)

pub comma_opens : {A : Type 0} (s : Spelling A) (a : A) (ws : List TokenV) → with_comma s a ws → Opens (is_mark 44) ws
comma_opens s = opens_more (is_mark 44) (one_token (mark 44)) (λ _. s) (token_opens (is_mark 44) (λ _. causes.Operand))

pub tails_laws : (n : ℕ) → Lawful n (Behind (is_mark 44) anything) tails_at some_tails
tails_laws n = skipped_laws n (is_mark 44) (after_comma tail_at) (with_comma a_tail) anything (in_turn n anything _ _ _ _ (token_laws n (mark 44)) (λ _. tail_laws n)) (comma_opens a_tail) (λ a ws rest s. tt)
