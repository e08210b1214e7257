-- What is passed over, a token or an item at a time.
use Rattle.std.proofs.Common.{◌≡◌, ℕ, zero, suc, true, false, List, [], ◌∷◌, Ok, Err, refl}
use Rattle.ir_text.specs.declared.fault.Fault.TheVariants.{Ended}
use Rattle.ir_text.specs.declared.fault.ReadEnd.{ReadEnd}
use Rattle.ir_text.specs.declared.fault.ReadEnd.TheVariants as ends
use Rattle.ir_text.specs.Tokens.{TokenV, is_mark}
use Rattle.ir_text.specs.Reading.{next_is, Fails}
use Rattle.ir_text.specs.Passed.{is_string, is_opening, group_from}
use Rattle.ir_grammar.specs.PassedItems.{to_string, to_group, attached_one, attached_to}

pub string_here : (ts rest : List TokenV) (t : TokenV) → ts ≡ t ∷ rest → is_string t ≡ true → to_string ts ≡ Ok (tt, rest)
unfolding to_string
string_here ts rest t is e = rw (is, e) refl

pub string_on : (ts rest : List TokenV) (t : TokenV) → ts ≡ t ∷ rest → is_string t ≡ false → to_string rest ≡ to_string ts
unfolding to_string
string_on ts rest t is e = rw (is, e) refl

pub string_none : (ts : List TokenV) → ts ≡ [] → to_string ts ≡ Err Ended
unfolding to_string
string_none ts is = rw is refl

pub group_here : (ts rest : List TokenV) (t : TokenV) → ts ≡ t ∷ rest → is_opening t ≡ true → to_group ts ≡ group_from 1 rest
unfolding to_group
group_here ts rest t is e = rw (is, e) refl

pub group_on : (ts rest : List TokenV) (t : TokenV) → ts ≡ t ∷ rest → is_opening t ≡ false → to_group rest ≡ to_group ts
unfolding to_group
group_on ts rest t is e = rw (is, e) refl

pub group_none : (ts : List TokenV) → ts ≡ [] → to_group ts ≡ Err Ended
unfolding to_group
group_none ts is = rw is refl

-- ---- behind a declaration

pub attached_none : (n : ℕ) (ts : List TokenV) → next_is (is_mark 33) ts ≡ false → attached_to n ts ≡ Ok (tt, ts)
unfolding attached_to
attached_none zero ts e = refl
attached_none (suc n) ts e = rw e refl

pub attached_on : (m n : ℕ) (ts rest : List TokenV) → n ≡ suc m → next_is (is_mark 33) ts ≡ true → attached_one ts ≡ Ok (true, rest) → attached_to n ts ≡ attached_to m rest
unfolding attached_to
attached_on m n ts rest is e one = rw (is, e, one) refl

pub attached_last : (m n : ℕ) (ts rest : List TokenV) → n ≡ suc m → next_is (is_mark 33) ts ≡ true → attached_one ts ≡ Ok (false, rest) → attached_to n ts ≡ Ok (tt, rest)
unfolding attached_to
attached_last m n ts rest is e one = rw (is, e, one) refl

pub attached_fails : (d : ReadEnd) (m n : ℕ) (ts : List TokenV) → n ≡ suc m → next_is (is_mark 33) ts ≡ true → Fails d (attached_one ts) → Fails d (attached_to n ts)
unfolding attached_to
attached_fails ends.Memory m n ts is e one = tt
attached_fails (ends.Bad f) m n ts is e one = rw (is, e, one) refl

pub attached_over : (n : ℕ) (ts : List TokenV) → n ≡ 0 → attached_to n ts ≡ Ok (tt, ts)
unfolding attached_to
attached_over n ts is = rw is refl
