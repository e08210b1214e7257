-- What the turns of a byte say of the accesses to it.
use Rattle.std.proofs.Common.{◌≡◌, ℕ, ◌+◌, ◌<◌, ◌≤◌, ◌==◌, max, nat_le, nat_lt, List, [], ◌∷◌, ◌++◌, Some, None, Bool, true, false, cond, ◌||◌, ◌&&◌, not, Result, Ok, Err, refl, sym, ap, subst, ◌∙◌, arith}
use Rattle.std.specs.List.{list_any}
use Rattle.std.specs.Result.{result_unwrap_or}
use Rattle.pv_base.specs.declared.place.Place.{Place}
use Rattle.shadow_codes.specs.Codes.{greatest_of}
use Rattle.privacy_check.specs.declared.access.Access.{Access}
use Rattle.privacy_check.specs.declared.access.Access.TheVariants.{Read, Write}
use Rattle.privacy_check.specs.declared.access.BadCode.{BadCode}
use Rattle.privacy_check.specs.Shadows.{Shadows, shadows_after, told}
use Rattle.privacy_check.specs.History.{Call, Touch, EndPeriod, Turns, covers, touched_by, turns_with, turns_after, code_by, code_of, is_some_turn, may, InObject, Lawful, codes_after, told_of, after_calls, AllOk}
use Rattle.privacy_check.specs.Meaning.{kept_if_ok, accepted, Accesses, accesses_with, accesses_after, is_write, wrote_it, read_first, last_write, writes, written_in, Meaning}
use Rattle.privacy_check.proofs.ByteCodes.{Small, small_later, greatest_small, greatest_stamp}
use Rattle.privacy_check.proofs.Refusals.{all_may}
use Rattle.privacy_check.proofs.Histories.{Inv, passes, touch_inv, period_inv}

abbrev some_wrote : Turns → Bool
some_wrote t = is_some_turn t.wrote || is_some_turn t.wrote_before

-- the turns of a byte, the accesses to it in this period, and whether one of the span wrote it
pub record Byte (t : Turns) (accesses : Accesses) (written : Bool) : Type 0 where
  pub reads : read_first accesses ≡ (not (some_wrote t) && is_some_turn t.read)
  pub last : last_write accesses ≡ cond (is_some_turn t.wrote) (Some (greatest_of t.wrote)) None
  pub of_turn : (stamp : ℕ) → wrote_it stamp accesses ≡ list_any (λ s. s == stamp) t.wrote
  pub span : written ≡ some_wrote t

any_is_some : (stamp : ℕ) (xs : List ℕ) → list_any (λ s. s == stamp) xs ≡ true → is_some_turn xs ≡ true
any_is_some stamp [] e = cc
any_is_some stamp (x ∷ xs) e = refl

read_bits : (l w b r : Bool) → (l ≡ true → w ≡ true) → (l || not (w || b)) ≡ true → (not l || (not (w || b) && r)) ≡ (not (w || b) && true)
read_bits true true b r h m = refl
read_bits true false b r h m = let bad : false ≡ true = h refl in absurd (cc)
read_bits false true b r h m = absurd (cc)
read_bits false false true r h m = absurd (cc)
read_bits false false false r h m = refl

write_bits : (w b r : Bool) → (w || (b || not r)) ≡ true → (not (w || b) && r) ≡ false
write_bits true b r m = refl
write_bits false true r m = refl
write_bits false false true m = absurd (cc)
write_bits false false false m = refl

-- one access that its turns allow
byte_touched : (access : Access) (last stamp : ℕ) (t : Turns) (accesses : Accesses) (written : Bool) → last ≤ stamp → Small last t.wrote → may access stamp t ≡ true → Byte t accesses written
    → Byte (touched_by access stamp t) ((access, stamp) ∷ accesses) (written || is_write access)
byte_touched Read last stamp t accesses written later small allowed byte = record {
  reads = rw (byte.of_turn stamp, byte.reads) (read_bits (list_any (λ s. s == stamp) t.wrote) (is_some_turn t.wrote) (is_some_turn t.wrote_before) (is_some_turn t.read) (any_is_some stamp t.wrote) allowed);
  last = byte.last;
  of_turn = byte.of_turn;
  span = or_false written ∙ byte.span;
}
  where
    or_false : (b : Bool) → (b || false) ≡ b
    or_false true = refl
    or_false false = refl
byte_touched Write last stamp t accesses written later small allowed byte =
    let most : greatest_of t.wrote ≤ last = greatest_small last t.wrote small in
    let is : stamp ≡ max stamp (greatest_of t.wrote) = omega arith in
    record {
      reads = byte.reads ∙ write_bits (is_some_turn t.wrote) (is_some_turn t.wrote_before) (is_some_turn t.read) allowed;
      last = ap Some is;
      of_turn = λ s. ap (λ (b : Bool). (stamp == s) || b) (byte.of_turn s);
      span = or_true written;
    }
  where
    or_true : (b : Bool) → (b || true) ≡ true
    or_true true = refl
    or_true false = refl

some_append : (xs ys : List ℕ) → is_some_turn (xs ++ ys) ≡ (is_some_turn xs || is_some_turn ys)
some_append [] ys = refl
some_append (x ∷ xs) ys = refl

no_reads : (b : Bool) → false ≡ (b && false)
no_reads true = refl
no_reads false = refl

-- the end of a period
byte_ended : (name offset : ℕ) (t : Turns) (accesses : Accesses) (written : Bool) → Byte t accesses written → Byte (turns_with name offset t EndPeriod) [] (written || false)
byte_ended name offset t accesses written byte = record {
  reads = no_reads _;
  last = refl;
  of_turn = λ s. refl;
  span = or_false written ∙ byte.span ∙ sym (some_append t.wrote t.wrote_before);
}
  where
    or_false : (b : Bool) → (b || false) ≡ b
    or_false true = refl
    or_false false = refl

covered_by : (at : Place) (len name offset : ℕ) → covers at len name offset ≡ true → (name ≡ at.name) × (at.offset ≤ offset) × (offset < at.offset + len)
covered_by at len name offset e = both (name == at.name) (nat_le at.offset offset) (nat_lt offset (at.offset + len)) e (λ h. grind arith) (λ h. grind arith) (λ h. grind arith)
  where
    both : {P Q R : Type 0} (a b c : Bool) → (a && (b && c)) ≡ true → (a ≡ true → P) → (b ≡ true → Q) → (c ≡ true → R) → P × Q × R
    both true true true e p q r = (p refl, q refl, r refl)
    both true true false e p q r = absurd (cc)
    both true false c e p q r = absurd (cc)
    both false b c e p q r = absurd (cc)

byte_met : (access : Access) (last stamp : ℕ) (t : Turns) (accesses : Accesses) (written here : Bool) → last ≤ stamp → Small last t.wrote → (here ≡ true → may access stamp t ≡ true) → Byte t accesses written
    → Byte (cond here (touched_by access stamp t) t) (cond here ((access, stamp) ∷ accesses) accesses) (written || cond here (is_write access) false)
byte_met access last stamp t accesses written true later small allowed byte = byte_touched access last stamp t accesses written later small (allowed refl) byte
byte_met access last stamp t accesses written false later small allowed byte = record { reads = byte.reads; last = byte.last; of_turn = byte.of_turn; span = or_false written ∙ byte.span }
  where
    or_false : (b : Bool) → (b || false) ≡ b
    or_false true = refl
    or_false false = refl

or_assoc : (a b c : Bool) → ((a || b) || c) ≡ (a || (b || c))
or_assoc true b c = refl
or_assoc false b c = refl

-- what is known of each byte after calls that were answered Ok
pub bytes_after : (sizes : List (ℕ × ℕ)) (calls : List Call) (shadows : Shadows) (turns : ℕ → ℕ → Turns) (accesses : ℕ → ℕ → Accesses) (written : ℕ → ℕ → Bool) (last : ℕ)
    → Inv sizes shadows turns last → ((n o : ℕ) → Byte (turns n o) (accesses n o) (written n o)) → Lawful sizes last calls → AllOk shadows calls
    → (n o : ℕ) → Byte (turns_after n o (turns n o) calls) (accesses_after n o (accesses n o) calls) (written n o || written_in n o calls)
bytes_after sizes [] shadows turns accesses written last inv bytes lawful ok n o = or_none (written n o) (bytes n o)
  where
    or_none : (w : Bool) → Byte (turns n o) (accesses n o) w → Byte (turns n o) (accesses n o) (w || false)
    or_none true b = b
    or_none false b = b
bytes_after sizes (Touch access at len stamp ∷ calls) shadows turns accesses written last inv bytes lawful ok n o =
    let old = inv.least in
    let later = lawful.0 in
    let object = lawful.1 in
    let none = passes shadows (turns at.name) access at len stamp object.size (inv.stands at.name object.size object.known) object.within (omega arith) (λ o. small_later last stamp _ later (inv.small at.name o)) ok.0 in
    let allowed : (n o : ℕ) → covers at len n o ≡ true → may access stamp (turns n o) ≡ true =
    λ n o e. let in_it = covered_by at len n o e in ap (λ (m : ℕ). may access stamp (turns m o)) in_it.0 ∙ all_may access stamp (turns at.name) at.offset len none o in_it.1 in_it.2 in
    subst (λ (w : Bool). Byte (turns_after n o (turns n o) (Touch access at len stamp ∷ calls)) (accesses_after n o (accesses n o) (Touch access at len stamp ∷ calls)) w)
    (or_assoc (written n o) (writes n o (Touch access at len stamp)) (written_in n o calls))
    (bytes_after sizes calls (codes_after shadows (Touch access at len stamp)) (λ n o. turns_with n o (turns n o) (Touch access at len stamp)) (λ n o. accesses_with n o (accesses n o) (Touch access at len stamp))
    (λ n o. written n o || writes n o (Touch access at len stamp)) stamp (touch_inv sizes shadows turns last access at len stamp inv later object ok.0)
    (λ n o. byte_met access last stamp (turns n o) (accesses n o) (written n o) (covers at len n o) later (inv.small n o) (allowed n o) (bytes n o)) lawful.2 ok.1 n o)
bytes_after sizes (EndPeriod ∷ calls) shadows turns accesses written last inv bytes lawful ok n o =
    subst (λ (w : Bool). Byte (turns_after n o (turns n o) (EndPeriod ∷ calls)) (accesses_after n o (accesses n o) (EndPeriod ∷ calls)) w)
    (or_assoc (written n o) (writes n o EndPeriod) (written_in n o calls))
    (bytes_after sizes calls (codes_after shadows EndPeriod) (λ n o. turns_with n o (turns n o) EndPeriod) (λ n o. accesses_with n o (accesses n o) EndPeriod)
    (λ n o. written n o || writes n o EndPeriod) 3 (period_inv sizes shadows turns last inv)
    (λ n o. byte_ended n o (turns n o) (accesses n o) (written n o) (bytes n o)) lawful ok.1 n o)

read_of : (last : ℕ) (w b r : List ℕ) → Small last w → (code_by w b r == 2) ≡ (not (is_some_turn w || is_some_turn b) && is_some_turn r)
read_of last (s ∷ ss) b r small = let h : 3 ≤ greatest_of (s ∷ ss) = greatest_stamp last s ss small in grind arith
read_of last [] (x ∷ b) r small = refl
read_of last [] [] (x ∷ r) small = refl
read_of last [] [] [] small = refl

wrote_of : (last : ℕ) (w b r : List ℕ) → Small last w → cond (nat_le 3 (code_by w b r)) (Some (code_by w b r)) None ≡ cond (is_some_turn w) (Some (greatest_of w)) None
wrote_of last (s ∷ ss) b r small = let h : 3 ≤ greatest_of (s ∷ ss) = greatest_stamp last s ss small in let is : nat_le 3 (greatest_of (s ∷ ss)) ≡ true = grind arith in rw is refl
wrote_of last [] (x ∷ b) r small = refl
wrote_of last [] [] (x ∷ r) small = refl
wrote_of last [] [] [] small = refl

span_of : (last : ℕ) (w b r : List ℕ) → Small last w → ((code_by w b r == 1) || nat_le 3 (code_by w b r)) ≡ (is_some_turn w || is_some_turn b)
span_of last (s ∷ ss) b r small =
    let h : 3 ≤ greatest_of (s ∷ ss) = greatest_stamp last s ss small in
    let is : nat_le 3 (greatest_of (s ∷ ss)) ≡ true = grind arith in
    let not_old : (greatest_of (s ∷ ss) == 1) ≡ false = grind arith in
    rw (is, not_old) refl
span_of last [] (x ∷ b) r small = refl
span_of last [] [] (x ∷ r) small = refl
span_of last [] [] [] small = refl

-- a code that is that of the turns means what they did
pub meaning_of : (last name offset code : ℕ) (calls : List Call) (t : Turns) → Small last t.wrote → code ≡ code_of t → Byte t (accesses_after name offset [] calls) (written_in name offset calls) → Meaning name offset code calls
meaning_of last name offset code calls t small is byte = record {
  read = ap (λ (c : ℕ). c == 2) is ∙ read_of last t.wrote t.wrote_before t.read small ∙ sym byte.reads;
  wrote = ap (λ (c : ℕ). cond (nat_le 3 c) (Some c) None) is ∙ wrote_of last t.wrote t.wrote_before t.read small ∙ sym byte.last;
  in_span = ap (λ (c : ℕ). (c == 1) || nat_le 3 c) is ∙ span_of last t.wrote t.wrote_before t.read small ∙ sym byte.span;
}

-- calls without those that were refused
pub record Accepted (sizes : List (ℕ × ℕ)) (last : ℕ) (shadows : Shadows) (calls these : List Call) : Type 0 where
  pub lawful : Lawful sizes last these
  pub ok : AllOk shadows these
  pub same : after_calls shadows these ≡ after_calls shadows calls

unchanged : (r : Result Shadows BadCode) (shadows : Shadows) (bad : BadCode) → told r ≡ Err bad → result_unwrap_or r shadows ≡ shadows
unchanged (Ok s) shadows bad e = absurd (cc)
unchanged (Err b) shadows bad e = refl

earlier : (sizes : List (ℕ × ℕ)) (last later : ℕ) (calls : List Call) → last ≤ later → Lawful sizes later calls → Lawful sizes last calls
earlier sizes last later [] h l = tt
earlier sizes last later (Touch access at len stamp ∷ calls) h l = let le = l.0 in (omega arith, l.1, l.2)
earlier sizes last later (EndPeriod ∷ calls) h l = l

by_answer : (sizes : List (ℕ × ℕ)) (calls : List Call) (shadows : Shadows) (access : Access) (at : Place) (len stamp last : ℕ) → last ≤ stamp → InObject sizes at len
    → Accepted sizes stamp (codes_after shadows (Touch access at len stamp)) calls (accepted (codes_after shadows (Touch access at len stamp)) calls)
    → (answer : Result (Unit {0}) BadCode) → told_of shadows (Touch access at len stamp) ≡ answer
    → Accepted sizes last shadows (Touch access at len stamp ∷ calls) (kept_if_ok answer (Touch access at len stamp) (accepted (codes_after shadows (Touch access at len stamp)) calls))
by_answer sizes calls shadows access at len stamp last later object rest (Ok tt) e = record { lawful = (later, object, rest.lawful); ok = (e, rest.ok); same = rest.same }
by_answer sizes calls shadows access at len stamp last later object rest (Err bad) e =
    let these : List Call = accepted (codes_after shadows (Touch access at len stamp)) calls in
    let kept = unchanged (shadows_after access stamp at len shadows) shadows bad e in
    record {
      lawful = earlier sizes last stamp these later rest.lawful;
      ok = subst (λ (s : Shadows). AllOk s these) kept rest.ok;
      same = sym (ap (λ (s : Shadows). after_calls s these) kept) ∙ rest.same;
    }

pub accepted_are : (sizes : List (ℕ × ℕ)) (calls : List Call) (shadows : Shadows) (last : ℕ) → Lawful sizes last calls → Accepted sizes last shadows calls (accepted shadows calls)
accepted_are sizes [] shadows last lawful = record { lawful = tt; ok = tt; same = refl }
accepted_are sizes (Touch access at len stamp ∷ calls) shadows last lawful =
    by_answer sizes calls shadows access at len stamp last lawful.0 lawful.1 (accepted_are sizes calls (codes_after shadows (Touch access at len stamp)) stamp lawful.2)
    (told_of shadows (Touch access at len stamp)) refl
accepted_are sizes (EndPeriod ∷ calls) shadows last lawful =
    let rest = accepted_are sizes calls (codes_after shadows EndPeriod) 3 lawful in
    record { lawful = rest.lawful; ok = (refl, rest.ok); same = rest.same }

pub new_bytes : (n o : ℕ) → Byte (record { wrote = []; wrote_before = []; read = [] }) [] false
new_bytes n o = record { reads = refl; last = refl; of_turn = λ s. refl; span = refl }
