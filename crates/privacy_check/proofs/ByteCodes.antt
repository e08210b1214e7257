-- One byte: what an access and the end of a period do to its code, by its turns.
use Rattle.std.proofs.Common.{◌≡◌, ℕ, ◌≤◌, ◌==◌, max, List, [], ◌∷◌, ◌++◌, Some, None, Bool, true, false, cond, ◌||◌, nat_le, refl, sym, ap, arith}
use Rattle.std.specs.List.{list_any}
use Rattle.shadow_codes.specs.Codes.{Stamp, class_of, reset_code, greatest_of}
use Rattle.privacy_check.specs.declared.access.Access.{Access}
use Rattle.privacy_check.specs.declared.access.Access.TheVariants.{Read, Write}
use Rattle.privacy_check.specs.Shadows.{after}
use Rattle.privacy_check.specs.History.{code_by, code_of, may, touched_by}

-- stamps of a period, of which the greatest is known
abbrev pub Small : ℕ → List ℕ → Type 0
Small last [] = Unit {0}
Small last (x ∷ xs) = (3 ≤ x) × (x ≤ last) × Small last xs

pub small_later : (last later : ℕ) (xs : List ℕ) → last ≤ later → Small last xs → Small later xs
small_later last later [] h s = tt
small_later last later (x ∷ xs) h s = (s.0, omega arith, small_later last later xs h s.2)

pub greatest_small : (last : ℕ) (xs : List ℕ) → Small last xs → greatest_of xs ≤ last
greatest_small last [] s = omega arith
greatest_small last (x ∷ xs) s = omega (arith, greatest_small last xs s.2, s.1)

pub greatest_stamp : (last x : ℕ) (xs : List ℕ) → Small last (x ∷ xs) → 3 ≤ greatest_of (x ∷ xs)
greatest_stamp last x xs s = omega (arith, s.0)

class_stamp : (g : ℕ) → 3 ≤ g → class_of g ≡ Stamp g
class_stamp g h =
    let a : (g == 0) ≡ false = grind arith in
    let b : (g == 1) ≡ false = grind arith in
    let c : (g == 2) ≡ false = grind arith in
    rw (a, b, c) refl

any_step : (x g m : ℕ) (b : Bool) → x ≤ m → g ≤ m → b ≡ (g == m) → ((x == m) || b) ≡ (max x g == m)
any_step x g m b h k e = grind arith

-- the last stamp is among stamps that end at it exactly where it is the greatest
found_greatest : (m : ℕ) (xs : List ℕ) → 3 ≤ m → Small m xs → list_any (λ s. s == m) xs ≡ (greatest_of xs == m)
found_greatest m [] h s = grind arith
found_greatest m (x ∷ xs) h s = any_step x (greatest_of xs) m _ s.1 (greatest_small m xs s.2) (found_greatest m xs h s.2)

chosen : (b : Bool) (g m : ℕ) → (b ≡ true → g ≡ m) → cond b (Some m) None ≡ cond (b || false) (Some g) None
chosen true g m h = ap Some (sym (h refl))
chosen false g m h = refl

-- an access passes exactly where the turns allow it, and leaves the code of the turns after it
pub access_by : (access : Access) (stamp : ℕ) (w b r : List ℕ) → 3 ≤ stamp → Small stamp w
    → after access stamp (code_by w b r) ≡ cond (may access stamp (record { wrote = w; wrote_before = b; read = r })) (Some (code_of (touched_by access stamp (record { wrote = w; wrote_before = b; read = r })))) None
access_by Read stamp (s ∷ ss) b r h small =
    rw (class_stamp (greatest_of (s ∷ ss)) (greatest_stamp stamp s ss small), found_greatest stamp (s ∷ ss) h small)
    (chosen (greatest_of (s ∷ ss) == stamp) (greatest_of (s ∷ ss)) stamp (λ e. grind arith))
access_by Read stamp [] (x ∷ b) r h small = refl
access_by Read stamp [] [] (x ∷ r) h small = refl
access_by Read stamp [] [] [] h small = refl
access_by Write stamp (s ∷ ss) b r h small =
    let most : greatest_of (s ∷ ss) ≤ stamp = greatest_small stamp (s ∷ ss) small in
    let within : nat_le (greatest_of (s ∷ ss)) stamp ≡ true = grind arith in
    let is : max stamp (greatest_of (s ∷ ss)) ≡ stamp = omega arith in
    rw (class_stamp (greatest_of (s ∷ ss)) (greatest_stamp stamp s ss small), within) (ap Some (sym is))
access_by Write stamp [] (x ∷ b) r h small = ap Some (omega arith)
access_by Write stamp [] [] (x ∷ r) h small = refl
access_by Write stamp [] [] [] h small = ap Some (omega arith)

-- the end of a period makes writes old and forgets reads
pub reset_by : (last : ℕ) (w b r : List ℕ) → Small last w → reset_code (code_by w b r) ≡ code_by [] (w ++ b) []
reset_by last (s ∷ ss) b r small = rw (class_stamp (greatest_of (s ∷ ss)) (greatest_stamp last s ss small)) refl
reset_by last [] (x ∷ b) r small = refl
reset_by last [] [] (x ∷ r) small = refl
reset_by last [] [] [] small = refl

-- no code is above the last stamp
pub code_small : (last : ℕ) (w b r : List ℕ) → 3 ≤ last → Small last w → code_by w b r ≤ last
code_small last (s ∷ ss) b r h small = greatest_small last (s ∷ ss) small
code_small last [] (x ∷ b) r h small = omega arith
code_small last [] [] (x ∷ r) h small = omega arith
code_small last [] [] [] h small = omega arith
