-- How the names of externals are spelled, and read.
use Rattle.std.proofs.Common.{◌≡◌, ℕ, ◌+◌, ◌-◌, ◌*◌, ◌/◌, ◌%◌, ◌<◌, ◌≤◌, ◌⊎◌, ◌&&◌, List, [], ◌∷◌, ◌++◌, length, drop, Bool, true, false, cond, Option, Some, None, option_map, find, decimal, codes, nat_eq, nat_le, refl, sym, ap, subst, ◌∙◌, inl, inr, arith}
use Rattle.std.proofs.lemmas.Bool.Decides.{nat_tests, Decides-eqb, leb_tells}
use Rattle.std.proofs.lemmas.Fmt.{decimal_digit, decimal_step}
use Rattle.std.proofs.lemmas.Option.{none-some, same_Some, cond_some}
use Rattle.std.proofs.lemmas.Slice.Eq.{bytes_eq-Decides, starts_is}
use Rattle.std.specs.Fmt.{digits}
use Rattle.std.specs.Option.{option_or}
use Rattle.std.specs.Str.{bytes_eq}
use Rattle.std.specs.List.{starts_with}
use Rattle.pv_base.specs.Outside.{Text}
use Rattle.pv_base.specs.External.{external_name, IsExternal, IsOperand}
use Rattle.pv_base.specs.declared.external.External.{External}
use Rattle.pv_base.specs.declared.external.External.TheVariants.{Malloc, Calloc, Free, Putchar, Puts, Getchar, Printf, Exit, Abort, Memcpy, Memmove, Memset, Smax, Smin, Umax, Umin, LifetimeStart, LifetimeEnd}
use Rattle.seq_calls.specs.Names.{library, intrinsics, named, is_digit, is_first_digit, at_most_64, width_of, width_behind, extreme, known}

only_if : (b : Bool) (o : Option ℕ) (n : ℕ) → cond b o None ≡ Some n → (b ≡ true) × (o ≡ Some n)
only_if true o n h = (refl, h)
only_if false o n h = absurd (none-some n h)

one_digit : (n : ℕ) → 0 < n → n < 10 → width_of ((48 + n) ∷ []) ≡ Some n
unfolding width_of
one_digit n pos small = grind (arith, nat_tests)

two : (n : ℕ) → 10 ≤ n → n ≤ 64 → width_of ((48 + n / 10) ∷ (48 + n % 10) ∷ []) ≡ Some n
unfolding width_of
two n least most = grind (arith, nat_tests)

two_decimals : (n : ℕ) → 10 ≤ n → n < 100 → decimal n ≡ (48 + n / 10) ∷ (48 + n % 10) ∷ []
two_decimals n least most =
    let front : decimal (n / 10) ≡ (48 + n / 10) ∷ [] = decimal_digit (n / 10) (omega arith) in
    decimal_step n least (grind arith) ∙ ap (λ (t : Text). t ++ ((48 + n % 10) ∷ [])) front

-- a width is read from its digits
width_read : (n : ℕ) → IsOperand n → width_of (decimal n) ≡ Some n
width_read n is = elim (leb_tells 10 n) [ inl large ↦ ap width_of (two_decimals n large.1 (omega arith)) ∙ two n large.1 is.most | inr small ↦ ap width_of (decimal_digit n small.1) ∙ one_digit n is.positive small.1 ]

one_sound : (a n : ℕ) → width_of (a ∷ []) ≡ Some n → IsOperand n × (decimal n ≡ a ∷ [])
unfolding width_of
one_sound a n h =
    let c = cond_some (is_first_digit a) (a - 48) n h in
    let is : is_first_digit a ≡ true = c.0 in
    let value : a - 48 ≡ n = c.1 in
    let low : 49 ≤ a = grind (arith, nat_tests) in
    let high : a ≤ 57 = grind (arith, nat_tests) in
    let back : 48 + n ≡ a = omega arith in
    (record { positive = omega arith; most = omega arith }, decimal_digit n (omega arith) ∙ ap (λ (b : ℕ). b ∷ []) back)

two_sound : (a b n : ℕ) → width_of (a ∷ b ∷ []) ≡ Some n → IsOperand n × (decimal n ≡ a ∷ b ∷ [])
unfolding width_of
two_sound a b n h =
    let first = only_if (is_first_digit a && is_digit b) (at_most_64 (10 * (a - 48) + (b - 48))) n h in
    let tests : (is_first_digit a && is_digit b) ≡ true = first.0 in
    let second = cond_some (nat_le (10 * (a - 48) + (b - 48)) 64) (10 * (a - 48) + (b - 48)) n first.1 in
    let fits : nat_le (10 * (a - 48) + (b - 48)) 64 ≡ true = second.0 in
    let value : 10 * (a - 48) + (b - 48) ≡ n = second.1 in
    let low : 49 ≤ a = grind (arith, nat_tests) in
    let high : a ≤ 57 = grind (arith, nat_tests) in
    let low' : 48 ≤ b = grind (arith, nat_tests) in
    let high' : b ≤ 57 = grind (arith, nat_tests) in
    let most : n ≤ 64 = grind (arith, nat_tests) in
    let front : 48 + n / 10 ≡ a = omega arith in
    let back : 48 + n % 10 ≡ b = omega arith in (
      record { positive = omega arith; most = most },
      two_decimals n (omega arith) (omega arith) ∙ ap (λ (x : ℕ). x ∷ (48 + n % 10) ∷ []) front ∙ ap (λ (y : ℕ). a ∷ y ∷ []) back,
    )

-- a width that is read is spelled by these digits
width_sound : (text : Text) (n : ℕ) → width_of text ≡ Some n → IsOperand n × (decimal n ≡ text)
unfolding width_of
width_sound [] n h = absurd (none-some n h)
width_sound (a ∷ []) n h = one_sound a n h
width_sound (a ∷ b ∷ []) n h = two_sound a b n h
width_sound (a ∷ b ∷ c ∷ rest) n h = absurd (none-some n h)

-- the external may stand in a module, and is spelled so
abbrev pub Sound : External → Text → Type 0
Sound e name = IsExternal e × (external_name e ≡ name)

behind_sound : (front name : Text) (n : ℕ) → width_behind front name ≡ Some n → IsOperand n × (front ++ decimal n ≡ name)
unfolding width_behind
behind_sound front name n h =
    let c = only_if (starts_with nat_eq name front) (width_of (drop (length front) name)) n h in
    let is : name ≡ front ++ drop (length front) name = (starts_is Decides-eqb name front (starts_with nat_eq name front) refl).0 c.0 in
    let width = width_sound (drop (length front) name) n c.1 in
    (width.0, ap (λ (t : Text). front ++ t) width.1 ∙ sym is)

mapped : (make : ℕ → External) (a : Option ℕ) (e : External) → option_map make a ≡ Some e → (n : ℕ) × (a ≡ Some n) × (make n ≡ e)
mapped make None e h = absurd (none-some e h)
mapped make (Some n) e h = (n, refl, same_Some _ _ h)

-- the externals of a width that are named so are sound
each_sound : (front : Text) (make : ℕ → External) → ((n : ℕ) → IsOperand n → IsExternal (make n)) → ((n : ℕ) → external_name (make n) ≡ front ++ decimal n)
    → (name : Text) (e : External) → option_map make (width_behind front name) ≡ Some e → Sound e name
each_sound front make may spelled name e h =
    let m = mapped make (width_behind front name) e h in
    let n = m.0 in
    let width = behind_sound front name n m.1 in
    let P : External → Type 0 = λ x. Sound x name in
    subst P m.2 (may n width.0, spelled n ∙ width.1)

one_of : (a b : Option External) (e : External) → option_or a b ≡ Some e → (a ≡ Some e) ⊎ (b ≡ Some e)
one_of None b e h = inr h
one_of (Some x) b e h = inl h

extreme_sound : (name : Text) (e : External) → extreme name ≡ Some e → Sound e name
unfolding extreme
extreme_sound name e h =
    elim (one_of (option_map Smax (width_behind (codes "llvm.smax.i") name)) _ e h) [
      | inl a ↦ each_sound (codes "llvm.smax.i") Smax (λ n is. is) (λ n. refl) name e a
      | inr h' ↦ elim (one_of (option_map Smin (width_behind (codes "llvm.smin.i") name)) _ e h') [
        | inl a ↦ each_sound (codes "llvm.smin.i") Smin (λ n is. is) (λ n. refl) name e a
        | inr h'' ↦ elim (one_of (option_map Umax (width_behind (codes "llvm.umax.i") name)) _ e h'') [
          | inl a ↦ each_sound (codes "llvm.umax.i") Umax (λ n is. is) (λ n. refl) name e a
          | inr a ↦ each_sound (codes "llvm.umin.i") Umin (λ n is. is) (λ n. refl) name e a
        ]
      ]
    ]

-- each name of the table is the spelling of its external
abbrev AllSound : List (Text × External) → Type 0
AllSound [] = Unit {0}
AllSound (x ∷ xs) = Sound x.1 x.0 × AllSound xs

looked_up : (b : Bool) (x : Text × External) (rest : Option (Text × External)) (e : External) → option_map (λ p. p.1) (cond b (Some x) rest) ≡ Some e → ((b ≡ true) × (x.1 ≡ e)) ⊎ (option_map (λ p. p.1) rest ≡ Some e)
looked_up true x rest e h = inl (refl, same_Some _ _ h)
looked_up false x rest e h = inr h

named_sound : (table : List (Text × External)) (name : Text) (e : External) → AllSound table → named table name ≡ Some e → Sound e name
unfolding named
named_sound [] name e all h = absurd (none-some e h)
named_sound (x ∷ xs) name e all h =
    elim (looked_up (bytes_eq name x.0) x (find (λ p. bytes_eq name p.0) xs) e h) [
      | inl found ↦
          (let P : External → Type 0 = λ y. Sound y name in
          let is : name ≡ x.0 = (bytes_eq-Decides name x.0).0 found.0 in
          subst P found.1 (all.0.0, all.0.1 ∙ sym is))
      | inr later ↦ named_sound xs name e all.1 later
    ]

library_sound : AllSound library
library_sound = ((tt, refl), ((tt, refl), ((tt, refl), ((tt, refl), ((tt, refl), ((tt, refl), ((tt, refl), ((tt, refl), ((tt, refl), tt)))))))))

intrinsics_sound : AllSound intrinsics
unfolding digits
intrinsics_sound = ((inl refl, refl), ((inr refl, refl), ((inl refl, refl), ((inr refl, refl), ((inl refl, refl), ((inr refl, refl), ((tt, refl), ((tt, refl), tt))))))))

-- an external that is known is spelled so
pub known_sound : (name : Text) (e : External) → known name ≡ Some e → IsExternal e × (external_name e ≡ name)
unfolding known
known_sound name e h =
    elim (one_of (named library name) _ e h) [
      | inl a ↦ named_sound library name e library_sound a
      | inr h' ↦ elim (one_of (named intrinsics name) _ e h') [
        | inl a ↦ named_sound intrinsics name e intrinsics_sound a
        | inr a ↦ extreme_sound name e a
      ]
    ]

smax_read : (n : ℕ) → IsOperand n → known (external_name (Smax n)) ≡ Some (Smax n)
unfolding known named extreme width_behind
smax_read n is = rw (width_read n is) refl

smin_read : (n : ℕ) → IsOperand n → known (external_name (Smin n)) ≡ Some (Smin n)
unfolding known named extreme width_behind
smin_read n is = rw (width_read n is) refl

umax_read : (n : ℕ) → IsOperand n → known (external_name (Umax n)) ≡ Some (Umax n)
unfolding known named extreme width_behind
umax_read n is = rw (width_read n is) refl

umin_read : (n : ℕ) → IsOperand n → known (external_name (Umin n)) ≡ Some (Umin n)
unfolding known named extreme width_behind
umin_read n is = rw (width_read n is) refl

-- an external is known by its spelling
pub known_complete : (e : External) → IsExternal e → known (external_name e) ≡ Some e
unfolding known named extreme width_behind digits
known_complete Malloc is = refl
known_complete Calloc is = refl
known_complete Free is = refl
known_complete Putchar is = refl
known_complete Puts is = refl
known_complete Getchar is = refl
known_complete Printf is = refl
known_complete Exit is = refl
known_complete Abort is = refl
known_complete (Memcpy n) is = elim is [ inl a ↦ subst (λ (k : ℕ). known (external_name (Memcpy k)) ≡ Some (Memcpy k)) (sym a) refl | inr a ↦ subst (λ (k : ℕ). known (external_name (Memcpy k)) ≡ Some (Memcpy k)) (sym a) refl ]
known_complete (Memmove n) is = elim is [ inl a ↦ subst (λ (k : ℕ). known (external_name (Memmove k)) ≡ Some (Memmove k)) (sym a) refl | inr a ↦ subst (λ (k : ℕ). known (external_name (Memmove k)) ≡ Some (Memmove k)) (sym a) refl ]
known_complete (Memset n) is = elim is [ inl a ↦ subst (λ (k : ℕ). known (external_name (Memset k)) ≡ Some (Memset k)) (sym a) refl | inr a ↦ subst (λ (k : ℕ). known (external_name (Memset k)) ≡ Some (Memset k)) (sym a) refl ]
known_complete (Smax n) is = smax_read n is
known_complete (Smin n) is = smin_read n is
known_complete (Umax n) is = umax_read n is
known_complete (Umin n) is = umin_read n is
known_complete LifetimeStart is = refl
known_complete LifetimeEnd is = refl
