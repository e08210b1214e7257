-- Numbers in their order.
use Rattle.std.proofs.Common.{arith, add-one, ◌≡◌, ◌<◌, ◌+◌, ◌++◌, ℕ, zero, suc, List, [], ◌∷◌, length, take, get_or, refl, map, Option, Some, None, Result, Ok, Err}
use Rattle.pv_base.specs.Outside.{Text}
use Rattle.command_words.specs.Numbers.{Numeral, number_in, number_first, numbers_of, numeral_of, refusal_of}
use Rattle.command_words.specs.declared.numerals.Numeral.{Numeral as WrittenNumeral}

-- a number before a refusal is refused
before_refusal : (o : Option ℕ) (n : Numeral) (front all : Result (List ℕ) Text) (values : List ℕ) (line : Text)
    → ((first : List ℕ) → front ≡ Ok first → all ≡ Err line) → number_first n o front ≡ Ok values → number_first n o all ≡ Err line
before_refusal None n front all values line h e = (cc)
before_refusal (Some value) n (Err other) all values line h e = (cc)
before_refusal (Some value) n (Ok first) all values line h e = rw (h first refl) refl

-- a number before one more
before_more : (o : Option ℕ) (n : Numeral) (front all : Result (List ℕ) Text) (values : List ℕ) (last : ℕ)
    → ((first : List ℕ) → front ≡ Ok first → all ≡ Ok (first ++ last ∷ [])) → number_first n o front ≡ Ok values → number_first n o all ≡ Ok (values ++ last ∷ [])
before_more None n front all values last h e = (cc)
before_more (Some value) n (Err other) all values last h e = (cc)
before_more (Some value) n (Ok first) all values last h e =
    let whole : values ≡ value ∷ first = (cc) in
    rw (h first refl, whole) refl

-- behind numbers, a text that is none is the first that is refused
pub refused_at : (i : ℕ) (all : List WrittenNumeral) (d : WrittenNumeral) (values : List ℕ) → i < length all → numbers_of (map numeral_of (take i all)) ≡ Ok values
    → number_in (numeral_of (get_or all i d)) ≡ None → numbers_of (map numeral_of all) ≡ Err (refusal_of (numeral_of (get_or all i d)))
refused_at i [] d values h before e = absurd (omega arith)
refused_at zero (n ∷ ns) d values h before e = rw e refl
refused_at (suc i) (n ∷ ns) d values h before e =
    before_refusal (number_in (numeral_of n)) (numeral_of n) (numbers_of (map numeral_of (take i ns))) (numbers_of (map numeral_of ns)) values _
    (λ first is. refused_at i ns d first (omega arith) is e) before

one_more_number : (i : ℕ) (all : List WrittenNumeral) (d : WrittenNumeral) (values : List ℕ) (value : ℕ) → i < length all → numbers_of (map numeral_of (take i all)) ≡ Ok values
    → number_in (numeral_of (get_or all i d)) ≡ Some value → numbers_of (map numeral_of (take (suc i) all)) ≡ Ok (values ++ value ∷ [])
one_more_number i [] d values value h before e = absurd (omega arith)
one_more_number zero (n ∷ ns) d values value h before e = let none : values ≡ [] = (cc) in rw (e, none) refl
one_more_number (suc i) (n ∷ ns) d values value h before e =
    before_more (number_in (numeral_of n)) (numeral_of n) (numbers_of (map numeral_of (take i ns))) (numbers_of (map numeral_of (take (suc i) ns))) values value
    (λ first is. one_more_number i ns d first value (omega arith) is e) before

-- one more number
pub one_more : (i : ℕ) (all : List WrittenNumeral) (d : WrittenNumeral) (values : List ℕ) (value : ℕ) → i < length all → numbers_of (map numeral_of (take i all)) ≡ Ok values
    → number_in (numeral_of (get_or all i d)) ≡ Some value → numbers_of (map numeral_of (take (i + 1) all)) ≡ Ok (values ++ value ∷ [])
one_more i all d values value h before e = rw add-one (one_more_number i all d values value h before e)
