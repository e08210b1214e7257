-- The loops over the bytes of a word.
use Rattle.std.proofs.Common.{◌≡◌, ℕ, zero, suc, ◌+◌, ◌-◌, ◌*◌, ◌/◌, ◌%◌, ◌^◌, ◌<◌, ◌≤◌, List, [], ◌∷◌, ◌++◌, length, map, take, drop, slice_set, get_or, Some, None, refl, sym, ◌∙◌, ap, arith, append_assoc, append-nil, drop-cons, lit<}
use Rattle.std.proofs.lemmas.List.{take_more_set, map_more}
use Rattle.std.proofs.Math.Nat.{pow-le-pow_right, pow-suc}
use Rattle.int_num.specs.Bytes.{low_bytes}
use Rattle.int_num.proofs.LittleEndian.{first_bytes}
use Rattle.mem_image.specs.declared.object.Byte.{Byte}
use Rattle.mem_image.specs.declared.object.Byte.TheVariants.{Unset, Num, Ptr}
use Rattle.mem_image.specs.Picture.{PartFits, IsWord}
use Rattle.seq_effects.specs.Words.{number_bytes, number_of}

length_bytes : (len n : ℕ) → length (number_bytes len n) ≡ len
length_bytes zero n = refl
length_bytes (suc k) n = ap suc (length_bytes k (n / 256))

pub parts : (len n k : ℕ) (d : Byte) → k < length (number_bytes len n) → PartFits (get_or (number_bytes len n) k d)
parts zero n k d lt = absurd (omega arith)
parts (suc j) n zero d lt = tt
parts (suc j) n (suc k) d lt = parts j (n / 256) k d (omega arith)

pub is_word : (len n : ℕ) → 1 ≤ len → len ≤ 8 → IsWord (number_bytes len n)
is_word len n some most = let e : length (number_bytes len n) ≡ len = length_bytes len n in record { some = rw e some; most = rw e most; parts = parts len n }

-- one more byte of a number
pub word_more : (i : ℕ) (bytes : List Byte) (from : List ℕ) (d : ℕ) → i < length bytes → i < length from → take i bytes ≡ map Num (take i from)
    → take (i + 1) (slice_set bytes i (Num (get_or from i d))) ≡ map Num (take (i + 1) from)
word_more i bytes from d there lt e = rw (take_more_set bytes i (Num (get_or from i d)) there, map_more Num from i d lt) (ap (λ xs. xs ++ Num (get_or from i d) ∷ []) e)

-- where bytes are no number, nor are they with more before them
pub none_before : (bytes : List Byte) (k : ℕ) → number_of (drop k bytes) ≡ None → number_of bytes ≡ None
none_before [] zero e = e
none_before [] (suc k) e = e
none_before (b ∷ rest) zero e = e
none_before (Unset ∷ rest) (suc k) e = refl
none_before (Num b ∷ rest) (suc k) e = rw (none_before rest k e) refl
none_before (Ptr part p ∷ rest) (suc k) e = refl

-- seven bytes leave room for one more
pub byte_fits : (k n : ℕ) → k ≤ 7 → n < 256 ^ k → n < 2 ^ 56
byte_fits k n le lt = let h : 256 ^ k ≤ 256 ^ 7 = pow-le-pow_right {n = 256} (lit< tt) le in omega arith

pub byte_more : (k n b : ℕ) → n < 256 ^ k → b < 256 → n * 256 + b < 256 ^ suc k
byte_more k n b lt small = rw (pow-suc 256 k) (omega arith)

-- one more byte before a number
pub number_more : (bytes : List Byte) (i j b n : ℕ) (d : Byte) → i ≡ suc j → i ≤ length bytes → get_or bytes j d ≡ Num b → number_of (drop i bytes) ≡ Some n → number_of (drop j bytes) ≡ Some (n * 256 + b)
number_more bytes i j b n d same le is e =
    let lt : j < length bytes = omega arith in
    let after = rw same at e in
    rw (drop-cons bytes j d, is, after) (ap Some (omega arith))

not_number : (b : Byte) (rest : List Byte) → ((x : ℕ) → b ≡ Num x → ⊥) → number_of (b ∷ rest) ≡ None
not_number Unset rest h = refl
not_number (Num x) rest h = absurd (h x refl)
not_number (Ptr part p) rest h = refl

-- a byte that is no number
pub no_number : (bytes : List Byte) (j : ℕ) (d : Byte) → j < length bytes → ((x : ℕ) → get_or bytes j d ≡ Num x → ⊥) → number_of bytes ≡ None
no_number bytes j d lt h = none_before bytes j (rw (drop-cons bytes j d) (not_number (get_or bytes j d) (drop (suc j) bytes) h))

-- all bytes of a number
pub word_done : (len i n : ℕ) (bytes : List Byte) (from : List ℕ) → i ≡ len → len ≤ 8 → from ≡ low_bytes 8 n → take i bytes ≡ map Num (take i from) → take len bytes ≡ number_bytes len n
word_done len i n bytes from same most is e =
    let first : take len from ≡ low_bytes len n = ap (take len) is ∙ first_bytes 8 len n most in
    (rw same at e) ∙ ap (map Num) first
