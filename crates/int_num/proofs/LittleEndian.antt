-- The bytes of a number.
use Rattle.std.proofs.Common.{◌≡◌, ℕ, zero, suc, ◌/◌, ◌%◌, ◌^◌, ◌≤◌, ◌∷◌, take, refl, sym, ap, ◌∙◌, arith}
use Rattle.std.specs.Int.{byte_at, bytes_low_first}
use Rattle.std.proofs.Math.Nat.{div-div-eq-div-mul, pow-succ'}
use Rattle.int_num.specs.Bytes.{low_bytes}

-- a byte of a number is the one below it of what is left without its lowest byte
byte_up : (i n : ℕ) → byte_at (suc i) n ≡ byte_at i (n / 256)
byte_up zero n = refl
byte_up (suc i) n = ap (λ m. m % 256) (ap (λ k. n / k) (pow-succ' 256 (suc i)) ∙ sym (div-div-eq-div-mul n 256 (256 ^ suc i)))

bytes_up : (i k n : ℕ) → bytes_low_first (suc i) k n ≡ bytes_low_first i k (n / 256)
bytes_up i zero n = refl
bytes_up i (suc k) n = ap (λ b. b ∷ bytes_low_first (suc (suc i)) k n) (byte_up i n) ∙ ap (λ bs. byte_at i (n / 256) ∷ bs) (bytes_up (suc i) k n)

-- the library's bytes of a number
pub low_first : (k n : ℕ) → bytes_low_first 0 k n ≡ low_bytes k n
low_first zero n = refl
low_first (suc k) n = ap (λ bs. n % 256 ∷ bs) (bytes_up 0 k n ∙ low_first k (n / 256))

-- the first of them
pub first_bytes : (k len n : ℕ) → len ≤ k → take len (low_bytes k n) ≡ low_bytes len n
first_bytes zero zero n le = refl
first_bytes (suc k) zero n le = refl
first_bytes zero (suc len) n le = absurd (omega arith)
first_bytes (suc k) (suc len) n le = ap (λ bs. n % 256 ∷ bs) (first_bytes k len (n / 256) (omega arith))
