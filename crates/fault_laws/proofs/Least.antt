-- The fewest bytes at which no piece begins, whatever follows.
use Rattle.std.proofs.Common.{◌≡◌, ℕ, zero, suc, ◌+◌, ◌-◌, ◌<◌, ◌≤◌, ◌⊎◌, inl, inr, List, [], ◌∷◌, ◌++◌, length, take, drop, refl, sym, ap, subst, ◌∙◌, arith, append_assoc, take-append-drop}
use Rattle.std.proofs.lemmas.List.{append-nil, length-take-le, take_all}
use Rattle.ir_lex.specs.declared.token.Cause.{Cause}
use Rattle.ir_lex.specs.declared.token.Cause.TheVariants as cause
use Rattle.ir_lex.specs.declared.token.Piece.{Piece}
use Rattle.ir_lex.specs.declared.token.Piece.TheVariants as piece
use Rattle.ir_lex.specs.Lexing.{piece_of}
use Rattle.ir_lex.specs.Faults.{BeginsNone, BeginsNever, IsBegun, IsCause}
use Rattle.ir_lex.proofs.Cuts.{found_longest}
use Rattle.ir_lex.proofs.Causes.{bad_cause}

-- the fewest bytes of a text at which none begins
pub record Least (text : List ℕ) : Type 0 where
  pub count : ℕ
  pub some : 0 < count
  pub fits : count ≤ length text
  pub never : BeginsNever (take count text)
  pub before : (n : ℕ) → 0 < n → n < count → IsBegun (take n text)

-- none begins at fewer bytes
fewer : (text : List ℕ) (k : ℕ) → BeginsNever text → BeginsNone (take k text)
fewer text k never f t after is whole =
    never [] f t (after ++ drop k text) is
    (sym (append_assoc t after (drop k text)) ∙ ap (λ (x : List ℕ). x ++ drop k text) whole ∙ take-append-drop k text ∙ sym (append-nil text))

-- what the piece at fewer bytes says
decide : (b : ℕ) (bs : List ℕ) → BeginsNone (b ∷ bs) → (p : Piece) → piece_of (b ∷ bs) ≡ p → IsBegun (b ∷ bs) ⊎ BeginsNever (b ∷ bs)
decide b bs none (piece.Found f n) is =
    let found = found_longest (b ∷ bs) f n (omega arith) is in
    absurd (none f (take n (b ∷ bs)) (drop n (b ∷ bs)) found.longest.is (take-append-drop n (b ∷ bs)))
decide b bs none (piece.Bad why) is = by_cause why (bad_cause b bs why is)
  where
    by_cause : (why : Cause) → IsCause why (b ∷ bs) → IsBegun (b ∷ bs) ⊎ BeginsNever (b ∷ bs)
    by_cause cause.Token h = inr h
    by_cause cause.End h = inl h.1
    by_cause cause.Number h = absurd (none h.form h.piece h.after h.is h.whole)
    by_cause cause.TooLong h = absurd (none h.form h.piece h.after h.is h.whole)
    by_cause _ h = absurd h

decided : (text : List ℕ) → 0 < length text → BeginsNone text → IsBegun text ⊎ BeginsNever text
decided [] some none = absurd (omega arith)
decided (b ∷ bs) some none = decide b bs none (piece_of (b ∷ bs)) refl

order : (n m : ℕ) → n ≤ m → (n < m) ⊎ (n ≡ m)
order zero zero le = inr refl
order zero (suc m) le = inl (omega arith)
order (suc n) zero le = absurd (omega arith)
order (suc n) (suc m) le = elim (order n m (omega arith)) [
  | inl less ↦ inl (omega arith)
  | inr same ↦ inr (ap suc same)
]

-- from so many bytes on
least_from : (fuel k : ℕ) (text : List ℕ) → BeginsNever text → 0 < k → k + fuel ≡ length text → ((n : ℕ) → 0 < n → n < k → IsBegun (take n text)) → Least text
least_from zero k text never some e before =
    let whole : take k text ≡ text = take_all k text (omega arith) in
    record { count = k; some = some; fits = omega arith; never = subst BeginsNever (sym whole) never; before = before }
least_from (suc fuel) k text never some e before =
    elim (decided (take k text) (let l : length (take k text) ≡ k = length-take-le k text (omega arith) in omega arith) (fewer text k never)) [
      | inr here ↦ record { count = k; some = some; fits = omega arith; never = here; before = before }
      | inl begun ↦ least_from fuel (suc k) text never (omega arith) (omega arith) (λ n pos lt. next n pos lt begun)
    ]
  where
    next : (n : ℕ) → 0 < n → n < suc k → IsBegun (take k text) → IsBegun (take n text)
    next n pos lt begun = elim (order n k (omega arith)) [
      | inl less ↦ before n pos less
      | inr same ↦ subst (λ (m : ℕ). IsBegun (take m text)) (sym same) begun
    ]

pub least : (text : List ℕ) → 0 < length text → BeginsNever text → Least text
least text some never = least_from (length text - 1) 1 text never (omega arith) (omega arith) (λ n pos lt. absurd (omega arith))
