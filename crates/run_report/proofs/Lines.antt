-- The loop that spells bytes.
use Rattle.std.proofs.Common.{◌≡◌, ◌≤◌, ◌+◌, ◌++◌, ◌∙◌, ℕ, zero, suc, List, [], ◌∷◌, length, take, drop, ◌-◌, length-drop, refl, ap, sym, arith, append-nil, add-one}
use Rattle.std.proofs.Math.ListN.{drop_of_length-le}
use Rattle.std.proofs.lemmas.List.{take_all}
use Rattle.pv_base.specs.Outside.{Text}
use Rattle.mem_image.specs.declared.object.Byte.{Byte}
use Rattle.run_report.specs.Bytes.{bytes_after, bytes_text}

-- one more is dropped from what is left
drop_one : {X : Type 0} (xs : List X) (i : ℕ) → drop 1 (drop i xs) ≡ drop (i + 1) xs
drop_one [] zero = refl
drop_one [] (suc i) = rw add-one refl
drop_one (x ∷ xs) zero = refl
drop_one (x ∷ xs) (suc i) = rw add-one (drop_one xs i ∙ rw add-one refl)

pub bytes_step : (bytes : List Byte) (i passed more : ℕ) (to to' all : Text)
    → to' ++ bytes_after (drop 1 (take (length bytes - i) (drop i bytes))) more ≡ to ++ bytes_after (take (length bytes - i) (drop i bytes)) passed → to ++ bytes_after (drop i bytes) passed ≡ all
    → to' ++ bytes_after (drop (i + 1) bytes) more ≡ all
bytes_step bytes i passed more to to' all step before =
    let whole : take (length bytes - i) (drop i bytes) ≡ drop i bytes = take_all (length bytes - i) (drop i bytes) (omega (arith, length-drop i bytes)) in
    ap (λ (rest : List Byte). to' ++ bytes_after rest more) (sym (drop_one bytes i) ∙ ap (drop 1) (sym whole)) ∙ step ∙ ap (λ (rest : List Byte). to ++ bytes_after rest passed) whole ∙ before

pub bytes_end : (bytes : List Byte) (i passed : ℕ) (to before : Text) → length bytes ≤ i → to ++ bytes_after (drop i bytes) passed ≡ before ++ bytes_after bytes 0
    → to ≡ before ++ bytes_text bytes
unfolding bytes_text
bytes_end bytes i passed to before past all = sym (append-nil to) ∙ ap (λ (rest : List Byte). to ++ bytes_after rest passed) (sym (drop_of_length-le bytes past)) ∙ all
