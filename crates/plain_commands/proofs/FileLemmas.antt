-- Answers that stand on the texts of files.
use Rattle.std.proofs.Common.{◌≡◌, ◌<◌, ◌≤◌, ◌+◌, ℕ, [], Option, None, Some, IfSome, length, replicate, refl, arith, Bool, true, false, nat_lt, if◌then◌else◌}
use Rattle.std.proofs.lemmas.Bool.{lt-ltb}
use Rattle.std.proofs.lemmas.List.{length-replicate}
use Rattle.pv_base.specs.Outside.{Text}
use Rattle.plain_commands.specs.Status as exit
use Rattle.plain_commands.specs.Answers.{refuses, too_long_line, with_file}
use Rattle.plain_commands.specs.declared.answer.Answer.{Answer}

not_longer : (limit : ℕ) (text : Text) → length text ≤ limit → nat_lt limit (length text) ≡ false
not_longer limit text bound = grind (arith, nat_lt)

-- a text within the limit is answered as it is
pub with_short : (limit : ℕ) (text name : Text) (next : Answer) → length text ≤ limit → with_file limit text name next ≡ next
with_short limit text name next bound = rw (not_longer limit text bound) refl

-- a text that is too long is refused
pub with_long : (limit : ℕ) (text name : Text) (next : Answer) → limit < length text → with_file limit text name next ≡ refuses exit.too_long (too_long_line name)
with_long limit text name next long = rw (lt-ltb limit (length text) long) refl

-- what holds of the refusal and of what follows holds of the answer
pub with_either : (P : Answer → Type 0) (limit : ℕ) (text name : Text) (next : Answer) → P (refuses exit.too_long (too_long_line name)) → P next → P (with_file limit text name next)
with_either P limit text name next refusal follows = chosen (nat_lt limit (length text))
  where
    chosen : (b : Bool) → P (if b then refuses exit.too_long (too_long_line name) else next)
    chosen true = refusal
    chosen false = follows

-- a text that is what is told
pub record IsTold (told : Option Text) : Type 0 where
  pub text : Text
  pub is : IfSome told (λ t. text ≡ t)

-- there is one; it may be any where nothing is told
pub some_text : (told : Option Text) → IsTold told
some_text None = record { text = []; is = tt }
some_text (Some t) = record { text = t; is = refl }

-- a text that is what is told, and longer than the limit
pub record IsLong (limit : ℕ) (told : Option Text) : Type 0 where
  pub text : Text
  pub is : IfSome told (λ t. text ≡ t)
  pub longer : limit < length text

pub long_text : (limit : ℕ) (told : Option Text) → IfSome told (λ t. limit < length t) → IsLong limit told
long_text limit None long = record { text = replicate (limit + 1) 0; is = tt; longer = omega (arith, length-replicate {A = ℕ} (limit + 1) 0) }
long_text limit (Some t) long = record { text = t; is = refl; longer = long }
