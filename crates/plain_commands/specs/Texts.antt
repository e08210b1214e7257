-- The texts that a command works on, and what the files tell of them.
use Rattle.std.specs.Prelude.{◌≡◌, ℕ, Option, IfSome}
use Rattle.pv_base.specs.Outside.{Text}
use Rattle.plain_commands.specs.Answers.{IsGiven}
use Rattle.plain_commands.specs.declared.answer.Answer.{Answer}

-- the text of the module, and that of the input
pub record Texts : Type 0 where
  pub code : Text
  pub input : Text

-- where the files tell the content of a name, it is this text
abbrev pub Tells : (Text → Option Text) → Text → Text → Type 0
Tells content name text = IfSome (content name) (λ t. text ≡ t)

-- How a command ends: over some texts that are what the files tell, it answers what is wanted of them, unless a read failed.
pub record Answers (Told : Texts → Type 0) (wanted : Texts → Answer) (Reads : Texts → Text → Type 0) (before after : ℕ) (a : Answer) : Type 0 where
  pub texts : Texts
  pub told : Told texts
  pub is : IsGiven (wanted texts) (Reads texts) before after a
