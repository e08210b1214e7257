-- What reading promises of a spelling: it reads what is spelled and nothing else, and its fault is the first.
use Rattle.std.specs.Prelude.{◌≡◌, ℕ, ◌≤◌, Bool, false, length, List, [], ◌∷◌, ◌++◌, Ok, Err}
use Rattle.std.proofs.Common.{◌⊎◌}
use Rattle.ir_lex.specs.declared.token.Cause.{Cause}
use Rattle.ir_text.specs.declared.fault.Fault.TheVariants.{At, Ended}
use Rattle.ir_text.specs.Tokens.{TokenV}
use Rattle.ir_text.specs.Reading.{Outcome, Reader, next_is}
use Rattle.ir_text.specs.Spelled.{Spelling}

-- the tokens that may stand behind a value
abbrev pub Follow : Type 1
Follow = List TokenV → Type 0

-- any tokens may
abbrev pub anything : Follow
anything rest = Unit {0}

-- the next token, where there is one, must not pass the test, else it belongs to the value
abbrev pub unless_next : (TokenV → Bool) → Follow
unless_next test rest = next_is test rest ≡ false

-- both: no further item follows, and what must stand behind the last one does
pub record Behind (test : TokenV → Bool) (last : Follow) (rest : List TokenV) : Type 0 where
  pub none : next_is test rest ≡ false
  pub fits : last rest

-- the same tokens are read, or more are needed
abbrev pub ReadsAll : {A : Type 0} → Outcome A → A → Type 0
ReadsAll read a = (read ≡ Ok (a, [])) ⊎ (read ≡ Err Ended)

-- nothing is wrong in these tokens: all of them are read, or more are needed
abbrev pub Unfaulted : {A : Type 0} → Outcome A → Type 0
Unfaulted {A} read = ((a : A) × (read ≡ Ok (a, []))) ⊎ (read ≡ Err Ended)

-- both begin with one token
pub record SameNext (ts us : List TokenV) : Type 0 where
  pub token : TokenV
  pub ts_rest : List TokenV
  pub us_rest : List TokenV
  pub ts_is : ts ≡ token ∷ ts_rest
  pub us_is : us ≡ token ∷ us_rest

-- Tokens that spell the value, and the rest. What is read of them does not depend on what stands behind the next token.
pub record Takes {A : Type 0} (read : Reader A) (spells : Spelling A) (ts : List TokenV) (a : A) (rest : List TokenV) : Type 0 where
  pub front : List TokenV
  pub parts : ts ≡ front ++ rest
  pub spelled : spells a front
  pub again : (others : List TokenV) → SameNext rest others → read (front ++ others) ≡ Ok (a, others)
  pub alone : ReadsAll (read front) a

-- the line is that of one of the tokens
pub record OnLine (line : ℕ) (ts : List TokenV) : Type 0 where
  pub before : List TokenV
  pub token : TokenV
  pub behind : List TokenV
  pub parts : ts ≡ before ++ token ∷ behind
  pub is : token.line ≡ line

-- The tokens up to where the fault is met: without the last of them nothing is wrong, and nothing behind it helps.
pub record WrongAt {A : Type 0} (read : Reader A) (ts : List TokenV) (line : ℕ) (cause : Cause) : Type 0 where
  pub front : List TokenV
  pub token : TokenV
  pub rest : List TokenV
  pub parts : ts ≡ front ++ token ∷ rest
  pub on_line : OnLine line (front ++ token ∷ [])
  pub still_open : Unfaulted (read front)
  pub stays : (more : List TokenV) → read (front ++ token ∷ more) ≡ Err (At line cause)

-- Reading gives a value where tokens spell it before what may follow, and from nothing else; without tokens there is no
-- fault; and a fault is the first. The bound is how many tokens the laws speak of, as deep as they may nest.
pub record Lawful {A : Type 0} (bound : ℕ) (follow : Follow) (read : Reader A) (spells : Spelling A) : Type 0 where
  pub sound : (ts : List TokenV) (x : A × List TokenV) → read ts ≡ Ok x → Takes read spells ts x.0 x.1
  pub complete : (a : A) (ws rest : List TokenV) → length ws ≤ bound → spells a ws → follow rest → read (ws ++ rest) ≡ Ok (a, rest)
  pub faults : (ts : List TokenV) (line : ℕ) (cause : Cause) → length ts ≤ bound → read ts ≡ Err (At line cause) → WrongAt read ts line cause
  pub begins : Unfaulted (read [])

-- what a token leads to is refused at that token
pub record Refuses {A : Type 0} (read : Reader A) (spells : Spelling A) (t : TokenV) : Type 0 where
  pub cause : Cause
  pub refused : (rest : List TokenV) → read rest ≡ Err (At t.line cause)
  pub unspelled : (a : A) (ws : List TokenV) → spells a ws → ⊥
