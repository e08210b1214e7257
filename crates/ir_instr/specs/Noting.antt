-- Words that are read one after the other.
use Rattle.std.specs.Prelude.{◌≡◌, ℕ, Bool, ◌||◌, List, Ok, codes}
use Rattle.int_num.specs.declared.ops.Flags.{Flags}
use Rattle.ir_text.specs.Tokens.{TokenV, same, among}
use Rattle.ir_instr.specs.Flags.{words_of}

-- the flags with the one of a word, where it is one
abbrev pub noted : Flags → List ℕ → Flags
noted f word = record {
  nsw = f.nsw || same (codes "nsw") word;
  nuw = f.nuw || same (codes "nuw") word;
  exact = f.exact || same (codes "exact") word;
  disjoint = f.disjoint || same (codes "disjoint") word;
  nneg = f.nneg || same (codes "nneg") word;
}

-- these words are read, and whether a word is among them
pub record Says (words : List (List ℕ)) (sought : List ℕ) (ts : List TokenV) (is_said : Bool) (rest : List TokenV) : Type 0 where
  pub all : List (List ℕ)
  pub read : words_of words ts ≡ Ok (all, rest)
  pub is : among all sought ≡ is_said
