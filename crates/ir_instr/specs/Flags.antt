-- Flags: words behind the word of an operation, in any order, each as often as it pleases.
use Rattle.std.specs.Prelude.{ℕ, if◌then◌else◌, List, [], ◌∷◌, Ok, Err, codes}
use Rattle.ir_lex.specs.declared.token.Cause.TheVariants as causes
use Rattle.int_num.specs.declared.ops.BinOp.{BinOp}
use Rattle.int_num.specs.declared.ops.BinOp.TheVariants as op
use Rattle.int_num.specs.declared.ops.CastOp.{CastOp}
use Rattle.int_num.specs.declared.ops.CastOp.TheVariants as cast
use Rattle.int_num.specs.declared.ops.Flags.{Flags}
use Rattle.ir_text.specs.Tokens.{among}
use Rattle.ir_text.specs.Reading.{Reader, ◌>>=◌, Meaning, token_by}
use Rattle.ir_text.specs.Repeated.{repeated}
use Rattle.ir_instr.specs.Words.{is_among}

-- one of these words
abbrev pub one_of : List (List ℕ) → Meaning (List ℕ)
one_of words t = if is_among words t then Ok t.text else Err causes.Operand

-- any of these words, in any order
abbrev pub words_of : List (List ℕ) → Reader (List (List ℕ))
words_of words = repeated (is_among words) (token_by (one_of words))

-- what the words say
abbrev pub flags_of : List (List ℕ) → Flags
flags_of words = record {
  nsw = among words (codes "nsw");
  nuw = among words (codes "nuw");
  exact = among words (codes "exact");
  disjoint = among words (codes "disjoint");
  nneg = among words (codes "nneg");
}

abbrev pub wrapping : List (List ℕ)
wrapping = codes "nuw" ∷ codes "nsw" ∷ []

-- the flags that an operation may have
abbrev pub flags_for : BinOp → List (List ℕ)
flags_for op.Add = wrapping
flags_for op.Sub = wrapping
flags_for op.Mul = wrapping
flags_for op.Shl = wrapping
flags_for op.Udiv = codes "exact" ∷ []
flags_for op.Sdiv = codes "exact" ∷ []
flags_for op.Lshr = codes "exact" ∷ []
flags_for op.Ashr = codes "exact" ∷ []
flags_for op.Or = codes "disjoint" ∷ []
flags_for op.Urem = []
flags_for op.Srem = []
flags_for op.And = []
flags_for op.Xor = []

-- the flags that a change of width may have
abbrev pub cast_flags_for : CastOp → List (List ℕ)
cast_flags_for cast.Trunc = wrapping
cast_flags_for cast.Zext = codes "nneg" ∷ []
cast_flags_for cast.Sext = []

-- flags among these words
abbrev pub flags_at : List (List ℕ) → Reader Flags
flags_at words ts = words_of words ts >>= λ all. Ok (flags_of all.0, all.1)
