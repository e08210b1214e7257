-- What is passed over.
use Rattle.std.specs.Prelude.{◌≡◌, ℕ, suc, ◌-◌, ◌==◌, length, Bool, true, false, not, ◌&&◌, ◌||◌, nat_le, if◌then◌else◌, List, [], ◌∷◌, Ok, Err, codes}
use Rattle.std.specs.Bool.{MatchBool}
use Rattle.std.specs.List.{prefix_len}
use Rattle.ir_lex.specs.Classes.{is_digit}
use Rattle.std.proofs.Common.{◌⊎◌}
use Rattle.ir_lex.specs.declared.token.TokenKind.{TokenKind}
use Rattle.ir_lex.specs.declared.token.TokenKind.TheVariants as kind
use Rattle.ir_lex.specs.declared.token.Cause.TheVariants as causes
use Rattle.ir_text.specs.declared.fault.Fault.TheVariants.{Ended}
use Rattle.ir_text.specs.Tokens.{TokenV, same, among, is_mark, is_refused}
use Rattle.ir_text.specs.Reading.{Reader, ◌>>=◌, Meaning, token_by, wrong}
use Rattle.ir_text.specs.Leaves.{tested, mark, mark_at}
use Rattle.ir_text.specs.Choice.{choose}
use Rattle.ir_text.specs.Repeated.{repeated, each}
use Rattle.ir_text.specs.Lawful.{Follow, Behind, anything}
use Rattle.ir_text.specs.Spelled.{Spelling, InTurn, Led, one_token, nothing, when, unless}

-- items as long as the next token passes a test, of which nothing is kept
abbrev pub skipped : {A : Type 0} → (TokenV → Bool) → Reader A → Reader (Unit {0})
skipped test item ts = repeated test item ts >>= λ all. Ok (tt, all.1)

abbrev pub skips : {A : Type 0} → Spelling A → Spelling (Unit {0})
skips item = InTurn (each item) (λ all. nothing tt)

abbrev pub kind_is_word : TokenKind → Bool
kind_is_word kind.Word = true
kind_is_word _ = false

abbrev pub is_any_word : TokenV → Bool
is_any_word t = kind_is_word t.kind

abbrev pub kind_is_string : TokenKind → Bool
kind_is_string kind.Text = true
kind_is_string _ = false

abbrev pub is_string : TokenV → Bool
is_string t = kind_is_string t.kind

abbrev pub kind_is_integer : TokenKind → Bool
kind_is_integer kind.Integer = true
kind_is_integer _ = false

abbrev pub is_integer : TokenV → Bool
is_integer t = kind_is_integer t.kind

-- an integer, whatever its value
abbrev pub some_integer : Meaning (Unit {0})
some_integer t = tested (is_integer t) causes.Operand

-- a string, whatever its bytes
abbrev pub some_string : Meaning (Unit {0})
some_string t = tested (is_string t) causes.Operand

-- a word, whatever it is
abbrev pub some_word : Meaning (Unit {0})
some_word t = tested (is_any_word t) causes.Operand

-- ---- groups in brackets

abbrev pub is_opening : TokenV → Bool
is_opening t = is_mark 40 t || is_mark 91 t || is_mark 123 t

abbrev pub is_closing : TokenV → Bool
is_closing t = is_mark 41 t || is_mark 93 t || is_mark 125 t

-- the tokens up to the bracket that closes the first of so many open ones: brackets ( [ { are counted together
unfoldable pub group_from : ℕ → Reader (Unit {0})
group_from depth [] = Err Ended
group_from depth (t ∷ rest) =
    if is_opening t then group_from (suc depth) rest
    else (if is_closing t then (if nat_le depth 1 then Ok (tt, rest) else group_from (depth - 1) rest)
    else group_from depth rest)

unfoldable pub closed_from : ℕ → List TokenV → Type 0
closed_from depth [] = ⊥
closed_from depth (t ∷ rest) =
    MatchBool (is_opening t) (closed_from (suc depth) rest)
    (MatchBool (is_closing t) (MatchBool (nat_le depth 1) (rest ≡ []) (closed_from (depth - 1) rest)) (closed_from depth rest))

abbrev pub a_group : ℕ → Spelling (Unit {0})
a_group depth a ws = closed_from depth ws

-- ---- words with what belongs to them

-- what may belong to a word: a group in parentheses, or a number
abbrev pub after_word : Reader (Unit {0})
after_word = choose (is_mark 40) (λ ts. mark_at 40 ts >>= λ x. group_from 1 x.1) (choose is_integer (token_by some_integer) (λ ts. Ok (tt, ts)))

-- a number sign and its number
abbrev pub after_sign : Reader (Unit {0})
after_sign = token_by some_integer

-- a string, and another behind `=`
abbrev pub after_string : Reader (Unit {0})
after_string = choose (is_mark 61) (λ ts. mark_at 61 ts >>= λ x. token_by some_string x.1) (λ ts. Ok (tt, ts))

abbrev pub passed_by : TokenKind → TokenV → Reader (Unit {0})
passed_by kind.Word t rest = if is_refused t then wrong t causes.Operand else after_word rest
passed_by kind.Text t rest = after_string rest
passed_by _ t rest = if is_mark 35 t then after_sign rest else wrong t causes.Operand

abbrev pub may_pass_by : TokenKind → (TokenV → Bool) → TokenV → Bool
may_pass_by kind.Word stop t = not (stop t)
may_pass_by kind.Text stop t = true
may_pass_by _ stop t = is_mark 35 t

-- whether it is passed over, where these words are not
unfoldable pub may_pass : (TokenV → Bool) → TokenV → Bool
may_pass stop t = may_pass_by t.kind stop t

-- one attribute or marker: a word with what belongs to it, a string or two, #N
unfoldable pub passed_at : (TokenV → Bool) → Reader (Unit {0})
passed_at stop [] = Err Ended
passed_at stop (t ∷ rest) = if may_pass stop t then passed_by t.kind t rest else wrong t causes.Operand

-- attributes and markers up to a word that is not passed over, or another token
abbrev pub words_at : (TokenV → Bool) → Reader (Unit {0})
words_at stop = skipped (may_pass stop) (passed_at stop)

-- `iN`, whatever the width
unfoldable pub is_int_word : List ℕ → Bool
is_int_word [] = false
is_int_word (b ∷ digits) = b == 105 && not (length digits == 0) && prefix_len is_digit digits == length digits

-- a word that begins a type
abbrev pub is_type_word : List ℕ → Bool
is_type_word text = same text (codes "ptr") || same text (codes "void") || is_int_word text

-- the words that are not passed over: these, and where it is said those that begin a type
unfoldable pub stops_at : List (List ℕ) → Bool → List ℕ → Bool
stops_at words types text = among words text || (types && is_type_word text)

abbrev pub stops : List (List ℕ) → Bool → TokenV → Bool
stops words types t = stops_at words types t.text

-- ---- how they are spelled

abbrev pub with_word : Spelling (Unit {0})
with_word a ws = (nothing tt a ws ⊎ one_token some_integer a ws) ⊎ InTurn (one_token (mark 40)) (λ _. a_group 1) a ws

abbrev pub with_string : Spelling (Unit {0})
with_string a ws = nothing tt a ws ⊎ InTurn (one_token (mark 61)) (λ _. one_token some_string) a ws

abbrev pub passed_led : TokenKind → TokenV → Spelling (Unit {0})
passed_led kind.Word t = unless (is_refused t) with_word
passed_led kind.Text t = with_string
passed_led _ t = when (is_mark 35 t) (one_token some_integer)

-- the words that are passed over are not the ones at which this ends
abbrev pub passed_unless : (TokenV → Bool) → Spelling (Unit {0})
passed_unless stop = Led (λ t. when (may_pass stop t) (passed_led t.kind t))

abbrev pub some_words : (TokenV → Bool) → Spelling (Unit {0})
some_words stop = skips (passed_unless stop)

-- behind a word stands nothing that belongs to it
unfoldable pub AfterWord : Follow
AfterWord = Behind (is_mark 40) (Behind is_integer anything)

-- and behind what is passed over no `=`, which would belong to a string
unfoldable pub AfterPassed : Follow
AfterPassed = Behind (is_mark 61) AfterWord
