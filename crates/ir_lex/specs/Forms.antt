-- The longest piece of each form at the front of a text: how many bytes it has, 0 where there is none.
use Rattle.std.specs.Prelude.{ℕ, ◌+◌, ◌&&◌, ◌||◌, ◌==◌, if◌then◌else◌, List, drop, Option, Some, None, slice_index}
use Rattle.std.specs.List.{prefix_len}
use Rattle.ir_lex.specs.declared.token.TokenKind.TheVariants as kind
use Rattle.ir_lex.specs.declared.token.Form.{Form}
use Rattle.ir_lex.specs.declared.token.Form.TheVariants as form
use Rattle.ir_lex.specs.Classes.{is_blank, is_digit, is_name_start, is_name_byte, is_word_start, is_word_byte, is_mark, in_line, in_string}

-- a string with its quotes, which runs over no newline
unfoldable pub quoted_len : List ℕ → ℕ
quoted_len text =
    let n = prefix_len in_string (drop 1 text) in
    if slice_index text 0 == 34 && slice_index text (n + 1) == 34 then n + 2 else 0

-- a name without its sign: by the pattern, digits, or quoted
unfoldable pub name_len : List ℕ → ℕ
name_len text =
    if is_name_start (slice_index text 0) then prefix_len is_name_byte text
    else (if is_digit (slice_index text 0) then prefix_len is_digit text
    else quoted_len text)

-- a name with the colon after it
unfoldable pub label_len : List ℕ → ℕ
label_len text = if name_len text == 0 then 0 else (if slice_index text (name_len text) == 58 then name_len text + 1 else 0)

-- a name behind its sign
unfoldable pub signed_len : List ℕ → ℕ
signed_len text = if name_len (drop 1 text) == 0 then 0 else name_len (drop 1 text) + 1

-- digits, or digits behind a minus
unfoldable pub integer_len : List ℕ → ℕ
integer_len text =
    if slice_index text 0 == 45 then (if prefix_len is_digit (drop 1 text) == 0 then 0 else prefix_len is_digit (drop 1 text) + 1)
    else prefix_len is_digit text

-- a mark, or three points
unfoldable pub punct_len : List ℕ → ℕ
punct_len text =
    if is_mark (slice_index text 0) then 1
    else (if slice_index text 1 == 46 && slice_index text 2 == 46 then 3 else 0)

-- a blank, or a comment up to the line's end
unfoldable pub gap_len : List ℕ → ℕ
gap_len text = if slice_index text 0 == 59 then 1 + prefix_len in_line (drop 1 text) else 1

-- the only form but a label that may begin with this byte
unfoldable pub form_of : ℕ → Option Form
form_of b =
    if is_blank b || b == 59 then Some form.Gap
    else (if b == 64 then Some (form.Token kind.GlobalName)
    else (if b == 37 then Some (form.Token kind.LocalName)
    else (if is_digit b || b == 45 then Some (form.Token kind.Integer)
    else (if is_word_start b then Some (form.Token kind.Word)
    else (if b == 34 then Some (form.Token kind.Text)
    else (if is_mark b || b == 46 then Some (form.Token kind.Punct)
    else None))))))

-- the longest piece of a form at the front of a text that begins with a byte for that form
unfoldable pub form_len : Form → List ℕ → ℕ
form_len form.Gap text = gap_len text
form_len (form.Token kind.GlobalName) text = signed_len text
form_len (form.Token kind.LocalName) text = signed_len text
form_len (form.Token kind.Label) text = label_len text
form_len (form.Token kind.Integer) text = integer_len text
form_len (form.Token kind.Word) text = prefix_len is_word_byte text
form_len (form.Token kind.Text) text = quoted_len text
form_len (form.Token kind.Punct) text = punct_len text
