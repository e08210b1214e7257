-- The text of a generated module, by its functions and blocks, after the LLVM Language Reference.
use Rattle.std.specs.Prelude.{ℕ, ◌+◌, ◌++◌, List, codes, decimal}
use Rattle.std.specs.Fmt.{signed_decimal}
use Rattle.load_gen.specs.Numbers.{factor, addend, as_signed, each}

abbrev pub globals_text : List ℕ
globals_text = codes "@table = global [64 x i32] zeroinitializer\n@sum = global i32 0\ndeclare i32 @putchar(i32)\n"

-- the function of a number, with its factor and its addend
abbrev pub worker_text : ℕ → ℕ → ℕ → List ℕ
worker_text j factor addend =
    codes "define i32 @w" ++ decimal j ++ codes "(i32 %x) {\nentry:\n  %a = mul i32 %x, " ++ decimal factor ++ codes "\n  %b = add i32 %a, " ++ decimal addend ++ codes "\n  ret i32 %b\n}\n"

abbrev pub function_text : ℕ → ℕ → List ℕ
function_text number j = worker_text j (factor number j) (addend number j)

-- the blocks that enter the loop and test whether there is another turn
abbrev pub head_text : ℕ → List ℕ
head_text turns =
    codes "define i32 @main() {\nentry:\n  br label %head\nhead:\n  %i = phi i32 [ 0, %entry ], [ %i2, %join ]\n  %c = icmp ult i32 %i, " ++ signed_decimal (as_signed turns) ++ codes "\n  br i1 %c, label %body, label %done\n"

abbrev pub case_text : ℕ → List ℕ
case_text j = codes "i32 " ++ decimal j ++ codes ", label %b" ++ decimal j ++ codes " "

-- the block that picks a function by the low six bits of the turn
abbrev pub body_text : List ℕ
body_text = codes "body:\n  %k = and i32 %i, 63\n  switch i32 %k, label %b0 [ " ++ each (λ j. case_text (j + 1)) 63 ++ codes "]\n"

-- the block that calls the function of a number
abbrev pub block_text : ℕ → List ℕ
block_text j = codes "b" ++ decimal j ++ codes ":\n  %r" ++ decimal j ++ codes " = call i32 @w" ++ decimal j ++ codes "(i32 %i)\n  br label %join\n"

abbrev pub arm_text : ℕ → List ℕ
arm_text j = codes ", [ %r" ++ decimal j ++ codes ", %b" ++ decimal j ++ codes " ]"

-- the block that puts the answer into the table, adds it to the sum and prints a letter for it, and the one behind the loop
abbrev pub join_text : List ℕ
join_text =
    codes "join:\n  %r = phi i32 [ %r0, %b0 ]" ++ each (λ j. arm_text (j + 1)) 63
    ++ codes "\n  %q = getelementptr inbounds [64 x i32], ptr @table, i64 0, i32 %k\n  store i32 %r, ptr %q\n  %v = load i32, ptr %q\n"
    ++ codes "  %o = load i32, ptr @sum\n  %n = add i32 %o, %v\n  store i32 %n, ptr @sum\n"
    ++ codes "  %y = and i32 %v, 15\n  %z = add i32 %y, 65\n  %w = call i32 @putchar(i32 %z)\n"
    ++ codes "  %i2 = add i32 %i, 1\n  br label %head\ndone:\n  ret i32 0\n}\n"

abbrev pub main_text : ℕ → List ℕ
main_text turns = head_text turns ++ body_text ++ each block_text 64 ++ join_text

-- a table and a sum, 64 functions, and the function that loops
abbrev pub module_text : ℕ → ℕ → List ℕ
module_text number turns = globals_text ++ each (function_text number) 64 ++ main_text turns
