-- The text of the profile of a generated module: the loop's blocks, its counter, and what its four accesses touch.
use Rattle.std.specs.Prelude.{ℕ, ◌++◌, List, codes, decimal}
use Rattle.load_gen.specs.Numbers.{each}

abbrev pub line_text : ℕ → List ℕ
line_text j = codes "block %b" ++ decimal j ++ codes "\n"

abbrev pub profile_text : List ℕ
profile_text =
    codes "privateer-profile 1\nloop @main %head\nblock %head\nblock %body\n" ++ each line_text 64
    ++ codes "block %join\nphi %i step 1\nuse @main:136/0 @table\nuse @main:137/0 @table\nuse @main:138/0 @sum\nuse @main:140/0 @sum\nend\n"
