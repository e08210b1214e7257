-- The lines that refuse words.
use Rattle.std.specs.Prelude.{◌++◌, codes}
use Rattle.pv_base.specs.Outside.{Text}

-- of no word, or of one that is not UTF-8
abbrev pub usage_words : Text
usage_words = codes "usage words\n"

-- of a text that is no number within its limits
abbrev pub usage_number : Text → Text → Text
usage_number name text = codes "usage " ++ name ++ codes " " ++ text ++ codes "\n"
