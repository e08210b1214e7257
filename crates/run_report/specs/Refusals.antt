-- The lines that say why a module is refused, and the line of one that is accepted.
use Rattle.std.specs.Prelude.{◌++◌, not, ℕ, Bool, [], length, slice_get, count_by, sum_by, codes, decimal}
use Rattle.pv_base.specs.Outside.{Text}
use Rattle.ir_lex.specs.declared.token.Cause.{Cause}
use Rattle.ir_lex.specs.declared.token.Cause.TheVariants as cause
use Rattle.ir_lex.specs.declared.token.ReadError.{ReadError}
use Rattle.ir_rules.specs.declared.fault.CheckCause.{CheckCause}
use Rattle.ir_rules.specs.declared.fault.CheckCause.TheVariants as rule
use Rattle.ir_rules.specs.declared.fault.CheckSite.{CheckSite}
use Rattle.ir_rules.specs.declared.fault.CheckSite.TheVariants as place
use Rattle.ir_rules.specs.declared.fault.CheckError.{CheckError}
use Rattle.ir_rules.specs.Seen.{ModuleV}
use Rattle.ir_tree.specs.declared.items.Block.{Block}
use Rattle.ir_tree.specs.declared.items.Function.{Function}
use Rattle.run_report.specs.Report.{global_text, site_name}

-- why a module's text is refused, with the word that is outside the language
abbrev pub cause_text : Cause → Text
cause_text cause.Token = codes "token"
cause_text cause.Name = codes "name"
cause_text cause.BadType = codes "bad-type"
cause_text cause.Width = codes "width"
cause_text cause.Operand = codes "operand"
cause_text cause.Instruction = codes "instruction"
cause_text cause.Duplicate = codes "duplicate"
cause_text (cause.OutOfProfile word) = codes "out-of-profile " ++ word
cause_text cause.Layout = codes "layout"
cause_text cause.End = codes "end"
cause_text cause.Number = codes "number"
cause_text cause.TooLong = codes "too-long"

-- `refused module line L CAUSE`
unfoldable pub refused_module : ReadError → Text
refused_module e = codes "refused module line " ++ decimal e.line ++ codes " " ++ cause_text e.cause ++ codes "\n"

-- the rule that a module breaks
abbrev pub rule_word : CheckCause → Text
rule_word rule.UnknownName = codes "unknown-name"
rule_word rule.TypeDiffers = codes "type-differs"
rule_word rule.Terminator = codes "terminator"
rule_word rule.EntryHasPreds = codes "entry-has-preds"
rule_word rule.PhiEdges = codes "phi-edges"
rule_word rule.AllocaPlace = codes "alloca-place"
rule_word rule.External = codes "external"
rule_word rule.NoMain = codes "no-main"
rule_word rule.MainType = codes "main-type"

-- where it breaks it: ` @g`, ` @f:12`, or nothing where the whole module does
abbrev pub place_text : ModuleV → CheckSite → Text
place_text v (place.Global global) = codes " " ++ global_text (slice_get v.globals global)
place_text v (place.At site) = codes " " ++ site_name v site
place_text v place.Whole = []

-- `refused check CAUSE` and its place
unfoldable pub refused_check : ModuleV → CheckError → Text
refused_check v e = codes "refused check " ++ rule_word e.cause ++ place_text v e.at ++ codes "\n"

-- whatever stands for names, types and constants: their numbers, or they themselves
module _ {N T C : Type 0} where
  abbrev pub is_defined : Function N T C → Bool
  is_defined f = not f.declared

  abbrev pub block_size : Block N T C → ℕ
  block_size b = length b.instructions

  -- how many instructions a function has
  abbrev pub function_size : Function N T C → ℕ
  function_size f = sum_by block_size f.blocks

-- `accepted functions F globals G instructions I`; functions that are only declared do not count
unfoldable pub accepted_text : ModuleV → Text
accepted_text v = codes "accepted functions " ++ decimal (count_by is_defined v.functions) ++ codes " globals " ++ decimal (length v.globals)
    ++ codes " instructions " ++ decimal (sum_by function_size v.functions) ++ codes "\n"
