-- The report of a run: how it ended, and the globals that it leaves. It is that of a module written out.
use Rattle.std.specs.Prelude.{◌++◌, ℕ, List, [], ◌∷◌, slice_get, Option, None, Some, codes, decimal}
use Rattle.std.specs.Fmt.{signed_decimal}
use Rattle.int_num.specs.Integer.{signed}
use Rattle.pv_base.specs.Outside.{Text}
use Rattle.pv_base.specs.declared.place.Site.{Site}
use Rattle.ir_rules.specs.Seen.{ModuleV, FunctionV, GlobalV}
use Rattle.mem_image.specs.Words.{trap_word}
use Rattle.seq_machine.specs.declared.state.End.{End}
use Rattle.seq_machine.specs.declared.state.End.TheVariants.{Ended, Trapped, Spent}
use Rattle.seq_machine.specs.declared.state.GlobalBytes.{GlobalBytes}
use Rattle.seq_machine.specs.declared.state.Outcome.{Outcome}
use Rattle.ir_printer.specs.Pieces.{Global as GlobalName, spelled}
use Rattle.run_report.specs.Bytes.{bytes_text}

-- `@name`, of a function and of a global
abbrev pub function_text : Option FunctionV → Text
function_text None = []
function_text (Some f) = spelled (GlobalName f.name)

abbrev pub global_text : Option GlobalV → Text
global_text None = []
global_text (Some g) = spelled (GlobalName g.name)

module _ (v : ModuleV) where
  -- a site: `@name:place`
  abbrev pub site_name : Site → Text
  site_name site = function_text (slice_get v.functions site.function) ++ codes ":" ++ decimal site.place

  -- how the run ended: `ended V steps N` with V signed, `trapped WORD SITE steps N`, or `spent N`
  abbrev pub end_line : End → ℕ → Text
  end_line (Ended n) steps = codes "ended " ++ signed_decimal (signed n) ++ codes " steps " ++ decimal steps ++ codes "\n"
  end_line (Trapped t site) steps =
      codes "trapped " ++ trap_word t ++ codes " " ++ site_name site ++ codes " steps " ++ decimal steps ++ codes "\n"
  end_line Spent steps = codes "spent " ++ decimal steps ++ codes "\n"

  -- `global @g BYTES`
  abbrev pub global_line : GlobalBytes → Text
  global_line g = codes "global " ++ global_text (slice_get v.globals g.global) ++ codes " " ++ bytes_text g.bytes ++ codes "\n"

  abbrev pub global_lines : List GlobalBytes → Text
  global_lines [] = []
  global_lines (g ∷ gs) = global_line g ++ global_lines gs

  -- the report of a run
  unfoldable pub report_text : Outcome → Text
  report_text o = end_line o.end o.steps ++ global_lines o.globals
