-- How a text is taken.
use Rattle.std.proofs.Common.{◌≡◌, ◌<◌, ◌^◌, length, sym, ◌∙◌, ap, Option, Some, None, option_map, Result, Ok, Err, IfOk}
use Rattle.pv_base.specs.Outside.{Text}
use Rattle.pv_base.specs.declared.want.Memory.{Memory}
use Rattle.ir_lex.specs.declared.token.ReadError.{ReadError}
use Rattle.ir_tree.specs.Modules.{Items}
use Rattle.ir_tree.specs.Table.{IsTable}
use Rattle.ir_tree.specs.Staying.{StaysSame}
use Rattle.ir_grammar.specs.Modules.{shown_module}
use Rattle.ir_grammar.specs.Texts.{read_of}
use Rattle.ir_reader.specs.Answering.{IsReading}
use Rattle.ir_reader.specs.declared.whole.TextEnd.{TextEnd}
use Rattle.ir_reader.specs.declared.whole.TextEnd.TheVariants.{Bad}
use Rattle.ir_rules.specs.declared.fault.CheckError.{CheckError}
use Rattle.ir_rules.specs.Faults.{first_fault}
use Rattle.ir_rules.specs.Reading.{IsWellFormed}
use Rattle.ir_rules.proofs.NumberingLemmas.{module_within}
use Rattle.read_laws.proofs.Texts.{texts_stand}
use Rattle.run_report.specs.Refusals.{refused_module, refused_check}
use Rattle.plain_commands.specs.Loading.{IsLoaded, IsJudged, refusal_by, refusal_of}
use Rattle.plain_commands.specs.declared.loading.Loaded.{Loaded}
use Rattle.plain_commands.specs.declared.loading.Loaded.TheVariants.{Accepted, Refused}

-- the refusal of a module by its first fault
pub refusal_is : (m : Items) (e : CheckError) (line : Text) → line ≡ refused_check (shown_module m) e → Some e ≡ first_fault (shown_module m) → IsJudged m (Refused line)
refusal_is m e line is first = ap Some is ∙ ap (option_map (refused_check (shown_module m))) first

-- a module that was read and tested
pub judged_is : (text : Text) (m : Items) (loaded : Loaded) → read_of text ≡ Ok (shown_module m) → IsJudged m loaded → IsLoaded text loaded
judged_is text m (Accepted c) is judged = rw judged.0 (is, judged.1)
judged_is text m (Refused line) is judged = ap refusal_by is ∙ sym judged

pub judged_so : (text : Text) (m : Items) (r : Result Loaded Memory) → read_of text ≡ Ok (shown_module m) → IfOk r (IsJudged m) → IfOk r (IsLoaded text)
judged_so text m (Ok loaded) is judged = judged_is text m loaded is judged
judged_so text m (Err e) is judged = tt

-- the fault with which the reading of a text ended
pub bad_read : (text : Text) (end : TextEnd) (e : ReadError) → end ≡ Bad e → IsReading (Err end) (read_of text) → read_of text ≡ Err e
bad_read text end e is reading = rw is at reading

-- a text that has a fault
pub faulty_is : (text : Text) (e : ReadError) (line : Text) → read_of text ≡ Err e → line ≡ refused_module e → IsLoaded text (Refused line)
faulty_is text e line is said = ap refusal_by is ∙ ap Some (sym said)

-- what was read is well formed
pub read_well : (text : Text) (m : Items) → length text < 2 ^ 32 → IsTable m.names → read_of text ≡ Ok (shown_module m) → StaysSame m → IsWellFormed m
read_well text m short table is stays = record { within = module_within m table stays; stands = texts_stand text (shown_module m) is short }
