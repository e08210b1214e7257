-- Runs, by numbers and written out.
use Rattle.std.proofs.Common.{◌≡◌, ℕ, ◌+◌, true, List, [], ◌∷◌, map, refl, ap, ◌∙◌}
use Rattle.std.specs.Prelude.{if◌then◌else◌}
use Rattle.pv_base.specs.Outside.{Text}
use Rattle.ir_tree.specs.declared.items.Global.{Global as Variable}
use Rattle.ir_tree.specs.Table.{Table, IsTable}
use Rattle.ir_tree.specs.Shown.{shown_global}
use Rattle.ir_tree.specs.Modules.{Items}
use Rattle.ir_tree.specs.Written.{shown_module}
use Rattle.ir_rules.specs.Numbering.{is_within}
use Rattle.mem_image.specs.declared.object.Object.{Object}
use Rattle.mem_image.specs.Picture.{Picture, bytes_at}
use Rattle.seq_machine.specs.declared.state.State.{State}
use Rattle.seq_machine.specs.declared.state.End.{End}
use Rattle.seq_machine.specs.Step.{steps_from}
use Rattle.seq_run.specs.First.{first_frames, first_state}
use Rattle.seq_run.specs.Outcomes.{global_bytes, outcome_of, outcome_of_run}
use Rattle.code_laws.specs.Coded.{module_code}
use Rattle.code_laws.specs.Runs.{module_state, variable_bytes, left_by, module_outcome}
use Rattle.code_laws.proofs.Functions.{code_same}
use Rattle.code_laws.proofs.Pictures.{picture_same}

-- the state in which a module starts is that of the module written out
pub state_same : (m : Items) → IsTable m.names → is_within m ≡ true → first_state m ≡ module_state (shown_module m)
state_same m is e =
    let code = code_same m is e in
    λ j. record { frames = first_frames (code j) (code j).main; memory = picture_same m e j; input_place = 0; output = []; steps = 0 }

bytes_left : (t : Table) (objects : List Object) (i : ℕ) (gs : List (Variable ℕ ℕ ℕ)) → global_bytes objects i gs ≡ variable_bytes objects i (map (shown_global t) gs)
bytes_left t objects i [] = refl
bytes_left t objects i (g ∷ gs) = ap (λ l. if g.constant then l else record { global = i; bytes = bytes_at i objects } ∷ l) (bytes_left t objects (i + 1) gs)

left_same : (m : Items) (r : End × State Picture) → outcome_of m r ≡ left_by (shown_module m) r
left_same m r = λ j. record { end = r.0; output = r.1.output; globals = bytes_left m.names r.1.memory.objects 0 m.globals j; steps = r.1.steps }

-- so is what a run leaves
pub outcome_same : (m : Items) (input : Text) (n : ℕ) → IsTable m.names → is_within m ≡ true → outcome_of_run m input n ≡ module_outcome (shown_module m) input n
outcome_same m input n is e =
    let code = code_same m is e in
    let state = state_same m is e in
    (λ j. outcome_of m (steps_from (code j) input (state j) n)) ∙ left_same m (steps_from (module_code (shown_module m)) input (module_state (shown_module m)) n)
