use Rattle.std.proofs.Common.{ap, sym, ◌∙◌, Err}
use Rattle.ir_lex.specs.Lexing.{TokenIn}
use Rattle.ir_text.specs.Named.{known_of}
use Rattle.ir_text.specs.Tokens.{tokens_of}
use Rattle.ir_instr.proofs.Kept.{same_table}
use Rattle.ir_reader.specs.Knowing.{fault_in}
use Rattle.ir_reader.proofs.Fronts.{no_token, tokens_front, behind_in, none_left}
use Rattle.ir_reader.proofs.Knowing.{definition_is, no_definition, sound_here, faulty_here, sound_later_on, all_sound, read_among}
use Rattle.ir_reader.proofs.named.body_fault.Goals as goal
use Rattle.ir_reader.proofs.named.body_fault.Goals.{in-Some+in-Ok, in-None}

pub returns-in-Err-Bad : goal.returns-in-Err-Bad
returns-in-Err-Bad c = λ all same.
    let names = c.named_body.new.names in
    let front = tokens_front c.args.text.now c.loop-rest.rest.now no_token c.in-len1-up.len_at_least in
    let at = definition_is _ c.new-cursor.result c.defined_name.new.cursor c.in_ok-defined_name.field-0 c.in-Some.field-0 c.new-cursor.ensures c.in_ok-defined_name.ensures c.in-Some.is in
    let read = read_among (known_of names c.args.known.now) all c.defined_name.new.cursor (Err c.in-Err-Bad.fault) (same names) (rw c.in-Err-Bad.field-0-is at c.in-Err-Bad.ensures.reads names (same_table names)) in
    rw c.in-Err-Bad.fault-is (sym (ap fault_in (sym (c.loop-rest.invariant.so_far all same)) ∙ faulty_here all (tokens_of c.args.text.now c.loop-rest.rest.now) _ _ c.in-Some.field-0 c.defined_name.new.cursor c.in-Err-Bad.fault front at read))

pub loop-rest-preserved : goal.loop-rest-preserved
loop-rest-preserved c = record {
  so_far = λ all same.
      let front = tokens_front c.args.text.now c.loop-rest.rest.now no_token c.in-len1-up.len_at_least in
      elim c.match-branch-2.branch [
        | in-Some+in-Ok w ↦
            let names = w.named_body.new.names in
            let at = definition_is _ c.new-cursor.result c.defined_name.new.cursor c.in_ok-defined_name.field-0 w.in-Some.field-0 c.new-cursor.ensures c.in_ok-defined_name.ensures w.in-Some.is in
            let read = read_among (known_of names c.args.known.now) all c.defined_name.new.cursor _ (same names) (w.in-Ok.ensures.reads names (same_table names)) in
            sound_here all (tokens_of c.args.text.now c.loop-rest.rest.now) _ _ w.in-Some.field-0 c.defined_name.new.cursor _ front at read ∙ c.loop-rest.invariant.so_far all same
        | in-None w ↦
            sound_later_on all (tokens_of c.args.text.now c.loop-rest.rest.now) _ _ front
            (no_definition _ c.new-cursor.result c.defined_name.new.cursor c.in_ok-defined_name.field-0 c.new-cursor.ensures c.in_ok-defined_name.ensures w.in-None.is)
            ∙ c.loop-rest.invariant.so_far all same
      ];
  rest = behind_in (TokenIn c.args.text.now) c.loop-rest.rest.now c.loop-rest.invariant.rest;
}

pub returns : goal.returns
returns c = λ all same.
    sym (ap fault_in (sym (c.loop-rest.invariant.so_far all same)) ∙ all_sound all (tokens_of c.args.text.now c.loop-rest.rest.now) (ap (tokens_of c.args.text.now) (none_left c.loop-rest.rest.now c.in_default.len_below)))
