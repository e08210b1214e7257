use Rattle.std.proofs.Common.{sym, ◌∙◌}
use Rattle.ir_lex.specs.Lexing.{TokenIn}
use Rattle.ir_reader.proofs.Fronts.{no_token, front_is, behind_in, first_in, none_left}
use Rattle.ir_reader.proofs.Lines.{kept_step, kept_end, kept_all}
use Rattle.ir_reader.proofs.records.without_records.Goals as goal

pub loop-rest-preserved : goal.loop-rest-preserved
loop-rest-preserved c = record {
  so_far =
      kept_step c.args.text.now c.loop-rest.line c.loop-rest.passed c.is_over-passed.result _ c.loop-rest.rest.now _ c.loop-rest.kept c.keep.new.kept (front_is c.loop-rest.rest.now no_token c.in-len1-up.len_at_least) c.is_over-passed.ensures c.in_ok-keep.ensures
      ∙ c.loop-rest.invariant.so_far;
  rest = behind_in (TokenIn c.args.text.now) c.loop-rest.rest.now c.loop-rest.invariant.rest;
  kept = kept_all (TokenIn c.args.text.now) c.is_over-passed.result c.loop-rest.kept c.keep.new.kept _ c.in_ok-keep.ensures c.loop-rest.invariant.kept (first_in (TokenIn c.args.text.now) c.loop-rest.rest.now no_token c.in-len1-up.len_at_least c.loop-rest.invariant.rest);
}

pub returns-clause-kept : goal.returns-clause-kept
returns-clause-kept c = sym (kept_end c.args.text.now c.loop-rest.line c.loop-rest.passed c.loop-rest.rest.now c.loop-rest.kept (none_left c.loop-rest.rest.now c.in_default.len_below)) ∙ c.loop-rest.invariant.so_far
