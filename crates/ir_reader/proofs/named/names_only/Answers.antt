use Rattle.std.proofs.Common.{◌∙◌, ap}
use Rattle.std.specs.Option.{option_or}
use Rattle.ir_lex.specs.Lexing.{TokenIn}
use Rattle.ir_text.specs.Named.{body_in}
use Rattle.ir_text.specs.Tokens.{tokens_of}
use Rattle.ir_reader.proofs.Fronts.{no_token, tokens_front, behind_in, none_left}
use Rattle.ir_reader.proofs.Knowing.{definition_is, no_definition, said_here, said_later_on, names_known}
use Rattle.ir_reader.proofs.named.names_only.Goals as goal

pub loop-rest-preserved-in_ok-insert_first-in-Some : goal.loop-rest-preserved-in_ok-insert_first-in-Some
loop-rest-preserved-in_ok-insert_first-in-Some c = record {
  so_far = λ q.
      said_here (tokens_of c.args.text.now c.loop-rest.rest.now) _ _ c.in-Some.name c.defined_name.new.cursor c.loop-rest.known c.insert_first.new.known (tokens_front c.args.text.now c.loop-rest.rest.now no_token c.in-len1-up.len_at_least)
      (definition_is _ c.new-cursor.result c.defined_name.new.cursor c.in_ok-name.field-0 c.in-Some.name c.new-cursor.ensures c.in_ok-name.ensures c.in-Some.is) c.in_ok-insert_first-in-Some.ensures q
      ∙ c.loop-rest.invariant.so_far q;
  rest = behind_in (TokenIn c.args.text.now) c.loop-rest.rest.now c.loop-rest.invariant.rest;
}

pub loop-rest-preserved : goal.loop-rest-preserved
loop-rest-preserved c = record {
  so_far = λ q.
      ap (option_or (body_in c.loop-rest.known q))
      (said_later_on (tokens_of c.args.text.now c.loop-rest.rest.now) _ _ (tokens_front c.args.text.now c.loop-rest.rest.now no_token c.in-len1-up.len_at_least)
      (no_definition _ c.new-cursor.result c.defined_name.new.cursor c.in_ok-name.field-0 c.new-cursor.ensures c.in_ok-name.ensures c.in-None.is) q)
      ∙ c.loop-rest.invariant.so_far q;
  rest = behind_in (TokenIn c.args.text.now) c.loop-rest.rest.now c.loop-rest.invariant.rest;
}

pub returns : goal.returns
returns c = λ later. names_known later _ (tokens_of c.args.text.now c.loop-rest.rest.now) c.loop-rest.known (ap (tokens_of c.args.text.now) (none_left c.loop-rest.rest.now c.in_default.len_below)) c.loop-rest.invariant.so_far
