use Rattle.std.proofs.Common.{◌++◌, List, Option, map, ap, ◌∙◌}
use Rattle.std.proofs.lemmas.List.Elements.{All-push}
use Rattle.pv_base.specs.declared.name.Name.{Name}
use Rattle.ir_lex.specs.Lexing.{TokenIn}
use Rattle.ir_tree.specs.Trees.{TypeV}
use Rattle.ir_tree.proofs.Showing.{grows_then}
use Rattle.ir_text.specs.Named.{known_of}
use Rattle.ir_text.specs.Tokens.{tokens_of}
use Rattle.ir_reader.specs.Knowing.{shown_defined, IsDefined}
use Rattle.ir_reader.proofs.Fronts.{no_token, tokens_front, behind_in, none_left}
use Rattle.ir_reader.proofs.Knowing.{definition_is, no_definition, body_here, body_later_on, all_read, all_kept}
use Rattle.ir_reader.proofs.named.defined_types.Goals as goal

pub loop-rest-preserved-in_ok-push-in-Some : goal.loop-rest-preserved-in_ok-push-in-Some
loop-rest-preserved-in_ok-push-in-Some c = record {
  so_far = λ later grows.
      let before = grows_then c.loop-rest.names c.defined_type.new.names later c.in_ok-read-in-Some.ensures.grows grows in
      body_here later (known_of later c.args.known.now) (tokens_of c.args.text.now c.loop-rest.rest.now) _ _ c.in-Some.name c.defined_name.new.cursor c.loop-rest.found c.push.new.self c.in_ok-read-in-Some.read _ c.in_ok-push-in-Some.ensures.ok
      (tokens_front c.args.text.now c.loop-rest.rest.now no_token c.in-len1-up.len_at_least)
      (definition_is _ c.new-cursor.result c.defined_name.new.cursor c.in_ok-name.field-0 c.in-Some.name c.new-cursor.ensures c.in_ok-name.ensures c.in-Some.is) (c.in_ok-read-in-Some.ensures.shows later grows) (c.loop-rest.invariant.so_far later before);
  are = rw c.in_ok-push-in-Some.ensures.ok (All-push (IsDefined c.defined_type.new.names) c.loop-rest.found c.in_ok-read-in-Some.read (all_kept c.loop-rest.names c.defined_type.new.names c.loop-rest.found c.in_ok-read-in-Some.ensures.grows c.loop-rest.invariant.are) c.in_ok-read-in-Some.ensures.is);
  rest = behind_in (TokenIn c.args.text.now) c.loop-rest.rest.now c.loop-rest.invariant.rest;
  grows = grows_then c.args.names.now c.loop-rest.names c.defined_type.new.names c.loop-rest.invariant.grows c.in_ok-read-in-Some.ensures.grows;
}

pub loop-rest-preserved : goal.loop-rest-preserved
loop-rest-preserved c = record {
  so_far = λ later grows.
      ap (λ (xs : List (Name × Option TypeV)). map (shown_defined later) c.loop-rest.found ++ xs)
      (body_later_on (known_of later c.args.known.now) (tokens_of c.args.text.now c.loop-rest.rest.now) _ _ (tokens_front c.args.text.now c.loop-rest.rest.now no_token c.in-len1-up.len_at_least)
      (no_definition _ c.new-cursor.result c.defined_name.new.cursor c.in_ok-name.field-0 c.new-cursor.ensures c.in_ok-name.ensures c.in-None.is))
      ∙ c.loop-rest.invariant.so_far later grows;
  are = c.loop-rest.invariant.are;
  rest = behind_in (TokenIn c.args.text.now) c.loop-rest.rest.now c.loop-rest.invariant.rest;
  grows = c.loop-rest.invariant.grows;
}

pub returns-clause-shows : goal.returns-clause-shows
returns-clause-shows c = λ later grows.
    all_read (known_of later c.args.known.now) (tokens_of c.args.text.now c.loop-rest.rest.now) _ _ (ap (tokens_of c.args.text.now) (none_left c.loop-rest.rest.now c.in_default.len_below)) (c.loop-rest.invariant.so_far later grows)
