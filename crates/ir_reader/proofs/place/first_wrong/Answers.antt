use Rattle.std.proofs.Common.{◌+◌, ◌-◌, ◌/◌, ap, sym, ◌∙◌, arith}
use Rattle.std.proofs.lemmas.List.{take-map}
use Rattle.ir_tree.proofs.Showing.{grows_then}
use Rattle.ir_instr.proofs.Kept.{types_kept}
use Rattle.ir_text.specs.Tokens.{tokens_of, token_of}
use Rattle.ir_grammar.specs.Texts.{wrong_among}
use Rattle.ir_reader.proofs.Faults.{stays_right, said_later}
use Rattle.ir_reader.proofs.Places.{search_falls, search_rises, search_ends}
use Rattle.ir_reader.proofs.place.first_wrong.Goals as goal

pub loop-least-preserved-in-Some : goal.loop-least-preserved-in-Some
loop-least-preserved-in-Some c = record {
  so_far = λ only known said here.
      let ts = tokens_of c.args.text.now c.args.tokens.now in
      let middle = c.loop-least.least + (c.loop-least.most - c.loop-least.least) / 2 in
      let now = said_later c.args.names.now c.loop-least.names c.args.named.now only known c.loop-least.invariant.grows said in
      search_falls (wrong_among only known) ts c.loop-least.least c.loop-least.most middle c.loop-least.found c.in-Some.fault (c.loop-least.invariant.so_far only known said here)
      (ap (wrong_among only known) (take-map (token_of c.args.text.now) middle c.args.tokens.now) ∙ sym (c.in_ok-fault.ensures.wrong only known now) ∙ c.in-Some.is);
  within = omega (arith, c.loop-least.invariant.within, c.loop-least-test.true);
  types = types_kept _ _ c.args.named.now.known c.loop-least.invariant.types c.in_ok-fault.ensures.grows;
  grows = grows_then _ _ _ c.loop-least.invariant.grows c.in_ok-fault.ensures.grows;
}

pub loop-least-preserved : goal.loop-least-preserved
loop-least-preserved c = record {
  so_far = λ only known said here.
      let ts = tokens_of c.args.text.now c.args.tokens.now in
      let middle = c.loop-least.least + (c.loop-least.most - c.loop-least.least) / 2 in
      let now = said_later c.args.names.now c.loop-least.names c.args.named.now only known c.loop-least.invariant.grows said in
      search_rises (wrong_among only known) (stays_right only known) ts c.loop-least.least c.loop-least.most middle c.loop-least.found (c.loop-least.invariant.so_far only known said here)
      (ap (wrong_among only known) (take-map (token_of c.args.text.now) middle c.args.tokens.now) ∙ sym (c.in_ok-fault.ensures.wrong only known now) ∙ c.in-None.is);
  within = c.loop-least.invariant.within;
  types = types_kept _ _ c.args.named.now.known c.loop-least.invariant.types c.in_ok-fault.ensures.grows;
  grows = grows_then _ _ _ c.loop-least.invariant.grows c.in_ok-fault.ensures.grows;
}

pub returns : goal.returns
returns c = λ only known said here.
    search_ends (wrong_among only known) (tokens_of c.args.text.now c.args.tokens.now) c.loop-least.least c.loop-least.most c.loop-least.found c.loop-least-test.false (c.loop-least.invariant.so_far only known said here)
