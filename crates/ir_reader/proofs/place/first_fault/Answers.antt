use Rattle.std.proofs.Common.{◌≡◌, [], Some, Err, ap, sym, ◌∙◌}
use Rattle.std.specs.Prelude.{unwrap_or}
use Rattle.ir_text.specs.Tokens.{tokens_of}
use Rattle.ir_grammar.specs.NamedTypes.{definitions, bodies_read}
use Rattle.ir_grammar.specs.Texts.{token_fault, wrong_among, first_wrong}
use Rattle.ir_reader.specs.Faulting.{at_token}
use Rattle.ir_reader.proofs.Faults.{met, item_first, body_first, item_wrong, both_wrong, ok_then}
use Rattle.ir_reader.proofs.place.first_fault.Goals as goal

pub returns-in-None : goal.returns-in-None
returns-in-None c = λ only known said read.
    let ts = tokens_of c.args.text.now c.args.tokens.now in
    item_first only known c.args.item ts read (met (bodies_read only (definitions ts)) ∙ ap at_token (sym (c.in_ok-body_fault.ensures only said.names)) ∙ sym c.at_token.ensures ∙ c.in-None.is)

pub returns-in-Ended : goal.returns-in-Ended
returns-in-Ended c = λ only known said read.
    let ts = tokens_of c.args.text.now c.args.tokens.now in
    let body : token_fault (bodies_read only (definitions ts)) ≡ Some c.in-Some.body = met (bodies_read only (definitions ts)) ∙ ap at_token (sym (c.in_ok-body_fault.ensures only said.names)) ∙ sym c.at_token.ensures ∙ c.in-Some.is in
    body_first only known c.in-Some.body ts (read ∙ ap Err c.in-Ended.is) body ∙ ap (unwrap_or (first_wrong (wrong_among only known) [] ts)) (sym c.in-Ended.is)

pub returns-in-At : goal.returns-in-At
returns-in-At c = λ only known said read.
    let ts = tokens_of c.args.text.now c.args.tokens.now in
    ok_then (λ fault. first_wrong (wrong_among only known) [] ts ≡ Some fault) (λ fault. fault ≡ unwrap_or (first_wrong (wrong_among only known) [] ts) c.args.item) c.first_wrong.result (λ fault is. both_wrong only known ts c.args.item fault is)
    (c.first_wrong.ensures only known said (item_wrong only known c.in-At.line c.in-At.cause ts (read ∙ ap Err c.in-At.is)))
