use Rattle.std.proofs.Common.{slice_get, Ok}
use Rattle.seq_machine.specs.Acts.{types_of, function_at, taken, with_top}
use Rattle.seq_effects.specs.Values.{then_}
use Rattle.seq_machine.proofs.Kept.{top_some, if_there, kept_next, kept_put, kept_put_if, kept_keep, kept_edge, kept_enter, edge_acted, edge_stops}
use Rattle.seq_machine.proofs.acts.act.Goals as goal

pub take_edge-requires-clause-registers : goal.take_edge-requires-clause-registers
take_edge-requires-clause-registers c = λ f e. rw (c.requires.function f e) at ((c.requires.frames.each _ f e).registers)

pub put_if-requires-clause-to : goal.put_if-requires-clause-to
put_if-requires-clause-to c = λ f e.
    let h = rw c.in-Print.is at (c.requires.effect f e) in if_there f (types_of (function_at c.args.code.now f)) c.in-Print.to c.in-Print.value (c.requires.frames.each _ f e).registers h.1

pub put_if-requires-in-Take-clause-to : goal.put_if-requires-in-Take-clause-to
put_if-requires-in-Take-clause-to c = λ f e.
    let h = rw c.in-Take.is at (c.requires.effect f e) in if_there f (types_of (function_at c.args.code.now f)) c.in-Take.to c.in-Take.value (c.requires.frames.each _ f e).registers h.1

pub returns-in-Next-clause-kept : goal.returns-in-Next-clause-kept
returns-in-Next-clause-kept c =
    let t = top_some c.args.frames.now c.requires.frames.filled in
    rw (c.next.ensures t.0 t.1) (kept_next c.args.code.now c.args.frames.now t.0 c.requires.frames t.1 (rw c.in-Next.is at (c.requires.effect t.0 t.1)))

pub returns-in-Give-clause-kept : goal.returns-in-Give-clause-kept
returns-in-Give-clause-kept c =
    let t = top_some c.args.frames.now c.requires.frames.filled in
    let h = rw c.in-Give.is at (c.requires.effect t.0 t.1) in
    rw (c.put.ensures t.0 t.1) (kept_put c.args.code.now c.args.frames.now t.0 c.in-Give.to c.in-Give.value c.requires.frames t.1 h.0 h.1)

pub returns-in-Keep-clause-kept : goal.returns-in-Keep-clause-kept
returns-in-Keep-clause-kept c =
    let t = top_some c.args.frames.now c.requires.frames.filled in
    let h = rw c.in-Keep.is at (c.requires.effect t.0 t.1) in
    kept_keep c.args.code.now c.args.frames.now c.keep.new.frames t.0 c.in-Keep.to c.in-Keep.name c.keep.result c.requires.frames t.1 h.0 h.1 c.keep.ensures.kept c.keep.ensures.err

pub returns-in-Edge-clause-acted : goal.returns-in-Edge-clause-acted
returns-in-Edge-clause-acted c = λ f e.
    rw (c.in-Edge.is, c.going_on.ensures) (edge_acted (taken c.args.function.now f (slice_get c.args.function.now.edges c.in-Edge.edge)) c.args.frames.now c.take_edge.new.frames c.args.input_place.now c.args.output.now c.take_edge.result (c.take_edge.ensures.taken f e))

pub returns-in-Edge-clause-kept : goal.returns-in-Edge-clause-kept
returns-in-Edge-clause-kept c =
    let t = top_some c.args.frames.now c.requires.frames.filled in
    kept_edge c.args.code.now c.args.function.now c.args.frames.now c.take_edge.new.frames t.0 c.take_edge.result c.requires.frames t.1 (c.requires.function t.0 t.1) c.take_edge.ensures.stands c.take_edge.ensures.err

pub returns-in-Enter-clause-kept : goal.returns-in-Enter-clause-kept
returns-in-Enter-clause-kept c =
    let t = top_some c.args.frames.now c.requires.frames.filled in
    kept_enter c.args.code.now c.args.frames.now c.enter.new.frames t.0 c.in-Enter.callee c.in-Enter.registers _ _ c.enter.result c.requires.frames t.1 (rw c.in-Enter.is at (c.requires.effect t.0 t.1)) c.enter.ensures.entered c.enter.ensures.err

pub returns-in_ok-print-in-Print-clause-kept : goal.returns-in_ok-print-in-Print-clause-kept
returns-in_ok-print-in-Print-clause-kept c =
    let t = top_some c.args.frames.now c.requires.frames.filled in
    let h = rw c.in-Print.is at (c.requires.effect t.0 t.1) in
    rw (c.put_if.ensures t.0 t.1) (kept_put_if c.args.code.now c.args.frames.now t.0 c.in-Print.to c.in-Print.value c.requires.frames t.1 h.0 h.1)

pub returns-in-Take-clause-kept : goal.returns-in-Take-clause-kept
returns-in-Take-clause-kept c =
    let t = top_some c.args.frames.now c.requires.frames.filled in
    let h = rw c.in-Take.is at (c.requires.effect t.0 t.1) in
    rw (c.put_if-in-Take.ensures t.0 t.1) (kept_put_if c.args.code.now c.args.frames.now t.0 c.in-Take.to c.in-Take.value c.requires.frames t.1 h.0 h.1)

pub returns-in-Edge-clause-stops : goal.returns-in-Edge-clause-stops
returns-in-Edge-clause-stops c =
    let t = top_some c.args.frames.now c.requires.frames.filled in
    rw (c.in-Edge.is, c.going_on.ensures)
    (edge_stops (then_ (taken c.args.function.now t.0 (slice_get c.args.function.now.edges c.in-Edge.edge)) (λ f'. Ok (with_top c.args.frames.now f'))) c.take_edge.new.frames c.take_edge.result c.in-Edge.edge (c.take_edge.ensures.taken t.0 t.1))
