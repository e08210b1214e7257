use Rattle.std.proofs.Common.{sym, ◌∙◌}
use Rattle.profile_reader.proofs.OpenLemmas.{order_stays, no_period_yet, loop_ends}
use Rattle.profile_reader.proofs.reader.Reader.keep.Goals as goal

pub returns-then-next-eq-END-clause-lines : goal.returns-then-next-eq-END-clause-lines
returns-then-next-eq-END-clause-lines c =
    rw (c.in_ok-push.ensures.ok, c.take.ensures.after, ← c.in-Some.ensures.value) (
    loop_ends c.args.self.now.loops c.in-Some.current c.args.line (sym c.requires.rank ∙ c.if-next-eq-END.true)
    )

pub put-requires-clause-order : goal.put-requires-clause-order
put-requires-clause-order c =
    let opened = rw (← c.in-Some.ensures.value) at c.requires.opened in
    rw (← c.requires.rank) (order_stays c.in-Some.current c.args.self.now.last c.args.next c.requires.follows opened.0 opened.1)

pub put-requires-clause-period : goal.put-requires-clause-period
put-requires-clause-period c =
    let opened = rw (← c.in-Some.ensures.value) at c.requires.opened in
    λ is. no_period_yet c.in-Some.current c.args.self.now.last c.args.next c.requires.follows opened.0 opened.1 (c.requires.rank ∙ is)
