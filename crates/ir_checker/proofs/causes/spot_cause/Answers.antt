use Rattle.std.proofs.Common.{refl}
use Rattle.ir_checker.specs.Finding.{spot_cause}
use Rattle.ir_checker.proofs.causes.spot_cause.Goals as goal

pub returns-then-not-branch-4 : goal.returns-then-not-branch-4
unfolding spot_cause
returns-then-not-branch-4 c =
    let spares = rw c.names.ensures at c.in_ok-spares_entry.ensures in
    let fits = rw c.names-2.ensures at (c.in_ok-phi_fits.ensures c.args.standing.entry c.args.standing.last) in
    rw (
      ← c.in_ok-names_known.ensures,
      c.if-not-branch.false,
      ← c.in_ok-types_fit.ensures,
      c.if-not-branch-2.false,
      ← c.terminates.ensures c.args.tree.now.names,
      c.if-not-terminates.false,
      c.if-standing.false,
      ← spares,
      c.if-not-branch-3.false,
      ← fits,
      c.if-not-branch-4.true,
    ) refl

pub returns-then-not-alloca_fits : goal.returns-then-not-alloca_fits
unfolding spot_cause
returns-then-not-alloca_fits c =
    let spares = rw c.names.ensures at c.in_ok-spares_entry.ensures in
    let fits = rw c.names-2.ensures at (c.in_ok-phi_fits.ensures c.args.standing.entry c.args.standing.last) in
    rw (
      ← c.in_ok-names_known.ensures,
      c.if-not-branch.false,
      ← c.in_ok-types_fit.ensures,
      c.if-not-branch-2.false,
      ← c.terminates.ensures c.args.tree.now.names,
      c.if-not-terminates.false,
      c.if-standing.false,
      ← spares,
      c.if-not-branch-3.false,
      ← fits,
      c.if-not-branch-4.false,
      ← c.alloca_fits.ensures c.args.tree.now.names,
      c.if-not-alloca_fits.true,
    ) refl

pub returns-then-not-call_allowed : goal.returns-then-not-call_allowed
unfolding spot_cause
returns-then-not-call_allowed c =
    let spares = rw c.names.ensures at c.in_ok-spares_entry.ensures in
    let fits = rw c.names-2.ensures at (c.in_ok-phi_fits.ensures c.args.standing.entry c.args.standing.last) in
    rw (
      ← c.in_ok-names_known.ensures,
      c.if-not-branch.false,
      ← c.in_ok-types_fit.ensures,
      c.if-not-branch-2.false,
      ← c.terminates.ensures c.args.tree.now.names,
      c.if-not-terminates.false,
      c.if-standing.false,
      ← spares,
      c.if-not-branch-3.false,
      ← fits,
      c.if-not-branch-4.false,
      ← c.alloca_fits.ensures c.args.tree.now.names,
      c.if-not-alloca_fits.false,
      ← c.call_allowed.ensures,
      c.if-not-call_allowed.true,
    ) refl

pub returns : goal.returns
unfolding spot_cause
returns c =
    let spares = rw c.names.ensures at c.in_ok-spares_entry.ensures in
    let fits = rw c.names-2.ensures at (c.in_ok-phi_fits.ensures c.args.standing.entry c.args.standing.last) in
    rw (
      ← c.in_ok-names_known.ensures,
      c.if-not-branch.false,
      ← c.in_ok-types_fit.ensures,
      c.if-not-branch-2.false,
      ← c.terminates.ensures c.args.tree.now.names,
      c.if-not-terminates.false,
      c.if-standing.false,
      ← spares,
      c.if-not-branch-3.false,
      ← fits,
      c.if-not-branch-4.false,
      ← c.alloca_fits.ensures c.args.tree.now.names,
      c.if-not-alloca_fits.false,
      ← c.call_allowed.ensures,
      c.if-not-call_allowed.false,
    ) refl
