use Rattle.std.proofs.Common.{◌≡◌, true, false}
use Rattle.profile_reader.specs.Grammar.{saying}
use Rattle.profile_reader.specs.Standing.{lines_said}
use Rattle.profile_reader.proofs.AddLemmas.{add_repeats, from_not_true, from_not_false}
use Rattle.profile_reader.proofs.reader.Reader.add.Goals as goal

pub returns-then-not-new : goal.returns-then-not-new
returns-then-not-new c = λ version is_version.
    let fit : c.fits-fitting.result ≡ true = first_of (assumption c.if-not-fitting.false, search (from_not_false, c.if-not-fitting.false)) in
    let old : c.in_ok-new.new ≡ false = first_of (assumption c.if-not-new.true, search (from_not_true, c.if-not-new.true)) in
    add_repeats (saying version (lines_said c.args.self.now)) c.args.line c.args.last _ _ _ _ c.requires.stands.last c.rank-next.ensures c.fits-fitting.ensures fit c.in_ok-new.ensures.new old
