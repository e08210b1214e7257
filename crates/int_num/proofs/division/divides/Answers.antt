use Rattle.std.proofs.Common.{◌-◌, ◌^◌, ◌≡◌, ◌∙◌, sym, not, ◌&&◌, eqb, arith}
use Rattle.std.proofs.lemmas.Bool.Decides.{nat_tests}
use Rattle.int_num.specs.Operations.{divides}
use Rattle.int_num.proofs.Quotients.{divides_by_bits, divides_fits}
use Rattle.int_num.proofs.division.divides.Goals as goal
use Rattle.int_num.proofs.division.divides.Goals.{then-bits-top, else-bits-top}

value : (c : goal.Joined-bits-top) → not c.if-bits-top.result ≡ divides c.args.a c.args.b
value c =
    let e : divides c.args.a c.args.b ≡ (not (eqb c.args.b.bits 0) && not (eqb c.args.a.bits (2 ^ (c.args.a.width - 1)) && eqb c.args.b.bits (2 ^ c.args.a.width - 1))) =
    divides_by_bits c.args.a c.args.b c.requires c.bits-then-bits-ne0.ensures.range c.bits.ensures.range in
    elim c.if-bits-top.branch [ then-bits-top w ↦ grind (arith, nat_tests) | else-bits-top w ↦ grind (arith, nat_tests) ]

pub returns-after-bits-top-clause-value : goal.returns-after-bits-top-clause-value
returns-after-bits-top-clause-value c = value c

pub returns-after-bits-top-clause-fits : goal.returns-after-bits-top-clause-fits
returns-after-bits-top-clause-fits c = λ t. divides_fits c.args.a c.args.b c.bits-then-bits-ne0.ensures.range c.bits.ensures.range (sym t ∙ value c)

pub returns-else-bits-ne0-clause-value : goal.returns-else-bits-ne0-clause-value
unfolding divides
returns-else-bits-ne0-clause-value c = grind (arith, nat_tests)
