use Rattle.std.proofs.Common.{◌∙◌, ap, length}
use Rattle.std.proofs.lemmas.List.FromFn.{length-map-range_with_len}
use Rattle.ir_code.specs.Coding.{size_in}
use Rattle.ir_code.proofs.code.Code.new.Goals as goal

pub functions_of-requires-clause-sizes : goal.functions_of-requires-clause-sizes
functions_of-requires-clause-sizes c = ap (λ t. length t.sizes) c.in_ok-lookups.ensures ∙ length-map-range_with_len (size_in c.args.module.now) 0 (length c.args.module.now.names.types)

pub returns-clause-fits : goal.returns-clause-fits
returns-clause-fits c = c.in_ok-coded.ensures.fits
