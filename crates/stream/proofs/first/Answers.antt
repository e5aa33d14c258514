use Rattle.std.proofs.Common.{rules}
use Rattle.std.proofs.lemmas.Result.{err_from_is_err_and}
use Rattle.stream.proofs.Steps.{first_short}
use Rattle.stream.proofs.first.Goals as goal

pub returns-in_err-value : goal.returns-in_err-value
returns-in_err-value c =
    let p = err_from_is_err_and c.from_residual.result c.from_residual.ensures.1 in
    rw (p.1, p.2) (first_short c.args.bytes.now c.in-Some.address c.in-Some.rest.now c.in_err-value.field-0.0 (search rules) (search rules) (search rules))
