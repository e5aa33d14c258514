use Rattle.std.proofs.Common.{sym, ◌∙◌, arith}
use Rattle.profile.proofs.Left.{done, whole}
use Rattle.profile.proofs.words.copy.Goals as goal

pub returns : goal.returns
returns c = sym (done _ c.args.bytes.now c.args.n 8 (omega arith)) ∙ c.four-2.ensures ∙ c.four.ensures ∙ whole _ _ _
