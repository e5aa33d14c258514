use Rattle.std.proofs.Common.{◌≡◌, rules}
use Rattle.rules.specs.Rules.{word_of}
use Rattle.rules.proofs.Lengths.{word_held}
use Rattle.rules.proofs.judge.word.Goals as goal

pub returns-clause-held : goal.returns-clause-held
returns-clause-held c = let e : c.map.result ≡ word_of c.args.tuning = search rules in rw e (word_held c.args.tuning)
