use Rattle.std.proofs.Common.{◌≡◌, sym, ◌∙◌, take, rules}
use Rattle.script.specs.Meaning.{meaning}
use Rattle.script.proofs.Plays.{accepted, played}
use Rattle.script.proofs.play.play.Goals as goal

pub returns-clause-judged : goal.returns-clause-judged
returns-clause-judged c = c.feed.ensures.judged ∙ rw c.run.ensures (accepted _ _ _ _ _ (sym c.new.ensures ∙ c.in_ok-fresh.was) c.if-image-lt-WORDS.false c.if-steps-count.false)

pub returns-clause-played : goal.returns-clause-played
returns-clause-played c =
    let means : c.feed.new.image ≡ meaning c.args.mode (take c.args.count c.args.steps.now) c.args.image.now =
    c.feed.ensures.fed ∙ rw c.run.ensures (played c.args.mode c.args.count c.args.steps.now c.args.image.now _ (sym c.new.ensures ∙ c.in_ok-fresh.was) c.if-image-lt-WORDS.false) in
    search rules
