use Rattle.std.proofs.Common.{length, ◌-◌}
use Rattle.bus.specs.Sequence.{Ran}
use Rattle.bus.proofs.run.Given as goal

abbrev pub invariant-loop-action : goal.invariant-loop-action
invariant-loop-action g l =
    let q = g.S.Sequence in
    let R = Ran q.plan g.B.Bus.gives in
    (result : _) (left : _) (end : _) → R l.sequence l.bus result left end → R l.initial.sequence l.initial.bus result left end

abbrev pub decreases-loop-action : goal.decreases-loop-action
decreases-loop-action g l = length (g.S.Sequence.plan.table l.sequence) - g.S.Sequence.plan.step l.sequence
