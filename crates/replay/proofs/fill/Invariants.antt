use Rattle.std.proofs.Common.{◌≤◌, length}
use Rattle.replay.proofs.fill.Given as goal

-- what has been read lies in the buffer
abbrev pub invariant-loop : goal.invariant-loop
invariant-loop g l = l.n ≤ length l.buffer
