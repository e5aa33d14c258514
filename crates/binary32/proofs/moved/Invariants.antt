-- r is q halved as often as the counter has moved from e
use Rattle.std.proofs.Common.{◌≡◌, ◌-◌, ◌/◌, ◌^◌}
use Rattle.binary32.proofs.moved.Given as goal

abbrev pub invariant-loop : goal.invariant-loop
invariant-loop l = l.r ≡ l.fn.q / 2 ^ (l.counter - l.fn.e)
