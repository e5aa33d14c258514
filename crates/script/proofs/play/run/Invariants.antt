-- The steps that are left take the serializer where all of them do.
use Rattle.std.proofs.Common.{◌≡◌, drop}
use Rattle.script.specs.Runs.{run}
use Rattle.script.proofs.play.run.Given as goal

abbrev pub invariant-loop-step : goal.invariant-loop-step
invariant-loop-step l = run l.serializer (drop l.step-index l.steps) ≡ run l.fn.serializer l.steps
