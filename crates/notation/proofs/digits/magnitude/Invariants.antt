use Rattle.std.proofs.Common.{◌≡◌, drop}
use Rattle.notation.specs.Numbers.{scan_of}
use Rattle.notation.proofs.digits.magnitude.Given as goal

-- what is left, behind the value so far, is what the whole is
abbrev pub invariant-loop-b : goal.invariant-loop-b
invariant-loop-b l = scan_of l.base l.value (drop l.b-index l.text) ≡ scan_of l.base 0 l.text
