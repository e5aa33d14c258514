-- std's law of the two halves
use Rattle.std.proofs.Common.{lit≤}
use lib.Ieee.{binary32}
use Rattle.std.proofs.num.Nearest.{halves_masked, two_to_16}
use Rattle.binary32.proofs.nearest.Goals as goal

pub returns : goal.returns
returns c = halves_masked binary32 16 c.args.n _ two_to_16 (lit≤ tt) (lit≤ tt) c.ranges.n.fits
