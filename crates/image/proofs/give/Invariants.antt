-- The channels below have been given the value.
use Rattle.std.proofs.Common.{◌≡◌, length}
use Rattle.image.specs.Image.{give_to}
use Rattle.image.proofs.give.Given as goal

abbrev pub invariant-loop-channel : goal.invariant-loop-channel
invariant-loop-channel l = record {
  given : l.image ≡ give_to l.channel l.mask l.a l.value l.fn.image;
  long : length l.image ≡ length l.fn.image;
}
