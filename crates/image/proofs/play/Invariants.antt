-- What is left, applied to the image as it is, gives the whole, applied to the image as it came.
use Rattle.std.proofs.Common.{◌≡◌, length}
use Rattle.stream.specs.Decoder.{taken, writes_of}
use Rattle.stream.specs.Left.{items_left}
use Rattle.image.specs.Image.{apply}
use Rattle.image.proofs.play.Given as goal

abbrev pub invariant-loop-next : goal.invariant-loop-next
invariant-loop-next l = record {
  applied : apply (taken (items_left l.next-iterator)) l.image ≡ apply (writes_of l.bytes) l.fn.image;
  long : length l.image ≡ length l.fn.image;
}
