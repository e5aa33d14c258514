-- The bytes are stored from the last to the first; what is left, laid over the bytes as they are, gives the whole laid over the bytes as they came.
use Rattle.std.proofs.Common.{◌≡◌, length}
use Rattle.registers.specs.Bytes.{big_endian, laid}
use Rattle.registers.proofs.big_endian.lay.Given as goal

abbrev pub invariant-loop-i : goal.invariant-loop-i
invariant-loop-i l = record {
  long : length l.bytes ≡ length l.fn.bytes;
  left : laid l.bytes l.at (big_endian l.i l.rest) ≡ laid l.fn.bytes l.at (big_endian l.width l.value);
}
