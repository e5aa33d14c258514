-- What is left to read, behind what was read, gives the whole, and a value of so many bytes is below 256 to that power.
use Rattle.std.proofs.Common.{◌≡◌, ◌^◌, ◌<◌, drop}
use Rattle.registers.specs.Bytes.{value_from, value_of}
use Rattle.registers.proofs.big_endian.value_of.Given as goal

abbrev pub invariant-loop-byte : goal.invariant-loop-byte
invariant-loop-byte l = record {
  small : l.value < 256 ^ l.byte-index;
  left : value_from l.value (drop l.byte-index l.bytes) ≡ value_of l.bytes;
}
