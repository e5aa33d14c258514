-- The writes so far and those that are left are all.
use Rattle.std.proofs.Common.{◌≡◌, ◌+◌, ◌≤◌, length}
use Rattle.stream.specs.Decoder.{all_of, count_of, decode_of}
use Rattle.stream.specs.Left.{items_left}
use Rattle.stream.specs.Encoder.{more}
use Rattle.stream.proofs.scan.Given as goal

abbrev pub invariant-loop-write : goal.invariant-loop-write
invariant-loop-write l = record {
  counted : more l.seen (count_of (all_of (items_left l.write-iterator))) ≡ count_of (decode_of l.bytes);
  spare : l.seen + length (items_left l.write-iterator) ≤ length l.bytes;
}
