-- What was counted, with what is left, is the whole, and an address and four bytes are the most for each.
use Rattle.std.proofs.Common.{◌≡◌, ◌+◌, ◌*◌, ◌≤◌, length}
use Rattle.std.specs.Iterator.Adapters.{zip_first}
use Rattle.std.specs.Slice.Iter.{iter_rest}
use Rattle.stream.specs.Encoder.{pairs, more, sizes_of}
use Rattle.stream.proofs.Rest.{rest}
use Rattle.stream.proofs.measure.Given as goal

abbrev pub invariant-loop-address : goal.invariant-loop-address
invariant-loop-address l = record {
  counted : more l.bytes (sizes_of (rest l.address-iterator)) ≡ sizes_of (pairs l.count l.addresses l.values);
  small : l.bytes + 5 * length (iter_rest (zip_first l.address-iterator)) ≤ 5 * length l.addresses;
}
