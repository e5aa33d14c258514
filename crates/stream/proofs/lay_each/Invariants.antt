-- What is left is good and fits, and laid over the bytes as they are gives what the whole gives, laid over the bytes as they came.
use Rattle.std.proofs.Common.{◌≡◌, ◌+◌, ◌≤◌, length, Ok}
use Rattle.registers.specs.Bytes.{laid}
use Rattle.stream.specs.Streams.{encode}
use Rattle.stream.specs.Encoder.{pairs, sizes_of}
use Rattle.stream.proofs.Rest.{rest}
use Rattle.stream.proofs.lay_each.Given as goal

abbrev pub invariant-loop-address : goal.invariant-loop-address
invariant-loop-address l =
    let left = rest l.address-iterator in record {
      long : length l.bytes ≡ length l.fn.bytes;
      good : sizes_of left ≡ Ok (length (encode left));
      room : l.at + length (encode left) ≤ length l.bytes;
      laid : laid l.bytes l.at (encode left) ≡ laid l.fn.bytes 0 (encode (pairs l.count l.addresses l.values));
    }
