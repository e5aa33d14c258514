-- What is left, laid behind what is there, gives the whole.
use Rattle.std.proofs.Common.{◌≡◌, ◌+◌, ◌≤◌, length, map}
use Rattle.std.specs.Iterator.Adapters.{enumerate_source, enumerate_count}
use Rattle.registers.specs.Bytes.{laid}
use Rattle.stream.specs.Decoder.{taken, writes_of, address_of, value_in}
use Rattle.stream.specs.Left.{items_left}
use Rattle.stream.proofs.fill.Given as goal

abbrev pub invariant-loop-place : goal.invariant-loop-place
invariant-loop-place l =
    let left = items_left (enumerate_source l.place-iterator) in
    let i = enumerate_count l.place-iterator in record {
      can : (goal.iterator-loop-place).can_next l.place-iterator;
      ends : (goal.iterator-loop-place).is_finite l.place-iterator;
      addresses : laid l.addresses i (map address_of (taken left)) ≡ laid l.fn.addresses 0 (map address_of (writes_of l.bytes));
      values : laid l.values i (map value_in (taken left)) ≡ laid l.fn.values 0 (map value_in (writes_of l.bytes));
      room : i + length left ≤ length l.addresses;
      space : i + length left ≤ length l.values;
    }
