-- What an iterator over a stream has left. Definitions only.
use Rattle.std.specs.Prelude.{List, Result}
use Rattle.registers.specs.declared.refusal.Refusal.{Refusal}
use Rattle.registers.specs.Registers.{Write}
use Rattle.stream.specs.declared.Writes.{Writes}
use Rattle.stream.specs.Decoder.{items_of}

abbrev pub items_left : Writes → List (Result Write Refusal)
items_left s = items_of s.bytes.now
