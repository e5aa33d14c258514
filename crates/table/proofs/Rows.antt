-- The definitions give every row of the table, by computing them.
use mathlib.Core.Path.{refl}
use lib.Ieee.{of_bits, of_int, mul, div, le, lt, to_unsigned}
use Rattle.registers.specs.Registers.{width_of}
use Rattle.registers.specs.Bytes.{big_endian, laid}
use Rattle.stream.specs.Streams.{write_bytes, encode}
use Rattle.registers.specs.Fields.{field_of, with_field}
use Rattle.rules.specs.Rules.{push_judged, push_writes, finalize_judged, padding_writes}
use Rattle.profile.specs.Serializer.{push_of, finalized_of, words_of}
use Rattle.table.specs.Table.{table, Holds}

pub rows : Holds table
unfolding laid big_endian write_bytes encode of_bits of_int mul div le lt to_unsigned width_of field_of with_field push_judged push_writes finalize_judged padding_writes push_of finalized_of words_of
rows = (refl, (refl, (refl, (refl, (refl, (refl, (refl, (refl, (refl, (refl, (refl, (refl, (refl, (refl, (refl, (refl, (refl, (refl, (refl, tt)))))))))))))))))))
