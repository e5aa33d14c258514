-- The bytes of writes.
--     length_write   one byte more than the register's width
--     encode_one, encode_append   streams one after the other
--     size_cons      what a write adds to a stream's length
use mathlib.Core.Path.{◌≡◌, refl, ap}
use mathlib.Core.List.{List, [], ◌∷◌, ◌++◌, append-nil, append_assoc}
use Prim.Native.Nat.{suc, ◌+◌}
use lib.ListN.{length, length-append}
use Rattle.registers.specs.Registers.{Write, width_of}
use Rattle.registers.proofs.Bytes.{length_big_endian}
use Rattle.stream.specs.Streams.{write_bytes, encode}

pub length_write : (w : Write) → length (write_bytes w) ≡ suc (width_of w.address)
unfolding write_bytes
length_write w = ap suc (length_big_endian (width_of w.address) w.value)

pub encode_one : (w : Write) → encode (w ∷ []) ≡ write_bytes w
unfolding encode
encode_one w = append-nil (write_bytes w)

pub encode_append : (a b : List Write) → encode (a ++ b) ≡ encode a ++ encode b
unfolding encode
encode_append [] b = refl
encode_append (w ∷ a) b = rw (encode_append a b, append_assoc)

pub size_cons : (w : Write) (ws : List Write) → length (encode (w ∷ ws)) ≡ suc (width_of w.address) + length (encode ws)
unfolding encode
size_cons w ws = rw (length-append, length_write)
