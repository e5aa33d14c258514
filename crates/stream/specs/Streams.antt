-- The bytes of register writes. Definitions only.
use Rattle.std.specs.Prelude.{ℕ, ◌^◌, ◌<◌, List, [], ◌∷◌, ◌++◌}
use Rattle.registers.specs.Registers.{Write, width_of}
use Rattle.registers.specs.Bytes.{big_endian}

-- one write: its address, then its value at the register's width, high byte first
unfoldable pub write_bytes : Write → List ℕ
write_bytes w = w.address ∷ big_endian (width_of w.address) w.value

-- a stream: its writes one after the other
unfoldable pub encode : List Write → List ℕ
encode [] = []
encode (w ∷ ws) = write_bytes w ++ encode ws

-- writes that have an encoding of their own: each address is a register's, and it holds the value
abbrev pub Good : List Write → Type 0
Good [] = Unit {0}
Good (w ∷ ws) = (w.address < 25) × (w.value < 256 ^ width_of w.address) × Good ws
