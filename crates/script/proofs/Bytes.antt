-- Bytes stay bytes.
--     zeros         so many zeros
--     all_laid      bytes laid over bytes
--     all_encoded   the encoding of good writes
use mathlib.Core.List.{List, [], ◌∷◌, ◌++◌}
use Prim.Native.Nat.{ℕ, zero, suc, ◌+◌, ◌/◌, ◌%◌}
use native.Mathlib.Omega.{arith}
use lib.ListN.{length, take, drop, replicate}
use Rattle.registers.specs.Registers.{Write, width_of}
use Rattle.registers.specs.Bytes.{big_endian, laid}
use Rattle.registers.proofs.Bytes.{AllBytes}
use Rattle.stream.specs.Streams.{write_bytes, encode, Good}

pub zeros : (n : ℕ) → AllBytes (replicate n 0)
zeros zero = tt
zeros (suc n) = (omega arith, zeros n)

all_append : (xs ys : List ℕ) → AllBytes xs → AllBytes ys → AllBytes (xs ++ ys)
all_append [] ys p q = q
all_append (x ∷ xs) ys p q = (p.0, all_append xs ys p.1 q)

all_take : (n : ℕ) (bs : List ℕ) → AllBytes bs → AllBytes (take n bs)
all_take zero bs p = tt
all_take (suc n) [] p = tt
all_take (suc n) (b ∷ bs) p = (p.0, all_take n bs p.1)

all_drop : (n : ℕ) (bs : List ℕ) → AllBytes bs → AllBytes (drop n bs)
all_drop zero bs p = p
all_drop (suc n) [] p = tt
all_drop (suc n) (b ∷ bs) p = all_drop n bs p.1

pub all_laid : (d : List ℕ) (at : ℕ) (s : List ℕ) → AllBytes d → AllBytes s → AllBytes (laid d at s)
unfolding laid
all_laid d at s p q = all_append (take at d ++ s) (drop (at + length s) d) (all_append (take at d) s (all_take at d p) q) (all_drop (at + length s) d p)

all_value : (w v : ℕ) → AllBytes (big_endian w v)
unfolding big_endian
all_value zero v = tt
all_value (suc w) v = all_append (big_endian w (v / 256)) ((v % 256) ∷ []) (all_value w (v / 256)) (omega arith, tt)

pub all_encoded : (ws : List Write) → Good ws → AllBytes (encode ws)
unfolding encode write_bytes
all_encoded [] g = tt
all_encoded (w ∷ ws) g = all_append (write_bytes w) (encode ws) (omega (arith, g.0), all_value (width_of w.address) w.value) (all_encoded ws g.2)
