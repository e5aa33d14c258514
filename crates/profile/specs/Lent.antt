-- For the code's own contracts: a serializer whose length and bytes are lent, and what laying them goes through. Definitions only.
use Rattle.std.specs.Prelude.{ℕ, ◌+◌, ◌-◌, ◌*◌, ◌≡◌, List, length, drop}
use Rattle.registers.specs.Bytes.{laid}
use Rattle.profile.specs.declared.ProfileSerializer.{ProfileSerializer}
use Rattle.profile.specs.Serializer.{words_of}

abbrev pub held : ℕ → ℕ → List ℕ → ProfileSerializer
held mode length bytes = record { mode = mode; length = length; bytes = bytes }

-- a list laid over bytes from a place on, and the place behind it
pub record Puts (bytes : List ℕ) (at : ℕ) (s : List ℕ) (next : ℕ) (bytes' : List ℕ) : Type 0 where
  pub place : next ≡ at + length s
  pub after : bytes' ≡ laid bytes at s

-- of n words those from i on, laid over the buffer
abbrev pub left_of : ℕ → ℕ → List ℕ → List ℕ → List ℕ
left_of n i words bytes = laid words i (words_of (n - i) (drop (i * 4) bytes))
