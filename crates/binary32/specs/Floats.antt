-- Short names for IEEE 754's binary32 operations, as std defines them. Definitions only.
use Rattle.std.specs.Prelude.{ℕ, Bool, ◌&&◌, pos, Float}
use Rattle.std.specs.Float.{binary32}
use Rattle.std.specs.Float.Ieee.{of_int, mul, div, le}

-- the float nearest to a whole number
abbrev pub whole : ℕ → Float
whole n = of_int binary32 (pos n)

infixl 40 ◌times◌ ◌over◌
-- a product and a quotient, each rounded once
abbrev pub ◌times◌ : Float → Float → Float
x times y = mul binary32 x y

abbrev pub ◌over◌ : Float → Float → Float
x over y = div binary32 x y

-- lo..=hi holds x: false at a NaN
abbrev pub within : Float → Float → Float → Bool
within lo x hi = le lo x && le x hi
