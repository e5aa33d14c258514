-- One step behind another. Definitions only.
use Rattle.std.specs.Prelude.{Result, Ok, Err}

-- what comes of a value, or why there is none
abbrev pub and_then : {A B E : Type 0} → Result A E → (A → Result B E) → Result B E
and_then (Ok a) f = f a
and_then (Err e) f = Err e
