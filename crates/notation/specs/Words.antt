-- The words of a line: parted by blanks, up to the line's end or a `#`. Definitions only.
use Rattle.std.specs.Prelude.{ℕ, ◌+◌, ◌-◌, Bool, true, false, not, ◌||◌, List, eqb, length, take, drop}
use Rattle.std.specs.Prelude.{option_map, position, unwrap_or}
use Prim.Native.Char.{code}
use Rattle.notation.specs.declared.words.Span.{Span}

-- a space, a tab or a carriage return
abbrev pub blank : ℕ → Bool
blank b = eqb b (code " ") || (eqb b (code "\t") || eqb b (code "\r"))

-- inside a word a search is for its end, a blank or a `#`; outside for a start, anything but a blank
abbrev pub stops : Bool → ℕ → Bool
stops true b = blank b || eqb b (code "#")
stops false b = not (blank b)

-- the first place from `at` on where a search stops, or the line's end
unfoldable pub seek_of : Bool → List ℕ → ℕ → ℕ
seek_of inside line at = unwrap_or (option_map (λ n. at + n) (position (stops inside) (drop at line))) (length line)

-- the next word from a place on: it has no byte where the line has ended or a `#` stands
unfoldable pub next_of : List ℕ → ℕ → Span
next_of line at = let start = seek_of false line at in record { start = start; end = seek_of true line start }

-- a part's bytes
abbrev pub part : List ℕ → Span → List ℕ
part line s = take (s.end - s.start) (drop s.start line)

-- whether a part has no byte
abbrev pub none : Span → Bool
none s = eqb s.start s.end
