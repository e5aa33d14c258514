use Rattle.std.proofs.Common.{◌≡◌, ◌-◌}
use Rattle.notation.specs.Lines.{fields_of}
use Rattle.notation.proofs.fields.Given as goal

-- the looks that are left find what all four do
abbrev pub invariant-loop : goal.invariant-loop
invariant-loop l = (fields_of (4 - l.counter) l.words.line.now l.push l.words.at ≡ fields_of 4 l.fn.words.line.now l.fn.push l.fn.words.at) × (l.words.line.now ≡ l.fn.words.line.now)
