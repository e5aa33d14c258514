-- Four looks at a push's fields are enough: more of them find nothing else.
--     fewer    a field that is taken is one that was free
--     enough   so a fourth look finds the end or a fault
use Rattle.std.proofs.Common.{ℕ, zero, suc, ◌+◌, ◌≤◌, ◌<◌, ◌≡◌, refl, ap, false, cond, List, Option, Some, None, Result, Ok, Err, arith}
use Rattle.std.specs.Option.{is_some}
use Rattle.registers.proofs.Choice.{by}
use Rattle.rules.specs.declared.Push.{Push}
use Rattle.notation.specs.Results.{and_then}
use Rattle.notation.specs.Words.{next_of, part, none}
use Rattle.notation.specs.Lines.{value_of, named_of, takes_sign, has_of, with_of, add_by, add_of, fields_of, bare}
use Rattle.notation.specs.declared.words.Span.{Span}
use Rattle.notation.specs.declared.Fault.{Fault}
use Rattle.notation.specs.declared.Field.{Field}
use Rattle.notation.specs.declared.Field.TheVariants.{Word, Phase, Acr}

-- how many fields a push has not
abbrev pub free : Push → ℕ
free p = cond (is_some p.word) 0 1 + cond (is_some p.phase) 0 1 + cond (is_some p.acr) 0 1

abbrev pub Fewer : Push → Result (Push × ℕ) Fault → Type 0
Fewer p (Ok m) = suc (free m.0) ≡ free p
Fewer p (Err f) = Unit {0}

with_fewer : (p : Push) (f : Field) (v : ℕ) → has_of p f ≡ false → suc (free (with_of p f v)) ≡ free p
with_fewer p Word v h = rw h (omega arith)
with_fewer p Phase v h = rw h (omega arith)
with_fewer p Acr v h = rw h (omega arith)

taken_fewer : (p : Push) (f : Field) (g : Result (ℕ × ℕ) Fault) → has_of p f ≡ false → Fewer p (and_then g (λ v. Ok (with_of p f v.0, v.1)))
taken_fewer p f (Ok v) h = with_fewer p f v.0 h
taken_fewer p f (Err x) h = tt

add_fewer : (l : List ℕ) (p : Push) (s : Span) (x : Option Field) → Fewer p (add_by l p s x)
add_fewer l p s (Some f) = by (Fewer p) (has_of p f) (λ _. tt) (taken_fewer p f (value_of l s.end (takes_sign f)))
add_fewer l p s None = tt

pub fewer : (l : List ℕ) (p : Push) (s : Span) → Fewer p (add_of l p s)
unfolding add_of
fewer l p s = add_fewer l p s (named_of (part l s))

module _ (n : ℕ) (l : List ℕ) where
  -- what a look found leads to the same
  leads : (k : ℕ) (p : Push) (t : Result (Push × ℕ) Fault) → ((q : Push) (at : ℕ) → free q < k → fields_of (k + n) l q at ≡ fields_of k l q at) → Fewer p t → free p ≤ k → and_then t (λ m. fields_of (k + n) l m.0 m.1) ≡ and_then t (λ m. fields_of k l m.0 m.1)
  leads k p (Ok m) same e h = same m.0 m.1 (omega arith)
  leads k p (Err f) same e h = refl

  looks : (k : ℕ) (p : Push) (at : ℕ) → free p ≤ k → fields_of (suc (k + n)) l p at ≡ fields_of (suc k) l p at
  unfolding fields_of
  looks zero p at h =
      let s = next_of l at in
      ap (cond (none s) (Ok p)) (leads 0 p (add_of l p s) (λ q b g. absurd (omega arith)) (fewer l p s) h)
  looks (suc k) p at h =
      let s = next_of l at in
      let e : suc k + n ≡ suc (k + n) = omega arith in
      ap (cond (none s) (Ok p)) (leads (suc k) p (add_of l p s) (λ q b g. rw e (looks k q b (omega arith))) (fewer l p s) h)

pub enough : (n : ℕ) (l : List ℕ) (mask at : ℕ) → fields_of (4 + n) l (bare mask) at ≡ fields_of 4 l (bare mask) at
enough n l mask at =
    let e : 4 + n ≡ suc (3 + n) = omega arith in
    rw e (looks n l 3 (bare mask) at (omega arith))
