-- A push's fields, look by look: of four, after so many.
--     look        one look, and what is more of the line
--     look_last   none is left
use Rattle.std.proofs.Common.{ℕ, suc, ◌+◌, ◌-◌, ◌<◌, ◌≤◌, ◌≡◌, cond, List, Ok, arith}
use Rattle.rules.specs.declared.Push.{Push}
use Rattle.notation.specs.Results.{and_then}
use Rattle.notation.specs.Words.{next_of, none}
use Rattle.notation.specs.Lines.{add_of, fields_of}

module _ (l : List ℕ) (p : Push) (at k : ℕ) where
  pub look : k < 4 → fields_of (4 - k) l p at ≡ cond (none (next_of l at)) (Ok p) (and_then (add_of l p (next_of l at)) (λ m. fields_of (4 - (k + 1)) l m.0 m.1))
  unfolding fields_of
  look h =
      let q : 4 - k ≡ suc (4 - (k + 1)) = omega arith in
      rw q

  pub look_last : 4 ≤ k → fields_of (4 - k) l p at ≡ Ok p
  unfolding fields_of
  look_last h =
      let q : 4 - k ≡ 0 = omega arith in
      rw q
