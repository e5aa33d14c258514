use Rattle.std.proofs.Common.{◌≡◌, ℕ, length, take, ap, ◌∙◌, arith, rules}
use Prim.Native.Nat.{min}
use lib.ListN.{replicate, length-take}
use Rattle.profile.specs.declared.Stepped.{Stepped}
use Rattle.registers.specs.Refusals.{answer_of}
use Rattle.script.specs.Meaning.{answer_at}
use Rattle.script.specs.Runs.{step_of}
use Rattle.script.proofs.Words.{enough_words, enough_finalized}
use Rattle.script.proofs.finalize.Goals as goal

-- how many words are lent
lent : (k words : ℕ) → k ≡ min words 8 → length {A = ℕ} (take k (replicate 8 0)) ≡ min words 8
lent k words e = length-take k (replicate 8 0) ∙ omega arith

pub returns-clause-answer : goal.returns-clause-answer
unfolding answer_at
returns-clause-answer c =
    let a = c.args in
    let l = lent c.min-lent.result a.words c.min-lent.ensures in
    let m : c.map.result ≡ answer_of c.finalize-finalized.result.answer = search rules in
    m ∙ ap (λ (r : Stepped ℕ). answer_of r.answer) c.finalize-finalized.ensures.finalized ∙ rw (l, enough_words)

pub returns-clause-serializer : goal.returns-clause-serializer
unfolding step_of
returns-clause-serializer c =
    let a = c.args in
    let l = lent c.min-lent.result a.words c.min-lent.ensures in
    ap (λ (r : Stepped ℕ). r.serializer) c.finalize-finalized.ensures.finalized ∙ rw (l, enough_finalized)
