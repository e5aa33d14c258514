-- A step that is made of numbers, and a script that is lent as a slice of steps. Definitions only.
use Rattle.std.specs.Prelude.{ℕ, ◌/◌, ◌||◌, cond, List, ltb, eqb, ℤ, length, Result, Ok, Err}
use Rattle.registers.specs.declared.refusal.Refusal.{Refusal}
use Rattle.registers.specs.declared.refusal.Refusal.TheVariants.{Mode, Room}
use Rattle.rules.specs.Rules.{given_by}
use Rattle.script.specs.declared.Step.{Step}
use Rattle.script.specs.declared.Step.TheVariants.{Push, Finalize}

-- kind 0 is a push, whose word, phase and ACR are given by bits 0, 1 and 2 of presence; any other kind is a finalisation, into a buffer of `mask` words
unfoldable pub step_at : ℕ → ℕ → ℕ → ℤ → ℕ → ℕ → Step
step_at kind mask presence word phase acr =
    cond (eqb kind 0)
    (Push (record { mask = mask; word = given_by presence word; phase = given_by (presence / 2) phase; acr = given_by (presence / 4) acr }))
    (Finalize mask)

-- playing n steps into an image: a mode above 3 is Mode; then Room for a list shorter than n or an image of fewer than 91 words
abbrev pub play_judged : ℕ → ℕ → List Step → List ℕ → Result Unit Refusal
play_judged mode n steps image = cond (ltb 3 mode) (Err Mode) (cond (ltb (length steps) n || ltb (length image) 91) (Err Room) (Ok tt))
