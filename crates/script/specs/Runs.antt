-- A run of the code: each step's call, as the contracts of `profile` say what it gives. Definitions only.
use Rattle.std.specs.Prelude.{ℕ, List, [], ◌∷◌, ◌≡◌}
use Rattle.profile.specs.declared.ProfileSerializer.{ProfileSerializer}
use Rattle.profile.specs.declared.Stepped.{Stepped}
use Rattle.rules.specs.declared.Push as given
use Rattle.profile.specs.Serializer.{push_of, finalized_of, finalize_of}
use Rattle.script.specs.declared.Step.{Step}
use Rattle.script.specs.declared.Step.TheVariants.{Push, Finalize}

-- the record after a step, and after steps
unfoldable pub step_of : ProfileSerializer → Step → ProfileSerializer
step_of s (Push p) = (push_of s p).serializer
step_of s (Finalize words) = finalized_of s words

abbrev pub run : ProfileSerializer → List Step → ProfileSerializer
run s [] = s
run s (step ∷ steps) = run (step_of s step) steps

-- calls of `push` and `finalize`, each on the record that the one before gave back, take s to e: what each gave is what its contract says
pub data Calls : List Step → ProfileSerializer → ProfileSerializer → Type 0 where
  none : {s : ProfileSerializer} → Calls [] s s
  pushed : {s e : ProfileSerializer} {steps : List Step} {p : given.Push} (r : Stepped Unit) → r ≡ push_of s p → Calls steps r.serializer e → Calls (Push p ∷ steps) s e
  finalized : {s e : ProfileSerializer} {steps : List Step} (words : ℕ) (r : Stepped ℕ) → r ≡ finalize_of s words → Calls steps r.serializer e → Calls (Finalize words ∷ steps) s e
