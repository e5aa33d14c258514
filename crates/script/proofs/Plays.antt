-- What playing a script gives and leaves.
--     accepted   a list and an image that are long enough are not refused
--     played     what feeding the serializer that the steps reach gives is the script's meaning
use mathlib.Core.Path.{◌≡◌, sym, ◌∙◌}
use mathlib.Core.List.{List}
use Prim.Native.Nat.{ℕ, ◌≤◌}
use lib.ListN.{length, take}
use borrow.Author.Tests.{le-ltb}
use Rattle.std.specs.Prelude.{Ok}
use Rattle.profile.specs.declared.ProfileSerializer.{ProfileSerializer}
use Rattle.profile.specs.Serializer.{new_of, feed_judged_of, fed_of}
use Rattle.script.specs.declared.Step.{Step}
use Rattle.script.specs.Meaning.{meaning}
use Rattle.script.specs.Runs.{run}
use Rattle.script.specs.Play.{play_judged}
use Rattle.script.proofs.Runs.{made, fed}

module _ (mode n : ℕ) (steps : List Step) (image : List ℕ) (s : ProfileSerializer) (new : new_of mode ≡ Ok s) (l : 91 ≤ length image) where
  pub accepted : n ≤ length steps → feed_judged_of (run s (take n steps)) image ≡ play_judged mode n steps image
  accepted k = let m = made mode s new in rw m.1 ((fed mode (take n steps) image m.0 l).0 ∙ sym (rw (le-ltb 3 mode m.0, le-ltb (length steps) n k, le-ltb (length image) 91 l)))

  pub played : fed_of (run s (take n steps)) image ≡ meaning mode (take n steps) image
  played = let m = made mode s new in rw m.1 (fed mode (take n steps) image m.0 l).1
