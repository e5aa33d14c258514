-- A run of the code is a run of the definitions.
--     by_push          a call of the method `push` is one of these calls: its three clauses are `push_of`
--     by_finalize      and a call of the method `finalize`: `finalize_of`
--     calls_run        calls that did what their contracts say end at the record that the steps' run gives
--     fed              what `profile::feed` gives and leaves, on the serializer that a run reaches
--     decodes_record   the record decodes into buffers of 32 words or more: the answer is how many writes it has
--     made             what `ProfileSerializer::new` gave
--     code_means       so what `new`, calls of `push` and `finalize` and then `feed` leave in an image is the steps' meaning, and feeding is not refused
use mathlib.Core.Path.{◌≡◌, refl, ap, ◌∙◌}
use mathlib.Core.List.{List}
use Prim.Native.Nat.{ℕ, ◌≤◌}
use borrow.Author.Tests.{le-ltb, ltb-false}
use lib.Dec.{ltb}
use native.Mathlib.Omega.{arith}
use lib.ListN.{length}
use lib.Seq.{length-take-le}
use mathlib.Core.Bool.{Bool, true, false, cond}
use Rattle.std.specs.Prelude.{Result, Ok, Err, OnOk, OnErr, is_ok}
use Rattle.registers.specs.declared.refusal.Refusal.{Refusal}
use Rattle.registers.specs.declared.refusal.Refusal.TheVariants.{Mode}
use Rattle.profile.specs.declared.ProfileSerializer.{ProfileSerializer}
use Rattle.profile.specs.declared.Stepped.{Stepped}
use Rattle.stream.specs.Decoder.{writes_of, items_of, count_of}
use Rattle.stream.proofs.Steps.{items_most, taken_all, counted}
use Rattle.registers.specs.Refusals.{answer_of}
use Rattle.rules.specs.declared.Push as given
use Rattle.rules.specs.Rules.{push_judged, finalize_judged}
use Rattle.profile.specs.Serializer as serializer
use Rattle.profile.specs.Serializer.{fresh, new_of, push_of, padded, finalized_of, finalize_of, stream_of, feed_judged_of, fed_of, decode_judged_of}
use Rattle.script.specs.declared.Step.{Step}
use Rattle.script.specs.Meaning.{meaning}
use Rattle.script.specs.Runs.{step_of, run, Calls, none, pushed, finalized}
use Rattle.script.proofs.Follows.{script, decodes, run_length, run_bytes}

-- what an answer leaves, by its cases
left : {A : Type 0} (s s' t : ProfileSerializer) (answer : Result A Refusal) → OnOk answer (s' ≡ t) → OnErr answer (s' ≡ s) → s' ≡ cond (is_ok answer) t s
left s s' t (Ok x) ok err = ok
left s s' t (Err refusal) ok err = err

answer_ok : {A : Type 0} (judged : Result A Refusal) → is_ok (answer_of judged) ≡ is_ok judged
answer_ok (Ok x) = refl
answer_ok (Err refusal) = refl

pub by_push : (s s' : ProfileSerializer) (p : given.Push) (answer : Result (Unit {0}) Refusal) → answer ≡ answer_of (push_judged s.mode s.length p)
    → OnOk answer (s' ≡ serializer.pushed s p) → OnErr answer (s' ≡ s) → record { answer = answer; serializer = s' } ≡ push_of s p
unfolding push_of
by_push s s' p answer a ok err =
    let judged = push_judged s.mode s.length p in
    rw (left s s' (serializer.pushed s p) answer ok err ∙ ap (λ (b : Bool). cond b (serializer.pushed s p) s) (ap is_ok a ∙ answer_ok judged), a) refl

pub by_finalize : (s s' : ProfileSerializer) (words : ℕ) (answer : Result ℕ Refusal) → answer ≡ finalize_judged s.mode s.length words
    → OnOk answer (s' ≡ padded s) → OnErr answer (s' ≡ s) → record { answer = answer; serializer = s' } ≡ finalize_of s words
unfolding finalized_of
by_finalize s s' words answer a ok err = rw (left s s' (padded s) answer ok err ∙ ap (λ (b : Bool). cond b (padded s) s) (ap is_ok a), a) refl

pub calls_run : {steps : List Step} {s e : ProfileSerializer} → Calls steps s e → e ≡ run s steps
unfolding step_of
calls_run none = refl
calls_run (pushed {steps = steps} r q c) = calls_run c ∙ ap (λ (x : Stepped Unit). run x.serializer steps) q
calls_run (finalized {steps = steps} words r q c) = calls_run c ∙ ap (λ (x : Stepped ℕ). run x.serializer steps) q

pub fed : (mode : ℕ) (steps : List Step) (image : List ℕ) → mode ≤ 3 → 91 ≤ length image
    → (feed_judged_of (run (fresh mode) steps) image ≡ Ok tt) × (fed_of (run (fresh mode) steps) image ≡ meaning mode steps image)
fed mode steps image h l =
    let e = le-ltb 32 (run (fresh mode) steps).length (run_length mode steps h) in
    let d = decodes mode steps h in
    (rw (e, le-ltb (length image) 91 l, d.1), rw e (script mode steps image h l))

pub decodes_record : (mode : ℕ) (steps : List Step) (m n : ℕ) → mode ≤ 3 → 32 ≤ m → 32 ≤ n
    → decode_judged_of (run (fresh mode) steps) m n ≡ Ok (length (writes_of (stream_of (run (fresh mode) steps))))
decodes_record mode steps m n h j k =
    let s = run (fresh mode) steps in
    let l = run_length mode steps h in
    let d = decodes mode steps h in
    let c : length (items_of (stream_of s)) ≡ length d.0 = counted (items_of (stream_of s)) (length d.0) (ap count_of d.1) in
    let b : length (items_of (stream_of s)) ≤ length (stream_of s) = items_most (stream_of s) in
    let w = length-take-le s.length s.bytes (rw (run_bytes mode steps h) l) in
    rw (le-ltb 32 s.length l, d.1, taken_all (items_of (stream_of s)) d.0 d.1, le-ltb m (length d.0) (omega arith), le-ltb n (length d.0) (omega arith))

-- a new serializer is made in a mode of at most 3 alone, and is empty
pub made : (mode : ℕ) (s : ProfileSerializer) → new_of mode ≡ Ok s → (mode ≤ 3) × (s ≡ fresh mode)
made mode s q = go (ltb 3 mode) refl q
  where
    go : (b : Bool) → ltb 3 mode ≡ b → ◌≡◌ {A = Result ProfileSerializer Refusal} (cond b (Err Mode) (Ok (fresh mode))) (Ok s) → (mode ≤ 3) × (s ≡ fresh mode)
    go true e q = absurd (cc)
    go false e q = (ltb-false 3 mode e, cc)

pub code_means : (mode : ℕ) (steps : List Step) (image : List ℕ) (s e : ProfileSerializer) (answer : Result (Unit {0}) Refusal) (image' : List ℕ) → 91 ≤ length image
    → new_of mode ≡ Ok s → Calls steps s e → answer ≡ feed_judged_of e image → image' ≡ fed_of e image → (answer ≡ Ok tt) × (image' ≡ meaning mode steps image)
code_means mode steps image s e answer image' l q c a i =
    let m = made mode s q in
    let f = fed mode steps image m.0 l in
    (a ∙ rw (calls_run c, m.1) f.0, i ∙ rw (calls_run c, m.1) f.1)
