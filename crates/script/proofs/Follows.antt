-- A script's bytes do what the script means.
--     script       the bytes that a run leaves, fed to any image, end where the script's meaning says
--     decodes      they decode, so feeding them is never refused
--     run_length   at most 32 bytes are meant
--     run_bytes    the record keeps its 32 bytes
--     run_all      and each of them is below 256
-- Along a run some good writes are kept in mind: their encoding is the stream so far, and applied to the image they give what has been told so far.
use mathlib.Core.Path.{◌≡◌, refl, sym, ap, ◌∙◌}
use mathlib.Core.Bool.{Bool, true, false, cond, ◌||◌, true≢false}
use mathlib.Core.List.{List, [], ◌∷◌, ◌++◌}
use Prim.Native.Nat.{ℕ, zero, suc, ◌+◌, ◌%◌, ◌≤◌, ◌<◌}
use native.Mathlib.Omega.{arith}
use borrow.Author.Tests.{ltb-false, le-ltb, eqb-false}
use lib.Dec.{eqb, ltb, lit<}
use lib.ListN.{length, take, replicate}
use Rattle.std.specs.Prelude.{Option, Some, None, Result, Ok, Err, is_ok}
use Rattle.registers.specs.declared.refusal.Refusal.{Refusal}
use Rattle.registers.specs.declared.refusal.Refusal.TheVariants.{Mask, Mode, Word, Room}
use Rattle.registers.specs.Registers.{Write, width_of, CFTW0, CPOW0, ACR}
use Rattle.registers.specs.Bytes.{laid}
use Rattle.registers.proofs.Bytes.{AllBytes}
use Rattle.registers.proofs.Laid.{length_laid, laid_below}
use Rattle.stream.specs.Streams.{encode, Good}
use Rattle.stream.specs.Decoder.{decode_of}
use Rattle.stream.proofs.Streams.{encode_append}
use Rattle.stream.proofs.RoundTrip.{decode_encode}
use Rattle.image.specs.Image.{selected, select, apply}
use Rattle.image.specs.Feed.{feed_of}
use Rattle.image.proofs.Images.{length_apply, apply_append, selected_give, selected_select}
use Rattle.profile.specs.declared.ProfileSerializer.{ProfileSerializer}
use Rattle.registers.specs.Refusals.{answer_of}
use Rattle.rules.specs.Rules.{word_of, push_size, quarter, full, above, push_judged, finalize_judged, given, push_writes, padding_writes_by, padding_writes}
use Rattle.profile.specs.Serializer.{fresh, push_of, finalized_of, grown, stream_of}
use Rattle.profile.specs.Lent.{held}
use Rattle.rules.specs.Judged.{Held}
use Rattle.profile.proofs.Sizes.{length_push, length_padding}
use Rattle.rules.proofs.Lengths.{padding_fits, held_below, word_held}
use Rattle.script.specs.declared.Step.{Step}
use Rattle.script.specs.declared.Step.TheVariants.{Push, Finalize}
use Rattle.script.specs.Meaning.{Told, gives, padded_by, answer_at, size_at, effect_at, tell, tell_all, meaning}
use Rattle.script.specs.Runs.{step_of, run}
use Rattle.script.proofs.Bytes.{zeros, all_laid, all_encoded}

-- ---- tests that did not refuse

pub clear : {A : Type 0} (b : Bool) (e : Refusal) (r : Result A Refusal) → is_ok (cond b (Err e) r) ≡ true → (b ≡ false) × (is_ok r ≡ true)
clear true e r h = absurd (true≢false (sym h))
clear false e r h = (refl, h)

answered : {A : Type 0} (r : Result A Refusal) → is_ok (answer_of r) ≡ is_ok r
answered (Ok x) = refl
answered (Err e) = refl

pub neither : (a b : Bool) → a || b ≡ false → (a ≡ false) × (b ≡ false)
neither true b e = absurd (true≢false e)
neither false b e = (refl, e)

both : {A B : Type 0} (P : A → B → Type 0) (t : Bool) {a a' : A} {b b' : B} → (t ≡ true → P a b) → P a' b' → P (cond t a a') (cond t b b')
both P true p q = p refl
both P false p q = q

-- ---- a value that is given: it can be encoded, and it goes to the channels that CSR selects

good_append : (xs ys : List Write) → Good xs → Good ys → Good (xs ++ ys)
good_append [] ys g h = h
good_append (w ∷ xs) ys g h = (g.0, g.1, good_append xs ys g.2 h)

good_given : (a : ℕ) (v : Option ℕ) → a < 25 → Held a v → Good (given a v)
good_given a (Some v) h k = (h, k, tt)
good_given a None h k = tt

apply_given : (mask a : ℕ) (v : Option ℕ) (image : List ℕ) → 3 ≤ a → selected image ≡ mask → apply (given a v) image ≡ gives mask a v image
apply_given mask a (Some v) image h e = rw (le-ltb a 3 h, e)
apply_given mask a None image h e = refl

pub selected_gives : (mask a : ℕ) (v : Option ℕ) (image : List ℕ) → 3 ≤ a → selected image ≡ mask → selected (gives mask a v image) ≡ mask
selected_gives mask a (Some v) image h e = selected_give mask a v image h ∙ e
selected_gives mask a None image h e = e

-- ---- one step

abbrev writes_at : ℕ → ℕ → Step → List Write
writes_at mode n (Push p) = push_writes mode p
writes_at mode n (Finalize words) = padding_writes mode n

step_is : (mode n : ℕ) (bs : List ℕ) (step : Step)
    → step_of (held mode n bs) step ≡ cond (is_ok (answer_at mode n step)) (grown (held mode n bs) (size_at mode n step) (writes_at mode n step)) (held mode n bs)
unfolding step_of push_of finalized_of answer_at size_at
step_is mode n bs (Push p) = rw (answered (push_judged mode n p))
step_is mode n bs (Finalize words) = rw (answered (finalize_judged mode n words))

size_is : (mode n : ℕ) (step : Step) → length (encode (writes_at mode n step)) ≡ size_at mode n step
unfolding size_at
size_is mode n (Push p) = length_push mode p
size_is mode n (Finalize words) = length_padding mode n

module _ (mode : ℕ) (legal : mode ≤ 3) where
  padding_good : (r : ℕ) → Good (padding_writes_by mode r)
  unfolding width_of
  padding_good zero = tt
  padding_good (suc zero) = omega arith
  padding_good (suc (suc zero)) = omega arith
  padding_good (suc (suc (suc r))) = omega arith

  padding_does : (r : ℕ) (image : List ℕ) → apply (padding_writes_by mode r) image ≡ padded_by mode r image
  padding_does zero image = refl
  padding_does (suc zero) image = refl
  padding_does (suc (suc zero)) image = refl
  padding_does (suc (suc (suc r))) image = refl

  -- an accepted step's writes can be encoded, and the length stays within 32
  pub accepted : (n : ℕ) (step : Step) → is_ok (answer_at mode n step) ≡ true → Good (writes_at mode n step) × (n + size_at mode n step ≤ 32)
  unfolding answer_at size_at push_judged finalize_judged push_writes padding_writes width_of
  accepted n (Push p) e =
      let m = n + push_size p in
      let c₁ = clear (ltb 3 mode) Mode _ (sym (answered (push_judged mode n p)) ∙ e) in
      let c₂ = clear (ltb 15 p.mask) Mask _ c₁.1 in
      let c₃ = clear (above 16383 p.phase || above 16777215 p.acr) Word _ c₂.1 in
      let c₄ = clear (full 32 m) Room (Ok m) c₃.1 in
      let f = neither (above 16383 p.phase) (above 16777215 p.acr) c₃.0 in
      let h = ltb-false 15 p.mask c₂.0 in (
        (
          omega arith,
          omega arith,
          good_append (given CFTW0 (word_of p.word)) _ (good_given CFTW0 (word_of p.word) (omega arith) (word_held p.word))
              (good_append (given CPOW0 p.phase) _ (good_given CPOW0 p.phase (omega arith) (held_below CPOW0 16383 p.phase f.0 (lit< tt)))
              (good_given ACR p.acr (omega arith) (held_below ACR 16777215 p.acr f.1 (lit< tt)))),
        ),
        ltb-false 32 m (neither (eqb (m + 1) 32) (ltb 32 m) c₄.0).1,
      )
  accepted n (Finalize words) e =
      let c = clear (full 32 n || ltb words (quarter n)) Room _ (clear (ltb 3 mode) Mode _ (sym (answered (finalize_judged mode n words)) ∙ e)).1 in
      let f = neither (eqb (n + 1) 32) (ltb 32 n) (neither (full 32 n) (ltb words (quarter n)) c.0).0 in
      (padding_good (n % 4), padding_fits 32 n refl (ltb-false 32 n f.1) (eqb-false (n + 1) 32 f.0))

  effective : (n : ℕ) (step : Step) (image : List ℕ) → 0 < length image → apply (writes_at mode n step) image ≡ effect_at mode n step image
  unfolding push_writes padding_writes effect_at
  effective n (Push p) image l =
      let i₀ = select mode p.mask image in
      let i₁ = gives p.mask CFTW0 (word_of p.word) i₀ in
      let e₀ = selected_select mode p.mask image l legal in
      let e₁ = selected_gives p.mask CFTW0 (word_of p.word) i₀ (omega arith) e₀ in
      let e₂ = selected_gives p.mask CPOW0 p.phase i₁ (omega arith) e₁ in
      apply_append (given CFTW0 (word_of p.word)) _ i₀
      ∙ rw (apply_given p.mask CFTW0 (word_of p.word) i₀ (omega arith) e₀, apply_append (given CPOW0 p.phase) (given ACR p.acr) i₁, apply_given p.mask CPOW0 p.phase i₁ (omega arith) e₁)
      (apply_given p.mask ACR p.acr _ (omega arith) e₂)
  effective n (Finalize words) image l = padding_does (n % 4) image

  -- ---- the whole script

  module _ (image₀ : List ℕ) (some : 0 < length image₀) where
    -- what the record's bytes and the script's telling share, on the way from an image
    record Agree (bs : List ℕ) (x : Told) : Type 0 where
      ws : List Write
      good : Good ws
      stream : take x.length bs ≡ encode ws
      room : length bs ≡ 32
      bytes : AllBytes bs
      short : x.length ≤ 32
      told : apply ws image₀ ≡ x.image

    extend : (bs : List ℕ) (x : Told) (step : Step) → Agree bs x → is_ok (answer_at mode x.length step) ≡ true
        → Agree (laid bs x.length (encode (writes_at mode x.length step)))
        (record { length = x.length + size_at mode x.length step; image = effect_at mode x.length step x.image })
    extend bs x step r e =
        let n = x.length in
        let ws = writes_at mode n step in
        let ok = accepted n step e in
        let size = size_is mode n step in
        let h : n + length (encode ws) ≤ length bs = omega (arith, ok.1, r.room) in
        record {
          ws = r.ws ++ ws;
          good = good_append r.ws ws r.good ok.0;
          stream = rw (← size) (laid_below bs n (encode ws) (omega arith) ∙ rw (r.stream, encode_append));
          room = length_laid bs n (encode ws) h ∙ r.room;
          bytes = all_laid bs n (encode ws) r.bytes (all_encoded ws ok.0);
          short = ok.1;
          told = apply_append r.ws ws image₀ ∙ rw r.told (effective n step x.image (omega (arith, length_apply r.ws image₀, ap length r.told)));
        }

    -- what follows from their agreement holds at the end of a run
    follow : (P : ProfileSerializer → Told → Type 0) → ((bs : List ℕ) (x : Told) → Agree bs x → P (held mode x.length bs) x)
        → (steps : List Step) (bs : List ℕ) (x : Told) → Agree bs x → P (run (held mode x.length bs) steps) (tell_all mode x steps)
    unfolding tell
    follow P f [] bs x r = f bs x r
    follow P f (step ∷ steps) bs x r =
        rw (step_is mode x.length bs step)
        (both (λ (s : ProfileSerializer) (y : Told). P (run s steps) (tell_all mode y steps)) (is_ok (answer_at mode x.length step))
        (λ t. follow P f steps _ _ (extend bs x step r t)) (follow P f steps bs x r))

    from_new : (P : ProfileSerializer → Told → Type 0) → ((bs : List ℕ) (x : Told) → Agree bs x → P (held mode x.length bs) x)
        → (steps : List Step) → P (run (fresh mode) steps) (tell_all mode (record { length = 0; image = image₀ }) steps)
    unfolding encode
    from_new P f steps =
        follow P f steps (replicate 32 0) (record { length = 0; image = image₀ })
        (record { ws = []; good = tt; stream = refl; room = refl; bytes = zeros 32; short = omega arith; told = refl })

pub script : (mode : ℕ) (steps : List Step) (image : List ℕ) → mode ≤ 3 → 91 ≤ length image → feed_of (stream_of (run (fresh mode) steps)) image ≡ meaning mode steps image
script mode steps image h l =
    from_new mode h image (omega arith) (λ (s : ProfileSerializer) (x : Told). feed_of (stream_of s) image ≡ x.image)
    (λ bs x r. rw (r.stream, decode_encode r.ws r.good, le-ltb (length image) 91 l) r.told) steps

pub decodes : (mode : ℕ) (steps : List Step) → mode ≤ 3 → (ws : List Write) × (decode_of (stream_of (run (fresh mode) steps)) ≡ Ok ws)
decodes mode steps h =
    from_new mode h (0 ∷ []) (omega arith) (λ (s : ProfileSerializer) (x : Told). (ws : List Write) × (decode_of (stream_of s) ≡ Ok ws))
    (λ bs x r. (r.ws, rw r.stream (decode_encode r.ws r.good))) steps

pub run_length : (mode : ℕ) (steps : List Step) → mode ≤ 3 → (run (fresh mode) steps).length ≤ 32
run_length mode steps h = from_new mode h (0 ∷ []) (omega arith) (λ (s : ProfileSerializer) (x : Told). s.length ≤ 32) (λ bs x r. r.short) steps

pub run_bytes : (mode : ℕ) (steps : List Step) → mode ≤ 3 → length (run (fresh mode) steps).bytes ≡ 32
run_bytes mode steps h = from_new mode h (0 ∷ []) (omega arith) (λ (s : ProfileSerializer) (x : Told). length s.bytes ≡ 32) (λ bs x r. r.room) steps

pub run_all : (mode : ℕ) (steps : List Step) → mode ≤ 3 → AllBytes (run (fresh mode) steps).bytes
run_all mode steps h = from_new mode h (0 ∷ []) (omega arith) (λ (s : ProfileSerializer) (x : Told). AllBytes s.bytes) (λ bs x r. r.bytes) steps
