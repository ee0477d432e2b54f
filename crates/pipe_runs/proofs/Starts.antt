-- The transfer that a setup starts fits the blocks that are lent: the library's reply lies inside its block, is no longer than wLength, and its place and
-- length are numbers of two bytes. No axiom.
use Rattle.octets.proofs.Vocabulary.{◌≡◌, refl, ℕ, ◌+◌, ◌/◌, ◌≤◌, ◌<◌, List, true, ◌||◌, eqb, leb, arith, le-leb}
use Rattle.octets.specs.Octets.{byte, Bytes}
use Rattle.octets.proofs.Sentences.{both}
use Rattle.sets.specs.Opening.{Board}
use Rattle.sets.specs.View.{accepted}
use Rattle.records.specs.Image.{device_of}
use Rattle.requests.specs.Table.{setup_of}
use Rattle.events.specs.declared.Event.{Event}
use Rattle.events.specs.Answer.{Answer, Done, OneByte, TwoBytes, SetPart, SerialPart, Refused, number_of, part_of, InsideAt}
use Rattle.events.specs.Step.{setup_event, event}
use Rattle.promises.specs.Refusals.{event_inside}
use Rattle.promises.specs.Replies.{size_cuts, event_within, done_accepted}
use Rattle.pipes.specs.Transfer.{block_length, fits}
use Rattle.pipes.specs.Turns.{reply_at, started}
use Rattle.pipes.specs.Pipe.{lengths_of, packet_size}
use Rattle.pipes.proofs.Replies.{short-set, reply-length, reply-place}
use Rattle.pipe_runs.proofs.Courses.{Fit}

-- ---- an answer's reply
reply-inside : (b : Board) (image reply : List ℕ) (a : Answer) → InsideAt b (device_of image).speed (part_of a)
    → (reply_at a).offset + (reply_at a).length ≤ block_length (lengths_of b image reply) (reply_at a).block
reply-inside b image reply Done h = omega arith
reply-inside b image reply (OneByte x) h = omega arith
reply-inside b image reply (TwoBytes x y) h = omega arith
reply-inside b image reply (SetPart offset size) h = h
reply-inside b image reply (SerialPart size) h = h
reply-inside b image reply (Refused n) h = omega arith

reply-block : (a : Answer) → leb (reply_at a).block 3 ≡ true
reply-block Done = refl
reply-block (OneByte x) = refl
reply-block (TwoBytes x y) = refl
reply-block (SetPart offset size) = refl
reply-block (SerialPart size) = refl
reply-block (Refused n) = refl

-- ---- of an event's answer
module _ (b : Board) (image : List ℕ) (e : Event) where
  place_small : (reply_at (event b image e).answer).offset < 65536
  place_small = reply-place b (device_of image).speed (event b image e).answer (event_inside b image e) (λ z. short-set b (device_of image).speed (done_accepted b image e z))

module _ (b : Board) (image setup : List ℕ) where
  abbrev answer : Answer
  answer = (event b image (setup_event setup)).answer

  length_within : (reply_at answer).length ≤ (setup_of setup).wLength
  length_within = rw (reply-length answer) (event_within b image setup)

  length_small : Bytes setup → (reply_at answer).length < 65536
  length_small bytes = omega (arith, length_within, bytes 6, bytes 7)

  -- the transfer that it starts
  pub accepted_fits : (reply : List ℕ) → Bytes setup → accepted b ≡ true → Fit (lengths_of b image reply) (started (reply_at answer) (setup_of setup) (packet_size b image))
  unfolding fits
  accepted_fits reply bytes ok = record {
    stage = refl;
    fit =
        let can = size_cuts b ok (device_of image).speed 0 0 (omega arith) in
        let p = packet_size b image in
        let size = (both (eqb p 8 || eqb p 16 || eqb p 32 || eqb p 64) true can).0 in
        let reads = byte setup 0 in
        let low : reads / 128 ≤ 1 = omega (arith, bytes 0) in
        rw (
          reply-block answer,
          le-leb (reads / 128) 1 low,
          size,
          le-leb _ _ length_within,
          le-leb _ _ (reply-inside b image reply answer (event_inside b image (setup_event setup))),
        );
    sized = record {
      place-fits = place_small b image (setup_event setup);
      length-fits = length_small bytes;
      asked-fits = omega (arith, bytes 6, bytes 7);
      moved-fits = omega arith;
    };
  }

  pub started_fits : (reply : List ℕ) → Bytes setup → number_of answer ≡ 0 → Fit (lengths_of b image reply) (started (reply_at answer) (setup_of setup) (packet_size b image))
  started_fits reply bytes z = accepted_fits reply bytes (done_accepted b image (setup_event setup) z)
