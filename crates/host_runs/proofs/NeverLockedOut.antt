-- After every run of exported calls from an opening, whatever it did, the board enumerates, and everything works (specs/NeverLockedOut). No axiom.
use Rattle.octets.proofs.Vocabulary.{◌≡◌, refl, ap, ◌∙◌, ℕ, List, Bool, true, false, inl, length}
use Rattle.octets.specs.Sentences.{any, is_some}
use Rattle.octets.proofs.Sentences.{neither}
use Rattle.sets.specs.Opening.{Board, BytesOf, lent}
use Rattle.sets.specs.View.{accepted}
use Rattle.records.specs.declared.Device.{Device}
use Rattle.records.specs.Device.{in_test_mode}
use Rattle.records.specs.Image.{four_bytes, device_of}
use Rattle.promises.specs.Rearranged.{next_of}
use Rattle.promises.specs.Keeps.{FitImage, reached_fits}
use Rattle.enumeration.specs.Script.{Line, Plays, Ready}
use Rattle.enumeration.specs.Enumeration.{enumeration, enumeration_by_transfers}
use Rattle.enumeration.specs.Unasked.{asks_for_test}
use Rattle.enumeration.proofs.Enumerates.{enumerates, enumerates_by_transfers}
use Rattle.enumeration.proofs.Boards.{no_test_mode}
use Rattle.enumeration.proofs.Settings.{every_setting, every_endpoint}
use Rattle.enumeration.proofs.Unasked.{Peaceful, stays_peaceful}
use Rattle.board.specs.Exports.{Opens, Spots}
use Rattle.board.specs.Runs.{Call, event_of, Given, Runs, ends, calls, met, opening, reached, opened_reached}
use Rattle.host_runs.specs.Calls.{Played, CalledSince}
use Rattle.host_runs.specs.NeverLockedOut.{NeverLockedOut, NeverLockedOutOne, NeverLockedOutUnasked, SettingAfter, EndpointAfter}
use Rattle.host_runs.proofs.Calls.{next_fits, next-record, played_by_calls}

-- an image that fits, in no test mode
pub ready_image : {b : Board} {image : List ℕ} → FitImage b image → in_test_mode (device_of image) ≡ false → Ready b (device_of image)
ready_image f calm = record { fit = f.fit; sized = f.sized; calm = calm }

module _ (b : Board) (lie : Spots) (bytes : BytesOf b) (last : List ℕ) (since : CalledSince b lie last) where
  pub accepted_since : accepted b ≡ true
  accepted_since = (opening since.long since.opens).0 refl

  pub fits_since : FitImage b last
  fits_since = reached_fits b bytes accepted_since (reached (opened_reached since.long since.opens) since.run)

  -- every script that is played from such a record is played by calls
  pub played_after : in_test_mode (device_of last) ≡ false → (script : List Line) (end : Device)
      → (accepted b ≡ true → Ready b (device_of last) → Plays b (device_of last) script end) → Played b lie last script end
  played_after calm script end p = played_by_calls b lie bytes accepted_since fits_since script end (p accepted_since (ready_image fits_since calm))

pub never_locked_out : NeverLockedOut enumeration
never_locked_out b lie bytes last since calm speed good a low high i there =
    played_after b lie bytes last since calm _ _ (λ ok r. enumerates b bytes ok (device_of last) r speed good a low high i there)

pub never_locked_out_transfers : NeverLockedOut enumeration_by_transfers
never_locked_out_transfers b lie bytes last since calm speed good a low high i there =
    played_after b lie bytes last since calm _ _ (λ ok r. enumerates_by_transfers b bytes ok (device_of last) r speed good a low high i there)

pub never_locked_out_one : NeverLockedOutOne
never_locked_out_one set serial lie octets last since =
    never_locked_out (lent set serial) lie (octets, tt) last since (no_test_mode set serial (device_of last) (fits_since (lent set serial) lie (octets, tt) last since).fit)

pub setting_after : SettingAfter
setting_after b lie bytes last since calm configured s m = played_after b lie bytes last since calm _ _ (λ ok r. (every_setting b bytes ok (device_of last) r configured s m).plays)

pub endpoint_after : EndpointAfter
endpoint_after b lie bytes last since calm configured e m can = played_after b lie bytes last since calm _ _ (λ ok r. (every_endpoint b bytes ok (device_of last) r configured e m can).plays)

-- ---- where no call of the run asked for a test mode
abbrev asked : Board → List Call → Bool
asked b cs = any (λ c. asks_for_test (is_some b.high) (event_of c)) cs

peaceful-run : (b : Board) (lie : Spots) (bytes : BytesOf b) (ok : accepted b ≡ true) {image : List ℕ} {cs : List Call} {gs : List Given} {last : List ℕ}
    → FitImage b image → Peaceful (device_of image) → Runs b lie image cs gs last → asked b cs ≡ false → Peaceful (device_of last)
unfolding any
peaceful-run b lie bytes ok f p ends n = p
peaceful-run b lie bytes ok {image} f p (calls {c = c} {left = left} {cs = cs} m r) n =
    let (u, v) = neither (asks_for_test (is_some b.high) (event_of c)) (asked b cs) n in
    let l = (met b lie m).1 in
    let e : device_of left ≡ next_of b (device_of image) (event_of c) = ap device_of l ∙ next-record b bytes ok image f (event_of c) in
    peaceful-run b lie bytes ok (rw l (next_fits b bytes ok image f (event_of c))) (rw e (stays_peaceful b (device_of image) p (event_of c) u)) r v

fresh-peaceful : {b : Board} {start image : List ℕ} → length start ≡ 32 → Opens b start 0 image → Peaceful (device_of image)
unfolding device_of four_bytes
fresh-peaceful {b} {start} long o = rw (opening {b = b} {image = start} long o).2 (record { calm = refl; waits = inl refl })

pub never_locked_out_unasked : NeverLockedOutUnasked
never_locked_out_unasked b lie bytes last since unasked =
    let ok = accepted_since b lie bytes last since in
    let f = reached_fits b bytes ok (opened_reached since.long since.opens) in
    never_locked_out b lie bytes last since (peaceful-run b lie bytes ok f (fresh-peaceful since.long since.opens) since.run unasked).calm
