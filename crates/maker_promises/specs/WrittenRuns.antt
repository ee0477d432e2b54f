-- "Demands 2 and 3 read the written set like any other": each demand on a set that the writer wrote, and a run on one.
use Rattle.std.specs.Prelude.{ℕ, ◌≡◌, refl, true, List, reverse}
use Rattle.descriptors.specs.Limits.{full_speed}
use Rattle.sets.specs.Opening.{Board, lent}
use Rattle.octets.specs.Octets.{Bytes}
use Rattle.records.specs.declared.Device.{Device}
use Rattle.records.specs.Fits.{fits_on}
use Rattle.records.specs.Device.{Sized}
use Rattle.events.specs.declared.Event.{Event}
use Rattle.set_writer.specs.Stream.{stream_of}
use Rattle.sets.specs.Pieces.{pieces_in}
use Rattle.set_writer.specs.Writer.{set_of, writing}
use Rattle.promises.specs.Keeps.{FitImage, Reached, reached_fits}
use Rattle.promises.specs.Rearranged.{Rearranged, after, heard}
use Rattle.promises.specs.Order.{order}
use Rattle.promises.specs.Examples.{T}
use Rattle.promises.specs.Inhabited.{octets, configured, configured_sized}
use Rattle.promises.specs.InhabitedOrder.{configured_fits_t, one_order, other_order, rearranged}
use Rattle.maker_promises.specs.Written.{opens, written_bytes}
use Rattle.maker_promises.specs.WrittenExample.{assembled}

abbrev pub written_board : List ℕ → List ℕ → Board
written_board stream serial = lent (set_of stream) serial

module _ (stream serial : List ℕ) (room : ℕ) (bytes : Bytes stream) (w : writing full_speed stream serial room ≡ 0) where
  -- demand 2: every image reached from power-on fits
  pub written_fits : {image : List ℕ} → Reached (written_board stream serial) image → FitImage (written_board stream serial) image
  written_fits = reached_fits (written_board stream serial) (written_bytes full_speed stream serial room bytes w, tt) (opens full_speed stream serial room w)

  -- demand 3: the order of two interfaces' events does not matter
  pub written_order : (d : Device) → Sized d → fits_on (written_board stream serial) d ≡ true → (xs ys : List Event) → Rearranged (written_board stream serial) d xs ys
      → (after (written_board stream serial) d xs ≡ after (written_board stream serial) d ys) × ((k : ℕ) → heard (written_board stream serial) d k xs ≡ heard (written_board stream serial) d k ys)
  written_order = order (written_board stream serial) (written_bytes full_speed stream serial room bytes w, tt) (opens full_speed stream serial room w)

-- ---- a run: the titrator T, written from its pieces, the last first
abbrev pub titrator_stream : List ℕ
titrator_stream = stream_of (reverse (pieces_in T.set))

pub titrator_written : set_of titrator_stream ≡ T.set
unfolding assembled stream_of
titrator_written = refl

pub titrator_taken : writing full_speed titrator_stream T.serial 1000 ≡ 0
unfolding assembled stream_of
titrator_taken = refl

titrator_bytes : Bytes titrator_stream
unfolding assembled stream_of
titrator_bytes = octets titrator_stream refl

pub titrator_run : after (written_board titrator_stream T.serial) configured one_order ≡ after (written_board titrator_stream T.serial) configured other_order
titrator_run =
    (written_order titrator_stream T.serial 1000 titrator_bytes titrator_taken configured configured_sized (rw titrator_written configured_fits_t) one_order other_order (rw titrator_written rearranged)).0
