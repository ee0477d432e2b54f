-- The theorems over a row, applied to three titrators behind one set (specs/InhabitedPorts).
use Rattle.std.specs.Prelude.{ℕ, ◌≡◌, refl, List}
use Rattle.std.proofs.Common.{arith}
use Rattle.records.specs.declared.Device.{Device}
use Rattle.records.specs.Image.{image_of}
use Rattle.order.specs.Run.{All}
use Rattle.promises.specs.Examples.{computed, T}
use Rattle.promises.specs.Inhabited.{accepted_t, bytes_t, configured, configured_sized}
use Rattle.promises.specs.InhabitedOrder.{configured_fits_t}
use Rattle.board.specs.Exports.{record_at}
use Rattle.board.specs.Runs.{Given, number_given}
use Rattle.board.specs.Order.{told, told_to}
use Rattle.board.specs.Unnoticed.{kept_of, Alike}
use Rattle.board.specs.Records.{as_images}
use Rattle.board.specs.Ports.{RowRuns, calls_at, given_at}
use Rattle.board.specs.InhabitedRuns.{start, lie}
use Rattle.board.specs.InhabitedPorts.{titrators, spots, row, one_order, other_order, reordered, opened, fresh_sized, opens, whole_run, left_run, struck_out}
use Rattle.board.proofs.PortRuns.{port_run, order_ports, unnoticed_ports_by_page, never_eight_ports}

pub ordered_at_one : {last other : List Device} {gs hs : List Given} → RowRuns titrators spots row one_order gs last → RowRuns titrators spots row other_order hs other
    → (record_at last 1 ≡ record_at other 1)
    × ((i : ℕ) → told_to T (image_of configured) i (calls_at 1 one_order) (given_at 1 one_order gs) ≡ told_to T (image_of configured) i (calls_at 1 other_order) (given_at 1 other_order hs))
ordered_at_one one two = order_ports titrators spots 1 bytes_t accepted_t (omega arith) configured_sized configured_fits_t one two reordered

pub unnoticed_at_one : {last other : List Device} {gs hs : List Given} (one : RowRuns titrators spots opened whole_run gs last) → RowRuns titrators spots opened left_run hs other
    → (kept_of T lie 1 (as_images T lie bytes_t fresh_sized (port_run titrators spots 1 (omega arith) one)).0 ≡ told (calls_at 1 left_run) (given_at 1 left_run hs))
    × Alike T lie 1 (image_of (record_at last 1)) (image_of (record_at other 1))
unfolding computed
unnoticed_at_one one two = unnoticed_ports_by_page titrators spots 1 bytes_t {start = start} 1 refl fresh_sized opens (omega arith) one
    (λ p. (refl, λ q. refl), (λ p. (refl, λ q. refl), (λ p. (refl, λ q. refl), (λ p. (refl, λ q. refl), (λ p. (refl, λ q. refl), (λ p. (refl, λ q. refl), tt)))))) two struck_out

-- ---- and none of them gets 8
pub never_eight_at_one : {last : List Device} {gs : List Given} → RowRuns titrators spots opened whole_run gs last → All (λ (g : Given). number_given g ≡ 8 → ⊥) (given_at 1 whole_run gs)
never_eight_at_one r = never_eight_ports titrators spots 1 bytes_t {start = start} refl fresh_sized opens (omega arith) r
