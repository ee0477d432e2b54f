-- What a refusal leaves, at the bench set S: the premises of the theorems of Refusals hold of its records.
-- No axiom.
use Rattle.std.specs.Prelude.{◌≡◌, refl}
use Rattle.std.proofs.Common.{arith}
use Rattle.events.specs.Step.{step, event}
use Rattle.promises.specs.Examples.{computed, S}
use Rattle.promises.proofs.Refusals.{step_keeps, step_keeps_all, event_keeps}
use Rattle.promises.specs.Refusal.{left_by, image_left_by}
use Rattle.promises.specs.Inhabited.{octets, waiting, configured, qualifier, waiting_image}

-- the theorems at these: in general, and with nothing waiting
pub keeps_waiting : (step S waiting qualifier).device ≡ left_by 13 waiting
unfolding computed
keeps_waiting = step_keeps S waiting qualifier (omega arith)

pub keeps_configured : (step S configured qualifier).device ≡ configured
unfolding computed
keeps_configured = step_keeps_all S configured qualifier refl refl (omega arith)

-- the same on the image
pub image_keeps : (event S waiting_image qualifier).image ≡ image_left_by 13 waiting_image
unfolding computed
image_keeps = event_keeps S waiting_image qualifier (octets waiting_image refl) (omega arith)
