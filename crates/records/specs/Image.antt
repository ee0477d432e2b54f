-- The record's 32-byte image, and back (document 01: "For C its image is 32 bytes").
use Rattle.std.specs.Prelude.{ℕ, ◌+◌, ◌*◌, ◌/◌, ◌%◌, List, [], ◌∷◌, ◌++◌, set}
use Rattle.octets.specs.Octets.{byte, part}
use Rattle.records.specs.declared.Device.{Device}
use Rattle.records.specs.Device.{nothing}

-- "24–27 halts, 28–31 toggles": a number of four bytes
unfoldable pub four_bytes : List ℕ → ℕ → ℕ
four_bytes bytes k = byte bytes k + byte bytes (k + 1) * 256 + byte bytes (k + 2) * 65536 + byte bytes (k + 3) * 16777216

unfoldable pub bytes_of_four : ℕ → List ℕ
bytes_of_four n = n % 256 ∷ n / 256 % 256 ∷ n / 65536 % 256 ∷ n / 16777216 % 256 ∷ []

-- "0 state .., 1 address, 2 waiting address .., 3 configuration value, 4 remote wakeup .., 5–7 zero, 8–23 alternate setting of interfaces 0–15";
-- "Record byte 5 becomes the power source (0 bus, 1 own supply)" (L2); "Record byte 6 becomes suspended (0 or 1)" (L12); "record byte 7 says which is in use"
-- (L7)
unfoldable pub device_of : List ℕ → Device
device_of image = record {
  state = byte image 0;
  address = byte image 1;
  waiting = byte image 2;
  configuration = byte image 3;
  wakeup = byte image 4;
  power = byte image 5;
  suspended = byte image 6;
  speed = byte image 7;
  alternates = part image 8 16;
  halts = four_bytes image 24;
  toggles = four_bytes image 28;
}

unfoldable pub image_of : Device → List ℕ
image_of d =
    d.state ∷ d.address ∷ d.waiting ∷ d.configuration ∷ d.wakeup ∷ d.power ∷ d.suspended ∷ d.speed ∷
    d.alternates ++ bytes_of_four d.halts ++ bytes_of_four d.toggles

-- what a setup settles (`settled`), on the image: byte 2, the waiting address, is 255 ("none"), and byte 6 is 0
abbrev pub settled_image : List ℕ → List ℕ
settled_image image = set (set image 2 nothing) 6 0
