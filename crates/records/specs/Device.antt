-- The device record's states, the fresh record, and records that differ in one field (document 01, "The device record").
use Rattle.std.specs.Prelude.{ℕ, ◌+◌, ◌-◌, ◌*◌, ◌^◌, ◌<◌, ◌≡◌, Bool, ◌&&◌, List, length, replicate, leb}
use Rattle.records.specs.declared.Device.{Device}

-- "0 state (0 Default, 1 Address, 2 Configured)"
abbrev pub in_default : ℕ
in_default = 0

abbrev pub in_address : ℕ
in_address = 1

abbrev pub in_configured : ℕ
in_configured = 2

-- "waiting address (255: none)"
abbrev pub nothing : ℕ
nothing = 255

-- "record byte 7 says which is in use (0 full, 1 high)" (L7)
abbrev pub at_full_speed : ℕ
at_full_speed = 0

abbrev pub at_high_speed : ℕ
at_high_speed = 1

abbrev pub zeros : List ℕ
zeros = replicate 16 0

-- "Fresh: all zero but byte 2 = 255."
abbrev pub fresh : Device
fresh = record { state = in_default; address = 0; waiting = nothing; configuration = 0; wakeup = 0; power = 0; suspended = 0; speed = 0; alternates = zeros; halts = 0; toggles = 0 }

-- ---- the same record but for what is named
abbrev pub with_waiting : ℕ → Device → Device
with_waiting w d = record { state = d.state; address = d.address; waiting = w; configuration = d.configuration; wakeup = d.wakeup; power = d.power; suspended = d.suspended; speed = d.speed; alternates = d.alternates; halts = d.halts; toggles = d.toggles }

abbrev pub with_wakeup : ℕ → Device → Device
with_wakeup w d = record { state = d.state; address = d.address; waiting = d.waiting; configuration = d.configuration; wakeup = w; power = d.power; suspended = d.suspended; speed = d.speed; alternates = d.alternates; halts = d.halts; toggles = d.toggles }

abbrev pub with_power : ℕ → Device → Device
with_power p d = record { state = d.state; address = d.address; waiting = d.waiting; configuration = d.configuration; wakeup = d.wakeup; power = p; suspended = d.suspended; speed = d.speed; alternates = d.alternates; halts = d.halts; toggles = d.toggles }

abbrev pub with_speed : ℕ → Device → Device
with_speed s d = record { state = d.state; address = d.address; waiting = d.waiting; configuration = d.configuration; wakeup = d.wakeup; power = d.power; suspended = d.suspended; speed = s; alternates = d.alternates; halts = d.halts; toggles = d.toggles }

-- a bus reset leads to the fresh record, but "Bus reset keeps it", the power source (L2), and byte 7 is "given by the bus reset event" (L7)
abbrev pub after_reset : ℕ → Device → Device
after_reset speed d = with_speed speed (with_power d.power fresh)

-- ---- test mode (L7)
-- "It waits for the status end as 128 plus the selector in byte 2"; "a selector of 1–5"
abbrev pub test_waiting : ℕ → ℕ
test_waiting selector = 128 + selector

abbrev pub test_waits : Device → Bool
test_waits d = leb (test_waiting 1) d.waiting && leb d.waiting (test_waiting 5)

-- "Once entered, byte 7 is 1 plus 16 times the selector", and nothing waits any more
abbrev pub test_entered : ℕ → ℕ
test_entered selector = at_high_speed + 16 * selector

abbrev pub in_test_mode : Device → Bool
in_test_mode d = leb 2 d.speed

abbrev pub enter_test_mode : Device → Device
enter_test_mode d = with_speed (test_entered (d.waiting - test_waiting 0)) (with_waiting nothing d)

-- "Record byte 6 becomes suspended (0 or 1)" (L12)
abbrev pub with_suspended : ℕ → Device → Device
with_suspended on d = record { state = d.state; address = d.address; waiting = d.waiting; configuration = d.configuration; wakeup = d.wakeup; power = d.power; suspended = on; speed = d.speed; alternates = d.alternates; halts = d.halts; toggles = d.toggles }

-- what an accepted packet passed settles: it clears byte 6 (L12)
abbrev pub awake : Device → Device
awake d = with_suspended 0 d

-- what a setup settles, past 7 to 9: it "first drops any waiting address", a test mode "is dropped as a waiting address is" (L7), and it clears
-- byte 6 (L12). The step, the refusals and the order of events cite this
abbrev pub settled : Device → Device
settled d = awake (with_waiting nothing d)

-- its state and address, nothing waiting any more
abbrev pub with_address : ℕ → ℕ → Device → Device
with_address s a d = record { state = s; address = a; waiting = nothing; configuration = d.configuration; wakeup = d.wakeup; power = d.power; suspended = d.suspended; speed = d.speed; alternates = d.alternates; halts = d.halts; toggles = d.toggles }

-- its state and configuration, every setting, halt and toggle 0
abbrev pub with_configuration : ℕ → ℕ → Device → Device
with_configuration s c d = record { state = s; address = d.address; waiting = d.waiting; configuration = c; wakeup = d.wakeup; power = d.power; suspended = d.suspended; speed = d.speed; alternates = zeros; halts = 0; toggles = 0 }

abbrev pub with_endpoints : List ℕ → ℕ → ℕ → Device → Device
with_endpoints a h t d = record { state = d.state; address = d.address; waiting = d.waiting; configuration = d.configuration; wakeup = d.wakeup; power = d.power; suspended = d.suspended; speed = d.speed; alternates = a; halts = h; toggles = t }

-- ---- a record of the size that the code has: sixteen alternates, two numbers of 32 bits
pub record Sized (d : Device) : Type 0 where
  pub sixteen : length d.alternates ≡ 16
  pub halts-fit : d.halts < 2 ^ 32
  pub toggles-fit : d.toggles < 2 ^ 32
