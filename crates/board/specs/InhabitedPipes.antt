-- The premises of the theorems over runs of the pipe hold of something: S, opened; GET_DESCRIPTOR(device) read packet by packet, SET_ADDRESS 5 and its
-- status stage. Every byte is computed.
use Rattle.std.specs.Prelude.{◌≡◌, refl, List, [], ◌∷◌, replicate}
use Rattle.promises.specs.Examples.{bytes, computed, S}
use Rattle.promises.specs.Refusal.{fresh_image}
use Rattle.pipes.specs.Transfer.{fits}
use Rattle.pipes.specs.Image.{transfer_of, image_of}
use Rattle.pipes.specs.Turns.{taken, received, replied, roomed, accepted, refused, turned}
use Rattle.pipes.specs.Sending.{sent}
use Rattle.pipes.specs.Pipe.{Records, heard, wire_of}
use Rattle.board.specs.Exports.{Spot}
use Rattle.board.specs.InhabitedRuns.{set_spot, lie}
use Rattle.board.specs.Runs.{setup, tell, status_end, Given, Runs}
use Rattle.board.specs.PipeRuns.{PipeCall, pipe_event, PipeGiven, ordered, PipeRuns, runs, decided, calls_in, pipe_moves}

abbrev pub power_on : Records
power_on = record { image = fresh_image; pipe = replicate 16 0 }

-- no reply of an application's is lent
abbrev pub no_reply : Spot
no_reply = record { block = 9; offset = 0 }

abbrev pub packet_taken : PipeCall
packet_taken = pipe_event 1 0 [] [] no_reply

-- GET_DESCRIPTOR(device) asked with 64: three packets taken, the host's empty packet
abbrev pub reads_device : List PipeCall
reads_device = pipe_event 0 0 (bytes 8 0x8006000100004000) [] no_reply ∷ packet_taken ∷ packet_taken ∷ packet_taken ∷ pipe_event 2 0 [] [] no_reply ∷ []

-- the parts of the set: 8, 8 and 2 bytes from byte 20 on; then *await*; then the end
abbrev pub device_read : List PipeGiven
device_read =
    ordered 0 (1 ∷ 0 ∷ 0 ∷ 0 ∷ 0 ∷ 0 ∷ []) (bytes 8 0x12010002FF000008) (record { block = 1; offset = 20 }) ∷
    ordered 0 (1 ∷ 0 ∷ 0 ∷ 0 ∷ 0 ∷ 0 ∷ []) (bytes 8 0x3412785600010000) (record { block = 1; offset = 28 }) ∷
    ordered 0 (1 ∷ 0 ∷ 0 ∷ 0 ∷ 0 ∷ 0 ∷ []) (bytes 2 0x0001) (record { block = 1; offset = 36 }) ∷
    ordered 0 (2 ∷ 0 ∷ 0 ∷ 0 ∷ 0 ∷ 0 ∷ []) [] set_spot ∷
    ordered 0 (0 ∷ 0 ∷ 0 ∷ 0 ∷ 0 ∷ 0 ∷ []) [] set_spot ∷ []

pub reads : PipeRuns S lie power_on reads_device device_read power_on
unfolding computed fits transfer_of image_of taken received replied roomed accepted refused turned sent heard wire_of
reads = runs S lie power_on reads_device

-- SET_ADDRESS 5: an empty packet; taken, the address is in force
abbrev pub sets_address : List PipeCall
sets_address = pipe_event 0 0 (bytes 8 0x0005050000000000) [] no_reply ∷ packet_taken ∷ []

abbrev pub address_set : List PipeGiven
address_set = ordered 0 (1 ∷ 0 ∷ 0 ∷ 0 ∷ 0 ∷ 0 ∷ []) [] set_spot ∷ ordered 0 (0 ∷ 0 ∷ 0 ∷ 0 ∷ 0 ∷ 0 ∷ []) [] set_spot ∷ []

abbrev pub at_five : Records
at_five = record { image = 1 ∷ 5 ∷ 255 ∷ replicate 29 0; pipe = replicate 16 0 }

pub addresses : PipeRuns S lie power_on sets_address address_set at_five
unfolding computed fits transfer_of image_of taken received replied roomed accepted refused turned sent heard wire_of
addresses = runs S lie power_on sets_address

-- any device that meets the statements ends so
pub address_decided : {gs : List PipeGiven} {last : Records} → PipeRuns S lie power_on sets_address gs last → last ≡ at_five
address_decided r = (decided S lie r addresses).1

-- and that run is SET_ADDRESS and one status end for the library
pub told_calls : calls_in S lie power_on sets_address ≡ setup (bytes 8 0x0005050000000000) ∷ tell status_end ∷ []
unfolding computed fits transfer_of image_of taken received replied roomed accepted refused turned sent heard wire_of
told_calls = refl

pub address_moves : (gs : List Given) × Runs S lie fresh_image (calls_in S lie power_on sets_address) gs at_five.image
address_moves = pipe_moves S lie addresses
