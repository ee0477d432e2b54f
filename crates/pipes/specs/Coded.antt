-- Working definitions for the contracts of the code; no promise cites them. The code's turns and responses, as the definitions have them.
use Rattle.std.specs.Prelude.{true, false, Option, Some, None}
use Rattle.pipes.specs.declared.Turn.{Turn as CodedTurn}
use Rattle.pipes.specs.declared.Piece.{Piece}
use Rattle.pipes.specs.declared.ReplyPart.{ReplyPart}
use Rattle.pipes.specs.declared.hearing.Moved.{Moved as CodedMoved}
use Rattle.pipes.specs.declared.hearing.Moved.TheVariants.{Ordered, Told, Unfit}
use Rattle.pipes.specs.declared.response.Response.{Response as CodedResponse}
use Rattle.pipes.specs.Transfer.{nothing}
use Rattle.pipes.specs.Turns.{Turn, goes_on, ends}
use Rattle.pipes.specs.Hearing.{Moved, unheard_moved, Response}

abbrev pub turn_in : CodedTurn → Turn
turn_in t = goes_on t.transfer t.order

-- none: the transfer has ended
abbrev pub turn_or_end : Option CodedTurn → Turn
turn_or_end None = ends
turn_or_end (Some t) = turn_in t

abbrev pub moved_in : CodedMoved → Moved
moved_in (Ordered o) = record { number = 0; order = o; ended = false }
moved_in Told = record { number = 0; order = nothing; ended = true }
moved_in Unfit = unheard_moved

abbrev pub response_in : CodedResponse → Response
response_in r = record { number = r.number; order = r.order; count = r.bytes.count; first = r.bytes.first; second = r.bytes.second }

abbrev pub piece_in : ReplyPart → Piece
piece_in r = record { block = r.block; offset = r.place; length = r.length }
