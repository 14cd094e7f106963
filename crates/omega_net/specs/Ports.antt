-- Two of a kind, by port: queues, messages, marks; and where a message goes.
use Rattle.std.specs.Prelude.{ℕ, ◌==◌, ◌&&◌, Bool, false, if◌then◌else◌, List, [], Option, None, Some, slice_index_or, slice_set}
use Rattle.arrayvec.specs.ArrayVec.{ArrayVec}
use Rattle.page_map.specs.declared.place.Place.{Place}
use Rattle.omega_net.specs.declared.message.Tag.{Tag}
use Rattle.omega_net.specs.declared.message.Request.{Request}
use Rattle.omega_net.specs.declared.message.Reply.{Reply}
use Rattle.omega_net.specs.Wires.{bit}
use Rattle.omega_net.specs.Queues.{joined}

-- an empty queue
abbrev pub empty : {T : Type 0} → ArrayVec T
empty = record { items = [] }

-- the queue, the message and the mark at a port
abbrev pub queue_at : {T : Type 0} → List (ArrayVec T) → ℕ → ArrayVec T
queue_at qs i = slice_index_or qs i empty

abbrev pub message_at : {T : Type 0} → List (Option T) → ℕ → Option T
message_at ms i = slice_index_or ms i None

abbrev pub mark_at : List Bool → ℕ → Bool
mark_at bs i = slice_index_or bs i false

-- the queues where this message has joined the one at port i
abbrev pub joined_at : {T : Type 0} → List (ArrayVec T) → ℕ → T → List (ArrayVec T)
joined_at qs i m = slice_set qs i (joined (queue_at qs i) (Some m))

-- a request that goes to output o, and a reply that goes to input i, at a stage that decides by bit b
abbrev pub request_to : ℕ → ℕ → Option Request → Option Request
request_to b o None = None
request_to b o (Some r) = if bit b r.place.«module» == o then Some r else None

abbrev pub reply_to : ℕ → ℕ → Option Reply → Option Reply
reply_to b i None = None
reply_to b i (Some r) = if bit b r.tag.proc == i then Some r else None

-- whether two tags, or two places, are the same
abbrev pub same_tag : Tag → Tag → Bool
same_tag a b = (a.proc == b.proc) && (a.issue == b.issue)

abbrev pub same_place : Place → Place → Bool
same_place a b = (a.«module» == b.«module») && (a.row == b.row)
