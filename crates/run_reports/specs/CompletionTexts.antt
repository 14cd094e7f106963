-- What a report of completions says.
use Rattle.std.specs.Prelude.{ℕ, List, [], ◌++◌, Option, None, Some, codes, decimal}
use Rattle.std.specs.List.{flat_map}
use Rattle.run_reports.specs.declared.completion.Completion.{Completion}
use Rattle.run_reports.specs.declared.completion.Event.{Event}
use Rattle.run_reports.specs.declared.completion.Event.TheVariants.{LastReply, ScriptEnd}
use Rattle.run_reports.specs.declared.spread.Spread.{Spread}
use Rattle.run_reports.specs.Completions.{cycles_of, spread_of}
use Rattle.run_reports.specs.Texts.{cycles_text}

-- the name of an event
abbrev pub event_text : Event → List ℕ
event_text LastReply = codes "last_reply"
event_text ScriptEnd = codes "script_end"

-- a line for an event: its name, how many processors have it, and the figures of their cycles
abbrev pub number_text : Event → ℕ → List ℕ
number_text event number = event_text event ++ codes " of " ++ decimal number ++ codes ": "

abbrev pub ends_text : Spread → List ℕ
ends_text s = codes "earliest " ++ cycles_text s.earliest ++ codes " latest " ++ cycles_text s.latest ++ codes " spread " ++ cycles_text s.between ++ codes "\n"

abbrev pub spread_text : Event → Spread → List ℕ
spread_text event s = number_text event s.number ++ ends_text s

abbrev pub event_line : Event → List Completion → List ℕ
event_line event cs = spread_text event (spread_of (cycles_of event cs))

-- a field of a table: a number, or nothing
abbrev pub field_text : Option ℕ → List ℕ
field_text None = []
field_text (Some n) = decimal n

-- a row for a processor
abbrev pub completion_row : Completion → List ℕ
completion_row c = decimal c.proc ++ codes "," ++ field_text c.last_reply ++ codes "," ++ field_text c.script_end ++ codes "\n"

-- the report: the figures of both events, and the table behind an empty line
abbrev pub completion_text : List Completion → List ℕ
completion_text cs = event_line LastReply cs ++ event_line ScriptEnd cs ++ codes "\nprocessor,last_reply,script_end\n" ++ flat_map completion_row cs
