-- What a trace says.
use Rattle.std.specs.Prelude.{ℕ, ◌==◌, if◌then◌else◌, List, [], ◌∷◌, ◌++◌, Option, None, Some, codes, decimal}
use Rattle.std.specs.List.{flat_map}
use Rattle.omega_net.specs.declared.component.Component.{Component}
use Rattle.omega_net.specs.declared.message.Tag.{Tag}
use Rattle.omega_net.specs.Numbers.{component_of}
use Rattle.omega_net.specs.Ports.{same_tag}
use Rattle.omega_net.specs.Texts.{component_text, tag_text}
use Rattle.run_reports.specs.declared.spans.Span.{Span}

-- a component, under its name
abbrev pub place_text : Option Component → List ℕ
place_text None = []
place_text (Some c) = component_text c

-- the cycles from one to another: `12-13`, or `28` where they are one
abbrev pub period_text : ℕ → ℕ → List ℕ
period_text from to = if from == to then decimal from else decimal from ++ codes "-" ++ decimal to

-- the reference in whose message another one is: ` in pP.I`
abbrev pub within_text : Tag → Tag → List ℕ
within_text x carrier = if same_tag carrier x then [] else codes " in p" ++ tag_text carrier

-- a span of reference x on a machine of 2^k processors: where, when, and in which other reference's message
abbrev pub span_text : ℕ → Tag → Span → List ℕ
span_text k x s = place_text (component_of k s.spot.place) ++ codes " " ++ period_text s.from s.to ++ within_text x s.spot.carrier

-- further spans, each behind a comma
abbrev pub further_text : ℕ → Tag → List Span → List ℕ
further_text k x spans = flat_map (λ s. codes ", " ++ span_text k x s) spans

-- the trace as a line
abbrev pub trace_text : ℕ → Tag → List Span → List ℕ
trace_text k x [] = codes "none\n"
trace_text k x (s ∷ rest) = span_text k x s ++ further_text k x rest ++ codes "\n"
