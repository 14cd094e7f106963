-- Templates: lines with braces in them.
use Rattle.std.specs.Prelude.{ℕ, ◌*◌, ◌==◌, if◌then◌else◌, List, [], ◌∷◌, ◌++◌, length, map, Option, None, Some, option_map, codes}
use Rattle.std.specs.List.{slice_split}
use Rattle.omega_net.specs.Wires.{below}
use Rattle.edit_templates.specs.declared.template.Brace.{Brace as Kept}
use Rattle.edit_templates.specs.Braces.{cut_at, choices_of, kept_choices}

-- a brace: what may be put in, and the text behind it up to the next one; a template: the text before its first brace, and its braces
abbrev pub Brace : Type 0
Brace = List (List ℕ) × List ℕ

abbrev pub Template : Type 0
Template = List ℕ × List Brace

-- all values, where each is there
abbrev pub all_of : {A : Type 0} → List (Option A) → Option (List A)
all_of [] = Some []
all_of (None ∷ others) = None
all_of (Some a ∷ others) = option_map (λ more. a ∷ more) (all_of others)

-- the brace that stands behind its opening byte { (123): up to the first } (125) what is in it, then the text behind it
abbrev pub brace_parts : ℕ → Option (List ℕ × List ℕ) → Option Brace
brace_parts k (Some (inside, behind)) = Some (choices_of k inside, behind)
brace_parts k None = None

abbrev pub brace_of : ℕ → List ℕ → Option Brace
brace_of k text = brace_parts k (cut_at 125 text)

abbrev pub template_parts : ℕ → List (List ℕ) → Option Template
template_parts k [] = None
template_parts k (first ∷ parts) = option_map (λ braces. (first, braces)) (all_of (map (brace_of k) parts))

-- the template that a text is, if each of its braces is closed
abbrev pub template_of : ℕ → List ℕ → Option Template
template_of k text = template_parts k (slice_split (λ b. b == 123) text)

-- the text with these words put in
abbrev pub text_behind : List Brace → List (List ℕ) → List ℕ
text_behind [] words = []
text_behind (brace ∷ braces) [] = []
text_behind (brace ∷ braces) (word ∷ words) = word ++ (brace.1 ++ text_behind braces words)

abbrev pub line_of : Template → List (List ℕ) → List ℕ
line_of template words = template.0 ++ text_behind template.1 words

-- in how many ways words can be put in
abbrev pub ways : List Brace → ℕ
ways [] = 1
ways (brace ∷ braces) = length brace.0 * ways braces

-- the name of a brace by its place among n: the text with {} in this place, and * in each other one
abbrev pub mark : ℕ → ℕ → List ℕ
mark place i = if i == place then codes "{}" else codes "*"

abbrev pub name_of : Template → ℕ → List ℕ
name_of template place = line_of template (map (mark place) (below (length template.1)))

abbrev pub names_of : Template → List (List ℕ)
names_of template = map (name_of template) (below (length template.1))

-- a brace and a template as they are kept
abbrev pub kept_brace : Kept → Brace
kept_brace brace = (kept_choices brace.choices, brace.behind.now)
