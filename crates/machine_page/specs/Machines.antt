-- A machine as a page has it: lines with a word in front, and fields with spaces between.
use Rattle.std.specs.Prelude.{ℕ, suc, Bool, true, false, List, [], ◌∷◌, ◌++◌, Option, None, Some, codes, decimal}
use Rattle.std.specs.List.{flat_map}
use Rattle.omega_net.specs.declared.component.Component.{Component}
use Rattle.omega_net.specs.declared.component.Net.{Net}
use Rattle.omega_net.specs.declared.component.Net.TheVariants.{Low, Comb}
use Rattle.omega_net.specs.declared.wire.Wire.{Wire}
use Rattle.omega_net.specs.Numbers.{component_of, components, lines}
use Rattle.omega_net.specs.Texts.{component_text, net_letter}
use Rattle.omega_net.specs.Wires.{below, input_of, lower_end, output_of, upper_end}
use Rattle.project_book.specs.declared.edit.Depths.TheVariants.{LowForward, LowReverse, CombForward, CombReverse, ModuleQueue}
use Rattle.project_book.specs.Project.{Project, combines_at, depth_of}

-- the stages, the horizon, and the first and the last cycle of the page
abbrev pub run_line : Project → ℕ → ℕ → List ℕ
run_line P from to = codes "run " ++ decimal P.k ++ codes " " ++ decimal P.horizon ++ codes " " ++ decimal from ++ codes " " ++ decimal to ++ codes "\n"

-- the places of queues: of the low network forward and reverse, of the combining one, of modules, of wait buffers
abbrev pub places_line : Project → List ℕ
places_line P =
    codes "places " ++ decimal (depth_of P LowForward) ++ codes " " ++ decimal (depth_of P LowReverse)
    ++ codes " " ++ decimal (depth_of P CombForward) ++ codes " " ++ decimal (depth_of P CombReverse)
    ++ codes " " ++ decimal (depth_of P ModuleQueue) ++ codes " " ++ decimal P.wait ++ codes "\n"

-- which stages combine, from the first one on
abbrev pub on_text : Bool → List ℕ
on_text false = codes " off"
on_text true = codes " on"

abbrev pub combining_line : Project → List ℕ
combining_line P = codes "combining" ++ flat_map (λ stage. on_text (combines_at P stage)) (below P.k) ++ codes "\n"

-- the names of the components, by number
abbrev pub name_text : Option Component → List ℕ
name_text None = []
name_text (Some c) = codes " " ++ component_text c

abbrev pub components_line : ℕ → List ℕ
components_line k = codes "components" ++ flat_map (λ c. name_text (component_of k c)) (below (components k)) ++ codes "\n"

-- a wire: the letter of its network, the component at its end towards the processors with the output, the one towards the modules with
-- the input
abbrev pub upper_text : Wire → List ℕ
upper_text w = component_text (upper_end w) ++ codes "," ++ decimal (output_of w)

abbrev pub lower_text : ℕ → Wire → List ℕ
lower_text k w = component_text (lower_end k w) ++ codes "," ++ decimal (input_of k w)

abbrev pub wire_text : ℕ → Wire → List ℕ
wire_text k w = codes " " ++ net_letter w.net ++ codes "," ++ upper_text w ++ codes "," ++ lower_text k w

-- all wires: by network, by stage, by line
abbrev pub stage_wires : ℕ → Net → ℕ → List ℕ
stage_wires k net stage = flat_map (λ line. wire_text k (record { net = net; stage = stage; line = line })) (below (lines k))

abbrev pub net_wires : ℕ → Net → List ℕ
net_wires k net = flat_map (λ stage. stage_wires k net stage) (below (suc k))

abbrev pub wires_line : ℕ → List ℕ
wires_line k = codes "wires" ++ net_wires k Low ++ net_wires k Comb ++ codes "\n"

-- all of these
abbrev pub machine_text : Project → ℕ → ℕ → List ℕ
machine_text P from to = run_line P from to ++ places_line P ++ combining_line P ++ components_line P.k ++ wires_line P.k
