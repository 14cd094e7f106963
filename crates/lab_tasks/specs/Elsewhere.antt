-- WHERE NOTHING IS DRAWN: the network that all references of a project's scripts are on, where that isn't the one that is drawn.
use Rattle.std.specs.Prelude.{ℕ, Bool, false, not, if◌then◌else◌, List, codes, Option, None, Some}
use Rattle.std.specs.List.{list_any}
use Rattle.omega_net.specs.declared.component.Net.{Net}
use Rattle.omega_net.specs.declared.component.Net.TheVariants.{Low, Comb}
use Rattle.omega_net.specs.declared.script.ScriptEntry.{ScriptEntry}
use Rattle.omega_net.specs.declared.script.ScriptEntry.TheVariants.{Reference, Until}
use Rattle.omega_net.specs.Numbers.{lines}
use Rattle.omega_net.specs.Wires.{below}
use Rattle.project_book.specs.Project.{Project, entry_at, length_at}

-- a reference that is `sync` is on the combining network, another one on the low one
abbrev pub is_there : Net → Bool → Bool
is_there Low sync = not sync
is_there Comb sync = sync

-- whether an entry, a script, or one of all scripts refers to a word over a network
abbrev pub refers_by : Net → Option ScriptEntry → Bool
refers_by net (Some (Reference sync op address times)) = is_there net sync
refers_by net (Some (Until sync op address value times)) = is_there net sync
refers_by net _ = false

abbrev pub script_refers : Project → Net → ℕ → Bool
script_refers P net p = list_any (λ i. refers_by net (entry_at P p i)) (below (length_at P p))

abbrev pub refers : Project → Net → Bool
refers P net = list_any (script_refers P net) (below (lines P.k))

-- where the scripts refer over one network alone, and the other one is drawn
abbrev pub other_net : Net → Net
other_net Low = Comb
other_net Comb = Low

abbrev pub elsewhere : Project → Net → Option Net
elsewhere P drawn = if refers P drawn then None else (if refers P (other_net drawn) then Some (other_net drawn) else None)

-- what is said then
abbrev pub elsewhere_text : Net → List ℕ
elsewhere_text Low = codes "lab: all references of this file are on the low network; --net low draws it"
elsewhere_text Comb = codes "lab: all references of this file are on the combining network; --net comb draws it"
