-- Which references of a run are asked for.
use Rattle.std.specs.Prelude.{ℕ, ◌/◌, ◌==◌, ◌&&◌, nat_le, not, Bool, true, false, Option, None, Some}
use Rattle.std.specs.Option.{option_map}
use Rattle.page_map.specs.Limits.{page_words}
use Rattle.omega_net.specs.declared.component.Net.{Net}
use Rattle.omega_net.specs.declared.component.Net.TheVariants.{Low, Comb}
use Rattle.omega_net.specs.declared.script.ScriptEntry.{ScriptEntry}
use Rattle.omega_net.specs.declared.script.ScriptEntry.TheVariants.{Reference as ReferenceTo, Until}
use Rattle.run_reports.specs.declared.condition.Condition.{Condition}
use Rattle.run_reports.specs.declared.condition.Heat.{Heat}
use Rattle.run_reports.specs.declared.condition.Heat.TheVariants.{Hot, Cold}
use Rattle.run_reports.specs.declared.condition.Window.{Window}
use Rattle.run_reports.specs.declared.reference.Reference.{Reference}

-- whether an entry's references go over a network: those that synchronize over the combining one
abbrev pub goes_over : Net → Option ScriptEntry → Bool
goes_over Comb (Some (ReferenceTo sync op address times)) = sync
goes_over Comb (Some (Until sync op address value times)) = sync
goes_over Low (Some (ReferenceTo sync op address times)) = not sync
goes_over Low (Some (Until sync op address value times)) = not sync
goes_over net _ = false

-- the address that they are to
abbrev pub address_of : Option ScriptEntry → Option ℕ
address_of (Some (ReferenceTo sync op address times)) = Some address
address_of (Some (Until sync op address value times)) = Some address
address_of _ = None

-- the page that they are to
abbrev pub page_for : Option ScriptEntry → Option ℕ
page_for e = option_map (λ a. a / page_words) (address_of e)

-- whether a number is the one that is asked for, where one is
abbrev pub is_wanted : Option ℕ → Option ℕ → Bool
is_wanted None x = true
is_wanted (Some a) None = false
is_wanted (Some a) (Some b) = b == a

-- whether they go over the network that is asked for
abbrev pub is_over : Option Net → Option ScriptEntry → Bool
is_over None e = true
is_over (Some net) e = goes_over net e

-- whether they are to a word that is named as the hot one, or to another one, as is asked for
abbrev pub is_hot_as : Option Heat → Option ℕ → Bool
is_hot_as None a = true
is_hot_as (Some heat) None = false
is_hot_as (Some (Hot hot)) (Some a) = a == hot
is_hot_as (Some (Cold hot)) (Some a) = not (a == hot)

-- whether a cycle is in the window that is asked for, its last cycle included
abbrev pub is_in : Option Window → ℕ → Bool
is_in None t = true
is_in (Some w) t = nat_le w.from t && nat_le t w.to

-- whether a reference is asked for
abbrev pub meets : Condition → Reference → Bool
meets c r =
    is_wanted c.proc (Some r.proc) && (is_in c.window r.issued && (is_over c.net r.entry
    && (is_wanted c.page (page_for r.entry) && (is_wanted c.address (address_of r.entry) && is_hot_as c.hot (address_of r.entry)))))
