-- Of which references `latency` says how long they took, and why it doesn't.
use Rattle.std.specs.Prelude.{◌≡◌, ◌-◌, ◌&&◌, nat_lt, ℕ, Bool, true, false, if◌then◌else◌, List, Option, None, Some, codes, unwrap_or}
use Rattle.line_words.specs.Numbers.{number_of}
use Rattle.omega_net.specs.declared.component.Net.{Net}
use Rattle.omega_net.specs.Numbers.{lines}
use Rattle.page_map.specs.Limits.{address_count, page_count}
use Rattle.project_book.specs.Project.{Project}
use Rattle.run_reports.specs.declared.condition.Condition.{Condition}
use Rattle.run_reports.specs.declared.condition.Heat.{Heat}
use Rattle.run_reports.specs.declared.condition.Heat.TheVariants.{Hot, Cold}
use Rattle.run_reports.specs.declared.condition.Window.{Window}
use Rattle.run_reports.specs.declared.latency.Latencies.{Latencies}
use Rattle.run_reports.specs.Latencies.{AreLatencies}
use Rattle.run_reports.specs.Texts.{report_text}
use Rattle.report_pictures.specs.LatencyPictures.{IsLatencyPicture}
use Rattle.lab_tasks.specs.declared.end.End.{End}
use Rattle.lab_tasks.specs.declared.latency.LatencyWords.{LatencyWords}
use Rattle.lab_tasks.specs.Counts.{IsHottestWord}
use Rattle.lab_tasks.specs.Cycles.{AreCycles, AreNoCycles}
use Rattle.lab_tasks.specs.Ends.{RefusesForm}
use Rattle.lab_tasks.specs.Numbers.{IsTold, IsUntold}
use Rattle.lab_tasks.specs.Plans.{net_named, InTurn}
use Rattle.lab_tasks.specs.Words.{text_of}

-- the processor that a word names, any without a word
abbrev pub IsProcessor : Project → Option (List ℕ) → Option ℕ → Type 0
IsProcessor P None proc = proc ≡ None
IsProcessor P (Some word) None = ⊥
IsProcessor P (Some word) (Some p) = IsTold (Some word) 0 0 (lines P.k - 1) p

-- the network that a word names, any without a word; and why it names none
abbrev pub IsNetwork : Option (List ℕ) → Option Net → Type 0
IsNetwork None net = net ≡ None
IsNetwork (Some word) None = ⊥
IsNetwork (Some word) (Some net) = net_named word ≡ Some net

abbrev pub IsNoNetwork : Option (List ℕ) → End → Type 0
IsNoNetwork None end = ⊥
IsNoNetwork (Some word) end = (net_named word ≡ None) × RefusesForm (codes "--network") word (codes "low or comb") end

-- the number below a count that a word is, if it is one
abbrev pub only_below : ℕ → Option ℕ → Option ℕ
only_below count None = None
only_below count (Some n) = if nat_lt n count then Some n else None

abbrev pub below_named : ℕ → List ℕ → Option ℕ
below_named count word = only_below count (number_of word)

-- the address or the page that a word names, any without a word; and why it names none
abbrev pub IsBelow : ℕ → Option (List ℕ) → Option ℕ → Type 0
IsBelow count None n = n ≡ None
IsBelow count (Some word) None = ⊥
IsBelow count (Some word) (Some n) = below_named count word ≡ Some n

abbrev pub IsNotBelow : List ℕ → ℕ → List ℕ → Option (List ℕ) → End → Type 0
IsNotBelow option count wanted None end = ⊥
IsNotBelow option count wanted (Some word) end = (below_named count word ≡ None) × RefusesForm option word wanted end

abbrev pub IsNoAddress : Option (List ℕ) → End → Type 0
IsNoAddress word end = IsNotBelow (codes "--address") address_count (codes "an address from 0 to 16383") word end

abbrev pub IsNoPage : Option (List ℕ) → End → Type 0
IsNoPage word end = IsNotBelow (codes "--page") page_count (codes "a page from 0 to 63") word end

-- the condition that the words name but for the hot word: a processor, a network, an address, a page, a window
pub record IsCondition (P : Project) (words : LatencyWords) (c : Condition) : Type 0 where
  pub proc : IsProcessor P (text_of words.processor) c.proc
  pub net : IsNetwork (text_of words.network) c.net
  pub address : IsBelow address_count (text_of words.address) c.address
  pub page : IsBelow page_count (text_of words.page) c.page
  pub window : Window
  pub is_window : c.window ≡ Some window
  pub within : AreCycles P (text_of words.from) (text_of words.to) window.from window.to
  pub one : (words.hot && words.cold) ≡ false

-- words may not ask for the hot word and for all others
abbrev pub IsBoth : LatencyWords → End → Type 0
IsBoth words end = ((words.hot && words.cold) ≡ true) × RefusesForm (codes "--hot") (codes "--cold") (codes "to be given too") end

-- why they name none: the first word in this order that is refused, and last both of two of which one alone may be given
abbrev pub IsNoCondition : Project → LatencyWords → End → Type 0
IsNoCondition P words end =
    InTurn (IsUntold (codes "--processor") (text_of words.processor) 0 (lines P.k - 1) end) (IsProcessor P (text_of words.processor)) (λ proc.
    InTurn (IsNoNetwork (text_of words.network) end) (IsNetwork (text_of words.network)) (λ net.
    InTurn (IsNoAddress (text_of words.address) end) (IsBelow address_count (text_of words.address)) (λ address.
    InTurn (IsNoPage (text_of words.page) end) (IsBelow page_count (text_of words.page)) (λ page.
    InTurn (AreNoCycles P (text_of words.from) (text_of words.to) end) (λ (w : ℕ × ℕ). AreCycles P (text_of words.from) (text_of words.to) w.0 w.1) (λ w.
    IsBoth words end)))))

-- what the words ask for of the hottest word of the scripts: nothing, references to it, or to all others; where the scripts refer to no
-- word it is word 0, to which nothing refers either
abbrev pub IsHeat : Project → Bool → Bool → Option Heat → Type 0
IsHeat P false false heat = heat ≡ None
IsHeat P true cold heat = (word : Option ℕ) × IsHottestWord P word × (heat ≡ Some (Hot (unwrap_or word 0)))
IsHeat P false true heat = (word : Option ℕ) × IsHottestWord P word × (heat ≡ Some (Cold (unwrap_or word 0)))

-- the report of the latencies of the references of the run that meet a condition, and are to the hot word as the words ask for it
abbrev pub IsReport : LatencyWords → Project → Condition → List ℕ → Type 0
IsReport words P c text =
    (heat : Option Heat) × (l : Latencies) × IsHeat P words.hot words.cold heat × AreLatencies P (record c { hot = heat }) l × (text ≡ report_text l)

abbrev pub IsLatencyText : LatencyWords → Project → List ℕ → Type 0
IsLatencyText words P text = (c : Condition) × IsCondition P words c × IsReport words P c text

-- the histogram of these latencies, and of those that the words ask for
abbrev pub IsDrawn : LatencyWords → Project → Condition → List ℕ → Type 0
IsDrawn words P c text =
    (heat : Option Heat) × (l : Latencies) × IsHeat P words.hot words.cold heat × AreLatencies P (record c { hot = heat }) l
    × IsLatencyPicture words.file.now (record c { hot = heat }) l text

abbrev pub IsLatencyDrawn : LatencyWords → Project → List ℕ → Type 0
IsLatencyDrawn words P text = (c : Condition) × IsCondition P words c × IsDrawn words P c text
