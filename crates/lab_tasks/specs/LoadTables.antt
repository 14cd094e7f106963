-- The points that `load` measures, and its table.
use Rattle.std.specs.Prelude.{◌≡◌, ℕ, ◌+◌, ◌-◌, ◌*◌, ◌/◌, ◌%◌, max, List, [], ◌∷◌, ◌++◌, Option, None, Some, codes, decimal}
use Rattle.experiments.specs.declared.offer.Offer.{Offer}
use Rattle.experiments.specs.Traffic.{middle, IsTraffic}
use Rattle.lab_tasks.specs.declared.load_table.LoadPoint.{LoadPoint}
use Rattle.lab_tasks.specs.Tables.{machine_text, network_text, processors_of, thousandths_text}

-- the point of an offered load has what came of its run once that was steady
abbrev pub IsLoadPoint : Offer → LoadPoint → Type 0
IsLoadPoint offer p =
    (p.offer ≡ offer)
    × IsTraffic offer (record { first = p.first; answered = p.answered; replies = p.replies; unanswered = p.unanswered; mean = p.mean })

-- how many cycles are counted; and how many references a processor was answered in a cycle, in thousandths
abbrev pub cycles_of : LoadPoint → ℕ
cycles_of p = p.offer.load.cycles + 1 - p.first

abbrev pub accepted_of : LoadPoint → ℕ
accepted_of p = p.answered * 1000 / max (cycles_of p) 1 / processors_of p.offer.load.k

-- hundredths with two places behind their point, and nothing where there are none
abbrev pub hundredths_text : ℕ → List ℕ
hundredths_text n = decimal (n / 100) ++ codes "." ++ decimal (n / 10 % 10) ++ decimal (n % 10)

unfoldable pub latency_text : Option ℕ → List ℕ
latency_text None = []
latency_text (Some n) = hundredths_text n

-- which run it is: the network, the machine, what is offered in a cycle, the seed
abbrev pub offer_text : Offer → List ℕ
offer_text o =
    network_text o.load.sync ++ codes "," ++ machine_text o.load ++ codes "," ++ thousandths_text (o.rate * 10) ++ codes "," ++ decimal o.load.seed

-- what is accepted: the first cycle, how many, the references answered, and those in a cycle by a processor
abbrev pub accepted_text : LoadPoint → List ℕ
accepted_text p =
    decimal p.first ++ codes "," ++ decimal (cycles_of p) ++ codes "," ++ decimal p.answered ++ codes "," ++ thousandths_text (accepted_of p)

-- how long references take: up to which cycle they are issued, how many have a reply, how many none, and the mean
abbrev pub waited_text : LoadPoint → List ℕ
waited_text p =
    decimal (middle p.first p.offer.load.cycles) ++ codes "," ++ decimal p.replies ++ codes "," ++ decimal p.unanswered ++ codes ","
    ++ latency_text p.mean

-- a row of the table of `load`
abbrev pub load_row : LoadPoint → List ℕ
load_row p = offer_text p.offer ++ codes "," ++ accepted_text p ++ codes "," ++ waited_text p

abbrev pub load_header : List ℕ
load_header =
    codes "network,processors,combining,hot_percent,offered,seed,first_cycle,cycles,answered,accepted,issued_to,replies,unanswered,mean_latency" ++ 10 ∷ []
