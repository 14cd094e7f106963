-- How messages, components and lists print.
use Rattle.std.specs.Prelude.{ℕ, List, [], ◌∷◌, ◌++◌, Option, Some, codes, decimal}
use Rattle.std.specs.Fmt.{◌++?◌}
use Rattle.page_map.specs.declared.place.Place.{Place}
use Rattle.word_ops.specs.Words.{op_text}
use Rattle.omega_net.specs.declared.component.Net.{Net}
use Rattle.omega_net.specs.declared.component.Net.TheVariants.{Low, Comb}
use Rattle.omega_net.specs.declared.component.Component.{Component}
use Rattle.omega_net.specs.declared.component.Component.TheVariants.{Proc, Module, Switch}
use Rattle.omega_net.specs.declared.message.Tag.{Tag}
use Rattle.omega_net.specs.declared.message.Request.{Request}
use Rattle.omega_net.specs.declared.message.Reply.{Reply}

-- a tag: `P.I`
abbrev pub tag_text : Tag → List ℕ
tag_text t = decimal t.proc ++ codes "." ++ decimal t.issue

-- a place: `M:R`
abbrev pub place_text : Place → List ℕ
place_text p = decimal p.«module» ++ codes ":" ++ decimal p.row

-- a request: `P.I>M:R=KIND:V`
abbrev pub request_text : Request → List ℕ
request_text r = tag_text r.tag ++ codes ">" ++ place_text r.place ++ codes "=" ++ op_text r.op

-- a reply: `P.I=W`
abbrev pub reply_text : Reply → List ℕ
reply_text r = tag_text r.tag ++ codes "=" ++ decimal r.word

-- the letter of a network's switches
abbrev pub net_letter : Net → List ℕ
net_letter Low = codes "l"
net_letter Comb = codes "c"

-- a component: `pI`, `mI`, `lS.J` or `cS.J`
abbrev pub component_text : Component → List ℕ
component_text (Proc p) = codes "p" ++ decimal p
component_text (Module m) = codes "m" ++ decimal m
component_text (Switch net stage index) = net_letter net ++ decimal stage ++ codes "." ++ decimal index

-- the items of a list, each after a comma
abbrev pub later_items_text : {T : Type 0} → (T → Option (List ℕ)) → List T → Option (List ℕ)
later_items_text text [] = Some []
later_items_text text (x ∷ xs) = Some (codes ",") ++? text x ++? later_items_text text xs

-- a list: its items with commas between, in square brackets
abbrev pub listed_text : {T : Type 0} → (T → Option (List ℕ)) → List T → Option (List ℕ)
listed_text text [] = Some (codes "[]")
listed_text text (x ∷ xs) = Some (codes "[") ++? text x ++? later_items_text text xs ++? Some (codes "]")
