-- How a module's state prints.
use Rattle.std.specs.Prelude.{ℕ, Bool, true, false, List, ◌++◌, Option, Some, codes, decimal}
use Rattle.std.specs.Fmt.{◌++?◌}
use Rattle.omega_net.specs.declared.component.Net.{Net}
use Rattle.omega_net.specs.declared.component.Net.TheVariants.{Low, Comb}
use Rattle.omega_net.specs.declared.message.Request.{Request}
use Rattle.omega_net.specs.declared.message.Reply.{Reply}
use Rattle.omega_net.specs.Ports.{queue_at}
use Rattle.omega_net.specs.Texts.{request_text, reply_text, listed_text}
use Rattle.mem_module.specs.declared.words.Stored.{Stored}
use Rattle.mem_module.specs.declared.state.ModuleState.{ModuleState}

-- a row and its word: `R=W`
abbrev pub stored_text : Stored → List ℕ
stored_text w = decimal w.row ++ codes "=" ++ decimal w.word

-- the turn: 0 for the low network, 1 for the combining one
abbrev pub turn_text : Net → List ℕ
turn_text Low = codes "0"
turn_text Comb = codes "1"

-- whether something is so: 0 or 1
abbrev pub flag_text : Bool → List ℕ
flag_text true = codes "1"
flag_text false = codes "0"

-- lists of requests, of replies and of words
abbrev pub requests_text : List Request → Option (List ℕ)
requests_text rs = listed_text (λ r. Some (request_text r)) rs

abbrev pub replies_text : List Reply → Option (List ℕ)
replies_text rs = listed_text (λ r. Some (reply_text r)) rs

abbrev pub words_text : List Stored → Option (List ℕ)
words_text ws = listed_text (λ w. Some (stored_text w)) ws

-- what waits at the ports
abbrev pub waiting_text : ModuleState → Option (List ℕ)
waiting_text s =
    Some (codes "q0 ") ++? requests_text (queue_at s.requests 0).items ++? Some (codes " q1 ") ++? requests_text (queue_at s.requests 1).items
    ++? Some (codes " a0 ") ++? replies_text (queue_at s.replies 0).items ++? Some (codes " a1 ") ++? replies_text (queue_at s.replies 1).items

-- the turn, whether a request was served, and the words
abbrev pub memory_text : ModuleState → Option (List ℕ)
memory_text s = Some (codes "turn " ++ turn_text s.turn ++ codes " served " ++ flag_text s.served ++ codes " mem ") ++? words_text s.words

-- a module: `mod q0 L q1 L a0 L a1 L turn T served S mem L`
abbrev pub module_text : ModuleState → Option (List ℕ)
module_text s = Some (codes "mod ") ++? waiting_text s ++? Some (codes " ") ++? memory_text s
