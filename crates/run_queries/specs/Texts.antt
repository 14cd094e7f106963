-- How answers print.
use Rattle.std.specs.Prelude.{ℕ, List, [], ◌∷◌, ◌++◌, Option, None, Some, codes, decimal}
use Rattle.omega_net.specs.Texts.{place_text}
use Rattle.machine_cells.specs.Texts.{state_text}
use Rattle.saturation.specs.Texts.{tree_text}
use Rattle.serial_order.specs.Texts.{order_text}
use Rattle.run_queries.specs.declared.body.Received.{Received}
use Rattle.run_queries.specs.declared.body.Body.{Body}
use Rattle.run_queries.specs.declared.body.Body.TheVariants.{Reply, State, Word, Count, Profile, Tree, Level, Fraction, Place, Order}

-- a reply: `at T word W`
abbrev pub received_text : Received → List ℕ
received_text r = codes "at " ++ decimal r.cycle ++ codes " word " ++ decimal r.word

-- numbers with a space before each
abbrev pub later_text : List ℕ → List ℕ
later_text [] = []
later_text (n ∷ ns) = codes " " ++ decimal n ++ later_text ns

-- numbers with single spaces between
abbrev pub spaced_text : List ℕ → List ℕ
spaced_text [] = []
spaced_text (n ∷ ns) = decimal n ++ later_text ns

-- an answer: `at T word W`, or `none` where no reply was received; a state's text; a word, a count or a level; numbers;
-- a tree's text; a fraction, `N/D`; a place, `M:R`; an order, `order` and its tags
abbrev pub body_text : Body → Option (List ℕ)
body_text (Reply None) = Some (codes "none")
body_text (Reply (Some r)) = Some (received_text r)
body_text (State s) = state_text s
body_text (Word w) = Some (decimal w)
body_text (Count n) = Some (decimal n)
body_text (Profile ns) = Some (spaced_text ns)
body_text (Tree tree) = Some (tree_text tree)
body_text (Level n) = Some (decimal n)
body_text (Fraction n d) = Some (decimal n ++ codes "/" ++ decimal d)
body_text (Place p) = Some (place_text p)
body_text (Order tags) = Some (order_text tags)
