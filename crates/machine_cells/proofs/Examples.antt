-- The worked examples, computed.
use Rattle.std.proofs.Common.{◌≡◌, ℕ, zero, suc, ◌+◌, ◌-◌, ◌*◌, ◌/◌, ◌%◌, ◌^◌, Bool, true, false, List, [], ◌∷◌, ◌++◌, refl, Option, None, Some, map}
use Rattle.std.specs.Prelude.{length, slice_get, slice_index_or, option_and_then, if◌then◌else◌, ◌==◌, ◌&&◌}
use Rattle.std.specs.List.{list_all}
use Rattle.word_ops.specs.declared.op.Op.{Op}
use Rattle.word_ops.specs.declared.kind.Kind.{Kind}
use Rattle.word_ops.specs.declared.kind.Kind.TheVariants.{Load, Add, Or, Store, StoreIfZero}
use Rattle.std.specs.Option.{option_to_list}
use Rattle.page_map.specs.declared.place.Place.{Place}
use Rattle.omega_net.specs.declared.message.Tag.{Tag}
use Rattle.omega_net.specs.declared.message.Request.{Request}
use Rattle.omega_net.specs.declared.message.Traffic.{Traffic}
use Rattle.omega_net.specs.Numbers.{half, components}
use Rattle.omega_net.specs.Wires.{bit, below}
use Rattle.omega_net.specs.Routes.{line_at}
use Rattle.omega_net.specs.Near.{near}
use Rattle.omega_net.specs.Ports.{queue_at, empty}
use Rattle.comb_switch.specs.declared.state.CombState.{CombState}
use Rattle.comb_switch.specs.CombSwitch.{comb_start, comb_after}
use Rattle.page_map.specs.Places.{place_on}
use Rattle.omega_net.specs.declared.component.Net.TheVariants.{Low as LowNet}
use Rattle.omega_net.specs.declared.message.Reply.{Reply}
use Rattle.omega_net.specs.declared.script.ScriptEntry.{ScriptEntry}
use Rattle.omega_net.specs.declared.script.ScriptEntry.TheVariants.{Reference, Fence, Idle}
use Rattle.mem_module.specs.Memory.{word_at}
use Rattle.machine_cells.specs.declared.state.MachineState.{MachineState}
use Rattle.machine_cells.specs.declared.state.MachineState.TheVariants.{Proc, Module, Low, Comb}
use Rattle.project_book.specs.declared.scale.Scale.TheVariants.{Usual}
use Rattle.project_book.specs.Project.{Project}
use Rattle.project_book.specs.declared.depths.QueueDepths.{QueueDepths}
use Rattle.machine_cells.specs.Run.{run}

abbrev depths : QueueDepths
depths = record { low_forward = 4; low_reverse = 4; comb_forward = 4; comb_reverse = 8; module_queue = 4 }

-- B, with these scripts
abbrev base : List (List ScriptEntry) → Project
base scripts = record {
  scale = Usual;
  k = 1;
  horizon = 10;
  window = 1;
  depths = depths;
  wait = 4;
  combine = false ∷ [];
  pages = record { k = 1; pages = record { amount = 0; base = 0 } ∷ record { amount = 0; base = 1 } ∷ [] };
  words = record { address = 0; word = 10 } ∷ [];
  scripts = scripts;
}

abbrev sync : Kind → ℕ → ℕ → ScriptEntry
sync kind a v = Reference true (record { kind = kind; operand = v }) a 1

abbrev plain : Kind → ℕ → ℕ → ScriptEntry
plain kind a v = Reference false (record { kind = kind; operand = v }) a 1

-- the replies in a state, with their cycle: (cycle, issue, word)
pub record Got : Type 0 where
  pub cycle : ℕ
  pub issue : ℕ
  pub word : ℕ

abbrev got_one : ℕ → Option Reply → List Got
got_one t None = []
got_one t (Some y) = record { cycle = t; issue = y.tag.issue; word = y.word } ∷ []

abbrev got_each : ℕ → List (Option Reply) → List Got
got_each t [] = []
got_each t (y ∷ ys) = got_one t y ++ got_each t ys

abbrev got_in : ℕ → Option MachineState → List Got
got_in t (Some (Proc s)) = got_each t s.got
got_in t _ = []

abbrev got_along : ℕ → ℕ → List (List MachineState) → List Got
got_along p t [] = []
got_along p t (S ∷ SS) = got_in t (slice_get S p) ++ got_along p (suc t) SS

abbrev replies_of : Project → ℕ → List Got
replies_of P p = got_along p 0 (run P)

abbrev word_in : Option MachineState → ℕ → ℕ
word_in (Some (Module s)) row = word_at s.words row
word_in _ row = 77777

abbrev memory : ℕ → ℕ → List (List MachineState) → List ℕ
memory c row SS = map (λ S. word_in (slice_get S c) row) SS

abbrev got : ℕ → ℕ → ℕ → Got
got t issue word = record { cycle = t; issue = issue; word = word }

-- how many of a list of cycles a count adds up to
abbrev total : List ℕ → ℕ
total [] = 0
total (n ∷ ns) = n + total ns

abbrev one_if : Bool → ℕ
one_if b = if b then 1 else 0

abbrev served_in : MachineState → ℕ
served_in (Module s) = one_if s.served
served_in _ = 0

abbrev combined_in : MachineState → ℕ
combined_in (Comb s) = s.combined
combined_in _ = 0

abbrev issued_in : MachineState → ℕ
issued_in (Proc s) = one_if s.sent
issued_in _ = 0

abbrev sum_over : (MachineState → ℕ) → List (List MachineState) → ℕ
sum_over f SS = total (map (λ S. total (map f S)) SS)

abbrev counter : (MachineState → ℕ) → Project → ℕ
counter f P = sum_over f (run P)

abbrev with_horizon : ℕ → Project → Project
with_horizon h P = record P { horizon = h }

abbrev combining : List Bool → Project → Project
combining flags P = record P { combine = flags }

abbrev one : ScriptEntry → List ScriptEntry
one e = e ∷ []

-- 2
abbrev P2 : Project
P2 = base (one (sync Add 0 1) ∷ [])

example_2 : replies_of (with_horizon 6 P2) 0 ≡ got 6 0 10 ∷ []
example_2 = refl

example_2_memory : memory 2 0 (run (with_horizon 6 P2)) ≡ 10 ∷ 10 ∷ 10 ∷ 10 ∷ 11 ∷ 11 ∷ 11 ∷ []
example_2_memory = refl

example_2_short : replies_of (with_horizon 5 P2) 0 ≡ []
example_2_short = refl

example_2_short_memory : memory 2 0 (run (with_horizon 5 P2)) ≡ 10 ∷ 10 ∷ 10 ∷ 10 ∷ 11 ∷ 11 ∷ []
example_2_short_memory = refl

-- 3
abbrev P3 : Project
P3 = base (one (sync Add 0 1) ∷ one (sync Add 0 2) ∷ [])

example_3_first : replies_of P3 0 ≡ got 6 0 10 ∷ []
example_3_first = refl

example_3_second : replies_of P3 1 ≡ got 7 0 11 ∷ []
example_3_second = refl

example_3_served : counter served_in P3 ≡ 2
example_3_served = refl

example_3_memory : slice_index_or (memory 2 0 (run P3)) 10 0 ≡ 13
example_3_memory = refl

example_3_reverse_4 : replies_of (record P3 { depths = record depths { comb_reverse = 4 } }) 1 ≡ got 8 0 11 ∷ []
example_3_reverse_4 = refl

-- 4
abbrev P4 : Project
P4 = combining (true ∷ []) P3

example_4_first : replies_of P4 0 ≡ got 6 0 10 ∷ []
example_4_first = refl

example_4_second : replies_of P4 1 ≡ got 6 0 11 ∷ []
example_4_second = refl

example_4_counts : (counter served_in P4 ∷ counter combined_in P4 ∷ slice_index_or (memory 2 0 (run P4)) 10 0 ∷ []) ≡ 1 ∷ 1 ∷ 13 ∷ []
example_4_counts = refl

abbrev tag : ℕ → ℕ → Tag
tag p i = record { proc = p; issue = i }

abbrev add : ℕ → Op
add v = record { kind = Add; operand = v }

abbrev place : ℕ → ℕ → Place
place m r = record { «module» = m; row = r }

example_4_switch : option_and_then (λ S. slice_get S 5) (slice_get (run P4) 2) ≡ Some (Comb (record {
  fwd = record { items = record { tag = tag 0 0; place = place 0 0; op = add 3 } ∷ [] } ∷ record { items = [] } ∷ [];
  turn = 0 ∷ 0 ∷ [];
  rev = record { items = [] } ∷ record { items = [] } ∷ [];
  rturn = 0;
  wait = record { items = record { first = tag 0 0; op = add 1; second = tag 1 0 } ∷ [] };
  combined = 1;
}))
example_4_switch = refl

-- 5
example_5 : replies_of (record P2 { words = record { address = 0; word = 4294967295 } ∷ [] }) 0 ≡ got 6 0 4294967295 ∷ []
example_5 = refl

example_5_memory : slice_index_or (memory 2 0 (run (record P2 { words = record { address = 0; word = 4294967295 } ∷ [] }))) 10 1 ≡ 0
example_5_memory = refl

-- 6
abbrev P6 : ℕ → Project
P6 x = record (combining (true ∷ []) (base (one (sync StoreIfZero 0 0) ∷ one (sync StoreIfZero 0 7) ∷ []))) { words = record { address = 0; word = x } ∷ [] }

abbrev words_got : List Got → List ℕ
words_got gs = map (λ g. g.word) gs

example_6_at_0 : (words_got (replies_of (P6 0) 0) ++ words_got (replies_of (P6 0) 1) ++ slice_index_or (memory 2 0 (run (P6 0))) 10 1 ∷ []) ≡ 0 ∷ 0 ∷ 7 ∷ []
example_6_at_0 = refl

example_6_at_5 : (words_got (replies_of (P6 5) 0) ++ words_got (replies_of (P6 5) 1) ++ slice_index_or (memory 2 0 (run (P6 5))) 10 1 ∷ []) ≡ 5 ∷ 5 ∷ 5 ∷ []
example_6_at_5 = refl

-- 8
abbrev asks : ℕ → Kind → ℕ → Request
asks p kind v = record { tag = tag p 0; place = place 0 0; op = record { kind = kind; operand = v } }

abbrev S8 : CombState
S8 = record comb_start { fwd = record { items = asks 0 Add 1 ∷ asks 1 Or 2 ∷ [] } ∷ record { items = [] } ∷ [] }

abbrev T8 : Traffic
T8 = record { requests = Some (asks 2 Add 4) ∷ None ∷ []; replies = None ∷ None ∷ []; requests_leave = false ∷ false ∷ []; replies_leave = false ∷ false ∷ [] }

abbrev after_8 : CombState
after_8 = comb_after (record { bit = 0; combine = true; wait = 4 }) T8 S8

example_8 : (queue_at after_8.fwd 0).items ≡ asks 0 Add 1 ∷ asks 1 Or 2 ∷ asks 2 Add 4 ∷ []
example_8 = refl

example_8_wait : after_8.wait.items ≡ []
example_8_wait = refl

example_8_combined : after_8.combined ≡ 0
example_8_combined = refl

-- 15
abbrev many : ℕ → ℕ → ℕ → ScriptEntry
many a v times = Reference false (record { kind = Add; operand = v }) a times

abbrev P15 : ℕ → ℕ → Project
P15 low h = record (base ((many 0 1 50 ∷ []) ∷ (many 0 1 50 ∷ []) ∷ (Idle 4 ∷ many 0 1 50 ∷ []) ∷ (Idle 4 ∷ many 0 1 50 ∷ []) ∷ [])) {
  k = 2;
  horizon = h;
  window = 8;
  depths = record depths { low_forward = low };
  combine = false ∷ false ∷ [];
  words = [];
  pages = record { k = 2; pages = record { amount = 0; base = 0 } ∷ [] };
}

abbrev length_out : ℕ → Option MachineState → ℕ
length_out o (Some (Low s)) = length (queue_at s.fwd o).items
length_out o _ = 99

-- of low switch 8 + d, output o, the lengths by cycle
abbrev lengths : Project → ℕ → ℕ → List ℕ
lengths P c o = map (λ S. length_out o (slice_get S c)) (run P)

example_15_stage_0 : (lengths (P15 4 6) 8 0 ∷ lengths (P15 4 6) 9 0 ∷ lengths (P15 4 6) 8 1 ∷ lengths (P15 4 6) 9 1 ∷ []) ≡
    (0 ∷ 0 ∷ 1 ∷ 1 ∷ 1 ∷ 1 ∷ 3 ∷ []) ∷ (0 ∷ 0 ∷ 1 ∷ 1 ∷ 1 ∷ 2 ∷ 3 ∷ []) ∷ (0 ∷ 0 ∷ 0 ∷ 0 ∷ 0 ∷ 0 ∷ 0 ∷ []) ∷ (0 ∷ 0 ∷ 0 ∷ 0 ∷ 0 ∷ 0 ∷ 0 ∷ []) ∷ []
example_15_stage_0 = refl

example_15_stage_1 : (lengths (P15 4 6) 10 0 ∷ lengths (P15 4 6) 10 1 ∷ lengths (P15 4 6) 11 0 ∷ lengths (P15 4 6) 11 1 ∷ []) ≡
    (0 ∷ 0 ∷ 0 ∷ 2 ∷ 3 ∷ 3 ∷ 3 ∷ []) ∷ (0 ∷ 0 ∷ 0 ∷ 0 ∷ 0 ∷ 0 ∷ 0 ∷ []) ∷ (0 ∷ 0 ∷ 0 ∷ 0 ∷ 0 ∷ 0 ∷ 0 ∷ []) ∷ (0 ∷ 0 ∷ 0 ∷ 0 ∷ 0 ∷ 0 ∷ 0 ∷ []) ∷ []
example_15_stage_1 = refl

-- with depth 2 a queue is full from length 1 on: stage 1 first at cycle 3, all at cycle 4
example_15_two : (lengths (P15 2 5) 8 0 ∷ lengths (P15 2 5) 9 0 ∷ lengths (P15 2 5) 10 0 ∷ []) ≡
    (0 ∷ 0 ∷ 1 ∷ 0 ∷ 1 ∷ 0 ∷ []) ∷ (0 ∷ 0 ∷ 1 ∷ 0 ∷ 1 ∷ 1 ∷ []) ∷ (0 ∷ 0 ∷ 0 ∷ 2 ∷ 1 ∷ 1 ∷ []) ∷ []
example_15_two = refl

example_15_long : counter served_in (P15 16 20) ≡ 16
example_15_long = refl

example_15_counts : (sum_over (λ s. issued_in s) (map (λ S. option_to_list (slice_get S 0)) (run (P15 4 6))) ∷ counter served_in (P15 4 6) ∷ []) ≡ 6 ∷ 2 ∷ []
example_15_counts = refl

-- 24
example_24_first : replies_of (base (one (plain Add 0 1) ∷ one (sync Add 0 2) ∷ [])) 0 ≡ got 6 0 10 ∷ []
example_24_first = refl

example_24_second : replies_of (base (one (plain Add 0 1) ∷ one (sync Add 0 2) ∷ [])) 1 ≡ got 7 0 11 ∷ []
example_24_second = refl

-- 23
example_23 : replies_of (with_horizon 12 (base ((plain Store 0 7 ∷ sync Load 0 0 ∷ []) ∷ []))) 0 ≡ got 6 0 10 ∷ got 11 1 7 ∷ []
example_23 = refl

example_23_fence : replies_of (with_horizon 12 (base ((plain Store 0 7 ∷ Fence ∷ sync Load 0 0 ∷ []) ∷ []))) 0 ≡ got 6 0 10 ∷ got 12 1 7 ∷ []
example_23_fence = refl

example_23_idle : replies_of (with_horizon 12 (base ((Idle 3 ∷ sync Add 0 1 ∷ []) ∷ []))) 0 ≡ got 9 0 10 ∷ []
example_23_idle = refl

-- 5.1
abbrev P51 : Project
P51 = record (base (one (sync Add 0 1) ∷ one (sync Add 0 2) ∷ one (sync Add 0 4) ∷ one (sync Add 0 8) ∷ [])) {
  k = 2;
  combine = true ∷ true ∷ [];
  words = [];
  pages = record { k = 2; pages = record { amount = 0; base = 0 } ∷ [] };
}

example_51 : (replies_of P51 0 ++ replies_of P51 1 ++ replies_of P51 2 ++ replies_of P51 3) ≡ got 8 0 0 ∷ got 8 0 5 ∷ got 8 0 1 ∷ got 8 0 7 ∷ []
example_51 = refl

example_51_served : counter served_in P51 ≡ 1
example_51_served = refl

example_51_memory : slice_index_or (memory 4 0 (run P51)) 10 1 ≡ 15
example_51_memory = refl

-- 17, 2.1, 2.2: k 0
abbrev built_in : List ScriptEntry → Project
built_in script = record (base (script ∷ [])) { k = 0; horizon = 8; combine = []; pages = record { k = 0; pages = [] }; words = record { address = 0; word = 10 } ∷ [] }

example_17 : replies_of (built_in (one (sync Add 0 1))) 0 ≡ got 4 0 10 ∷ []
example_17 = refl

example_21 : replies_of (built_in (plain Store 0 7 ∷ sync Load 0 0 ∷ [])) 0 ≡ got 4 0 10 ∷ got 7 1 7 ∷ []
example_21 = refl

example_21_fence : replies_of (built_in (plain Store 0 7 ∷ Fence ∷ sync Load 0 0 ∷ [])) 0 ≡ got 4 0 10 ∷ got 8 1 7 ∷ []
example_21_fence = refl

abbrev three : Project
three = record (built_in (one (Reference true (add 1) 0 3))) { words = [] }

example_22 : replies_of three 0 ≡ got 4 0 0 ∷ got 7 1 1 ∷ []
example_22 = refl

example_22_window : replies_of (record three { window = 3 }) 0 ≡ got 4 0 0 ∷ got 5 1 1 ∷ got 6 2 2 ∷ []
example_22_window = refl

abbrev twenty : Project
twenty = record (built_in (one (sync Add 0 1))) { words = record { address = 0; word = 20 } ∷ [] }

example_17_processor : option_and_then (λ S. slice_get S 0) (slice_get (run twenty) 4) ≡ Some (Proc (record {
  index = 1;
  spent = 0;
  issued = 1;
  pending = 0;
  out = None;
  got = None ∷ Some (record { tag = tag 0 0; word = 20 }) ∷ [];
  sent = false;
}))
example_17_processor = refl

example_17_module_3 : option_and_then (λ S. slice_get S 1) (slice_get (run twenty) 3) ≡ Some (Module (record {
  words = record { row = 0; word = 21 } ∷ [];
  requests = empty ∷ empty ∷ [];
  replies = empty ∷ record { items = record { tag = tag 0 0; word = 20 } ∷ [] } ∷ [];
  turn = LowNet;
  served = true;
}))
example_17_module_3 = refl

-- routes: the wires by the module's bits give the lines, which end at the module; by the processor's bits they lead back
abbrev followed : ℕ → ℕ → ℕ → ℕ → ℕ
followed k m zero l = l
followed k m (suc n) l = followed k m n (2 * (l % half k) + bit n m)

abbrev walked : ℕ → ℕ → ℕ → ℕ → ℕ
walked k p zero l = l
walked k p (suc n) l = walked k p n (bit (k - 1 - n) p * half k + l / 2)

abbrev routes_hold : ℕ → Bool
routes_hold k = list_all (λ p. list_all (λ m.
    (followed k m k p == m) && (line_at k p m k == m) && (walked k p k m == p) && list_all (λ s. line_at k p m (suc s) == 2 * (line_at k p m s % half k) + bit (k - 1 - s) m) (below k))
    (below (2 ^ k))) (below (2 ^ k))

example_routes : (routes_hold 0 ∷ routes_hold 1 ∷ routes_hold 2 ∷ routes_hold 3 ∷ []) ≡ true ∷ true ∷ true ∷ true ∷ []
example_routes = refl

example_routes_4 : routes_hold 4 ≡ true
example_routes_4 = refl

-- numbers and neighbours
example_near : (near 0 0 ∷ near 0 1 ∷ near 1 0 ∷ near 1 2 ∷ near 1 4 ∷ near 1 5 ∷ near 2 9 ∷ near 2 14 ∷ []) ≡
    (0 ∷ 1 ∷ []) ∷ (1 ∷ 0 ∷ []) ∷ (0 ∷ 4 ∷ 5 ∷ []) ∷ (2 ∷ 4 ∷ 5 ∷ []) ∷ (4 ∷ 0 ∷ 1 ∷ 2 ∷ 3 ∷ []) ∷ (5 ∷ 0 ∷ 1 ∷ 2 ∷ 3 ∷ []) ∷ (9 ∷ 1 ∷ 3 ∷ 10 ∷ 11 ∷ []) ∷ (14 ∷ 12 ∷ 13 ∷ 4 ∷ 5 ∷ []) ∷ []
example_near = refl

example_components : (components 0 ∷ components 1 ∷ components 2 ∷ components 5 ∷ components 6 ∷ []) ≡ 2 ∷ 6 ∷ 16 ∷ 224 ∷ 512 ∷ []
example_components = refl

-- 7
example_7 : (place_on (record { amount = 1; base = 0 }) 0 ∷ place_on (record { amount = 1; base = 0 }) 1 ∷ place_on (record { amount = 1; base = 0 }) 255
    ∷ place_on (record { amount = 0; base = 1 }) 16383 ∷ place_on (record { amount = 0; base = 1 }) 300 ∷ []) ≡
    place 0 0 ∷ place 1 0 ∷ place 1 127 ∷ place 1 16383 ∷ place 1 300 ∷ []
example_7 = refl
