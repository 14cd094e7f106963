-- Real time on a machine, computed: with a window of 1 a processor takes a reply and issues the next reference in one step.
use Rattle.std.proofs.Common.{◌≡◌, ℕ, refl, [], ◌∷◌, None, Some, true, arith}
use Rattle.word_ops.specs.declared.op.Op.{Op}
use Rattle.word_ops.specs.declared.kind.Kind.TheVariants.{Add}
use Rattle.omega_net.specs.declared.component.Net.TheVariants.{Comb as CombNet}
use Rattle.omega_net.specs.declared.message.Tag.{Tag}
use Rattle.omega_net.specs.declared.message.Reply.{Reply}
use Rattle.omega_net.specs.declared.script.ScriptEntry.TheVariants.{Reference as ReferenceEntry}
use Rattle.ref_proc.specs.declared.state.ProcState.{ProcState}
use Rattle.project_book.specs.declared.scale.Scale.TheVariants.{Usual}
use Rattle.project_book.specs.Project.{Project}
use Rattle.serial_order.specs.References.{Reference}
use Rattle.serial_order.specs.Order.{order_of}
use Rattle.serial_order.specs.OneOrder.{one_order}
use Rattle.serial_order.specs.RealTime.{Precedes}

abbrev add_one : Op
add_one = record { kind = Add; operand = 1 }

-- one processor and one module, and two adds to word 0
abbrev two_adds : Project
two_adds = record {
  scale = Usual;
  k = 0;
  horizon = 8;
  window = 1;
  depths = record { low_forward = 4; low_reverse = 4; comb_forward = 4; comb_reverse = 8; module_queue = 4 };
  wait = 4;
  combine = [];
  pages = record { k = 0; pages = record { amount = 0; base = 0 } ∷ [] };
  words = record { address = 0; word = 10 } ∷ [];
  scripts = (ReferenceEntry true add_one 0 2 ∷ []) ∷ [];
}

abbrev tag : ℕ → Tag
tag n = record { proc = 0; issue = n }

abbrev add : ℕ → Reference
add n = record { net = CombNet; request = record { tag = tag n; place = record { «module» = 0; row = 0 }; op = add_one } }

abbrev reply : Reply
reply = record { tag = tag 0; word = 10 }

-- the processor at cycle 4: the reply to the first add has come, and the second is out
abbrev at_4 : ProcState
at_4 = record {
  index = 1;
  spent = 0;
  issued = 2;
  pending = 1;
  out = Some (record { net = CombNet; request = (add 1).request });
  got = None ∷ Some reply ∷ [];
  sent = true;
}

-- so the first precedes the second in real time. With `<` in the place of `≤` this wouldn't check: 4 isn't below 4
reply_and_issue_in_one_cycle : Precedes two_adds (add 0) (add 1)
reply_and_issue_in_one_cycle = record {
  reply = reply;
  received = record { cycle = 4; proc = 0; there = omega arith; state = at_4; is = refl; port = 1; two = omega arith; got = refl };
  answers = refl;
  issued = record { cycle = 4; proc = 0; there = omega arith; state = at_4; is = refl; sent = refl; out = refl };
  by_then = omega arith;
}

their_order : order_of two_adds 0 ≡ Some (tag 0 ∷ tag 1 ∷ [])
their_order = refl

their_one_order : one_order two_adds ≡ tag 0 ∷ tag 1 ∷ []
their_one_order = refl
