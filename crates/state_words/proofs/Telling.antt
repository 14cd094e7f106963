-- Fields are read out of the words that they were written in.
use Rattle.std.proofs.Common.{◌≡◌, ℕ, ◌+◌, ◌*◌, ◌/◌, ◌%◌, ◌^◌, ◌<◌, ◌≤◌, min, Bool, true, false, refl, ap, ◌∙◌, arith, nat_eq}
use Rattle.word_ops.specs.Words.{kind_bits, kind_number}
use Rattle.word_ops.proofs.Known.{known}
use Rattle.omega_net.specs.declared.component.Net.{Net}
use Rattle.omega_net.specs.declared.component.Net.TheVariants.{Low, Comb}
use Rattle.omega_net.specs.declared.message.Request.{Request}
use Rattle.omega_net.specs.declared.message.Reply.{Reply}
use Rattle.omega_net.specs.Wires.{net_number}
use Rattle.omega_net.specs.Limits.{queue_places}
use Rattle.ref_proc.specs.declared.state.Outgoing.{Outgoing}
use Rattle.comb_switch.specs.declared.waiting.Waiting.{Waiting}
use Rattle.state_words.specs.Messages.{request_first, request_second, request_from, out_first, out_second, out_from, reply_first, reply_second, reply_from, wait_first, wait_second, wait_from, net_from}
use Rattle.state_words.specs.Words.{one_if, queues_head, bytes}
use Rattle.state_words.specs.Reading.{count_in, mark_in}
use Rattle.state_words.specs.Fits.{IsRequest, IsReply, IsOutgoing, IsWaiting}

pub net_back : (n : Net) → net_from (net_number n) ≡ n
net_back Low = refl
net_back Comb = refl

pub net_small : (n : Net) → net_number n < 2
net_small Low = omega arith
net_small Comb = omega arith

pub one_small : (b : Bool) → one_if b < 2
one_small true = omega arith
one_small false = omega arith

pub one_back : (b : Bool) (n : ℕ) → n % 2 ≡ one_if b → mark_in n ≡ b
one_back true n h = ap (λ m. nat_eq m 1) h
one_back false n h = ap (λ m. nat_eq m 1) h

-- the four fields of a first word
quarter_a : (a b c d : ℕ) → a < 2 ^ 8 → b < 2 ^ 8 → c < 2 ^ 16 → (a + 2 ^ 8 * b + 2 ^ 16 * c + 2 ^ 32 * d) % 2 ^ 8 ≡ a
quarter_a a b c d ha hb hc = omega (arith, ha)

quarter_b : (a b c d : ℕ) → a < 2 ^ 8 → b < 2 ^ 8 → c < 2 ^ 16 → (a + 2 ^ 8 * b + 2 ^ 16 * c + 2 ^ 32 * d) / 2 ^ 8 % 2 ^ 8 ≡ b
quarter_b a b c d ha hb hc = omega (arith, ha, hb)

quarter_c : (a b c d : ℕ) → a < 2 ^ 8 → b < 2 ^ 8 → c < 2 ^ 16 → (a + 2 ^ 8 * b + 2 ^ 16 * c + 2 ^ 32 * d) / 2 ^ 16 % 2 ^ 16 ≡ c
quarter_c a b c d ha hb hc = omega (arith, ha, hb, hc)

quarter_d : (a b c d : ℕ) → a < 2 ^ 8 → b < 2 ^ 8 → c < 2 ^ 16 → (a + 2 ^ 8 * b + 2 ^ 16 * c + 2 ^ 32 * d) / 2 ^ 32 ≡ d
quarter_d a b c d ha hb hc = omega (arith, ha, hb, hc)

half_a : (a b : ℕ) → a < 2 ^ 32 → (a + 2 ^ 32 * b) % 2 ^ 32 ≡ a
half_a a b h = omega (arith, h)

half_b : (a b : ℕ) → a < 2 ^ 32 → (a + 2 ^ 32 * b) / 2 ^ 32 ≡ b
half_b a b h = omega (arith, h)

-- those of the second word of a request on its way out
second_a : (a k n : ℕ) → a < 2 ^ 32 → (a + 2 ^ 32 * k + 2 ^ (32 + kind_bits) * n) % 2 ^ 32 ≡ a
second_a a k n h = omega (arith, h)

second_b : (a k n : ℕ) → a < 2 ^ 32 → k < 2 ^ kind_bits → (a + 2 ^ 32 * k + 2 ^ (32 + kind_bits) * n) / 2 ^ 32 % 2 ^ kind_bits ≡ k
second_b a k n h few = omega (arith, h, few)

second_c : (a k n : ℕ) → a < 2 ^ 32 → k < 2 ^ kind_bits → n < 2 → (a + 2 ^ 32 * k + 2 ^ (32 + kind_bits) * n) / 2 ^ (32 + kind_bits) % 2 ≡ n
second_c a k n h few one = omega (arith, h, few, one)

-- those of a wait entry's
fourth_a : (a b c k : ℕ) → a < 2 ^ 32 → (a + 2 ^ 32 * b + 2 ^ 40 * c + 2 ^ 48 * k) % 2 ^ 32 ≡ a
fourth_a a b c k h = omega (arith, h)

fourth_b : (a b c k : ℕ) → a < 2 ^ 32 → b < 2 ^ 8 → (a + 2 ^ 32 * b + 2 ^ 40 * c + 2 ^ 48 * k) / 2 ^ 32 % 2 ^ 8 ≡ b
fourth_b a b c k h hb = omega (arith, h, hb)

fourth_c : (a b c k : ℕ) → a < 2 ^ 32 → b < 2 ^ 8 → c < 2 ^ 8 → (a + 2 ^ 32 * b + 2 ^ 40 * c + 2 ^ 48 * k) / 2 ^ 40 % 2 ^ 8 ≡ c
fourth_c a b c k h hb hc = omega (arith, h, hb, hc)

fourth_d : (a b c k : ℕ) → a < 2 ^ 32 → b < 2 ^ 8 → c < 2 ^ 8 → k < 2 ^ kind_bits → (a + 2 ^ 32 * b + 2 ^ 40 * c + 2 ^ 48 * k) / 2 ^ 48 % 2 ^ kind_bits ≡ k
fourth_d a b c k h hb hc few = omega (arith, h, hb, hc, few)

-- messages
with_top : (r : Request) (n : ℕ) → IsRequest r → request_from (request_first r) (request_second r + 2 ^ (32 + kind_bits) * n) ≡ r
with_top r n h =
    let p = r.place in
    rw (
      quarter_a r.tag.proc p.«module» p.row r.op.operand h.tag.proc h.«module» h.row,
      quarter_b r.tag.proc p.«module» p.row r.op.operand h.tag.proc h.«module» h.row,
      quarter_c r.tag.proc p.«module» p.row r.op.operand h.tag.proc h.«module» h.row,
      quarter_d r.tag.proc p.«module» p.row r.op.operand h.tag.proc h.«module» h.row,
      second_a r.tag.issue (kind_number r.op.kind) n h.tag.issue,
      second_b r.tag.issue (kind_number r.op.kind) n h.tag.issue ((known r.op.kind).small),
      (known r.op.kind).numbered,
    ) refl

pub request_back : (r : Request) → IsRequest r → request_from (request_first r) (request_second r) ≡ r
request_back r h = ap (request_from (request_first r)) (plain (request_second r)) ∙ with_top r 0 h
  where
    plain : (n : ℕ) → n ≡ n + 2 ^ (32 + kind_bits) * 0
    plain n = omega arith

pub out_back : (o : Outgoing) → IsOutgoing o → out_from (out_first o) (out_second o) ≡ o
out_back o h =
    let r = o.request in
    rw (
      second_c r.tag.issue (kind_number r.op.kind) (net_number o.net) h.request.tag.issue ((known r.op.kind).small) (net_small o.net),
      net_back o.net,
      with_top r (net_number o.net) h.request,
    ) refl

pub reply_back : (r : Reply) → IsReply r → reply_from (reply_first r) (reply_second r) ≡ r
reply_back r h = rw (byte r.tag.proc h.tag.proc, half_a r.tag.issue r.word h.tag.issue, half_b r.tag.issue r.word h.tag.issue) refl
  where
    byte : (n : ℕ) → n < 2 ^ 8 → n % 2 ^ 8 ≡ n
    byte n b = omega (arith, b)

pub wait_back : (w : Waiting) → IsWaiting w → wait_from (wait_first w) (wait_second w) ≡ w
wait_back w h =
    let k = kind_number w.op.kind in
    rw (
      half_a w.first.issue w.op.operand h.first.issue,
      half_b w.first.issue w.op.operand h.first.issue,
      fourth_a w.second.issue w.first.proc w.second.proc k h.second.issue,
      fourth_b w.second.issue w.first.proc w.second.proc k h.second.issue h.first.proc,
      fourth_c w.second.issue w.first.proc w.second.proc k h.second.issue h.first.proc h.second.proc,
      fourth_d w.second.issue w.first.proc w.second.proc k h.second.issue h.first.proc h.second.proc ((known w.op.kind).small),
      (known w.op.kind).numbered,
    ) refl

-- the fields of a head with lengths
pub record IsHead (h k a b c d e s : ℕ) : Type 0 where
  pub kind : h % 2 ^ 2 ≡ k
  pub first : h / 2 ^ 2 % 2 ^ 5 ≡ a
  pub second : h / 2 ^ 7 % 2 ^ 5 ≡ b
  pub third : h / 2 ^ 12 % 2 ^ 5 ≡ c
  pub fourth : h / 2 ^ 17 % 2 ^ 5 ≡ d
  pub fifth : h / 2 ^ 22 % 2 ^ 5 ≡ e
  pub small : h / 2 ^ 27 ≡ s

pub head_parts : (k a b c d e s : ℕ) → k < 4 → a ≤ queue_places → b ≤ queue_places → c ≤ queue_places → d ≤ queue_places → e ≤ queue_places
    → IsHead (queues_head k a b c d e s) k a b c d e s
head_parts k a b c d e s hk ha hb hc hd he = record {
  kind = omega (arith, hk);
  first = omega (arith, hk, ha);
  second = omega (arith, hk, ha, hb);
  third = omega (arith, hk, ha, hb, hc);
  fourth = omega (arith, hk, ha, hb, hc, hd);
  fifth = omega (arith, hk, ha, hb, hc, hd, he);
  small = omega (arith, hk, ha, hb, hc, hd, he);
}

pub counted : (x n : ℕ) → n ≤ queue_places → x % 2 ^ 5 ≡ n → count_in x ≡ n
counted x n h e = ap (λ m. min m queue_places) e ∙ few n h
  where
    few : (k : ℕ) → k ≤ queue_places → min k queue_places ≡ k
    few k b = omega (arith, b)

-- the fields of a processor's head
pub record IsProcHead (h o f g t i p : ℕ) : Type 0 where
  pub kind : h % 2 ^ 2 ≡ 0
  pub out : h / 2 ^ 2 % 2 ≡ o
  pub first : h / 2 ^ 3 % 2 ≡ f
  pub second : h / 2 ^ 4 % 2 ≡ g
  pub sent : h / 2 ^ 5 % 2 ≡ t
  pub index : h / 2 ^ 6 % 2 ^ 16 ≡ i
  pub pending : h / 2 ^ 22 % 2 ^ 32 ≡ p

pub proc_parts : (o f g t i p : ℕ) → o < 2 → f < 2 → g < 2 → t < 2 → i < 2 ^ 16 → p < 2 ^ 32
    → IsProcHead (2 ^ 2 * o + 2 ^ 3 * f + 2 ^ 4 * g + 2 ^ 5 * t + 2 ^ 6 * i + 2 ^ 22 * p) o f g t i p
proc_parts o f g t i p ho hf hg ht hi hp = record {
  kind = omega arith;
  out = omega (arith, ho);
  first = omega (arith, ho, hf);
  second = omega (arith, ho, hf, hg);
  sent = omega (arith, ho, hf, hg, ht);
  index = omega (arith, ho, hf, hg, ht, hi);
  pending = omega (arith, ho, hf, hg, ht, hi, hp);
}

-- four bytes from bit 27 on
pub record HasBytes (h a b c d : ℕ) : Type 0 where
  pub first : h / 2 ^ 27 % 2 ^ 8 ≡ a
  pub second : h / 2 ^ 35 % 2 ^ 8 ≡ b
  pub third : h / 2 ^ 43 % 2 ^ 8 ≡ c
  pub fourth : h / 2 ^ 51 % 2 ^ 8 ≡ d

pub bytes_back : (h a b c d : ℕ) → h / 2 ^ 27 ≡ bytes a b c d → a < 2 ^ 8 → b < 2 ^ 8 → c < 2 ^ 8 → d < 2 ^ 8 → HasBytes h a b c d
bytes_back h a b c d e ha hb hc hd = record {
  first = omega (arith, e, ha);
  second = omega (arith, e, ha, hb);
  third = omega (arith, e, ha, hb, hc);
  fourth = omega (arith, e, ha, hb, hc, hd);
}

-- two bits from bit 27 on
pub turn_bit : (h a b : ℕ) → h / 2 ^ 27 ≡ a + 2 * b → a < 2 → h / 2 ^ 27 % 2 ≡ a
turn_bit h a b e ha = omega (arith, e, ha)

pub served_bit : (h a b : ℕ) → h / 2 ^ 27 ≡ a + 2 * b → a < 2 → b < 2 → h / 2 ^ 28 % 2 ≡ b
served_bit h a b e ha hb = omega (arith, e, ha, hb)
