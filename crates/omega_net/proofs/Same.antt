-- What `==` of messages decides: that they are the same.
use Rattle.std.proofs.Common.{rules, Bool, refl, ◌≡◌, ◌∙◌, ap}
use Rattle.std.specs.Bool.{Decides}
use Rattle.std.proofs.lemmas.Bool.Decides.{Decides-and, Decides-eqb, Decides-like}
use Rattle.std.proofs.lemmas.Slice.Eq.{slice_eq-Decides}
use Rattle.std.specs.Cmp.Lexicographic.{pointwise}
use Rattle.arrayvec.specs.ArrayVec.{ArrayVec}
use denote.Enum.Bare.{same_true, true_same, sameb}
use Rattle.page_map.specs.declared.place.Place.{Place}
use Rattle.word_ops.specs.declared.kind.Kind.{Kind}
use Rattle.word_ops.specs.declared.op.Op.{Op}
use Rattle.word_ops.specs.contracts.kind.Kind.{the_type}
use Rattle.omega_net.specs.declared.message.Tag.{Tag}
use Rattle.omega_net.specs.declared.message.Request.{Request}
use Rattle.omega_net.specs.declared.message.Reply.{Reply}
use Rattle.omega_net.specs.contracts.message.TagPartialEq.TheImpl as tags
use Rattle.omega_net.specs.contracts.message.RequestPartialEq.TheImpl as requests
use Rattle.omega_net.specs.contracts.message.ReplyPartialEq.TheImpl as replies
use Rattle.page_map.specs.contracts.place.PlacePartialEq.TheImpl as places
use Rattle.word_ops.specs.contracts.op.OpPartialEq.TheImpl as ops

-- a value with these two fields is the same where both fields are
pub same_two : {X Y R : Type 0} (make : X → Y → R) {x x' : X} {y y' : Y} → (x ≡ x') × (y ≡ y') → make x y ≡ make x' y'
same_two make {x'} {y} e = ap (λ u. make u y) e.0 ∙ ap (λ v. make x' v) e.1

pub same_three : {X Y Z R : Type 0} (make : X → Y → Z → R) {x x' : X} {y y' : Y} {z z' : Z}
    → (x ≡ x') × ((y ≡ y') × (z ≡ z')) → make x y z ≡ make x' y' z'
same_three make {x'} {y'} {z} e = same_two (λ u v. make u v z) (e.0, e.1.0) ∙ ap (λ w. make x' y' w) e.1.1

pub tag_decides : (a b : Tag) → Decides (tags.eq-value.it a b) (a ≡ b)
tag_decides a b =
    Decides-like _ (same_two (λ p i. record { proc = p; issue = i })) (λ e. (ap (λ t. t.proc) e, ap (λ t. t.issue) e))
    (Decides-and _ _ (Decides-eqb a.proc b.proc) (Decides-eqb a.issue b.issue))

pub place_decides : (a b : Place) → Decides (places.eq-value.it a b) (a ≡ b)
place_decides a b =
    Decides-like _ (same_two (λ m r. record { «module» = m; row = r })) (λ e. (ap (λ p. p.«module») e, ap (λ p. p.row) e))
    (Decides-and _ _ (Decides-eqb a.«module» b.«module») (Decides-eqb a.row b.row))

kind_decides : (a b : Kind) → Decides (sameb the_type a b) (a ≡ b)
kind_decides a b = (same_true the_type (search rules) a b, true_same the_type a b)

pub op_decides : (a b : Op) → Decides (ops.eq-value.it a b) (a ≡ b)
op_decides a b =
    Decides-like _ (same_two (λ k n. record { kind = k; operand = n })) (λ e. (ap (λ o. o.kind) e, ap (λ o. o.operand) e))
    (Decides-and _ _ (kind_decides a.kind b.kind) (Decides-eqb a.operand b.operand))

pub request_decides : (a b : Request) → Decides (requests.eq-value.it a b) (a ≡ b)
request_decides a b =
    Decides-like _ (same_three (λ t p o. record { tag = t; place = p; op = o })) (λ e. (ap (λ r. r.tag) e, (ap (λ r. r.place) e, ap (λ r. r.op) e)))
    (Decides-and _ _ (tag_decides a.tag b.tag) (Decides-and _ _ (place_decides a.place b.place) (op_decides a.op b.op)))

pub reply_decides : (a b : Reply) → Decides (replies.eq-value.it a b) (a ≡ b)
reply_decides a b =
    Decides-like _ (same_two (λ t w. record { tag = t; word = w })) (λ e. (ap (λ r. r.tag) e, ap (λ r. r.word) e))
    (Decides-and _ _ (tag_decides a.tag b.tag) (Decides-eqb a.word b.word))

-- two queues are the same where their messages are
pub queue_decides : {T : Type 0} {E : T → T → Bool} → ((a b : T) → Decides (E a b) (a ≡ b)) → (p q : ArrayVec T) → Decides (pointwise E p.items q.items) (p ≡ q)
queue_decides {E} each p q =
    Decides-like _ (ap (λ xs. record { items = xs })) (ap (λ v. v.items)) (slice_eq-Decides each p.items q.items (pointwise E p.items q.items) refl)
