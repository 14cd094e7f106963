use Rattle.std.proofs.Common.{◌≡◌, ◌<◌, ◌/◌, ◌∙◌, ℕ, sym, ap, subst, refl, arith, List, Bool, true, false, ◌||◌, ◌&&◌, not, length, get_or}
use Rattle.change_rows.specs.Marks.{is_in}
use Rattle.change_rows.specs.Laid.{IsTold}
use Rattle.change_rows.specs.Kinds.{AreMoved, IsRowLaid}
use Rattle.change_rows.proofs.Sourcing.{not_in}
use Rattle.change_rows.proofs.Sorting.{asked_member, asked_still, moved_laid, told_all, over_all, noted_less}
use Rattle.change_rows.proofs.sourced.lay_from.Goals as goal

asked_first : (a b : Bool) → (a && not b) ≡ true → a ≡ true
asked_first true b e = refl
asked_first false b e = e

pub ask_all-requires-clause-sorted : goal.ask_all-requires-clause-sorted
ask_all-requires-clause-sorted g c =
    let b = c.sort.ensures.begun in
    let t = c.tell_apart.ensures in
    record {
      changes = c.requires.kept.changes;
      row = c.requires.can.row;
      begun = record {
        own = λ d h. ap (λ (v : List ℕ). is_in v d) t.own ∙ b.own d h;
        under = λ d h. ap (λ (v : List ℕ). is_in v d) t.under ∙ b.under d h;
      };
    }

pub are_same-requires-clause-sorted : goal.are_same-requires-clause-sorted
are_same-requires-clause-sorted g c =
    let b = c.sort.ensures.begun in
    let t = c.tell_apart.ensures in
    record {
      changes = c.requires.kept.changes;
      row = c.requires.can.row;
      begun = record {
        own = λ d h. ap (λ (v : List ℕ). is_in v d) t.own ∙ b.own d h;
        under = λ d h. ap (λ (v : List ℕ). is_in v d) t.under ∙ b.under d h;
      };
    }

pub keep_noted-requires-clause-sorted : goal.keep_noted-requires-clause-sorted
keep_noted-requires-clause-sorted g c =
    let b = c.sort.ensures.begun in
    let t = c.tell_apart.ensures in
    record {
      changes = c.requires.kept.changes;
      row = c.requires.can.row;
      begun = record {
        own = λ d h. ap (λ (v : List ℕ). is_in v d) t.own ∙ b.own d h;
        under = λ d h. ap (λ (v : List ℕ). is_in v d) t.under ∙ b.under d h;
      };
    }

pub ask_all-requires-clause-has : goal.ask_all-requires-clause-has
ask_all-requires-clause-has g c = λ d h m.
    let s = c.args.s.now in
    let k = c.sort.new.k in
    let o = c.sort.ensures in
    let t = c.tell_apart.ensures in
    let first : (d : ℕ) → d < s.width → is_in c.deref.result.now d ≡ true → is_in k.asked.items d ≡ true = λ d h m. asked_first (is_in k.asked.items d) (is_in c.args.n.now.apart.items d) (sym (ap (λ (v : List ℕ). is_in v d) c.deref.ensures.value ∙ t.asked d (omega (arith, h, o.room.asked))) ∙ m) in
    c.requires.can.has d h (asked_member s.rows.items s.seam s.at s.width c.args.set.now k.own.items k.under.items k.moved.items k.asked.items k.laid.items (g.S.Source.still c.args.source.now) (g.S.Source.words c.args.source.now) o.begun.own o.begun.under o.moved o.asked o.laid c.requires.can.still d h (first d h m)).0

pub ask_all-requires-clause-still : goal.ask_all-requires-clause-still
ask_all-requires-clause-still g c = λ d h m.
    let s = c.args.s.now in
    let k = c.sort.new.k in
    let o = c.sort.ensures in
    let t = c.tell_apart.ensures in
    let first : (d : ℕ) → d < s.width → is_in c.deref.result.now d ≡ true → is_in k.asked.items d ≡ true = λ d h m. asked_first (is_in k.asked.items d) (is_in c.args.n.now.apart.items d) (sym (ap (λ (v : List ℕ). is_in v d) c.deref.ensures.value ∙ t.asked d (omega (arith, h, o.room.asked))) ∙ m) in
    asked_still s.rows.items s.seam s.at s.width c.args.set.now k.own.items k.under.items k.moved.items k.asked.items k.laid.items (g.S.Source.still c.args.source.now) (g.S.Source.words c.args.source.now) o.begun.own o.begun.under o.moved o.asked o.laid c.requires.can.still d h (first d h m)

pub lay_all-requires-clause-can : goal.lay_all-requires-clause-can
lay_all-requires-clause-can g c =
    let s = c.args.s.now in
    let k = c.sort.new.k in
    let o = c.sort.ensures in
    let b = c.sort.ensures.begun in
    let t = c.tell_apart.ensures in
    record {
      sorted = record {
        changes = c.requires.kept.changes;
        row = c.requires.can.row;
        begun = record {
          own = λ d h. ap (λ (v : List ℕ). is_in v d) t.own ∙ b.own d h;
          under = λ d h. ap (λ (v : List ℕ). is_in v d) t.under ∙ b.under d h;
        };
      };
      among = λ d h m.
          ap (λ (v : List ℕ). is_in v d) (c.deref-3.ensures.value ∙ t.laid)
          ∙ moved_laid s.rows.items s.seam s.at s.width c.args.set.now k.own.items k.under.items k.moved.items k.asked.items k.laid.items (g.S.Source.still c.args.source.now) (g.S.Source.words c.args.source.now) o.begun.own o.begun.under o.moved o.asked o.laid c.requires.can.still d h (ap (λ (v : List ℕ). is_in v d) (sym t.moved) ∙ m);
      has = λ d h m. c.requires.can.has d h (o.moved.among d h (ap (λ (v : List ℕ). is_in v d) (sym t.moved) ∙ m));
    }

pub keep_noted-requires-clause-within : goal.keep_noted-requires-clause-within
keep_noted-requires-clause-within g c = λ d m.
    let s = c.args.s.now in
    let k = c.sort.new.k in
    let o = c.sort.ensures in
    let t = c.tell_apart.ensures in
    let is_changed : (d : ℕ) → d / 64 < length c.args.set.now → is_in c.join-2.new.set d ≡ (((is_in c.args.n.now.apart.items d && is_in k.asked.items d) || is_in c.ask_all.new.n.other.items d) || is_in c.lay_all.new.n.other.items d) = λ d h.
    c.join-2.ensures.members d (omega (arith, h, c.join.ensures.len, t.len, c.requires.changed))
    ∙ ap (λ (b : Bool). b || is_in c.deref-4.result.now d) (c.join.ensures.members d (omega (arith, h, t.len, c.requires.changed)) ∙ ap (λ (b : Bool). b || is_in c.deref-2.result.now d) (t.told d (omega (arith, h, c.requires.changed))) ∙ ap (λ (v : List ℕ). (is_in c.args.n.now.apart.items d && is_in k.asked.items d) || is_in v d) c.deref-2.ensures.value)
    ∙ ap (λ (v : List ℕ). ((is_in c.args.n.now.apart.items d && is_in k.asked.items d) || is_in c.ask_all.new.n.other.items d) || is_in v d) c.deref-4.ensures.value in
    let len : length c.join-2.new.set ≡ length c.args.set.now = c.join-2.ensures.len ∙ c.join.ensures.len ∙ t.len ∙ c.requires.changed in
    let told1 : IsTold s.rows.items s.seam s.at s.at c.tell_apart.new.k.asked.items (g.S.Source.words c.args.source.now) s.width c.ask_all.new.n.other.items = subst (λ (v : List ℕ). IsTold s.rows.items s.seam s.at s.at v (g.S.Source.words c.args.source.now) s.width c.ask_all.new.n.other.items) c.deref.ensures.value c.in_ok-ask_all.ensures.told in
    let told2 : IsTold s.rows.items s.seam s.at s.at k.moved.items (g.S.Source.words c.args.source.now) s.width c.lay_all.new.n.other.items = subst (λ (v : List ℕ). IsTold s.rows.items s.seam s.at s.at v (g.S.Source.words c.args.source.now) s.width c.lay_all.new.n.other.items) t.moved c.in_ok-lay_all.ensures.laid.told in
    let told : IsTold s.rows.items s.seam s.at s.at c.args.set.now (g.S.Source.words c.args.source.now) s.width c.join-2.new.set = told_all s.rows.items s.seam s.at s.width c.args.set.now k.own.items k.under.items k.moved.items k.asked.items k.laid.items (g.S.Source.still c.args.source.now) (g.S.Source.words c.args.source.now) o.begun.own o.begun.under o.moved o.asked o.laid c.requires.can.still c.args.n.now.apart.items c.tell_apart.new.k.asked.items c.ask_all.new.n.other.items c.lay_all.new.n.other.items c.join-2.new.set len (λ d h. t.asked d (omega (arith, h, o.room.asked))) is_changed c.requires.kept.noted.apart told1 told2 in
    (told.others d m).0

pub returns-in_err-lay_all-clause-kept : goal.returns-in_err-lay_all-clause-kept
returns-in_err-lay_all-clause-kept g c =
    let s = c.args.s.now in
    let k = c.sort.new.k in
    let o = c.sort.ensures in
    let t = c.tell_apart.ensures in
    let f = c.forget_moved.ensures in
    let a = c.lay_all.ensures.stays in
    record {
      changes = c.requires.kept.changes;
      room = record { own = omega (arith, o.room.own, ap length t.own); under = omega (arith, o.room.under, ap length t.under); moved = omega (arith, o.room.moved, ap length t.moved); asked = omega (arith, o.room.asked, t.asked_len); laid = omega (arith, o.room.laid, ap length t.laid) };
      notes = a.room;
      noted = noted_less s.rows.items s.seam s.at s.width c.tell_apart.new.k.moved.items c.ask_all.new.n c.lay_all.new.n c.ask_all.ensures.notes.noted c.ask_all.ensures.notes.room.known (a.apart ∙ f.apart) (λ d h. ap (λ (v : List ℕ). is_in v d) (a.known) ∙ f.known d h) (λ d m. a.others d m ∙ ap (λ (v : List ℕ). get_or v d 0) f.heads);
    }

pub returns-in_err-keep_noted-clause-kept : goal.returns-in_err-keep_noted-clause-kept
returns-in_err-keep_noted-clause-kept g c =
    let s = c.args.s.now in
    let k = c.sort.new.k in
    let o = c.sort.ensures in
    let t = c.tell_apart.ensures in
    let f = c.forget_moved.ensures in
    let a = c.lay_all.ensures.stays in
    let b = c.keep_noted.ensures.noted in
    record {
      changes = c.requires.kept.changes;
      room = record { own = omega (arith, o.room.own, ap length t.own); under = omega (arith, o.room.under, ap length t.under); moved = omega (arith, o.room.moved, ap length t.moved); asked = omega (arith, o.room.asked, t.asked_len); laid = omega (arith, o.room.laid, ap length t.laid) };
      notes = c.keep_noted.ensures.room;
      noted = noted_less s.rows.items s.seam s.at s.width c.tell_apart.new.k.moved.items c.ask_all.new.n c.keep_noted.new.n c.ask_all.ensures.notes.noted c.ask_all.ensures.notes.room.known (b.apart ∙ a.apart ∙ f.apart) (λ d h. ap (λ (v : List ℕ). is_in v d) (b.known ∙ a.known) ∙ f.known d h) (λ d m. ap (λ (v : List ℕ). get_or v d 0) b.heads ∙ a.others d m ∙ ap (λ (v : List ℕ). get_or v d 0) f.heads);
    }

pub returns-clause-kept : goal.returns-clause-kept
returns-clause-kept g c =
    let s = c.args.s.now in
    let k = c.sort.new.k in
    let o = c.sort.ensures in
    let t = c.tell_apart.ensures in
    let f = c.forget_moved.ensures in
    let a = c.lay_all.ensures.stays in
    let b = c.keep_noted.ensures.noted in
    record {
      changes = c.requires.kept.changes;
      room = record { own = omega (arith, o.room.own, ap length t.own); under = omega (arith, o.room.under, ap length t.under); moved = omega (arith, o.room.moved, ap length t.moved); asked = omega (arith, o.room.asked, t.asked_len); laid = omega (arith, o.room.laid, ap length t.laid) };
      notes = c.keep_noted.ensures.room;
      noted = noted_less s.rows.items s.seam s.at s.width c.tell_apart.new.k.moved.items c.ask_all.new.n c.keep_noted.new.n c.ask_all.ensures.notes.noted c.ask_all.ensures.notes.room.known (b.apart ∙ a.apart ∙ f.apart) (λ d h. ap (λ (v : List ℕ). is_in v d) (b.known ∙ a.known) ∙ f.known d h) (λ d m. ap (λ (v : List ℕ). get_or v d 0) b.heads ∙ a.others d m ∙ ap (λ (v : List ℕ). get_or v d 0) f.heads);
    }

pub returns-clause-told : goal.returns-clause-told
returns-clause-told g c =
    let s = c.args.s.now in
    let k = c.sort.new.k in
    let o = c.sort.ensures in
    let t = c.tell_apart.ensures in
    let is_changed : (d : ℕ) → d / 64 < length c.args.set.now → is_in c.join-2.new.set d ≡ (((is_in c.args.n.now.apart.items d && is_in k.asked.items d) || is_in c.ask_all.new.n.other.items d) || is_in c.lay_all.new.n.other.items d) = λ d h.
    c.join-2.ensures.members d (omega (arith, h, c.join.ensures.len, t.len, c.requires.changed))
    ∙ ap (λ (b : Bool). b || is_in c.deref-4.result.now d) (c.join.ensures.members d (omega (arith, h, t.len, c.requires.changed)) ∙ ap (λ (b : Bool). b || is_in c.deref-2.result.now d) (t.told d (omega (arith, h, c.requires.changed))) ∙ ap (λ (v : List ℕ). (is_in c.args.n.now.apart.items d && is_in k.asked.items d) || is_in v d) c.deref-2.ensures.value)
    ∙ ap (λ (v : List ℕ). ((is_in c.args.n.now.apart.items d && is_in k.asked.items d) || is_in c.ask_all.new.n.other.items d) || is_in v d) c.deref-4.ensures.value in
    let len : length c.join-2.new.set ≡ length c.args.set.now = c.join-2.ensures.len ∙ c.join.ensures.len ∙ t.len ∙ c.requires.changed in
    let told1 : IsTold s.rows.items s.seam s.at s.at c.tell_apart.new.k.asked.items (g.S.Source.words c.args.source.now) s.width c.ask_all.new.n.other.items = subst (λ (v : List ℕ). IsTold s.rows.items s.seam s.at s.at v (g.S.Source.words c.args.source.now) s.width c.ask_all.new.n.other.items) c.deref.ensures.value c.in_ok-ask_all.ensures.told in
    let told2 : IsTold s.rows.items s.seam s.at s.at k.moved.items (g.S.Source.words c.args.source.now) s.width c.lay_all.new.n.other.items = subst (λ (v : List ℕ). IsTold s.rows.items s.seam s.at s.at v (g.S.Source.words c.args.source.now) s.width c.lay_all.new.n.other.items) t.moved c.in_ok-lay_all.ensures.laid.told in
    let told : IsTold s.rows.items s.seam s.at s.at c.args.set.now (g.S.Source.words c.args.source.now) s.width c.join-2.new.set = told_all s.rows.items s.seam s.at s.width c.args.set.now k.own.items k.under.items k.moved.items k.asked.items k.laid.items (g.S.Source.still c.args.source.now) (g.S.Source.words c.args.source.now) o.begun.own o.begun.under o.moved o.asked o.laid c.requires.can.still c.args.n.now.apart.items c.tell_apart.new.k.asked.items c.ask_all.new.n.other.items c.lay_all.new.n.other.items c.join-2.new.set len (λ d h. t.asked d (omega (arith, h, o.room.asked))) is_changed c.requires.kept.noted.apart told1 told2 in
    told

pub returns-clause-laid : goal.returns-clause-laid
returns-clause-laid g c = λ _.
    let s = c.args.s.now in
    let k = c.sort.new.k in
    let o = c.sort.ensures in
    let t = c.tell_apart.ensures in
    let is_changed : (d : ℕ) → d / 64 < length c.args.set.now → is_in c.join-2.new.set d ≡ (((is_in c.args.n.now.apart.items d && is_in k.asked.items d) || is_in c.ask_all.new.n.other.items d) || is_in c.lay_all.new.n.other.items d) = λ d h.
    c.join-2.ensures.members d (omega (arith, h, c.join.ensures.len, t.len, c.requires.changed))
    ∙ ap (λ (b : Bool). b || is_in c.deref-4.result.now d) (c.join.ensures.members d (omega (arith, h, t.len, c.requires.changed)) ∙ ap (λ (b : Bool). b || is_in c.deref-2.result.now d) (t.told d (omega (arith, h, c.requires.changed))) ∙ ap (λ (v : List ℕ). (is_in c.args.n.now.apart.items d && is_in k.asked.items d) || is_in v d) c.deref-2.ensures.value)
    ∙ ap (λ (v : List ℕ). ((is_in c.args.n.now.apart.items d && is_in k.asked.items d) || is_in c.ask_all.new.n.other.items d) || is_in v d) c.deref-4.ensures.value in
    let len : length c.join-2.new.set ≡ length c.args.set.now = c.join-2.ensures.len ∙ c.join.ensures.len ∙ t.len ∙ c.requires.changed in
    let told1 : IsTold s.rows.items s.seam s.at s.at c.tell_apart.new.k.asked.items (g.S.Source.words c.args.source.now) s.width c.ask_all.new.n.other.items = subst (λ (v : List ℕ). IsTold s.rows.items s.seam s.at s.at v (g.S.Source.words c.args.source.now) s.width c.ask_all.new.n.other.items) c.deref.ensures.value c.in_ok-ask_all.ensures.told in
    let told2 : IsTold s.rows.items s.seam s.at s.at k.moved.items (g.S.Source.words c.args.source.now) s.width c.lay_all.new.n.other.items = subst (λ (v : List ℕ). IsTold s.rows.items s.seam s.at s.at v (g.S.Source.words c.args.source.now) s.width c.lay_all.new.n.other.items) t.moved c.in_ok-lay_all.ensures.laid.told in
    let told : IsTold s.rows.items s.seam s.at s.at c.args.set.now (g.S.Source.words c.args.source.now) s.width c.join-2.new.set = told_all s.rows.items s.seam s.at s.width c.args.set.now k.own.items k.under.items k.moved.items k.asked.items k.laid.items (g.S.Source.still c.args.source.now) (g.S.Source.words c.args.source.now) o.begun.own o.begun.under o.moved o.asked o.laid c.requires.can.still c.args.n.now.apart.items c.tell_apart.new.k.asked.items c.ask_all.new.n.other.items c.lay_all.new.n.other.items c.join-2.new.set len (λ d h. t.asked d (omega (arith, h, o.room.asked))) is_changed c.requires.kept.noted.apart told1 told2 in
    let row : IsRowLaid s.rows.items s.seam s.at k.moved.items k.laid.items (g.S.Source.words c.args.source.now) s.width c.lay_all.new.row =
    subst (λ (v : List ℕ). IsRowLaid s.rows.items s.seam s.at v k.laid.items (g.S.Source.words c.args.source.now) s.width c.lay_all.new.row) t.moved
    (subst (λ (v : List ℕ). IsRowLaid s.rows.items s.seam s.at c.tell_apart.new.k.moved.items v (g.S.Source.words c.args.source.now) s.width c.lay_all.new.row) (c.deref-3.ensures.value ∙ t.laid) c.in_ok-lay_all.ensures.laid.row) in
    record {
      over = over_all s.rows.items s.seam s.at s.width c.args.set.now k.own.items k.under.items k.moved.items k.asked.items k.laid.items (g.S.Source.still c.args.source.now) (g.S.Source.words c.args.source.now) o.begun.own o.begun.under o.moved o.asked o.laid c.requires.can.still c.join-2.new.set c.keep_noted.new.n.kept.items c.lay_all.new.row c.keep_noted.new.seam (c.requires.kept.changes.wide s.at) c.requires.kept.changes.seam_wide told row c.keep_noted.ensures.kept c.in_ok-keep_noted.ensures.laid;
      heads = λ d h m. ap (λ (v : List ℕ). get_or v d 0) c.keep_noted.ensures.noted.heads ∙ c.in_ok-lay_all.ensures.heads.put d h m;
      kept = c.keep_noted.ensures.kept;
    }

pub returns-clause-moved : goal.returns-clause-moved
returns-clause-moved g c = subst (λ (v : List ℕ). AreMoved (g.S.Source.still c.args.source.now) c.args.s.now.width c.args.set.now v) (sym c.tell_apart.ensures.moved) c.sort.ensures.moved

pub returns-then-branch-clause-told : goal.returns-then-branch-clause-told
returns-then-branch-clause-told g c =
    let s = c.args.s.now in
    let k = c.sort.new.k in
    let o = c.sort.ensures in
    let t = c.tell_apart.ensures in
    let void : (d : ℕ) → is_in c.join.new.set d ≡ false = c.is_void.ensures c.if-is_void.true in
    let is_joined : (d : ℕ) → d / 64 < length c.args.set.now → is_in c.join.new.set d ≡ ((is_in c.args.n.now.apart.items d && is_in k.asked.items d) || is_in c.ask_all.new.n.other.items d) = λ d h.
    c.join.ensures.members d (omega (arith, h, t.len, c.requires.changed))
    ∙ ap (λ (b : Bool). b || is_in c.deref-2.result.now d) (t.told d (omega (arith, h, c.requires.changed)))
    ∙ ap (λ (v : List ℕ). (is_in c.args.n.now.apart.items d && is_in k.asked.items d) || is_in v d) c.deref-2.ensures.value in
    let is_changed : (d : ℕ) → d / 64 < length c.args.set.now → is_in c.join.new.set d ≡ (((is_in c.args.n.now.apart.items d && is_in k.asked.items d) || is_in c.ask_all.new.n.other.items d) || is_in c.join.new.set d) = λ d h.
    void d ∙ sym (ap (λ (b : Bool). b || is_in c.join.new.set d) (sym (is_joined d h) ∙ void d) ∙ void d) in
    let told1 : IsTold s.rows.items s.seam s.at s.at c.tell_apart.new.k.asked.items (g.S.Source.words c.args.source.now) s.width c.ask_all.new.n.other.items = subst (λ (v : List ℕ). IsTold s.rows.items s.seam s.at s.at v (g.S.Source.words c.args.source.now) s.width c.ask_all.new.n.other.items) c.deref.ensures.value c.in_ok-ask_all.ensures.told in
    let told2 : IsTold s.rows.items s.seam s.at s.at k.moved.items (g.S.Source.words c.args.source.now) s.width c.join.new.set = record {
      others = λ d i. absurd (not_in c.join.new.set d (void d) i);
      same = λ d h m _. c.in_ok-are_same.ensures.same c.if-branch.true d h (ap (λ (v : List ℕ). is_in v d) (c.deref-then-is_void.ensures.value ∙ t.moved) ∙ m);
    } in
    told_all s.rows.items s.seam s.at s.width c.args.set.now k.own.items k.under.items k.moved.items k.asked.items k.laid.items (g.S.Source.still c.args.source.now) (g.S.Source.words c.args.source.now) o.begun.own o.begun.under o.moved o.asked o.laid c.requires.can.still c.args.n.now.apart.items c.tell_apart.new.k.asked.items c.ask_all.new.n.other.items c.join.new.set c.join.new.set (c.join.ensures.len ∙ t.len ∙ c.requires.changed) (λ d h. t.asked d (omega (arith, h, o.room.asked))) is_changed c.requires.kept.noted.apart told1 told2
