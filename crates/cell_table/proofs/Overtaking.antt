-- What has become of a cell since its claim.
use Rattle.std.proofs.Common.{◌≡◌, ℕ, ◌+◌, ◌-◌, ◌<◌, ◌≤◌, ◌∙◌, sym, ap, refl, arith, Bool, true, false, cond, ltb, eqb, ◌||◌, ◌&&◌, ◌⊎◌, inl, inr, Option, None, Some, List, [], ◌∷◌, ◌++◌, length, length-append}
use Rattle.std.specs.List.{AllByRecursion}
use Rattle.std.proofs.lemmas.Bool.{true≢false, false≢true, cases_Bool, ltb-true, ltb-false, lt-ltb, le-ltb, eqb-true, eqb-false, and_parts, and_cases, or_cases, and_right}
use Rattle.grid_law.specs.Rules.{Rules, Laws, Agrees, Differ}
use Rattle.cell_states.specs.Near.{has}
use Rattle.cell_table.specs.Reads.{reads_any}
use Rattle.cell_table.specs.Events.{Event, Edits, Claims, Stores, Start, slots_of, horizon_of}
use Rattle.cell_table.specs.Values.{val, vals, near_vals}
use Rattle.cell_table.specs.Due.{changes, stores, due}
use Rattle.cell_table.specs.Clock.{ticks, clock_of, version_of}
use Rattle.cell_table.specs.Stands.{IsLegal}
use Rattle.cell_table.specs.Overtaken.{removes, affects, overtaken}
use Rattle.due_cells.proofs.States.{none_has, neither}
use Rattle.cell_table.proofs.Touched.{not_contained}
use Rattle.cell_table.proofs.Standing.{cond_later}

vals_same : {State : Type 0} (f g : ℕ → Option State) (ms : List ℕ) → AllByRecursion (λ m. f m ≡ g m) ms → vals f ms ≡ vals g ms
vals_same f g [] p = refl
vals_same f g (m ∷ ms) p = rw (p.0, vals_same f g ms p.1) refl

each : {Q : ℕ → Type 0} (ms : List ℕ) → ((m : ℕ) → Q m) → AllByRecursion Q ms
each [] f = tt
each (m ∷ ms) f = (f m, each ms f)

each_from : {P Q : ℕ → Type 0} (ms : List ℕ) → ((m : ℕ) → P m → Q m) → AllByRecursion P ms → AllByRecursion Q ms
each_from [] f p = tt
each_from (m ∷ ms) f p = (f m p.0, each_from ms f p.1)

module _ {State Slots Slot : Type 0} (R : Rules State Slots Slot) (laws : Laws R) where
  -- slots that aren't listed are the same
  agrees_unlisted : (a b : Slots) (listed : List Slot) (near : List State) (c : ℕ) → Differ R a b listed → reads_any R a c listed (Some near) ≡ false → Agrees R a b near c
  agrees_unlisted a b listed near c differ h = record {
    shape = differ.shape;
    slots = λ slot r. differ.complete slot (not_contained (λ s. R.reads a near c s) listed slot h r);
  }

  agrees_along : (a b d : Slots) (near : List State) (c : ℕ) → Agrees R a b near c → Agrees R b d near c → Agrees R a d near c
  agrees_along a b d near c p q = record {
    shape = laws.shape_along a b d p.shape q.shape;
    slots = λ slot r. laws.at_along a b d slot (p.slots slot r) (q.slots slot (sym (laws.same_reads a b near c p slot) ∙ r));
  }

module _ {State Slots Slot : Type 0} (R : Rules State Slots Slot) (laws : Laws R) (o : Start Slots) where
  ticks_if_changes : (e : Event State Slots Slot) (h : List (Event State Slots Slot)) (t c : ℕ) → changes R o e h t c ≡ true → ticks R o e h ≡ true
  ticks_if_changes (Edits next listed to) h t c p = refl
  ticks_if_changes (Claims t1 c1) h t c p = absurd (false≢true p)
  ticks_if_changes (Stores t1 c1 x changed) h t c p = (and_parts _ _ p).0

  clock_rises : (e : Event State Slots Slot) (h : List (Event State Slots Slot)) → clock_of R o h ≤ clock_of R o (e ∷ h)
  clock_rises e h = by_tick (ticks R o e h)
    where
      by_tick : (b : Bool) → clock_of R o h ≤ cond b (clock_of R o h + 1) (clock_of R o h)
      by_tick true = omega arith
      by_tick false = omega arith

  version_below : (h : List (Event State Slots Slot)) (t c : ℕ) → version_of R o h t c ≤ clock_of R o h
  version_below [] t c = omega arith
  version_below (e ∷ h) t c = by_change (changes R o e h t c) (version_below h t c) (clock_rises e h)
    where
      by_change : (b : Bool) → version_of R o h t c ≤ clock_of R o h → clock_of R o h ≤ clock_of R o (e ∷ h) → cond b (clock_of R o (e ∷ h)) (version_of R o h t c) ≤ clock_of R o (e ∷ h)
      by_change true p q = omega arith
      by_change false p q = omega arith

  clock_after : (later earlier : List (Event State Slots Slot)) → clock_of R o earlier ≤ clock_of R o (later ++ earlier)
  clock_after [] earlier = omega arith
  clock_after (e ∷ later) earlier = omega (arith, clock_after later earlier, clock_rises e (later ++ earlier))

cond_same : {X : Type 0} (b : Bool) (x y : X) → (b ≡ true → x ≡ y) → cond b x y ≡ y
cond_same true x y f = f refl
cond_same false x y f = refl

and_rest : (a b : Bool) → a ≡ true → (a && b) ≡ false → b ≡ false
and_rest true b e h = h
and_rest false b e h = absurd (false≢true e)

module _ {State Slots Slot : Type 0} (R : Rules State Slots Slot) (o : Start Slots) where
  legal_before : (e : Event State Slots Slot) (h : List (Event State Slots Slot)) → IsLegal R o (e ∷ h) → IsLegal R o h
  legal_before (Edits next listed to) h l = l.1
  legal_before (Claims t c) h l = l
  legal_before (Stores t c x changed) h l = l.1

longer : {X : Type 0} (later earlier : List X) (x : X) → length earlier < length (later ++ x ∷ earlier)
longer later earlier x = simp length-append (omega arith)

module _ {State Slots Slot : Type 0} (R : Rules State Slots Slot) (laws : Laws R) (o : Start Slots) (t c : ℕ) (earlier : List (Event State Slots Slot)) (near : List State) where
  -- the cell is as it was at its claim
  pub record IsUntouched (h : List (Event State Slots Slot)) : Type 0 where
    pub cycle : t ≤ horizon_of o h
    pub is_due : due R o h t c ≡ true
    pub version : version_of R o h t c ≡ version_of R o earlier t c
    pub inputs : near_vals R o h t c ≡ Some near
    pub agrees : Agrees R (slots_of o earlier) (slots_of o h) near c

  untouched_step : (e : Event State Slots Slot) (h : List (Event State Slots Slot)) → IsLegal R o (e ∷ h) → IsUntouched h → changes R o e h t c ≡ false → stores e t c ≡ false → removes e t c ≡ false → IsUntouched (e ∷ h)
  untouched_step (Claims t1 c1) h legal u p q r = record { cycle = u.cycle; is_due = u.is_due; version = u.version; inputs = u.inputs; agrees = u.agrees }
  untouched_step (Edits next listed to) h legal u p q r = record {
    cycle = ltb-false to t r;
    is_due = rw p u.is_due;
    version = rw p u.version;
    inputs = cond_later t (Some []) _ _ (λ n. same_vals n) ∙ u.inputs;
    agrees = agrees_along R laws _ (slots_of o h) next near c u.agrees (agrees_unlisted R laws (slots_of o h) next listed near c legal.0 (sym (ap (reads_any R (slots_of o h) c listed) u.inputs) ∙ (neither _ _ p).1));
  }
    where
      same_vals : (t ≡ 0 → ⊥) → vals (val R o (Edits next listed to ∷ h) (t - 1)) (R.near next c) ≡ vals (val R o h (t - 1)) (R.near (slots_of o h) c)
      same_vals n =
          ap (vals (val R o (Edits next listed to ∷ h) (t - 1))) (sym (laws.shape_near (slots_of o h) next c legal.0.shape)) ∙ vals_same (val R o (Edits next listed to ∷ h) (t - 1)) (val R o h (t - 1)) (R.near (slots_of o h) c) (each (R.near (slots_of o h) c) (λ m. ap (λ b. cond b None (val R o h (t - 1) m)) (le-ltb (horizon_of o h) (t - 1) (omega (arith, u.cycle)))))
  untouched_step (Stores t1 c1 x changed) h legal u p q r = record {
    cycle = u.cycle;
    is_due = rw (p, q) u.is_due;
    version = rw p u.version;
    inputs = cond_later t (Some []) _ _ (λ n. vals_same (val R o (Stores t1 c1 x changed ∷ h) (t - 1)) (val R o h (t - 1)) (R.near (slots_of o h) c) (same_vals n (and_cases _ _ p))) ∙ u.inputs;
    agrees = u.agrees;
  }
    where
      same_vals : (t ≡ 0 → ⊥) → (changed ≡ false) ⊎ ((eqb t (t1 + 1) && has (R.near (slots_of o h) c) c1) ≡ false) → AllByRecursion (λ m. val R o (Stores t1 c1 x changed ∷ h) (t - 1) m ≡ val R o h (t - 1) m) (R.near (slots_of o h) c)
      same_vals n (inl e) = each (R.near (slots_of o h) c) (λ m. cond_same ((eqb (t - 1) t1) && (eqb m c1)) (Some x) (val R o h (t - 1) m) (λ k. let i : t - 1 ≡ t1 = eqb-true (t - 1) t1 (and_parts (eqb (t - 1) t1) (eqb m c1) k).0 in let j : m ≡ c1 = eqb-true m c1 (and_parts (eqb (t - 1) t1) (eqb m c1) k).1 in rw (i, j) (sym (legal.0.0 e))))
      same_vals n (inr e) = apart (and_cases (eqb t (t1 + 1)) (has (R.near (slots_of o h) c) c1) e)
        where
          apart : (eqb t (t1 + 1) ≡ false) ⊎ (has (R.near (slots_of o h) c) c1 ≡ false) → AllByRecursion (λ m. val R o (Stores t1 c1 x changed ∷ h) (t - 1) m ≡ val R o h (t - 1) m) (R.near (slots_of o h) c)
          apart (inl f) = each (R.near (slots_of o h) c) (λ m. cond_same ((eqb (t - 1) t1) && (eqb m c1)) (Some x) (val R o h (t - 1) m) (λ k. let i : t - 1 ≡ t1 = eqb-true (t - 1) t1 (and_parts (eqb (t - 1) t1) (eqb m c1) k).0 in absurd (eqb-false t (t1 + 1) f (omega arith))))
          apart (inr f) = each_from (R.near (slots_of o h) c) (λ m g. cond_same ((eqb (t - 1) t1) && (eqb m c1)) (Some x) (val R o h (t - 1) m) (λ k. absurd (g (eqb-true m c1 (and_parts (eqb (t - 1) t1) (eqb m c1) k).1)))) (none_has (R.near (slots_of o h) c) c1 f)

  pub untouched : (later : List (Event State Slots Slot)) → IsLegal R o (later ++ Claims t c ∷ earlier) → IsUntouched (Claims t c ∷ earlier) → overtaken R o (later ++ Claims t c ∷ earlier) (length earlier) t c ≡ false → IsUntouched (later ++ Claims t c ∷ earlier)
  untouched [] legal first h = first
  untouched (e ∷ later) legal first h =
      let none = neither _ _ (and_rest _ _ (lt-ltb (length earlier) _ (longer later earlier (Claims t c))) h) in
      let unaffected = neither _ _ none.0 in
      let others = neither _ _ unaffected.1 in
      untouched_step e (later ++ Claims t c ∷ earlier) legal (untouched later (legal_before R o e (later ++ Claims t c ∷ earlier) legal) first none.1) unaffected.0 others.0 others.1

  -- the cell is gone, stored, or of a later version
  abbrev pub WasOvertaken : List (Event State Slots Slot) → Type 0
  WasOvertaken h = (horizon_of o h < t) ⊎ ((due R o h t c ≡ false) ⊎ (version_of R o earlier t c < version_of R o h t c))

  changed_since : (e : Event State Slots Slot) (later : List (Event State Slots Slot)) → changes R o e (later ++ Claims t c ∷ earlier) t c ≡ true → WasOvertaken (e ∷ later ++ Claims t c ∷ earlier)
  changed_since e later h =
      inr (inr (rw (h, ticks_if_changes R laws o e (later ++ Claims t c ∷ earlier) t c h) (omega (arith, version_below R laws o earlier t c, clock_after R laws o later (Claims t c ∷ earlier)))))

  kept_since : (e : Event State Slots Slot) (h : List (Event State Slots Slot)) → changes R o e h t c ≡ false → WasOvertaken h → WasOvertaken (e ∷ h)
  kept_since (Claims t1 c1) h p w = w
  kept_since (Edits next listed to) h p (inl w) = absurd (omega (arith, ltb-false (horizon_of o h) t (neither _ _ p).0))
  kept_since (Edits next listed to) h p (inr (inl w)) = inr (inl (rw (p, w) refl))
  kept_since (Edits next listed to) h p (inr (inr w)) = inr (inr (rw p w))
  kept_since (Stores t1 c1 x changed) h p (inl w) = inl w
  kept_since (Stores t1 c1 x changed) h p (inr (inl w)) = inr (inl (rw (p, w) (and_right _ false refl)))
  kept_since (Stores t1 c1 x changed) h p (inr (inr w)) = inr (inr (rw p w))

  stored_since : (e : Event State Slots Slot) (h : List (Event State Slots Slot)) → changes R o e h t c ≡ false → stores e t c ≡ true → WasOvertaken (e ∷ h)
  stored_since e h p q = inr (inl (rw (p, q) refl))

  removed_since : (e : Event State Slots Slot) (h : List (Event State Slots Slot)) → removes e t c ≡ true → WasOvertaken (e ∷ h)
  removed_since (Edits next listed to) h r = inl (ltb-true to t r)
  removed_since (Claims t1 c1) h r = absurd (false≢true r)
  removed_since (Stores t1 c1 x changed) h r = absurd (false≢true r)

  pub was_overtaken : (later : List (Event State Slots Slot)) → overtaken R o (later ++ Claims t c ∷ earlier) (length earlier) t c ≡ true → WasOvertaken (later ++ Claims t c ∷ earlier)
  was_overtaken [] h = absurd (omega (arith, ltb-true (length earlier) (length earlier) (and_parts (ltb (length earlier) (length earlier)) _ h).0))
  was_overtaken (e ∷ later) h =
      since (cases_Bool (changes R o e (later ++ Claims t c ∷ earlier) t c)) (or_cases _ _ (and_parts _ _ h).1) (was_overtaken later)
    where
      since : (changes R o e (later ++ Claims t c ∷ earlier) t c ≡ true) ⊎ (changes R o e (later ++ Claims t c ∷ earlier) t c ≡ false) → (affects R o e (later ++ Claims t c ∷ earlier) t c ≡ true) ⊎ (overtaken R o (later ++ Claims t c ∷ earlier) (length earlier) t c ≡ true) → (overtaken R o (later ++ Claims t c ∷ earlier) (length earlier) t c ≡ true → WasOvertaken (later ++ Claims t c ∷ earlier)) → WasOvertaken (e ∷ later ++ Claims t c ∷ earlier)
      since (inl p) q f = changed_since e later p
      since (inr p) (inr q) f = kept_since e (later ++ Claims t c ∷ earlier) p (f q)
      since (inr p) (inl q) f = affected (or_cases _ _ q)
        where
          affected : (changes R o e (later ++ Claims t c ∷ earlier) t c ≡ true) ⊎ ((stores e t c || removes e t c) ≡ true) → WasOvertaken (e ∷ later ++ Claims t c ∷ earlier)
          affected (inl k) = absurd (true≢false (sym k ∙ p))
          affected (inr k) = by_kind (or_cases _ _ k)
            where
              by_kind : (stores e t c ≡ true) ⊎ (removes e t c ≡ true) → WasOvertaken (e ∷ later ++ Claims t c ∷ earlier)
              by_kind (inl m) = stored_since e (later ++ Claims t c ∷ earlier) p m
              by_kind (inr m) = removed_since e (later ++ Claims t c ∷ earlier) m
