-- Lemmas on edits that are taken back.
use Rattle.std.proofs.Common.{◌≡◌, ℕ, ◌+◌, ◌<◌, ◌≤◌, Bool, true, false, ◌&&◌, List, [], ◌∷◌, ◌++◌, length, take, get_or, refl, sym, ap, ◌∙◌, subst, append-nil, append_assoc, arith}
use Rattle.std.specs.Prelude.{Option, None, Some, Result, Ok, Err, IfOk, OnOk, drop, not, slice_get}
use Rattle.std.proofs.lemmas.Bool.Decides.{nat_tests}
use Rattle.std.specs.List.{list_all}
use Rattle.std.specs.Io.KnownBytes.{Appends}
use Rattle.std.proofs.KnownBytes.{Appends-nil, Appends-trans}
use Rattle.std.proofs.lemmas.List.{take_more, take_all}
use Rattle.std.proofs.lemmas.List.Folds.{list_all-append}
use Rattle.project_book.specs.declared.edit.Edit.{Edit}
use Rattle.commands.specs.declared.command.Command.TheVariants as command
use Rattle.bench_shell.specs.Store.{Store}
use Rattle.bench_shell.specs.Output.{reply, after, is_long, is_ok, command_in}
use Rattle.bench_shell.specs.Own.{edit_of}
use Rattle.bench_shell.specs.Lines.{Whole}
use Rattle.bench_shell.specs.declared.answer.Answer.{Answer}
use Rattle.bench_shell.specs.declared.answer.Answer.TheVariants.{Refused}
use Rattle.lab_shell.specs.declared.manner.Manner.{Manner}
use Rattle.lab_shell.specs.declared.manner.Voice.{Voice}
use Rattle.lab_shell.specs.declared.manner.Seat.{Seat}
use Rattle.lab_shell.specs.declared.manner.Seat.TheVariants.{First, Later}
use Rattle.lab_shell.specs.declared.manner.Ended.{Ended}
use Rattle.lab_shell.specs.Sessions.{held, has_room, noted, replies, after_edits, after_line, after_undo, undo_answers}
use Rattle.lab_shell.specs.Talks.{answer_text, answers_text, answer_to, closing, line_at, nothing_text, opening, several, stop_at, Undone}
use Rattle.lab_shell.proofs.Ranging.{seat_behind, later_stays}

replies_more : (s : Store) (es : List Edit) (e : Edit) → replies s (es ++ e ∷ []) ≡ replies s es ++ reply (after_edits s es) (Some (command.Edit e)) ∷ []
replies_more s [] e = refl
replies_more s (x ∷ xs) e = ap (λ l. reply s (Some (command.Edit x)) ∷ l) (replies_more (after s (Some (command.Edit x))) xs e)

after_more : (s : Store) (es : List Edit) (e : Edit) → after_edits s (es ++ e ∷ []) ≡ after (after_edits s es) (Some (command.Edit e))
after_more s [] e = refl
after_more s (x ∷ xs) e = after_more (after s (Some (command.Edit x))) xs e

and_true : (b : Bool) → b && true ≡ b
and_true true = refl
and_true false = refl

answers_more : (voice : Voice) (seat : Seat) (first : List Answer) (a : Answer) → answers_text voice seat (first ++ a ∷ []) ≡ answers_text voice seat first ++ answer_text voice (seat_behind seat first) a
answers_more voice seat [] a = append-nil (answer_text voice seat a)
answers_more voice seat (x ∷ xs) a =
    ap (λ l. answer_text voice seat x ++ l) (answers_more voice Later xs a ∙ ap (λ at. answers_text voice Later xs ++ answer_text voice at a) (later_stays xs))
    ∙ sym (append_assoc (answer_text voice seat x) (answers_text voice Later xs) (answer_text voice Later a))

replies_seat : (s : Store) (es : List Edit) → seat_behind First (replies s es) ≡ seat_behind First es
replies_seat s [] = refl
replies_seat s (e ∷ es) = refl

-- the first of these edits were made
pub record FirstRemade (voice : Voice) (edits : List Edit) (writer writer' : Option (List ℕ)) (s : Store) (i : ℕ) (t : Store) (all : Bool) : Type 0 where
  pub written : Appends writer writer' (answers_text voice First (replies s (take i edits)))
  pub store : t ≡ after_edits s (take i edits)
  pub taken : all ≡ list_all is_ok (replies s (take i edits))

pub first_none : (voice : Voice) (edits : List Edit) (writer : Option (List ℕ)) (s : Store) → FirstRemade voice edits writer writer s 0 s true
first_none voice edits writer s = record { written = Appends-nil writer; store = refl; taken = refl }

pub first_more : (voice : Voice) (seat : Seat) (edits : List Edit) (writer writer1 writer' : Option (List ℕ)) (s u t : Store) (i : ℕ) (d e : Edit) (all taken last : Bool) → i < length edits → e ≡ get_or edits i d → last ≡ (all && taken)
    → seat ≡ seat_behind First (take i edits) → FirstRemade voice edits writer writer1 s i u all → Appends writer1 writer' (answer_text voice seat (reply u (Some (command.Edit e)))) → t ≡ after u (Some (command.Edit e))
    → taken ≡ is_ok (reply u (Some (command.Edit e))) → FirstRemade voice edits writer writer' s (i + 1) t last
first_more voice seat edits writer writer1 writer' s u t i d e all taken last lt is both at h written store ok =
    let next : take (i + 1) edits ≡ take i edits ++ e ∷ [] = take_more edits i d lt ∙ ap (λ x. take i edits ++ x ∷ []) (sym is) in
    let answers : replies s (take (i + 1) edits) ≡ replies s (take i edits) ++ reply u (Some (command.Edit e)) ∷ [] =
    ap (replies s) next ∙ replies_more s (take i edits) e ∙ ap (λ x. replies s (take i edits) ++ reply x (Some (command.Edit e)) ∷ []) (sym h.store) in
    let seated : seat_behind First (replies s (take i edits)) ≡ seat = replies_seat s (take i edits) ∙ sym at in
    let text : answers_text voice First (replies s (take (i + 1) edits)) ≡ answers_text voice First (replies s (take i edits)) ++ answer_text voice seat (reply u (Some (command.Edit e))) =
    ap (answers_text voice First) answers ∙ answers_more voice First (replies s (take i edits)) (reply u (Some (command.Edit e)))
    ∙ ap (λ z. answers_text voice First (replies s (take i edits)) ++ answer_text voice z (reply u (Some (command.Edit e)))) seated in
    let bools : list_all is_ok (replies s (take (i + 1) edits)) ≡ list_all is_ok (replies s (take i edits)) && is_ok (reply u (Some (command.Edit e))) =
    ap (list_all is_ok) answers ∙ list_all-append is_ok (replies s (take i edits)) (reply u (Some (command.Edit e)) ∷ [])
    ∙ ap (λ b. list_all is_ok (replies s (take i edits)) && b) (and_true (is_ok (reply u (Some (command.Edit e))))) in
    record {
      written = subst (λ l. Appends writer writer' l) (sym text) (Appends-trans writer writer1 writer' _ _ h.written written);
      store = store ∙ ap (λ x. after x (Some (command.Edit e))) h.store ∙ sym (after_more s (take i edits) e) ∙ sym (ap (after_edits s) next);
      taken = both ∙ ap (λ b. b && taken) h.taken ∙ ap (λ b. list_all is_ok (replies s (take i edits)) && b) ok ∙ sym bools;
    }

pub first_next : (voice : Voice) (seat : Seat) (edits : List Edit) (writer writer1 writer' : Option (List ℕ)) (s u t : Store) (i : ℕ) (d : Edit) (all taken last : Bool) → i < length edits → last ≡ (all && taken)
    → seat ≡ seat_behind First (take i edits) → FirstRemade voice edits writer writer1 s i u all → Appends writer1 writer' (answer_text voice seat (reply u (Some (command.Edit (get_or edits i d))))) → t ≡ after u (Some (command.Edit (get_or edits i d)))
    → taken ≡ is_ok (reply u (Some (command.Edit (get_or edits i d)))) → FirstRemade voice edits writer writer' s (i + 1) t last
first_next voice seat edits writer writer1 writer' s u t i d all taken last lt both at h written store ok =
    first_more voice seat edits writer writer1 writer' s u t i d (get_or edits i d) all taken last lt refl both at h written store ok

pub all_written : (voice : Voice) (edits : List Edit) (writer writer' : Option (List ℕ)) (s t : Store) (i : ℕ) (all : Bool) → length edits ≤ i
    → FirstRemade voice edits writer writer' s i t all → Appends writer writer' (answers_text voice First (replies s edits))
all_written voice edits writer writer' s t i all le h = subst (λ es. Appends writer writer' (answers_text voice First (replies s es))) (take_all i edits le) h.written

pub all_after : (voice : Voice) (edits : List Edit) (writer writer' : Option (List ℕ)) (s t : Store) (i : ℕ) (all : Bool) → length edits ≤ i
    → FirstRemade voice edits writer writer' s i t all → t ≡ after_edits s edits
all_after voice edits writer writer' s t i all le h = h.store ∙ ap (after_edits s) (take_all i edits le)

pub all_taken : (voice : Voice) (edits : List Edit) (writer writer' : Option (List ℕ)) (s t : Store) (i : ℕ) (all : Bool) → length edits ≤ i
    → FirstRemade voice edits writer writer' s i t all → all ≡ list_all is_ok (replies s edits)
all_taken voice edits writer writer' s t i all le h = h.taken ∙ ap (λ es. list_all is_ok (replies s es)) (take_all i edits le)

-- between what stands before and behind the answers
pub between : {E : Type 0} (voice : Voice) (r : Result (Unit {0}) E) (writer writer1 writer2 writer' : Option (List ℕ)) (answers : List ℕ)
    → Appends writer writer1 (opening voice) → Appends writer1 writer2 answers → OnOk r (Appends writer2 writer' (closing voice)) → OnOk r (Appends writer writer' (several voice answers))
between voice (Ok x) writer writer1 writer2 writer' answers before told behind =
    Appends-trans writer writer1 writer' _ _ before (Appends-trans writer1 writer2 writer' answers (closing voice) told behind)
between voice (Err e) writer writer1 writer2 writer' answers before told behind = tt

pub between_one : {E : Type 0} (voice : Voice) (r : Result (Unit {0}) E) (writer writer1 writer2 writer' : Option (List ℕ)) (a : Answer)
    → Appends writer writer1 (opening voice) → Appends writer1 writer2 (answer_text voice First a) → OnOk r (Appends writer2 writer' (closing voice))
    → OnOk r (Appends writer writer' (several voice (answers_text voice First (a ∷ []))))
between_one voice r writer writer1 writer2 writer' a before told behind =
    between voice r writer writer1 writer2 writer' _ before (subst (Appends writer1 writer2) (sym (append-nil (answer_text voice First a))) told) behind

-- how a session took the last edit back
abbrev pub Told : Manner → Store → List (List Edit) → Option (List ℕ) → Option (List ℕ) → Store → List (List Edit) → Option Ended → Type 0
Told m s undos writer writer' t left stop = (answer : List ℕ) × Appends writer writer' answer × Undone m (held s undos) undos answer (held t left) stop

pub undone_nothing : (m : Manner) (s : Store) (undos : List (List Edit)) (writer writer' : Option (List ℕ)) (stop : Option Ended) → None ≡ slice_get undos 0
    → Appends writer writer' (nothing_text m.voice) → stop ≡ stop_at m true → Told m s undos writer writer' s undos stop
undone_nothing m s [] writer writer' stop none told is = (nothing_text m.voice, told, (refl, refl, is))
undone_nothing m s (x ∷ xs) writer writer' stop none told is = absurd cc

pub undone_full : (m : Manner) (s : Store) (undos : List (List Edit)) (es : List Edit) (writer writer' : Option (List ℕ)) (stop : Option Ended) → Some es ≡ slice_get undos 0
    → has_room s es ≡ false → Appends writer writer' (several m.voice (answers_text m.voice First (Refused 1 ∷ []))) → stop ≡ stop_at m true → Told m s undos writer writer' s undos stop
undone_full m s [] es writer writer' stop top full told is = absurd cc
undone_full m s (x ∷ xs) es writer writer' stop top full told is =
    let same : x ≡ es = cc in
    let none : has_room s x ≡ false = ap (has_room s) same ∙ full in
    let answers : undo_answers s x ≡ Refused 1 ∷ [] = rw none refl in
    let text : several m.voice (answers_text m.voice First (undo_answers s x)) ≡ several m.voice (answers_text m.voice First (Refused 1 ∷ [])) =
    ap (λ l. several m.voice (answers_text m.voice First l)) answers in
    let kept : held s (x ∷ xs) ≡ after_undo (held s (x ∷ xs)) x xs = rw none refl in (
      several m.voice (answers_text m.voice First (undo_answers s x)),
      subst (λ l. Appends writer writer' l) (sym text) told,
      (refl, kept, is ∙ sym (ap (λ l. stop_at m (not (list_all is_ok l))) answers)),
    )

pub undone_made : (m : Manner) (s t : Store) (undos left : List (List Edit)) (es : List Edit) (writer writer' : Option (List ℕ)) (taken : Bool) (stop : Option Ended) → Some es ≡ slice_get undos 0
    → has_room s es ≡ true → Appends writer writer' (several m.voice (answers_text m.voice First (replies s es))) → t ≡ after_edits s es → taken ≡ list_all is_ok (replies s es)
    → left ≡ drop 1 undos → stop ≡ stop_at m (not taken) → Told m s undos writer writer' t left stop
undone_made m s t [] left es writer writer' taken stop top room told store ok rest is = absurd cc
undone_made m s t (x ∷ xs) left es writer writer' taken stop top room told store ok rest is =
    let same : x ≡ es = cc in
    let some : has_room s x ≡ true = ap (has_room s) same ∙ room in
    let answers : undo_answers s x ≡ replies s es = rw some (ap (replies s) same) in
    let made : held t left ≡ after_undo (held s (x ∷ xs)) x xs =
    rw some (ap (λ u. held u left) (store ∙ sym (ap (after_edits s) same)) ∙ ap (λ l. held (after_edits s x) l) rest) in (
      several m.voice (answers_text m.voice First (undo_answers s x)),
      subst (λ l. Appends writer writer' (several m.voice (answers_text m.voice First l))) (sym answers) told,
      (refl, made, is ∙ ap (λ b. stop_at m (not b)) ok ∙ sym (ap (λ l. stop_at m (not (list_all is_ok l))) answers)),
    )

-- the session after a line of each kind
held_same : (s t : Store) (us vs : List (List Edit)) → t ≡ s → vs ≡ us → held t vs ≡ held s us
held_same s t us vs p q = ap (λ x. held x vs) p ∙ ap (λ l. held s l) q

pub long_session : (w : Bool) (l : List ℕ) (s : Store) (us : List (List Edit)) → 4096 < length l → held s us ≡ after_line (held s us) (line_at w l)
long_session true l s us h = let long : is_long l ≡ true = grind (arith, nat_tests) in rw long refl
long_session false l s us h = refl

pub cut_session : (w : Bool) (l : List ℕ) (s : Store) (us : List (List Edit)) → w ≡ false → held s us ≡ after_line (held s us) (line_at w l)
cut_session w l s us e = rw e refl

short_after : (s : Store) (l : List ℕ) (us : List (List Edit)) → is_long l ≡ false → after_line (held s us) (Whole l) ≡ held (after s (command_in s l)) (noted s (edit_of (command_in s l)) us)
short_after s l us short = rw short refl

pub edit_session : {T E : Type 0} (r : Result T E) (w : Bool) (l : List ℕ) (s t : Store) (us vs : List (List Edit)) (e : Edit) → w ≡ true → length l ≤ 4096 → command_in s l ≡ Some (command.Edit e)
    → OnOk r (t ≡ after s (Some (command.Edit e))) → OnOk r (vs ≡ noted s (Some e) us) → OnOk r (held t vs ≡ after_line (held s us) (line_at w l))
edit_session (Ok x) w l s t us vs e whole h known store undos =
    let short : is_long l ≡ false = grind (arith, nat_tests) in
    let there : after_line (held s us) (line_at w l) ≡ held (after s (Some (command.Edit e))) (noted s (Some e) us) =
    ap (λ b. after_line (held s us) (line_at b l)) whole ∙ short_after s l us short ∙ ap (λ c. held (after s c) (noted s (edit_of c) us)) known in
    held_same _ t _ vs store undos ∙ sym there
edit_session (Err f) w l s t us vs e whole h known store undos = tt

pub other_session : {T E : Type 0} (r : Result T E) (w : Bool) (l : List ℕ) (s t : Store) (us : List (List Edit)) → w ≡ true → length l ≤ 4096 → edit_of (command_in s l) ≡ None
    → OnOk r (t ≡ after s (command_in s l)) → OnOk r (held t us ≡ after_line (held s us) (line_at w l))
other_session (Ok x) w l s t us whole h none store =
    let short : is_long l ≡ false = grind (arith, nat_tests) in
    let there : after_line (held s us) (line_at w l) ≡ held (after s (command_in s l)) us =
    ap (λ b. after_line (held s us) (line_at b l)) whole ∙ short_after s l us short ∙ ap (λ o. held (after s (command_in s l)) (noted s o us)) none in
    ap (λ x. held x us) store ∙ sym there
other_session (Err f) w l s t us whole h none store = tt

pub edit_answer : {E : Type 0} (r : Result Answer E) (w : Bool) (l : List ℕ) (s : Store) (e : Edit) → w ≡ true → length l ≤ 4096 → command_in s l ≡ Some (command.Edit e)
    → IfOk r (λ a. a ≡ reply s (Some (command.Edit e))) → IfOk r (λ a. a ≡ answer_to s (line_at w l))
edit_answer (Ok a) w l s e whole h known is =
    let short : is_long l ≡ false = grind (arith, nat_tests) in
    let there : answer_to s (line_at w l) ≡ reply s (command_in s l) = ap (λ b. answer_to s (line_at b l)) whole ∙ rw short refl in
    is ∙ sym (there ∙ ap (reply s) known)
edit_answer (Err f) w l s e whole h known is = tt
