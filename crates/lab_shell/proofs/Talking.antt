-- Lemmas on turns of a session, and on all of it.
use Rattle.std.proofs.Common.{◌≡◌, ℕ, Bool, true, false, ◌||◌, cond, List, [], ◌∷◌, ◌++◌, refl, sym, ap, ◌∙◌, subst, inl, inr, append_assoc, append-nil, arith}
use Rattle.std.specs.Prelude.{Option, None, Some, Result, Ok, Err, IfOk, MatchOption, is_some}
use Rattle.bench_shell.specs.declared.fault.RunFault.{RunFault}
use Rattle.project_book.specs.declared.edit.Edit.{Edit}
use Rattle.std.specs.Io.KnownBytes.{Appends, Consumes, Keeps}
use Rattle.std.proofs.KnownBytes.{Appends-nil, Appends-trans, Consumes-nil, Consumes-trans}
use Rattle.bench_shell.specs.Lines.{Line, Whole, Cut, lines_of}
use Rattle.bench_shell.specs.Store.{Store}
use Rattle.bench_shell.specs.Text.{line_text}
use Rattle.bench_shell.specs.Output.{output, output_lines, after_lines, store_after, is_long, reply, after, command_in}
use Rattle.bench_shell.specs.Steps.{has_lf, Splits}
use Rattle.bench_shell.specs.declared.answer.Answer.{Answer}
use Rattle.bench_shell.specs.declared.answer.Answer.TheVariants.{BadLine}
use Rattle.bench_shell.proofs.Lines.{lines_of-whole, lines_of-cut, splits_none, splits_line, splits_both}
use Rattle.bench_shell.proofs.Writes.{Appends-same, Appends-kept}
use Rattle.lab_shell.specs.declared.manner.Manner.{Manner}
use Rattle.lab_shell.specs.declared.manner.Voice.TheVariants.{Plain}
use Rattle.lab_shell.specs.declared.manner.Seat.{Seat}
use Rattle.lab_shell.specs.declared.manner.Seat.TheVariants.{Alone, First, Later}
use Rattle.lab_shell.specs.declared.manner.Ended.{Ended}
use Rattle.lab_shell.specs.declared.manner.Ended.TheVariants as ended
use Rattle.lab_shell.specs.declared.word.ShellWord.{ShellWord}
use Rattle.lab_shell.specs.declared.word.ShellWord.TheVariants.{Quit, Help, HelpOn, Show, Script, Save, Undo, Latency, Done, Trace, Full, Busy, Series, OrderAll}
use Rattle.lab_shell.specs.Sessions.{Session, held}
use Rattle.lab_shell.specs.Steps.{IsLine, Line1, Reached, TalkedOver, TurnOf, Turned}
use Rattle.lab_shell.specs.Talks.{Says, One, OneFor, Goes, Stops, Talks, Talked, TalksPlainly, IsAllRead, IsDrained, Obeyed, InTurn, ObeyedAs, Undone, answer_to, told_text, prompt, line_at, request_in, is_people, lines_in, is_any, no_request}

is_one : (read bytes : List ℕ) (whole : Bool) → IsLine read bytes whole → lines_of read ≡ line_at whole bytes ∷ []
is_one read bytes true h = ap lines_of (h.whole refl) ∙ lines_of-whole bytes [] h.no_lf
is_one read [] false h = absurd (omega (arith, h.some refl))
is_one read (b ∷ bs) false h = ap lines_of (h.cut refl) ∙ lines_of-cut b bs h.no_lf

not_input : (t : Bool) → Some ended.Input ≡ cond t (Some ended.Refused) None → ⊥
not_input true h = absurd cc
not_input false h = absurd cc

not_input_then : (m : Manner) (seat : Seat) (s mid : Session) (l : List ℕ) (ls : List (List ℕ)) (first later : List ℕ) (t : Session) (so : Option Ended)
    → (InTurn m Later mid ls later t (Some ended.Input) → ⊥) → Obeyed m seat s (Whole l) first mid so
    → MatchOption so (InTurn m Later mid ls later t (Some ended.Input)) (λ how. (later ≡ []) × (t ≡ mid) × (Some ended.Input ≡ Some how)) → ⊥
not_input_then m seat s mid l ls first later t None never obeyed h = never h
not_input_then m seat s mid l ls first later t (Some how) never obeyed h = not_input _ (h.2 ∙ obeyed.2)

never_in_turn : (m : Manner) (seat : Seat) (s : Session) (ls : List (List ℕ)) (answer : List ℕ) (t : Session) → InTurn m seat s ls answer t (Some ended.Input) → ⊥
never_in_turn m seat s [] answer t h = let e = h.2 in absurd cc
never_in_turn m seat s (l ∷ ls) answer t h = not_input_then m seat s h.2 l ls h.0 h.1 t h.3 (never_in_turn m Later h.2 ls h.1 t) h.4 h.6

never_obeyed : (m : Manner) (s : Session) (l : List ℕ) (ls : List (List ℕ)) (answer : List ℕ) (t : Session) → ObeyedAs m s (Whole l) ls answer t (Some ended.Input) → ⊥
never_obeyed m s l [] answer t h = not_input _ h.2
never_obeyed m s l (x ∷ xs) answer t h = never_in_turn m First s (x ∷ xs) h.0 t h.2

never_undone : (m : Manner) (s : Session) (undos : List (List Edit)) (answer : List ℕ) (t : Session) → Undone m s undos answer t (Some ended.Input) → ⊥
never_undone m s [] answer t h = not_input _ h.2
never_undone m s (es ∷ undos) answer t h = not_input _ h.2

-- a whole line never ends a session as the end of the input does
never_input : (says : Says) (m : Manner) (s : Session) (l : List ℕ) (r : Option (ShellWord × List (List ℕ))) (answer : List ℕ) (t : Session)
    → OneFor says m s (Whole l) r answer t (Some ended.Input) → ⊥
never_input says m s l None answer t h = never_obeyed m s l (lines_in (Whole l)) answer t h
never_input says m s l (Some (Quit, x)) answer t h = let e = h.2 in absurd cc
never_input says m s l (Some (Help, x)) answer t h = let e = h.1.2 in absurd cc
never_input says m s l (Some (HelpOn, x)) answer t h = elim h.1 [ inl e ↦ let q = e.2 in absurd cc | inr e ↦ not_input _ e.1 ]
never_input says m s l (Some (Show, x)) answer t h = not_input _ h.4
never_input says m s l (Some (Script, x)) answer t h = not_input _ h.4
never_input says m s l (Some (Save, x)) answer t h = not_input _ h.4
never_input says m s l (Some (Latency, x)) answer t h = not_input _ h.4
never_input says m s l (Some (Done, x)) answer t h = not_input _ h.4
never_input says m s l (Some (Trace, x)) answer t h = not_input _ h.4
never_input says m s l (Some (Full, x)) answer t h = not_input _ h.4
never_input says m s l (Some (Busy, x)) answer t h = not_input _ h.4
never_input says m s l (Some (Series, x)) answer t h = not_input _ h.4
never_input says m s l (Some (OrderAll, x)) answer t h = not_input _ h.4
never_input says m s l (Some (Undo, x)) answer t h = never_undone m s s.undos answer t h

all_whole : (says : Says) (m : Manner) (reader reader' : Option (List ℕ)) (s t : Session) (l answer : List ℕ) (how : Ended)
    → One says m s (Whole l) answer t (Some how) → IsAllRead how reader reader'
all_whole says m reader reader' s t l answer ended.Input one = absurd (never_input says m s l (request_in (is_people m.voice) (Whole l)) answer t one)
all_whole says m reader reader' s t l answer ended.Quit one = tt
all_whole says m reader reader' s t l answer ended.Refused one = tt

all_cut : (reader reader' : Option (List ℕ)) (how : Ended) → IsDrained reader reader' → IsAllRead how reader reader'
all_cut reader reader' ended.Input h = h
all_cut reader reader' ended.Quit h = tt
all_cut reader reader' ended.Refused h = tt

turn_of : (says : Says) (m : Manner) (reader reader' : Option (List ℕ)) (s t : Session) (read bytes answer : List ℕ) (whole : Bool) (stop : Option Ended)
    → IsLine read bytes whole → (has_lf read ≡ false → IsDrained reader reader') → One says m s (line_at whole bytes) answer t stop
    → TurnOf says m reader reader' s read (prompt m.voice ++ answer) t stop
turn_of says m reader reader' s t read bytes answer true None line drained one = (
  subst Splits (sym (line.whole refl)) (splits_line bytes line.no_lf),
  record { line = Whole bytes; answer = answer; is_line = is_one read bytes true line; is_written = refl; one = one },
)
turn_of says m reader reader' s t read bytes answer false None line drained one = let e = one.2 in absurd cc
turn_of says m reader reader' s t read bytes answer true (Some how) line drained one =
    inr (
      record { line = Whole bytes; answer = answer; is_line = is_one read bytes true line; is_written = refl; one = one },
      all_whole says m reader reader' s t bytes answer how one,
    )
turn_of says m reader reader' s t read bytes answer false (Some how) line drained one =
    inr (
      record { line = Cut bytes; answer = answer; is_line = is_one read bytes false line; is_written = refl; one = one },
      all_cut reader reader' how (drained (ap has_lf (line.cut refl) ∙ line.no_lf)),
    )

pub turned : (says : Says) (m : Manner) (reader reader' writer writer1 writer' : Option (List ℕ)) (s t : Session) (read bytes answer : List ℕ) (whole : Bool) (stop : Option Ended)
    → IsLine read bytes whole → Consumes reader reader' read → (has_lf read ≡ false → IsDrained reader reader')
    → Appends writer writer1 (prompt m.voice) → Appends writer1 writer' answer → One says m s (line_at whole bytes) answer t stop
    → Turned says m reader reader' writer writer' s t stop
turned says m reader reader' writer writer1 writer' s t read bytes answer whole stop line is_read drained first told one = (
  read,
  prompt m.voice ++ answer,
  is_read,
  Appends-trans writer writer1 writer' (prompt m.voice) answer first told,
  turn_of says m reader reader' s t read bytes answer whole stop line drained one,
)

pub reached_none : (says : Says) (m : Manner) (reader writer : Option (List ℕ)) (s : Session) → Reached says m reader reader writer writer s s
reached_none says m reader writer s = record {
  text = [];
  first = [];
  is_read = Consumes-nil reader;
  splits = splits_none;
  is_written = Appends-nil writer;
  goes = (refl, refl);
}

-- one line more
goes_one : (says : Says) (m : Manner) (s t : Session) (l : Line) (answer : List ℕ) → One says m s l answer t None → Goes says m s (l ∷ []) (prompt m.voice ++ answer) t
goes_one says m s t l answer one = (answer, [], t, one, sym (append-nil (prompt m.voice ++ answer)), (refl, refl))

goes_more : (says : Says) (m : Manner) (s u t : Session) (ls : List Line) (l : Line) (first answer : List ℕ) → Goes says m s ls first u → One says m u l answer t None
    → Goes says m s (ls ++ l ∷ []) (first ++ (prompt m.voice ++ answer)) t
goes_more says m s u t [] l first answer goes one =
    let P : List ℕ → Type 0 = λ w. Goes says m s (l ∷ []) (w ++ (prompt m.voice ++ answer)) t in
    let Q : Session → Type 0 = λ x. One says m x l answer t None in
    subst P (sym goes.0) (goes_one says m s t l answer (subst Q goes.1 one))
goes_more says m s u t (k ∷ ls) l first answer goes one = (
  goes.0,
  goes.1 ++ (prompt m.voice ++ answer),
  goes.2,
  goes.3,
  ap (λ w. w ++ (prompt m.voice ++ answer)) goes.4 ∙ append_assoc (prompt m.voice ++ goes.0) goes.1 (prompt m.voice ++ answer),
  goes_more says m goes.2 u t ls l goes.1 answer goes.5 one,
)

lines_more : (text read : List ℕ) (l : Line) → Splits text → lines_of read ≡ l ∷ [] → lines_of (text ++ read) ≡ lines_of text ++ l ∷ []
lines_more text read l p e = p read ∙ ap (λ ls. lines_of text ++ ls) e

reached_more : (says : Says) (m : Manner) (reader reader1 reader' writer writer1 writer' : Option (List ℕ)) (s u t : Session)
    → Reached says m reader reader1 writer writer1 s u → Turned says m reader1 reader' writer1 writer' u t None → Reached says m reader reader' writer writer' s t
reached_more says m reader reader1 reader' writer writer1 writer' s u t h q =
    let read = q.0 in
    let line = q.4.1 in
    let P : List Line → Type 0 = λ ls. Goes says m s ls (h.first ++ q.1) t in
    let R : List ℕ → Type 0 = λ w. Goes says m s (lines_of h.text ++ line.line ∷ []) (h.first ++ w) t in
    record {
      text = h.text ++ read;
      first = h.first ++ q.1;
      is_read = Consumes-trans reader reader1 reader' h.text read h.is_read q.2;
      splits = splits_both h.text read h.splits q.4.0;
      is_written = Appends-trans writer writer1 writer' h.first q.1 h.is_written q.3;
      goes = subst P (sym (lines_more h.text read line.line h.splits line.is_line))
          (subst R (sym line.is_written) (goes_more says m s u t (lines_of h.text) line.line h.first line.answer h.goes line.one));
    }

drained_from : (reader reader1 reader' : Option (List ℕ)) (text : List ℕ) → Consumes reader reader1 text → IsDrained reader1 reader' → IsDrained reader reader'
drained_from None reader1 reader' text c h = tt
drained_from (Some x) None reader' text c h = absurd c
drained_from (Some x) (Some y) reader' text c h = h

all_from : (how : Ended) (reader reader1 reader' : Option (List ℕ)) (text : List ℕ) → Consumes reader reader1 text → IsAllRead how reader1 reader' → IsAllRead how reader reader'
all_from ended.Input reader reader1 reader' text c h = drained_from reader reader1 reader' text c h
all_from ended.Quit reader reader1 reader' text c h = tt
all_from ended.Refused reader reader1 reader' text c h = tt

stops_talk : (says : Says) (m : Manner) (s : Session) (text written : List ℕ) (t : Session) (how : Ended) → Stops says m s (lines_of text) written t how → Talks says m s text written t how
stops_talk says m s text written t ended.Input h = inr h
stops_talk says m s text written t ended.Quit h = h
stops_talk says m s text written t ended.Refused h = h

talked_end : (says : Says) (m : Manner) (reader reader1 reader' writer writer1 writer' : Option (List ℕ)) (s u t : Session) (read written : List ℕ)
    → Reached says m reader reader1 writer writer1 s u → Consumes reader1 reader' read → Appends writer1 writer' written
    → read ≡ [] → written ≡ prompt m.voice → t ≡ u → IsAllRead ended.Input reader1 reader' → TalkedOver says m reader reader' writer writer' s t ended.Input
talked_end says m reader reader1 reader' writer writer1 writer' s u t read written h c a none is_prompt same all =
    let P : List ℕ → Type 0 = λ text. Goes says m s (lines_of text) h.first t in
    let Q : Session → Type 0 = λ x. Goes says m s (lines_of h.text) h.first x in (
      h.text ++ read,
      h.first ++ written,
      Consumes-trans reader reader1 reader' h.text read h.is_read c,
      all_from ended.Input reader reader1 reader' h.text h.is_read all,
      Appends-trans writer writer1 writer' h.first written h.is_written a,
      inl (h.first, subst P (sym (ap (λ l. h.text ++ l) none ∙ append-nil h.text)) (subst Q (sym same) h.goes), ap (λ w. h.first ++ w) is_prompt),
    )

talked_stop : (says : Says) (m : Manner) (reader reader1 reader' writer writer1 writer' : Option (List ℕ)) (s u t : Session) (read written : List ℕ) (how : Ended)
    → Reached says m reader reader1 writer writer1 s u → Consumes reader1 reader' read → Appends writer1 writer' written
    → Line1 says m u read written t (Some how) → IsAllRead how reader1 reader' → TalkedOver says m reader reader' writer writer' s t how
talked_stop says m reader reader1 reader' writer writer1 writer' s u t read written how h c a line all = (
  h.text ++ read,
  h.first ++ written,
  Consumes-trans reader reader1 reader' h.text read h.is_read c,
  all_from how reader reader1 reader' h.text h.is_read all,
  Appends-trans writer writer1 writer' h.first written h.is_written a,
  stops_talk says m s (h.text ++ read) (h.first ++ written) t how (record {
    before = lines_of h.text;
    last = line.line;
    first = h.first;
    answer = line.answer;
    mid = u;
    are_lines = lines_more h.text read line.line h.splits line.is_line;
    goes = h.goes;
    one = line.one;
    is_written = ap (λ w. h.first ++ w) line.is_written;
  }),
)

talked : (says : Says) (m : Manner) (reader reader1 reader' writer writer1 writer' : Option (List ℕ)) (s u t : Session) (how : Ended)
    → Reached says m reader reader1 writer writer1 s u → Turned says m reader1 reader' writer1 writer' u t (Some how) → TalkedOver says m reader reader' writer writer' s t how
talked says m reader reader1 reader' writer writer1 writer' s u t how h q = elim q.4 [
  | inl e ↦
      let P : Ended → Type 0 = λ x. TalkedOver says m reader reader' writer writer' s t x in
      let A : Ended → Type 0 = λ x. IsAllRead x reader1 reader' in
      subst P (sym e.0) (talked_end says m reader reader1 reader' writer writer1 writer' s u t q.0 q.1 h q.2 q.3 e.1 e.2 e.3 (subst A e.0 e.4))
  | inr e ↦ talked_stop says m reader reader1 reader' writer writer1 writer' s u t q.0 q.1 how h q.2 q.3 e.0 e.1
]

-- the output of a line that is no request
of_long : (b : Bool) (s s' : Store) (r : Answer) (more : List Line)
    → (cond b (line_text BadLine ++ output_lines s more) (line_text r ++ output_lines s' more) ≡ line_text (cond b BadLine r) ++ output_lines (cond b s s') more)
    × (cond b (after_lines s more) (after_lines s' more) ≡ after_lines (cond b s s') more)
of_long true s s' r more = (refl, refl)
of_long false s s' r more = (refl, refl)

line_out : (s : Store) (l : Line) (more : List Line)
    → (output_lines s (l ∷ more) ≡ line_text (answer_to s l) ++ output_lines (after_lines s (l ∷ [])) more) × (after_lines s (l ∷ more) ≡ after_lines (after_lines s (l ∷ [])) more)
line_out s (Whole l) more = of_long (is_long l) s (after s (command_in s l)) (reply s (command_in s l)) more
line_out s (Cut l) more = (refl, refl)

if_no : (o : Option (ShellWord × List (List ℕ))) (ls : List (List ℕ)) (b : Bool) → cond (is_some o || is_any ls) false b ≡ true → (o ≡ None) × (ls ≡ []) × (b ≡ true)
if_no None [] b h = (refl, refl, h)
if_no None (l ∷ ls) b h = absurd cc
if_no (Some x) ls b h = absurd cc

-- in a session that isn't for people
one_plain : (says : Says) (m : Manner) (s t : Session) (l : Line) (answer : List ℕ) (stop : Option Ended) (more : List Line)
    → m.voice ≡ Plain → request_in false l ≡ None → lines_in l ≡ [] → One says m s l answer t stop
    → (output_lines s.store (l ∷ more) ≡ (prompt m.voice ++ answer) ++ output_lines t.store more) × (after_lines s.store (l ∷ more) ≡ after_lines t.store more)
one_plain says m s t l answer stop more plain none alone one =
    let P : Option (ShellWord × List (List ℕ)) → Type 0 = λ r. OneFor says m s l r answer t stop in
    let Q : List (List ℕ) → Type 0 = λ ls. ObeyedAs m s l ls answer t stop in
    let obeyed : Obeyed m Alone s l answer t stop = subst Q alone (subst P (ap (λ p. request_in (is_people p) l) plain ∙ none) one) in
    let text : answer ≡ line_text (answer_to s.store l) = obeyed.0 ∙ ap (λ p. told_text p Alone l (answer_to s.store l)) plain in
    let then : after_lines s.store (l ∷ []) ≡ t.store = sym (ap (λ (x : Session). x.store) obeyed.1) in
    let empty : prompt m.voice ≡ [] = ap prompt plain in (
      (line_out s.store l more).0 ∙ ap (λ x. x ++ output_lines (after_lines s.store (l ∷ [])) more) (sym text)
          ∙ ap (λ x. answer ++ output_lines x more) then ∙ ap (λ x. (x ++ answer) ++ output_lines t.store more) (sym empty),
      (line_out s.store l more).1 ∙ ap (λ x. after_lines x more) then,
    )

goes_plain : (says : Says) (m : Manner) (s t : Session) (ls : List Line) (written : List ℕ) (more : List Line)
    → m.voice ≡ Plain → no_request (ls ++ more) ≡ true → Goes says m s ls written t
    → (output_lines s.store (ls ++ more) ≡ written ++ output_lines t.store more) × (after_lines s.store (ls ++ more) ≡ after_lines t.store more) × (no_request more ≡ true)
goes_plain says m s t [] written more plain none goes =
    let same : s.store ≡ t.store = sym (ap (λ (x : Session). x.store) goes.1) in
    (ap (λ x. output_lines x more) same ∙ ap (λ w. w ++ output_lines t.store more) (sym goes.0), ap (λ x. after_lines x more) same, none)
goes_plain says m s t (l ∷ ls) written more plain none goes =
    let is = if_no (request_in false l) (lines_in l) (no_request (ls ++ more)) none in
    let first = one_plain says m s goes.2 l goes.0 None (ls ++ more) plain is.0 is.1 goes.3 in
    let later = goes_plain says m goes.2 t ls goes.1 more plain is.2 goes.5 in (
      first.0 ∙ ap (λ w. (prompt m.voice ++ goes.0) ++ w) later.0 ∙ sym (append_assoc (prompt m.voice ++ goes.0) goes.1 (output_lines t.store more))
          ∙ ap (λ w. w ++ output_lines t.store more) (sym goes.4),
      first.1 ∙ later.1,
      later.2,
    )

stops_plain : (says : Says) (m : Manner) (s t : Session) (lines : List Line) (written : List ℕ) (how : Ended)
    → m.voice ≡ Plain → no_request lines ≡ true → Stops says m s lines written t how
    → (output_lines s.store lines ≡ written) × (t.store ≡ after_lines s.store lines)
stops_plain says m s t lines written how plain none h =
    let all = ap no_request (sym h.are_lines) ∙ none in
    let first = goes_plain says m s h.mid h.before h.first (h.last ∷ []) plain all h.goes in
    let is = if_no (request_in false h.last) (lines_in h.last) true first.2 in
    let last = one_plain says m h.mid t h.last h.answer (Some how) [] plain is.0 is.1 h.one in (
      ap (output_lines s.store) h.are_lines ∙ first.0 ∙ ap (λ w. h.first ++ w) (last.0 ∙ append-nil (prompt m.voice ++ h.answer)) ∙ sym h.is_written,
      sym (ap (after_lines s.store) h.are_lines ∙ first.1 ∙ last.1),
    )

ends_plain : (says : Says) (m : Manner) (s t : Session) (lines : List Line) (first written : List ℕ)
    → m.voice ≡ Plain → no_request lines ≡ true → Goes says m s lines first t → written ≡ first ++ prompt m.voice
    → (output_lines s.store lines ≡ written) × (t.store ≡ after_lines s.store lines)
ends_plain says m s t lines first written plain none goes is =
    let whole = append-nil lines in
    let out = goes_plain says m s t lines first [] plain (ap no_request whole ∙ none) goes in
    (ap (output_lines s.store) (sym whole) ∙ out.0 ∙ ap (λ p. first ++ prompt p) (sym plain) ∙ sym is, sym (ap (after_lines s.store) (sym whole) ∙ out.1))

talks_plain : (says : Says) (m : Manner) (s t : Session) (text written : List ℕ) (how : Ended)
    → m.voice ≡ Plain → no_request (lines_of text) ≡ true → Talks says m s text written t how
    → (output s.store text ≡ written) × (t.store ≡ store_after s.store text)
talks_plain says m s t text written ended.Input plain none h = elim h [
  | inl e ↦ ends_plain says m s t (lines_of text) e.0 written plain none e.1 e.2
  | inr e ↦ stops_plain says m s t (lines_of text) written ended.Input plain none e
]
talks_plain says m s t text written ended.Quit plain none h = stops_plain says m s t (lines_of text) written ended.Quit plain none h
talks_plain says m s t text written ended.Refused plain none h = stops_plain says m s t (lines_of text) written ended.Refused plain none h

pub talked_plain : (says : Says) (m : Manner) (reader reader' writer writer' : Option (List ℕ)) (s t : Store) (how : Ended)
    → Talked says m reader reader' writer writer' s t how → m.voice ≡ Plain → TalksPlainly reader reader' writer writer' s t
talked_plain says m reader reader' writer writer' s t how h plain = (
  h.0,
  h.3,
  λ none.
      let is = talks_plain says m (held s []) (held t h.2) h.0 h.1 how plain none h.6 in
      (Appends-same writer writer' h.1 (output s h.0) (sym is.0) h.5, is.1),
)

-- at the result of a turn
pub turned_ok : (says : Says) (m : Manner) (reader reader' writer writer1 writer' : Option (List ℕ)) (s t : Session) (read bytes : List ℕ) (whole : Bool) (r : Result (Option Ended) RunFault)
    → IsLine read bytes whole → Consumes reader reader' read → (has_lf read ≡ false → IsDrained reader reader') → Appends writer writer1 (prompt m.voice)
    → IfOk r (λ stop. (answer : List ℕ) × Appends writer1 writer' answer × One says m s (line_at whole bytes) answer t stop)
    → IfOk r (Turned says m reader reader' writer writer' s t)
turned_ok says m reader reader' writer writer1 writer' s t read bytes whole (Ok stop) line is_read drained first q =
    turned says m reader reader' writer writer1 writer' s t read bytes q.0 whole stop line is_read drained first q.1 q.2
turned_ok says m reader reader' writer writer1 writer' s t read bytes whole (Err f) line is_read drained first q = tt

-- what was handed on stays written
talked_kept : (says : Says) (m : Manner) (reader reader' writer writer1 writer' : Option (List ℕ)) (s t : Session) (how : Ended)
    → TalkedOver says m reader reader' writer writer1 s t how → Keeps writer1 writer' → TalkedOver says m reader reader' writer writer' s t how
talked_kept says m reader reader' writer writer1 writer' s t how h k = (h.0, h.1, h.2, h.3, Appends-kept writer writer1 writer' h.1 h.4 k, h.5)

-- the same, where it is known how the turn ended
pub reached_at : (says : Says) (m : Manner) (reader reader1 reader' writer writer1 writer' : Option (List ℕ)) (s u t : Session) (stop : Option Ended)
    → Reached says m reader reader1 writer writer1 s u → Turned says m reader1 reader' writer1 writer' u t stop → stop ≡ None → Reached says m reader reader' writer writer' s t
reached_at says m reader reader1 reader' writer writer1 writer' s u t stop h q e =
    reached_more says m reader reader1 reader' writer writer1 writer' s u t h (subst (Turned says m reader1 reader' writer1 writer' u t) e q)

pub talked_at : (says : Says) (m : Manner) (reader reader1 reader' writer writer1 writer2 writer' : Option (List ℕ)) (s u t : Session) (stop : Option Ended) (how : Ended)
    → Reached says m reader reader1 writer writer1 s u → Turned says m reader1 reader' writer1 writer2 u t stop → stop ≡ Some how → Keeps writer2 writer'
    → TalkedOver says m reader reader' writer writer' s t how
talked_at says m reader reader1 reader' writer writer1 writer2 writer' s u t stop how h q e k =
    talked_kept says m reader reader' writer writer2 writer' s t how
    (talked says m reader reader1 reader' writer writer1 writer2 s u t how h (subst (Turned says m reader1 reader' writer1 writer2 u t) e q)) k

-- of a session that began with nothing to take back
pub talked_whole : (says : Says) (m : Manner) (reader reader' writer writer' : Option (List ℕ)) (s t : Store) (undos first : List (List Edit)) (how : Ended)
    → first ≡ [] → TalkedOver says m reader reader' writer writer' (held s first) (held t undos) how → Talked says m reader reader' writer writer' s t how
talked_whole says m reader reader' writer writer' s t undos first how none h =
    let g = subst (λ us. TalkedOver says m reader reader' writer writer' (held s us) (held t undos) how) none h in
    (g.0, g.1, undos, g.2, g.3, g.4, g.5)
