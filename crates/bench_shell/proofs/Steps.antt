-- Lemmas on what a run has done so far.
use Rattle.std.proofs.Common.{◌≡◌, ◌⊎◌, inl, inr, ℕ, ◌+◌, ◌<◌, ◌≤◌, Bool, true, false, List, [], ◌∷◌, ◌++◌, length, get_or, take, drop, refl, sym, ◌∙◌, ap, subst, append_assoc, append-nil, take-append-drop, arith}
use Rattle.std.proofs.lemmas.List.{take_more, length-append}
use Rattle.std.specs.Prelude.{◌==◌, if◌then◌else◌, Option, Some, None, Result, Ok, Err, IfOk, IfErr, OnOk, OnErr, IfSome}
use Rattle.std.specs.Io.KnownBytes.{Appends, Consumes, Keeps, IsAtEnd}
use Rattle.std.proofs.KnownBytes.{Appends-trans, Appends-nil, Consumes-nil, Consumes-trans, Consumes-kept}
use Rattle.commands.specs.declared.command.Command.{Command}
use Rattle.bench_shell.specs.Store.{Store}
use Rattle.bench_shell.specs.Text.{line_text}
use Rattle.bench_shell.specs.Cause.{HasCause}
use Rattle.bench_shell.specs.Lines.{Whole, lines_of}
use Rattle.bench_shell.specs.Output.{output, store_after, reply, after, command_in, is_long as is_long_line, is_ok, none_ok, lines_text, has_body, AnswersBody, MayStop, FirstIs, StopsAt, StopsBy, StopsIn, AnswersAll, AnswersPart, AnswersOwn}
use Rattle.bench_shell.specs.Steps.{has_lf, Holds, AnswersLine, Reaches, StopsWithin, Moves, Fails, Goes, GoesOn, FailsOn}
use Rattle.bench_shell.specs.declared.fault.RunFault.{RunFault}
use Rattle.bench_shell.specs.declared.fault.RunFault.TheVariants.{Read, Write, OtherEditor, Memory, Clock}
use Rattle.bench_shell.specs.declared.answer.Answer.{Answer}
use Rattle.bench_shell.specs.declared.answer.Answer.TheVariants.{BadLine, BadCut}
use Rattle.bench_shell.proofs.Lines.{has_lf-snoc, lines_of-whole, lines_of-cut, output-long, store-long, output-whole, store-whole, output-cut, output-cut-long, store-cut, cut_is_one, whole_is_one, splits_none, splits_line, splits_both, output-split, store-split, first_stays, is_long-no}
use Rattle.bench_shell.proofs.Writes.{Appends-kept}

-- nothing of a line has come
pub holds_none : Holds false [] []
holds_none = record { no_lf = refl; short = λ e. refl; long = λ e. cc }

longer : (h : List ℕ) (b : ℕ) → 4096 < length h → 4096 < length (h ++ b ∷ [])
longer h b q = omega (arith, length-append h (b ∷ []))

-- one byte more of a line that has room
pub holds_more : (is_long : Bool) (h line : List ℕ) (b : ℕ) → (b == 10) ≡ false → Holds is_long h line → Holds is_long (h ++ b ∷ []) (line ++ b ∷ [])
holds_more is_long h line b e p = record {
  no_lf = has_lf-snoc line b p.no_lf e;
  short = λ s. ap (λ l. l ++ b ∷ []) (p.short s);
  long = λ l. longer line b (p.long l);
}

-- one byte more of a line that is full
full : (is_long : Bool) (h line : List ℕ) (b : ℕ) → length h ≡ 4096 → Holds is_long h line → 4096 < length (line ++ b ∷ [])
full true h line b e p = longer line b (p.long refl)
full false h line b e p = omega (arith, length-append line (b ∷ []), ap (λ l. length l) (p.short refl), e)

pub holds_full : (is_long : Bool) (h line : List ℕ) (b : ℕ) → (b == 10) ≡ false → length h ≡ 4096 → Holds is_long h line → Holds true h (line ++ b ∷ [])
holds_full is_long h line b e q p = record {
  no_lf = has_lf-snoc line b p.no_lf e;
  short = λ s. cc;
  long = λ l. full is_long h line b q p;
}

-- the answer to a line that has ended
pub long_answered : (s : Store) (line : List ℕ) → has_lf line ≡ false → 4096 < length line → AnswersLine s line BadLine s
long_answered s line p q = (output-long s line p q, sym (store-long s line p q))

pub short_answered : (s t : Store) (line : List ℕ) (a : Answer) (cmd : Option Command) → has_lf line ≡ false → length line ≤ 4096 → cmd ≡ command_in s line
    → a ≡ reply s cmd → t ≡ after s cmd → AnswersLine s line a t
short_answered s t line a cmd p q is answer store =
    (output-whole s line p q ∙ sym (ap line_text (answer ∙ ap (reply s) is)), store ∙ ap (after s) is ∙ sym (store-whole s line p q))

pub line_answered : {E : Type 0} (r : Result Answer E) (s t : Store) (is_long : Bool) (h : List ℕ) (cmd : Option Command) → is_long ≡ false → length h ≤ 4096
    → cmd ≡ command_in s h → IfOk r (λ a. a ≡ reply s cmd) → OnOk r (t ≡ after s cmd) → IfOk r (λ a. (line : List ℕ) → Holds is_long h line → AnswersLine s line a t)
line_answered (Ok a) s t is_long h cmd e fits is answer store = λ line p.
    let same : h ≡ line = sym (p.short e) in
    let P : List ℕ → Type 0 = λ l. length l ≤ 4096 in
    short_answered s t line a cmd p.no_lf (subst P same fits) (is ∙ ap (command_in s) same) answer store
line_answered (Err x) s t is_long h cmd e fits is answer store = tt

-- the answer to a line that the end cuts
pub cut_answered : (is_long : Bool) (h line : List ℕ) (s : Store) → is_long ≡ false → 0 < length h → length h ≤ 4096 → Holds is_long h line → output s line ≡ line_text BadCut
cut_answered is_long h line s e some fits p =
    let same : h ≡ line = sym (p.short e) in
    let P : List ℕ → Type 0 = λ l. 0 < length l in
    let Q : List ℕ → Type 0 = λ l. length l ≤ 4096 in
    output-cut s line p.no_lf (subst P same some) (subst Q same fits)

pub long_cut_answered : (is_long : Bool) (h line : List ℕ) (s : Store) → is_long ≡ true → Holds is_long h line → output s line ≡ line_text BadLine
long_cut_answered is_long h line s e p = output-cut-long s line p.no_lf (p.long e)

-- a byte that ends no line
pub moves_held : (s : Store) (is_long is_long' : Bool) (h h' : List ℕ) (b : ℕ)
    → ((line : List ℕ) → Holds is_long h line → Holds is_long' h' (line ++ b ∷ [])) → Moves s is_long h (b ∷ []) [] s is_long' h'
moves_held s is_long is_long' h h' b f = λ line p. record {
  before = [];
  line = line ++ b ∷ [];
  is_text = refl;
  splits = splits_none;
  is_written = refl;
  is_store = refl;
  holds = f line p;
}

-- a line that ends and is answered
pub moves_line : (s t : Store) (is_long : Bool) (h : List ℕ) (a : Answer) → ((line : List ℕ) → Holds is_long h line → AnswersLine s line a t)
    → Moves s is_long h (10 ∷ []) (line_text a) t false []
moves_line s t is_long h a f = λ line p.
    let ended = f line p in record {
      before = line ++ 10 ∷ [];
      line = [];
      is_text = sym (append-nil (line ++ 10 ∷ []));
      splits = splits_line line p.no_lf;
      is_written = sym ended.0;
      is_store = ended.1;
      holds = holds_none;
    }

-- a fault, by its cause
pub if_err : {T : Type 0} (r : Result T RunFault) (read write other memory clock : Type 0) (P : RunFault → Type 0) → HasCause r read write other memory clock
    → ((f : RunFault) → r ≡ Err f → HasCause {T = T} (Err f) read write other memory clock → P f) → IfErr r P
if_err (Ok x) read write other memory clock P cause go = tt
if_err (Err f) read write other memory clock P cause go = go f refl cause

pub at_err : {T E Q : Type 0} (r : Result T E) (f : E) → r ≡ Err f → OnErr r Q → Q
at_err (Ok x) f is q = absurd cc
at_err (Err g) f is q = q

-- the writer alone has failed
pub stops_writing : (spent : Type 0) (f : RunFault) (s : Store) (line rest : List ℕ) (write : Type 0) → HasCause {T = Unit {0}} (Err f) ⊥ write ⊥ ⊥ ⊥ → StopsBy spent f s line rest
stops_writing spent Read s line rest write h = absurd h
stops_writing spent Write s line rest write h = tt
stops_writing spent OtherEditor s line rest write h = absurd h
stops_writing spent Memory s line rest write h = absurd h
stops_writing spent Clock s line rest write h = absurd h

-- or the text of an answer has found no memory
pub stops_printing : (spent : Type 0) (f : RunFault) (s : Store) (line rest : List ℕ) (write memory : Type 0) → HasCause {T = Unit {0}} (Err f) ⊥ write ⊥ memory ⊥
    → (memory → AnswersBody s (lines_of line)) → StopsBy spent f s line rest
stops_printing spent Read s line rest write memory h body = absurd h
stops_printing spent Write s line rest write memory h body = tt
stops_printing spent OtherEditor s line rest write memory h body = absurd h
stops_printing spent Memory s line rest write memory h body = inl (body h)
stops_printing spent Clock s line rest write memory h body = absurd h

-- or a line that isn't obeyed
stops_ahead : (spent : Type 0) (f : RunFault) (s : Store) (rest : List ℕ) → StopsAt spent f s (lines_of rest) → StopsBy spent f s [] rest
stops_ahead spent Read s rest h = tt
stops_ahead spent Write s rest h = tt
stops_ahead spent OtherEditor s rest h = tt
stops_ahead spent Memory s rest h = inr h
stops_ahead spent Clock s rest h = (refl, h)

pub stops_line : (spent : Type 0) (f : RunFault) (s : Store) (line : List ℕ) → has_lf line ≡ false → StopsAt spent f s (Whole line ∷ []) → StopsBy spent f s [] (line ++ 10 ∷ [])
stops_line spent f s line p h = stops_ahead spent f s (line ++ 10 ∷ []) (rw (lines_of-whole line [] p) h)

-- whatever follows
stops_more : (spent : Type 0) (f : RunFault) (s : Store) (line rest more : List ℕ) → StopsBy spent f s line rest → StopsBy spent f s line (rest ++ more)
stops_more spent Read s line rest more h = tt
stops_more spent Write s line rest more h = tt
stops_more spent OtherEditor s line rest more h = tt
stops_more spent Memory s line rest more h =
    elim h [ inl body ↦ inl body | inr at ↦ inr (first_stays (λ l. (is_long_line l ≡ false) × MayStop spent Memory s (command_in s l)) rest more at) ]
stops_more spent Clock s line rest more h = (h.0, first_stays (λ l. (is_long_line l ≡ false) × MayStop spent Clock s (command_in s l)) rest more h.1)

pub body_line : (s : Store) (line : List ℕ) → has_lf line ≡ false → AnswersBody s (Whole line ∷ []) → AnswersBody s (lines_of (line ++ 10 ∷ []))
body_line s line p h = rw (lines_of-whole line [] p) h

-- whose answer has a body, by what is held of it
pub line_body : {E : Type 0} (r : Result Answer E) (s : Store) (is_long : Bool) (h : List ℕ) (cmd : Option Command) → is_long ≡ false → length h ≤ 4096
    → cmd ≡ command_in s h → IfOk r (λ a. a ≡ reply s cmd) → IfOk r (λ a. has_body a ≡ true → (line : List ℕ) → Holds is_long h line → AnswersBody s (Whole line ∷ []))
line_body (Ok a) s is_long h cmd e fits is answer = λ body line p.
    let same : h ≡ line = sym (p.short e) in
    let told : a ≡ reply s (command_in s h) = answer ∙ ap (reply s) is in
    subst (λ l. (is_long_line l ≡ false) × (has_body (reply s (command_in s l)) ≡ true)) same (is_long-no h fits, sym (ap has_body told) ∙ body)
line_body (Err x) s is_long h cmd e fits is answer = tt

-- no memory was wanted
pub no_body : {T : Type 0} (r : Result T RunFault) (write memory : Type 0) → (memory → ⊥) → HasCause r ⊥ write ⊥ memory ⊥ → HasCause r ⊥ write ⊥ ⊥ ⊥
no_body (Ok x) write memory none h = tt
no_body (Err Read) write memory none h = h
no_body (Err Write) write memory none h = h
no_body (Err OtherEditor) write memory none h = h
no_body (Err Memory) write memory none h = none h
no_body (Err Clock) write memory none h = h

pub some_body : {T : Type 0} (r : Result T RunFault) (write memory : Type 0) → HasCause r ⊥ write ⊥ ⊥ ⊥ → HasCause r ⊥ write ⊥ memory ⊥
some_body (Ok x) write memory h = tt
some_body (Err Read) write memory h = h
some_body (Err Write) write memory h = h
some_body (Err OtherEditor) write memory h = h
some_body (Err Memory) write memory h = absurd h
some_body (Err Clock) write memory h = h

-- what a line that isn't obeyed is, by what is held of it
pub line_stops : {E : Type 0} (r : Result E RunFault) (spent : Type 0) (s : Store) (is_long : Bool) (h : List ℕ) (cmd : Option Command) → is_long ≡ false → length h ≤ 4096
    → cmd ≡ command_in s h → IfErr r (λ f. MayStop spent f s cmd) → IfErr r (λ f. (line : List ℕ) → Holds is_long h line → StopsAt spent f s (Whole line ∷ []))
line_stops (Ok a) spent s is_long h cmd e fits is stops = tt
line_stops (Err f) spent s is_long h cmd e fits is stops = λ line p.
    let same : h ≡ line = sym (p.short e) in
    subst (λ l. (is_long_line l ≡ false) × MayStop spent f s (command_in s l)) same (is_long-no h fits, subst (λ c. MayStop spent f s c) is stops)

-- of whose answer a part is written
pub fails_line : (spent : Type 0) (fault : RunFault) (s t : Store) (is_long : Bool) (h : List ℕ) (a : Answer) (part missing : List ℕ)
    → ((line : List ℕ) → Holds is_long h line → AnswersLine s line a t) → line_text a ≡ part ++ missing → ((line : List ℕ) → Holds is_long h line → StopsBy spent fault s (line ++ 10 ∷ []) [])
    → Fails spent fault s is_long h (10 ∷ []) part t
fails_line spent fault s t is_long h a part missing f e why = λ line p.
    let ended = f line p in record {
      before = [];
      line = line ++ 10 ∷ [];
      rest = [];
      part = part;
      missing = missing;
      is_text = sym (append-nil (line ++ 10 ∷ []));
      splits = splits_none;
      line_splits = splits_line line p.no_lf;
      one_line = whole_is_one line p.no_lf;
      is_written = refl;
      answer = ended.0 ∙ e;
      is_store = ended.1;
      why = why line p;
    }

-- a line that isn't obeyed
pub fails_at_once : (spent : Type 0) (fault : RunFault) (s t : Store) (is_long : Bool) (h more : List ℕ) → t ≡ s
    → ((line : List ℕ) → Holds is_long h line → StopsBy spent fault s [] (line ++ more)) → Fails spent fault s is_long h more [] t
fails_at_once spent fault s t is_long h more e why = λ line p. record {
  before = [];
  line = [];
  rest = line ++ more;
  part = [];
  missing = [];
  is_text = refl;
  splits = splits_none;
  line_splits = splits_none;
  one_line = omega arith;
  is_written = refl;
  answer = refl;
  is_store = e;
  why = why line p;
}

-- a piece, and then another
pub moves_none : (s : Store) (is_long : Bool) (h : List ℕ) → Moves s is_long h [] [] s is_long h
moves_none s is_long h = λ line p. record {
  before = [];
  line = line;
  is_text = append-nil line;
  splits = splits_none;
  is_written = refl;
  is_store = refl;
  holds = p;
}

pub joined : (line a b before held rest : List ℕ) → line ++ a ≡ before ++ held → held ++ b ≡ rest → line ++ (a ++ b) ≡ before ++ rest
joined line a b before held rest p q =
    sym (append_assoc line a b) ∙ ap (λ l. l ++ b) p ∙ append_assoc before held b ∙ ap (λ l. before ++ l) q

pub moves_trans : (s t u : Store) (l0 l1 l2 : Bool) (h0 h1 h2 a b x y : List ℕ) → Moves s l0 h0 a x t l1 h1 → Moves t l1 h1 b y u l2 h2
    → Moves s l0 h0 (a ++ b) (x ++ y) u l2 h2
moves_trans s t u l0 l1 l2 h0 h1 h2 a b x y p q = λ line is.
    let m = p line is in
    let n = q m.line m.holds in record {
      before = m.before ++ n.before;
      line = n.line;
      is_text = joined line a b m.before m.line (n.before ++ n.line) m.is_text n.is_text ∙ sym (append_assoc m.before n.before n.line);
      splits = splits_both m.before n.before m.splits n.splits;
      is_written = ap (λ l. l ++ y) m.is_written ∙ ap (λ l. output s m.before ++ l) (n.is_written ∙ ap (λ r. output r n.before) m.is_store)
          ∙ sym (output-split s m.before n.before m.splits);
      is_store = n.is_store ∙ ap (λ r. store_after r n.before) m.is_store ∙ sym (store-split s m.before n.before m.splits);
      holds = n.holds;
    }

pub moves_fails : (spent : Type 0) (fault : RunFault) (s t u : Store) (l0 l1 : Bool) (h0 h1 a b x y : List ℕ) → Moves s l0 h0 a x t l1 h1 → Fails spent fault t l1 h1 b y u
    → Fails spent fault s l0 h0 (a ++ b) (x ++ y) u
moves_fails spent fault s t u l0 l1 h0 h1 a b x y p q = λ line is.
    let m = p line is in
    let n = q m.line m.holds in
    let s1 = store_after s m.before in
    let two : store_after s (m.before ++ n.before) ≡ store_after s1 n.before = store-split s m.before n.before m.splits in record {
      before = m.before ++ n.before;
      line = n.line;
      rest = n.rest;
      part = n.part;
      missing = n.missing;
      is_text = joined line a b m.before m.line (n.before ++ (n.line ++ n.rest)) m.is_text n.is_text ∙ sym (append_assoc m.before n.before (n.line ++ n.rest));
      splits = splits_both m.before n.before m.splits n.splits;
      line_splits = n.line_splits;
      one_line = n.one_line;
      is_written = ap (λ l. l ++ y) m.is_written ∙ ap (λ l. output s m.before ++ l) (n.is_written ∙ ap (λ r. output r n.before ++ n.part) m.is_store)
          ∙ sym (append_assoc (output s m.before) (output s1 n.before) n.part) ∙ sym (ap (λ l. l ++ n.part) (output-split s m.before n.before m.splits));
      answer = ap (λ r. output r n.line) (two ∙ sym (ap (λ r. store_after r n.before) m.is_store)) ∙ n.answer;
      is_store = n.is_store ∙ ap (λ r. store_after r n.line) (ap (λ r. store_after r n.before) m.is_store ∙ sym two);
      why = subst (λ r. StopsBy spent fault r n.line n.rest) (ap (λ r. store_after r n.before) m.is_store ∙ sym two) n.why;
    }

-- what stands behind the place where a run stopped
pub fails_more : (spent : Type 0) (fault : RunFault) (s t : Store) (is_long : Bool) (h a b x : List ℕ) → Fails spent fault s is_long h a x t → Fails spent fault s is_long h (a ++ b) x t
fails_more spent fault s t is_long h a b x p = λ line is.
    let m = p line is in record {
      before = m.before;
      line = m.line;
      rest = m.rest ++ b;
      part = m.part;
      missing = m.missing;
      is_text = sym (append_assoc line a b) ∙ ap (λ l. l ++ b) m.is_text ∙ append_assoc m.before (m.line ++ m.rest) b
          ∙ ap (λ l. m.before ++ l) (append_assoc m.line m.rest b);
      splits = m.splits;
      line_splits = m.line_splits;
      one_line = m.one_line;
      is_written = m.is_written;
      answer = m.answer;
      is_store = m.is_store;
      why = stops_more spent fault (store_after s m.before) m.line m.rest b m.why;
    }

-- bytes of a piece, one after another
pub taken : (xs : List ℕ) (i x : ℕ) → i < length xs → x ≡ get_or xs i 0 → take i xs ++ x ∷ [] ≡ take (i + 1) xs
taken xs i x lt is = ap (λ n. take i xs ++ n ∷ []) is ∙ sym (take_more xs i 0 lt)

-- ---- whoever edits

abbrev MovesOn : Option (List ℕ) → Option (List ℕ) → Store → Bool → List ℕ → List ℕ → Store → Bool → List ℕ → Type 0
MovesOn w w' s l h more t l' h' = (written : List ℕ) × Appends w w' written × Moves s l h more written t l' h'

-- where the desk is alone
pub moves_on : (w w' : Option (List ℕ)) (A B : Type 0) (s t : Store) (l l' : Bool) (h h' more : List ℕ) → GoesOn w w' A B s l h more t l' h' → B → MovesOn w w' s l h more t l' h'
moves_on w w' A B s t l l' h h' more p b = (p.0, p.1, p.3 b)

pub goes_none : (A : Type 0) (w : Option (List ℕ)) (s : Store) (l : Bool) (h : List ℕ) → GoesOn w w A A s l h [] s l h
goes_none A w s l h = (
  [],
  Appends-nil w,
  (λ line p. record { before = []; rest = []; line = line; answers = []; is_text = append-nil line; splits = splits_none; rest_splits = splits_none; is_written = refl; no_ok = refl; one_each = refl; holds = p; begun = inl refl }),
  λ b. moves_none s l h,
)

-- a byte that ends no line
pub goes_held : (A : Type 0) (w : Option (List ℕ)) (s : Store) (l l' : Bool) (h h' : List ℕ) (b : ℕ)
    → ((line : List ℕ) → Holds l h line → Holds l' h' (line ++ b ∷ [])) → GoesOn w w A A s l h (b ∷ []) s l' h'
goes_held A w s l l' h h' b f = (
  [],
  Appends-nil w,
  (λ line p. record {
    before = [];
    rest = [];
    line = line ++ b ∷ [];
    answers = [];
    is_text = refl;
    splits = splits_none;
    rest_splits = splits_none;
    is_written = refl;
    no_ok = refl;
    one_each = refl;
    holds = f line p;
    begun = inl refl;
  }),
  λ alone. moves_held s l l' h h' b f,
)

-- a line that ends: its answer is `ok ..` only where the desk is alone
pub goes_line : (A B : Type 0) (w w' : Option (List ℕ)) (s t : Store) (l : Bool) (h : List ℕ) (a : Answer) → (B → A) → (is_ok a ≡ true → B)
    → (B → (line : List ℕ) → Holds l h line → AnswersLine s line a t) → Appends w w' (line_text a) → GoesOn w w' A B s l h (10 ∷ []) t false []
goes_line A B w w' s t l h a earlier own f q = (line_text a, q, by (is_ok a) refl, λ b. moves_line s t l h a (f b))
  where
    by : (ok : Bool) → is_ok a ≡ ok → (line : List ℕ) → Holds l h line → Goes A s (line ++ 10 ∷ []) (line_text a) false []
    by true e line p =
        let ended = f (own e) line p in record {
          before = line ++ 10 ∷ [];
          rest = [];
          line = [];
          answers = [];
          is_text = sym (append-nil (line ++ 10 ∷ []));
          splits = splits_line line p.no_lf;
          rest_splits = splits_none;
          is_written = sym ended.0 ∙ sym (append-nil (output s (line ++ 10 ∷ [])));
          no_ok = refl;
          one_each = refl;
          holds = holds_none;
          begun = inr (earlier (own e));
        }
    by false e line p = record {
      before = [];
      rest = line ++ 10 ∷ [];
      line = [];
      answers = a ∷ [];
      is_text = sym (append-nil (line ++ 10 ∷ []));
      splits = splits_none;
      rest_splits = splits_line line p.no_lf;
      is_written = sym (append-nil (line_text a));
      no_ok = rw e refl;
      one_each = sym (ap length (lines_of-whole line [] p.no_lf));
      holds = holds_none;
      begun = inl refl;
    }

none_ok_step : (ok x y : Bool) → (if ok then false else x) ≡ true → (x ≡ true → y ≡ true) → (if ok then false else y) ≡ true
none_ok_step true x y p f = p
none_ok_step false x y p f = f p

none_ok-append : (xs ys : List Answer) → none_ok xs ≡ true → none_ok ys ≡ true → none_ok (xs ++ ys) ≡ true
none_ok-append [] ys p q = q
none_ok-append (a ∷ xs) ys p q = none_ok_step (is_ok a) (none_ok xs) (none_ok (xs ++ ys)) p (λ e. none_ok-append xs ys e q)

lines_text-append : (xs ys : List Answer) → lines_text (xs ++ ys) ≡ lines_text xs ++ lines_text ys
lines_text-append [] ys = refl
lines_text-append (a ∷ xs) ys = ap (λ l. line_text a ++ l) (lines_text-append xs ys) ∙ sym (append_assoc (line_text a) (lines_text xs) (lines_text ys))

module _ (A B : Type 0) (s t : Store) (l0 l1 l2 : Bool) (h0 h1 h2 a b x y : List ℕ) (earlier : B → A) (p : (line : List ℕ) → Holds l0 h0 line → Goes A s (line ++ a) x l1 h1) (moves : B → Moves s l0 h0 a x t l1 h1)
    (q : (line : List ℕ) → Holds l1 h1 line → Goes B t (line ++ b) y l2 h2) (line : List ℕ) (is : Holds l0 h0 line) where
  goes_on_firm : B → Goes A s (line ++ (a ++ b)) (x ++ y) l2 h2
  goes_on_firm alone =
      let r = moves alone line is in
      let n = q r.line r.holds in
      let s1 = store_after s r.before in
      let lines = lines_text n.answers in record {
        before = r.before ++ n.before;
        rest = n.rest;
        line = n.line;
        answers = n.answers;
        is_text = joined line a b r.before r.line (n.before ++ (n.rest ++ n.line)) r.is_text n.is_text ∙ sym (append_assoc r.before n.before (n.rest ++ n.line));
        splits = splits_both r.before n.before r.splits n.splits;
        rest_splits = n.rest_splits;
        is_written = ap (λ l. l ++ y) r.is_written ∙ ap (λ l. output s r.before ++ l) (n.is_written ∙ ap (λ u. output u n.before ++ lines) r.is_store)
            ∙ sym (append_assoc (output s r.before) (output s1 n.before) lines) ∙ sym (ap (λ l. l ++ lines) (output-split s r.before n.before r.splits));
        no_ok = n.no_ok;
        one_each = n.one_each;
        holds = n.holds;
        begun = inr (earlier alone);
      }

  goes_on_loose : (m : Goes A s (line ++ a) x l1 h1) (n : Goes B t (m.line ++ b) y l2 h2) → n.before ≡ [] → Goes A s (line ++ (a ++ b)) (x ++ y) l2 h2
  goes_on_loose m n none =
      let o = output s m.before in
      let first = lines_text m.answers in
      let second = lines_text n.answers in
      let held : (m.rest ++ m.line) ++ b ≡ (m.rest ++ n.rest) ++ n.line = append_assoc m.rest m.line b
      ∙ ap (λ l. m.rest ++ l) (n.is_text ∙ ap (λ l. l ++ (n.rest ++ n.line)) none) ∙ sym (append_assoc m.rest n.rest n.line) in record {
        before = m.before;
        rest = m.rest ++ n.rest;
        line = n.line;
        answers = m.answers ++ n.answers;
        is_text = joined line a b m.before (m.rest ++ m.line) ((m.rest ++ n.rest) ++ n.line) m.is_text held;
        splits = m.splits;
        rest_splits = splits_both m.rest n.rest m.rest_splits n.rest_splits;
        is_written = ap (λ l. l ++ y) m.is_written ∙ ap (λ l. (o ++ first) ++ l) (n.is_written ∙ ap (λ l. output t l ++ second) none)
            ∙ append_assoc o first second ∙ ap (λ l. o ++ l) (sym (lines_text-append m.answers n.answers));
        no_ok = none_ok-append m.answers n.answers m.no_ok n.no_ok;
        one_each = length-append m.answers n.answers ∙ ap (λ k. k + length n.answers) m.one_each ∙ ap (λ k. length (lines_of m.rest) + k) n.one_each
            ∙ sym (length-append (lines_of m.rest) (lines_of n.rest)) ∙ sym (ap length (m.rest_splits n.rest));
        holds = n.holds;
        begun = m.begun;
      }

  goes_on : Goes A s (line ++ (a ++ b)) (x ++ y) l2 h2
  goes_on = let m = p line is in let n = q m.line m.holds in by m n n.begun
    where
      by : (m : Goes A s (line ++ a) x l1 h1) (n : Goes B t (m.line ++ b) y l2 h2) → (n.before ≡ []) ⊎ B → Goes A s (line ++ (a ++ b)) (x ++ y) l2 h2
      by m n (inl none) = goes_on_loose m n none
      by m n (inr alone) = goes_on_firm alone

pub goes_trans : (A B C : Type 0) (w0 w1 w2 : Option (List ℕ)) (s t u : Store) (l0 l1 l2 : Bool) (h0 h1 h2 a b : List ℕ) → (B → A) → (C → B)
    → GoesOn w0 w1 A B s l0 h0 a t l1 h1 → GoesOn w1 w2 B C t l1 h1 b u l2 h2 → GoesOn w0 w2 A C s l0 h0 (a ++ b) u l2 h2
goes_trans A B C w0 w1 w2 s t u l0 l1 l2 h0 h1 h2 a b earlier later p q = (
  p.0 ++ q.0,
  Appends-trans w0 w1 w2 p.0 q.0 p.1 q.1,
  (λ line is. goes_on A B s t l0 l1 l2 h0 h1 h2 a b p.0 q.0 earlier p.2 p.3 q.2 line is),
  λ alone. moves_trans s t u l0 l1 l2 h0 h1 h2 a b p.0 q.0 (p.3 (later alone)) (q.3 alone),
)

pub piece_goes : (A B C : Type 0) (w0 w1 w2 : Option (List ℕ)) (s t u : Store) (l0 l1 l2 : Bool) (h0 h1 h2 xs : List ℕ) (i x : ℕ) → i < length xs → x ≡ get_or xs i 0 → (B → A) → (C → B)
    → GoesOn w0 w1 A B s l0 h0 (take i xs) t l1 h1 → GoesOn w1 w2 B C t l1 h1 (x ∷ []) u l2 h2 → GoesOn w0 w2 A C s l0 h0 (take (i + 1) xs) u l2 h2
piece_goes A B C w0 w1 w2 s t u l0 l1 l2 h0 h1 h2 xs i x lt is earlier later p q =
    subst (λ text. GoesOn w0 w2 A C s l0 h0 text u l2 h2) (taken xs i x lt is) (goes_trans A B C w0 w1 w2 s t u l0 l1 l2 h0 h1 h2 (take i xs) (x ∷ []) earlier later p q)

pub piece_fails : (spent : Type 0) (fault : RunFault) (w0 w1 w2 : Option (List ℕ)) (s t u : Store) (l0 l1 : Bool) (h0 h1 xs : List ℕ) (i x : ℕ) → i < length xs → x ≡ get_or xs i 0
    → MovesOn w0 w1 s l0 h0 (take i xs) t l1 h1 → FailsOn spent fault w1 w2 t l1 h1 (x ∷ []) u → FailsOn spent fault w0 w2 s l0 h0 xs u
piece_fails spent fault w0 w1 w2 s t u l0 l1 h0 h1 xs i x lt is p q =
    let rest = drop (i + 1) xs in
    let all : (take i xs ++ x ∷ []) ++ rest ≡ xs = ap (λ l. l ++ rest) (taken xs i x lt is) ∙ take-append-drop (i + 1) xs in
    let P : List ℕ → Type 0 = λ text. Fails spent fault s l0 h0 text (p.0 ++ q.0) u in (
      p.0 ++ q.0,
      Appends-trans w0 w1 w2 p.0 q.0 p.1 q.1,
      subst P all (fails_more spent fault s u l0 h0 (take i xs ++ x ∷ []) rest (p.0 ++ q.0) (moves_fails spent fault s t u l0 l1 h0 h1 (take i xs) (x ∷ []) p.0 q.0 p.2 q.2)),
    )

-- what was read and written so far by a desk that is alone, from the start of a run
abbrev pub SoFar : Option (List ℕ) → Option (List ℕ) → Option (List ℕ) → Option (List ℕ) → Store → Store → Bool → List ℕ → Type 0
SoFar r0 r w0 w s t is_long h = (read written : List ℕ) × Consumes r0 r read × Appends w0 w written × Moves s false [] read written t is_long h

-- the same of any desk
abbrev pub SoFarOn : Option (List ℕ) → Option (List ℕ) → Option (List ℕ) → Option (List ℕ) → Type 0 → Type 0 → Store → Store → Bool → List ℕ → Type 0
SoFarOn r0 r w0 w A B s t is_long h = (read : List ℕ) × Consumes r0 r read × GoesOn w0 w A B s false [] read t is_long h

pub so_far_alone : (r0 r w0 w : Option (List ℕ)) (A B : Type 0) (s t : Store) (is_long : Bool) (h : List ℕ) → SoFarOn r0 r w0 w A B s t is_long h → B → SoFar r0 r w0 w s t is_long h
so_far_alone r0 r w0 w A B s t is_long h p alone = let g = p.2 in (p.0, g.0, p.1, g.1, g.3 alone)

pub so_far_none : (r w : Option (List ℕ)) (A : Type 0) (s : Store) → SoFarOn r r w w A A s s false []
so_far_none r w A s = ([], Consumes-nil r, goes_none A w s false [])

pub so_far_step : (r0 r1 r2 w0 w1 w2 : Option (List ℕ)) (A B C : Type 0) (s t u : Store) (l1 l2 : Bool) (h1 h2 piece : List ℕ) → (B → A) → (C → B)
    → SoFarOn r0 r1 w0 w1 A B s t l1 h1 → Consumes r1 r2 piece → GoesOn w1 w2 B C t l1 h1 piece u l2 h2 → SoFarOn r0 r2 w0 w2 A C s u l2 h2
so_far_step r0 r1 r2 w0 w1 w2 A B C s t u l1 l2 h1 h2 piece earlier later p c q = (
  p.0 ++ piece,
  Consumes-trans r0 r1 r2 p.0 piece p.1 c,
  goes_trans A B C w0 w1 w2 s t u false l1 l2 [] h1 h2 p.0 piece earlier later p.2 q,
)

-- what the line that is held where the input ends is answered with, which is no `ok ..`
abbrev pub EndsLoose : Bool → List ℕ → List ℕ → Type 0
EndsLoose is_long h written = (answers : List Answer) × (written ≡ lines_text answers) × (none_ok answers ≡ true) × ((line : List ℕ) → Holds is_long h line → length answers ≡ length (lines_of line))

pub so_far_own : (r0 r1 r2 w0 w1 w2 : Option (List ℕ)) (A B : Type 0) (s t : Store) (is_long : Bool) (h written : List ℕ)
    → SoFarOn r0 r1 w0 w1 A B s t is_long h → Consumes r1 r2 [] → IsAtEnd r2 → Appends w1 w2 written → EndsLoose is_long h written → AnswersOwn r0 r2 w0 w2 s
so_far_own r0 r1 r2 w0 w1 w2 A B s t is_long h written p c e q ends =
    let g = p.2 in
    let m = g.2 [] holds_none in
    let o = output s m.before in
    let first = lines_text m.answers in (
      p.0,
      g.0 ++ written,
      subst (λ read. Consumes r0 r2 read) (append-nil p.0) (Consumes-trans r0 r1 r2 p.0 [] p.1 c),
      e,
      Appends-trans w0 w1 w2 g.0 written g.1 q,
      record {
        before = m.before;
        rest = m.rest ++ m.line;
        answers = m.answers ++ ends.0;
        is_read = m.is_text;
        at_line = ap lines_of m.is_text ∙ m.splits (m.rest ++ m.line);
        is_written = ap (λ l. l ++ written) m.is_written ∙ append_assoc o first written
            ∙ ap (λ l. o ++ l) (ap (λ l. first ++ l) ends.1 ∙ sym (lines_text-append m.answers ends.0));
        no_ok = none_ok-append m.answers ends.0 m.no_ok ends.2;
        one_each = length-append m.answers ends.0 ∙ ap (λ k. k + length ends.0) m.one_each ∙ ap (λ k. length (lines_of m.rest) + k) (ends.3 m.line m.holds)
            ∙ sym (length-append (lines_of m.rest) (lines_of m.line)) ∙ sym (ap length (m.rest_splits m.line));
      },
    )

-- one line for a line that is cut
pub cut_one_line : (line : List ℕ) → has_lf line ≡ false → 0 < length line → length (lines_of line) ≡ 1
cut_one_line [] p some = absurd (omega (arith, some))
cut_one_line (b ∷ h) p some = ap length (lines_of-cut b h p)

-- a run that stopped at the end of a line has written a beginning of the output
stops : (spent : Type 0) (fault : RunFault) (s t : Store) (read written : List ℕ) → StopsWithin spent fault s read written t → StopsIn spent fault s read written t
stops spent fault s t read written p =
    let s1 = store_after s p.before in
    let s2 = store_after s1 p.line in
    let later = p.missing ++ output s2 p.rest in record {
      before = p.before;
      line = p.line;
      rest = p.rest;
      part = p.part;
      missing = p.missing;
      is_read = p.is_text;
      one_line = p.one_line;
      is_written = p.is_written;
      answer = p.answer;
      is_store = p.is_store;
      why = p.why;
      begins = (
        later,
        ap (output s) p.is_text ∙ output-split s p.before (p.line ++ p.rest) p.splits
            ∙ ap (λ l. output s p.before ++ l) (output-split s1 p.line p.rest p.line_splits ∙ ap (λ l. l ++ output s2 p.rest) p.answer ∙ append_assoc p.part p.missing (output s2 p.rest))
            ∙ sym (append_assoc (output s p.before) p.part later) ∙ sym (ap (λ l. l ++ later) p.is_written),
      );
    }

pub so_far_cut : (spent : Type 0) (fault : RunFault) (r0 r1 r2 w0 w1 w2 : Option (List ℕ)) (s t u : Store) (is_long : Bool) (h piece : List ℕ)
    → SoFar r0 r1 w0 w1 s t is_long h → Consumes r1 r2 piece → FailsOn spent fault w1 w2 t is_long h piece u → AnswersPart spent fault r0 r2 w0 w2 s u
so_far_cut spent fault r0 r1 r2 w0 w1 w2 s t u is_long h piece p c q = (
  p.0 ++ piece,
  p.1 ++ q.0,
  Consumes-trans r0 r1 r2 p.0 piece p.2 c,
  Appends-trans w0 w1 w2 p.1 q.0 p.3 q.1,
  stops spent fault s u (p.0 ++ piece) (p.1 ++ q.0) (moves_fails spent fault s t u false is_long [] h p.0 piece p.1 q.0 p.4 q.2 [] holds_none),
)

-- a run that stopped behind the bytes that it holds, with a part of what their line is answered
cut_in : (spent : Type 0) (fault : RunFault) (s t : Store) (read written part missing : List ℕ) (is_long : Bool) (h : List ℕ) (m : Reaches s read written t is_long h)
    → output t m.line ≡ part ++ missing → StopsBy spent fault (store_after s m.before) m.line [] → StopsIn spent fault s read (written ++ part) t
cut_in spent fault s t read written part missing is_long h m e why =
    let s1 = store_after s m.before in
    let answer : output s1 m.line ≡ part ++ missing = ap (λ r. output r m.line) (sym m.is_store) ∙ e in record {
      before = m.before;
      line = m.line;
      rest = [];
      part = part;
      missing = missing;
      is_read = m.is_text ∙ ap (λ l. m.before ++ l) (sym (append-nil m.line));
      one_line = cut_is_one m.line m.holds.no_lf;
      is_written = ap (λ l. l ++ part) m.is_written;
      answer = answer;
      is_store = m.is_store ∙ sym (store-cut s1 m.line m.holds.no_lf);
      why = why;
      begins = (
        missing,
        ap (output s) m.is_text ∙ output-split s m.before m.line m.splits ∙ ap (λ l. l ++ output s1 m.line) (sym m.is_written) ∙ ap (λ l. written ++ l) answer
            ∙ sym (append_assoc written part missing),
      );
    }

pub so_far_part : (spent : Type 0) (r0 r1 r2 w0 w1 : Option (List ℕ)) (s t : Store) (is_long : Bool) (h : List ℕ)
    → SoFar r0 r1 w0 w1 s t is_long h → Keeps r1 r2 → AnswersPart spent Read r0 r2 w0 w1 s t
so_far_part spent r0 r1 r2 w0 w1 s t is_long h p k =
    let m = p.4 [] holds_none in
    let P : List ℕ → Type 0 = λ l. StopsIn spent Read s p.0 l t in
    (p.0, p.1, Consumes-kept r0 r1 r2 p.0 p.2 k, p.3, subst P (append-nil p.1) (cut_in spent Read s t p.0 p.1 [] (output t m.line) is_long h m refl tt))

-- what the line that is held where the input ends is answered
abbrev pub Ends : Bool → List ℕ → List ℕ → Type 0
Ends is_long h written = (line : List ℕ) → Holds is_long h line → (s : Store) → output s line ≡ written

abbrev pub EndsPart : Bool → List ℕ → List ℕ → Type 0
EndsPart is_long h written = (line : List ℕ) → Holds is_long h line → (s : Store) → (missing : List ℕ) × (output s line ≡ written ++ missing)

pub so_far_last : (spent : Type 0) (fault : RunFault) (write : Type 0) (r0 r1 r2 w0 w1 w2 : Option (List ℕ)) (s t : Store) (is_long : Bool) (h : List ℕ)
    → SoFar r0 r1 w0 w1 s t is_long h → Consumes r1 r2 [] → HasCause {T = Unit {0}} (Err fault) ⊥ write ⊥ ⊥ ⊥
    → (written : List ℕ) × Appends w1 w2 written × EndsPart is_long h written → AnswersPart spent fault r0 r2 w0 w2 s t
so_far_last spent fault write r0 r1 r2 w0 w1 w2 s t is_long h p c cause q =
    let m = p.4 [] holds_none in
    let missing = q.2 m.line m.holds t in
    let P : List ℕ → Type 0 = λ read. StopsIn spent fault s read (p.1 ++ q.0) t in (
      p.0 ++ [],
      p.1 ++ q.0,
      Consumes-trans r0 r1 r2 p.0 [] p.2 c,
      Appends-trans w0 w1 w2 p.1 q.0 p.3 q.1,
      subst P (sym (append-nil p.0)) (cut_in spent fault s t p.0 p.1 q.0 missing.0 is_long h m missing.1 (stops_writing spent fault (store_after s m.before) m.line [] write cause)),
    )

-- all was read, and all is answered
pub so_far_all : (r0 r1 r2 w0 w1 w2 : Option (List ℕ)) (s t : Store) (is_long : Bool) (h : List ℕ)
    → SoFar r0 r1 w0 w1 s t is_long h → Consumes r1 r2 [] → IsAtEnd r2 → (written : List ℕ) × Appends w1 w2 written × Ends is_long h written → AnswersAll r0 r2 w0 w2 s t
so_far_all r0 r1 r2 w0 w1 w2 s t is_long h p c e q =
    let m = p.4 [] holds_none in
    let s1 = store_after s m.before in
    let text : p.1 ++ q.0 ≡ output s p.0 = ap (λ l. l ++ q.0) m.is_written
    ∙ ap (λ l. output s m.before ++ l) (sym (q.2 m.line m.holds s1)) ∙ sym (output-split s m.before m.line m.splits) ∙ sym (ap (output s) m.is_text) in
    let store : t ≡ store_after s p.0 = m.is_store ∙ sym (store-cut s1 m.line m.holds.no_lf) ∙ sym (store-split s m.before m.line m.splits) ∙ sym (ap (store_after s) m.is_text) in
    let P : List ℕ → Type 0 = λ read. Appends w0 w2 (output s read) × (t ≡ store_after s read) in
    let W : List ℕ → Type 0 = λ l. Appends w0 w2 l in
    let both : P (p.0 ++ []) = subst P (sym (append-nil p.0)) (subst W text (Appends-trans w0 w1 w2 p.1 q.0 p.3 q.1), store) in
    (p.0 ++ [], Consumes-trans r0 r1 r2 p.0 [] p.2 c, e, both.0, both.1)

-- where the input was known
at_end : (r0 r2 : Option (List ℕ)) (read : List ℕ) → Consumes r0 r2 read → IsAtEnd r2 → IfSome r0 (λ input. input ≡ read)
at_end None r2 read p e = tt
at_end (Some x) None read p e = absurd p
at_end (Some x) (Some y) read p e = p ∙ ap (λ l. read ++ l) e ∙ append-nil read

if_some_weaker : (o : Option (List ℕ)) (P Q : List ℕ → Type 0) → ((x : List ℕ) → P x → Q x) → IfSome o P → IfSome o Q
if_some_weaker None P Q f p = tt
if_some_weaker (Some x) P Q f p = f x p

pub all_known : (r0 r2 w0 w2 : Option (List ℕ)) (s t : Store) → AnswersAll r0 r2 w0 w2 s t → IfSome r0 (λ input. Appends w0 w2 (output s input))
all_known r0 r2 w0 w2 s t p =
    let P : List ℕ → Type 0 = λ x. x ≡ p.0 in
    let Q : List ℕ → Type 0 = λ x. Appends w0 w2 (output s x) in
    if_some_weaker r0 P Q (λ x is. subst Q (sym is) p.3) (at_end r0 r2 p.0 p.1 p.2)

-- what was written stays so where the writer hands it on
pub goes_kept : (A B : Type 0) (w w' w'' : Option (List ℕ)) (s t : Store) (l l' : Bool) (h h' more : List ℕ)
    → GoesOn w w' A B s l h more t l' h' → Keeps w' w'' → GoesOn w w'' A B s l h more t l' h'
goes_kept A B w w' w'' s t l l' h h' more p k = (p.0, Appends-kept w w' w'' p.0 p.1 k, p.2, p.3)

pub fails_kept : (spent : Type 0) (fault : RunFault) (w w' w'' : Option (List ℕ)) (s t : Store) (l : Bool) (h more : List ℕ) → FailsOn spent fault w w' s l h more t → Keeps w' w'' → FailsOn spent fault w w'' s l h more t
fails_kept spent fault w w' w'' s t l h more p k = (p.0, Appends-kept w w' w'' p.0 p.1 k, p.2)

-- and a run that stops there, as the writer fails, has stopped at the end of a line
pub goes_fails : (spent : Type 0) (fault : RunFault) (write A B : Type 0) (w w' w'' : Option (List ℕ)) (s t : Store) (l l' : Bool) (h h' more : List ℕ)
    → GoesOn w w' A B s l h more t l' h' → Keeps w' w'' → HasCause {T = Unit {0}} (Err fault) ⊥ write ⊥ ⊥ ⊥ → B → FailsOn spent fault w w'' s l h more t
goes_fails spent fault write A B w w' w'' s t l l' h h' more p k cause b =
    let P : List ℕ → Type 0 = λ text. Fails spent fault s l h text (p.0 ++ []) t in
    let Q : List ℕ → Type 0 = λ written. Fails spent fault s l h more written t in
    let at_once = fails_at_once spent fault t t l' h' [] refl (λ line is. stops_writing spent fault t [] (line ++ []) write cause) in
    let stopped = moves_fails spent fault s t t l l' h h' more [] p.0 [] (p.3 b) at_once in
    (p.0, Appends-kept w w' w'' p.0 p.1 k, subst Q (append-nil p.0) (subst P (append-nil more) stopped))
