-- Lemmas on the edits that a run has made itself.
use Rattle.std.proofs.Common.{◌≡◌, ◌⊎◌, inl, inr, ℕ, ◌+◌, ◌<◌, ◌≤◌, Bool, true, false, List, [], ◌∷◌, ◌++◌, length, get_or, take, drop, refl, sym, ◌∙◌, ap, subst, append_assoc, append-nil, take-append-drop}
use Rattle.std.proofs.lemmas.List.{length-append}
use Rattle.std.specs.Prelude.{◌==◌, Option, Some}
use Rattle.std.specs.Io.KnownBytes.{Consumes, Keeps}
use Rattle.std.proofs.KnownBytes.{Consumes-nil, Consumes-trans, Consumes-kept}
use Rattle.project_book.specs.Project.{Project}
use Rattle.project_book.specs.Edits.{edited}
use Rattle.project_book.specs.declared.edit.Edit.{Edit}
use Rattle.project_book.specs.declared.edit.Edit.TheVariants.{Entry, Cut, Word, Page, Depth, WaitDepth, Combine, Window, Horizon}
use Rattle.bench_shell.specs.Lines.{Line, Whole, lines_of}
use Rattle.bench_shell.specs.Store.{Store, version_in, edited_store}
use Rattle.commands.specs.declared.command.Command.{Command}
use Rattle.bench_shell.specs.Output.{command_in}
use Rattle.bench_shell.specs.Own.{edit_of, edit_in, AreAsked, edited_by, EditsAsRead}
use Rattle.bench_shell.specs.Steps.{Holds, Splits, EditsLine, HasEdits, EditsWithin, EditsOn, EditsIn}
use Rattle.bench_shell.proofs.Lines.{lines_of-whole, is_long-no, splits_none, splits_line, splits_both}
use Rattle.bench_shell.proofs.Steps.{holds_none, joined, taken}

-- an edit more
pub counted : (s t : Store) (e : Edit) → t ≡ edited_store s e → version_in t ≡ version_in s + 1
counted s t e is = ap version_in is ∙ length-append s.journal (record { author = s.author; edit = e } ∷ [])

-- an edit leaves k as it is
k_edited : (P : Project) (e : Edit) → (edited P e).k ≡ P.k
k_edited P (Entry proc index entry) = refl
k_edited P (Cut proc length) = refl
k_edited P (Word address word) = refl
k_edited P (Page page amount base) = refl
k_edited P (Depth queue depth) = refl
k_edited P (WaitDepth depth) = refl
k_edited P (Combine stage on) = refl
k_edited P (Window window) = refl
k_edited P (Horizon horizon) = refl

k_by : (s : Store) (es : List Edit) → (edited_by s es).project.k ≡ s.project.k
k_by s [] = refl
k_by s (e ∷ es) = k_by (edited_store s e) es ∙ k_edited s.project e

edited_append : (s : Store) (es fs : List Edit) → edited_by s (es ++ fs) ≡ edited_by (edited_by s es) fs
edited_append s [] fs = refl
edited_append s (e ∷ es) fs = edited_append (edited_store s e) es fs

asked_behind : (k : ℕ) (ls ms : List Line) (es : List Edit) → AreAsked k ms es → AreAsked k (ls ++ ms) es
asked_behind k [] ms es p = p
asked_behind k (l ∷ ls) ms [] p = tt
asked_behind k (l ∷ ls) ms (e ∷ es) p = inr (asked_behind k ls ms (e ∷ es) p)

asked_both : (k : ℕ) (ls ms : List Line) (es fs : List Edit) → AreAsked k ls es → AreAsked k ms fs → AreAsked k (ls ++ ms) (es ++ fs)
asked_both k ls ms [] fs p q = asked_behind k ls ms fs q
asked_both k [] ms (e ∷ es) fs p q = absurd p
asked_both k (l ∷ ls) ms (e ∷ es) fs p q =
    elim p [ inl first ↦ inl (first.0, asked_both k ls ms es fs first.1 q) | inr later ↦ inr (asked_both k ls ms (e ∷ es) fs later q) ]

has_none : (s : Store) (text : List ℕ) → HasEdits s text s
has_none s text = record { edits = []; asked = tt; is_store = refl }

-- those of a text that ends where a line does, and of what follows
has_both : (s t u : Store) (a b : List ℕ) → Splits a → HasEdits s a t → HasEdits t b u → HasEdits s (a ++ b) u
has_both s t u a b splits p q =
    let k : t.project.k ≡ s.project.k = ap (λ (r : Store). r.project.k) p.is_store ∙ k_by s p.edits in
    let asked : AreAsked s.project.k (lines_of b) q.edits = subst (λ n. AreAsked n (lines_of b) q.edits) k q.asked in record {
      edits = p.edits ++ q.edits;
      asked = subst (λ ls. AreAsked s.project.k ls (p.edits ++ q.edits)) (sym (splits b))
          (asked_both s.project.k (lines_of a) (lines_of b) p.edits q.edits p.asked asked);
      is_store = q.is_store ∙ ap (λ r. edited_by r q.edits) p.is_store ∙ sym (edited_append s p.edits q.edits);
    }

-- the edit of one line
has_line : (s t : Store) (line : List ℕ) (more : List Line) (text : List ℕ) → lines_of text ≡ Whole line ∷ more → EditsLine s line t → HasEdits s text t
has_line s t line more text is (inl same) = record { edits = []; asked = tt; is_store = same }
has_line s t line more text is (inr made) = record {
  edits = made.0 ∷ [];
  asked = rw is (inl (made.1, tt));
  is_store = made.2;
}

-- by what is held of it
pub line_edits : (s t : Store) (is_long : Bool) (h : List ℕ) (cmd : Option Command) → is_long ≡ false → length h ≤ 4096 → cmd ≡ command_in s h
    → (t ≡ s) ⊎ ((e : Edit) × (edit_of cmd ≡ Some e) × (t ≡ edited_store s e)) → (line : List ℕ) → Holds is_long h line → EditsLine s line t
line_edits s t is_long h cmd e fits is edits line p =
    let same : h ≡ line = sym (p.short e) in
    let asked : edit_in s.project.k (Whole h) ≡ edit_of cmd = rw (is_long-no h fits) (ap edit_of (sym is)) in
    subst (λ l. EditsLine s l t) same
    (elim edits [ inl none ↦ inl none | inr made ↦ inr (made.0, asked ∙ made.1, made.2) ])

-- nothing more came
pub edits_none : (s : Store) (l : Bool) (h : List ℕ) → EditsOn s l h [] s l h
edits_none s l h = λ line p. (record { before = []; rest = line; is_text = append-nil line; splits = splits_none; edits = has_none s [] }, p)

-- a byte that ends no line
pub edits_held : (s : Store) (l l' : Bool) (h h' : List ℕ) (b : ℕ) → ((line : List ℕ) → Holds l h line → Holds l' h' (line ++ b ∷ [])) → EditsOn s l h (b ∷ []) s l' h'
edits_held s l l' h h' b f = λ line p. (record { before = []; rest = line ++ b ∷ []; is_text = refl; splits = splits_none; edits = has_none s [] }, f line p)

-- a line that ends
pub edits_line : (s t : Store) (l : Bool) (h : List ℕ) → ((line : List ℕ) → Holds l h line → EditsLine s line t) → EditsOn s l h (10 ∷ []) t false []
edits_line s t l h f = λ line p. (
  record {
    before = line ++ 10 ∷ [];
    rest = [];
    is_text = sym (append-nil (line ++ 10 ∷ []));
    splits = splits_line line p.no_lf;
    edits = has_line s t line [] (line ++ 10 ∷ []) (lines_of-whole line [] p.no_lf) (f line p);
  },
  holds_none,
)

-- a piece, and then another
abbrev within : (s t u : Store) (line a b : List ℕ) (m : EditsWithin s (line ++ a) t) (n : EditsWithin t (m.rest ++ b) u) → EditsWithin s (line ++ (a ++ b)) u
within s t u line a b m n = record {
  before = m.before ++ n.before;
  rest = n.rest;
  is_text = joined line a b m.before m.rest (n.before ++ n.rest) m.is_text n.is_text ∙ sym (append_assoc m.before n.before n.rest);
  splits = splits_both m.before n.before m.splits n.splits;
  edits = has_both s t u m.before n.before m.splits m.edits n.edits;
}

pub edits_trans : (s t u : Store) (l0 l1 l2 : Bool) (h0 h1 h2 a b : List ℕ) → EditsOn s l0 h0 a t l1 h1 → EditsOn t l1 h1 b u l2 h2 → EditsOn s l0 h0 (a ++ b) u l2 h2
edits_trans s t u l0 l1 l2 h0 h1 h2 a b p q = λ line is.
    let m = p line is in
    let n = q m.0.rest m.1 in
    (within s t u line a b m.0 n.0, n.1)

pub edits_stopped : (s t u : Store) (l0 l1 : Bool) (h0 h1 a b : List ℕ) → EditsOn s l0 h0 a t l1 h1 → EditsIn t l1 h1 b u → EditsIn s l0 h0 (a ++ b) u
edits_stopped s t u l0 l1 h0 h1 a b p q = λ line is.
    let m = p line is in
    within s t u line a b m.0 (q m.0.rest m.1)

pub edits_in : (s t : Store) (l l' : Bool) (h h' more : List ℕ) → EditsOn s l h more t l' h' → EditsIn s l h more t
edits_in s t l l' h h' more p = λ line is. (p line is).0

-- what stands behind the place where a run stopped
edits_more : (s t : Store) (l : Bool) (h a b : List ℕ) → EditsIn s l h a t → EditsIn s l h (a ++ b) t
edits_more s t l h a b p = λ line is.
    let m = p line is in record {
      before = m.before;
      rest = m.rest ++ b;
      is_text = sym (append_assoc line a b) ∙ ap (λ l. l ++ b) m.is_text ∙ append_assoc m.before m.rest b;
      splits = m.splits;
      edits = m.edits;
    }

pub piece_edits : (s t u : Store) (l0 l1 l2 : Bool) (h0 h1 h2 xs : List ℕ) (i x : ℕ) → i < length xs → x ≡ get_or xs i 0
    → EditsOn s l0 h0 (take i xs) t l1 h1 → EditsOn t l1 h1 (x ∷ []) u l2 h2 → EditsOn s l0 h0 (take (i + 1) xs) u l2 h2
piece_edits s t u l0 l1 l2 h0 h1 h2 xs i x lt is p q =
    subst (λ text. EditsOn s l0 h0 text u l2 h2) (taken xs i x lt is) (edits_trans s t u l0 l1 l2 h0 h1 h2 (take i xs) (x ∷ []) p q)

pub piece_stopped : (s t u : Store) (l0 l1 : Bool) (h0 h1 xs : List ℕ) (i x : ℕ) → i < length xs → x ≡ get_or xs i 0
    → EditsOn s l0 h0 (take i xs) t l1 h1 → EditsIn t l1 h1 (x ∷ []) u → EditsIn s l0 h0 xs u
piece_stopped s t u l0 l1 h0 h1 xs i x lt is p q =
    let rest = drop (i + 1) xs in
    let all : (take i xs ++ x ∷ []) ++ rest ≡ xs = ap (λ l. l ++ rest) (taken xs i x lt is) ∙ take-append-drop (i + 1) xs in
    subst (λ text. EditsIn s l0 h0 text u) all (edits_more s u l0 h0 (take i xs ++ x ∷ []) rest (edits_stopped s t u l0 l1 h0 h1 (take i xs) (x ∷ []) p q))

-- what was read so far, from the start of a run
abbrev pub OwnSoFar : Option (List ℕ) → Option (List ℕ) → Store → Store → Bool → List ℕ → Type 0
OwnSoFar r0 r s t is_long h = (read : List ℕ) × Consumes r0 r read × EditsOn s false [] read t is_long h

pub own_none : (r : Option (List ℕ)) (s : Store) → OwnSoFar r r s s false []
own_none r s = ([], Consumes-nil r, edits_none s false [])

pub own_step : (r0 r1 r2 : Option (List ℕ)) (s t u : Store) (l1 l2 : Bool) (h1 h2 piece : List ℕ)
    → OwnSoFar r0 r1 s t l1 h1 → Consumes r1 r2 piece → EditsOn t l1 h1 piece u l2 h2 → OwnSoFar r0 r2 s u l2 h2
own_step r0 r1 r2 s t u l1 l2 h1 h2 piece p c q =
    (p.0 ++ piece, Consumes-trans r0 r1 r2 p.0 piece p.1 c, edits_trans s t u false l1 l2 [] h1 h2 p.0 piece p.2 q)

-- a run that has ended
ended : (r0 r : Option (List ℕ)) (s t : Store) (read : List ℕ) → Consumes r0 r read → EditsIn s false [] read t → EditsAsRead r0 r s t
ended r0 r s t read c q =
    let m = q [] holds_none in
    let all = has_both s t t m.before m.rest m.splits m.edits (has_none t m.rest) in
    (read, all.edits, c, rw m.is_text all.asked, all.is_store)

pub own_kept : (r0 r1 r2 : Option (List ℕ)) (s t : Store) (l : Bool) (h : List ℕ) → OwnSoFar r0 r1 s t l h → Keeps r1 r2 → EditsAsRead r0 r2 s t
own_kept r0 r1 r2 s t l h p k = ended r0 r2 s t p.0 (Consumes-kept r0 r1 r2 p.0 p.1 k) (edits_in s t false l [] h p.0 p.2)

pub own_last : (r0 r1 r2 : Option (List ℕ)) (s t : Store) (l : Bool) (h : List ℕ) → OwnSoFar r0 r1 s t l h → Consumes r1 r2 [] → EditsAsRead r0 r2 s t
own_last r0 r1 r2 s t l h p c =
    let both : Consumes r0 r2 p.0 = subst (λ read. Consumes r0 r2 read) (append-nil p.0) (Consumes-trans r0 r1 r2 p.0 [] p.1 c) in
    ended r0 r2 s t p.0 both (edits_in s t false l [] h p.0 p.2)

pub own_cut : (r0 r1 r2 : Option (List ℕ)) (s t u : Store) (l : Bool) (h piece : List ℕ) → OwnSoFar r0 r1 s t l h → Consumes r1 r2 piece → EditsIn t l h piece u → EditsAsRead r0 r2 s u
own_cut r0 r1 r2 s t u l h piece p c q =
    ended r0 r2 s u (p.0 ++ piece) (Consumes-trans r0 r1 r2 p.0 piece p.1 c) (edits_stopped s t u false l [] h p.0 piece p.2 q)
