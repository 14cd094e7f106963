-- The edits that take an edit back.
use Rattle.std.specs.Prelude.{◌≡◌, ℕ, suc, List, [], ◌∷◌, Option, None, Some, Ok, drop}
use Rattle.omega_net.specs.declared.script.ScriptEntry.{ScriptEntry}
use Rattle.project_book.specs.declared.edit.Edit.{Edit}
use Rattle.project_book.specs.declared.edit.Edit.TheVariants.{Entry, Cut, Word, Page, Depth, WaitDepth, Combine, Window, Horizon}
use Rattle.project_book.specs.Scripts.{script_of}
use Rattle.project_book.specs.Project.{Project, page_of, entry_at, word_of, depth_of, combines_at}
use Rattle.project_book.specs.Edits.{accepts, edited}

-- what makes entry i of a processor's script what it was: where there was none, the script ends there
abbrev pub entry_back : ℕ → ℕ → Option ScriptEntry → Edit
entry_back p i (Some entry) = Entry p i entry
entry_back p i None = Cut p i

-- what puts entries into a processor's script, from index i on
abbrev pub entries_back : ℕ → ℕ → List ScriptEntry → List Edit
entries_back p i [] = []
entries_back p i (entry ∷ entries) = Entry p i entry ∷ entries_back p (suc i) entries

-- what puts back the entries that were cut off a processor's script, which were at least one; else the same cut
abbrev pub cut_back : ℕ → ℕ → List ScriptEntry → List Edit
cut_back p n [] = Cut p n ∷ []
cut_back p n (entry ∷ entries) = entries_back p n (entry ∷ entries)

-- THE EDITS THAT TAKE AN EDIT BACK, by the project before it: each is made what it was
abbrev pub undoing : Project → Edit → List Edit
undoing P (Entry p i entry) = entry_back p i (entry_at P p i) ∷ []
undoing P (Cut p n) = cut_back p n (drop n (script_of P.scripts p))
undoing P (Word a word) = Word a (word_of P a) ∷ []
undoing P (Page g amount base) = Page g (page_of P g).amount (page_of P g).base ∷ []
undoing P (Depth q d) = Depth q (depth_of P q) ∷ []
undoing P (WaitDepth d) = WaitDepth P.wait ∷ []
undoing P (Combine s on) = Combine s (combines_at P s) ∷ []
undoing P (Window w) = Window P.window ∷ []
undoing P (Horizon t) = Horizon P.horizon ∷ []

-- after v accepted edits each of these is accepted in turn, and they lead from one project to another
abbrev pub LeadsTo : Project → ℕ → List Edit → Project → Type 0
LeadsTo P v [] Q = P ≡ Q
LeadsTo P v (e ∷ es) Q = (accepts P v e ≡ Ok tt) × LeadsTo (edited P e) (suc v) es Q
