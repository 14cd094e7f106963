-- A command line names a task, or `clap` finds a fault in it.
use Rattle.std.proofs.Common.{◌≡◌, ◌⊎◌, ◌∙◌, ◌||◌, Bool, true, false, List, [], ◌∷◌, inl, inr, refl, sym, ap, subst, arith}
use Rattle.std.specs.Prelude.{IfNone, Option, Some, None, Result, codes, find, map, option_map}
use Rattle.std.specs.Str.{bytes_eq}
use Rattle.std.proofs.lemmas.List.Elements.{All-from_recursion, recursion_from_All}
use Rattle.std.proofs.lemmas.Slice.Eq.{bytes_eq-Decides}
use Rattle.clap.specs.Walk.{Names, answers_to, nothing_held, walk_from}
use Rattle.clap.specs.Words.{App, FailsBy, HasMatchesOf, IsParsedFrom, Row, Shape, Text, app_of, fault_of, has_subcommand, is_simple, is_simple_and_free, subcommand_name_of, subcommand_of, subcommand_rows_of}
use Rattle.clap.specs.Faults.{walk_fault}
use Rattle.clap.specs.Simple.{argument_words, built, entered, label_of, names_of, rows_at}
use Rattle.clap.specs.declared.builder.command.Command.{Command}
use Rattle.clap.specs.declared.builder.command.Command.TheViews.{out-Command}
use Rattle.clap.specs.declared.error.Error.{Error}
use Rattle.clap.specs.declared.parser.matches.ArgMatches.{ArgMatches}
use Rattle.clap.proofs.OnLiterals.{clap_on_literals}
use Rattle.lab_tasks.specs.CommandLine.{lab, map_task, other_tasks, reports, tasks, IsLab, IsNoneOf, IsNoTask}
use Rattle.lab_tasks.proofs.Helps.{IsClear, first_none, walk_clear}

lab_simple : is_simple lab ≡ true
unfolding lab clap_on_literals
lab_simple = refl

lab_free : is_simple_and_free lab ≡ true
unfolding lab clap_on_literals
lab_free = refl

pub faults_are : (c : Command) (words : List Text) {T : Type 0} (r : Result T Error) → IsLab c
    → (is_simple_and_free (app_of c) ≡ true → FailsBy (fault_of (app_of c) words) r) → FailsBy (fault_of lab words) r
faults_are c words r h fails = subst (λ a. FailsBy (fault_of a words) r) h.0 (fails (ap is_simple_and_free h.0 ∙ lab_free))

-- words that are taken name a task
needs_a_task : lab.top.subcommand_required ≡ true
unfolding lab
needs_a_task = refl

pub names_a_task : (c : Command) (m : ArgMatches) → IsLab c → IsParsedFrom c m → has_subcommand m ≡ true
names_a_task c m h p =
    let needs : (out-Command p.built).subcommand_required ≡ true = p.from.needs_subcommand ∙ (ap (λ (a : App). a.top.subcommand_required) h.0 ∙ needs_a_task) in
    (p.parsed (p.from.globals ∙ h.1)).checked.subcommand needs

abbrev row_pair : {B : Type 0} → (B → Text) → (B → List Row) → B → Text × List Row
row_pair f g b = (f b, g b)

both : {B : Type 0} (f : B → Text) (g : B → List Row) (o : Option B) (name : Text) (rows : List Row) → Some name ≡ option_map f o
    → Some rows ≡ option_map (λ (p : Text × List Row). p.1) (option_map (row_pair f g) o) → option_map (row_pair f g) o ≡ Some (name, rows)
both f g None name rows n r = cc
both f g (Some b) name rows n r =
    let first : f b ≡ name = cc in
    let second : g b ≡ rows = cc in
    rw (first, second) refl

-- the task that the matches name, with its rows, is that of the words
pub task_said : (c : Command) (m : ArgMatches) (words : List Text) (name : Text) (rows : List Row) → IsLab c → HasMatchesOf (app_of c) words m
    → Some name ≡ subcommand_name_of m → Some rows ≡ option_map (λ (p : Text × List Row). p.1) (subcommand_rows_of m) → subcommand_of lab words ≡ Some (name, rows)
task_said c m words name rows h has n r =
    let said : subcommand_rows_of m ≡ subcommand_of (app_of c) words = (has (ap is_simple h.0 ∙ lab_simple)).1 in
    sym (ap (λ a. subcommand_of a words) h.0) ∙ (sym said ∙ both _ _ _ name rows n r)

-- a label stands in a list
abbrev IsIn : Text × List Text → Names → Type 0
IsIn l [] = ⊥
IsIn l (x ∷ xs) = (x ≡ l) ⊎ IsIn l xs

find_in : (f : Shape → Bool) (xs : List Shape) (s : Shape) → find f xs ≡ Some s → IsIn (label_of s) (map label_of xs) × (f s ≡ true)
find_in f [] s e = cc
find_in f (x ∷ xs) s e = by_test (f x) refl (find_in f xs s)
  where
    by_test : (t : Bool) → f x ≡ t → (find f xs ≡ Some s → IsIn (label_of s) (map label_of xs) × (f s ≡ true)) → IsIn (label_of s) (map label_of (x ∷ xs)) × (f s ≡ true)
    by_test true here rest =
        let found : Some x ≡ Some s = rw here at e in
        let same : x ≡ s = cc in
        (inl (ap label_of same), subst (λ y. f y ≡ true) same here)
    by_test false here rest =
        let more : find f xs ≡ Some s = rw here at e in
        let r = rest more in
        (inr r.0, r.1)

same_text : (t : Text) → bytes_eq t t ≡ true
same_text t = (bytes_eq-Decides t t).1 refl

-- a name that isn't this text is another one
differ : (text : Text) (l : Text × List Text) (name : Text) → (text, []) ≡ l → l.0 ≡ name → bytes_eq text name ≡ false → ⊥
differ text l name e is apart =
    let same : text ≡ name = ap (λ (k : Text × List Text). k.0) e ∙ is in
    let yes : bytes_eq text name ≡ true = subst (λ t. bytes_eq text t ≡ true) same (same_text text) in
    cc

or_none : (b : Bool) → (b || false) ≡ true → b ≡ true
or_none true e = refl
or_none false e = cc

-- and a word that isn't `help` isn't answered to by it
no_help : (word : Text) (l : Text × List Text) → (codes "help", []) ≡ l → answers_to word l ≡ true → bytes_eq word (codes "help") ≡ false → ⊥
no_help word l e answers clear =
    let one : (bytes_eq (codes "help") word || false) ≡ true = subst (λ (k : Text × List Text). answers_to word k ≡ true) (sym e) answers in
    let same : codes "help" ≡ word = (bytes_eq-Decides (codes "help") word).0 (or_none (bytes_eq (codes "help") word) one) in
    let yes : bytes_eq word (codes "help") ≡ true = subst (λ w. bytes_eq w (codes "help") ≡ true) same (same_text (codes "help")) in
    cc

-- the labels of the tasks, and `help`
abbrev labels : Names
labels = (codes "map", []) ∷ (codes "order", []) ∷ (codes "latency", []) ∷ (codes "done", []) ∷ (codes "trace", []) ∷ (codes "full", []) ∷ (codes "series", []) ∷ (codes "busy", []) ∷ (codes "rates", []) ∷ (codes "delays", []) ∷ (codes "load", []) ∷ (codes "sweep", []) ∷ (codes "check", []) ∷ (codes "convert", []) ∷ (codes "page", []) ∷ (codes "shell", []) ∷ (codes "help", []) ∷ []

labels_are : names_of (built lab) ≡ labels
unfolding lab clap_on_literals
labels_are = refl

helps : (built lab).top.disable_help_subcommand ≡ false
unfolding lab clap_on_literals
helps = refl

not_other : (word : Text) (l : Text × List Text) (name : Text) → IsIn l labels → l.0 ≡ name → answers_to word l ≡ true
    → bytes_eq word (codes "help") ≡ false → IsNoTask name → ⊥
not_other word l name (inl e) is answers clear none = differ (codes "map") l name e is (none 0 map_task (omega arith))
not_other word l name (inr (inl e)) is answers clear none = differ (codes "order") l name e is (none 1 map_task (omega arith))
not_other word l name (inr (inr (inl e))) is answers clear none = differ (codes "latency") l name e is (none 2 map_task (omega arith))
not_other word l name (inr (inr (inr (inl e)))) is answers clear none = differ (codes "done") l name e is (none 3 map_task (omega arith))
not_other word l name (inr (inr (inr (inr (inl e))))) is answers clear none = differ (codes "trace") l name e is (none 4 map_task (omega arith))
not_other word l name (inr (inr (inr (inr (inr (inl e)))))) is answers clear none = differ (codes "full") l name e is (none 5 map_task (omega arith))
not_other word l name (inr (inr (inr (inr (inr (inr (inl e))))))) is answers clear none = differ (codes "series") l name e is (none 6 map_task (omega arith))
not_other word l name (inr (inr (inr (inr (inr (inr (inr (inl e)))))))) is answers clear none = differ (codes "busy") l name e is (none 7 map_task (omega arith))
not_other word l name (inr (inr (inr (inr (inr (inr (inr (inr (inl e))))))))) is answers clear none = differ (codes "rates") l name e is (none 8 map_task (omega arith))
not_other word l name (inr (inr (inr (inr (inr (inr (inr (inr (inr (inl e)))))))))) is answers clear none = differ (codes "delays") l name e is (none 9 map_task (omega arith))
not_other word l name (inr (inr (inr (inr (inr (inr (inr (inr (inr (inr (inl e))))))))))) is answers clear none = differ (codes "load") l name e is (none 10 map_task (omega arith))
not_other word l name (inr (inr (inr (inr (inr (inr (inr (inr (inr (inr (inr (inl e)))))))))))) is answers clear none = differ (codes "sweep") l name e is (none 11 map_task (omega arith))
not_other word l name (inr (inr (inr (inr (inr (inr (inr (inr (inr (inr (inr (inr (inl e))))))))))))) is answers clear none = differ (codes "check") l name e is (none 12 map_task (omega arith))
not_other word l name (inr (inr (inr (inr (inr (inr (inr (inr (inr (inr (inr (inr (inr (inl e)))))))))))))) is answers clear none = differ (codes "convert") l name e is (none 13 map_task (omega arith))
not_other word l name (inr (inr (inr (inr (inr (inr (inr (inr (inr (inr (inr (inr (inr (inr (inl e))))))))))))))) is answers clear none = differ (codes "page") l name e is (none 14 map_task (omega arith))
not_other word l name (inr (inr (inr (inr (inr (inr (inr (inr (inr (inr (inr (inr (inr (inr (inr (inl e)))))))))))))))) is answers clear none = differ (codes "shell") l name e is (none 15 map_task (omega arith))
not_other word l name (inr (inr (inr (inr (inr (inr (inr (inr (inr (inr (inr (inr (inr (inr (inr (inr (inl e))))))))))))))))) is answers clear none = no_help word l e answers clear
not_other word l name (inr (inr (inr (inr (inr (inr (inr (inr (inr (inr (inr (inr (inr (inr (inr (inr (inr never))))))))))))))))) is answers clear none = absurd never

first_is : (p q : Text × List Row) → Some p ≡ Some q → p.0 ≡ q.0
first_is p q e =
    let same : p ≡ q = cc in
    ap (λ (r : Text × List Row). r.0) same

entered_none : (p : Text × List Text) (name : Text) (rows : List Row) → bytes_eq p.0 (codes "help") ≡ false → IsNoTask name
    → (o : Option Shape) → find (λ s. answers_to p.0 (label_of s)) (built lab).subs ≡ o → option_map (λ s. rows_at s p.1) o ≡ Some (name, rows) → ⊥
entered_none p name rows clear none None f e = cc
entered_none p name rows clear none (Some s) f e =
    let r = find_in (λ s. answers_to p.0 (label_of s)) (built lab).subs s f in
    let there : IsIn (label_of s) labels = subst (IsIn (label_of s)) labels_are r.0 in
    let said : Text × List Row = (name, rows) in
    not_other p.0 (label_of s) name there (first_is (rows_at s p.1) said e) r.1 clear none

stopped_none : (o : Option (Text × List Text)) (name : Text) (rows : List Row) → IsClear o → IsNoTask name → entered (built lab) o ≡ Some (name, rows) → ⊥
stopped_none None name rows clear none e = cc
stopped_none (Some p) name rows clear none e = entered_none p name rows clear none (find (λ s. answers_to p.0 (label_of s)) (built lab).subs) refl e

-- what the words name where `clap` finds no fault in them is a task
pub is_task : (words : List Text) (name : Text) (rows : List Row) → fault_of lab words ≡ [] → subcommand_of lab words ≡ Some (name, rows) → IsNoTask name → ⊥
is_task words name rows fault said none =
    let top = (built lab).top in
    let names = names_of (built lab) in
    let given = argument_words lab words in
    let walk : walk_fault top names (walk_from nothing_held) given ≡ [] = first_none _ _ fault in
    let clear = walk_clear top names (walk_from nothing_held) given helps tt walk in
    stopped_none _ name rows clear none said

-- a name that neither a report has nor another task is that of no task
pub no_task : (name : Text) → IsNoneOf reports name → IsNoneOf other_tasks name → IsNoTask name
no_task name r o =
    let has_not : Shape → Type 0 = λ t. bytes_eq t.name name ≡ false in
    let rs = recursion_from_All has_not reports r in
    let os = recursion_from_All has_not other_tasks o in
    All-from_recursion has_not tasks
    (os.0, (os.1.0, (rs.0, (rs.1.0, (rs.1.1.0, (rs.1.1.1.0, (rs.1.1.1.1.0, (rs.1.1.1.1.1.0, (os.1.1.0, (os.1.1.1.0, (os.1.1.1.1.0, (os.1.1.1.1.1.0, (os.1.1.1.1.1.1.0, (os.1.1.1.1.1.1.1.0, (os.1.1.1.1.1.1.1.1.0, os.1.1.1.1.1.1.1.1.1)))))))))))))))

-- nothing, so what follows from it too
pub none_more : {T : Type 0} (o : Option T) (X Y : Type 0) → (X → Y) → IfNone o X → IfNone o Y
none_more None X Y f h = f h
none_more (Some x) X Y f h = tt
