use Rattle.std.proofs.Common.{ℕ, List, sym, subst}
use Rattle.std.specs.Prelude.{Ok, Err, Option}
use Rattle.clap.specs.Walk.{texts}
use Rattle.clap.specs.Words.{Row, Text, found_of, rows_of}
use Rattle.lab_tasks.specs.Words.{AsksFor}
use Rattle.lab_tasks.proofs.Tasks.{faults_are, is_task, names_a_task, task_said}
use Rattle.lab_tasks.proofs.words.read_words.Goals as goal

pub returns-in-Err-try_get_matches_from-clause-refused : goal.returns-in-Err-try_get_matches_from-clause-refused
returns-in-Err-try_get_matches_from-clause-refused c =
    faults_are c.in-Ok.command (texts c.args.words.now) {T = ℕ} (Err c.in-Err-try_get_matches_from.fault) c.in-Ok.ensures c.in-Err-try_get_matches_from.ensures.kinds

pub unreachable-requires : goal.unreachable-requires
unreachable-requires c =
    let named = names_a_task c.in-Ok.command c.in-Ok-try_get_matches_from.matches c.in-Ok.ensures c.in-Ok-try_get_matches_from.ensures.parsed in
    let none = c.in_default.ensures.variant in
    cc

pub returns-clause-asked : goal.returns-clause-asked
returns-clause-asked c =
    let m = c.in-Ok-try_get_matches_from.matches in
    let said = task_said c.in-Ok.command m (texts c.args.words.now) c.in-Some.name.now (rows_of (found_of c.in-Some.rows.now)) c.in-Ok.ensures
    c.in-Ok-try_get_matches_from.ensures.matches c.in-Some.ensures.name c.in-Some.ensures.rows in
    let asked = rw c.in-Some-asked.is at c.in-Ok-asked_of.ensures.asked in
    subst (λ (o : Option (Text × List Row)). AsksFor o c.in-Some-asked.asked) (sym said) asked

pub returns-clause-refused : goal.returns-clause-refused
returns-clause-refused c =
    faults_are c.in-Ok.command (texts c.args.words.now) (Ok c.in-Ok-try_get_matches_from.matches) c.in-Ok.ensures c.in-Ok-try_get_matches_from.ensures.kinds

pub unreachable-requires-in-None : goal.unreachable-requires-in-None
unreachable-requires-in-None c =
    let m = c.in-Ok-try_get_matches_from.matches in
    let words = texts c.args.words.now in
    let said = task_said c.in-Ok.command m words c.in-Some.name.now (rows_of (found_of c.in-Some.rows.now)) c.in-Ok.ensures
    c.in-Ok-try_get_matches_from.ensures.matches c.in-Some.ensures.name c.in-Some.ensures.rows in
    let fault = faults_are c.in-Ok.command words (Ok m) c.in-Ok.ensures c.in-Ok-try_get_matches_from.ensures.kinds in
    let none = rw c.in-None.is at c.in-Ok-asked_of.ensures.none in
    is_task words c.in-Some.name.now _ fault said none
