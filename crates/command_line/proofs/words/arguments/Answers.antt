use Rattle.std.proofs.Common.{◌≡◌, ◌∙◌, ℕ, ap}
use Rattle.clap.specs.Walk.{texts}
use Rattle.std.specs.Prelude.{Ok, Err, unwrap_or}
use Rattle.command_line.proofs.Holding.{faults_are, held_file, held_workers}
use Rattle.command_line.proofs.words.arguments.Goals as goal

pub returns-in-Err-try_get_matches_from-clause-refused : goal.returns-in-Err-try_get_matches_from-clause-refused
returns-in-Err-try_get_matches_from-clause-refused c =
    faults_are c.in-Ok.command (texts c.args.words.now) {T = ℕ} (Err c.in-Err-try_get_matches_from.fault) c.in-Ok.ensures c.in-Err-try_get_matches_from.ensures.kinds

pub returns-clause-file : goal.returns-clause-file
returns-clause-file c =
    c.get_str.ensures ∙ held_file c.in-Ok.command c.in-Ok-try_get_matches_from.matches (texts c.args.words.now) c.in-Ok.ensures c.in-Ok-try_get_matches_from.ensures.matches

pub returns-clause-workers : goal.returns-clause-workers
returns-clause-workers c =
    let parsed = c.in-Ok-try_get_matches_from.ensures in
    let got = held_workers c.in-Ok.command c.in-Ok-try_get_matches_from.matches (texts c.args.words.now) c.in-Ok.ensures parsed.parsed parsed.matches
    c.get_one.result c.get_one.ensures.value in
    let is : c.from-2.result ≡ got.0 = c.from-2.ensures ∙ (c.unwrap_or-workers.ensures ∙ ap (λ o. unwrap_or o 0) got.1) in
    rw is got.3

pub returns-clause-most : goal.returns-clause-most
returns-clause-most c =
    let parsed = c.in-Ok-try_get_matches_from.ensures in
    let got = held_workers c.in-Ok.command c.in-Ok-try_get_matches_from.matches (texts c.args.words.now) c.in-Ok.ensures parsed.parsed parsed.matches
    c.get_one.result c.get_one.ensures.value in
    let is : c.from-2.result ≡ got.0 = c.from-2.ensures ∙ (c.unwrap_or-workers.ensures ∙ ap (λ o. unwrap_or o 0) got.1) in
    rw is got.2

pub returns-clause-refused : goal.returns-clause-refused
returns-clause-refused c =
    let all = texts c.args.words.now in
    faults_are c.in-Ok.command all (Ok c.in-Ok-try_get_matches_from.matches) c.in-Ok.ensures c.in-Ok-try_get_matches_from.ensures.kinds
