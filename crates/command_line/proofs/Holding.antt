-- What the matches of the program's command hold.
use Rattle.std.proofs.Common.{◌≡◌, ◌⊎◌, ◌∙◌, ◌<◌, ◌≤◌, ap, ℕ, zero, suc, Bool, true, List, [], ◌∷◌, length, Option, Some, None, refl, sym, subst, inl, inr, arith, slice_index, codes}
use Rattle.std.specs.List.{slice_index_or}
use Rattle.std.specs.Prelude.{Result, Ok, pos}
use Rattle.std.specs.Str.{bytes_eq}
use Rattle.std.specs.Str.Parse.{ParsesUnsigned, ExplainsUnsignedError, HasUnsignedDigitsIfOk}
use Rattle.std.specs.declared.num.ParseIntError.{ParseIntError}
use Rattle.clap.specs.Lexer.{without_minus}
use Rattle.clap.specs.Words.{FailsBy, HasMatchesOf, ReadsOne, Text, app_of, args_of, fault_of, first_of, first_value, found_of, is_simple, is_simple_and_free, matches_of, one_of, one_text, rows_of}
use Rattle.clap.specs.Facts.{WantsDefault, least_values}
use Rattle.clap.specs.Built.{IsParsedFrom}
use Rattle.clap.specs.Values.{Accepts}
use Rattle.clap.specs.declared.builder.action.ArgAction.TheVariants.{Set}
use Rattle.clap.specs.declared.builder.arg.Arg.{Arg}
use Rattle.clap.specs.declared.builder.command.Command.{Command}
use Rattle.clap.specs.declared.builder.value_parser.ValueParser.TheVariants.{Signed}
use Rattle.clap.specs.declared.error.Error.{Error}
use Rattle.clap.specs.declared.parser.matches.ArgMatches.{ArgMatches}
use Rattle.clap.proofs.CallerReads.{signed_reads}
use Rattle.clap.proofs.OnLiterals.{clap_on_literals}
use Rattle.clap.proofs.WalkLemmas.{first_value-rows, one_text-rows}
use Rattle.command_line.specs.Arguments.{hotspot, IsHotspot, IsNumberHeld}
use Rattle.command_line.proofs.Defaults.{default_reads}

hotspot_simple : is_simple hotspot ≡ true
unfolding hotspot clap_on_literals
hotspot_simple = refl

hotspot_free : is_simple_and_free hotspot ≡ true
unfolding hotspot clap_on_literals
hotspot_free = refl

pub faults_are : (c : Command) (words : List Text) {T : Type 0} (r : Result T Error) → IsHotspot c
    → (is_simple_and_free (app_of c) ≡ true → FailsBy (fault_of (app_of c) words) r) → FailsBy (fault_of hotspot words) r
faults_are c words r h fails = subst (λ a. FailsBy (fault_of a words) r) h.app (fails (ap is_simple_and_free h.app ∙ hotspot_free))

rows_are : (c : Command) (m : ArgMatches) (words : List Text) → IsHotspot c → HasMatchesOf (app_of c) words m → rows_of (found_of m) ≡ matches_of hotspot words
rows_are c m words h has = (has (ap is_simple h.app ∙ hotspot_simple)).0 ∙ ap (λ a. matches_of a words) h.app

pub held_file : (c : Command) (m : ArgMatches) (words : List Text) → IsHotspot c → HasMatchesOf (app_of c) words m
    → first_value (found_of m) (codes "FILE") ≡ first_of (codes "FILE") (matches_of hotspot words)
held_file c m words h has = first_value-rows (found_of m) (codes "FILE") ∙ ap (first_of (codes "FILE")) (rows_are c m words h has)

-- the second of two arguments is the only one with its id
only_second : (args : List Arg) (a b : Arg) → args ≡ a ∷ b ∷ [] → a.id.now ≡ codes "FILE" → b.id.now ≡ codes "workers" → (j : ℕ) (e : Arg) → j < length args
    → bytes_eq (slice_index_or args j e).id.now b.id.now ≡ true → j ≡ 1
only_second args a b is file workers zero e lt same =
    let bad : bytes_eq (codes "FILE") (codes "workers") ≡ true = rw (is, file, workers) at same in
    cc
only_second args a b is file workers (suc zero) e lt same = refl
only_second args a b is file workers (suc (suc j)) e lt same =
    let two : length args ≡ 2 = ap length is in
    absurd (omega arith)

starts_with_w : (t : Text) → t ≡ codes "workers" → slice_index t 0 ≡ 119
starts_with_w t e = rw e refl

differ : (n : ℕ) → n < 119 → n ≡ 119 → ⊥
differ n less e = omega arith

first_of_both : (t u : Text) → t ≡ codes "workers" → t ≡ u → slice_index u 0 ≡ 119
first_of_both t u e same = subst (λ (w : Text). slice_index w 0 ≡ 119) same (starts_with_w t e)

not_empty : (t : Text) → t ≡ codes "workers" → t ≡ [] → ⊥
not_empty t e none = differ 0 (omega arith) (first_of_both t [] e none)

not_own : (t : Text) → t ≡ codes "workers" → (t ≡ codes "help") ⊎ (t ≡ codes "version") → ⊥
not_own t e (inl h) = differ 104 (omega arith) (first_of_both t (codes "help") e h)
not_own t e (inr h) = differ 118 (omega arith) (first_of_both t (codes "version") e h)

one_least : (a : Arg) → a.num_vals ≡ None → 1 ≤ least_values a
one_least a none = rw none (omega arith)

-- a text at `--workers` that passed the parser
workers_read : (c : Command) (m : ArgMatches) → IsHotspot c → IsParsedFrom c m
    → (t : Text) × (one_text (found_of m) (codes "workers") ≡ Some (without_minus t)) × ((i : Bool) × Accepts i (Signed (pos 0) (pos 16)) t)
workers_read c m h p =
    let w = h.workers in
    let rule = h.is_workers.rule in
    let a = slice_index_or (args_of c) 1 w in
    let is : a ≡ w = ap (λ l. slice_index_or l 1 w) h.both in
    let id : w.id.now ≡ codes "workers" = ap (λ x. x.now) h.same.id ∙ ap (λ r. r.id) rule in
    let a_id : a.id.now ≡ codes "workers" = ap (λ (x : Arg). x.id.now) is ∙ id in
    let set : h.made.action ≡ Some Set = ap (λ r. r.action) rule in
    let parser : h.made.value_parser ≡ Some (Signed (pos 0) (pos 16)) = ap (λ r. r.parser) rule in
    let wants : WantsDefault w = (h.same.ifs ∙ h.is_workers.wants_default.0, rw (h.same.defaults h.is_workers.wants_default.1) h.is_workers.wants_default.1) in
    let two : 1 < length (args_of c) = subst (λ l. 1 < length l) (sym h.both) (omega arith) in
    let least : 1 ≤ least_values w = h.same.least set (one_least h.made h.is_workers.no_range) in
    let got = default_reads c m p h.plain h.globals 1 w two (subst WantsDefault (sym is) wants) (ap (λ (x : Arg). x.action) is ∙ h.same.action Set set)
    (ap (λ (x : Arg). x.val_delim) is ∙ (h.same.val_delim ∙ h.is_workers.no_delimiter)) (subst (λ (x : Arg). 1 ≤ least_values x) (sym is) least)
    (λ j e lt same. only_second (args_of c) h.file w h.both h.file_id id j e lt (subst (λ (x : Arg). bytes_eq (slice_index_or (args_of c) j e).id.now x.id.now ≡ true) is same))
    (not_empty a.id.now a_id) (not_own a.id.now a_id) (Signed (pos 0) (pos 16)) (ap (λ (x : Arg). x.value_parser) is ∙ h.same.parser _ parser) in
    (got.0, subst (λ (t : Text). one_text (found_of m) t ≡ Some (without_minus got.0)) a_id got.1, (a.ignore_case, got.2))

-- how a number of 8 bits is read
abbrev pub Reads8 : Text → Result ℕ ParseIntError → Type 0
Reads8 t r = ParsesUnsigned 8 10 t r × ExplainsUnsignedError 10 t r × HasUnsignedDigitsIfOk t r

parses : (t : Text) (r : Option ℕ) (n : ℕ) → r ≡ Some n → ReadsOne Reads8 t r → ParsesUnsigned {E = ParseIntError} 8 10 t (Ok n)
parses t r n is read =
    let so : ReadsOne Reads8 t (Some n) = subst (ReadsOne Reads8 t) is read in
    so.0

pub held_workers : (c : Command) (m : ArgMatches) (words : List Text) → IsHotspot c → IsParsedFrom c m → HasMatchesOf (app_of c) words m → (r : Option ℕ)
    → ((t : Text) → one_text (found_of m) (codes "workers") ≡ Some t → ReadsOne Reads8 t r)
    → (n : ℕ) × (r ≡ Some n) × (n ≤ 16) × IsNumberHeld (matches_of hotspot words) n
held_workers c m words h p has r reads =
    let got = workers_read c m h p in
    let one = reads (without_minus got.0) got.1 in
    let number = signed_reads ParseIntError Reads8 8 0 16 got.0 r one (λ u x g. g.0) (omega arith) got.2.1 in
    let held : one_of (codes "workers") (matches_of hotspot words) ≡ Some (without_minus got.0) =
    ap (one_of (codes "workers")) (sym (rows_are c m words h has)) ∙ sym (one_text-rows (found_of m) (codes "workers")) ∙ got.1 in
    (number.0, number.1, number.3, (without_minus got.0, held, parses (without_minus got.0) r number.0 number.1 one))
