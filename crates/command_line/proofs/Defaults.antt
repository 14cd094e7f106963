-- What a caller of a parse reads of an argument that has a default.
use Rattle.std.proofs.Common.{◌≡◌, ◌∙◌, ◌<◌, ◌≤◌, ap, ℕ, zero, suc, cond, Bool, true, false, List, [], ◌∷◌, length, Some, None, refl, sym, subst, inl, inr, arith}
use Rattle.std.specs.List.{All, slice_index_or}
use Rattle.std.specs.Str.{bytes_eq}
use Rattle.std.specs.Prelude.{find, option_map, slice_get}
use Rattle.std.specs.Borrow.{Bor}
use Rattle.std.proofs.lemmas.Slice.Eq.{bytes_eq-Decides}
use Rattle.std.proofs.lemmas.List.Elements.{All-get_or}
use Rattle.clap.specs.Facts.{args_of, groups_of, least_values, parser_of, parser_of_value, AllowsNone, Entry, EntryPasses, EntryValuesPass, IsFilledEntry, IsGroupEntry, ReadsByParser, HasId, HasIn, HasReading, IsCountArg, PassesArg, ValuesPass, WantsDefault}
use Rattle.clap.specs.Built.{IsAuto, IsParsedFrom, IsPlain, SameRules}
use Rattle.clap.specs.Matches.{matched_of, one_text, found_of}
use Rattle.clap.specs.Values.{Accepts, read_as, reading_of}
use Rattle.clap.specs.declared.builder.action.ArgAction.TheVariants.{Count, Set}
use Rattle.clap.specs.declared.builder.arg.Arg.{Arg}
use Rattle.clap.specs.declared.builder.command.Command.{Command}
use Rattle.clap.specs.declared.builder.command.Command.TheViews.{out-Command}
use Rattle.clap.specs.declared.builder.value_parser.Reading.{Reading}
use Rattle.clap.specs.declared.builder.value_parser.ValueParser.{ValueParser}
use Rattle.clap.specs.declared.parser.matches.ArgMatches.{ArgMatches}
use Rattle.clap.specs.declared.parser.matches.Found.{Found}
use Rattle.clap.specs.declared.parser.matches.MatchedArg.{MatchedArg}
use Rattle.clap.proofs.CallerLemmas.{default_present, entry_by_id, same_rules_by_id}

none_below : 0 < 0 → ⊥
none_below h = omega arith

some_least : (n : ℕ) → n ≡ 0 → 1 ≤ n → ⊥
some_least n none some = omega arith

-- a key that stands in a list of entries is found
found_in : (xs : List Entry) (id : List ℕ) → HasIn xs id → (x : MatchedArg) × (option_map (λ e. e.1) (find (λ e. bytes_eq e.0.now id) xs) ≡ Some x)
found_in [] id (i, lt, at) = absurd (omega arith)
found_in (e ∷ es) id (zero, lt, at) = (e.1, rw (at e) refl)
found_in (e ∷ es) id (suc i, lt, at) = go (bytes_eq e.0.now id) (found_in es id (i, omega arith, at))
  where
    go : (t : Bool) → (x : MatchedArg) × (option_map (λ e. e.1) (find (λ e. bytes_eq e.0.now id) es) ≡ Some x)
        → (x : MatchedArg) × (option_map (λ e. e.1) (cond t (Some e) (find (λ e. bytes_eq e.0.now id) es)) ≡ Some x)
    go true rest = (e.1, refl)
    go false rest = rest

-- the first of a list of values, all of which pass
first_passes : (P : Bor (List ℕ) → Type 0) (how : Reading) (vs : List (Bor (List ℕ))) → All P vs → 0 < length vs
    → (v : Bor (List ℕ)) × (option_map (λ s. read_as how s.now) (slice_get vs 0) ≡ Some (read_as how v.now)) × P v
first_passes P how [] h some = absurd (omega arith)
first_passes P how (v ∷ vs) h some = (v, refl, All-get_or P (v ∷ vs) 0 v (omega arith) h)

one_text_of : (f : Found) (id : List ℕ) (x : MatchedArg) (how : Reading) (t : List ℕ) → matched_of f id ≡ Some x → x.reading ≡ how
    → option_map (λ s. read_as how s.now) (slice_get x.vals.items 0) ≡ Some t → one_text f id ≡ Some t
one_text_of f id x how t found is v = rw (found, is) v

accepts_of : (a y : Arg) (q : ValueParser) (t : List ℕ) → SameRules a y → a.value_parser ≡ Some q → Accepts y.ignore_case (parser_of y) t → Accepts a.ignore_case q t
accepts_of a y q t s parser read =
    let is_q : parser_of y ≡ q = ap parser_of_value (s.parser q parser) in
    let as_q : Accepts y.ignore_case q t = subst (λ (w : ValueParser). Accepts y.ignore_case w t) is_q read in
    subst (λ (b : Bool). Accepts b q t) s.ignore_case as_q

-- the only argument with this id, as the caller made it
abbrev IsOnly : Command → List ℕ → Arg → Type 0
IsOnly c id a = (j : ℕ) (x : Arg) → j < length (args_of c) → slice_index_or (args_of c) j x ≡ x → bytes_eq x.id.now id ≡ true → SameRules a x

not_counted : (c : Command) (id : List ℕ) (a : Arg) → IsOnly c id a → a.action ≡ Some Set → IsCountArg c id → ⊥
not_counted c id a only set any =
    let is_set : any.1.action ≡ Some Set = (only any.0 any.1 any.2 any.3 any.4.0).action Set set in
    let bad : Set ≡ Count = rw is_set at any.4.1 in
    cc

not_empty : (c : Command) (id : List ℕ) (a : Arg) → IsOnly c id a → a.action ≡ Some Set → a.val_delim ≡ None → 1 ≤ least_values a → AllowsNone c id → ⊥
not_empty c id a only set delim least any =
    let s = only any.0 any.1 any.2 any.3 any.4.0 in
    elim any.4.1 [
      | inl none ↦ some_least (least_values any.1) none (s.least set least)
      | inr has ↦
          let bad : false ≡ true = rw (s.val_delim, delim) at has in
          cc
    ]

read_so : (c : Command) (id : List ℕ) (a : Arg) (q : ValueParser) → IsOnly c id a → a.value_parser ≡ Some q → (r : Reading) → HasReading c id r → r ≡ reading_of q
read_so c id a q only parser r any =
    let s = only any.0 any.1 any.2 any.3 any.4.0 in
    sym any.4.1 ∙ ap reading_of (ap parser_of_value (s.parser q parser))

passed_so : (c : Command) (id : List ℕ) (a : Arg) (q : ValueParser) → IsOnly c id a → a.value_parser ≡ Some q → (v : Bor (List ℕ)) → PassesArg c id v.now → Accepts a.ignore_case q v.now
passed_so c id a q only parser v any = accepts_of a any.1 q v.now (only any.0 any.1 any.2 any.3 any.4.0) parser any.4.1

no_group_of : (c : Command) (e : Entry) → groups_of c ≡ [] → (e.0.now ≡ [] → ⊥) → IsGroupEntry c e → e.1.is_group ≡ true → ⊥
no_group_of c e no_groups named group g = elim (group g) [
  | inl none ↦ named none
  | inr lots ↦ none_below (rw no_groups at lots)
]

some_values : (c : Command) (e : Entry) → (e.1.is_group ≡ true → ⊥) → (IsCountArg c e.0.now → ⊥) → (AllowsNone c e.0.now → ⊥) → IsFilledEntry c e → 0 < length e.1.vals.items
some_values c e no_group counted empty (inl h) = absurd (no_group h.0)
some_values c e no_group counted empty (inr (inl v)) = v
some_values c e no_group counted empty (inr (inr (inl h))) = absurd (counted h.1)
some_values c e no_group counted empty (inr (inr (inr h))) = absurd (empty h)

all_pass : (c : Command) (e : Entry) → (e.1.is_group ≡ true → ⊥) → EntryValuesPass c e → All (λ v. PassesArg c e.0.now v.now) e.1.vals.items
all_pass c e no_group (inl g) = absurd (no_group g)
all_pass c e no_group (inr vals) = vals

read_by : (c : Command) (e : Entry) (how : Reading) → (e.1.is_group ≡ true → ⊥) → ((r : Reading) → HasReading c e.0.now r → r ≡ how) → ReadsByParser c e → e.1.reading ≡ how
read_by c e how no_group reads (inl g) = absurd (no_group g)
read_by c e how no_group reads (inr h) = reads e.1.reading h

-- what the first value of an argument gives
value_reads : (c : Command) (f : Found) (id key : List ℕ) (a : Arg) (q : ValueParser) (x : MatchedArg) → IsOnly c key a → a.value_parser ≡ Some q
    → matched_of f id ≡ Some x → x.reading ≡ reading_of q
    → ((v : Bor (List ℕ)) × (option_map (λ s. read_as (reading_of q) s.now) (slice_get x.vals.items 0) ≡ Some (read_as (reading_of q) v.now)) × PassesArg c key v.now)
    → (t : List ℕ) × (one_text f id ≡ Some (read_as (reading_of q) t)) × Accepts a.ignore_case q t
value_reads c f id key a q x only parser found read_is first = (
  first.0.now,
  one_text_of f id x (reading_of q) (read_as (reading_of q) first.0.now) found read_is first.1,
  passed_so c key a q only parser first.0 first.2,
)

-- what the entry of an argument gives
entry_reads : (c : Command) (f : Found) (id : List ℕ) (a : Arg) (q : ValueParser) (e : Entry) → groups_of c ≡ [] → (e.0.now ≡ [] → ⊥) → IsOnly c e.0.now a
    → a.action ≡ Some Set → a.val_delim ≡ None → 1 ≤ least_values a → a.value_parser ≡ Some q → matched_of f id ≡ Some e.1 → EntryPasses c e
    → (t : List ℕ) × (one_text f id ≡ Some (read_as (reading_of q) t)) × Accepts a.ignore_case q t
entry_reads c f id a q e no_groups named only set delim least parser found pass =
    let no_group = no_group_of c e no_groups named pass.3 in
    value_reads c f id e.0.now a q e.1 only parser found (read_by c e (reading_of q) no_group (read_so c e.0.now a q only parser) pass.4)
    (first_passes (λ v. PassesArg c e.0.now v.now) (reading_of q) e.1.vals.items (all_pass c e no_group pass.0)
    (some_values c e no_group (not_counted c e.0.now a only set) (not_empty c e.0.now a only set delim least) pass.1))

-- what the parse found for it
found_reads : (c : Command) (f : Found) (id : List ℕ) (a : Arg) (q : ValueParser) → ValuesPass c f → groups_of c ≡ [] → (id ≡ [] → ⊥) → HasId f id → IsOnly c id a
    → a.action ≡ Some Set → a.val_delim ≡ None → 1 ≤ least_values a → a.value_parser ≡ Some q
    → (t : List ℕ) × (one_text f id ≡ Some (read_as (reading_of q) t)) × Accepts a.ignore_case q t
found_reads c f id a q values no_groups named has only set delim least parser =
    let here = found_in f.entries.items id has in
    let got = entry_by_id (EntryPasses c) f.entries.items id here.0 values here.1 in
    let key : got.0.0.now ≡ id = (bytes_eq-Decides got.0.0.now id).0 got.2 in
    entry_reads c f id a q got.0 no_groups (λ none. named (sym key ∙ none)) (subst (λ (w : List ℕ). IsOnly c w a) (sym key) only) set delim least parser
    (here.1 ∙ ap (λ (x : MatchedArg). Some x) (sym got.1)) got.3

-- an argument of the caller's that takes a value and has a default has a text that passed its parser, and is read as that parser says
pub default_reads : (old : Command) (m : ArgMatches) (p : IsParsedFrom old m) → IsPlain old → (out-Command old).has_globals ≡ false
    → (k : ℕ) (d : Arg) → k < length (args_of old) → WantsDefault (slice_index_or (args_of old) k d)
    → (slice_index_or (args_of old) k d).action ≡ Some Set → (slice_index_or (args_of old) k d).val_delim ≡ None
    → 1 ≤ least_values (slice_index_or (args_of old) k d)
    → ((j : ℕ) (e : Arg) → j < length (args_of old)
    → bytes_eq (slice_index_or (args_of old) j e).id.now (slice_index_or (args_of old) k d).id.now ≡ true → j ≡ k)
    → ((slice_index_or (args_of old) k d).id.now ≡ [] → ⊥)
    → (IsAuto (slice_index_or (args_of old) k d) → ⊥)
    → (q : ValueParser) → (slice_index_or (args_of old) k d).value_parser ≡ Some q
    → (t : List ℕ) × (one_text (found_of m) (slice_index_or (args_of old) k d).id.now ≡ Some (read_as (reading_of q) t))
    × Accepts (slice_index_or (args_of old) k d).ignore_case q t
default_reads old m p plain globals k d lt wants set delim least unique named own q parser =
    found_reads p.built (found_of m) (slice_index_or (args_of old) k d).id.now (slice_index_or (args_of old) k d) q
    (p.parsed (p.from.globals ∙ globals)).values (p.from.plain plain).1 named (default_present old m p globals k d lt wants)
    (same_rules_by_id old m p k d lt unique own) set delim least parser
