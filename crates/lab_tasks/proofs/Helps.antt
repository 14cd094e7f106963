-- A walk over words that meets no fault stops at no subcommand `help`.
use Rattle.std.proofs.Common.{◌≡◌, Bool, List, [], ◌∷◌, Option, Some, None, true, false, cond, refl, subst}
use Rattle.std.specs.Prelude.{codes, fold}
use Rattle.std.specs.Str.{bytes_eq}
use Rattle.clap.specs.Walk.{Held, Names, Outcome, Rule, Step, Text, Waiting, Walk, after_flag, after_step, arg_by_index, bundle, done, idle, long_met, long_or_other, next, option, plain, plain_word, positional, arg_by_long, refused, short_or_plain, subcommand, subcommand_met, subcommand_or_other, to_positional, trailing, value, waits, walked, walked_from, word_met}
use Rattle.clap.specs.Lexer.{long_of, short_of}
use Rattle.clap.specs.Kinds.{Kinds, or_else}
use Rattle.clap.specs.Simple.{Shape}
use Rattle.clap.specs.Faults.{other_fault, step_fault, turn_fault, walk_fault, word_fault}

-- a step that enters no subcommand
abbrev IsOther : Step → Type 0
IsOther (subcommand name) = ⊥
IsOther _ = Unit {0}

plain_other : (c : List Rule) (waiting : Waiting) (word : Text) (h : Held) → IsOther (plain_word c waiting word h).1
plain_other c idle word h = tt
plain_other c (option id) word h = tt
plain_other c positional word h = tt

flag_other : (c : List Rule) (waiting : Waiting) (word : Text) (h : Held) (o : Outcome) → IsOther (after_flag c waiting word h o).1
flag_other c waiting word h done = tt
flag_other c waiting word h (waits id) = tt
flag_other c waiting word h plain = plain_other c waiting word h
flag_other c waiting word h refused = plain_other c waiting word h

short_other : (c : List Rule) (waiting : Waiting) (word : Text) (flags : Option Text) (h : Held) → IsOther (short_or_plain c waiting word flags h).1
short_other c waiting word None h = plain_other c waiting word h
short_other c waiting word (Some flags) h = flag_other c waiting word (bundle c flags h).0 (bundle c flags h).1

long_other : (c : List Rule) (waiting : Waiting) (word : Text) (p : Option (Text × Option Text)) (h : Held) → IsOther (long_or_other c waiting word p h).1
long_other c waiting word None h = short_other c waiting word (short_of word) h
long_other c waiting word (Some p) h = flag_other c waiting word (long_met c (arg_by_long c p.0) p.1 h).0 (long_met c (arg_by_long c p.0) p.1 h).1

-- what stops at a subcommand isn't stopped at `help`
abbrev pub IsClear : Option (Text × List Text) → Type 0
IsClear None = Unit {0}
IsClear (Some p) = bytes_eq p.0 (codes "help") ≡ false

taken_on : (c : List Rule) (a : Option Rule) (word : Text) (w : Walk) (h : Held) → w.stopped ≡ None → (to_positional c a word w h).stopped ≡ None
taken_on c None word w h none = none
taken_on c (Some a) word w h none = refl

other_stays : (c : List Rule) (word : Text) (w : Walk) (h : Held) (step : Step) → w.stopped ≡ None → IsOther step → (after_step c word w h step).stopped ≡ None
other_stays c word w h (next waiting) none o = none
other_stays c word w h (trailing position) none o = none
other_stays c word w h (subcommand name) none o = absurd o
other_stays c word w h value none o = taken_on c (arg_by_index c w.position) word w h none

clear_none : (o : Option (Text × List Text)) → o ≡ None → IsClear o
clear_none None e = tt
clear_none (Some p) e = cc

-- the first of two faults is none where there is none
pub first_none : (a b : Kinds) → or_else a b ≡ [] → a ≡ []
first_none [] b e = refl
first_none (k ∷ ks) b e = cc

not_help : (s : Shape) (name word : Text) (h : Held) → s.disable_help_subcommand ≡ false → other_fault s (Some name) word h ≡ [] → bytes_eq name (codes "help") ≡ false
not_help s name word h enabled none = by_test (bytes_eq name (codes "help")) refl
  where
    by_test : (t : Bool) → bytes_eq name (codes "help") ≡ t → t ≡ false
    by_test false e = refl
    by_test true e = let met : other_fault s (Some name) word h ≡ [] = none in let bad = rw (e, enabled) at met in cc

-- one word more
met_clear : (s : Shape) (names : Names) (w : Walk) (word : Text) (met : Option Text) → s.disable_help_subcommand ≡ false → w.stopped ≡ None
    → other_fault s met word w.held ≡ []
    → IsClear (after_step s.rules word w (subcommand_or_other s.rules met w.waiting w.position word w.held).0 (subcommand_or_other s.rules met w.waiting w.position word w.held).1).stopped
met_clear s names w word (Some name) enabled none fault = not_help s name word w.held enabled fault
met_clear s names w word None enabled none fault = by_test (bytes_eq word (45 ∷ 45 ∷ [])) refl
  where
    step : Bool → Held × Step
    step b = cond b (w.held, trailing w.position) (long_or_other s.rules w.waiting word (long_of word) w.held)

    other : (b : Bool) → IsOther (step b).1
    other true = tt
    other false = long_other s.rules w.waiting word (long_of word) w.held

    by_test : (t : Bool) → bytes_eq word (45 ∷ 45 ∷ []) ≡ t → IsClear (after_step s.rules word w (step (bytes_eq word (45 ∷ 45 ∷ []))).0 (step (bytes_eq word (45 ∷ 45 ∷ []))).1).stopped
    by_test t e = clear_none _ (other_stays s.rules word w (step (bytes_eq word (45 ∷ 45 ∷ []))).0 (step (bytes_eq word (45 ∷ 45 ∷ []))).1 none (other (bytes_eq word (45 ∷ 45 ∷ []))))

turn_clear : (s : Shape) (names : Names) (w : Walk) (word : Text) (trails : Bool) → s.disable_help_subcommand ≡ false → w.stopped ≡ None → w.is_trailing ≡ trails
    → word_fault s names trails w.waiting word w.held ≡ []
    → IsClear (after_step s.rules word w (word_met s.rules names trails w.waiting w.position word w.held).0 (word_met s.rules names trails w.waiting w.position word w.held).1).stopped
turn_clear s names w word true enabled none e fault = clear_none _ (taken_on s.rules (arg_by_index s.rules w.position) word w w.held none)
turn_clear s names w word false enabled none e fault = met_clear s names w word (subcommand_met names w.waiting word) enabled none fault

step_clear : (s : Shape) (names : Names) (w : Walk) (word : Text) → s.disable_help_subcommand ≡ false → IsClear w.stopped → turn_fault s names w word ≡ []
    → IsClear (walked s.rules names w word).stopped
unfolding walked
step_clear s names w word enabled clear fault = by_stop w.stopped refl
  where
    by_stop : (o : Option (Text × List Text)) → w.stopped ≡ o → IsClear (walked_from s.rules names o w word).stopped
    by_stop (Some p) e = subst IsClear e clear
    by_stop None e =
        let here : or_else (word_fault s names w.is_trailing w.waiting word w.held) (step_fault s w.position (word_met s.rules names w.is_trailing w.waiting w.position word w.held).0 (word_met s.rules names w.is_trailing w.waiting w.position word w.held).1) ≡ [] = rw e at fault in
        turn_clear s names w word w.is_trailing enabled e refl (first_none _ _ here)

pub walk_clear : (s : Shape) (names : Names) (w : Walk) (words : List Text) → s.disable_help_subcommand ≡ false → IsClear w.stopped → walk_fault s names w words ≡ []
    → IsClear (fold (walked s.rules names) w words).stopped
unfolding walk_fault
walk_clear s names w [] enabled clear fault = clear
walk_clear s names w (word ∷ rest) enabled clear fault =
    let turn : turn_fault s names w word ≡ [] = first_none _ _ fault in
    walk_clear s names (walked s.rules names w word) rest enabled (step_clear s names w word enabled clear turn) (rest_none _ _ fault)
  where
    rest_none : (a b : Kinds) → or_else a b ≡ [] → b ≡ []
    rest_none [] b e = e
    rest_none (k ∷ ks) b e = cc
