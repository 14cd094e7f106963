-- Lemmas on commands that are obeyed in turn.
use Rattle.std.proofs.Common.{◌≡◌, ℕ, ◌+◌, ◌<◌, ◌≤◌, List, [], ◌∷◌, ◌++◌, map, length, take, drop, get_or, refl, sym, ap, ◌∙◌, subst, append_assoc, append-nil, add-one, arith}
use Rattle.std.specs.Prelude.{Option, None, Some, MatchOption, Result, Ok, Err, OnOk}
use Rattle.std.proofs.lemmas.List.{take-append-drop, drop_more, map-append, map_more, take_all}
use Rattle.std.specs.Io.KnownBytes.{Appends}
use Rattle.std.proofs.KnownBytes.{Appends-trans}
use Rattle.bench_shell.specs.Lines.{Whole}
use Rattle.lab_shell.specs.declared.manner.Manner.{Manner}
use Rattle.lab_shell.specs.declared.manner.Ended.{Ended}
use Rattle.lab_shell.specs.declared.manner.Seat.{Seat}
use Rattle.lab_shell.specs.declared.manner.Seat.TheVariants.{First, Later}
use Rattle.lab_shell.specs.Sessions.{Session}
use Rattle.lab_shell.specs.Talks.{Obeyed, InTurn, opening, closing, several}

-- where the answer stands that comes behind these
abbrev pub seat_behind : {T : Type 0} → Seat → List T → Seat
seat_behind seat [] = seat
seat_behind seat (x ∷ xs) = Later

pub later_stays : {T : Type 0} (xs : List T) → seat_behind Later xs ≡ Later
later_stays [] = refl
later_stays (x ∷ xs) = refl

pub seat_next : {T : Type 0} (xs : List T) (i : ℕ) → i < length xs → Later ≡ seat_behind First (take (i + 1) xs)
seat_next [] i lt = absurd (omega (arith, lt))
seat_next (x ∷ xs) i lt = rw add-one refl

seat_mapped : {T V : Type 0} (f : T → V) (seat : Seat) (xs : List T) → seat_behind seat xs ≡ seat_behind seat (map f xs)
seat_mapped f seat [] = refl
seat_mapped f seat (x ∷ xs) = refl

module _ (m : Manner) where
  -- what comes behind commands that went on
  abbrev Behind : Session → List (List ℕ) → List ℕ → Session → Option Ended → Option Ended → Type 0
  Behind mid ls later t stop so = MatchOption so (InTurn m Later mid ls later t stop) (λ how. (later ≡ []) × (t ≡ mid) × (stop ≡ Some how))

  behind_more : (mid u v : Session) (ks ls : List (List ℕ)) (later all : List ℕ) (stop so : Option Ended)
      → Behind mid ks later u None so → (InTurn m Later mid ks later u None → InTurn m Later mid ls all v stop) → Behind mid ls all v stop so
  behind_more mid u v ks ls later all stop None h f = f h
  behind_more mid u v ks ls later all stop (Some how) h f = let e = h.2 in absurd cc

  -- one more, and what comes behind it
  turn_more : (seat : Seat) (s u t v : Session) (ls : List (List ℕ)) (l : List ℕ) (more : List (List ℕ)) (answer x later : List ℕ) (so stop : Option Ended)
      → InTurn m seat s ls answer u None → Obeyed m (seat_behind seat ls) u (Whole l) x t so → Behind t more later v stop so → InTurn m seat s (ls ++ l ∷ more) (answer ++ (x ++ later)) v stop
  turn_more seat s u t v [] l more answer x later so stop h obeyed behind =
      (x, later, t, so, subst (λ z. Obeyed m seat z (Whole l) x t so) h.1 obeyed, ap (λ a. a ++ (x ++ later)) h.0, behind)
  turn_more seat s u t v (k ∷ ks) l more answer x later so stop h obeyed behind = (
    h.0,
    h.1 ++ (x ++ later),
    h.2,
    h.3,
    h.4,
    ap (λ a. a ++ (x ++ later)) h.5 ∙ append_assoc h.0 h.1 (x ++ later),
    behind_more h.2 u v ks (ks ++ l ∷ more) h.1 (h.1 ++ (x ++ later)) stop h.3 h.6
        (λ q. turn_more Later h.2 u t v ks l more h.1 x later so stop q (subst (λ z. Obeyed m z u (Whole l) x t so) (sym (later_stays ks)) obeyed) behind),
  )

  module _ {V : Type 0} (lines : List V) (f : V → List ℕ) where
    -- the first commands were obeyed, and wrote this
    abbrev pub FirstDone : Option (List ℕ) → Option (List ℕ) → Session → ℕ → Session → Type 0
    FirstDone writer writer' s i u = (answer : List ℕ) × Appends writer writer' answer × InTurn m First s (map f (take i lines)) answer u None

    abbrev pub OneDone : Seat → Option (List ℕ) → Option (List ℕ) → Session → List ℕ → Session → Option Ended → Type 0
    OneDone seat writer writer' u l t so = (answer : List ℕ) × Appends writer writer' answer × Obeyed m seat u (Whole l) answer t so

    -- at its seat
    seated : (seat : Seat) (i : ℕ) (u t : Session) (l answer : List ℕ) (so : Option Ended) → seat ≡ seat_behind First (take i lines) → Obeyed m seat u (Whole l) answer t so
        → Obeyed m (seat_behind First (map f (take i lines))) u (Whole l) answer t so
    seated seat i u t l answer so is obeyed = subst (λ z. Obeyed m z u (Whole l) answer t so) (is ∙ seat_mapped f First (take i lines)) obeyed

    pub goes_on : (seat : Seat) (writer writer1 writer' : Option (List ℕ)) (s u t : Session) (i : ℕ) (d : V) (l : List ℕ) (so : Option Ended) → i < length lines → l ≡ f (get_or lines i d)
        → seat ≡ seat_behind First (take i lines) → FirstDone writer writer1 s i u → OneDone seat writer1 writer' u l t so → so ≡ None → FirstDone writer writer' s (i + 1) t
    goes_on seat writer writer1 writer' s u t i d l so lt e at first one none =
        let obeyed = seated seat i u t l one.0 None at (subst (λ z. Obeyed m seat u (Whole l) one.0 t z) none one.2) in
        let all : map f (take i lines) ++ l ∷ [] ≡ map f (take (i + 1) lines) = ap (λ x. map f (take i lines) ++ x ∷ []) e ∙ sym (map_more f lines i d lt) in (
          first.0 ++ (one.0 ++ []),
          subst (λ x. Appends writer writer' (first.0 ++ x)) (sym (append-nil one.0)) (Appends-trans writer writer1 writer' first.0 one.0 first.1 one.1),
          subst (λ ls. InTurn m First s ls (first.0 ++ (one.0 ++ [])) t None) all
              (turn_more First s u t t (map f (take i lines)) l [] first.0 one.0 [] None None first.2 obeyed (refl, refl, refl)),
        )

    pub stops_at : (seat : Seat) (writer writer1 writer' : Option (List ℕ)) (s u t : Session) (i : ℕ) (d : V) (l : List ℕ) (so : Option Ended) (how : Ended) → i < length lines → l ≡ f (get_or lines i d)
        → seat ≡ seat_behind First (take i lines) → FirstDone writer writer1 s i u → OneDone seat writer1 writer' u l t so → so ≡ Some how
        → (answer : List ℕ) × Appends writer writer' answer × InTurn m First s (map f lines) answer t (Some how)
    stops_at seat writer writer1 writer' s u t i d l so how lt e at first one is =
        let obeyed = seated seat i u t l one.0 (Some how) at (subst (λ z. Obeyed m seat u (Whole l) one.0 t z) is one.2) in
        let split : take i lines ++ get_or lines i d ∷ drop (i + 1) lines ≡ lines = ap (λ x. take i lines ++ x) (sym (drop_more lines i d lt)) ∙ take-append-drop i lines in
        let all : map f (take i lines) ++ l ∷ map f (drop (i + 1) lines) ≡ map f lines =
        ap (λ x. map f (take i lines) ++ x ∷ map f (drop (i + 1) lines)) e ∙ sym (map-append f (take i lines) (get_or lines i d ∷ drop (i + 1) lines)) ∙ ap (map f) split in (
          first.0 ++ (one.0 ++ []),
          subst (λ x. Appends writer writer' (first.0 ++ x)) (sym (append-nil one.0)) (Appends-trans writer writer1 writer' first.0 one.0 first.1 one.1),
          subst (λ ls. InTurn m First s ls (first.0 ++ (one.0 ++ [])) t (Some how)) all
              (turn_more First s u t t (map f (take i lines)) l (map f (drop (i + 1) lines)) first.0 one.0 [] (Some how) (Some how) first.2 obeyed (refl, refl, refl)),
        )

    pub all_done : (writer writer' : Option (List ℕ)) (s u : Session) (i : ℕ) → length lines ≤ i → FirstDone writer writer' s i u
        → (answer : List ℕ) × Appends writer writer' answer × InTurn m First s (map f lines) answer u None
    all_done writer writer' s u i le first = (first.0, first.1, subst (λ ls. InTurn m First s (map f ls) first.0 u None) (take_all i lines le) first.2)

-- what was written for a line that stands for several
pub all_between : {E : Type 0} (m : Manner) (r : Result (Unit {0}) E) (stop : Option Ended) (writer writer1 writer2 writer' : Option (List ℕ)) (s t : Session) (ls : List (List ℕ))
    → Appends writer writer1 (opening m.voice) → ((answers : List ℕ) × Appends writer1 writer2 answers × InTurn m First s ls answers t stop)
    → OnOk r (Appends writer2 writer' (closing m.voice))
    → OnOk r ((answers : List ℕ) × Appends writer writer' (several m.voice answers) × InTurn m First s ls answers t stop)
all_between m (Ok x) stop writer writer1 writer2 writer' s t ls before told behind = (
  told.0,
  Appends-trans writer writer1 writer' _ _ before (Appends-trans writer1 writer2 writer' told.0 (closing m.voice) told.1 behind),
  told.2,
)
all_between m (Err e) stop writer writer1 writer2 writer' s t ls before told behind = tt
